-- Lexemes and texts that are statements.
use Rattle.std.proofs.Common.{◌≡◌, inl, inr, ℕ, Bool, true, false, List, [], ◌∷◌, map, Option, Some, None, Result, Ok, Err, refl, sym, ap, subst, ◌∙◌}
use Rattle.std.specs.Result.{IsErrOf}
use Rattle.hq_lex.specs.declared.token.Token.{Token}
use Rattle.hq_lex.proofs.TokenLaws.{one_cutting}
use Rattle.hq_expr.specs.State.{State}
use Rattle.hq_expr.specs.Reader.{Reads}
use Rattle.hq_expr.specs.declared.fault.ParseFault.{ParseFault}
use Rattle.hq_expr.specs.declared.fault.ParseFault.TheVariants.{Syntax}
use Rattle.hq_expr.proofs.Turns.{reads_ok}
use Rattle.hq_expr.specs.Lexemes.{IsLexed, lexeme_of, marks_alone}
use Rattle.hq_expr.specs.declared.cursor.Peek.{Peek}
use Rattle.hq_expr.specs.declared.cursor.Peek.TheVariants as p
use Rattle.hq_expr.specs.declared.lexeme.Lexeme.{Lexeme}
use Rattle.hq_expr.specs.declared.lexeme.Lexeme.TheVariants as lexeme
use Rattle.hq_expr.specs.declared.mark.Mark.TheVariants as m
use Rattle.hq_expr.proofs.Complete.{st}
use Rattle.hq_expr.proofs.Sound.{some_parts}
use Rattle.hq_sql.specs.Rules.{Spells}
use Rattle.hq_sql.specs.Reading.{read}
use Rattle.hq_sql.specs.Grammar as g
use Rattle.hq_sql.specs.Statements.{IsStatement, Parses, IsControl}
use Rattle.hq_sql.specs.declared.tree.Statement.{Statement}
use Rattle.hq_sql.specs.declared.tree.Statement.TheVariants as statement
use Rattle.hq_sql.proofs.Exact.{fits, sound, complete}
use Rattle.hq_sql.proofs.Tokens.{peeks}

pub is_end : Peek → Bool
is_end p.End = true
is_end _ = false

-- one token tells the way through every statement
pub statement_fits : fits g.statement_rule is_end ≡ true
unfolding g.statement_rule g.create g.alter g.addition g.new_column g.nullable g.insert g.select g.transaction g.snapshot g.insert_input g.tuple g.names g.insert_columns g.distinct g.head g.middle g.tail g.items g.item g.alias g.source g.more_source g.join g.from g.filter g.groups g.having g.order g.direction g.key g.keys g.limit g.column g.nullity g.distribution peeks is_end
statement_fits = refl

abbrev pub start : List Lexeme → State
start ls = st 256 ls

pub is_read : (ls : List Lexeme) (s : Statement) → IsStatement ls s → (l : ℕ) × (read g.statement_rule (start ls) ≡ Some (s, st l []))
unfolding is_end
is_read ls s h = complete g.statement_rule is_end statement_fits 256 ls [] s h refl

-- ---- what is read, and what isn't

pub whole_found : (ls : List Lexeme) (s : Statement) (t : State) → read g.statement_rule (start ls) ≡ Some (s, t) → t.rest ≡ [] → IsStatement ls s
whole_found ls s t h done = subst (λ rest. Spells g.statement_rule ls s rest) done (sound g.statement_rule (start ls) t s h)

pub none_refused : (ls : List Lexeme) → read g.statement_rule (start ls) ≡ None → (s : Statement) → IsStatement ls s → ⊥
none_refused ls h s is = let e = sym h ∙ (is_read ls s is).1 in cc

pub rest_refused : (ls : List Lexeme) (s : Statement) (t : State) → read g.statement_rule (start ls) ≡ Some (s, t) → (t.rest ≡ [] → ⊥)
    → (u : Statement) → IsStatement ls u → ⊥
rest_refused ls s t h more u is =
    let other = is_read ls u is in
    let same = some_parts s u t (st other.0 []) (sym h ∙ other.1) in
    more (ap (λ (v : State). v.rest) same.1)

reads_err : {A : Type 0} (read : Option (A × State)) (r : Result A ParseFault) (new : State) (fault : ParseFault) → Reads read r new → r ≡ Err fault → fault ≡ Syntax → read ≡ None
reads_err read r new fault h e is = rw (e, is) at h

-- what a reader that began at the first lexeme says
pub err_refused : (ls : List Lexeme) (s t : State) (r : Result Statement ParseFault) (fault : ParseFault) → s ≡ start ls → Reads (read g.statement_rule s) r t
    → r ≡ Err fault → fault ≡ Syntax → (u : Statement) → IsStatement ls u → ⊥
err_refused ls s t r fault begun h e is = none_refused ls (ap (read g.statement_rule) (sym begun) ∙ reads_err (read g.statement_rule s) r t fault h e is)

pub ok_found : (ls : List Lexeme) (s t : State) (r : Result Statement ParseFault) (x : Statement) → s ≡ start ls → Reads (read g.statement_rule s) r t
    → r ≡ Ok x → t.rest ≡ [] → IsStatement ls x
ok_found ls s t r x begun h e done = whole_found ls x t (ap (read g.statement_rule) (sym begun) ∙ reads_ok (read g.statement_rule s) r t x h e) done

pub ok_refused : (ls : List Lexeme) (s t : State) (r : Result Statement ParseFault) (x : Statement) → s ≡ start ls → Reads (read g.statement_rule s) r t
    → r ≡ Ok x → (t.rest ≡ [] → ⊥) → (u : Statement) → IsStatement ls u → ⊥
ok_refused ls s t r x begun h e more = rest_refused ls x t (ap (read g.statement_rule) (sym begun) ∙ reads_ok (read g.statement_rule s) r t x h e) more

pub one_statement : (ls : List Lexeme) (s t : Statement) → IsStatement ls s → IsStatement ls t → s ≡ t
one_statement ls s t h h' =
    let first = is_read ls s h in
    let second = is_read ls t h' in
    (some_parts s t (st first.0 []) (st second.0 []) (sym first.1 ∙ second.1)).0

-- ---- texts

pub one_lexing : (text : List ℕ) (ls ks : List Lexeme) → IsLexed text ls → IsLexed text ks → ls ≡ ks
one_lexing text ls ks h h' = sym h.2 ∙ ap (λ (ts : List Token). map (lexeme_of text) ts) (one_cutting h.1 h'.1) ∙ h'.2

pub one_reading : (text : List ℕ) (s t : Statement) → Parses text s → Parses text t → s ≡ t
one_reading text s t h h' = one_statement h.1 s t h.3 (subst (λ ls. IsStatement ls t) (one_lexing text h'.1 h.1 h'.2 h.2) h'.3)

-- the lexemes of a text are no statement
pub text_refused : (text : List ℕ) (ls : List Lexeme) → IsLexed text ls → ((s : Statement) → IsStatement ls s → ⊥) → (s : Statement) → Parses text s → ⊥
text_refused text ls lexed refused s h = refused s (subst (λ ks. IsStatement ks s) (one_lexing text h.1 ls h.2 lexed) h.3)

-- ---- transactions

pub begin_is : (ls : List Lexeme) → ls ≡ marks_alone (m.Begin ∷ []) → IsStatement ls (statement.Begin false)
unfolding g.statement_rule g.transaction g.snapshot
begin_is ls h = inr (inr (inr (inr (inl (tt, statement.Begin false, [], h, (false, tt, [], inr (refl, refl), (refl, refl), refl), refl)))))

pub snapshot_is : (ls : List Lexeme) → ls ≡ marks_alone (m.Begin ∷ m.Snapshot ∷ []) → IsStatement ls (statement.Begin true)
unfolding g.statement_rule g.transaction g.snapshot
snapshot_is ls h = inr (inr (inr (inr (inl (tt, statement.Begin true, lexeme.Mark m.Snapshot ∷ [], h, (true, tt, [], inl (tt, true, [], refl, (refl, refl), refl), (refl, refl), refl), refl)))))

pub commit_is : (ls : List Lexeme) → ls ≡ marks_alone (m.Commit ∷ []) → IsStatement ls statement.Commit
unfolding g.statement_rule g.transaction
commit_is ls h = inr (inr (inr (inr (inr (inl (tt, statement.Commit, [], h, (refl, refl), refl))))))

pub rollback_is : (ls : List Lexeme) → ls ≡ marks_alone (m.Rollback ∷ []) → IsStatement ls statement.Rollback
unfolding g.statement_rule g.transaction
rollback_is ls h = inr (inr (inr (inr (inr (inr (tt, statement.Rollback, [], h, (refl, refl), refl))))))

abbrev pub words_of : Statement → List Lexeme
words_of (statement.Begin false) = marks_alone (m.Begin ∷ [])
words_of (statement.Begin true) = marks_alone (m.Begin ∷ m.Snapshot ∷ [])
words_of statement.Commit = marks_alone (m.Commit ∷ [])
words_of statement.Rollback = marks_alone (m.Rollback ∷ [])
words_of _ = []

snapshot_words : (mid : List Lexeme) (b : Bool) → Spells g.snapshot mid b [] → lexeme.Mark m.Begin ∷ mid ≡ words_of (statement.Begin b)
unfolding g.snapshot
snapshot_words mid true (inl h) = rw (h.3, h.4.1) refl
snapshot_words mid false (inl h) = let e : true ≡ false = sym h.4.0 ∙ h.5 in cc
snapshot_words mid false (inr h) = rw h.1 refl
snapshot_words mid true (inr h) = let e : true ≡ false = h.0 in cc

begin_same : (b c : Bool) → statement.Begin b ≡ statement.Begin c → b ≡ c
begin_same b c h = cc

-- a statement of a transaction is just its words
pub control_words : (ls : List Lexeme) (s : Statement) → IsControl s → IsStatement ls s → ls ≡ words_of s
unfolding g.statement_rule g.transaction g.alter
control_words ls (statement.Begin b) c (inl h) = let e = h.5 in cc
control_words ls (statement.Begin b) c (inr (inl h)) = let e = h.4.4.5 ∙ h.4.5 ∙ h.5 in cc
control_words ls (statement.Begin b) c (inr (inr (inl h))) = let e = h.5 in cc
control_words ls (statement.Begin b) c (inr (inr (inr (inl h)))) = let e = h.5 in cc
control_words ls (statement.Begin b) c (inr (inr (inr (inr (inl h))))) =
    let same = begin_same h.4.0 b (h.4.5 ∙ h.5) in
    let end = h.4.4.1 in
    rw h.3 (snapshot_words h.2 b (subst (λ rest. Spells g.snapshot h.2 b rest) end (subst (λ x. Spells g.snapshot h.2 x h.4.2) same h.4.3)))
control_words ls (statement.Begin b) c (inr (inr (inr (inr (inr (inl h)))))) = let e = sym h.4.0 ∙ h.5 in cc
control_words ls (statement.Begin b) c (inr (inr (inr (inr (inr (inr h)))))) = let e = sym h.4.0 ∙ h.5 in cc
control_words ls statement.Commit c (inl h) = let e = h.5 in cc
control_words ls statement.Commit c (inr (inl h)) = let e = h.4.4.5 ∙ h.4.5 ∙ h.5 in cc
control_words ls statement.Commit c (inr (inr (inl h))) = let e = h.5 in cc
control_words ls statement.Commit c (inr (inr (inr (inl h)))) = let e = h.5 in cc
control_words ls statement.Commit c (inr (inr (inr (inr (inl h))))) = let e = h.4.5 ∙ h.5 in cc
control_words ls statement.Commit c (inr (inr (inr (inr (inr (inl h)))))) = rw (h.3, h.4.1) refl
control_words ls statement.Commit c (inr (inr (inr (inr (inr (inr h)))))) = let e = sym h.4.0 ∙ h.5 in cc
control_words ls statement.Rollback c (inl h) = let e = h.5 in cc
control_words ls statement.Rollback c (inr (inl h)) = let e = h.4.4.5 ∙ h.4.5 ∙ h.5 in cc
control_words ls statement.Rollback c (inr (inr (inl h))) = let e = h.5 in cc
control_words ls statement.Rollback c (inr (inr (inr (inl h)))) = let e = h.5 in cc
control_words ls statement.Rollback c (inr (inr (inr (inr (inl h))))) = let e = h.4.5 ∙ h.5 in cc
control_words ls statement.Rollback c (inr (inr (inr (inr (inr (inl h)))))) = let e = sym h.4.0 ∙ h.5 in cc
control_words ls statement.Rollback c (inr (inr (inr (inr (inr (inr h)))))) = rw (h.3, h.4.1) refl
control_words ls (statement.Create x) c h = absurd c
control_words ls (statement.Alter t x) c h = absurd c
control_words ls (statement.Insert x) c h = absurd c
control_words ls (statement.Select x) c h = absurd c

-- a text that is one of these words alone
pub control_lexed : (text : List ℕ) (s : Statement) → IsControl s → Parses text s → IsLexed text (words_of s)
control_lexed text s c h = subst (λ ls. IsLexed text ls) (control_words h.1 s c h.3) h.2

pub no_control : (text : List ℕ) → (IsLexed text (words_of (statement.Begin false)) → ⊥) → (IsLexed text (words_of (statement.Begin true)) → ⊥)
    → (IsLexed text (words_of statement.Commit) → ⊥) → (IsLexed text (words_of statement.Rollback) → ⊥) → (s : Statement) → IsControl s → Parses text s → ⊥
no_control text a b c d (statement.Begin false) is h = a (control_lexed text (statement.Begin false) is h)
no_control text a b c d (statement.Begin true) is h = b (control_lexed text (statement.Begin true) is h)
no_control text a b c d statement.Commit is h = c (control_lexed text statement.Commit is h)
no_control text a b c d statement.Rollback is h = d (control_lexed text statement.Rollback is h)
no_control text a b c d (statement.Create x) is h = absurd is
no_control text a b c d (statement.Alter t x) is h = absurd is
no_control text a b c d (statement.Insert x) is h = absurd is
no_control text a b c d (statement.Select x) is h = absurd is

pub fault_of : {T : Type 0} (f g : ParseFault) → IsErrOf {T = T} (Err f) g → f ≡ g
fault_of f g h = cc

pub as_other : {T U : Type 0} (f g : ParseFault) → IsErrOf {T = T} (Err f) g → IsErrOf {T = U} (Err f) g
as_other {U = U} f g h = ap (λ k. Err k) (fault_of f g h)
