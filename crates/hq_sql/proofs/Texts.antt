-- The function that reads a text, and the grammar.
use Rattle.std.proofs.Common.{◌≡◌, ℕ, zero, suc, ◌+◌, ◌-◌, ◌<◌, ◌≤◌, Bool, true, false, List, [], ◌∷◌, length, map, take, drop, Option, Some, None, refl, sym, ap, subst, ◌∙◌, arith}
use Rattle.std.specs.Prelude.{if◌then◌else◌}
use Rattle.std.specs.Str.{IsUtf8, is_utf8}
use Rattle.std.proofs.lemmas.Str.{is_utf8-from_IsUtf8, IsUtf8-from_is_utf8}
use Rattle.hq_lex.specs.Step.{step_at}
use Rattle.hq_lex.specs.Cut.{IsTokens, AreSlices}
use Rattle.hq_lex.specs.Cut as cut
use Rattle.hq_lex.specs.declared.step.Step.{Step}
use Rattle.hq_lex.specs.declared.step.Step.TheVariants as step
use Rattle.hq_lex.specs.declared.token.Token.{Token}
use Rattle.hq_lex.proofs.TokenLaws.{are_slices}
use Rattle.hq_expr.specs.State.{State}
use Rattle.hq_expr.specs.Lexemes.{IsLexed, IsLexedFrom, lexeme, lexeme_of}
use Rattle.hq_expr.specs.declared.lexeme.Lexeme.{Lexeme}
use Rattle.hq_expr.proofs.Texts.{lexed_end, lexed_token}
use Rattle.hq_sql.specs.Reading.{read}
use Rattle.hq_sql.specs.Grammar.{statement_rule}
use Rattle.hq_sql.specs.Statements.{IsStatement, Parses}
use Rattle.hq_sql.specs.declared.tree.Statement.{Statement}
use Rattle.hq_sql.proofs.Statements.{start, is_read, whole_found}
use Rattle.hq_sql.specs.Texts.{in_front, behind_token, lexemes_from, lexemes_in, if_done, statement_of, statement_in}

-- ---- lexemes

in_front_some : {A : Type 0} (x : A) (o : Option (List A)) (ls : List A) → in_front x o ≡ Some ls → (xs : List A) × (o ≡ Some xs) × (x ∷ xs ≡ ls)
in_front_some x (Some xs) ls h = (xs, refl, cc)
in_front_some x None ls h = cc

lexed_sound : (n : ℕ) (text : List ℕ) (at : ℕ) (ls : List Lexeme) → lexemes_from n text at ≡ Some ls → IsLexedFrom text at ls
lexed_sound zero text at ls h = cc
lexed_sound (suc n) text at ls h = go (step_at at (drop at text)) refl h (λ stop ks e. lexed_sound n text stop ks e)
  where
    go : (s : Step) → step_at at (drop at text) ≡ s → behind_token text (lexemes_from n text) s ≡ Some ls
        → ((stop : ℕ) (ks : List Lexeme) → lexemes_from n text stop ≡ Some ks → IsLexedFrom text stop ks) → IsLexedFrom text at ls
    go step.End e h again = let none : [] ≡ ls = cc in subst (λ ks. IsLexedFrom text at ks) none (lexed_end text at e)
    go (step.Fault place) e h again = cc
    go (step.Token kind start stop) e h again =
        let found = in_front_some (lexeme kind (take (stop - start) (drop start text))) (lexemes_from n text stop) ls h in
        subst (λ ks. IsLexedFrom text at ks) found.2 (lexed_token text at start stop kind (lexeme kind (take (stop - start) (drop start text))) found.0 e refl (again stop found.0 found.1))

lexed_complete : (n : ℕ) {text : List ℕ} {at : ℕ} {ts : List Token} → IsTokens text at ts → AreSlices text at ts → at ≤ length text → length text < n + at
    → lexemes_from n text at ≡ Some (map (lexeme_of text) ts)
lexed_complete zero h slices inside few = absurd (omega (arith, inside, few))
lexed_complete (suc n) (cut.end e) slices inside few = rw e refl
lexed_complete (suc n) {text = text} {at = at} (cut.token {start = start} {stop = stop} {kind = kind} {ts = ts} e rest) slices inside few =
    let behind = lexed_complete n rest slices.2 slices.1.1 (omega (arith, few, slices.0, slices.1.0)) in
    rw (e, behind) refl

lexemes_are : (text : List ℕ) (ls : List Lexeme) → IsLexed text ls → lexemes_in text ≡ Some ls
lexemes_are text ls h =
    lexed_complete (length text + 1) h.1 (are_slices (omega arith) h.1) (omega arith) (omega arith) ∙ ap Some h.2

-- ---- statements

if_done_some : (ls : List Lexeme) (s : Statement) (o : Option (Statement × State)) → read statement_rule (start ls) ≡ o → if_done o ≡ Some s → IsStatement ls s
if_done_some ls s None e h = cc
if_done_some ls s (Some (t, left)) e h = go left.rest refl h
  where
    go : (rest : List Lexeme) → left.rest ≡ rest → if_done (Some (t, record { left = left.left; rest = rest })) ≡ Some s → IsStatement ls s
    go [] done h = let same : t ≡ s = cc in subst (IsStatement ls) same (whole_found ls t left e done)
    go (l ∷ ks) done h = cc

statement_sound : (o : Option (List Lexeme)) (s : Statement) → statement_of o ≡ Some s → (ls : List Lexeme) × (o ≡ Some ls) × IsStatement ls s
statement_sound None s h = cc
statement_sound (Some ls) s h = (ls, refl, if_done_some ls s (read statement_rule (start ls)) refl h)

statement_complete : (ls : List Lexeme) (s : Statement) → IsStatement ls s → statement_of (Some ls) ≡ Some s
statement_complete ls s h = let found = is_read ls s h in rw found.1 refl

-- ---- texts

pub parses-from : (text : List ℕ) (s : Statement) → statement_in text ≡ Some s → Parses text s
parses-from text s h = go (is_utf8 text) refl h
  where
    go : (b : Bool) → is_utf8 text ≡ b → (if b then statement_of (lexemes_in text) else None) ≡ Some s → Parses text s
    go false e h = cc
    go true e h =
        let found = statement_sound (lexemes_in text) s h in
        (IsUtf8-from_is_utf8 text e, found.0, lexed_sound (length text + 1) text 0 found.0 found.1, found.2)

pub parses-to : (text : List ℕ) (s : Statement) → Parses text s → statement_in text ≡ Some s
parses-to text s h = rw (is_utf8-from_IsUtf8 text h.0, lexemes_are text h.1 h.2) (statement_complete h.1 s h.3)

pub no_statement : (text : List ℕ) → ((s : Statement) → Parses text s → ⊥) → statement_in text ≡ None
no_statement text none = go (statement_in text) refl
  where
    go : (o : Option Statement) → statement_in text ≡ o → o ≡ None
    go None e = refl
    go (Some s) e = absurd (none s (parses-from text s e))
