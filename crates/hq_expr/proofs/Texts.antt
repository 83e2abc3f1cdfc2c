-- Texts and their lexemes.
use Rattle.std.proofs.Common.{◌≡◌, ℕ, ◌+◌, ◌-◌, ◌*◌, ◌^◌, ◌<◌, ◌≤◌, Bool, true, false, cond, nat_le, min, List, [], ◌∷◌, ◌++◌, length, map, take, drop, Option, Some, None, refl, sym, ap, subst, ◌∙◌, append_assoc, append-nil, drop-cons, add-one, length-drop, slice_index_or, rules, arith}
use denote.Enum.Bare.{same_true, same_false}
use Rattle.std.specs.Bool.{OnTrue, OnFalse}
use Rattle.hq_expr.specs.contracts.mark.Mark.{the_type}
use Rattle.hq_lex.specs.Step.{step_at}
use Rattle.hq_lex.specs.Cut.{IsTokens}
use Rattle.hq_lex.specs.Cut as cut
use Rattle.hq_lex.specs.declared.step.Step.TheVariants as step
use Rattle.hq_lex.specs.declared.token.Token.{Token}
use Rattle.hq_lex.specs.declared.token.TokenKind.{TokenKind}
use Rattle.hq_lex.proofs.TokenLaws.{one_cutting}
use Rattle.hq_expr.specs.Lexemes.{lexeme, lexeme_of, IsLexedFrom, IsLexed, Passes, by_mark, or_long, mark_in, is_mark, marks_alone}
use Rattle.hq_expr.specs.declared.lexeme.Lexeme.{Lexeme}
use Rattle.hq_expr.specs.declared.lexeme.Lexeme.TheVariants as lexeme_kind
use Rattle.hq_expr.specs.declared.mark.Mark.{Mark}

abbrev pub slice : List ℕ → ℕ → ℕ → List ℕ
slice text start stop = take (stop - start) (drop start text)

pub lexed_end : (text : List ℕ) (at : ℕ) → step_at at (drop at text) ≡ step.End → IsLexedFrom text at []
lexed_end text at e = ([], cut.end e, refl)

pub lexed_token : (text : List ℕ) (at start stop : ℕ) (kind : TokenKind) (l : Lexeme) (ls : List Lexeme) → step_at at (drop at text) ≡ step.Token kind start stop
    → lexeme kind (slice text start stop) ≡ l → IsLexedFrom text stop ls → IsLexedFrom text at (l ∷ ls)
lexed_token text at start stop kind l ls e is h =
    let t : Token = record { kind = kind; start = start; end = stop } in
    (t ∷ h.0, cut.token e h.1, ap (λ x. x ∷ map (lexeme_of text) h.0) is ∙ ap (λ xs. l ∷ xs) h.2)

pub end_lexed : (text : List ℕ) (at : ℕ) (ls : List Lexeme) → step_at at (drop at text) ≡ step.End → IsLexedFrom text at ls → ls ≡ []
end_lexed text at ls e h = go h.0 h.1 h.2
  where
    go : (ts : List Token) → IsTokens text at ts → map (lexeme_of text) ts ≡ ls → ls ≡ []
    go ts (cut.end e') is = sym is
    go ts (cut.token e' rest) is = let q = sym e ∙ e' in cc

pub fault_lexed : (text : List ℕ) (at place : ℕ) (ls : List Lexeme) → step_at at (drop at text) ≡ step.Fault place → IsLexedFrom text at ls → ⊥
fault_lexed text at place ls e h = go h.0 h.1
  where
    go : (ts : List Token) → IsTokens text at ts → ⊥
    go ts (cut.end e') = let q = sym e ∙ e' in cc
    go ts (cut.token e' rest) = let q = sym e ∙ e' in cc

pub record FoundToken (text : List ℕ) (stop : ℕ) (first : Lexeme) (ls : List Lexeme) : Type 0 where
  pub rest : List Lexeme
  pub is : ls ≡ first ∷ rest
  pub lexed : IsLexedFrom text stop rest

same_step : {k k' : TokenKind} {a a' b b' : ℕ} → step.Token k a b ≡ step.Token k' a' b' → (k ≡ k') × (a ≡ a') × (b ≡ b')
same_step h = (cc, cc, cc)

pub token_lexed : (text : List ℕ) (at start stop : ℕ) (kind : TokenKind) (ls : List Lexeme) → step_at at (drop at text) ≡ step.Token kind start stop
    → IsLexedFrom text at ls → FoundToken text stop (lexeme kind (slice text start stop)) ls
token_lexed text at start stop kind ls e h = go h.0 h.1 h.2
  where
    go : (ts : List Token) → IsTokens text at ts → map (lexeme_of text) ts ≡ ls → FoundToken text stop (lexeme kind (slice text start stop)) ls
    go ts (cut.end e') is = let q = sym e ∙ e' in cc
    go ts (cut.token {start = a} {stop = b} {kind = k} {ts = us} e' rest) is =
        let same = same_step (sym e ∙ e') in
        record {
          rest = map (lexeme_of text) us;
          is = sym is ∙ ap (λ x. x ∷ map (lexeme_of text) us) (ap (λ x. lexeme x (slice text a b)) (sym same.0) ∙ ap (λ x. lexeme kind (slice text x b)) (sym same.1) ∙ ap (λ x. lexeme kind (slice text start x)) (sym same.2));
          lexed = (us, subst (λ n. IsTokens text n us) (sym same.2) rest, refl);
        }

pub one_lexing : (text : List ℕ) (ls us : List Lexeme) → IsLexed text ls → IsLexed text us → ls ≡ us
one_lexing text ls us h h' = sym h.2 ∙ ap (λ ts. map (lexeme_of text) ts) (one_cutting h.1 h'.1) ∙ h'.2

-- ---- the loop

-- what is said of the rest is said of the whole, one lexeme further
pub lexed_more : (text : List ℕ) (at start stop : ℕ) (kind : TokenKind) (out out' : List Lexeme) (l : Lexeme) (ls : List Lexeme)
    → ((ls : List Lexeme) → IsLexedFrom text at ls → IsLexed text (out ++ ls)) → out' ≡ out ++ l ∷ [] → step_at at (drop at text) ≡ step.Token kind start stop
    → l ≡ lexeme kind (slice text start stop) → IsLexedFrom text stop ls → IsLexed text (out' ++ ls)
lexed_more text at start stop kind out out' l ls more e found is h = rw (e, append_assoc) (more (l ∷ ls) (lexed_token text at start stop kind l ls found (sym is) h))

pub lexed_all : (text : List ℕ) (at : ℕ) (out : List Lexeme) → ((ls : List Lexeme) → IsLexedFrom text at ls → IsLexed text (out ++ ls))
    → step_at at (drop at text) ≡ step.End → IsLexed text out
lexed_all text at out more e = subst (λ ls. IsLexed text ls) (append-nil out) (more [] (lexed_end text at e))

-- ---- marks

pub word_mark : (o : Option Mark) (w : List ℕ) → mark_in (by_mark o w) ≡ o
word_mark (Some mark) w = refl
word_mark None w = go (nat_le (length w) 63)
  where
    go : (b : Bool) → mark_in (cond b (lexeme_kind.Name w) lexeme_kind.Long) ≡ None
    go true = refl
    go false = refl

pub sign_mark : (o : Option Mark) → mark_in (or_long o) ≡ o
sign_mark (Some mark) = refl
sign_mark None = refl

pub mark_is : (l : Lexeme) (mark : Mark) → mark_in l ≡ Some mark → l ≡ lexeme_kind.Mark mark
mark_is (lexeme_kind.Mark found) mark h = ap (λ x. lexeme_kind.Mark x) cc
mark_is (lexeme_kind.Name _) mark h = cc
mark_is (lexeme_kind.Digits _) mark h = cc
mark_is (lexeme_kind.Text _) mark h = cc
mark_is lexeme_kind.Long mark h = cc

pub no_mark_at_end : (text : List ℕ) (at : ℕ) (mark : Mark) (ls : List Lexeme) → step_at at (drop at text) ≡ step.End → IsLexedFrom text at (lexeme_kind.Mark mark ∷ ls) → ⊥
no_mark_at_end text at mark ls e h = let q = end_lexed text at (lexeme_kind.Mark mark ∷ ls) e h in cc

pub no_end_at_token : (text : List ℕ) (at start stop : ℕ) (kind : TokenKind) → step_at at (drop at text) ≡ step.Token kind start stop → IsLexedFrom text at [] → ⊥
no_end_at_token text at start stop kind e h = let q = (token_lexed text at start stop kind [] e h).is in cc

same_mark : (l : Lexeme) (mark : Mark) (o : Option Mark) → mark_in l ≡ o → is_mark mark o ≡ true → l ≡ lexeme_kind.Mark mark
same_mark l mark (Some found) is h = let e : found ≡ mark = same_true the_type (search rules) _ _ h in mark_is l mark (is ∙ ap (λ x. Some x) e)
same_mark l mark None is h = cc

rest_same : (x y : Lexeme) (xs ys : List Lexeme) → x ∷ xs ≡ y ∷ ys → ys ≡ xs
rest_same x y xs ys h = cc

pub mark_passes : (text : List ℕ) (at start stop : ℕ) (kind : TokenKind) (mark : Mark) → step_at at (drop at text) ≡ step.Token kind start stop → stop ≤ length text
    → is_mark mark (mark_in (lexeme kind (slice text start stop))) ≡ true → Passes text at mark stop
mark_passes text at start stop kind mark e le is =
    let l : lexeme kind (slice text start stop) ≡ lexeme_kind.Mark mark = same_mark (lexeme kind (slice text start stop)) mark (mark_in (lexeme kind (slice text start stop))) refl is in
    record { within = le; on = λ ls h. lexed_token text at start stop kind (lexeme_kind.Mark mark) ls e l h; back = λ ls h. back ls (token_lexed text at start stop kind (lexeme_kind.Mark mark ∷ ls) e h) }
  where
    back : (ls : List Lexeme) → FoundToken text stop (lexeme kind (slice text start stop)) (lexeme_kind.Mark mark ∷ ls) → IsLexedFrom text stop ls
    back ls found = let same : found.rest ≡ ls = rest_same _ _ _ _ found.is in subst (λ xs. IsLexedFrom text stop xs) same found.lexed

pub mark_refused : (text : List ℕ) (at start stop : ℕ) (kind : TokenKind) (mark : Mark) → step_at at (drop at text) ≡ step.Token kind start stop
    → is_mark mark (mark_in (lexeme kind (slice text start stop))) ≡ false → (ls : List Lexeme) → IsLexedFrom text at (lexeme_kind.Mark mark ∷ ls) → ⊥
mark_refused text at start stop kind mark e is ls h =
    let found = token_lexed text at start stop kind (lexeme_kind.Mark mark ∷ ls) e h in
    let first : lexeme_kind.Mark mark ≡ lexeme kind (slice text start stop) = first_same _ _ _ _ found.is in
    let same : is_mark mark (Some mark) ≡ false = ap (λ l. is_mark mark (mark_in l)) first ∙ is in
    same_false the_type mark mark same refl
  where
    first_same : (x y : Lexeme) (xs ys : List Lexeme) → x ∷ xs ≡ y ∷ ys → x ≡ y
    first_same x y xs ys h = cc

-- ---- one turn over marks

marks_next : (marks : List Mark) (i : ℕ) (d : Mark) → i < length marks
    → marks_alone (drop i marks) ≡ lexeme_kind.Mark (slice_index_or marks i d) ∷ marks_alone (drop (i + 1) marks)
marks_next marks i d h = rw (add-one, drop-cons marks i d h) refl

pub marks_on : (text : List ℕ) (at end : ℕ) (marks : List Mark) (i : ℕ) (d : Mark) → i < length marks → Passes text at (slice_index_or marks i d) end
    → (IsLexedFrom text at (marks_alone (drop i marks)) → IsLexed text (marks_alone marks))
    → IsLexedFrom text end (marks_alone (drop (i + 1) marks)) → IsLexed text (marks_alone marks)
marks_on text at end marks i d lt passes on h =
    on (subst (λ ls. IsLexedFrom text at ls) (sym (marks_next marks i d lt)) (passes.on (marks_alone (drop (i + 1) marks)) h))

pub marks_back : (text : List ℕ) (at end : ℕ) (marks : List Mark) (i : ℕ) (d : Mark) → i < length marks → Passes text at (slice_index_or marks i d) end
    → (IsLexed text (marks_alone marks) → IsLexedFrom text at (marks_alone (drop i marks)))
    → IsLexed text (marks_alone marks) → IsLexedFrom text end (marks_alone (drop (i + 1) marks))
marks_back text at end marks i d lt passes back h =
    passes.back (marks_alone (drop (i + 1) marks)) (subst (λ ls. IsLexedFrom text at ls) (marks_next marks i d lt) (back h))

pub marks_none : (text : List ℕ) (at : ℕ) (marks : List Mark) (i : ℕ) (d : Mark) → i < length marks
    → ((ls : List Lexeme) → IsLexedFrom text at (lexeme_kind.Mark (slice_index_or marks i d) ∷ ls) → ⊥)
    → (IsLexed text (marks_alone marks) → IsLexedFrom text at (marks_alone (drop i marks))) → IsLexed text (marks_alone marks) → ⊥
marks_none text at marks i d lt none back h =
    none (marks_alone (drop (i + 1) marks)) (subst (λ ls. IsLexedFrom text at ls) (marks_next marks i d lt) (back h))

all_passed : (marks : List Mark) (i : ℕ) → length marks ≤ i → marks_alone (drop i marks) ≡ []
all_passed marks i h = rw (nothing (drop i marks) (omega (arith, length-drop i marks))) refl
  where
    nothing : (xs : List Mark) → length xs ≡ 0 → xs ≡ []
    nothing [] e = refl
    nothing (x ∷ xs) e = absurd (omega arith)

pub marks_yes : (text : List ℕ) (at : ℕ) (marks : List Mark) (i : ℕ) (b : Bool) → length marks ≤ i → OnTrue b (IsLexedFrom text at [])
    → (IsLexedFrom text at (marks_alone (drop i marks)) → IsLexed text (marks_alone marks)) → OnTrue b (IsLexed text (marks_alone marks))
marks_yes text at marks i true le h on = on (subst (λ ls. IsLexedFrom text at ls) (sym (all_passed marks i le)) h)
marks_yes text at marks i false le h on = h

pub marks_no : (text : List ℕ) (at : ℕ) (marks : List Mark) (i : ℕ) (b : Bool) → length marks ≤ i → OnFalse b (IsLexedFrom text at [] → ⊥)
    → (IsLexed text (marks_alone marks) → IsLexedFrom text at (marks_alone (drop i marks))) → OnFalse b (IsLexed text (marks_alone marks) → ⊥)
marks_no text at marks i true le h back = h
marks_no text at marks i false le h back = λ all. h (subst (λ ls. IsLexedFrom text at ls) (all_passed marks i le) (back all))
