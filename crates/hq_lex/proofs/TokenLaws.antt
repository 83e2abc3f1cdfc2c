-- Laws of cutting, and one turn of the loop that cuts.
use Rattle.std.proofs.Common.{◌≡◌, ℕ, zero, ◌+◌, ◌-◌, ◌<◌, ◌≤◌, ◌==◌, Bool, true, false, cond, not, ◌&&◌, ◌||◌, nat_lt, slice_index, slice_index_or, List, [], ◌∷◌, ◌++◌, length, take, drop, suc, Result, Ok, Err, OnOk, Some, None, Option, refl, sym, ap, subst, ◌∙◌, append_assoc, append-nil, length-drop, arith}
use Rattle.std.proofs.lemmas.List.{drop-drop}
use Rattle.std.proofs.lemmas.Bool.{eq-eqb, ne_eqb, eqb-false, eqb-true, ltb-false}
use Rattle.std.proofs.lemmas.List.Sums.{prefix_len-le-length}
use Rattle.std.specs.Char.{is_ascii_digit}
use Rattle.std.specs.List.{prefix_len}
use Rattle.hq_lex.specs.declared.front.Class.{Class}
use Rattle.hq_lex.specs.declared.front.Class.TheVariants as class
use Rattle.hq_lex.specs.declared.token.TokenKind.TheVariants as kind
use Rattle.std.specs.declared.alloc.AllocError.{AllocError}
use Rattle.hq_lex.specs.Front.{front, gap, gap_from, closing, past, is_in, is_blank, begins_word, one_more, with_kind, sign, IsQuoted}
use Rattle.hq_lex.specs.Step.{step_at, step_behind, begun}
use Rattle.hq_lex.specs.Cut.{IsTokens, NoTokenAt, AreSlices, IsSlice}
use Rattle.hq_lex.specs.Cut as cut
use Rattle.hq_lex.specs.declared.token.TokenKind.{TokenKind}
use Rattle.hq_lex.specs.declared.token.Token.{Token}
use Rattle.hq_lex.specs.declared.step.Step.{Step}
use Rattle.hq_lex.specs.declared.step.Step.TheVariants as step

take_all : (z : List ℕ) (n : ℕ) → length z ≡ n → take n z ≡ z
take_all [] zero h = refl
take_all [] (suc n) h = absurd (omega arith)
take_all (b ∷ z) zero h = absurd (omega arith)
take_all (b ∷ z) (suc n) h = ap (λ y. b ∷ y) (take_all z n (omega arith))

-- what `&text[at..]` is
pub rest_is : (at : ℕ) (text : List ℕ) → take (length text - at) (drop at text) ≡ drop at text
rest_is at text = take_all (drop at text) (length text - at) (length-drop at text)

drop_all : (at : ℕ) (text : List ℕ) → length text ≤ at → drop at text ≡ []
drop_all at text h = empty (drop at text) (omega (arith, length-drop at text))
  where
    empty : (z : List ℕ) → length z ≡ 0 → z ≡ []
    empty [] h = refl
    empty (b ∷ z) h = absurd (omega arith)

-- at the end of the text nothing stands
pub step_past_end : (at : ℕ) (text : List ℕ) → length text ≤ at → step_at at (drop at text) ≡ step.End
unfolding step_at gap
step_past_end at text h = rw (drop_all at text h) refl

same_token : {k k' : TokenKind} {a a' b b' : ℕ} → step.Token k a b ≡ step.Token k' a' b' → (k ≡ k') × (a ≡ a') × (b ≡ b')
same_token h = (cc, cc, cc)

pub one_cutting : {text : List ℕ} {at : ℕ} {ts us : List Token} → IsTokens text at ts → IsTokens text at us → ts ≡ us
one_cutting (cut.end e) (cut.end e') = refl
one_cutting (cut.end e) (cut.token e' rest') = let q = sym e ∙ e' in cc
one_cutting (cut.token e rest) (cut.end e') = let q = sym e ∙ e' in cc
one_cutting {text = text} (cut.token {start = start} {stop = stop} {kind = kind} {ts = ts} e rest) (cut.token {start = start'} {stop = stop'} {kind = kind'} {ts = us} e' rest') =
    let same = same_token (sym e ∙ e') in
    let behind : ts ≡ us = one_cutting rest (subst (λ n. IsTokens text n us) (sym same.2) rest') in
    let k : kind ≡ kind' = same.0 in let a : start ≡ start' = same.1 in let b : stop ≡ stop' = same.2 in
    cc

pub not_both : {text : List ℕ} {at place : ℕ} {ts : List Token} → IsTokens text at ts → NoTokenAt text at place → ⊥
not_both (cut.end e) (cut.here e') = let q = sym e ∙ e' in cc
not_both (cut.end e) (cut.later e' rest') = let q = sym e ∙ e' in cc
not_both (cut.token e rest) (cut.here e') = let q = sym e ∙ e' in cc
not_both {text = text} {place = place} (cut.token e rest) (cut.later e' rest') =
    let same = same_token (sym e ∙ e') in not_both rest (subst (λ n. NoTokenAt text n place) (sym same.2) rest')

pub one_place : {text : List ℕ} {at place other : ℕ} → NoTokenAt text at place → NoTokenAt text at other → place ≡ other
one_place (cut.here e) (cut.here e') = let q = sym e ∙ e' in cc
one_place (cut.here e) (cut.later e' rest') = let q = sym e ∙ e' in cc
one_place (cut.later e rest) (cut.here e') = let q = sym e ∙ e' in cc
one_place {text = text} {other = other} (cut.later e rest) (cut.later e' rest') =
    let same = same_token (sym e ∙ e') in one_place rest (subst (λ n. NoTokenAt text n other) (sym same.2) rest')

-- ---- the loop

-- what is cut so far, and what is said of the rest is said of the whole
pub token_more : (text : List ℕ) (at : ℕ) (out out' : List Token) (t : Token) (ts : List Token)
    → ((ts : List Token) → IsTokens text at ts → IsTokens text 0 (out ++ ts)) → out' ≡ out ++ t ∷ []
    → step_at at (drop at text) ≡ step.Token t.kind t.start t.end
    → IsTokens text t.end ts → IsTokens text 0 (out' ++ ts)
token_more text at out out' t ts more e found h = rw (e, append_assoc) (more (t ∷ ts) (cut.token found h))

pub ended : (text : List ℕ) (at : ℕ) (out : List Token) → ((ts : List Token) → IsTokens text at ts → IsTokens text 0 (out ++ ts))
    → step_at at (drop at text) ≡ step.End → IsTokens text 0 out
ended text at out more e = subst (λ ts. IsTokens text 0 ts) (append-nil out) (more [] (cut.end e))

pub on_ok : {P : Type 0} (r : Result (Unit {0}) AllocError) → OnOk r P → r ≡ Ok tt → P
on_ok {P = P} (Ok x) h e = h
on_ok {P = P} (Err x) h e = cc

-- ---- one step

module _ (text : List ℕ) (at g : ℕ) (is : g ≡ gap (drop at text)) (inside : at ≤ length text) where
  pub step_end : at + g ≡ length text → step_at at (drop at text) ≡ step.End
  unfolding step_at
  step_end h =
      let all : gap (drop at text) ≡ length (drop at text) = omega (arith, length-drop at text) in
      rw (eq-eqb (gap (drop at text)) (length (drop at text)) all) refl

  behind : (at + g ≡ length text → ⊥) → step_at at (drop at text) ≡ begun (at + g) (front (drop (at + g) text))
  unfolding step_at
  behind h =
      let more : gap (drop at text) ≡ length (drop at text) → ⊥ = λ e. h (omega (arith, length-drop at text)) in
      rw (ne_eqb (gap (drop at text)) (length (drop at text)) more, ← is, drop-drop g at text) refl

  pub step_token : (kind : TokenKind) (len : ℕ) → (at + g ≡ length text → ⊥) → Some (kind, len) ≡ front (take (length text - (at + g)) (drop (at + g) text))
      → step.Token kind (at + g) (at + g + len) ≡ step_at at (drop at text)
  step_token kind len h found = sym (behind h ∙ ap (begun (at + g)) (ap front (sym (rest_is (at + g) text)) ∙ sym found))

  pub step_fault : (at + g ≡ length text → ⊥) → None ≡ front (take (length text - (at + g)) (drop (at + g) text))
      → step.Fault (at + g) ≡ step_at at (drop at text)
  step_fault h found = sym (behind h ∙ ap (begun (at + g)) (ap front (sym (rest_is (at + g) text)) ∙ sym found))

pub gap_rest : (at : ℕ) (text : List ℕ) (g : ℕ) → g ≡ gap (take (length text - at) (drop at text)) → g ≡ gap (drop at text)
gap_rest at text g e = e ∙ ap gap (rest_is at text)

-- ---- slices

pick : {A : Type 0} (b : Bool) (x y w : A) (P : Type 0) → (b ≡ true → x ≡ w → P) → (b ≡ false → y ≡ w → P) → cond b x y ≡ w → P
pick true x y w P at_true at_false h = at_true refl h
pick false x y w P at_true at_false h = at_false refl h

cond_le : (b : Bool) (x y n : ℕ) → x ≤ n → y ≤ n → cond b x y ≤ n
cond_le true x y n h h' = h
cond_le false x y n h h' = h'

gap_le : (flag : Bool) (at : ℕ) (z : List ℕ) → gap_from flag at z ≤ at + length z
gap_le flag at [] = omega arith
gap_le true at (b ∷ z) = omega (arith, gap_le (not (b == 10)) (at + 1) z)
gap_le false at (b ∷ z) =
    cond_le (is_blank b) _ _ (at + length (b ∷ z)) (omega (arith, gap_le false (at + 1) z))
    (cond_le (b == 45 && slice_index z 0 == 45) _ _ (at + length (b ∷ z)) (omega (arith, gap_le true (at + 1) z)) (omega arith))

closing_within : (flag : Bool) (at : ℕ) (z : List ℕ) (end : ℕ) → closing flag at z ≡ Some end → (at < end) × (end ≤ at + length z)
closing_within flag at [] end h = cc
closing_within true at (b ∷ z) end h = let below = closing_within false (at + 1) z end h in (omega (arith, below.0), omega (arith, below.1))
closing_within false at (b ∷ z) end h =
    pick (b == 39 && not (slice_index z 0 == 39)) (Some (at + 1)) (closing (b == 39) (at + 1) z) (Some end) ((at < end) × (end ≤ at + length (b ∷ z)))
    (λ _ e. let same : at + 1 ≡ end = cc in (omega (arith, same), omega (arith, same)))
    (λ _ e. let below = closing_within (b == 39) (at + 1) z end e in (omega (arith, below.0), omega (arith, below.1))) h

abbrev Within : List ℕ → ℕ → Type 0
Within z n = (0 < n) × (n ≤ length z)

pair_len : {k k' : TokenKind} {m n : ℕ} → ◌≡◌ {A = Option (TokenKind × ℕ)} (Some (k, m)) (Some (k', n)) → m ≡ n
pair_len {k = k} {k' = k'} {m = m} {n = n} h = let q : ◌≡◌ {A = TokenKind × ℕ} (k, m) (k', n) = cc in ap (λ (p : TokenKind × ℕ). p.1) q

-- a run of a class from the second byte on
run_within : (class : Class) (k k' : TokenKind) (n b : ℕ) (z : List ℕ) → ◌≡◌ {A = Option (TokenKind × ℕ)} (Some (k, past class (b ∷ z) 1)) (Some (k', n)) → Within (b ∷ z) n
run_within class k k' n b z h =
    let e : past class (b ∷ z) 1 ≡ n = pair_len h in
    let l : prefix_len (is_in class) z ≤ length z = prefix_len-le-length (is_in class) z in
    (omega (arith, e), omega (arith, e, l))

text_within : (o : Option ℕ) (k : TokenKind) (n b : ℕ) (z : List ℕ) → ((end : ℕ) → o ≡ Some end → (0 < end) × (end ≤ length z))
    → with_kind kind.Text (one_more o) ≡ Some (k, n) → Within (b ∷ z) n
text_within (Some end) k n b z within h =
    let e : end + 1 ≡ n = pair_len h in let l = within end refl in (omega (arith, e), omega (arith, e, l.1))
text_within None k n b z within h = cc

sign_within : (len : ℕ) (k : TokenKind) (n : ℕ) (z : List ℕ) → cond {A = Option (TokenKind × ℕ)} (len == 0 || nat_lt (length z) len) None (Some (kind.Sign, len)) ≡ Some (k, n) → Within z n
sign_within len k n z h =
    pick (len == 0 || nat_lt (length z) len) None (Some (kind.Sign, len)) (Some (k, n)) (Within z n) (λ _ e. cc)
    (λ e e'. let same : len ≡ n = pair_len e' in
    let some : len == 0 ≡ false = or_left (len == 0) (nat_lt (length z) len) e in
    let fits : nat_lt (length z) len ≡ false = or_right (len == 0) (nat_lt (length z) len) e in
    let not_none : len ≡ 0 → ⊥ = eqb-false len 0 some in
    let short : len ≤ length z = ltb-false (length z) len fits in
    (omega (arith, same, not_none), omega (arith, same, short))) h
  where
    or_left : (a b : Bool) → (a || b) ≡ false → a ≡ false
    or_left true b h = cc
    or_left false b h = refl

    or_right : (a b : Bool) → (a || b) ≡ false → b ≡ false
    or_right true b h = cc
    or_right false b h = h

front_within : (z : List ℕ) (k : TokenKind) (n : ℕ) → front z ≡ Some (k, n) → Within z n
unfolding front
front_within [] k n h = cc
front_within (b ∷ z) k n h =
    pick (begins_word b) _ _ (Some (k, n)) (Within (b ∷ z) n) (λ _ e. run_within class.Word kind.Word k n b z e)
    (λ _ e. pick (is_ascii_digit b) _ _ (Some (k, n)) (Within (b ∷ z) n)
    (λ _ e'. pick (begins_word (slice_index (b ∷ z) (past class.Digit (b ∷ z) 1))) None (Some (kind.Digits, past class.Digit (b ∷ z) 1)) (Some (k, n)) (Within (b ∷ z) n)
    (λ _ f. cc) (λ _ f. run_within class.Digit kind.Digits k n b z f) e')
    (λ _ e'. pick (b == 39) _ _ (Some (k, n)) (Within (b ∷ z) n)
    (λ _ f. text_within (closing false 0 z) k n b z (λ end o. let w = closing_within false 0 z end o in (w.0, omega (arith, w.1))) f)
    (λ _ f. sign_within (sign b (slice_index (b ∷ z) 1)) k n (b ∷ z) f) e') e) h

step_opens : (at : ℕ) (rest : List ℕ) (s : Step) → step_at at rest ≡ s → step_behind at rest (gap rest) (gap rest == length rest) ≡ s
unfolding step_at
step_opens at rest s h = h

gap_short : (z : List ℕ) → gap z ≤ length z
unfolding gap
gap_short z = omega (arith, gap_le false 0 z)

-- what a step that finds a token says
pub step_found : (at : ℕ) (text : List ℕ) (k : TokenKind) (start stop : ℕ) → at ≤ length text → step_at at (drop at text) ≡ step.Token k start stop
    → (at ≤ start) × (start < stop) × (stop ≤ length text) × (front (drop start text) ≡ Some (k, stop - start))
step_found at text k start stop inside h = go (gap (drop at text) == length (drop at text)) (step_opens at (drop at text) _ h)
  where
    gap_within : gap (drop at text) ≤ length (drop at text)
    gap_within = gap_short (drop at text)

    found : (o : Option (TokenKind × ℕ)) → front (drop (at + gap (drop at text)) text) ≡ o → begun (at + gap (drop at text)) o ≡ step.Token k start stop
        → (at ≤ start) × (start < stop) × (stop ≤ length text) × (front (drop start text) ≡ Some (k, stop - start))
    found None is e = cc
    found (Some t) is e =
        let same = same_token e in
        let within = front_within (drop (at + gap (drop at text)) text) t.0 t.1 is in
        let len : t.1 ≡ stop - start = omega (arith, same.1, same.2) in
        let kind_is : t.0 ≡ k = same.0 in
        let reads : front (drop start text) ≡ Some t = rw (← same.1) is in
        let shape : ◌≡◌ {A = Option (TokenKind × ℕ)} (Some t) (Some (k, stop - start)) = ap (λ (y : TokenKind). Some (y, t.1)) kind_is ∙ ap (λ (m : ℕ). Some (k, m)) len in (
          omega (arith, same.1),
          omega (arith, same.1, same.2, within.0),
          omega (arith, same.1, same.2, within.1, gap_within, length-drop at text, length-drop (at + gap (drop at text)) text),
          reads ∙ shape,
        )

    go : (b : Bool) → step_behind at (drop at text) (gap (drop at text)) b ≡ step.Token k start stop
        → (at ≤ start) × (start < stop) × (stop ≤ length text) × (front (drop start text) ≡ Some (k, stop - start))
    go true h = cc
    go false h = found (front (drop (at + gap (drop at text)) text)) refl
        (ap (λ z. begun (at + gap (drop at text)) (front z)) (sym (drop-drop (gap (drop at text)) at text)) ∙ h)

pub are_slices : {text : List ℕ} {at : ℕ} {ts : List Token} → at ≤ length text → IsTokens text at ts → AreSlices text at ts
are_slices inside (cut.end e) = tt
are_slices {text = text} {at = at} inside (cut.token {start = start} {stop = stop} {kind = kind} e rest) =
    let found = step_found at text kind start stop inside e in
    (found.0, (found.1, found.2, found.3), are_slices found.2 rest)

-- ---- the quotes of a text

and_left : (a b : Bool) → (a && b) ≡ true → a ≡ true
and_left true b h = refl
and_left false b h = cc

-- a text ends with a quote
closing_quote : (flag : Bool) (at : ℕ) (z : List ℕ) (end m : ℕ) → closing flag at z ≡ Some end → end ≡ at + (m + 1) → slice_index z m ≡ 39
closing_quote flag at [] end m h e = cc
closing_quote true at (b ∷ z) end zero h e = absurd (omega (arith, closing_within false (at + 1) z end h))
closing_quote true at (b ∷ z) end (suc m) h e = closing_quote false (at + 1) z end m h (omega arith)
closing_quote false at (b ∷ z) end zero h e =
    pick (b == 39 && not (slice_index z 0 == 39)) (Some (at + 1)) (closing (b == 39) (at + 1) z) (Some end) (b ≡ 39)
    (λ t _. eqb-true b 39 (and_left (b == 39) (not (slice_index z 0 == 39)) t))
    (λ _ f. absurd (omega (arith, closing_within (b == 39) (at + 1) z end f))) h
closing_quote false at (b ∷ z) end (suc m) h e =
    pick (b == 39 && not (slice_index z 0 == 39)) (Some (at + 1)) (closing (b == 39) (at + 1) z) (Some end) (slice_index z m ≡ 39)
    (λ _ f. let same : at + 1 ≡ end = cc in absurd (omega (arith, same)))
    (λ _ f. closing_quote (b == 39) (at + 1) z end m f (omega arith)) h

kind_is_text : {k : TokenKind} {m n : ℕ} → ◌≡◌ {A = Option (TokenKind × ℕ)} (Some (k, m)) (Some (kind.Text, n)) → k ≡ kind.Text
kind_is_text {k = k} {m = m} {n = n} h = let q : ◌≡◌ {A = TokenKind × ℕ} (k, m) (kind.Text, n) = cc in ap (λ (p : TokenKind × ℕ). p.0) q

quoted_by : (o : Option ℕ) (n b : ℕ) (z : List ℕ) → closing false 0 z ≡ o → b ≡ 39 → with_kind kind.Text (one_more o) ≡ Some (kind.Text, n) → IsQuoted (b ∷ z) n
quoted_by None n b z is quote h = cc
quoted_by (Some zero) n b z is quote h = absurd (omega (arith, closing_within false 0 z zero is))
quoted_by (Some (suc m)) n b z is quote h =
    let e : suc m + 1 ≡ n = pair_len h in
    let l = closing_within false 0 z (suc m) is in
    let last : slice_index z m ≡ 39 = closing_quote false 0 z (suc m) m is (omega arith) in
    let place : n - 1 ≡ suc m = omega (arith, e) in
    record { long = omega (arith, e); within = omega (arith, e, l.1); first = quote; last = rw place last }

-- a text begins and ends with a quote
pub text_is_quoted : (z : List ℕ) (n : ℕ) → front z ≡ Some (kind.Text, n) → IsQuoted z n
unfolding front
text_is_quoted [] n h = cc
text_is_quoted (b ∷ z) n h =
    pick (begins_word b) _ _ (Some (kind.Text, n)) (IsQuoted (b ∷ z) n) (λ _ e. let k : kind.Word ≡ kind.Text = kind_is_text e in cc)
    (λ _ e. pick (is_ascii_digit b) _ _ (Some (kind.Text, n)) (IsQuoted (b ∷ z) n)
    (λ _ e'. pick (begins_word (slice_index (b ∷ z) (past class.Digit (b ∷ z) 1))) None (Some (kind.Digits, past class.Digit (b ∷ z) 1)) (Some (kind.Text, n)) (IsQuoted (b ∷ z) n)
    (λ _ f. cc) (λ _ f. let k : kind.Digits ≡ kind.Text = kind_is_text f in cc) e')
    (λ _ e'. pick (b == 39) _ _ (Some (kind.Text, n)) (IsQuoted (b ∷ z) n)
    (λ q f. quoted_by (closing false 0 z) n b z refl (eqb-true b 39 q) f)
    (λ _ f. no_sign (sign b (slice_index (b ∷ z) 1)) f) e') e) h
  where
    no_sign : (len : ℕ) → cond {A = Option (TokenKind × ℕ)} (len == 0 || nat_lt (length (b ∷ z)) len) None (Some (kind.Sign, len)) ≡ Some (kind.Text, n) → IsQuoted (b ∷ z) n
    no_sign len f =
        pick (len == 0 || nat_lt (length (b ∷ z)) len) None (Some (kind.Sign, len)) (Some (kind.Text, n)) (IsQuoted (b ∷ z) n) (λ _ g. cc)
        (λ _ g. let k : kind.Sign ≡ kind.Text = kind_is_text g in cc) f

-- one of the slices
pub slice_at : (text : List ℕ) (at : ℕ) (ts : List Token) (i : ℕ) (d : Token) → AreSlices text at ts → i < length ts → IsSlice text (slice_index_or ts i d)
slice_at text at [] i d h l = absurd (omega arith)
slice_at text at (t ∷ ts) zero d h l = h.1
slice_at text at (t ∷ ts) (suc i) d h l = slice_at text t.end ts i d h.2 (omega arith)
