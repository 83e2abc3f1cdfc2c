-- A rule is read exactly where it is spelled, where one token tells which way to go.
--     fits rule follows       one token tells it, where what follows the rule passes the test
--     sound                   what is read is spelled
--     complete                what is spelled is read
use Rattle.std.proofs.Common.{◌≡◌, ◌⊎◌, inl, inr, ℕ, zero, suc, ◌+◌, ◌^◌, ◌<◌, ◌≤◌, Bool, true, false, not, ◌&&◌, ◌||◌, List, [], ◌∷◌, ◌++◌, length, Some, None, Option, refl, sym, ap, subst, ◌∙◌, append_assoc, arith, ltb-true, lt-ltb}
use Rattle.std.specs.Prelude.{is_some, nat_lt}
use Rattle.std.specs.List.{list_all}
use Rattle.std.proofs.lemmas.List.{append-nil}
use Rattle.hq_expr.specs.State.{State}
use Rattle.hq_expr.specs.Reader.{Parser, peek, sees, pure, refuse, skip, next, skipped, digits, ◌>>=◌, ◌>>◌, and_then}
use Rattle.hq_expr.specs.Reader as r
use Rattle.hq_expr.specs.Grammar.{SpellsRef}
use Rattle.hq_expr.specs.Grammar as g
use Rattle.hq_expr.specs.Whole.{ends_expr}
use Rattle.hq_expr.specs.Lists.{Listed, list}
use Rattle.hq_expr.specs.Lists as lists
use Rattle.hq_expr.specs.declared.cursor.Peek.{Peek}
use Rattle.hq_expr.specs.declared.cursor.Peek.TheVariants as p
use Rattle.hq_expr.specs.declared.lexeme.Lexeme.{Lexeme}
use Rattle.hq_expr.specs.declared.lexeme.Lexeme.TheVariants as lexeme
use Rattle.hq_expr.specs.declared.mark.Mark.{Mark as MarkType}
use Rattle.hq_expr.specs.declared.mark.Mark.TheVariants as m
use Rattle.hq_expr.proofs.Complete.{st, begins_no_rule}
use Rattle.hq_expr.proofs.Sound.{bind_some, some_parts, if_some, expected}
use Rattle.hq_expr.proofs.ListLemmas as l
use Rattle.hq_expr.proofs.Parts.{item_sound, cond_sound, value_sound, ref_sound, item_complete, cond_complete, value_complete, ref_complete, part_shrinks, value_shrinks, ref_shrinks, part_front}
use Rattle.hq_sql.specs.Rules.{Rule, nothing, mark, one_of, name, number, reference, value, sum, condition, both, either, listed, repeated, only, Spells, Repeated}
use Rattle.hq_sql.specs.Rules as rules
use Rattle.hq_sql.specs.Reading.{is_empty, begins, or_next, read, meaning_at, is_name, may_begin_expr, below_limit, passed, chosen, goes_on, repeat_from, kept}
use Rattle.hq_sql.proofs.Tokens.{peeks, everywhere, both_pass}

-- ---- what is read is spelled

digits_read : (left : ℕ) (ts : List Lexeme) (s' : State) (n : ℕ) → digits (st left ts) ≡ Some (n, s') → (ts ≡ lexeme.Digits n ∷ s'.rest)
unfolding digits
digits_read left [] s' n h = cc
digits_read left (lexeme.Mark x ∷ rest) s' n h = cc
digits_read left (lexeme.Name x ∷ rest) s' n h = cc
digits_read left (lexeme.Digits x ∷ rest) s' n h = let parts = some_parts x n (st left rest) s' h in rw (parts.0, sym parts.1) refl
digits_read left (lexeme.Text x ∷ rest) s' n h = cc
digits_read left (lexeme.Long ∷ rest) s' n h = cc

name_read : (left : ℕ) (ts : List Lexeme) (s' : State) (n : List ℕ) → r.name (st left ts) ≡ Some (n, s') → (ts ≡ lexeme.Name n ∷ s'.rest)
unfolding r.name
name_read left [] s' n h = cc
name_read left (lexeme.Mark x ∷ rest) s' n h = cc
name_read left (lexeme.Digits x ∷ rest) s' n h = cc
name_read left (lexeme.Name x ∷ rest) s' n h = let parts = some_parts x n (st left rest) s' h in rw (parts.0, sym parts.1) refl
name_read left (lexeme.Text x ∷ rest) s' n h = cc
name_read left (lexeme.Long ∷ rest) s' n h = cc

pub one_or_other : {P Q R S : Type 0} → (P → R) → (Q → S) → P ⊎ Q → R ⊎ S
one_or_other f g (inl x) = inl (f x)
one_or_other f g (inr y) = inr (g y)

chosen_read : {A : Type 0} (b : Bool) (first second : Parser A) (s s' : State) (x : A) → chosen b first second s ≡ Some (x, s')
    → (first s ≡ Some (x, s')) ⊎ (second s ≡ Some (x, s'))
chosen_read true first second s s' x h = inl h
chosen_read false first second s s' x h = inr h

passed_read : {A : Type 0} (meaning : MarkType → Option A) (ts : List Lexeme) (s s' : State) (x : A) → s.rest ≡ ts → passed (meaning_at meaning (peek ts)) s ≡ Some (x, s')
    → (m : MarkType) × (ts ≡ lexeme.Mark m ∷ s'.rest) × (meaning m ≡ Some x)
passed_read meaning [] s s' x e h = cc
passed_read meaning (lexeme.Name n ∷ rest) s s' x e h = cc
passed_read meaning (lexeme.Digits n ∷ rest) s s' x e h = cc
passed_read meaning (lexeme.Text n ∷ rest) s s' x e h = cc
passed_read meaning (lexeme.Long ∷ rest) s s' x e h = cc
passed_read {A = A} meaning (lexeme.Mark word ∷ rest) s s' x e h = go (meaning word) refl h
  where
    go : (found : Option A) → meaning word ≡ found → passed found s ≡ Some (x, s') → (m : MarkType) × (lexeme.Mark word ∷ rest ≡ lexeme.Mark m ∷ s'.rest) × (meaning m ≡ Some x)
    go None is h = cc
    go (Some y) is h =
        let parts = some_parts y x (skipped s) s' h in
        let behind : rest ≡ s'.rest = sym (ap r.tail e) ∙ ap (λ (u : State). u.rest) parts.1 in
        (word, ap (λ ts. lexeme.Mark word ∷ ts) behind, is ∙ ap Some parts.0)

module _ {X : Type 0} (Member : List Lexeme → X → List Lexeme → Type 0) (starts : Peek → Bool) (P : Parser X) where
  pub sound_repeat : l.IsSound Member P → (n : ℕ) (found ys : List X) (s s' : State) → repeat_from starts P n found s ≡ Some (ys, s')
      → (xs : List X) × (found ++ xs ≡ ys) × Repeated Member s.rest xs s'.rest
  unfolding repeat_from
  sound_repeat sound zero found ys s s' h =
      let parts = some_parts found ys s s' h in
      ([], append-nil found ∙ parts.0, subst (λ (u : State). Repeated Member s.rest [] u.rest) parts.1 rules.end)
  sound_repeat sound (suc n) found ys s s' h = go (starts (peek s.rest)) h (λ x t h. sound_repeat sound n (found ++ x ∷ []) ys t s' h)
    where
      go : (b : Bool) → goes_on b P (repeat_from starts P n) found s ≡ Some (ys, s')
          → ((x : X) (t : State) → repeat_from starts P n (found ++ x ∷ []) t ≡ Some (ys, s') → (xs : List X) × ((found ++ x ∷ []) ++ xs ≡ ys) × Repeated Member t.rest xs s'.rest)
          → (xs : List X) × (found ++ xs ≡ ys) × Repeated Member s.rest xs s'.rest
      go false h later =
          let parts = some_parts found ys s s' h in
          ([], append-nil found ∙ parts.0, subst (λ (u : State). Repeated Member s.rest [] u.rest) parts.1 rules.end)
      go true h later =
          let first = bind_some (P s) (λ x. repeat_from starts P n (found ++ x ∷ [])) (ys, s') h in
          let again = later first.0.0 first.0.1 first.2 in
          (first.0.0 ∷ again.0, sym (append_assoc found (first.0.0 ∷ []) again.0) ∙ again.1, rules.more (sound s first.0.1 first.0.0 first.1) again.2)

pub sound : {A : Type 0} (rule : Rule A) → l.IsSound (Spells rule) (read rule)
unfolding r.expect
sound (nothing a) s s' x h = let parts = some_parts a x s s' h in (sym parts.0, ap (λ (u : State). u.rest) parts.1)
sound (mark word) s s' x h = ap (λ (u : State). u.rest) (expected word s s' h)
sound (one_of meaning) s s' x h = passed_read meaning s.rest s s' x refl h
sound name s s' x h = name_read s.left s.rest s' x h
sound number s s' x h =
    let found = bind_some (digits s) below_limit (x, s') h in
    let parts = if_some (nat_lt found.0.0 (2 ^ 63)) (found.0.0, found.0.1) (x, s') found.2 in
    let same : found.0.0 ≡ x = ap (λ (q : ℕ × State). q.0) parts.1 in
    let rest : found.0.1 ≡ s' = ap (λ (q : ℕ × State). q.1) parts.1 in (
      subst (λ (u : State). s.rest ≡ lexeme.Digits x ∷ u.rest) rest (subst (λ n. s.rest ≡ lexeme.Digits n ∷ found.0.1.rest) same (digits_read s.left s.rest found.0.1 found.0.0 found.1)),
      subst (λ n. n < 2 ^ 63) same (ltb-true found.0.0 (2 ^ 63) parts.0),
    )
sound reference s s' x h = ref_sound s s' x h
sound value s s' x h = value_sound s s' x h
sound sum s s' x h = item_sound s s' x h
sound (condition aggs) s s' x h = cond_sound aggs s s' x h
sound (both f q t) s s' x h =
    let first = bind_some (read q s) (λ a. read t >>= λ b. pure (f a b)) (x, s') h in
    let second = bind_some (read t first.0.1) (λ b. pure (f first.0.0 b)) (x, s') first.2 in
    let parts = some_parts (f first.0.0 second.0.0) x second.0.1 s' second.2 in (
      first.0.0,
      second.0.0,
      first.0.1.rest,
      sound q s first.0.1 first.0.0 first.1,
      subst (λ (u : State). Spells t first.0.1.rest second.0.0 u.rest) parts.1 (sound t first.0.1 second.0.1 second.0.0 second.1),
      parts.0,
    )
sound (either q t) s s' x h = one_or_other (sound q s s' x) (sound t s s' x) (chosen_read (begins q (peek s.rest)) (read q) (read t) s s' x h)
sound (listed q) s s' x h =
    let found = l.sound_list (Spells q) (read q) (sound q) (length s.rest) [] x s s' h in
    subst (λ ys. Listed (Spells q) s.rest ys s'.rest) found.1 found.2
sound (repeated q) s s' x h =
    let found = sound_repeat (Spells q) (begins q) (read q) (sound q) (length s.rest) [] x s s' h in
    subst (λ ys. Repeated (Spells q) s.rest ys s'.rest) found.1 found.2
sound (only test q) s s' x h =
    let found = bind_some (read q s) (kept test) (x, s') h in
    let parts = if_some (test found.0.0) (found.0.0, found.0.1) (x, s') found.2 in
    let same : found.0.0 ≡ x = ap (λ (y : _ × State). y.0) parts.1 in
    let rest : found.0.1 ≡ s' = ap (λ (y : _ × State). y.1) parts.1 in (
      subst (λ (u : State). Spells q s.rest x u.rest) rest (subst (λ y. Spells q s.rest y found.0.1.rest) same (sound q s found.0.1 found.0.0 found.1)),
      subst (λ y. test y ≡ true) same parts.0,
    )

-- ---- one token tells which way to go

-- wherever the first test passes, the second does
abbrev pub implies : (Peek → Bool) → (Peek → Bool) → Bool
implies f g = list_all (λ k. not (f k) || g k) peeks

-- no token passes both tests
abbrev pub apart : (Peek → Bool) → (Peek → Bool) → Bool
apart f g = list_all (λ k. not (f k && g k)) peeks

-- what follows the first of two rules
abbrev pub behind_first : {B : Type 0} → Rule B → (Peek → Bool) → Peek → Bool
behind_first q follows k = begins q k || (is_empty q && follows k)

abbrev pub fits : {A : Type 0} → Rule A → (Peek → Bool) → Bool
fits (nothing a) follows = true
fits (mark word) follows = true
fits (one_of meaning) follows = true
fits name follows = true
fits number follows = true
fits value follows = true
fits reference follows = implies follows ends_expr
fits sum follows = implies follows ends_expr
fits (condition aggs) follows = implies follows ends_expr
fits (both f q t) follows = fits t follows && fits q (behind_first t follows)
fits (either q t) follows = (not (is_empty q) && apart (begins q) (behind_first t follows)) && (fits q follows && fits t follows)
fits (listed q) follows = (not (is_empty q) && apart (sees m.Comma) follows) && fits q (λ k. sees m.Comma k || follows k)
fits (repeated q) follows = (not (is_empty q) && apart (begins q) follows) && fits q (λ k. begins q k || follows k)
fits (only test q) follows = fits q follows

implied : (a b : Bool) → (not a || b) ≡ true → a ≡ true → b ≡ true
implied true b h is = h
implied false b h is = cc

not_both : (a b : Bool) → not (a && b) ≡ true → b ≡ true → a ≡ false
not_both true true h is = cc
not_both true false h is = cc
not_both false b h is = refl

is_not : (a : Bool) → not a ≡ true → a ≡ false
is_not true h = cc
is_not false h = refl

or_left : (a b : Bool) → a ≡ true → (a || b) ≡ true
or_left true b h = refl
or_left false b h = cc

or_right : (a b : Bool) → b ≡ true → (a || b) ≡ true
or_right true b h = refl
or_right false b h = h

pub ends_where : (follows : Peek → Bool) → implies follows ends_expr ≡ true → (k : Peek) → follows k ≡ true → ends_expr k ≡ true
ends_where follows h k is = implied (follows k) (ends_expr k) (everywhere (λ k. not (follows k) || ends_expr k) h k) is

apart_at : (f g : Peek → Bool) → apart f g ≡ true → (k : Peek) → g k ≡ true → f k ≡ false
apart_at f g h k is = not_both (f k) (g k) (everywhere (λ k. not (f k && g k)) h k) is

-- ---- what a rule spells begins with such a token, or is nothing

sees_itself : (word : MarkType) → sees word (p.Mark word) ≡ true
sees_itself m.Open = refl
sees_itself _ = refl

or_next_left : (e first second : Bool) → first ≡ true → or_next e first second ≡ true
or_next_left false first second h = h
or_next_left true first second h = or_left first second h

or_next_right : (e first second : Bool) → e ≡ true → second ≡ true → or_next e first second ≡ true
or_next_right false first second is h = cc
or_next_right true first second is h = or_right first second h

abbrev pub Front : {A : Type 0} → Rule A → List Lexeme → List Lexeme → Type 0
Front rule ts rest = (begins rule (peek ts) ≡ true) ⊎ ((is_empty rule ≡ true) × (ts ≡ rest))

abbrev pub FrontOf : Bool → Bool → List Lexeme → List Lexeme → Type 0
FrontOf starts none ts rest = (starts ≡ true) ⊎ ((none ≡ true) × (ts ≡ rest))

both_front : (e first e' : Bool) (second : Peek → Bool) (ts mid rest : List Lexeme) → FrontOf first e ts mid → FrontOf (second (peek mid)) e' mid rest
    → FrontOf (or_next e first (second (peek ts))) (e && e') ts rest
both_front e first e' second ts mid rest (inl h) h' = inl (or_next_left e first (second (peek ts)) h)
both_front e first e' second ts mid rest (inr h) (inl h') = inl (or_next_right e first (second (peek ts)) h.0 (subst (λ us. second (peek us) ≡ true) (sym h.1) h'))
both_front e first e' second ts mid rest (inr h) (inr h') = inr (rw (h.0, h'.0) refl, h.1 ∙ h'.1)

either_front : (a b e e' : Bool) (ts rest : List Lexeme) → ((a ≡ true) ⊎ ((e ≡ true) × (ts ≡ rest))) ⊎ ((b ≡ true) ⊎ ((e' ≡ true) × (ts ≡ rest))) → FrontOf (a || b) (e || e') ts rest
either_front a b e e' ts rest (inl (inl h)) = inl (or_left a b h)
either_front a b e e' ts rest (inl (inr h)) = inr (or_left e e' h.0, h.1)
either_front a b e e' ts rest (inr (inl h)) = inl (or_right a b h)
either_front a b e e' ts rest (inr (inr h)) = inr (or_right e e' h.0, h.1)

may_begin : (k : Peek) → begins_no_rule k ≡ false → may_begin_expr k ≡ true
may_begin (p.Mark m.Star) h = cc
may_begin (p.Mark m.Distinct) h = cc
may_begin _ h = refl

ref_front : (ts rest : List Lexeme) (x : _) → SpellsRef ts x rest → is_name (peek ts) ≡ true
ref_front ts rest x g.bare = refl
ref_front ts rest x g.dotted = refl

meaning_front : {A : Type 0} (found : Option A) (x : A) → found ≡ Some x → is_some found ≡ true
meaning_front None x h = cc
meaning_front (Some y) x h = refl

starts_or : (a e : Bool) (ts rest : List Lexeme) → e ≡ false → FrontOf a e ts rest → a ≡ true
starts_or a e ts rest some (inl h) = h
starts_or a e ts rest some (inr h) = let bad : true ≡ false = sym h.0 ∙ some in cc

listed_front : {X : Type 0} {Member : List Lexeme → X → List Lexeme → Type 0} (starts : Peek → Bool) (none : Bool) {ts rest : List Lexeme} {xs : List X}
    → ((us vs : List Lexeme) (y : X) → Member us y vs → FrontOf (starts (peek us)) none us vs) → none ≡ false → Listed Member ts xs rest → starts (peek ts) ≡ true
listed_front starts none front some (lists.one {ts = ts} {rest = rest} {x = x} h) = starts_or (starts (peek ts)) none ts rest some (front ts rest x h)
listed_front starts none front some (lists.more {ts = ts} {mid = mid} {x = x} h t) = starts_or (starts (peek ts)) none ts (lexeme.Mark m.Comma ∷ mid) some (front ts (lexeme.Mark m.Comma ∷ mid) x h)

repeated_front : {X : Type 0} {Member : List Lexeme → X → List Lexeme → Type 0} (starts : Peek → Bool) (none : Bool) {ts rest : List Lexeme} {xs : List X}
    → ((us vs : List Lexeme) (y : X) → Member us y vs → FrontOf (starts (peek us)) none us vs) → none ≡ false → Repeated Member ts xs rest
    → FrontOf (starts (peek ts)) true ts rest
repeated_front starts none front some rules.end = inr (refl, refl)
repeated_front starts none front some (rules.more {ts = ts} {mid = mid} {x = x} h t) = inl (starts_or (starts (peek ts)) none ts mid some (front ts mid x h))

-- the parts of what fits
both_fit : {A B C : Type 0} (f : A → B → C) (q : Rule A) (t : Rule B) (follows : Peek → Bool) → fits (both f q t) follows ≡ true
    → (fits t follows ≡ true) × (fits q (behind_first t follows) ≡ true)
both_fit f q t follows h = both_pass (fits t follows) (fits q (behind_first t follows)) h

pub record EitherFits {A : Type 0} (q t : Rule A) (follows : Peek → Bool) : Type 0 where
  pub some : is_empty q ≡ false
  pub apart : apart (begins q) (behind_first t follows) ≡ true
  pub first : fits q follows ≡ true
  pub second : fits t follows ≡ true

either_fit : {A : Type 0} (q t : Rule A) (follows : Peek → Bool) → fits (either q t) follows ≡ true → EitherFits q t follows
either_fit q t follows h =
    let halves = both_pass (not (is_empty q) && apart (begins q) (behind_first t follows)) (fits q follows && fits t follows) h in
    let front = both_pass (not (is_empty q)) (apart (begins q) (behind_first t follows)) halves.0 in
    let parts = both_pass (fits q follows) (fits t follows) halves.1 in
    record { some = is_not (is_empty q) front.0; apart = front.1; first = parts.0; second = parts.1 }

-- of a list, or of what is repeated
pub record ManyFits {A : Type 0} (q : Rule A) (goes_on follows : Peek → Bool) : Type 0 where
  pub some : is_empty q ≡ false
  pub apart : apart goes_on follows ≡ true
  pub member : fits q (λ k. goes_on k || follows k) ≡ true

many_fit : {A : Type 0} (q : Rule A) (goes_on follows : Peek → Bool)
    → ((not (is_empty q) && apart goes_on follows) && fits q (λ k. goes_on k || follows k)) ≡ true → ManyFits q goes_on follows
many_fit q goes_on follows h =
    let halves = both_pass (not (is_empty q) && apart goes_on follows) (fits q (λ k. goes_on k || follows k)) h in
    let front = both_pass (not (is_empty q)) (apart goes_on follows) halves.0 in
    record { some = is_not (is_empty q) front.0; apart = front.1; member = halves.1 }

pub front : {A : Type 0} (rule : Rule A) (follows : Peek → Bool) → fits rule follows ≡ true → (ts rest : List Lexeme) (x : A) → Spells rule ts x rest → Front rule ts rest
front (nothing a) follows fit ts rest x h = inr (refl, h.1)
front (mark word) follows fit ts rest x h = inl (rw h (sees_itself word))
front (one_of meaning) follows fit ts rest x h = inl (rw h.1 (meaning_front (meaning h.0) x h.2))
front name follows fit ts rest x h = inl (rw h refl)
front number follows fit ts rest x h = inl (rw h.0 refl)
front reference follows fit ts rest x h = inl (ref_front ts rest x h)
front value follows fit ts rest x h = inl refl
front sum follows fit ts rest x h = inl (may_begin (peek ts) (part_front ts rest x h))
front (condition aggs) follows fit ts rest x h = inl refl
front (both f q t) follows fit ts rest x h =
    let parts = both_fit f q t follows fit in
    both_front (is_empty q) (begins q (peek ts)) (is_empty t) (begins t) ts h.2 rest
    (front q (behind_first t follows) parts.1 ts h.2 h.0 h.3) (front t follows parts.0 h.2 rest h.1 h.4)
front (either q t) follows fit ts rest x h =
    let parts = either_fit q t follows fit in
    either_front (begins q (peek ts)) (begins t (peek ts)) (is_empty q) (is_empty t) ts rest
    (one_or_other (front q follows parts.first ts rest x) (front t follows parts.second ts rest x) h)
front (listed q) follows fit ts rest x h =
    let parts = many_fit q (sees m.Comma) follows fit in
    inl (listed_front (begins q) (is_empty q) (front q (λ k. sees m.Comma k || follows k) parts.member) parts.some h)
front (repeated q) follows fit ts rest x h =
    let parts = many_fit q (begins q) follows fit in
    repeated_front (begins q) (is_empty q) (front q (λ k. begins q k || follows k) parts.member) parts.some h
front (only test q) follows fit ts rest x h = front q follows fit ts rest x h.0

-- ---- a rule takes a lexeme where it isn't nothing

no_longer : {X : Type 0} {Member : List Lexeme → X → List Lexeme → Type 0} {ts rest : List Lexeme} {xs : List X}
    → ((us vs : List Lexeme) (y : X) → Member us y vs → length vs ≤ length us) → Repeated Member ts xs rest → length rest ≤ length ts
no_longer le rules.end = omega arith
no_longer le (rules.more {ts = ts} {mid = mid} {rest = rest} {x = x} h t) = omega (arith, le ts mid x h, no_longer le t)

listed_shorter : {X : Type 0} {Member : List Lexeme → X → List Lexeme → Type 0} {ts rest : List Lexeme} {xs : List X} (n : ℕ)
    → ((us vs : List Lexeme) (y : X) → Member us y vs → n + length vs ≤ length us) → Listed Member ts xs rest → n + length rest ≤ length ts
listed_shorter n le (lists.one {ts = ts} {rest = rest} {x = x} h) = le ts rest x h
listed_shorter n le (lists.more {ts = ts} {mid = mid} {rest = rest} {x = x} h t) = omega (arith, le ts (lexeme.Mark m.Comma ∷ mid) x h, listed_shorter n le t)

-- how many lexemes a rule takes at least
abbrev pub least : Bool → ℕ
least true = 0
least false = 1

least_both : (e e' : Bool) (a b c : ℕ) → least e + b ≤ a → least e' + c ≤ b → least (e && e') + c ≤ a
least_both true true a b c h h' = omega (arith, h, h')
least_both true false a b c h h' = omega (arith, h, h')
least_both false e' a b c h h' = omega (arith, h, h', least_some e')
  where
    least_some : (e : Bool) → 0 ≤ least e
    least_some e = omega arith

least_or : (e e' : Bool) (a b : ℕ) → (least e + b ≤ a) ⊎ (least e' + b ≤ a) → least (e || e') + b ≤ a
least_or true e' a b (inl h) = h
least_or true true a b (inr h) = h
least_or true false a b (inr h) = omega (arith, h)
least_or false true a b (inl h) = omega (arith, h)
least_or false false a b (inl h) = h
least_or false e' a b (inr h) = h

ref_shorter : (ts rest : List Lexeme) (x : _) → SpellsRef ts x rest → 1 + length rest ≤ length ts
ref_shorter ts rest x h = omega (arith, ref_shrinks ts rest x h)

drop_least : (e : Bool) (a b : ℕ) → least e + b ≤ a → b ≤ a
drop_least e a b h = omega (arith, h)

one_less : (e : Bool) (a b : ℕ) → e ≡ false → least e + b ≤ a → b < a
one_less true a b some h = cc
one_less false a b some h = omega (arith, h)

pub shorter : {A : Type 0} (rule : Rule A) (ts rest : List Lexeme) (x : A) → Spells rule ts x rest → least (is_empty rule) + length rest ≤ length ts
shorter (nothing a) ts rest x h = rw h.1 (omega arith)
shorter (mark word) ts rest x h = rw h (omega arith)
shorter (one_of meaning) ts rest x h = rw h.1 (omega arith)
shorter name ts rest x h = rw h (omega arith)
shorter number ts rest x h = rw h.0 (omega arith)
shorter reference ts rest x h = ref_shorter ts rest x h
shorter value ts rest x h = omega (arith, value_shrinks ts rest x h)
shorter sum ts rest x h = omega (arith, part_shrinks ts rest x h)
shorter (condition aggs) ts rest x h = omega (arith, part_shrinks ts rest x h)
shorter (both f q t) ts rest x h =
    least_both (is_empty q) (is_empty t) (length ts) (length h.2) (length rest) (shorter q ts h.2 h.0 h.3) (shorter t h.2 rest h.1 h.4)
shorter (either q t) ts rest x h =
    least_or (is_empty q) (is_empty t) (length ts) (length rest) (one_or_other (shorter q ts rest x) (shorter t ts rest x) h)
shorter (listed q) ts rest x h = listed_shorter (least (is_empty q)) (shorter q) h
shorter (repeated q) ts rest x h = omega (arith, no_longer (λ us vs y h. drop_least (is_empty q) (length us) (length vs) (shorter q us vs y h)) h)
shorter (only test q) ts rest x h = shorter q ts rest x h.0

some_shrinks : {A : Type 0} (rule : Rule A) → is_empty rule ≡ false → l.Shrinks (Spells rule) (read rule)
some_shrinks rule some ts rest x h = one_less (is_empty rule) (length ts) (length rest) some (shorter rule ts rest x h)

-- ---- what is spelled is read

abbrev pub Passes : (Peek → Bool) → Peek → Type 0
Passes follows k = follows k ≡ true

-- what stands behind the first of two rules
pub behind : {B : Type 0} (t : Rule B) (follows : Peek → Bool) (ts rest : List Lexeme) → Front t ts rest → follows (peek rest) ≡ true → behind_first t follows (peek ts) ≡ true
behind t follows ts rest (inl h) ends = or_left (begins t (peek ts)) (is_empty t && follows (peek ts)) h
behind t follows ts rest (inr h) ends =
    or_right (begins t (peek ts)) (is_empty t && follows (peek ts)) (rw h.0 (subst (λ us. follows (peek us) ≡ true) (sym h.1) ends))

repeated_behind : {X : Type 0} (Member : List Lexeme → X → List Lexeme → Type 0) (starts follows : Peek → Bool)
    → ((ts rest : List Lexeme) (x : X) → Member ts x rest → starts (peek ts) ≡ true)
    → {ts rest : List Lexeme} {xs : List X} → Repeated Member ts xs rest → follows (peek rest) ≡ true → (starts (peek ts) || follows (peek ts)) ≡ true
repeated_behind Member starts follows begin (rules.end {ts = ts}) ends = or_right (starts (peek ts)) (follows (peek ts)) ends
repeated_behind Member starts follows begin (rules.more {ts = ts} {mid = mid} {x = x} h t) ends = or_left (starts (peek ts)) (follows (peek ts)) (begin ts mid x h)

module _ {X : Type 0} (Member : List Lexeme → X → List Lexeme → Type 0) (starts follows : Peek → Bool) (P : Parser X) where
  pub complete_repeat : l.IsComplete Member P (Passes (λ k. starts k || follows k)) → l.Shrinks Member P
      → ((ts rest : List Lexeme) (x : X) → Member ts x rest → starts (peek ts) ≡ true)
      → apart starts follows ≡ true
      → {ts rest : List Lexeme} {xs : List X} → Repeated Member ts xs rest → follows (peek rest) ≡ true
      → (n l : ℕ) (found : List X) → length ts ≤ n → (l' : ℕ) × (repeat_from starts P n found (st l ts) ≡ Some (found ++ xs, st l' rest))
  unfolding repeat_from
  complete_repeat complete shrinks begin split (rules.end {ts = ts}) ends zero l found le = (l, ap (λ ys. Some (ys, st l ts)) (sym (append-nil found)))
  complete_repeat complete shrinks begin split (rules.end {ts = ts}) ends (suc n) l found le =
      (l, rw (apart_at starts follows split (peek ts) ends) (ap (λ ys. Some (ys, st l ts)) (sym (append-nil found))))
  complete_repeat complete shrinks begin split (rules.more {ts = ts} {mid = mid} {rest = rest} {x = x} {xs = xs} h t) ends zero l found le =
      absurd (omega (arith, shrinks ts mid x h))
  complete_repeat complete shrinks begin split (rules.more {ts = ts} {mid = mid} {rest = rest} {x = x} {xs = xs} h t) ends (suc n) l found le =
      let got = complete l ts mid x h (repeated_behind Member starts follows begin t ends) in
      let again = complete_repeat complete shrinks begin split t ends n got.0 (found ++ x ∷ []) (omega (arith, shrinks ts mid x h)) in
      (again.0, rw (begin ts mid x h, got.1) (again.1 ∙ ap (λ ys. Some (ys, st again.0 rest)) (append_assoc found (x ∷ []) xs)))

name_complete : (l : ℕ) (ts rest : List Lexeme) (x : List ℕ) → ts ≡ lexeme.Name x ∷ rest → r.name (st l ts) ≡ Some (x, st l rest)
unfolding r.name
name_complete l ts rest x h = rw h refl

number_complete : (l : ℕ) (ts rest : List Lexeme) (x : ℕ) → ts ≡ lexeme.Digits x ∷ rest → x < 2 ^ 63 → (digits >>= below_limit) (st l ts) ≡ Some (x, st l rest)
unfolding digits
number_complete l ts rest x h below = rw (h, lt-ltb x (2 ^ 63) below) refl

mark_complete : (l : ℕ) (ts rest : List Lexeme) (word : MarkType) (x : Unit {0}) → ts ≡ lexeme.Mark word ∷ rest → r.expect word (st l ts) ≡ Some (x, st l rest)
unfolding r.expect
mark_complete l ts rest word x h = rw (h, sees_itself word) refl

one_of_complete : {A : Type 0} (l : ℕ) (ts rest : List Lexeme) (meaning : MarkType → Option A) (word : MarkType) (x : A) → ts ≡ lexeme.Mark word ∷ rest → meaning word ≡ Some x
    → (next >>= λ k. passed (meaning_at meaning k)) (st l ts) ≡ Some (x, st l rest)
one_of_complete l ts rest meaning word x h is = rw (h, is) refl

-- a rule that is no nothing begins with such a token
begins_some : {A : Type 0} (q : Rule A) (follows : Peek → Bool) → fits q follows ≡ true → is_empty q ≡ false → (ts rest : List Lexeme) (x : A) → Spells q ts x rest → begins q (peek ts) ≡ true
begins_some q follows fit some ts rest x h = starts_or (begins q (peek ts)) (is_empty q) ts rest some (front q follows fit ts rest x h)

abbrev pub Found : {A : Type 0} → Rule A → ℕ → List Lexeme → A → List Lexeme → Type 0
Found rule l ts x rest = (l' : ℕ) × (read rule (st l ts) ≡ Some (x, st l' rest))

either_complete : {A : Type 0} (q t : Rule A) (follows : Peek → Bool) → EitherFits q t follows → (l : ℕ) (ts rest : List Lexeme) (x : A)
    → (Spells q ts x rest → Found q l ts x rest) → (Spells t ts x rest → Found t l ts x rest) → Spells (either q t) ts x rest → follows (peek rest) ≡ true
    → Found (either q t) l ts x rest
either_complete q t follows parts l ts rest x first second (inl h) ends =
    let got = first h in (got.0, rw (begins_some q follows parts.first parts.some ts rest x h) got.1)
either_complete q t follows parts l ts rest x first second (inr h) ends =
    let got = second h in
    let after = behind t follows ts rest (front t follows parts.second ts rest x h) ends in
    (got.0, rw (apart_at (begins q) (behind_first t follows) parts.apart (peek ts) after) got.1)

pub complete : {A : Type 0} (rule : Rule A) (follows : Peek → Bool) → fits rule follows ≡ true → l.IsComplete (Spells rule) (read rule) (Passes follows)
complete (nothing a) follows fit l ts rest x h ends = (l, rw (h.0, h.1) refl)
complete (mark word) follows fit l ts rest x h ends = (l, mark_complete l ts rest word x h)
complete (one_of meaning) follows fit l ts rest x h ends = (l, one_of_complete l ts rest meaning h.0 x h.1 h.2)
complete name follows fit l ts rest x h ends = (l, name_complete l ts rest x h)
complete number follows fit l ts rest x h ends = (l, number_complete l ts rest x h.0 h.1)
complete reference follows fit l ts rest x h ends = ref_complete l ts rest x h (ends_where follows fit (peek rest) ends)
complete value follows fit l ts rest x h ends = value_complete l ts rest x h tt
complete sum follows fit l ts rest x h ends = item_complete l ts rest x h (ends_where follows fit (peek rest) ends)
complete (condition aggs) follows fit l ts rest x h ends = cond_complete aggs l ts rest x h (ends_where follows fit (peek rest) ends)
complete (both f q t) follows fit l ts rest x h ends =
    let parts = both_fit f q t follows fit in
    let middle = behind t follows h.2 rest (front t follows parts.0 h.2 rest h.1 h.4) ends in
    let first = complete q (behind_first t follows) parts.1 l ts h.2 h.0 h.3 middle in
    let second = complete t follows parts.0 first.0 h.2 rest h.1 h.4 ends in
    (second.0, rw (first.1, second.1, sym h.5) refl)
complete (either q t) follows fit l ts rest x h ends =
    let parts = either_fit q t follows fit in
    either_complete q t follows parts l ts rest x (λ h. complete q follows parts.first l ts rest x h ends) (λ h. complete t follows parts.second l ts rest x h ends) h ends
complete (listed q) follows fit n ts rest x h ends =
    let parts = many_fit q (sees m.Comma) follows fit in
    l.complete_list (Spells q) (read q) (Passes (λ k. sees m.Comma k || follows k)) (complete q (λ k. sees m.Comma k || follows k) parts.member) (some_shrinks q parts.some) refl h
    (or_right (sees m.Comma (peek rest)) (follows (peek rest)) ends) (apart_at (sees m.Comma) follows parts.apart (peek rest) ends) (length ts) n [] (omega arith)
complete (repeated q) follows fit l ts rest x h ends =
    let parts = many_fit q (begins q) follows fit in
    complete_repeat (Spells q) (begins q) follows (read q) (complete q (λ k. begins q k || follows k) parts.member) (some_shrinks q parts.some)
    (begins_some q (λ k. begins q k || follows k) parts.member parts.some) parts.apart h ends (length ts) l [] (omega arith)
complete (only test q) follows fit l ts rest x h ends =
    let got = complete q follows fit l ts rest x h.0 ends in (got.0, rw (got.1, h.1) refl)
