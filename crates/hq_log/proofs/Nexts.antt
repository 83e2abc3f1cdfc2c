-- The place that is lent next.
use Rattle.std.proofs.Common.{◌≡◌, ◌↔◌, ℕ, ◌<◌, Bool, true, false, ◌||◌, cond, List, [], ◌∷◌, length, Option, Some, None, is_some, option_map, unwrap_or, position, get_or, refl, sym, ◌∙◌, ap, arith}
use Rattle.std.proofs.Common.{suc, ltb, not, ◌+◌}
use Rattle.std.specs.List.{list_any, list_all, position_or_len}
use Rattle.std.proofs.lemmas.Bool.Decides.{nat_tests}
use Rattle.std.proofs.lemmas.List.Quantifiers.{position-Some}
use Rattle.std.proofs.lemmas.Option.{slice_get-get_or}
use Rattle.hq_log.specs.declared.place.Place.{Place}
use Rattle.hq_log.specs.declared.place.Place.TheVariants.{Unborn, Clean, Dirty, Out, Sweeping}
use Rattle.hq_log.specs.declared.place.Next.TheVariants as which
use Rattle.hq_log.specs.Places.{is_unborn, is_clean, is_dirty, is_out, first_of, next_place, passes_at, IsLowest}

-- what passes at a lane that is there
passes_at-get_or : (test : Place → Bool) (places : List Place) (n : ℕ) → n < length places → passes_at test places n ≡ test (get_or places n Unborn)
passes_at-get_or test places n within = ap (λ o. unwrap_or (option_map test o) false) (slice_get-get_or places n Unborn within)

pub IsLowest-position : (test : Place → Bool) (places : List Place) (n : ℕ) → position test places ≡ Some n → IsLowest test places n
IsLowest-position test places n e =
    let found = position-Some test places n Unborn e in
    (passes_at-get_or test places n found.0 ∙ found.1, λ m below. passes_at-get_or test places m (omega arith) ∙ found.2 m below)

-- the front place passes, or a later one does
front : (b : Bool) (m n : ℕ) (r : Bool) → ltb m n ≡ r → ltb (cond (not b) (1 + m) 0) (suc n) ≡ (b || r)
front true m n r e = grind (arith, nat_tests)
front false m n r e = let step : ltb (1 + m) (suc n) ≡ ltb m n = grind (arith, nat_tests) in step ∙ e

found_where_one_passes : (test : Place → Bool) (places : List Place) → ltb (position_or_len test places) (length places) ≡ list_any test places
found_where_one_passes test [] = refl
found_where_one_passes test (x ∷ xs) = front (test x) (position_or_len test xs) (length xs) (list_any test xs) (found_where_one_passes test xs)

is_some-chosen : (b : Bool) (n : ℕ) → is_some (cond b (Some n) None) ≡ b
is_some-chosen true n = refl
is_some-chosen false n = refl

-- a first place is found exactly where one passes
pub is_some-position : (test : Place → Bool) (places : List Place) → is_some (position test places) ≡ list_any test places
is_some-position test places = is_some-chosen (ltb (position_or_len test places) (length places)) (position_or_len test places) ∙ found_where_one_passes test places

none_found : (o : Option ℕ) → is_some o ≡ false → o ≡ None
none_found None e = refl
none_found (Some n) e = cc

pub none_passes : (test : Place → Bool) (places : List Place) → position test places ≡ None → list_any test places ≡ false
none_passes test places e = sym (is_some-position test places) ∙ ap is_some e

pub not_found : (test : Place → Bool) (places : List Place) → list_any test places ≡ false → position test places ≡ None
not_found test places e = none_found (position test places) (is_some-position test places ∙ e)

first_of-Clean : (a b c : Option ℕ) (n : ℕ) → first_of a b c ≡ which.Clean n → a ≡ Some n
first_of-Clean (Some m) b c n e = cc
first_of-Clean None (Some m) c n e = cc
first_of-Clean None None (Some m) n e = cc
first_of-Clean None None None n e = cc

first_of-Dirty : (a b c : Option ℕ) (n : ℕ) → first_of a b c ≡ which.Dirty n → (a ≡ None) × (b ≡ Some n)
first_of-Dirty (Some m) b c n e = cc
first_of-Dirty None (Some m) c n e = (refl, cc)
first_of-Dirty None None (Some m) n e = cc
first_of-Dirty None None None n e = cc

first_of-Unborn : (a b c : Option ℕ) (n : ℕ) → first_of a b c ≡ which.Unborn n → (a ≡ None) × (b ≡ None) × (c ≡ Some n)
first_of-Unborn (Some m) b c n e = cc
first_of-Unborn None (Some m) c n e = cc
first_of-Unborn None None (Some m) n e = (refl, refl, cc)
first_of-Unborn None None None n e = cc

first_of-AllOut : (a b c : Option ℕ) → first_of a b c ≡ which.AllOut → (a ≡ None) × (b ≡ None) × (c ≡ None)
first_of-AllOut (Some m) b c e = cc
first_of-AllOut None (Some m) c e = cc
first_of-AllOut None None (Some m) e = cc
first_of-AllOut None None None e = (refl, refl, refl)

all_out : (places : List Place) → list_any is_clean places ≡ false → list_any is_dirty places ≡ false → list_any is_unborn places ≡ false → list_all is_out places ≡ true
all_out [] c d u = refl
all_out (Unborn ∷ xs) c d u = cc
all_out (Clean ∷ xs) c d u = cc
all_out (Dirty ∷ xs) c d u = cc
all_out (Out k ∷ xs) c d u = all_out xs c d u
all_out (Sweeping k ∷ xs) c d u = all_out xs c d u

none_home : (places : List Place) → list_all is_out places ≡ true → (list_any is_clean places ≡ false) × (list_any is_dirty places ≡ false) × (list_any is_unborn places ≡ false)
none_home [] h = (refl, refl, refl)
none_home (Unborn ∷ xs) h = cc
none_home (Clean ∷ xs) h = cc
none_home (Dirty ∷ xs) h = cc
none_home (Out k ∷ xs) h = none_home xs h
none_home (Sweeping k ∷ xs) h = none_home xs h

pub next_place-Clean : (places : List Place) (n : ℕ) → next_place places ≡ which.Clean n → IsLowest is_clean places n
next_place-Clean places n e = IsLowest-position is_clean places n (first_of-Clean (position is_clean places) (position is_dirty places) (position is_unborn places) n e)

pub next_place-Dirty : (places : List Place) (n : ℕ) → next_place places ≡ which.Dirty n → IsLowest is_dirty places n × (list_any is_clean places ≡ false)
next_place-Dirty places n e =
    let h = first_of-Dirty (position is_clean places) (position is_dirty places) (position is_unborn places) n e in
    (IsLowest-position is_dirty places n h.1, none_passes is_clean places h.0)

pub next_place-Unborn : (places : List Place) (n : ℕ) → next_place places ≡ which.Unborn n → IsLowest is_unborn places n × (list_any is_clean places ≡ false) × (list_any is_dirty places ≡ false)
next_place-Unborn places n e =
    let h = first_of-Unborn (position is_clean places) (position is_dirty places) (position is_unborn places) n e in
    (IsLowest-position is_unborn places n h.2, none_passes is_clean places h.0, none_passes is_dirty places h.1)

pub next_place-AllOut : (places : List Place) → (next_place places ≡ which.AllOut) ↔ (list_all is_out places ≡ true)
next_place-AllOut places = (
  λ e. let h = first_of-AllOut (position is_clean places) (position is_dirty places) (position is_unborn places) e in
      all_out places (none_passes is_clean places h.0) (none_passes is_dirty places h.1) (none_passes is_unborn places h.2),
  λ out. let h = none_home places out in
      λ i. first_of (not_found is_clean places h.0 i) (not_found is_dirty places h.1 i) (not_found is_unborn places h.2 i),
)
