-- Guesses at the groups of rows that prove true.
use Rattle.std.proofs.Common.{◌≡◌, ℕ, ◌<◌, Bool, true, false, cond, not, List, [], ◌∷◌, ◌++◌, length, get_or, refl, sym, ◌∙◌, ap, subst, arith}
use Rattle.std.specs.List.{list_any, IsDistinct}
use Rattle.std.specs.Ordering.{is_eq}
use Rattle.std.specs.declared.cmp.Ordering.{Ordering}
use Rattle.std.specs.declared.cmp.Ordering.TheVariants.{Less, Equal, Greater}
use Rattle.std.specs.Cmp.Lexicographic.{pointwise}
use Rattle.std.specs.Prelude.{nat_lt}
use Rattle.std.proofs.lemmas.List.Folds.{list_any_at}
use Rattle.std.proofs.lemmas.List.Sums.{position_or_len_is}
use Rattle.std.proofs.lemmas.Map.Keys.{apart_from_distinct}
use Rattle.hq_value.specs.declared.value.Value.{Value}
use Rattle.hq_value.specs.contracts.value.ValuePartialEq.TheImpl as partial
use Rattle.hq_value.specs.Order.{value_cmp}
use Rattle.hq_value.proofs.Equal.{row_ties}
use Rattle.hq_value.proofs.Order.{value_exact}
use Rattle.hq_meaning.specs.Rows.{Row}
use Rattle.hq_meaning.proofs.Bags.{same_equal, same_self}
use Rattle.hq_ops.specs.Gathering.{HasPlace}
use Rattle.hq_ops.proofs.Firsts.{flip_same}

is-equal : (o : Ordering) → is_eq o ≡ true → o ≡ Equal
is-equal Less h = cc
is-equal Equal h = refl
is-equal Greater h = cc

-- values that tie are one
pub tie_same : (a b : Value) → is_eq (value_cmp a b) ≡ true → a ≡ b
tie_same a b h = value_exact a b (is-equal (value_cmp a b) h)

-- and so are rows that are equal value by value
pub alike_same : (a b : Row) → pointwise (partial.ghosts).eq a b ≡ true → a ≡ b
alike_same a b h = same_equal a b (sym (row_ties a b) ∙ h)

-- a key that stands at an index among keys that differ has its group there
place : (y : Row) (keys : List Row) (index : ℕ) → IsDistinct (pointwise (partial.ghosts).eq) keys → index < length keys → y ≡ get_or keys index y → HasPlace y keys keys index false
place y keys index apart low at = record {
  keys_are = ap (λ b. cond b keys (keys ++ y ∷ [])) (sym found);
  fresh_is = ap not (sym found);
  index_is = sym (position_or_len_is same keys index y (omega (arith, low)) other (λ within. here));
}
  where
    same : Row → Bool
    same w = pointwise (partial.ghosts).eq y w

    here : same (get_or keys index y) ≡ true
    here = ap same (sym at) ∙ row_ties y y ∙ same_self y

    found : list_any same keys ≡ true
    found = list_any_at same keys index y low here

    other : (k : ℕ) → k < index → same (get_or keys k y) ≡ false
    other k before =
        row_ties y (get_or keys k y) ∙ flip_same y (get_or keys k y) ∙ sym (row_ties (get_or keys k y) y) ∙ ap (pointwise (partial.ghosts).eq (get_or keys k y)) at
        ∙ apart_from_distinct (pointwise (partial.ghosts).eq) keys k index y apart before low

pub place-of : (y k : Row) (keys slice : List Row) (index : ℕ) → IsDistinct (pointwise (partial.ghosts).eq) keys → slice ≡ keys → true ≡ nat_lt index (length slice) → k ≡ get_or slice index k → k ≡ y → HasPlace y keys keys index false
place-of y k keys slice index apart es low at is =
    place y keys index apart (subst (λ l. index < length l) es (within index (length slice) low)) (subst (λ l. y ≡ get_or l index y) es (subst (λ z. z ≡ get_or slice index z) is at))
  where
    within : (m n : ℕ) → true ≡ nat_lt m n → m < n
    within m n h = grind arith
