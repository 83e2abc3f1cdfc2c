-- Values come together in any order.
use Rattle.std.proofs.Common.{◌≡◌, ℤ, ◌+ℤ◌, Bool, true, false, cond, List, [], ◌∷◌, ◌++◌, Option, Some, None, refl, sym, ◌∙◌, ap, arith}
use Rattle.std.proofs.lemmas.Int.{ints}
use Rattle.std.specs.Ordering.{is_gt, nat_cmp, ordering_then}
use Rattle.std.specs.Cmp.{IsTotalOrder}
use Rattle.std.specs.declared.cmp.Ordering.{Ordering}
use Rattle.std.specs.declared.cmp.Ordering.TheVariants.{Less, Equal, Greater}
use Rattle.std.proofs.lemmas.Cmp.{nat_cmp_total, on_total, then_total, back_total}
use Rattle.std.proofs.lemmas.Map.Lookups.{CmpEqualImpliesEq}
use Rattle.hq_value.specs.declared.value.Value.{Value}
use Rattle.hq_value.specs.declared.value.Value.TheVariants as value
use Rattle.hq_value.specs.Sorting.{with_item}
use Rattle.hq_value.specs.Order.{value_cmp}
use Rattle.hq_value.proofs.Order.{value_total, value_exact}
use Rattle.hq_value.proofs.Sorting.{commute}
use Rattle.hq_algebra.specs.declared.aggregate.Aggregate.{Aggregate}
use Rattle.hq_algebra.specs.declared.aggregate.Aggregate.TheVariants as agg
use Rattle.hq_meaning.specs.Aggregates.{number, from_number, sum_of, plus, sooner, together, over, falling_cmp, null_rank}

int_comm : (a b : ℤ) → a +ℤ b ≡ b +ℤ a
int_comm a b = omega (arith, ints)

int_swap : (a b c : ℤ) → a +ℤ (b +ℤ c) ≡ b +ℤ (a +ℤ c)
int_swap a b c = omega (arith, ints)

int_assoc : (a b c : ℤ) → (a +ℤ b) +ℤ c ≡ a +ℤ (b +ℤ c)
int_assoc a b c = omega (arith, ints)

number-from_number : (o : Option ℤ) → number (from_number o) ≡ o
number-from_number None = refl
number-from_number (Some n) = refl

sum-swap : (x y z : Option ℤ) → sum_of x (sum_of y z) ≡ sum_of y (sum_of x z)
sum-swap None y z = refl
sum-swap (Some a) None z = refl
sum-swap (Some a) (Some b) None = ap Some (int_comm a b)
sum-swap (Some a) (Some b) (Some c) = ap Some (int_swap a b c)

sum-assoc : (x y z : Option ℤ) → sum_of (sum_of x y) z ≡ sum_of x (sum_of y z)
sum-assoc None y z = refl
sum-assoc (Some a) None z = refl
sum-assoc (Some a) (Some b) None = refl
sum-assoc (Some a) (Some b) (Some c) = ap Some (int_assoc a b c)

plus-swap : (x y z : Value) → plus x (plus y z) ≡ plus y (plus x z)
plus-swap x y z = ap (λ o. from_number (sum_of (number x) o)) (number-from_number _) ∙ ap from_number (sum-swap (number x) (number y) (number z)) ∙ sym (ap (λ o. from_number (sum_of (number y) o)) (number-from_number _))

plus-assoc : (x y z : Value) → plus (plus x y) z ≡ plus x (plus y z)
plus-assoc x y z = ap (λ o. from_number (sum_of o (number z))) (number-from_number _) ∙ ap from_number (sum-assoc (number x) (number y) (number z)) ∙ sym (ap (λ o. from_number (sum_of (number x) o)) (number-from_number _))

plus-null : (y z : Value) → plus value.Null (plus y z) ≡ plus y z
plus-null y z = ap from_number (number-from_number (sum_of (number y) (number z)))

-- the sooner of two is the head of a sorted list
module _ {R : Value → Value → Ordering} (total : IsTotalOrder R) (exact : CmpEqualImpliesEq R) where
  abbrev head : List Value → Value
  head [] = value.Null
  head (x ∷ xs) = x

  head-item : (x y : Value) (l : List Value) → head (with_item R x (y ∷ l)) ≡ sooner R x y
  head-item x y l = by (is_gt (R x y))
    where
      by : (b : Bool) → head (cond b (y ∷ with_item R x l) (x ∷ y ∷ l)) ≡ cond b y x
      by true = refl
      by false = refl

  head-two : (x y z : Value) → head (with_item R x (with_item R y (z ∷ []))) ≡ sooner R x (sooner R y z)
  head-two x y z = by (is_gt (R y z))
    where
      by : (b : Bool) → head (with_item R x (cond b (z ∷ y ∷ []) (y ∷ z ∷ []))) ≡ sooner R x (cond b z y)
      by true = head-item x z (y ∷ [])
      by false = head-item x y (z ∷ [])

  sooner-swap : (x y z : Value) → sooner R x (sooner R y z) ≡ sooner R y (sooner R x z)
  sooner-swap x y z = sym (head-two x y z) ∙ ap head (commute total exact x y (z ∷ [])) ∙ head-two y x z

  sooner-comm : (x y : Value) → sooner R x y ≡ sooner R y x
  sooner-comm x y = sym (head-item x y []) ∙ ap head (commute total exact x y []) ∙ head-item y x []

  sooner-assoc : (x y z : Value) → sooner R (sooner R x y) z ≡ sooner R x (sooner R y z)
  sooner-assoc x y z = sooner-comm (sooner R x y) z ∙ sooner-swap z x y ∙ ap (sooner R x) (sooner-comm z y)

rising-null : (x : Value) → sooner value_cmp value.Null x ≡ x
rising-null value.Null = refl
rising-null (value.Bool b) = refl
rising-null (value.Int n) = refl
rising-null (value.Text s) = refl

falling-null : (x : Value) → sooner falling_cmp value.Null x ≡ x
falling-null value.Null = refl
falling-null (value.Bool b) = refl
falling-null (value.Int n) = refl
falling-null (value.Text s) = refl

falling_total : IsTotalOrder falling_cmp
falling_total = then_total (on_total null_rank nat_cmp_total) (back_total value_total)

falling_exact : CmpEqualImpliesEq falling_cmp
falling_exact a b h = sym (value_exact b a (by (nat_cmp (null_rank a) (null_rank b)) (value_cmp b a) h))
  where
    by : (o p : Ordering) → ordering_then o p ≡ Equal → p ≡ Equal
    by Less p h = cc
    by Equal p h = h
    by Greater p h = cc

pub together-swap : (a : Aggregate) (x y z : Value) → together a x (together a y z) ≡ together a y (together a x z)
together-swap agg.CountAll = plus-swap
together-swap (agg.Count e) = plus-swap
together-swap (agg.Sum e) = plus-swap
together-swap (agg.Min e) = sooner-swap value_total value_exact
together-swap (agg.Max e) = sooner-swap falling_total falling_exact

pub together-assoc : (a : Aggregate) (x y z : Value) → together a (together a x y) z ≡ together a x (together a y z)
together-assoc agg.CountAll = plus-assoc
together-assoc (agg.Count e) = plus-assoc
together-assoc (agg.Sum e) = plus-assoc
together-assoc (agg.Min e) = sooner-assoc value_total value_exact
together-assoc (agg.Max e) = sooner-assoc falling_total falling_exact

pub together-null : (a : Aggregate) (y z : Value) → together a value.Null (together a y z) ≡ together a y z
together-null agg.CountAll y z = plus-null y z
together-null (agg.Count e) y z = plus-null y z
together-null (agg.Sum e) y z = plus-null y z
together-null (agg.Min e) y z = rising-null (sooner value_cmp y z)
together-null (agg.Max e) y z = falling-null (sooner falling_cmp y z)

together-nothing : (a : Aggregate) → together a value.Null value.Null ≡ value.Null
together-nothing agg.CountAll = refl
together-nothing (agg.Count e) = refl
together-nothing (agg.Sum e) = refl
together-nothing (agg.Min e) = refl
together-nothing (agg.Max e) = refl

-- NULL adds nothing to what comes over values
pub null-over : (a : Aggregate) (vs : List Value) → together a value.Null (over a vs) ≡ over a vs
null-over a [] = together-nothing a
null-over a (v ∷ vs) = together-null a v (over a vs)

pub over-append : (a : Aggregate) (us vs : List Value) → over a (us ++ vs) ≡ together a (over a us) (over a vs)
over-append a [] vs = sym (null-over a vs)
over-append a (u ∷ us) vs = ap (together a u) (over-append a us vs) ∙ sym (together-assoc a u (over a us) (over a vs))
