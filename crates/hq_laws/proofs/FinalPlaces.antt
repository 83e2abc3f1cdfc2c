-- The places of a Final's columns.
use Rattle.std.proofs.Common.{◌≡◌, ℕ, ◌+◌, ◌<◌, ◌≤◌, nat_le, nat_lt, true, ◌&&◌, List, [], ◌∷◌, length, refl, arith, IsTrue}
use Rattle.hq_algebra.specs.declared.aggregate.Aggregate.{Aggregate}
use Rattle.hq_algebra.specs.declared.aggregate.Aggregate.TheVariants as agg
use Rattle.hq_algebra.specs.declared.query.Query.{Query}
use Rattle.hq_algebra.specs.Rules.{arguments, are_below}
use Rattle.hq_laws.specs.Stages.{final_aggregates}
use Rattle.hq_algebra.specs.Bound.{has_places}

below : (n : ℕ) → n < 65536 → nat_lt n 65536 ≡ true
below n h = grind arith

places-below : (at : ℕ) (aggs : List Aggregate) → at + (length aggs + length aggs) ≤ 65535 → are_below 65536 (arguments (final_aggregates at aggs)) ≡ true
places-below at [] h = refl
places-below at (agg.CountAll ∷ aggs) h = places-below (at + 1) aggs (omega (arith, h))
places-below at (agg.Count e ∷ aggs) h = λ i. below at (omega (arith, h)) i && places-below (at + 1) aggs (omega (arith, h)) i
places-below at (agg.Sum e ∷ aggs) h = λ i. below at (omega (arith, h)) i && places-below (at + 2) aggs (omega (arith, h)) i
places-below at (agg.Min e ∷ aggs) h = λ i. below at (omega (arith, h)) i && places-below (at + 1) aggs (omega (arith, h)) i
places-below at (agg.Max e ∷ aggs) h = λ i. below at (omega (arith, h)) i && places-below (at + 1) aggs (omega (arith, h)) i

pub final-places : (q : Query) → IsTrue (has_places q) → IsTrue (are_below 65536 (arguments (final_aggregates (length q.groups) q.aggregates)))
final-places q h = places-below (length q.groups) q.aggregates (few (length q.groups + (length q.aggregates + length q.aggregates)) h)
  where
    few : (n : ℕ) → nat_le n 65535 ≡ true → n ≤ 65535
    few n h = grind arith
