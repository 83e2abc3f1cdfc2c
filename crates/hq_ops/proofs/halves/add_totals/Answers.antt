use Rattle.std.proofs.Common.{◌≡◌, ◌∙◌, ◌^◌, ℤ, pos, neg_ℤ, ◌≤ℤ◌, ◌+ℤ◌, ◌*ℤ◌, to_z, of_z, arith}
use Rattle.std.specs.Int.{w128}
use Rattle.std.proofs.lemmas.Int.{ints}
use Rattle.hq_ops.proofs.halves.add_totals.Goals as goal

-- the number is at most 2^125 away from 0
abbrev IsSmall : ℤ → Type 0
IsSmall n = (neg_ℤ (pos (2 ^ 125)) ≤ℤ n) × (n ≤ℤ pos (2 ^ 125))

-- a sum of 128 bits is exact
fits : (a b : ℤ) → IsSmall a → IsSmall b → to_z w128 (of_z w128 (to_z w128 (of_z w128 a) +ℤ to_z w128 (of_z w128 b))) ≡ a +ℤ b
fits a b this that = omega (arith, ints)

parted : (h k l m : ℤ) → (h +ℤ k) *ℤ pos (2 ^ 63) +ℤ (l +ℤ m) ≡ (h *ℤ pos (2 ^ 63) +ℤ l) +ℤ (k *ℤ pos (2 ^ 63) +ℤ m)
parted h k l m = omega (arith, ints)

pub returns : goal.returns
returns c =
    (λ i. fits c.args.total.high c.args.more.high c.args.total.high_fits c.args.more.high_fits i *ℤ pos (2 ^ 63) +ℤ fits c.args.total.low c.args.more.low c.args.total.low_fits c.args.more.low_fits i)
    ∙ parted c.args.total.high c.args.more.high c.args.total.low c.args.more.low
