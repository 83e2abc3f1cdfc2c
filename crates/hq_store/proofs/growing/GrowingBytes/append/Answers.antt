-- The bytes behind the full pages are counted by what is before them.
use Rattle.std.proofs.Common.{◌≡◌, length, ap, arith}
use Rattle.hq_store.specs.Pages.{Grown, flat}
use Rattle.hq_store.proofs.Joined.{length-bytes_in}
use Rattle.hq_store.proofs.growing.GrowingBytes.append.Goals as goal

pub overflow_mul-tail : goal.overflow_mul-tail
overflow_mul-tail c =
    omega (
      arith,
      length-bytes_in 4096 c.self.inside.groups.items c.self.inside.pages.items c.self.inside.runs.items c.self.inside.unshared.items c.self.invariant.1,
    )

pub overflow_sub-tail-2 : goal.overflow_sub-tail-2
overflow_sub-tail-2 c =
    let fixed : length (flat (flat c.self.inside.groups.items)) ≡ c.args.self.now.fixed = ap (λ (g : Grown). g.fixed) c.self.view_is in
    omega (
      arith,
      length-bytes_in 4096 c.self.inside.groups.items c.self.inside.pages.items c.self.inside.runs.items c.self.inside.unshared.items c.self.invariant.1,
    )

pub add-requires-clause-tail : goal.add-requires-clause-tail
add-requires-clause-tail c =
    let fixed : length (flat (flat c.self.inside.groups.items)) ≡ c.args.self.now.fixed = ap (λ (g : Grown). g.fixed) c.self.view_is in
    omega (
      arith,
      length-bytes_in 4096 c.self.inside.groups.items c.self.inside.pages.items c.self.inside.runs.items c.self.inside.unshared.items c.self.invariant.1,
    )

pub add-requires-clause-short : goal.add-requires-clause-short
add-requires-clause-short c =
    let fixed : length (flat (flat c.self.inside.groups.items)) ≡ c.args.self.now.fixed = ap (λ (g : Grown). g.fixed) c.self.view_is in
    omega (
      arith,
      length-bytes_in 4096 c.self.inside.groups.items c.self.inside.pages.items c.self.inside.runs.items c.self.inside.unshared.items c.self.invariant.1,
    )
