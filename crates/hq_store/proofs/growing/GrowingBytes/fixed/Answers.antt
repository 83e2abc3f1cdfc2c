-- The bytes of the groups are counted by their number.
use Rattle.std.proofs.Common.{◌≡◌, length, ap, arith}
use Rattle.hq_store.specs.Pages.{Grown, flat, bytes_in}
use Rattle.hq_store.proofs.Joined.{length-groups, groups_within}
use Rattle.hq_store.proofs.growing.GrowingBytes.fixed.Goals as goal

pub overflow_mul-result-2 : goal.overflow_mul-result-2
overflow_mul-result-2 c =
    omega (
      arith,
      length-groups 4096 64 c.self.inside.groups.items c.self.invariant.0,
      groups_within c.self.inside.groups.items c.self.inside.pages.items c.self.inside.runs.items c.self.inside.unshared.items,
    )

pub returns-clause-value : goal.returns-clause-value
returns-clause-value c =
    let fixed : length (flat (flat c.self.inside.groups.items)) ≡ c.args.self.now.fixed = ap (λ (g : Grown). g.fixed) c.self.view_is in
    omega (arith, length-groups 4096 64 c.self.inside.groups.items c.self.invariant.0)

pub returns-clause-within : goal.returns-clause-within
returns-clause-within c =
    let bytes : length (bytes_in c.self.inside.groups.items c.self.inside.pages.items c.self.inside.runs.items c.self.inside.unshared.items) ≡ length c.args.self.now.bytes =
    ap (λ (g : Grown). length g.bytes) c.self.view_is in
    omega (
      arith,
      length-groups 4096 64 c.self.inside.groups.items c.self.invariant.0,
      groups_within c.self.inside.groups.items c.self.inside.pages.items c.self.inside.runs.items c.self.inside.unshared.items,
    )
