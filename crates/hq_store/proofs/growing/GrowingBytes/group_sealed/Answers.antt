-- Pages below `sealed` go to the groups.
use Rattle.std.proofs.Common.{◌≡◌, ◌∙◌, length, sym, ap, arith}
use Rattle.hq_store.specs.Pages.{Grown, flat, joined}
use Rattle.hq_store.proofs.Joined.{length-groups, groups_within, bytes_stay}
use Rattle.hq_store.proofs.growing.GrowingBytes.group_sealed.Goals as goal

pub overflow_mul-below : goal.overflow_mul-below
overflow_mul-below c =
    omega (
      arith,
      length-groups 4096 64 c.self.inside.groups.items c.self.invariant.0,
      groups_within c.self.inside.groups.items c.self.inside.pages.items c.self.inside.runs.items c.self.inside.unshared.items,
    )

pub overflow_sub-below : goal.overflow_sub-below
overflow_sub-below c =
    let fixed : length (flat (flat c.self.inside.groups.items)) ≡ c.args.self.now.fixed = ap (λ (g : Grown). g.fixed) c.self.view_is in
    omega (arith, length-groups 4096 64 c.self.inside.groups.items c.self.invariant.0)

pub invariant_of-self : goal.invariant_of-self
invariant_of-self c = (
  c.make_groups.ensures.groups,
  c.make_groups.ensures.whole,
  c.self.invariant.2,
  c.self.invariant.3,
  c.self.invariant.4
      ∙ ap length
      (sym (bytes_stay c.self.inside.groups.items c.make_groups.new.groups.items c.self.inside.pages.items c.make_groups.new.pages.items
      (joined c.self.inside.runs.items c.self.inside.unshared.items) c.make_groups.ensures.same)),
  c.self.invariant.5,
)

pub returns-clause-bytes : goal.returns-clause-bytes
returns-clause-bytes c =
    bytes_stay c.self.inside.groups.items c.make_groups.new.groups.items c.self.inside.pages.items c.make_groups.new.pages.items
    (joined c.self.inside.runs.items c.self.inside.unshared.items) c.make_groups.ensures.same
    ∙ ap (λ (g : Grown). g.bytes) c.self.view_is

pub returns-clause-fixed : goal.returns-clause-fixed
returns-clause-fixed c =
    let fixed : length (flat (flat c.self.inside.groups.items)) ≡ c.args.self.now.fixed = ap (λ (g : Grown). g.fixed) c.self.view_is in
    omega (
      arith,
      length-groups 4096 64 c.self.inside.groups.items c.self.invariant.0,
      length-groups 4096 64 c.make_groups.new.groups.items c.make_groups.ensures.groups,
    )
