use Rattle.std.proofs.Common.{◌<◌, length, refl, sym, subst, arith}
use Rattle.hq_ops.specs.declared.gathered.Tally.{Tally}
use Rattle.hq_ops.specs.Columns.{reads_fault}
use Rattle.hq_ops.specs.Gathering.{started}
use Rattle.hq_ops.proofs.Steps.{any-step}
use Rattle.hq_ops.proofs.Tallies.{front-grew, all-grew, was-there}
use Rattle.hq_ops.proofs.gathering.add_to_all.Goals as goal

pub loop-at-init : goal.loop-at-init
loop-at-init c = record {
  front = record { count = refl; columns = λ n d h. absurd (omega (arith, h)); grew = λ n d h. absurd (omega (arith, h)); rest = λ n d h. refl };
  none = refl;
}

pub add_to-requires : goal.add_to-requires
add_to-requires c =
    let old = c.index_mut-tally.result.now in
    let low : c.loop-at.at < length c.loop-at.tallies.items = omega (arith, c.loop-at.invariant.front.count) in
    subst (λ (t : Tally). c.args.index < length (started c.args.fresh t.groups.items))
    (sym (was-there c.args.index c.args.fresh c.args.row.now c.args.tallies.now.items c.loop-at.tallies.items c.loop-at.at old c.loop-at.invariant.front low c.index_mut-tally.ensures.value old))
    (c.requires c.loop-at.at old (omega (arith, c.loop-at.invariant.front.count)))

pub loop-at-preserved : goal.loop-at-preserved
loop-at-preserved c =
    let old = c.index_mut-tally.result.now in
    record {
      front = front-grew c.args.index c.args.fresh c.args.row.now c.args.tallies.now.items c.loop-at.tallies.items c.loop-at.at old c.add_to.new.tally c.loop-at.invariant.front (omega (arith, c.loop-at.invariant.front.count)) c.index_mut-tally.ensures.value
          c.in_ok-add_to.ensures.column c.in_ok-add_to.ensures.grew;
      none = any-step (λ (t : Tally). reads_fault t.column c.args.row.now) c.args.tallies.now.items c.loop-at.at old (omega (arith, c.loop-at.invariant.front.count))
          (was-there c.args.index c.args.fresh c.args.row.now c.args.tallies.now.items c.loop-at.tallies.items c.loop-at.at old c.loop-at.invariant.front (omega (arith, c.loop-at.invariant.front.count)) c.index_mut-tally.ensures.value old)
          c.loop-at.invariant.none c.in_ok-add_to.ensures.numeric;
    }

pub returns-clause-grew : goal.returns-clause-grew
returns-clause-grew c = all-grew c.args.index c.args.fresh c.args.row.now c.args.tallies.now.items c.loop-at.tallies.items c.loop-at.at c.loop-at.invariant.front (omega arith)
