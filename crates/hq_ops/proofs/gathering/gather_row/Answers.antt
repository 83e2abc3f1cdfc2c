use Rattle.std.proofs.Common.{◌≡◌, ◌+◌, ◌<◌, Bool, cond, length, refl, subst, arith}
use Rattle.hq_ops.specs.Ends.{StopsAt}
use Rattle.hq_ops.specs.Grouping.{key_by}
use Rattle.hq_ops.proofs.Steps.{on-ok}
use Rattle.hq_ops.proofs.Gathers.{gathered-step, even-step, has-place, columns-same, faults-by}
use Rattle.hq_ops.proofs.gathering.gather_row.Goals as goal

pub add_to_all-requires : goal.add_to_all-requires
add_to_all-requires c =
    let more : length c.group_of.new.keys.keys ≡ length c.args.keys.now.keys + cond c.in_ok-index.fresh 1 0 = c.in_ok-index.ensures.len in
    let within : c.in_ok-index.index < length c.group_of.new.keys.keys = c.in_ok-index.ensures.within in
    has-place c.in_ok-index.index c.in_ok-index.fresh c.args.keys.now.keys c.args.tallies.now.items c.requires (omega (arith, within, more))

pub returns-clause-even : goal.returns-clause-even
returns-clause-even c =
    on-ok c.add_to_all.result _ c.add_to_all.ensures.numeric c.add_to_all.ensures.grew
    (λ fine grew. even-step c.in_ok-index.index c.in_ok-index.fresh c.args.row.now c.args.keys.now.keys c.group_of.new.keys.keys c.args.tallies.now.items _ c.requires c.in_ok-index.ensures.len grew)

pub returns-clause-columns : goal.returns-clause-columns
returns-clause-columns c =
    on-ok c.add_to_all.result _ c.add_to_all.ensures.numeric c.add_to_all.ensures.grew (λ fine grew. columns-same c.args.tallies.now.items _ grew.count grew.columns)

pub returns-clause-gathered : goal.returns-clause-gathered
returns-clause-gathered c columns before h =
    let found = c.in_ok-index.ensures.found in
    on-ok c.add_to_all.result _ c.add_to_all.ensures.numeric c.add_to_all.ensures.grew
    (λ fine grew. gathered-step c.args.by.now columns before c.args.row.now c.args.keys.now.keys c.group_of.new.keys.keys (key_by c.args.by.now c.args.row.now) c.in_ok-index.index c.in_ok-index.fresh c.args.tallies.now.items _
    h refl found.keys_are found.fresh_is found.index_is grew fine)

pub returns-clause-numeric : goal.returns-clause-numeric
returns-clause-numeric c = subst (λ (b : Bool). StopsAt c.add_to_all.result b) (faults-by c.args.tallies.now.items c.args.row.now _ refl) c.add_to_all.ensures.numeric
