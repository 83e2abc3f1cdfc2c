use Rattle.std.proofs.Common.{◌∙◌, ap, ℕ, ◌+◌, ◌-◌, ◌*◌, ◌++◌, List, min}
use Rattle.std.specs.String.{string_bytes}
use Rattle.hq_load.specs.Scripts.{RowsLeft, group_text}
use Rattle.hq_load.proofs.Scripts.{groups_text-more, groups-more, group-taken, group-left}
use Rattle.hq_load.proofs.script.write_groups.Goals as goal

pub loop-group-preserved : goal.loop-group-preserved
loop-group-preserved c =
    let seed = c.args.seed in
    let session = c.args.session in
    let rows = c.args.rows in
    let group = c.loop-group.group in
    let before = c.loop-group.invariant.taken in
    let left = group-left rows _ group c.div_ceil-group-end.ensures c.loop-group-test.true in
    let next = 100 * group + min 100 (rows - 100 * group) in
    let moved : RowsLeft → RowsLeft = λ r. record r { next = next } in
    let place : ℕ → RowsLeft = λ n. record { seed = seed; session = session; next = n } in
    let text_of : RowsLeft → List ℕ = λ r. string_bytes c.loop-group.script ++ group_text r.seed r.session rows group in
    record {
      taken = c.in_ok-write_group.ensures.next ∙ ap moved before ∙ ap place (group-taken rows group left);
      text = groups-more (string_bytes c.args.script.now) _ _ _ _ _ c.loop-group.invariant.text
          (c.in_ok-write_group.ensures.text ∙ ap text_of before) (groups_text-more seed session rows group);
    }
