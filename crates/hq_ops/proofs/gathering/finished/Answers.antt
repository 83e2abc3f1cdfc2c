use Rattle.std.proofs.Common.{◌∙◌, ◌==◌, Bool, length, ap, subst, map}
use Rattle.std.specs.List.{list_any}
use Rattle.std.proofs.lemmas.Result.{IfOk-weaker}
use Rattle.hq_meaning.specs.Groups.{members}
use Rattle.hq_ops.specs.Ends.{StopsAt}
use Rattle.hq_ops.specs.Grouping.{key_by, width_by}
use Rattle.hq_ops.specs.Gathering.{group_row, leaves_over}
use Rattle.hq_ops.proofs.Gathers.{group-rows, group-leaves, all-keys, one-group, both-of, not-both}
use Rattle.hq_ops.proofs.gathering.finished.Goals as goal

pub returns-then-has_one_group-clause-rows : goal.returns-then-has_one_group-clause-rows
returns-then-has_one_group-clause-rows c columns rows h =
    let p = both-of _ _ c.if-has_one_group.ensures in
    IfOk-weaker c.one_row.result _ _ (λ found e. e ∙ (one-group c.args.by.now columns rows _ _ h p.0 p.1).0) (rw c.deref.ensures.value at c.one_row.ensures.rows)

pub returns-then-has_one_group-clause-numeric : goal.returns-then-has_one_group-clause-numeric
returns-then-has_one_group-clause-numeric c columns rows h =
    let p = both-of _ _ c.if-has_one_group.ensures in
    subst (λ (b : Bool). StopsAt c.one_row.result b) ((one-group c.args.by.now columns rows _ _ h p.0 p.1).1) (rw c.deref.ensures.value at c.one_row.ensures.numeric)

pub returns-clause-rows : goal.returns-clause-rows
returns-clause-rows c columns rows h =
    let some = not-both (length c.args.gathered.now.keys.keys == 0) (width_by c.args.by.now == 0) c.if-has_one_group.ensures in
    IfOk-weaker c.all_rows.result _ _ (λ found e. e ∙ group-rows c.args.by.now columns rows _ _ h ∙ ap (map (group_row c.args.by.now columns rows)) (all-keys c.args.by.now columns rows _ _ h some)) (rw c.deref-2.ensures.value at (rw c.as_slice.ensures.keys at c.all_rows.ensures.rows))

pub returns-clause-numeric : goal.returns-clause-numeric
returns-clause-numeric c columns rows h =
    let some = not-both (length c.args.gathered.now.keys.keys == 0) (width_by c.args.by.now == 0) c.if-has_one_group.ensures in
    subst (λ (b : Bool). StopsAt c.all_rows.result b) (group-leaves c.args.by.now columns rows _ _ h ∙ ap (list_any (λ k. list_any (leaves_over (members (key_by c.args.by.now) k rows)) columns)) (all-keys c.args.by.now columns rows _ _ h some)) (rw c.deref-2.ensures.value at (rw c.as_slice.ensures.keys at c.all_rows.ensures.numeric))
