use Rattle.std.proofs.Common.{◌∙◌, ◌++◌, ◌∷◌, [], List, map, take, refl, sym, ap, subst, append_assoc}
use Rattle.std.proofs.lemmas.List.{append-nil, take_more}
use Rattle.hq_value.specs.declared.value.Value.{Value}
use Rattle.hq_ops.specs.declared.gathered.Tally.{Tally}
use Rattle.hq_ops.specs.Gathering.{HasGathered, row_faults}
use Rattle.hq_ops.proofs.Steps.{any-step}
use Rattle.hq_ops.proofs.gathering.gather.Goals as goal

pub loop-row-init : goal.loop-row-init
loop-row-init c = record {
  even = c.args.gathered.even;
  columns = refl;
  gathered = λ columns before h. subst (λ (rows : List (List Value)). HasGathered c.args.by.now columns rows c.args.gathered.keys.keys c.args.gathered.tallies.items) (sym (append-nil before)) h;
  none = refl;
}

pub loop-row-preserved : goal.loop-row-preserved
loop-row-preserved c = record {
  even = c.in_ok-gather_row.ensures.even;
  columns = c.in_ok-gather_row.ensures.columns ∙ c.loop-row.invariant.columns;
  gathered = λ columns before h.
      let more = take_more c.args.rows.now c.loop-row.row-index c.row-item.result c.loop-row-test.true ∙ ap (λ x. take c.loop-row.row-index c.args.rows.now ++ x ∷ []) (sym c.row-item.is) in
      subst (λ (rows : List (List Value)). HasGathered c.args.by.now columns rows c.gather_row.new.keys.keys c.gather_row.new.tallies.items) (append_assoc before (take c.loop-row.row-index c.args.rows.now) (c.row-item.result ∷ []) ∙ ap (λ l. before ++ l) (sym more))
      (c.in_ok-gather_row.ensures.gathered columns (before ++ take c.loop-row.row-index c.args.rows.now) (c.loop-row.invariant.gathered columns before h));
  none = any-step (row_faults (map (λ (t : Tally). t.column) c.args.gathered.tallies.items)) c.args.rows.now c.loop-row.row-index c.row-item.result c.loop-row-test.true c.row-item.is c.loop-row.invariant.none
      (ap (λ cs. row_faults cs c.row-item.result) (sym c.loop-row.invariant.columns) ∙ c.in_ok-gather_row.ensures.numeric);
}
