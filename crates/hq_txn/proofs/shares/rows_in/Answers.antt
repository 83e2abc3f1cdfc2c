-- The share in its place.
use Rattle.std.proofs.Common.{◌∙◌, [], All, ap, subst, sym}
use Rattle.std.proofs.lemmas.List.{get_or_default}
use Rattle.hq_value.specs.Kinds.{Fits}
use Rattle.hq_lane.specs.Packing.{chosen_rows}
use Rattle.hq_txn.proofs.shares.rows_in.Goals as goal

pub returns-clause-rows : goal.returns-clause-rows
returns-clause-rows c = ap chosen_rows (c.as_slice.ensures ∙ c.index-shares-bucket.is ∙ get_or_default c.args.shares.now c.args.bucket c.index-shares-bucket.result [] c.requires.here)

pub returns-clause-fit : goal.returns-clause-fit
returns-clause-fit c = subst (All (Fits c.args.kinds.now)) (sym (ap chosen_rows (c.as_slice.ensures ∙ c.index-shares-bucket.is ∙ get_or_default c.args.shares.now c.args.bucket c.index-shares-bucket.result [] c.requires.here))) c.requires.fit
