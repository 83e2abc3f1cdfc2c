-- The kinds are those of the table.
use Rattle.std.proofs.Common.{◌∙◌, List, All, ap, subst}
use Rattle.hq_value.specs.declared.kind.Kind.{Kind}
use Rattle.hq_value.specs.Kinds.{Fits, kinds_of}
use Rattle.hq_txntests.proofs.hand.all_fit_in.Goals as goal

pub returns-in-Ok : goal.returns-in-Ok
returns-in-Ok c = λ is. subst (λ (ks : List Kind). All (Fits ks) c.args.rows.now) (c.in-Ok.ensures ∙ ap kinds_of (c.as_slice.ensures ∙ c.columns.ensures.columns)) (c.all_fit.ensures.fact.0 is)
