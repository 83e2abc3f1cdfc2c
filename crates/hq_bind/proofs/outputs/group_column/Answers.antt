use Rattle.std.proofs.Common.{◌≡◌, ℕ, subst, IfOk}
use Rattle.std.specs.Prelude.{unwrap_or}
use Rattle.hq_bind.specs.Bound.{group_place}
use Rattle.hq_bind.proofs.outputs.group_column.Goals as goal

pub returns : goal.returns
returns c = subst (λ (n : ℕ). IfOk c.group_at.result (λ (place : ℕ). place ≡ unwrap_or (group_place c.args.groups.now n) 0)) c.source_place-column.ensures c.group_at.ensures
