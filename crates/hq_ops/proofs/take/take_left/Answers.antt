use Rattle.std.proofs.Common.{◌∙◌}
use Rattle.hq_meaning.specs.Operators.{joined}
use Rattle.hq_ops.proofs.Pipes.{took-left}
use Rattle.hq_ops.proofs.take.take_left.Goals as goal

pub returns : goal.returns
returns c op build pushed given h =
    took-left op build pushed given c.args.rows.items _ c.args.left_keys c.args.right_keys c.args.right h
    (rw c.deref.ensures.value at (rw c.as_slice.ensures at c.in_ok-found.ensures) ∙ (λ i. joined c.args.left_keys.now (h.keys_are i) c.args.rows.items (h.rows_are i)))
