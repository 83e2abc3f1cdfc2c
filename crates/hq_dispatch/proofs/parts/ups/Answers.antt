-- One flag more, and all of them.
use Rattle.std.proofs.Common.{◌∙◌, arith}
use Rattle.std.proofs.lemmas.List.{length-set}
use Rattle.hq_dispatch.specs.Owners.{has_flag}
use Rattle.hq_dispatch.proofs.Flags.{flag-set, all-flagged}
use Rattle.hq_dispatch.proofs.parts.ups.Goals as goal

pub loop-node-preserved : goal.loop-node-preserved
loop-node-preserved c = record {
  so_far = flag-set (has_flag c.args.marks.now) c.loop-node.flags c.loop-node.node c.is_up.result (omega (arith, c.loop-node.invariant.len)) c.is_up.ensures c.loop-node.invariant.so_far;
  len = length-set c.loop-node.flags c.loop-node.node c.is_up.result ∙ c.loop-node.invariant.len;
}

pub returns : goal.returns
returns c = all-flagged c.loop-node.flags (has_flag c.args.marks.now) (λ k within. c.loop-node.invariant.so_far k (omega (arith, within)))
