use Rattle.std.proofs.Common.{◌≡◌, ◌++◌, false, cond, get_or, sym, ◌∙◌, ap, [], ◌∷◌}
use Rattle.hq_motion.proofs.Splitting.{up-more}
use Rattle.hq_motion.proofs.split.up_nodes.Goals as goal

pub loop-node-preserved : goal.loop-node-preserved
loop-node-preserved c = c.in_ok-add_if_up.ensures ∙ ap (λ l. l ++ cond (get_or c.args.nodes.now c.loop-node.node false) (c.loop-node.node ∷ []) []) c.loop-node.invariant ∙ sym (up-more (λ n. get_or c.args.nodes.now n false) c.loop-node.node)
