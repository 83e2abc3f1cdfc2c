use Rattle.std.proofs.Common.{◌++◌, ◌∷◌, [], ◌∙◌, sym, ap, append_assoc}
use Rattle.std.proofs.lemmas.List.{append-nil}
use Rattle.hq_meaning.specs.Operators.{distinct}
use Rattle.hq_ops.proofs.Firsts.{keys-step}
use Rattle.hq_ops.proofs.distinct.add_firsts.Goals as goal

pub loop-row-init : goal.loop-row-init
loop-row-init c before e = e ∙ sym (ap distinct (append-nil before))

pub loop-row-preserved : goal.loop-row-preserved
loop-row-preserved c before e =
    keys-step (before ++ c.loop-row.yielded) c.loop-row.seen.keys c.insert.new.self.keys c.in-Some.row (c.loop-row.invariant before e) c.in_ok-insert.ensures.keys
    ∙ ap distinct (append_assoc before c.loop-row.yielded (c.in-Some.row ∷ []))
