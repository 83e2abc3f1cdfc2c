use Rattle.std.proofs.Common.{◌≡◌, ℕ, ◌+◌, ◌++◌, ◌∷◌, [], List, length, Vec, Global, ap, sym, subst, ◌∙◌, arith}
use Rattle.std.proofs.lemmas.List.{length-append}
use Rattle.hq_wiretests.specs.Streams.{GoDown}
use Rattle.hq_wiretests.proofs.Nodes.{down_more}
use Rattle.hq_wiretests.proofs.streams.streams.Goals as goal

pub loop-text-preserved : goal.loop-text-preserved
loop-text-preserved c =
    let len = ap length c.in_ok-push.ensures.items ∙ length-append c.loop-text.streams.items _ in
    record {
      down = subst (GoDown c.args.first) (sym c.in_ok-push.ensures.items) (down_more c.args.first c.loop-text.streams.items _ c.loop-text.invariant.top c.loop-text.invariant.down);
      top = omega (arith, c.loop-text.invariant.top, len, c.if-from-eq0.false);
    }

pub returns-then-from-eq0 : goal.returns-then-from-eq0
returns-then-from-eq0 c = subst (GoDown c.args.first) (sym c.in_ok-push.ensures.items) (down_more c.args.first c.loop-text.streams.items _ c.loop-text.invariant.top c.loop-text.invariant.down)
