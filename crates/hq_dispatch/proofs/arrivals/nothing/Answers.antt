-- One node more, of which nothing came.
use Rattle.std.proofs.Common.{◌∙◌, ◌+◌, ℕ, [], ◌∷◌, ap, length, length-append}
use Rattle.hq_dispatch.proofs.Arriving.{came-more, storable-more, came-none}
use Rattle.hq_dispatch.proofs.arrivals.nothing.Goals as goal

pub loop-place-preserved : goal.loop-place-preserved
loop-place-preserved c = record {
  count = ap (λ l. length l) c.in_ok-push.ensures.items ∙ length-append c.loop-place.from.items (c.new.result ∷ []) ∙ ap (λ (n : ℕ). n + 1) c.loop-place.invariant.count;
  none = came-more c.loop-place.from.items c.push.new.self.items c.new.result c.in_ok-push.ensures.items (came-none c.new.result c.new.ensures.rows c.new.ensures.rest) c.loop-place.invariant.none;
  storable = λ kinds. storable-more kinds c.loop-place.from.items c.push.new.self.items c.new.result c.in_ok-push.ensures.items c.new.ensures.rows (c.loop-place.invariant.storable kinds);
}
