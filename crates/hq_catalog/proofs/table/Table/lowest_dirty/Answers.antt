-- It is the lowest, or there is none.
use Rattle.std.proofs.Common.{below_more, sym, ◌∙◌, arith}
use Rattle.std.proofs.lemmas.List.{length-map}
use Rattle.hq_pool.specs.Slots.{places, place_of}
use Rattle.hq_catalog.proofs.LeftKinds.{lowest, no_lowest}
use Rattle.hq_catalog.proofs.table.Table.lowest_dirty.Goals as goal

pub loop-n-preserved : goal.loop-n-preserved
loop-n-preserved g c = below_more _ _ c.loop-n.invariant (sym c.has_tail.ensures ∙ c.if-has_tail.false)

pub returns-then-has_tail : goal.returns-then-has_tail
returns-then-has_tail g c =
    let ss = c.args.self.now.slots in
    lowest (places ss) c.loop-n.n (omega (arith, length-map ss place_of, c.requires)) c.loop-n.invariant (sym c.has_tail.ensures ∙ c.if-has_tail.true)

pub returns : goal.returns
returns g c =
    let ss = c.args.self.now.slots in
    no_lowest (places ss) (λ m h. c.loop-n.invariant m (omega (arith, h, length-map ss place_of, c.requires)))
