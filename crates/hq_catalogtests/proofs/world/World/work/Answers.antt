-- The hands of all sessions are right behind the work.
use Rattle.std.proofs.Common.{false}
use Rattle.hq_catalog.specs.History.{history}
use Rattle.hq_catalogtests.proofs.Worked.{ready}
use Rattle.hq_catalogtests.proofs.Worlds.{world_same}
use Rattle.hq_catalogtests.proofs.world.World.work.Goals as goal

pub worked-hand-requires : goal.worked-hand-requires
worked-hand-requires c =
    let hand = c.exchange-hand.result in
    let has = c.self.invariant.0.has c.args.session hand c.exchange-hand.ensures.had in
    ready c.args.session (history false c.self.inside.catalogue) hand.sealed.items hand.held has.held

pub invariant_of-self : goal.invariant_of-self
invariant_of-self c =
    let had = c.self.inside in
    let old = history false had.catalogue in
    let world = c.self.invariant.0 in
    let has = world.has c.args.session c.exchange-hand.result c.exchange-hand.ensures.had in (
      world_same old had.hands.items c.exchange-hand.new.hands.items c.exchange-none.new.hands.items c.args.session had.tables c.empty.result c.worked-hand.result world (c.worked-hand.ensures c.args.session old has)
          c.exchange-hand.ensures.has c.exchange-none.ensures.has,
      c.self.invariant.1,
    )
