-- The hands of all sessions are right behind the answer.
use Rattle.std.proofs.Common.{◌≤◌, ◌∙◌, false, length, sym, arith}
use Rattle.hq_history.specs.Deposits.{tables_left}
use Rattle.hq_catalog.specs.History.{history}
use Rattle.hq_catalogtests.proofs.Worlds.{world_on}
use Rattle.hq_catalogtests.proofs.world.World.turn.Goals as goal

pub ask-hand-requires : goal.ask-hand-requires
ask-hand-requires c =
    let world = c.self.invariant.0 in
    record { tables = world.made; nodes = c.self.invariant.1; has = world.has c.args.session c.exchange-hand.result c.exchange-hand.ensures.had }

pub invariant_of-self : goal.invariant_of-self
invariant_of-self c =
    let had = c.self.inside in
    let old = history false had.catalogue in
    let new = history false c.ask-hand.new.catalogue in
    let world = c.self.invariant.0 in
    let turned = c.ask-hand.ensures.turned in
    let still : had.tables ≤ length (tables_left new) = omega (arith, world.made, turned.keep.tables) in (
      world_on old new had.hands.items c.exchange-hand.new.hands.items c.exchange-none.new.hands.items c.args.session had.tables c.made_by-self-inside.result c.empty.result c.ask-hand.result.0 world turned
          c.exchange-hand.ensures.has c.exchange-none.ensures.has (c.made_by-self-inside.ensures new still c.ask-hand.ensures.made),
      c.self.invariant.1 ∙ sym c.ask-hand.ensures.nodes,
    )
