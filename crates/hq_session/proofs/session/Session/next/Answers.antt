use Rattle.std.proofs.Common.{lit<, ◌&&◌, subst, arith}
use Rattle.hq_turns.specs.Counts.{counts_of}
use Rattle.hq_session.specs.declared.turn.Input.{Input}
use Rattle.hq_session.specs.Waits.{CanTake, Takes, TakesLanes}
use Rattle.hq_session.proofs.session.Session.next.Goals as goal

pub hear-requires : goal.hear-requires
hear-requires g c = (
  lit< tt,
  (
    lit< tt,
    (
      subst (λ (x : Input g.row.F.Denot g.row.Z.Denot). CanTake c.args.self.now.awaited x) c.in-Answer.is c.requires.can,
      (omega (arith, c.requires.some, c.requires.benches), c.requires.sound),
    ),
  ),
)

pub returns-in-Piece-clause-carries : goal.returns-in-Piece-clause-carries
returns-in-Piece-clause-carries g c now h =
    c.piece.ensures.carries now
    (subst (λ (x : Input g.row.F.Denot g.row.Z.Denot). Takes (g.F.StoredFile.tells && g.Z.SealCopy.tells) c.args.self.now.nodes c.args.self.now.number now x c.args.self.now.txn (counts_of g.S.Store.faults g.H.Host.checks g.H.Host.faults g.L.Link.state c.args.benches.now.items) c.args.self.now.awaited) c.in-Piece.is h)

pub returns-in-Piece-clause-hand : goal.returns-in-Piece-clause-hand
returns-in-Piece-clause-hand g c now h =
    c.piece.ensures.hand now.history
    (subst (λ (x : Input g.row.F.Denot g.row.Z.Denot). TakesLanes g.F.StoredFile.tells g.Z.SealCopy.tells c.args.self.now.nodes c.args.self.now.number now x c.args.self.now.txn (counts_of g.S.Store.faults g.H.Host.checks g.H.Host.faults g.L.Link.state c.args.benches.now.items) c.args.self.now.awaited) c.in-Piece.is h)

pub returns-in-Answer-clause-carries : goal.returns-in-Answer-clause-carries
returns-in-Answer-clause-carries g c now h =
    let a = subst (λ (x : Input g.row.F.Denot g.row.Z.Denot). Takes (g.F.StoredFile.tells && g.Z.SealCopy.tells) c.args.self.now.nodes c.args.self.now.number now x c.args.self.now.txn (counts_of g.S.Store.faults g.H.Host.checks g.H.Host.faults g.L.Link.state c.args.benches.now.items) c.args.self.now.awaited) c.in-Answer.is h in
    c.hear.ensures.carries a.file_rows a.before now a.ask a.counts a.waits a.later a.heard

pub returns-in-Answer-clause-hand : goal.returns-in-Answer-clause-hand
returns-in-Answer-clause-hand g c now h =
    let a = subst (λ (x : Input g.row.F.Denot g.row.Z.Denot). TakesLanes g.F.StoredFile.tells g.Z.SealCopy.tells c.args.self.now.nodes c.args.self.now.number now x c.args.self.now.txn (counts_of g.S.Store.faults g.H.Host.checks g.H.Host.faults g.L.Link.state c.args.benches.now.items) c.args.self.now.awaited) c.in-Answer.is h in
    c.hear.ensures.hand a.0.file_rows a.0.before now a.0.ask a.0.counts a.0.waits a.1 a.0.heard
