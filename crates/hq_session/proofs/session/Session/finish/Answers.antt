use Rattle.std.proofs.Common.{◌&&◌, List, sym, ap, subst}
use Rattle.hq_lane.specs.Lanes.{LaneState}
use Rattle.hq_txn.specs.Transactions.{Transaction}
use Rattle.hq_turns.specs.Hand.{InHand}
use Rattle.hq_session.proofs.Hearing.{at-rest}
use Rattle.hq_session.proofs.Outcomes.{replies, owes-given, never-asks}
use Rattle.hq_session.proofs.Sounds.{sound-same}
use Rattle.hq_session.proofs.session.Session.finish.Goals as goal

pub returns-then-give-clause-carries : goal.returns-then-give-clause-carries
returns-then-give-clause-carries g c now o =
    c.give_back.ensures.carries now (owes-given (g.F.StoredFile.tells && g.Z.SealCopy.tells) now c.args.give c.args.reply c.args.self.now.txn _ c.if-give.true o)

pub returns-clause-carries : goal.returns-clause-carries
returns-clause-carries g c now o =
    replies (g.F.StoredFile.tells && g.Z.SealCopy.tells) now c.args.give c.args.reply c.reply.new.self c.args.self.now.txn _ c.reply.result o c.if-give.false c.reply.ensures.txn c.reply.ensures.turn

pub returns-clause-hand : goal.returns-clause-hand
returns-clause-hand g c history x =
    at-rest g.F.StoredFile.tells g.Z.SealCopy.tells c.args.self.now.nodes c.args.self.now.number history c.args.reply c.reply.result c.reply.new.self.txn.lanes c.reply.ensures.turn
    (subst (λ (ls : List LaneState). InHand g.F.StoredFile.tells g.Z.SealCopy.tells c.args.self.now.number history ls) (sym (ap (λ (t : Transaction). t.lanes) c.reply.ensures.txn)) x)

pub returns-clause-fewer : goal.returns-clause-fewer
returns-clause-fewer g c = λ h. absurd (never-asks c.args.reply c.reply.result c.reply.ensures.turn h)

pub returns-clause-sound : goal.returns-clause-sound
returns-clause-sound g c = sound-same c.args.self.now.txn c.reply.new.self.txn c.reply.ensures.txn c.requires.sound
