use Rattle.std.proofs.Common.{◌∙◌, ◌&&◌, List, Some, sym, ap, subst}
use Rattle.hq_lane.specs.Lanes.{LaneState}
use Rattle.hq_reply.specs.declared.reply.Reply.TheVariants as reply
use Rattle.hq_txn.specs.Transactions.{Transaction}
use Rattle.hq_turns.specs.Hand.{InHand}
use Rattle.hq_session.proofs.Hearing.{at-rest}
use Rattle.hq_session.proofs.Outcomes.{refuses, no-ask}
use Rattle.hq_session.proofs.Sounds.{sound-same, sound-given-up}
use Rattle.hq_session.proofs.session.Session.refuse.Goals as goal

pub returns-clause-carries : goal.returns-clause-carries
returns-clause-carries g c now k f none =
    refuses (g.F.StoredFile.tells && g.Z.SealCopy.tells) now c.args.why c.reply.new.self c.args.self.now.txn c.give_up.new.self.txn k c.reply.result f none
    c.give_up.ensures.txn c.reply.ensures.txn c.reply.ensures.turn

pub returns-clause-hand : goal.returns-clause-hand
returns-clause-hand g c history x =
    at-rest g.F.StoredFile.tells g.Z.SealCopy.tells c.args.self.now.nodes c.args.self.now.number history (Some (reply.Error c.args.why)) c.reply.result c.reply.new.self.txn.lanes c.reply.ensures.turn
    (subst (λ (ls : List LaneState). InHand g.F.StoredFile.tells g.Z.SealCopy.tells c.args.self.now.number history ls)
    (sym (ap (λ (t : Transaction). t.lanes) c.reply.ensures.txn ∙ ap (λ (t : Transaction). t.lanes) c.give_up.ensures.txn)) x)

pub returns-clause-turn : goal.returns-clause-turn
returns-clause-turn g c = no-ask (Some (reply.Error c.args.why)) c.reply.result c.reply.ensures.turn

pub returns-clause-sound : goal.returns-clause-sound
returns-clause-sound g c =
    sound-same c.give_up.new.self.txn c.reply.new.self.txn c.reply.ensures.txn (sound-given-up c.args.self.now.txn c.give_up.new.self.txn c.give_up.ensures.txn c.requires.sound)
