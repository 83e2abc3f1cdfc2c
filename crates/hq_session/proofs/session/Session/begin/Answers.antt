use Rattle.std.proofs.Common.{◌∙◌, ◌&&◌, Bool, List, Some, false, refl, sym, ap, subst}
use Rattle.hq_lane.specs.Lanes.{LaneState}
use Rattle.hq_reply.specs.declared.reply.Reply.TheVariants as reply
use Rattle.hq_transcript.specs.Binds.{binds}
use Rattle.hq_txn.specs.Transactions.{Transaction}
use Rattle.hq_turns.specs.Hand.{InHand}
use Rattle.hq_turns.proofs.Answering.{begins, begin-in-open, begin-in-failed}
use Rattle.hq_session.proofs.Hearing.{at-rest}
use Rattle.hq_session.proofs.Outcomes.{replies, no-ask}
use Rattle.hq_session.proofs.Sounds.{sound-same, sound-begun}
use Rattle.hq_session.proofs.session.Session.begin.Goals as goal

pub returns-in-Idle-clause-carries : goal.returns-in-Idle-clause-carries
returns-in-Idle-clause-carries g c now k b =
    let told : Bool = g.F.StoredFile.tells && g.Z.SealCopy.tells in
    replies told now false (Some reply.Begun) c.reply.new.self c.begin.new.self k c.reply.result
    (begins binds told now c.args.snapshot c.args.self.now.txn k b c.begin.new.self (sym c.state.ensures ∙ c.in-Idle.is)
    (ap (λ (t : Transaction). t.state) c.begin.ensures) (ap (λ (t : Transaction). t.lanes) c.begin.ensures))
    refl c.reply.ensures.txn c.reply.ensures.turn

pub returns-in-Idle-clause-hand : goal.returns-in-Idle-clause-hand
returns-in-Idle-clause-hand g c history x =
    at-rest g.F.StoredFile.tells g.Z.SealCopy.tells c.args.self.now.nodes c.args.self.now.number history (Some reply.Begun) c.reply.result c.reply.new.self.txn.lanes c.reply.ensures.turn
    (subst (λ (ls : List LaneState). InHand g.F.StoredFile.tells g.Z.SealCopy.tells c.args.self.now.number history ls)
    (sym (ap (λ (t : Transaction). t.lanes) c.reply.ensures.txn ∙ ap (λ (t : Transaction). t.lanes) c.begin.ensures)) x)

pub returns-in-Idle-clause-turn : goal.returns-in-Idle-clause-turn
returns-in-Idle-clause-turn g c = no-ask (Some reply.Begun) c.reply.result c.reply.ensures.turn

pub returns-in-Idle-clause-sound : goal.returns-in-Idle-clause-sound
returns-in-Idle-clause-sound g c =
    sound-same c.begin.new.self c.reply.new.self.txn c.reply.ensures.txn (sound-begun c.args.self.now.txn c.begin.new.self c.args.snapshot c.begin.ensures c.requires.sound)

pub returns-in-Open-clause-carries : goal.returns-in-Open-clause-carries
returns-in-Open-clause-carries g c now k b =
    c.refuse.ensures.carries now k
    (begin-in-open binds (g.F.StoredFile.tells && g.Z.SealCopy.tells) now c.args.snapshot c.args.self.now.txn k b (sym c.state.ensures ∙ c.in-Open.is)) refl

pub returns-in-Failed-clause-carries : goal.returns-in-Failed-clause-carries
returns-in-Failed-clause-carries g c now k b =
    c.refuse-in-Failed.ensures.carries now k
    (begin-in-failed binds (g.F.StoredFile.tells && g.Z.SealCopy.tells) now c.args.snapshot c.args.self.now.txn k b (sym c.state.ensures ∙ c.in-Failed.is)) refl
