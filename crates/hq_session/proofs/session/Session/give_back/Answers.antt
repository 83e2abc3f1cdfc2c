use Rattle.std.proofs.Common.{◌∙◌, ◌&&◌, List, length, refl, sym, ap, subst, arith}
use Rattle.hq_lane.specs.Lanes.{LaneState}
use Rattle.hq_catalog.specs.declared.ask.Ask.TheVariants as ask
use Rattle.hq_txn.specs.Transactions.{Transaction, lane_at, no_lane}
use Rattle.hq_transcript.specs.Binds.{binds}
use Rattle.hq_turns.specs.Hand.{InHand}
use Rattle.hq_turns.proofs.Ending.{backs}
use Rattle.hq_session.proofs.Handed.{lawful-back, same-slot}
use Rattle.hq_session.proofs.Hearing.{at-rest}
use Rattle.hq_session.proofs.Outcomes.{replies-given, never-asks}
use Rattle.hq_session.proofs.Sounds.{sound-aborted, sound-none, sound-same}
use Rattle.hq_session.proofs.session.Session.give_back.Goals as goal

pub returns-in-Some-clause-carries : goal.returns-in-Some-clause-carries
returns-in-Some-clause-carries g c now o =
    let first = lane_at c.args.self.now.txn.lanes 0 in
    backs binds (g.F.StoredFile.tells && g.Z.SealCopy.tells) now (ask.Back c.in-Some.lane) c.args.reply c.args.self.now.txn c.abort_first.new.txn _ _ first c.in-Some.lane o refl
    c.in-Some.ensures.there (same-slot first c.in-Some.lane c.in-Some.ensures.first) c.abort_first.ensures.later c.in-Some.ensures.tail

pub returns-in-Some-clause-hand : goal.returns-in-Some-clause-hand
returns-in-Some-clause-hand g c history x =
    let first = lane_at c.args.self.now.txn.lanes 0 in
    lawful-back g.F.StoredFile.tells g.Z.SealCopy.tells c.args.self.now.number history first c.in-Some.lane c.abort_first.new.txn.lanes _
    (subst (λ (ls : List LaneState). InHand g.F.StoredFile.tells g.Z.SealCopy.tells c.args.self.now.number history ls) c.in-Some.ensures.there x)
    c.in-Some.ensures.first c.in-Some.ensures.kept c.in-Some.ensures.cut c.args.self.now.nodes (ask.Back c.in-Some.lane) refl
    (c.requires.sound.no_seal 0 no_lane (omega (arith, ap length c.in-Some.ensures.there)))

pub returns-in-Some-clause-fewer : goal.returns-in-Some-clause-fewer
returns-in-Some-clause-fewer g c = λ h. omega (arith, ap length c.in-Some.ensures.there)

pub returns-in-Some-clause-sound : goal.returns-in-Some-clause-sound
returns-in-Some-clause-sound g c = sound-aborted c.args.self.now.txn c.abort_first.new.txn c.abort_first.new.txn.spare c.in-Some.ensures.failed c.requires.sound

pub returns-in-None-clause-carries : goal.returns-in-None-clause-carries
returns-in-None-clause-carries g c now o =
    replies-given (g.F.StoredFile.tells && g.Z.SealCopy.tells) now c.args.reply c.reply.new.self c.args.self.now.txn c.abort_first.new.txn _ _ c.reply.result o
    c.abort_first.ensures.later (c.in-None.ensures.none refl) (c.in-None.ensures.idle refl) c.reply.ensures.txn c.reply.ensures.turn

pub returns-in-None-clause-hand : goal.returns-in-None-clause-hand
returns-in-None-clause-hand g c history x =
    at-rest g.F.StoredFile.tells g.Z.SealCopy.tells c.args.self.now.nodes c.args.self.now.number history c.args.reply c.reply.result c.reply.new.self.txn.lanes c.reply.ensures.turn
    (subst (λ (ls : List LaneState). InHand g.F.StoredFile.tells g.Z.SealCopy.tells c.args.self.now.number history ls)
    (sym (ap (λ (t : Transaction). t.lanes) c.reply.ensures.txn ∙ ap (λ (t : Transaction). t.lanes) (c.in-None.ensures.idle refl))) x)

pub returns-in-None-clause-fewer : goal.returns-in-None-clause-fewer
returns-in-None-clause-fewer g c = λ h. absurd (never-asks c.args.reply c.reply.result c.reply.ensures.turn h)

pub returns-in-None-clause-sound : goal.returns-in-None-clause-sound
returns-in-None-clause-sound g c =
    sound-same c.abort_first.new.txn c.reply.new.self.txn c.reply.ensures.txn
    (sound-none c.args.self.now.txn c.abort_first.new.txn (c.in-None.ensures.idle refl) (c.in-None.ensures.none refl) c.requires.sound)
