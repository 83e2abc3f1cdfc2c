use Rattle.std.proofs.Common.{◌∙◌, ◌&&◌, Bool, List, None, Err, false, refl, sym, ap, subst}
use Rattle.hq_lane.specs.Lanes.{LaneState}
use Rattle.hq_transcript.specs.Binds.{binds}
use Rattle.hq_txn.specs.Transactions.{Transaction}
use Rattle.hq_turns.specs.Hand.{InHand}
use Rattle.hq_turns.proofs.Answering.{blank, no-statement}
use Rattle.hq_turns.proofs.Counting.{later-same}
use Rattle.hq_session.proofs.Hearing.{at-rest}
use Rattle.hq_session.proofs.Outcomes.{replies}
use Rattle.hq_session.proofs.Readings.{begins-blank, begins-statement, begins-none, begins-short}
use Rattle.hq_session.proofs.Sounds.{sound-same}
use Rattle.hq_session.proofs.session.Session.text.Goals as goal

pub returns-then-is_blank-clause-carries : goal.returns-then-is_blank-clause-carries
returns-then-is_blank-clause-carries g c now b =
    let told : Bool = g.F.StoredFile.tells && g.Z.SealCopy.tells in
    replies told now false None c.reply.new.self c.args.self.now.txn _ c.reply.result
    (blank binds told now c.args.self.now.txn _ (begins-blank told now c.args.text.now c.args.self.now.txn _ b (sym c.is_blank.ensures ∙ c.if-is_blank.true)))
    refl c.reply.ensures.txn c.reply.ensures.turn

pub returns-then-is_blank-clause-hand : goal.returns-then-is_blank-clause-hand
returns-then-is_blank-clause-hand g c history x =
    at-rest g.F.StoredFile.tells g.Z.SealCopy.tells c.args.self.now.nodes c.args.self.now.number history None c.reply.result c.reply.new.self.txn.lanes c.reply.ensures.turn
    (subst (λ (ls : List LaneState). InHand g.F.StoredFile.tells g.Z.SealCopy.tells c.args.self.now.number history ls) (sym (ap (λ (t : Transaction). t.lanes) c.reply.ensures.txn)) x)

pub returns-then-is_blank-clause-later : goal.returns-then-is_blank-clause-later
returns-then-is_blank-clause-later g c = later-same _

pub returns-then-is_blank-clause-sound : goal.returns-then-is_blank-clause-sound
returns-then-is_blank-clause-sound g c = sound-same c.args.self.now.txn c.reply.new.self.txn c.reply.ensures.txn c.requires.sound

pub returns-in-Ok-clause-carries : goal.returns-in-Ok-clause-carries
returns-in-Ok-clause-carries g c now b =
    c.statement.ensures.carries now
    (begins-statement (g.F.StoredFile.tells && g.Z.SealCopy.tells) now c.args.text.now c.args.self.now.txn _ b c.in-Ok.statement (sym c.is_blank.ensures ∙ c.if-is_blank.false) c.in-Ok.ensures.found)

pub returns-in-Err-Syntax-clause-carries : goal.returns-in-Err-Syntax-clause-carries
returns-in-Err-Syntax-clause-carries g c now b =
    let told : Bool = g.F.StoredFile.tells && g.Z.SealCopy.tells in
    c.refuse.ensures.carries now _
    (no-statement binds told now c.args.self.now.txn _
    (begins-none told now c.args.text.now c.args.self.now.txn _ b (sym c.is_blank.ensures ∙ c.if-is_blank.false) (c.in-Err-Syntax.ensures.none (ap Err c.in-Err-Syntax.field-0-is)))) refl

pub returns-in-Err-Syntax-clause-later : goal.returns-in-Err-Syntax-clause-later
returns-in-Err-Syntax-clause-later g c = later-same _

pub returns-in-Err-NoMemory-clause-carries : goal.returns-in-Err-NoMemory-clause-carries
returns-in-Err-NoMemory-clause-carries g c now b =
    c.refuse-in-Err-NoMemory.ensures.carries now _
    (begins-short (g.F.StoredFile.tells && g.Z.SealCopy.tells) now c.args.text.now c.args.self.now.txn _ b (sym c.is_blank.ensures ∙ c.if-is_blank.false) (c.in-Err-NoMemory.ensures.short (ap Err c.in-Err-NoMemory.field-0-is))) refl

pub returns-in-Err-NoMemory-clause-later : goal.returns-in-Err-NoMemory-clause-later
returns-in-Err-NoMemory-clause-later g c = later-same _
