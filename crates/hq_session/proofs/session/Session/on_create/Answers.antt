use Rattle.std.proofs.Common.{◌&&◌, Bool, List, Some, false, refl, sym, ap, subst}
use Rattle.hq_lane.specs.Lanes.{LaneState}
use Rattle.hq_catalog.specs.declared.ask.Answer.{Answer}
use Rattle.hq_reply.specs.declared.reply.Reply.TheVariants as reply
use Rattle.hq_transcript.specs.Binds.{binds}
use Rattle.hq_txn.specs.Transactions.{Transaction}
use Rattle.hq_turns.specs.Hand.{InHand}
use Rattle.hq_turns.specs.Now.{Heard}
use Rattle.hq_turns.proofs.Changing.{on-made, on-exists, on-too-many, on-create-short}
use Rattle.hq_session.proofs.Hearing.{at-rest, hand-of-create}
use Rattle.hq_session.proofs.Outcomes.{replies, no-ask}
use Rattle.hq_session.proofs.session.Session.on_create.Goals as goal

pub returns-in-Made-clause-carries : goal.returns-in-Made-clause-carries
returns-in-Made-clause-carries g c rows now after a k d w later heard =
    let told : Bool = g.F.StoredFile.tells && g.Z.SealCopy.tells in
    replies told after false (Some reply.Created) c.reply.new.self c.args.self.now.txn d c.reply.result
    (on-made binds told rows c.args.self.now.nodes c.args.self.now.number now after a c.args.self.now.txn k d w later c.in-Made.table
    (subst (λ (x : Answer g.row.F.Denot g.row.Z.Denot). Heard rows told c.args.self.now.nodes c.args.self.now.number now a x after) c.in-Made.is heard))
    refl c.reply.ensures.txn c.reply.ensures.turn

pub returns-in-Made-clause-hand : goal.returns-in-Made-clause-hand
returns-in-Made-clause-hand g c rows now after a k w x heard =
    at-rest g.F.StoredFile.tells g.Z.SealCopy.tells c.args.self.now.nodes c.args.self.now.number after.history (Some reply.Created) c.reply.result c.reply.new.self.txn.lanes c.reply.ensures.turn
    (subst (λ (ls : List LaneState). InHand g.F.StoredFile.tells g.Z.SealCopy.tells c.args.self.now.number after.history ls) (sym (ap (λ (t : Transaction). t.lanes) c.reply.ensures.txn))
    (hand-of-create g.F.StoredFile.tells g.Z.SealCopy.tells rows c.args.self.now.nodes c.args.self.now.number now after c.args.self.now.txn k a c.args.answer c.requires.sound w x heard))

pub returns-in-Made-clause-turn : goal.returns-in-Made-clause-turn
returns-in-Made-clause-turn g c = no-ask (Some reply.Created) c.reply.result c.reply.ensures.turn

pub returns-in-Exists-clause-carries : goal.returns-in-Exists-clause-carries
returns-in-Exists-clause-carries g c rows now after a k d w later heard =
    let told : Bool = g.F.StoredFile.tells && g.Z.SealCopy.tells in
    c.refuse.ensures.carries after d
    (on-exists binds told rows c.args.self.now.nodes c.args.self.now.number now after a c.args.self.now.txn k d w later
    (subst (λ (x : Answer g.row.F.Denot g.row.Z.Denot). Heard rows told c.args.self.now.nodes c.args.self.now.number now a x after) c.in-Exists.is heard))
    refl

pub returns-in-Exists-clause-hand : goal.returns-in-Exists-clause-hand
returns-in-Exists-clause-hand g c rows now after a k w x heard =
    c.refuse.ensures.hand after.history
    (hand-of-create g.F.StoredFile.tells g.Z.SealCopy.tells rows c.args.self.now.nodes c.args.self.now.number now after c.args.self.now.txn k a c.args.answer c.requires.sound w x heard)

pub returns-in-TooManyTables-clause-carries : goal.returns-in-TooManyTables-clause-carries
returns-in-TooManyTables-clause-carries g c rows now after a k d w later heard =
    let told : Bool = g.F.StoredFile.tells && g.Z.SealCopy.tells in
    c.refuse-in-TooManyTables.ensures.carries after d
    (on-too-many binds told rows c.args.self.now.nodes c.args.self.now.number now after a c.args.self.now.txn k d w later c.in-TooManyTables.made
    (subst (λ (x : Answer g.row.F.Denot g.row.Z.Denot). Heard rows told c.args.self.now.nodes c.args.self.now.number now a x after) c.in-TooManyTables.is heard))
    refl

pub returns-in-TooManyTables-clause-hand : goal.returns-in-TooManyTables-clause-hand
returns-in-TooManyTables-clause-hand g c rows now after a k w x heard =
    c.refuse-in-TooManyTables.ensures.hand after.history
    (hand-of-create g.F.StoredFile.tells g.Z.SealCopy.tells rows c.args.self.now.nodes c.args.self.now.number now after c.args.self.now.txn k a c.args.answer c.requires.sound w x heard)

pub returns-in-NoMemory-clause-carries : goal.returns-in-NoMemory-clause-carries
returns-in-NoMemory-clause-carries g c rows now after a k d w later heard =
    let told : Bool = g.F.StoredFile.tells && g.Z.SealCopy.tells in
    c.refuse-in-NoMemory.ensures.carries after d
    (on-create-short binds told rows c.args.self.now.nodes c.args.self.now.number now after a c.args.self.now.txn k d w later
    (subst (λ (x : Answer g.row.F.Denot g.row.Z.Denot). Heard rows told c.args.self.now.nodes c.args.self.now.number now a x after) c.in-NoMemory.is heard))
    refl

pub returns-in-NoMemory-clause-hand : goal.returns-in-NoMemory-clause-hand
returns-in-NoMemory-clause-hand g c rows now after a k w x heard =
    c.refuse-in-NoMemory.ensures.hand after.history
    (hand-of-create g.F.StoredFile.tells g.Z.SealCopy.tells rows c.args.self.now.nodes c.args.self.now.number now after c.args.self.now.txn k a c.args.answer c.requires.sound w x heard)
