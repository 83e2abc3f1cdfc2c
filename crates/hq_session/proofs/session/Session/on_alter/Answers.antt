use Rattle.std.proofs.Common.{◌&&◌, Bool, List, Some, false, refl, sym, ap, subst}
use Rattle.hq_lane.specs.Lanes.{LaneState}
use Rattle.hq_catalog.specs.declared.ask.Answer.{Answer}
use Rattle.hq_reply.specs.declared.reply.Reply.TheVariants as reply
use Rattle.hq_transcript.specs.Binds.{binds}
use Rattle.hq_txn.specs.Transactions.{Transaction}
use Rattle.hq_turns.specs.Hand.{InHand}
use Rattle.hq_turns.specs.Now.{Heard}
use Rattle.hq_turns.proofs.Changing.{on-altered, on-no-table, on-too-many-columns, on-column-there, on-alter-short}
use Rattle.hq_session.proofs.Hearing.{at-rest, hand-of-alter}
use Rattle.hq_session.proofs.Outcomes.{replies, no-ask}
use Rattle.hq_session.proofs.session.Session.on_alter.Goals as goal

pub returns-in-Altered-clause-carries : goal.returns-in-Altered-clause-carries
returns-in-Altered-clause-carries g c rows now after a k d w later heard =
    let told : Bool = g.F.StoredFile.tells && g.Z.SealCopy.tells in
    replies told after false (Some reply.Altered) c.reply.new.self c.args.self.now.txn d c.reply.result
    (on-altered binds told rows c.args.self.now.nodes c.args.self.now.number now after a c.args.self.now.txn k d w later c.in-Altered.table
    (subst (λ (x : Answer g.row.F.Denot g.row.Z.Denot). Heard rows told c.args.self.now.nodes c.args.self.now.number now a x after) c.in-Altered.is heard))
    refl c.reply.ensures.txn c.reply.ensures.turn

pub returns-in-Altered-clause-hand : goal.returns-in-Altered-clause-hand
returns-in-Altered-clause-hand g c rows now after a k w x heard =
    at-rest g.F.StoredFile.tells g.Z.SealCopy.tells c.args.self.now.nodes c.args.self.now.number after.history (Some reply.Altered) c.reply.result c.reply.new.self.txn.lanes c.reply.ensures.turn
    (subst (λ (ls : List LaneState). InHand g.F.StoredFile.tells g.Z.SealCopy.tells c.args.self.now.number after.history ls) (sym (ap (λ (t : Transaction). t.lanes) c.reply.ensures.txn))
    (hand-of-alter g.F.StoredFile.tells g.Z.SealCopy.tells rows c.args.self.now.nodes c.args.self.now.number now after c.args.self.now.txn k a c.args.answer c.requires.sound w x heard))

pub returns-in-Altered-clause-turn : goal.returns-in-Altered-clause-turn
returns-in-Altered-clause-turn g c = no-ask (Some reply.Altered) c.reply.result c.reply.ensures.turn

pub returns-in-NoTable-clause-carries : goal.returns-in-NoTable-clause-carries
returns-in-NoTable-clause-carries g c rows now after a k d w later heard =
    let told : Bool = g.F.StoredFile.tells && g.Z.SealCopy.tells in
    c.refuse.ensures.carries after d
    (on-no-table binds told rows c.args.self.now.nodes c.args.self.now.number now after a c.args.self.now.txn k d w later
    (subst (λ (x : Answer g.row.F.Denot g.row.Z.Denot). Heard rows told c.args.self.now.nodes c.args.self.now.number now a x after) c.in-NoTable.is heard))
    refl

pub returns-in-NoTable-clause-hand : goal.returns-in-NoTable-clause-hand
returns-in-NoTable-clause-hand g c rows now after a k w x heard =
    c.refuse.ensures.hand after.history
    (hand-of-alter g.F.StoredFile.tells g.Z.SealCopy.tells rows c.args.self.now.nodes c.args.self.now.number now after c.args.self.now.txn k a c.args.answer c.requires.sound w x heard)

pub returns-in-TooManyColumns-clause-carries : goal.returns-in-TooManyColumns-clause-carries
returns-in-TooManyColumns-clause-carries g c rows now after a k d w later heard =
    let told : Bool = g.F.StoredFile.tells && g.Z.SealCopy.tells in
    c.refuse-in-TooManyColumns.ensures.carries after d
    (on-too-many-columns binds told rows c.args.self.now.nodes c.args.self.now.number now after a c.args.self.now.txn k d w later c.in-TooManyColumns.columns
    (subst (λ (x : Answer g.row.F.Denot g.row.Z.Denot). Heard rows told c.args.self.now.nodes c.args.self.now.number now a x after) c.in-TooManyColumns.is heard))
    refl

pub returns-in-TooManyColumns-clause-hand : goal.returns-in-TooManyColumns-clause-hand
returns-in-TooManyColumns-clause-hand g c rows now after a k w x heard =
    c.refuse-in-TooManyColumns.ensures.hand after.history
    (hand-of-alter g.F.StoredFile.tells g.Z.SealCopy.tells rows c.args.self.now.nodes c.args.self.now.number now after c.args.self.now.txn k a c.args.answer c.requires.sound w x heard)

pub returns-in-ColumnThere-clause-carries : goal.returns-in-ColumnThere-clause-carries
returns-in-ColumnThere-clause-carries g c rows now after a k d w later heard =
    let told : Bool = g.F.StoredFile.tells && g.Z.SealCopy.tells in
    c.refuse-in-ColumnThere.ensures.carries after d
    (on-column-there binds told rows c.args.self.now.nodes c.args.self.now.number now after a c.args.self.now.txn k d w later
    (subst (λ (x : Answer g.row.F.Denot g.row.Z.Denot). Heard rows told c.args.self.now.nodes c.args.self.now.number now a x after) c.in-ColumnThere.is heard))
    refl

pub returns-in-ColumnThere-clause-hand : goal.returns-in-ColumnThere-clause-hand
returns-in-ColumnThere-clause-hand g c rows now after a k w x heard =
    c.refuse-in-ColumnThere.ensures.hand after.history
    (hand-of-alter g.F.StoredFile.tells g.Z.SealCopy.tells rows c.args.self.now.nodes c.args.self.now.number now after c.args.self.now.txn k a c.args.answer c.requires.sound w x heard)

pub returns-in-NoMemory-clause-carries : goal.returns-in-NoMemory-clause-carries
returns-in-NoMemory-clause-carries g c rows now after a k d w later heard =
    let told : Bool = g.F.StoredFile.tells && g.Z.SealCopy.tells in
    c.refuse-in-NoMemory.ensures.carries after d
    (on-alter-short binds told rows c.args.self.now.nodes c.args.self.now.number now after a c.args.self.now.txn k d w later
    (subst (λ (x : Answer g.row.F.Denot g.row.Z.Denot). Heard rows told c.args.self.now.nodes c.args.self.now.number now a x after) c.in-NoMemory.is heard))
    refl

pub returns-in-NoMemory-clause-hand : goal.returns-in-NoMemory-clause-hand
returns-in-NoMemory-clause-hand g c rows now after a k w x heard =
    c.refuse-in-NoMemory.ensures.hand after.history
    (hand-of-alter g.F.StoredFile.tells g.Z.SealCopy.tells rows c.args.self.now.nodes c.args.self.now.number now after c.args.self.now.txn k a c.args.answer c.requires.sound w x heard)
