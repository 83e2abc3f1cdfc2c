use Rattle.std.proofs.Common.{◌&&◌, Bool, subst}
use Rattle.hq_catalog.specs.declared.ask.Answer.{Answer}
use Rattle.hq_turns.specs.Now.{Heard}
use Rattle.hq_turns.proofs.Done.{owes-done, owes-short}
use Rattle.hq_transcript.specs.Binds.{binds}
use Rattle.hq_session.proofs.Hearing.{hand-done, hand-short}
use Rattle.hq_session.proofs.session.Session.on_done.Goals as goal

pub returns-in-Done-clause-carries : goal.returns-in-Done-clause-carries
returns-in-Done-clause-carries g c rows now after a k w later heard =
    let told : Bool = g.F.StoredFile.tells && g.Z.SealCopy.tells in
    c.finish.ensures.carries after
    (owes-done binds told rows c.args.self.now.nodes c.args.self.now.number now after a c.args.give c.args.reply c.args.self.now.txn k _ w later
    (subst (λ (x : Answer g.row.F.Denot g.row.Z.Denot). Heard rows told c.args.self.now.nodes c.args.self.now.number now a x after) c.in-Done.is heard))

pub returns-in-Done-clause-hand : goal.returns-in-Done-clause-hand
returns-in-Done-clause-hand g c rows now after a k w lawful heard =
    let told : Bool = g.F.StoredFile.tells && g.Z.SealCopy.tells in
    c.finish.ensures.hand after.history
    (hand-done g.F.StoredFile.tells g.Z.SealCopy.tells rows c.args.self.now.nodes c.args.self.now.number now after a c.args.self.now.txn k c.args.give c.args.reply w lawful
    (subst (λ (x : Answer g.row.F.Denot g.row.Z.Denot). Heard rows told c.args.self.now.nodes c.args.self.now.number now a x after) c.in-Done.is heard))

pub returns-in-NoMemory-clause-carries : goal.returns-in-NoMemory-clause-carries
returns-in-NoMemory-clause-carries g c rows now after a k w later heard =
    let told : Bool = g.F.StoredFile.tells && g.Z.SealCopy.tells in
    c.finish-in-NoMemory.ensures.carries after
    (owes-short binds told rows c.args.self.now.nodes c.args.self.now.number now after a c.args.give c.args.reply c.args.self.now.txn k _ w later
    (subst (λ (x : Answer g.row.F.Denot g.row.Z.Denot). Heard rows told c.args.self.now.nodes c.args.self.now.number now a x after) c.in-NoMemory.is heard))

pub returns-in-NoMemory-clause-hand : goal.returns-in-NoMemory-clause-hand
returns-in-NoMemory-clause-hand g c rows now after a k w lawful heard =
    let told : Bool = g.F.StoredFile.tells && g.Z.SealCopy.tells in
    c.finish-in-NoMemory.ensures.hand after.history
    (hand-short g.F.StoredFile.tells g.Z.SealCopy.tells rows c.args.self.now.nodes c.args.self.now.number now after a c.args.self.now.txn k c.args.give c.args.reply w lawful
    (subst (λ (x : Answer g.row.F.Denot g.row.Z.Denot). Heard rows told c.args.self.now.nodes c.args.self.now.number now a x after) c.in-NoMemory.is heard))
