-- What each answer leaves, and its cause, follow from the step.
use Rattle.std.proofs.Common.{◌&&◌, Bool, length}
use Rattle.hq_catalog.specs.History.{history}
use Rattle.hq_catalog.proofs.Causes as causes
use Rattle.hq_catalog.proofs.catalogue.Catalogue.answer.Goals as goal

pub returns-clause-one : goal.returns-clause-one
returns-clause-one g c =
    let told : Bool = g.F.StoredFile.tells && g.Z.SealCopy.tells in
    let now = c.args.self.now in
    causes.one {F = g.row.F.Denot} {Z = g.row.Z.Denot} told (length now.marks) c.args.session c.args.statement (history told now) (history told c.step.new.self) c.args.ask c.step.result c.step.ensures.step

pub returns-clause-no_memory : goal.returns-clause-no_memory
returns-clause-no_memory g c =
    let told : Bool = g.F.StoredFile.tells && g.Z.SealCopy.tells in
    let now = c.args.self.now in
    causes.lacks {F = g.row.F.Denot} {Z = g.row.Z.Denot} told (length now.marks) c.args.session c.args.statement (history told now) (history told c.step.new.self) c.args.ask c.step.result c.step.ensures.step

pub returns-clause-all_out : goal.returns-clause-all_out
returns-clause-all_out g c =
    let told : Bool = g.F.StoredFile.tells && g.Z.SealCopy.tells in
    let now = c.args.self.now in
    causes.all_out {F = g.row.F.Denot} {Z = g.row.Z.Denot} told (length now.marks) c.args.session c.args.statement (history told now) (history told c.step.new.self) c.args.ask c.step.result c.step.ensures.step

pub returns-clause-nothing : goal.returns-clause-nothing
returns-clause-nothing g c =
    let told : Bool = g.F.StoredFile.tells && g.Z.SealCopy.tells in
    let now = c.args.self.now in
    causes.nothing {F = g.row.F.Denot} {Z = g.row.Z.Denot} told (length now.marks) c.args.session c.args.statement (history told now) (history told c.step.new.self) c.args.ask c.step.result c.step.ensures.step

pub returns-clause-exists : goal.returns-clause-exists
returns-clause-exists g c =
    let told : Bool = g.F.StoredFile.tells && g.Z.SealCopy.tells in
    let now = c.args.self.now in
    causes.exists {F = g.row.F.Denot} {Z = g.row.Z.Denot} told (length now.marks) c.args.session c.args.statement (history told now) (history told c.step.new.self) c.args.ask c.step.result c.step.ensures.step

pub returns-clause-too_many : goal.returns-clause-too_many
returns-clause-too_many g c =
    let told : Bool = g.F.StoredFile.tells && g.Z.SealCopy.tells in
    let now = c.args.self.now in
    causes.enough {F = g.row.F.Denot} {Z = g.row.Z.Denot} told (length now.marks) c.args.session c.args.statement (history told now) (history told c.step.new.self) c.args.ask c.step.result c.step.ensures.step
