-- The entry that each plan leaves, and the ask that it answers.
use Rattle.std.proofs.Common.{◌&&◌, Bool, List, length, refl, subst, sym}
use Rattle.hq_value.specs.declared.entry.EntryKind.TheVariants as entry
use Rattle.hq_history.specs.declared.noted.Noted.{Noted}
use Rattle.hq_catalog.specs.declared.ask.Answer.TheVariants as answer
use Rattle.hq_catalog.specs.declared.plan.Plan.{Plan}
use Rattle.hq_catalog.specs.Kept.{told_by}
use Rattle.hq_catalog.proofs.Plans as plans
use Rattle.hq_catalog.proofs.books.Books.settle.Goals as goal

pub returns-in-Look-clause-one : goal.returns-in-Look-clause-one
returns-in-Look-clause-one g c =
    let told : Bool = g.F.StoredFile.tells && g.Z.SealCopy.tells in
    let nodes = length c.args.self.now.marks in
    let old : List Noted = told_by told c.args.self.now in
    let new : List Noted = told_by told c.look.new.self in
    subst (λ (p : Plan g.row.F.Denot g.row.Z.Denot). plans.LeavesOne {F = g.row.F.Denot} {Z = g.row.Z.Denot} told nodes c.args.session c.args.statement old new p) (sym c.in-Look.is)
    (entry.Look, refl, c.look.ensures.noted)

pub returns-in-Look-clause-step : goal.returns-in-Look-clause-step
returns-in-Look-clause-step g c =
    let told : Bool = g.F.StoredFile.tells && g.Z.SealCopy.tells in
    let nodes = length c.args.self.now.marks in
    let old : List Noted = told_by told c.args.self.now in
    let new : List Noted = told_by told c.look.new.self in
    subst (λ (p : Plan g.row.F.Denot g.row.Z.Denot). plans.AnswersAll {F = g.row.F.Denot} {Z = g.row.Z.Denot} told nodes c.args.session c.args.statement old new c.look.result p) (sym c.in-Look.is)
    (plans.by_look {F = g.row.F.Denot} {Z = g.row.Z.Denot} told nodes c.args.session c.args.statement old new c.look.result c.in-Look.tables.items c.look.ensures.step)

pub returns-in-Make-clause-one : goal.returns-in-Make-clause-one
returns-in-Make-clause-one g c =
    let told : Bool = g.F.StoredFile.tells && g.Z.SealCopy.tells in
    let nodes = length c.args.self.now.marks in
    let old : List Noted = told_by told c.args.self.now in
    let new : List Noted = told_by told c.make.new.self in
    subst (λ (p : Plan g.row.F.Denot g.row.Z.Denot). plans.LeavesOne {F = g.row.F.Denot} {Z = g.row.Z.Denot} told nodes c.args.session c.args.statement old new p) (sym c.in-Make.is)
    (entry.Create, refl, c.make.ensures.noted)

pub returns-in-Make-clause-step : goal.returns-in-Make-clause-step
returns-in-Make-clause-step g c =
    let told : Bool = g.F.StoredFile.tells && g.Z.SealCopy.tells in
    let nodes = length c.args.self.now.marks in
    let old : List Noted = told_by told c.args.self.now in
    let new : List Noted = told_by told c.make.new.self in
    subst (λ (p : Plan g.row.F.Denot g.row.Z.Denot). plans.AnswersAll {F = g.row.F.Denot} {Z = g.row.Z.Denot} told nodes c.args.session c.args.statement old new c.make.result p) (sym c.in-Make.is)
    (plans.by_table {F = g.row.F.Denot} {Z = g.row.Z.Denot} told nodes c.args.session c.args.statement old new c.make.result c.in-Make.def c.make.ensures.step)

pub returns-in-Exists-clause-one : goal.returns-in-Exists-clause-one
returns-in-Exists-clause-one g c =
    let told : Bool = g.F.StoredFile.tells && g.Z.SealCopy.tells in
    let nodes = length c.args.self.now.marks in
    let old : List Noted = told_by told c.args.self.now in
    let new : List Noted = told_by told c.note.new.self in
    subst (λ (p : Plan g.row.F.Denot g.row.Z.Denot). plans.LeavesOne {F = g.row.F.Denot} {Z = g.row.Z.Denot} told nodes c.args.session c.args.statement old new p) (sym c.in-Exists.is)
    (entry.Create, refl, c.note.ensures.noted)

pub returns-in-Exists-clause-step : goal.returns-in-Exists-clause-step
returns-in-Exists-clause-step g c =
    let told : Bool = g.F.StoredFile.tells && g.Z.SealCopy.tells in
    let nodes = length c.args.self.now.marks in
    let old : List Noted = told_by told c.args.self.now in
    let new : List Noted = told_by told c.note.new.self in
    subst (λ (p : Plan g.row.F.Denot g.row.Z.Denot). plans.AnswersAll {F = g.row.F.Denot} {Z = g.row.Z.Denot} told nodes c.args.session c.args.statement old new answer.Exists p) (sym c.in-Exists.is)
    (plans.by_there {F = g.row.F.Denot} {Z = g.row.Z.Denot} told nodes c.args.session c.args.statement old new c.note.ensures.noted)

pub returns-in-TooManyTables-clause-one : goal.returns-in-TooManyTables-clause-one
returns-in-TooManyTables-clause-one g c =
    let told : Bool = g.F.StoredFile.tells && g.Z.SealCopy.tells in
    let nodes = length c.args.self.now.marks in
    let old : List Noted = told_by told c.args.self.now in
    let new : List Noted = told_by told c.note-in-TooManyTables.new.self in
    subst (λ (p : Plan g.row.F.Denot g.row.Z.Denot). plans.LeavesOne {F = g.row.F.Denot} {Z = g.row.Z.Denot} told nodes c.args.session c.args.statement old new p) (sym c.in-TooManyTables.is)
    (entry.Create, refl, c.note-in-TooManyTables.ensures.noted)

pub returns-in-TooManyTables-clause-step : goal.returns-in-TooManyTables-clause-step
returns-in-TooManyTables-clause-step g c =
    let told : Bool = g.F.StoredFile.tells && g.Z.SealCopy.tells in
    let nodes = length c.args.self.now.marks in
    let old : List Noted = told_by told c.args.self.now in
    let new : List Noted = told_by told c.note-in-TooManyTables.new.self in
    subst (λ (p : Plan g.row.F.Denot g.row.Z.Denot). plans.AnswersAll {F = g.row.F.Denot} {Z = g.row.Z.Denot} told nodes c.args.session c.args.statement old new (answer.TooManyTables 64) p) (sym c.in-TooManyTables.is)
    (plans.by_enough {F = g.row.F.Denot} {Z = g.row.Z.Denot} told nodes c.args.session c.args.statement old new c.note-in-TooManyTables.ensures.noted)

pub returns-in-Add-clause-one : goal.returns-in-Add-clause-one
returns-in-Add-clause-one g c =
    let told : Bool = g.F.StoredFile.tells && g.Z.SealCopy.tells in
    let nodes = length c.args.self.now.marks in
    let old : List Noted = told_by told c.args.self.now in
    let new : List Noted = told_by told c.add_column.new.self in
    subst (λ (p : Plan g.row.F.Denot g.row.Z.Denot). plans.LeavesOne {F = g.row.F.Denot} {Z = g.row.Z.Denot} told nodes c.args.session c.args.statement old new p) (sym c.in-Add.is)
    (entry.Alter, refl, c.add_column.ensures.noted)

pub returns-in-Add-clause-step : goal.returns-in-Add-clause-step
returns-in-Add-clause-step g c =
    let told : Bool = g.F.StoredFile.tells && g.Z.SealCopy.tells in
    let nodes = length c.args.self.now.marks in
    let old : List Noted = told_by told c.args.self.now in
    let new : List Noted = told_by told c.add_column.new.self in
    subst (λ (p : Plan g.row.F.Denot g.row.Z.Denot). plans.AnswersAll {F = g.row.F.Denot} {Z = g.row.Z.Denot} told nodes c.args.session c.args.statement old new c.add_column.result p) (sym c.in-Add.is)
    (plans.by_column {F = g.row.F.Denot} {Z = g.row.Z.Denot} told nodes c.args.session c.args.statement old new c.add_column.result c.in-Add.table c.in-Add.column c.add_column.ensures.step)

pub returns-in-NoTable-clause-one : goal.returns-in-NoTable-clause-one
returns-in-NoTable-clause-one g c =
    let told : Bool = g.F.StoredFile.tells && g.Z.SealCopy.tells in
    let nodes = length c.args.self.now.marks in
    let old : List Noted = told_by told c.args.self.now in
    let new : List Noted = told_by told c.note-in-NoTable.new.self in
    subst (λ (p : Plan g.row.F.Denot g.row.Z.Denot). plans.LeavesOne {F = g.row.F.Denot} {Z = g.row.Z.Denot} told nodes c.args.session c.args.statement old new p) (sym c.in-NoTable.is)
    (entry.Alter, refl, c.note-in-NoTable.ensures.noted)

pub returns-in-NoTable-clause-step : goal.returns-in-NoTable-clause-step
returns-in-NoTable-clause-step g c =
    let told : Bool = g.F.StoredFile.tells && g.Z.SealCopy.tells in
    let nodes = length c.args.self.now.marks in
    let old : List Noted = told_by told c.args.self.now in
    let new : List Noted = told_by told c.note-in-NoTable.new.self in
    subst (λ (p : Plan g.row.F.Denot g.row.Z.Denot). plans.AnswersAll {F = g.row.F.Denot} {Z = g.row.Z.Denot} told nodes c.args.session c.args.statement old new answer.NoTable p) (sym c.in-NoTable.is)
    (plans.by_no_table {F = g.row.F.Denot} {Z = g.row.Z.Denot} told nodes c.args.session c.args.statement old new c.note-in-NoTable.ensures.noted)

pub returns-in-TooManyColumns-clause-one : goal.returns-in-TooManyColumns-clause-one
returns-in-TooManyColumns-clause-one g c =
    let told : Bool = g.F.StoredFile.tells && g.Z.SealCopy.tells in
    let nodes = length c.args.self.now.marks in
    let old : List Noted = told_by told c.args.self.now in
    let new : List Noted = told_by told c.note-in-TooManyColumns.new.self in
    subst (λ (p : Plan g.row.F.Denot g.row.Z.Denot). plans.LeavesOne {F = g.row.F.Denot} {Z = g.row.Z.Denot} told nodes c.args.session c.args.statement old new p) (sym c.in-TooManyColumns.is)
    (entry.Alter, refl, c.note-in-TooManyColumns.ensures.noted)

pub returns-in-TooManyColumns-clause-step : goal.returns-in-TooManyColumns-clause-step
returns-in-TooManyColumns-clause-step g c =
    let told : Bool = g.F.StoredFile.tells && g.Z.SealCopy.tells in
    let nodes = length c.args.self.now.marks in
    let old : List Noted = told_by told c.args.self.now in
    let new : List Noted = told_by told c.note-in-TooManyColumns.new.self in
    subst (λ (p : Plan g.row.F.Denot g.row.Z.Denot). plans.AnswersAll {F = g.row.F.Denot} {Z = g.row.Z.Denot} told nodes c.args.session c.args.statement old new (answer.TooManyColumns c.in-TooManyColumns.columns) p) (sym c.in-TooManyColumns.is)
    (plans.by_too_wide {F = g.row.F.Denot} {Z = g.row.Z.Denot} told nodes c.args.session c.args.statement old new c.in-TooManyColumns.columns c.note-in-TooManyColumns.ensures.noted)

pub returns-in-ColumnThere-clause-one : goal.returns-in-ColumnThere-clause-one
returns-in-ColumnThere-clause-one g c =
    let told : Bool = g.F.StoredFile.tells && g.Z.SealCopy.tells in
    let nodes = length c.args.self.now.marks in
    let old : List Noted = told_by told c.args.self.now in
    let new : List Noted = told_by told c.note-in-ColumnThere.new.self in
    subst (λ (p : Plan g.row.F.Denot g.row.Z.Denot). plans.LeavesOne {F = g.row.F.Denot} {Z = g.row.Z.Denot} told nodes c.args.session c.args.statement old new p) (sym c.in-ColumnThere.is)
    (entry.Alter, refl, c.note-in-ColumnThere.ensures.noted)

pub returns-in-ColumnThere-clause-step : goal.returns-in-ColumnThere-clause-step
returns-in-ColumnThere-clause-step g c =
    let told : Bool = g.F.StoredFile.tells && g.Z.SealCopy.tells in
    let nodes = length c.args.self.now.marks in
    let old : List Noted = told_by told c.args.self.now in
    let new : List Noted = told_by told c.note-in-ColumnThere.new.self in
    subst (λ (p : Plan g.row.F.Denot g.row.Z.Denot). plans.AnswersAll {F = g.row.F.Denot} {Z = g.row.Z.Denot} told nodes c.args.session c.args.statement old new answer.ColumnThere p) (sym c.in-ColumnThere.is)
    (plans.by_there_column {F = g.row.F.Denot} {Z = g.row.Z.Denot} told nodes c.args.session c.args.statement old new c.note-in-ColumnThere.ensures.noted)

pub returns-in-Lend-clause-one : goal.returns-in-Lend-clause-one
returns-in-Lend-clause-one g c =
    let told : Bool = g.F.StoredFile.tells && g.Z.SealCopy.tells in
    let nodes = length c.args.self.now.marks in
    let old : List Noted = told_by told c.args.self.now in
    let new : List Noted = told_by told c.lend.new.self in
    subst (λ (p : Plan g.row.F.Denot g.row.Z.Denot). plans.LeavesOne {F = g.row.F.Denot} {Z = g.row.Z.Denot} told nodes c.args.session c.args.statement old new p) (sym c.in-Lend.is)
    (_, refl, plans.lend_kind {F = g.row.F.Denot} {Z = g.row.Z.Denot} told nodes c.args.session c.args.statement old new c.in-Lend.table c.lend.result c.lend.ensures.never c.lend.ensures.step)

pub returns-in-Lend-clause-step : goal.returns-in-Lend-clause-step
returns-in-Lend-clause-step g c =
    let told : Bool = g.F.StoredFile.tells && g.Z.SealCopy.tells in
    let nodes = length c.args.self.now.marks in
    let old : List Noted = told_by told c.args.self.now in
    let new : List Noted = told_by told c.lend.new.self in
    subst (λ (p : Plan g.row.F.Denot g.row.Z.Denot). plans.AnswersAll {F = g.row.F.Denot} {Z = g.row.Z.Denot} told nodes c.args.session c.args.statement old new c.lend.result p) (sym c.in-Lend.is)
    (plans.by_lane {F = g.row.F.Denot} {Z = g.row.Z.Denot} told nodes c.args.session c.args.statement old new c.lend.result c.in-Lend.table c.lend.ensures.step)

pub returns-in-Adopt-clause-one : goal.returns-in-Adopt-clause-one
returns-in-Adopt-clause-one g c =
    let told : Bool = g.F.StoredFile.tells && g.Z.SealCopy.tells in
    let nodes = length c.args.self.now.marks in
    let old : List Noted = told_by told c.args.self.now in
    let new : List Noted = told_by told c.adopt.new.self in
    subst (λ (p : Plan g.row.F.Denot g.row.Z.Denot). plans.LeavesOne {F = g.row.F.Denot} {Z = g.row.Z.Denot} told nodes c.args.session c.args.statement old new p) (sym c.in-Adopt.is)
    (entry.Adopt c.in-Adopt.lane.table c.in-Adopt.lane.number, refl, plans.adopt_kind {F = g.row.F.Denot} {Z = g.row.Z.Denot} told nodes c.args.session c.args.statement old new c.in-Adopt.lane c.adopt.result c.adopt.ensures.step)

pub returns-in-Adopt-clause-step : goal.returns-in-Adopt-clause-step
returns-in-Adopt-clause-step g c =
    let told : Bool = g.F.StoredFile.tells && g.Z.SealCopy.tells in
    let nodes = length c.args.self.now.marks in
    let old : List Noted = told_by told c.args.self.now in
    let new : List Noted = told_by told c.adopt.new.self in
    subst (λ (p : Plan g.row.F.Denot g.row.Z.Denot). plans.AnswersAll {F = g.row.F.Denot} {Z = g.row.Z.Denot} told nodes c.args.session c.args.statement old new c.adopt.result p) (sym c.in-Adopt.is)
    (plans.by_adopt {F = g.row.F.Denot} {Z = g.row.Z.Denot} told nodes c.args.session c.args.statement old new c.adopt.result c.in-Adopt.lane c.adopt.ensures.step)

pub returns-in-Commit-clause-one : goal.returns-in-Commit-clause-one
returns-in-Commit-clause-one g c =
    let told : Bool = g.F.StoredFile.tells && g.Z.SealCopy.tells in
    let nodes = length c.args.self.now.marks in
    let old : List Noted = told_by told c.args.self.now in
    let new : List Noted = told_by told c.commit.new.self in
    subst (λ (p : Plan g.row.F.Denot g.row.Z.Denot). plans.LeavesOne {F = g.row.F.Denot} {Z = g.row.Z.Denot} told nodes c.args.session c.args.statement old new p) (sym c.in-Commit.is)
    (entry.Commit, refl, plans.commit_kind {F = g.row.F.Denot} {Z = g.row.Z.Denot} told nodes c.args.session c.args.statement old new c.in-Commit.lanes.items c.commit.result c.commit.ensures.step)

pub returns-in-Commit-clause-step : goal.returns-in-Commit-clause-step
returns-in-Commit-clause-step g c =
    let told : Bool = g.F.StoredFile.tells && g.Z.SealCopy.tells in
    let nodes = length c.args.self.now.marks in
    let old : List Noted = told_by told c.args.self.now in
    let new : List Noted = told_by told c.commit.new.self in
    subst (λ (p : Plan g.row.F.Denot g.row.Z.Denot). plans.AnswersAll {F = g.row.F.Denot} {Z = g.row.Z.Denot} told nodes c.args.session c.args.statement old new c.commit.result p) (sym c.in-Commit.is)
    (plans.by_commit {F = g.row.F.Denot} {Z = g.row.Z.Denot} told nodes c.args.session c.args.statement old new c.commit.result c.in-Commit.lanes.items c.commit.ensures.step)

pub returns-in-Back-clause-one : goal.returns-in-Back-clause-one
returns-in-Back-clause-one g c =
    let told : Bool = g.F.StoredFile.tells && g.Z.SealCopy.tells in
    let nodes = length c.args.self.now.marks in
    let old : List Noted = told_by told c.args.self.now in
    let new : List Noted = told_by told c.back.new.self in
    subst (λ (p : Plan g.row.F.Denot g.row.Z.Denot). plans.LeavesOne {F = g.row.F.Denot} {Z = g.row.Z.Denot} told nodes c.args.session c.args.statement old new p) (sym c.in-Back.is)
    (_, refl, plans.back_kind {F = g.row.F.Denot} {Z = g.row.Z.Denot} told nodes c.args.session c.args.statement old new c.in-Back.lane c.back.result c.back.ensures.step)

pub returns-in-Back-clause-step : goal.returns-in-Back-clause-step
returns-in-Back-clause-step g c =
    let told : Bool = g.F.StoredFile.tells && g.Z.SealCopy.tells in
    let nodes = length c.args.self.now.marks in
    let old : List Noted = told_by told c.args.self.now in
    let new : List Noted = told_by told c.back.new.self in
    subst (λ (p : Plan g.row.F.Denot g.row.Z.Denot). plans.AnswersAll {F = g.row.F.Denot} {Z = g.row.Z.Denot} told nodes c.args.session c.args.statement old new c.back.result p) (sym c.in-Back.is)
    (plans.by_back {F = g.row.F.Denot} {Z = g.row.Z.Denot} told nodes c.args.session c.args.statement old new c.back.result c.in-Back.lane c.back.ensures.step)

pub returns-in-SweepAny-clause-one : goal.returns-in-SweepAny-clause-one
returns-in-SweepAny-clause-one g c =
    let told : Bool = g.F.StoredFile.tells && g.Z.SealCopy.tells in
    let nodes = length c.args.self.now.marks in
    let old : List Noted = told_by told c.args.self.now in
    let new : List Noted = told_by told c.sweep_any.new.self in
    subst (λ (p : Plan g.row.F.Denot g.row.Z.Denot). plans.LeavesOne {F = g.row.F.Denot} {Z = g.row.Z.Denot} told nodes c.args.session c.args.statement old new p) (sym c.in-SweepAny.is)
    (plans.sweep_kind {F = g.row.F.Denot} {Z = g.row.Z.Denot} told nodes c.args.session c.args.statement old new c.sweep_any.result c.sweep_any.ensures.never c.sweep_any.ensures.step)

pub returns-in-SweepAny-clause-step : goal.returns-in-SweepAny-clause-step
returns-in-SweepAny-clause-step g c =
    let told : Bool = g.F.StoredFile.tells && g.Z.SealCopy.tells in
    let nodes = length c.args.self.now.marks in
    let old : List Noted = told_by told c.args.self.now in
    let new : List Noted = told_by told c.sweep_any.new.self in
    subst (λ (p : Plan g.row.F.Denot g.row.Z.Denot). plans.AnswersAll {F = g.row.F.Denot} {Z = g.row.Z.Denot} told nodes c.args.session c.args.statement old new c.sweep_any.result p) (sym c.in-SweepAny.is)
    (plans.by_sweep {F = g.row.F.Denot} {Z = g.row.Z.Denot} told nodes c.args.session c.args.statement old new c.sweep_any.result c.sweep_any.ensures.step)

pub returns-in-Mark-clause-one : goal.returns-in-Mark-clause-one
returns-in-Mark-clause-one g c =
    let told : Bool = g.F.StoredFile.tells && g.Z.SealCopy.tells in
    let nodes = length c.args.self.now.marks in
    let old : List Noted = told_by told c.args.self.now in
    let new : List Noted = told_by told c.mark.new.self in
    subst (λ (p : Plan g.row.F.Denot g.row.Z.Denot). plans.LeavesOne {F = g.row.F.Denot} {Z = g.row.Z.Denot} told nodes c.args.session c.args.statement old new p) (sym c.in-Mark.is)
    (entry.Mark c.in-Mark.node c.in-Mark.up, refl, plans.mark_kind {F = g.row.F.Denot} {Z = g.row.Z.Denot} told nodes c.args.session c.args.statement old new c.in-Mark.node c.in-Mark.up c.mark.result c.mark.ensures.never c.mark.ensures.step)

pub returns-in-Mark-clause-step : goal.returns-in-Mark-clause-step
returns-in-Mark-clause-step g c =
    let told : Bool = g.F.StoredFile.tells && g.Z.SealCopy.tells in
    let nodes = length c.args.self.now.marks in
    let old : List Noted = told_by told c.args.self.now in
    let new : List Noted = told_by told c.mark.new.self in
    subst (λ (p : Plan g.row.F.Denot g.row.Z.Denot). plans.AnswersAll {F = g.row.F.Denot} {Z = g.row.Z.Denot} told nodes c.args.session c.args.statement old new c.mark.result p) (sym c.in-Mark.is)
    (plans.by_mark {F = g.row.F.Denot} {Z = g.row.Z.Denot} told nodes c.args.session c.args.statement old new c.mark.result c.in-Mark.node c.in-Mark.up c.mark.ensures.step)
