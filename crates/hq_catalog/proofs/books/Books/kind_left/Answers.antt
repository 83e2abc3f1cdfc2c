-- The kind of each entry.
use Rattle.std.proofs.Common.{◌&&◌, Bool, List, refl, subst, sym}
use Rattle.hq_value.specs.declared.entry.EntryKind.TheVariants as entry
use Rattle.hq_history.specs.declared.noted.Noted.{Noted}
use Rattle.hq_catalog.specs.declared.plan.Plan.{Plan}
use Rattle.hq_catalog.specs.Kept.{cat_of, told_by}
use Rattle.hq_catalog.specs.Plans.{Fits, IsKind}
use Rattle.hq_catalog.proofs.Parts.{made_in}
use Rattle.hq_catalog.proofs.books.Books.kind_left.Goals as goal

pub returns-in-Look : goal.returns-in-Look
returns-in-Look g c =
    let told : Bool = g.F.StoredFile.tells && g.Z.SealCopy.tells in
    let old : List Noted = told_by told c.args.self.now in
    subst (λ (p : Plan g.row.F.Denot g.row.Z.Denot). IsKind {F = g.row.F.Denot} {Z = g.row.Z.Denot} old p (entry.Look)) (sym c.in-Look.is) (refl)

pub returns-in-Make : goal.returns-in-Make
returns-in-Make g c =
    let told : Bool = g.F.StoredFile.tells && g.Z.SealCopy.tells in
    let old : List Noted = told_by told c.args.self.now in
    subst (λ (p : Plan g.row.F.Denot g.row.Z.Denot). IsKind {F = g.row.F.Denot} {Z = g.row.Z.Denot} old p (entry.Create)) (sym c.in-Make.is) (refl)

pub returns-in-Exists : goal.returns-in-Exists
returns-in-Exists g c =
    let told : Bool = g.F.StoredFile.tells && g.Z.SealCopy.tells in
    let old : List Noted = told_by told c.args.self.now in
    subst (λ (p : Plan g.row.F.Denot g.row.Z.Denot). IsKind {F = g.row.F.Denot} {Z = g.row.Z.Denot} old p (entry.Create)) (sym c.in-Exists.is) (refl)

pub returns-in-TooManyTables : goal.returns-in-TooManyTables
returns-in-TooManyTables g c =
    let told : Bool = g.F.StoredFile.tells && g.Z.SealCopy.tells in
    let old : List Noted = told_by told c.args.self.now in
    subst (λ (p : Plan g.row.F.Denot g.row.Z.Denot). IsKind {F = g.row.F.Denot} {Z = g.row.Z.Denot} old p (entry.Create)) (sym c.in-TooManyTables.is) (refl)

pub returns-in-Add : goal.returns-in-Add
returns-in-Add g c =
    let told : Bool = g.F.StoredFile.tells && g.Z.SealCopy.tells in
    let old : List Noted = told_by told c.args.self.now in
    subst (λ (p : Plan g.row.F.Denot g.row.Z.Denot). IsKind {F = g.row.F.Denot} {Z = g.row.Z.Denot} old p (entry.Alter)) (sym c.in-Add.is) (refl)

pub returns-in-NoTable : goal.returns-in-NoTable
returns-in-NoTable g c =
    let told : Bool = g.F.StoredFile.tells && g.Z.SealCopy.tells in
    let old : List Noted = told_by told c.args.self.now in
    subst (λ (p : Plan g.row.F.Denot g.row.Z.Denot). IsKind {F = g.row.F.Denot} {Z = g.row.Z.Denot} old p (entry.Alter)) (sym c.in-NoTable.is) (refl)

pub returns-in-TooManyColumns : goal.returns-in-TooManyColumns
returns-in-TooManyColumns g c =
    let told : Bool = g.F.StoredFile.tells && g.Z.SealCopy.tells in
    let old : List Noted = told_by told c.args.self.now in
    subst (λ (p : Plan g.row.F.Denot g.row.Z.Denot). IsKind {F = g.row.F.Denot} {Z = g.row.Z.Denot} old p (entry.Alter)) (sym c.in-TooManyColumns.is) (refl)

pub returns-in-ColumnThere : goal.returns-in-ColumnThere
returns-in-ColumnThere g c =
    let told : Bool = g.F.StoredFile.tells && g.Z.SealCopy.tells in
    let old : List Noted = told_by told c.args.self.now in
    subst (λ (p : Plan g.row.F.Denot g.row.Z.Denot). IsKind {F = g.row.F.Denot} {Z = g.row.Z.Denot} old p (entry.Alter)) (sym c.in-ColumnThere.is) (refl)

pub returns-in-Lend : goal.returns-in-Lend
returns-in-Lend g c =
    let told : Bool = g.F.StoredFile.tells && g.Z.SealCopy.tells in
    let old : List Noted = told_by told c.args.self.now in
    subst (λ (p : Plan g.row.F.Denot g.row.Z.Denot). IsKind {F = g.row.F.Denot} {Z = g.row.Z.Denot} old p (c.kind_lent.result)) (sym c.in-Lend.is) (c.kind_lent.ensures)

pub returns-in-Adopt : goal.returns-in-Adopt
returns-in-Adopt g c =
    let told : Bool = g.F.StoredFile.tells && g.Z.SealCopy.tells in
    let old : List Noted = told_by told c.args.self.now in
    subst (λ (p : Plan g.row.F.Denot g.row.Z.Denot). IsKind {F = g.row.F.Denot} {Z = g.row.Z.Denot} old p (entry.Adopt c.table.result c.number.result)) (sym c.in-Adopt.is) (λ i. entry.Adopt (c.table.ensures i) (c.number.ensures i))

pub returns-in-Commit : goal.returns-in-Commit
returns-in-Commit g c =
    let told : Bool = g.F.StoredFile.tells && g.Z.SealCopy.tells in
    let old : List Noted = told_by told c.args.self.now in
    subst (λ (p : Plan g.row.F.Denot g.row.Z.Denot). IsKind {F = g.row.F.Denot} {Z = g.row.Z.Denot} old p (entry.Commit)) (sym c.in-Commit.is) (refl)

pub returns-in-Back : goal.returns-in-Back
returns-in-Back g c =
    let told : Bool = g.F.StoredFile.tells && g.Z.SealCopy.tells in
    let old : List Noted = told_by told c.args.self.now in
    subst (λ (p : Plan g.row.F.Denot g.row.Z.Denot). IsKind {F = g.row.F.Denot} {Z = g.row.Z.Denot} old p (entry.Back c.table-in-Back.result c.number-in-Back.result c.is_clean.result)) (sym c.in-Back.is) (λ i. entry.Back (c.table-in-Back.ensures i) (c.number-in-Back.ensures i) (c.is_clean.ensures.clean i))

pub returns-in-SweepAny : goal.returns-in-SweepAny
returns-in-SweepAny g c =
    let told : Bool = g.F.StoredFile.tells && g.Z.SealCopy.tells in
    let old : List Noted = told_by told c.args.self.now in
    subst (λ (p : Plan g.row.F.Denot g.row.Z.Denot). IsKind {F = g.row.F.Denot} {Z = g.row.Z.Denot} old p (c.kind_swept.result)) (sym c.in-SweepAny.is) (c.kind_swept.ensures)

pub returns-in-Mark : goal.returns-in-Mark
returns-in-Mark g c =
    let told : Bool = g.F.StoredFile.tells && g.Z.SealCopy.tells in
    let old : List Noted = told_by told c.args.self.now in
    subst (λ (p : Plan g.row.F.Denot g.row.Z.Denot). IsKind {F = g.row.F.Denot} {Z = g.row.Z.Denot} old p (entry.Mark c.in-Mark.node c.in-Mark.up)) (sym c.in-Mark.is) (refl)

pub kind_lent-requires-clause-made : goal.kind_lent-requires-clause-made
kind_lent-requires-clause-made g c =
    let told : Bool = g.F.StoredFile.tells && g.Z.SealCopy.tells in
    let b = c.args.self.now in
    let fits = subst (λ (p : Plan g.row.F.Denot g.row.Z.Denot). Fits {F = g.row.F.Denot} {Z = g.row.Z.Denot} g.F.StoredFile.tells g.Z.SealCopy.tells c.requires.fits.0 b p) c.in-Lend.is c.requires.fits.1 in
    made_in told (cat_of b) c.in-Lend.table c.requires.books.cat fits.1.made
