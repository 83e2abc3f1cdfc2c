-- Worked scripts of one session.
use Rattle.std.proofs.Common.{ℕ, true, None, List, [], ◌∷◌, refl, inl, codes, pos}
use Rattle.std.specs.Fmt.{digits}
use denote.Hole.Carrier.{hidden}
use Rattle.hq_algebra.specs.declared.expr.Expr.TheBlock.{hidden-the_row-Expr-0}
use Rattle.hq_expr.specs.declared.tree.SqlExpr.TheBlock.{hidden-the_row-SqlExpr-0}
use Rattle.hq_expr.specs.declared.tree.SqlExpr.TheVariants as e
use Rattle.hq_expr.specs.declared.tree.AggregateKind.TheVariants as ak
use Rattle.hq_value.specs.declared.operator.ArithKind.TheVariants as arith_kind
use Rattle.hq_value.specs.declared.operator.CompareKind.TheVariants as compare
use Rattle.hq_expr.specs.declared.tree.Literal.{Literal}
use Rattle.hq_expr.specs.declared.tree.Literal.TheVariants as lit
use Rattle.hq_value.specs.declared.value.Value.TheVariants as value
use Rattle.hq_reply.specs.declared.fault.Fault.TheVariants as fault
use Rattle.hq_value.specs.declared.entry.Entry.{Entry}
use Rattle.hq_value.specs.declared.entry.EntryKind.TheVariants as entry
use Rattle.hq_reply.specs.declared.reply.Reply.TheVariants as reply
use Rattle.hq_bind.specs.Findings.{of_aggregate, of_two, of_compared, of_not, of_null_test}
use Rattle.hq_transcript.specs.Pieces.{Piece, Blank}
use Rattle.hq_transcript.specs.Binds.{binds}
use Rattle.hq_transcript.specs.Transcript.{Transcript}
use Rattle.hq_transcript.specs.Examples.{at, alone, int_column, create, insert, source, all_from, item, from, select, column, bare, number, int, row, begin, commit, rollback, make_t, one, all_t, count_t, t, a}
use Rattle.hq_transcript.specs.Scripts.{input_filled, log_filled}
use Rattle.hq_transcript.proofs.ExampleWords.{lent, told, idle_at, counted}

-- a table is made, filled and read
pub shows_filled : Transcript binds true 1 (alone input_filled) log_filled 1 input_filled (codes "CREATE TABLE\nINSERT 3\n1\n2\n2\nSELECT 3\n")
unfolding digits
shows_filled = (
  told (reply.Created ∷ reply.Inserted 3 ∷ reply.Rows (row 1 ∷ row 2 ∷ row 2 ∷ []) ∷ []),
  (idle_at 4, (((refl, refl), ((lent 0, refl, inl (refl, refl)), ((lent 0, refl, inl (refl, refl)), refl))), refl), tt),
  refl,
)

-- blank pieces write nothing and have no entry
pub shows_blanks : Transcript binds true 1 (alone (Blank ∷ Blank ∷ [])) [] 1 (Blank ∷ Blank ∷ []) []
shows_blanks = (None ∷ None ∷ [], (idle_at 3, ((refl, (refl, refl)), refl), tt), refl)

-- no row at all
abbrev pub input_nothing : List Piece
unfolding hidden-the_row-SqlExpr-0 hidden
input_nothing = make_t ∷ select (from (item e.CountAll ∷ item (e.Aggregate ak.Sum (column a)) ∷ []) (source t ∷ [])) ∷ []

pub shows_nothing : Transcript binds true 1 (alone input_nothing) (at 1 1 entry.Create ∷ at 1 2 entry.Look ∷ []) 1 input_nothing (codes "CREATE TABLE\n0|\\N\nSELECT 1\n")
unfolding digits hidden-the_row-Expr-0 hidden-the_row-SqlExpr-0 hidden of_aggregate of_two of_compared of_not of_null_test
shows_nothing = (
  told (reply.Created ∷ reply.Rows ((value.Int (pos 0) ∷ value.Null ∷ []) ∷ []) ∷ []),
  (idle_at 3, (((refl, refl), ((lent 0, refl, inl (refl, refl)), refl)), refl), tt),
  refl,
)

-- NULLs: in a condition, and as a group
abbrev pub b : List ℕ
b = codes "b"

abbrev pub pair : ℕ → ℕ → List Literal
pair m n = int m ∷ int n ∷ []

abbrev pub input_nulls : List Piece
unfolding hidden-the_row-SqlExpr-0 hidden
input_nulls =
    create t (int_column a ∷ int_column b ∷ []) (a ∷ [])
    ∷ insert t (pair 1 10 ∷ (lit.Null ∷ int 20 ∷ []) ∷ pair 2 30 ∷ (lit.Null ∷ int 40 ∷ []) ∷ [])
    ∷ select (record (from (item (column b) ∷ []) (source t ∷ [])) { conds = e.Not (e.Compare compare.Equal (column a) (number 1)) ∷ [] })
    ∷ select (record (from (item (column a) ∷ item (e.Aggregate ak.Sum (column b)) ∷ []) (source t ∷ [])) { groups = bare a ∷ [] })
    ∷ []

abbrev pub log_nulls : List Entry
log_nulls = at 1 1 entry.Create ∷ at 1 2 entry.Look ∷ at 1 2 (entry.Lend 0 0) ∷ at 1 2 entry.Commit ∷ at 1 3 entry.Look ∷ at 1 4 entry.Look ∷ []

pub shows_nulls : Transcript binds true 1 (alone input_nulls) log_nulls 1 input_nulls (codes "CREATE TABLE\nINSERT 4\n30\nSELECT 1\n1|10\n2|30\n\\N|60\nSELECT 3\n")
unfolding digits hidden-the_row-Expr-0 hidden-the_row-SqlExpr-0 hidden of_aggregate of_two of_compared of_not of_null_test
shows_nulls = (
  told (reply.Created ∷ reply.Inserted 4 ∷ reply.Rows (row 30 ∷ [])
      ∷ reply.Rows ((value.Int (pos 1) ∷ row 10) ∷ (value.Int (pos 2) ∷ row 30) ∷ (value.Null ∷ row 60) ∷ []) ∷ []),
  (
    idle_at 5,
    (((refl, refl), ((lent 0, refl, inl (refl, refl)), ((lent 0, refl, inl (refl, refl)), ((lent 0, refl, inl (refl, refl)), refl)))), refl),
    tt,
  ),
  refl,
)

-- a number that leaves 64 bits, and no row over which it would
abbrev pub input_range : List Piece
unfolding hidden-the_row-SqlExpr-0 hidden
input_range =
    make_t ∷ one 9223372036854775807
    ∷ select (from (item (e.Arith arith_kind.Plus (column a) (number 1)) ∷ []) (source t ∷ []))
    ∷ select (record (from (item (e.Arith arith_kind.Plus (column a) (number 1)) ∷ []) (source t ∷ [])) { conds = e.Compare compare.Less (column a) (number 0) ∷ [] })
    ∷ []

pub shows_range : Transcript binds true 1 (alone input_range) log_nulls 1 input_range (codes "CREATE TABLE\nINSERT 1\nERROR 22003 number out of range\nSELECT 0\n")
unfolding digits hidden-the_row-Expr-0 hidden-the_row-SqlExpr-0 hidden of_aggregate of_two of_compared of_not of_null_test
shows_range = (
  told (reply.Created ∷ reply.Inserted 1 ∷ reply.Error fault.NumericRange ∷ reply.Rows [] ∷ []),
  (
    idle_at 5,
    (((refl, refl), ((lent 0, refl, inl (refl, refl)), ((lent 0, refl, inl (refl, refl)), ((lent 0, refl, inl (refl, refl)), refl)))), refl),
    tt,
  ),
  refl,
)

-- a transaction sees its own rows, and rolled back leaves none
abbrev pub input_undone : List Piece
unfolding hidden-the_row-SqlExpr-0 hidden
input_undone = make_t ∷ one 1 ∷ begin ∷ one 1 ∷ count_t ∷ rollback ∷ count_t ∷ one 1 ∷ []

abbrev pub log_undone : List Entry
log_undone =
    at 1 1 entry.Create ∷ at 1 2 entry.Look ∷ at 1 2 (entry.Lend 0 0) ∷ at 1 2 entry.Commit ∷ at 1 4 entry.Look ∷ at 1 4 (entry.Lend 0 0)
    ∷ at 1 5 entry.Look ∷ at 1 6 (entry.Back 0 0 true) ∷ at 1 7 entry.Look ∷ at 1 8 entry.Look ∷ at 1 8 (entry.Lend 0 0) ∷ at 1 8 entry.Commit ∷ []

pub shows_undone : Transcript binds true 1 (alone input_undone) log_undone 1 input_undone (codes "CREATE TABLE\nINSERT 1\nBEGIN\nINSERT 1\n2\nSELECT 1\nROLLBACK\n1\nSELECT 1\nINSERT 1\n")
unfolding digits hidden-the_row-Expr-0 hidden-the_row-SqlExpr-0 hidden of_aggregate of_two of_compared of_not of_null_test
shows_undone = (
  told (reply.Created ∷ reply.Inserted 1 ∷ reply.Begun ∷ reply.Inserted 1 ∷ counted 2 ∷ reply.RolledBack ∷ counted 1 ∷ reply.Inserted 1 ∷ []),
  (
    idle_at 9,
    (
      (
        (refl, refl),
        ((lent 0, refl, inl (refl, refl)), ((refl, refl), ((lent 0, refl, inl (refl, refl)), ((lent 0, refl, inl (refl, refl)), (((refl, refl, tt), refl), ((lent 0, refl, inl (refl, refl)), ((lent 0, refl, inl (refl, refl)), refl))))))),
      ),
      refl,
    ),
    tt,
  ),
  refl,
)

-- what fails a transaction, and what ends it
abbrev pub input_failed : List Piece
input_failed = make_t ∷ begin ∷ select (all_from (source (codes "nope") ∷ [])) ∷ all_t ∷ commit ∷ commit ∷ []

pub shows_failed : Transcript binds true 1 (alone input_failed) (at 1 1 entry.Create ∷ at 1 3 entry.Look ∷ []) 1 input_failed (codes "CREATE TABLE\nBEGIN\nERROR 42P01 no such table\nERROR 25P02 transaction has failed\nROLLBACK\nERROR 25P01 no transaction\n")
shows_failed = (
  told (reply.Created ∷ reply.Begun ∷ reply.Error fault.UndefinedTable ∷ reply.Error fault.TransactionFailed ∷ reply.RolledBack ∷ reply.Error fault.NoTransaction ∷ []),
  (idle_at 7, (((refl, refl), ((refl, refl), ((lent 0, refl, inl (refl, refl)), ((refl, inl refl), ((tt, refl), ((refl, refl), refl)))))), refl), tt),
  refl,
)
