-- Worked scripts that contracts name.
use Rattle.std.specs.Prelude.{ℕ, List, [], ◌∷◌, codes, false, ◌==◌, if◌then◌else◌}
use Rattle.hq_value.specs.declared.kind.Kind.TheVariants as kind
use Rattle.hq_expr.specs.declared.tree.Literal.TheVariants as lit
use Rattle.hq_sql.specs.declared.tree.Statement.TheVariants as statement
use Rattle.hq_value.specs.declared.entry.Entry.{Entry}
use Rattle.hq_value.specs.declared.entry.EntryKind.TheVariants as entry
use Rattle.hq_transcript.specs.Pieces.{Piece, Reads}
use Rattle.hq_transcript.specs.Examples.{at, int_column, create, insert, int, begin_snapshot, commit, make_t, one, all_t, count_t, t, a}

-- a table is made, filled and read
abbrev pub text_filled : List ℕ
text_filled = codes "CREATE TABLE t (a INT) DISTRIBUTED BY (a);INSERT INTO t VALUES (2),(1),(2);SELECT * FROM t;"

abbrev pub input_filled : List Piece
input_filled = make_t ∷ insert t ((int 2 ∷ []) ∷ (int 1 ∷ []) ∷ (int 2 ∷ []) ∷ []) ∷ all_t ∷ []

abbrev pub log_filled : List Entry
log_filled = at 1 1 entry.Create ∷ at 1 2 entry.Look ∷ at 1 2 (entry.Lend 0 0) ∷ at 1 2 entry.Commit ∷ at 1 3 entry.Look ∷ []

-- a snapshot, beside another session's INSERT
abbrev pub inputs_snapshot : ℕ → List Piece
inputs_snapshot k = if k == 1 then begin_snapshot ∷ count_t ∷ count_t ∷ commit ∷ count_t ∷ [] else (if k == 2 then one 5 ∷ [] else (if k == 3 then make_t ∷ one 1 ∷ [] else []))

abbrev pub log_snapshot : List Entry
log_snapshot =
    at 3 1 entry.Create ∷ at 3 2 entry.Look ∷ at 3 2 (entry.Lend 0 0) ∷ at 3 2 entry.Commit
    ∷ at 1 2 entry.Look ∷ at 2 1 entry.Look ∷ at 2 1 (entry.Lend 0 0) ∷ at 2 1 entry.Commit ∷ at 1 5 entry.Look ∷ []

-- a column is added
abbrev pub column_b : Piece
column_b = Reads (statement.Alter t (record { name = codes "b"; kind = kind.Text; not_null = false }))

abbrev pub input_alter : List Piece
input_alter = create t (int_column a ∷ []) [] ∷ one 1 ∷ column_b ∷ insert t ((int 2 ∷ lit.Text (codes "x") ∷ []) ∷ []) ∷ all_t ∷ []

abbrev pub log_alter : List Entry
log_alter =
    at 1 1 entry.Create ∷ at 1 2 entry.Look ∷ at 1 2 (entry.Lend 0 0) ∷ at 1 2 entry.Commit ∷ at 1 3 entry.Alter
    ∷ at 1 4 entry.Look ∷ at 1 4 (entry.Lend 0 0) ∷ at 1 4 entry.Commit ∷ at 1 5 entry.Look ∷ []
