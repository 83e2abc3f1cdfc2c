-- Words for worked scripts.
use Rattle.std.specs.Prelude.{ℕ, true, false, List, [], ◌∷◌, Some, None, codes, pos, ◌==◌, if◌then◌else◌}
use Rattle.hq_value.specs.declared.value.Value.{Value}
use Rattle.hq_value.specs.declared.value.Value.TheVariants as value
use Rattle.hq_value.specs.declared.kind.Kind.TheVariants as kind
use Rattle.hq_value.specs.declared.table.Column.{Column}
use Rattle.hq_expr.specs.declared.tree.Literal.{Literal}
use Rattle.hq_expr.specs.declared.tree.Literal.TheVariants as lit
use Rattle.hq_expr.specs.declared.tree.SqlExpr.{SqlExpr}
use Rattle.hq_expr.specs.declared.tree.SqlExpr.TheVariants as e
use Rattle.hq_expr.specs.declared.tree.ColumnRef.{ColumnRef}
use Rattle.hq_sql.specs.declared.tree.Statement.TheVariants as statement
use Rattle.hq_sql.specs.declared.tree.SelectStatement.{SelectStatement}
use Rattle.hq_sql.specs.declared.tree.SourceName.{SourceName}
use Rattle.hq_sql.specs.declared.tree.Item.{Item}
use Rattle.hq_sql.specs.declared.tree.InsertInput.TheVariants as input
use Rattle.hq_value.specs.declared.entry.Entry.{Entry}
use Rattle.hq_value.specs.declared.entry.EntryKind.{EntryKind}
use Rattle.hq_transcript.specs.Pieces.{Piece, Reads}

-- the entry of statement m of session k
abbrev pub at : ℕ → ℕ → EntryKind → Entry
at k m e = record { session = k; statement = m; kind = e }

-- one session alone
abbrev pub alone : List Piece → ℕ → List Piece
alone pieces k = if k == 1 then pieces else []

abbrev pub int_column : List ℕ → Column
int_column name = record { name = name; kind = kind.Int; not_null = false }

abbrev pub create : List ℕ → List Column → List (List ℕ) → Piece
create name columns keys = Reads (statement.Create (record { name = name; columns = columns; keys = keys }))

-- INSERT INTO name VALUES tuples
abbrev pub insert : List ℕ → List (List Literal) → Piece
insert name tuples = Reads (statement.Insert (record { name = name; columns = []; input = input.Tuples tuples }))

-- INSERT INTO name select
abbrev pub insert_select : List ℕ → SelectStatement → Piece
insert_select name s = Reads (statement.Insert (record { name = name; columns = []; input = input.Select s }))

abbrev pub source : List ℕ → SourceName
source name = record { table = name; alias = None }

abbrev pub source_as : List ℕ → List ℕ → SourceName
source_as name alias = record { table = name; alias = Some alias }

-- SELECT * FROM sources
abbrev pub all_from : List SourceName → SelectStatement
all_from sources = record { distinct = false; items = []; sources = sources; conds = []; groups = []; having = None; keys = []; limit = None }

abbrev pub item : SqlExpr → Item
item x = record { expr = x; alias = None }

abbrev pub item_as : SqlExpr → List ℕ → Item
item_as x name = record { expr = x; alias = Some name }

-- SELECT items FROM sources
abbrev pub from : List Item → List SourceName → SelectStatement
from items sources = record (all_from sources) { items = items }

abbrev pub select : SelectStatement → Piece
select s = Reads (statement.Select s)

-- a reference, also with its source
abbrev pub bare : List ℕ → ColumnRef
bare name = record { source = None; column = name }

abbrev pub dotted : List ℕ → List ℕ → ColumnRef
dotted source name = record { source = Some source; column = name }

abbrev pub column : List ℕ → SqlExpr
column name = e.Column (bare name)

abbrev pub column_of : List ℕ → List ℕ → SqlExpr
column_of source name = e.Column (dotted source name)

abbrev pub number : ℕ → SqlExpr
number n = e.Literal (lit.Int (pos n))

abbrev pub int : ℕ → Literal
int n = lit.Int (pos n)

abbrev pub row : ℕ → List Value
row n = value.Int (pos n) ∷ []

abbrev pub begin : Piece
begin = Reads (statement.Begin false)

abbrev pub begin_snapshot : Piece
begin_snapshot = Reads (statement.Begin true)

abbrev pub commit : Piece
commit = Reads statement.Commit

abbrev pub rollback : Piece
rollback = Reads statement.Rollback

-- CREATE TABLE t (a INT) DISTRIBUTED BY (a)
abbrev pub t : List ℕ
t = codes "t"

abbrev pub a : List ℕ
a = codes "a"

abbrev pub make_t : Piece
make_t = create t (int_column a ∷ []) (a ∷ [])

-- INSERT INTO t VALUES (n), SELECT * FROM t, SELECT COUNT(*) FROM t
abbrev pub one : ℕ → Piece
one n = insert t ((int n ∷ []) ∷ [])

abbrev pub all_t : Piece
all_t = select (all_from (source t ∷ []))

abbrev pub count_t : Piece
count_t = select (from (item e.CountAll ∷ []) (source t ∷ []))
