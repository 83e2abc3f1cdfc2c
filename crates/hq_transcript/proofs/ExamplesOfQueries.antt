-- Worked scripts of the grammar's breadth: joins, groups, refusals, texts, buckets, ALTER.
use Rattle.std.proofs.Common.{length, ◌≡◌, ℕ, true, false, Some, List, [], ◌∷◌, map, refl, inl, codes, pos, ◌==◌, if◌then◌else◌}
use Rattle.std.specs.Fmt.{digits}
use Rattle.std.specs.Prelude.{replicate}
use Rattle.std.specs.List.{range_with_len}
use denote.Hole.Carrier.{hidden}
use Rattle.hq_algebra.specs.declared.expr.Expr.TheBlock.{hidden-the_row-Expr-0}
use Rattle.hq_expr.specs.declared.tree.SqlExpr.TheBlock.{hidden-the_row-SqlExpr-0}
use Rattle.hq_expr.specs.declared.tree.SqlExpr.TheVariants as e
use Rattle.hq_expr.specs.declared.tree.AggregateKind.TheVariants as ak
use Rattle.hq_value.specs.declared.operator.CompareKind.TheVariants as compare
use Rattle.hq_expr.specs.declared.tree.Literal.{Literal}
use Rattle.hq_expr.specs.declared.tree.Literal.TheVariants as lit
use Rattle.hq_sql.specs.declared.tree.SelectStatement.{SelectStatement}
use Rattle.hq_sql.specs.declared.tree.OrderBy.TheVariants as by
use Rattle.hq_sql.specs.declared.tree.Statement.TheVariants as statement
use Rattle.hq_sql.specs.declared.tree.InsertInput.TheVariants as input
use Rattle.hq_value.specs.declared.value.Value.{Value}
use Rattle.hq_value.specs.declared.value.Value.TheVariants as value
use Rattle.hq_value.specs.declared.kind.Kind.TheVariants as kind
use Rattle.hq_reply.specs.declared.fault.Fault.TheVariants as fault
use Rattle.hq_value.specs.declared.entry.Entry.{Entry}
use Rattle.hq_value.specs.declared.entry.EntryKind.TheVariants as entry
use Rattle.hq_reply.specs.declared.reply.Reply.TheVariants as reply
use Rattle.hq_bind.specs.Findings.{of_aggregate, of_two, of_compared, of_not, of_null_test}
use Rattle.hq_transcript.specs.Pieces.{Piece, Too_long, No_statement, Reads}
use Rattle.hq_value.specs.Bucket.{share}
use Rattle.hq_transcript.specs.Tables.{Put}
use Rattle.hq_transcript.specs.Binds.{binds}
use Rattle.hq_transcript.specs.Sights.{replay, found_by, committed_puts}
use Rattle.hq_transcript.specs.Step.{Idle, Choice, Step}
use Rattle.hq_transcript.specs.Transcript.{Transcript, own}
use Rattle.hq_transcript.specs.Examples.{at, alone, int_column, create, insert, insert_select, source, source_as, all_from, item, item_as, from, select, column, column_of, dotted, number, int, row, begin, commit, make_t, one, all_t, t, a}
use Rattle.hq_transcript.specs.Scripts.{column_b, input_alter, log_alter}
use Rattle.hq_transcript.proofs.ExampleWords.{lent, told, idle_at}

-- a statement that goes its whole way by lane 0, and one with no entry
abbrev pub b : List ℕ
b = codes "b"

-- ---- a join
abbrev pub input_join : List Piece
unfolding hidden-the_row-SqlExpr-0 hidden
input_join =
    create (codes "u") (int_column (codes "id") ∷ int_column (codes "g") ∷ []) (codes "id" ∷ [])
    ∷ insert (codes "u") ((int 1 ∷ int 10 ∷ []) ∷ (int 2 ∷ int 20 ∷ []) ∷ (int 3 ∷ int 10 ∷ []) ∷ [])
    ∷ create (codes "v") (int_column (codes "k") ∷ int_column (codes "g") ∷ []) (codes "k" ∷ [])
    ∷ insert (codes "v") ((int 7 ∷ int 10 ∷ []) ∷ (int 8 ∷ int 20 ∷ []) ∷ (int 9 ∷ int 10 ∷ []) ∷ [])
    ∷ select (record (from (item (column_of (codes "u") (codes "id")) ∷ item (column_of (codes "v") (codes "k")) ∷ []) (source (codes "u") ∷ source (codes "v") ∷ []))
    { conds = e.Compare compare.Equal (column_of (codes "u") (codes "g")) (column_of (codes "v") (codes "g")) ∷ [] })
    ∷ []

abbrev pub log_join : List Entry
log_join =
    at 1 1 entry.Create ∷ at 1 2 entry.Look ∷ at 1 2 (entry.Lend 0 0) ∷ at 1 2 entry.Commit
    ∷ at 1 3 entry.Create ∷ at 1 4 entry.Look ∷ at 1 4 (entry.Lend 1 0) ∷ at 1 4 entry.Commit ∷ at 1 5 entry.Look ∷ []

abbrev pub two : ℕ → ℕ → List Value
two m n = value.Int (pos m) ∷ row n

pub shows_join : Transcript binds true 3 (alone input_join) log_join 1 input_join (codes "CREATE TABLE\nINSERT 3\nCREATE TABLE\nINSERT 3\n1|7\n1|9\n2|8\n3|7\n3|9\nSELECT 5\n")
unfolding digits hidden-the_row-Expr-0 hidden-the_row-SqlExpr-0 hidden of_aggregate of_two of_compared of_not of_null_test
shows_join = (
  told (reply.Created ∷ reply.Inserted 3 ∷ reply.Created ∷ reply.Inserted 3 ∷ reply.Rows (two 1 7 ∷ two 1 9 ∷ two 2 8 ∷ two 3 7 ∷ two 3 9 ∷ []) ∷ []),
  (
    idle_at 6,
    (((refl, refl), ((lent 0, refl, inl (refl, refl)), ((refl, refl), ((lent 0, refl, inl (refl, refl)), ((lent 0, refl, inl (refl, refl)), refl))))), refl),
    tt,
  ),
  refl,
)

-- ---- too long, unended, a quoted semicolon
abbrev pub s : List ℕ
s = codes "s"

abbrev pub text : List ℕ → Literal
text z = lit.Text z

abbrev pub input_pieces : List Piece
input_pieces =
    make_t ∷ create s (record { name = a; kind = kind.Text; not_null = false } ∷ []) [] ∷ all_t ∷ Too_long
    ∷ insert s ((text (codes "a;b") ∷ []) ∷ []) ∷ select (all_from (source s ∷ [])) ∷ No_statement ∷ []

abbrev pub log_pieces : List Entry
log_pieces = at 1 1 entry.Create ∷ at 1 2 entry.Create ∷ at 1 3 entry.Look ∷ at 1 5 entry.Look ∷ at 1 5 (entry.Lend 1 0) ∷ at 1 5 entry.Commit ∷ at 1 6 entry.Look ∷ []

pub shows_pieces : Transcript binds true 1 (alone input_pieces) log_pieces 1 input_pieces (codes "CREATE TABLE\nCREATE TABLE\nSELECT 0\nERROR 54000 statement too long\nINSERT 1\na;b\nSELECT 1\nERROR 42601 syntax error\n")
unfolding digits
shows_pieces = (
  told (reply.Created ∷ reply.Created ∷ reply.Rows [] ∷ reply.Error fault.TooLong ∷ reply.Inserted 1 ∷ reply.Rows ((value.Text (codes "a;b") ∷ []) ∷ []) ∷ reply.Error fault.Syntax ∷ []),
  (
    idle_at 8,
    (((refl, refl), ((refl, refl), ((lent 0, refl, inl (refl, refl)), ((refl, refl), ((lent 0, refl, inl (refl, refl)), ((lent 0, refl, inl (refl, refl)), ((refl, inl refl), refl))))))), refl),
    tt,
  ),
  refl,
)

-- ---- a usual script
abbrev pub shop : List ℕ
shop = codes "shop"

abbrev pub sale : List ℕ
sale = codes "sale"

abbrev pub amount : List ℕ
amount = codes "amount"

abbrev pub total : List ℕ
total = codes "total"

abbrev pub usual : SelectStatement
unfolding hidden-the_row-SqlExpr-0 hidden
usual = record {
  distinct = false;
  items = item (column_of s (codes "city")) ∷ item_as (e.Aggregate ak.Sum (column_of (codes "x") amount)) total ∷ [];
  sources = source_as sale (codes "x") ∷ source_as shop s ∷ [];
  conds = e.Compare compare.Equal (column_of (codes "x") shop) (column_of s (codes "id")) ∷ e.Compare compare.AtLeast (column_of (codes "x") (codes "day")) (number 20240102) ∷ [];
  groups = dotted s (codes "city") ∷ [];
  having = Some (e.Compare compare.Greater (e.Aggregate ak.Sum (column_of (codes "x") amount)) (number 10));
  keys = record { by = by.Column total; descending = true } ∷ [];
  limit = Some 10;
}

abbrev pub input_shop : List Piece
unfolding hidden-the_row-SqlExpr-0 hidden
input_shop =
    create shop (record { name = codes "id"; kind = kind.Int; not_null = true } ∷ record { name = codes "city"; kind = kind.Text; not_null = false } ∷ []) (codes "id" ∷ [])
    ∷ create sale (int_column shop ∷ int_column (codes "day") ∷ int_column amount ∷ []) []
    ∷ insert shop ((int 1 ∷ text (codes "Oslo") ∷ []) ∷ (int 2 ∷ text (codes "Rome") ∷ []) ∷ (int 3 ∷ lit.Null ∷ []) ∷ [])
    ∷ insert sale ((int 1 ∷ int 20240102 ∷ int 50 ∷ []) ∷ (int 2 ∷ int 20240102 ∷ int 70 ∷ []) ∷ (int 1 ∷ int 20240103 ∷ int 25 ∷ []) ∷ (int 3 ∷ int 20240103 ∷ int 5 ∷ []) ∷ [])
    ∷ select usual ∷ []

abbrev pub log_shop : List Entry
log_shop =
    at 1 1 entry.Create ∷ at 1 2 entry.Create ∷ at 1 3 entry.Look ∷ at 1 3 (entry.Lend 0 0) ∷ at 1 3 entry.Commit
    ∷ at 1 4 entry.Look ∷ at 1 4 (entry.Lend 1 0) ∷ at 1 4 entry.Commit ∷ at 1 5 entry.Look ∷ []

pub shows_shop : Transcript binds true 3 (alone input_shop) log_shop 1 input_shop (codes "CREATE TABLE\nCREATE TABLE\nINSERT 3\nINSERT 4\nOslo|75\nRome|70\nSELECT 2\n")
unfolding digits hidden-the_row-Expr-0 hidden-the_row-SqlExpr-0 hidden of_aggregate of_two of_compared of_not of_null_test
shows_shop = (
  told (reply.Created ∷ reply.Created ∷ reply.Inserted 3 ∷ reply.Inserted 4 ∷ reply.Rows ((value.Text (codes "Oslo") ∷ row 75) ∷ (value.Text (codes "Rome") ∷ row 70) ∷ []) ∷ []),
  (
    idle_at 6,
    (((refl, refl), ((refl, refl), ((lent 0, refl, inl (refl, refl)), ((lent 0, refl, inl (refl, refl)), ((lent 0, refl, inl (refl, refl)), refl))))), refl),
    tt,
  ),
  refl,
)

-- ---- refusals
abbrev pub input_refusals : List Piece
unfolding hidden-the_row-SqlExpr-0 hidden
input_refusals =
    create t (int_column a ∷ record { name = b; kind = kind.Text; not_null = true } ∷ []) []
    ∷ create t (int_column a ∷ []) []
    ∷ select (from (item (column (codes "c")) ∷ []) (source t ∷ []))
    ∷ select (from (item (column a) ∷ []) (source_as t (codes "x") ∷ source_as t (codes "y") ∷ []))
    ∷ select (from (item (column a) ∷ []) (source t ∷ source t ∷ []))
    ∷ select (record (from (item (column a) ∷ []) (source t ∷ [])) { conds = e.Compare compare.Equal (column a) (e.Literal (text (codes "x"))) ∷ [] })
    ∷ select (from (item (column a) ∷ item e.CountAll ∷ []) (source t ∷ []))
    ∷ Reads (statement.Insert (record { name = t; columns = a ∷ []; input = input.Tuples ((int 1 ∷ []) ∷ []) }))
    ∷ No_statement
    ∷ create (codes "z") (int_column a ∷ int_column a ∷ []) []
    ∷ insert t ((int 1 ∷ text (replicate 1001 120) ∷ []) ∷ [])
    ∷ []

abbrev pub log_refusals : List Entry
log_refusals =
    at 1 1 entry.Create ∷ at 1 2 entry.Create ∷ at 1 3 entry.Look ∷ at 1 4 entry.Look ∷ at 1 5 entry.Look ∷ at 1 6 entry.Look ∷ at 1 7 entry.Look
    ∷ at 1 8 entry.Look ∷ at 1 11 entry.Look ∷ []

pub shows_refusals : Transcript binds true 1 (alone input_refusals) log_refusals 1 input_refusals (codes "CREATE TABLE\nERROR 42P07 table exists\nERROR 42703 no such column\nERROR 42702 column is ambiguous\nERROR 42712 source name used twice\nERROR 42804 kinds do not fit\nERROR 42803 column is not grouped\nERROR 23502 null not allowed\nERROR 42601 syntax error\nERROR 42701 column named twice\nERROR 54000 limit passed\n")
unfolding digits hidden-the_row-Expr-0 hidden-the_row-SqlExpr-0 hidden of_aggregate of_two of_compared of_not of_null_test
shows_refusals =
    let does : Choice = lent 0 in (
      told (reply.Created ∷ reply.Error fault.TableExists ∷ reply.Error fault.UndefinedColumn ∷ reply.Error fault.AmbiguousColumn ∷ reply.Error fault.DuplicateSource
          ∷ reply.Error fault.TypeMismatch ∷ reply.Error fault.NotGrouped ∷ reply.Error fault.NullNotAllowed ∷ reply.Error fault.Syntax
          ∷ reply.Error fault.DuplicateColumn ∷ reply.Error fault.Limit ∷ []),
      (
        idle_at 12,
        (
          (
            (refl, refl),
            (
              (refl, refl),
              (
                (does, refl, inl (refl, refl)),
                (
                  (does, refl, inl (refl, refl)),
                  (
                    (does, refl, inl (refl, refl)),
                    (
                      (does, refl, inl (refl, refl)),
                      ((does, refl, inl (refl, refl)), ((does, refl, inl (refl, refl)), ((refl, inl refl), ((refl, inl refl), ((does, refl, inl (refl, refl)), refl))))),
                    ),
                  ),
                ),
              ),
            ),
          ),
          refl,
        ),
        tt,
      ),
      refl,
    )

-- ---- texts, and DISTINCT over what is equal
abbrev pub strange : List ℕ
strange = 97 ∷ 124 ∷ 92 ∷ 10 ∷ 98 ∷ []

abbrev pub input_texts : List Piece
unfolding hidden-the_row-SqlExpr-0 hidden
input_texts =
    create s (record { name = a; kind = kind.Text; not_null = false } ∷ record { name = b; kind = kind.Bool; not_null = false } ∷ []) []
    ∷ insert s ((text strange ∷ lit.Bool true ∷ []) ∷ (text strange ∷ lit.Null ∷ []) ∷ (text strange ∷ lit.Bool false ∷ []) ∷ (text strange ∷ lit.Null ∷ []) ∷ [])
    ∷ select (record (from (item (column a) ∷ []) (source s ∷ [])) { limit = Some 1 })
    ∷ select (record (from (item (column b) ∷ []) (source s ∷ [])) { distinct = true })
    ∷ []

abbrev pub log_texts : List Entry
log_texts = at 1 1 entry.Create ∷ at 1 2 entry.Look ∷ at 1 2 (entry.Lend 0 0) ∷ at 1 2 entry.Commit ∷ at 1 3 entry.Look ∷ at 1 4 entry.Look ∷ []

pub shows_texts : Transcript binds true 1 (alone input_texts) log_texts 1 input_texts (codes "CREATE TABLE\nINSERT 4\na\\|\\\\\\nb\nSELECT 1\nf\nt\n\\N\nSELECT 3\n")
unfolding digits hidden-the_row-Expr-0 hidden-the_row-SqlExpr-0 hidden of_aggregate of_two of_compared of_not of_null_test
shows_texts = (
  told (reply.Created ∷ reply.Inserted 4 ∷ reply.Rows ((value.Text strange ∷ []) ∷ []) ∷ reply.Rows ((value.Bool false ∷ []) ∷ (value.Bool true ∷ []) ∷ (value.Null ∷ []) ∷ []) ∷ []),
  (
    idle_at 5,
    (((refl, refl), ((lent 0, refl, inl (refl, refl)), ((lent 0, refl, inl (refl, refl)), ((lent 0, refl, inl (refl, refl)), refl)))), refl),
    tt,
  ),
  refl,
)

-- ---- rows spread at random go to the buckets by their places; no rows, no lane
abbrev pub w : List ℕ
w = codes "w"

abbrev pub input_spread : List Piece
unfolding hidden-the_row-SqlExpr-0 hidden
input_spread =
    create w (int_column a ∷ []) [] ∷ insert w (map (λ n. int n ∷ []) (range_with_len 0 17))
    ∷ insert_select w (record (from (item (column a) ∷ []) (source w ∷ [])) { conds = e.Compare compare.Greater (column a) (number 99) ∷ [] })
    ∷ []

abbrev pub log_spread : List Entry
log_spread = at 1 1 entry.Create ∷ at 1 2 entry.Look ∷ at 1 2 (entry.Lend 0 0) ∷ at 1 2 entry.Commit ∷ at 1 3 entry.Look ∷ []

pub shows_spread : Transcript binds true 1 (alone input_spread) log_spread 1 input_spread (codes "CREATE TABLE\nINSERT 17\nINSERT 0\n")
unfolding digits hidden-the_row-Expr-0 hidden-the_row-SqlExpr-0 hidden of_aggregate of_two of_compared of_not of_null_test
shows_spread = (
  told (reply.Created ∷ reply.Inserted 17 ∷ reply.Inserted 0 ∷ []),
  (idle_at 4, (((refl, refl), ((lent 0, refl, inl (refl, refl)), ((lent 0, refl, inl (refl, refl)), refl))), refl), tt),
  refl,
)

abbrev pub rows_of : List Put → List (List Value)
rows_of [] = []
rows_of (put ∷ puts) = put.rows

pub shows_spread_bucket : share [] (rows_of (committed_puts binds (alone input_spread) 1 log_spread 5)) 0 ≡ row 0 ∷ row 16 ∷ []
unfolding hidden-the_row-Expr-0 hidden-the_row-SqlExpr-0 hidden of_aggregate of_two of_compared of_not of_null_test
shows_spread_bucket = refl

-- ---- a column is added
pub shows_alter : Transcript binds true 1 (alone input_alter) log_alter 1 input_alter (codes "CREATE TABLE\nINSERT 1\nALTER TABLE\nINSERT 1\n1|\\N\n2|x\nSELECT 2\n")
unfolding digits
shows_alter = (
  told (reply.Created ∷ reply.Inserted 1 ∷ reply.Altered ∷ reply.Inserted 1 ∷ reply.Rows ((value.Int (pos 1) ∷ value.Null ∷ []) ∷ (value.Int (pos 2) ∷ value.Text (codes "x") ∷ []) ∷ []) ∷ []),
  (
    idle_at 6,
    (((refl, refl), ((lent 0, refl, inl (refl, refl)), ((refl, refl), ((lent 0, refl, inl (refl, refl)), ((lent 0, refl, inl (refl, refl)), refl))))), refl),
    tt,
  ),
  refl,
)

-- added between an INSERT and its transaction's later look and its COMMIT
abbrev pub inputs_between : ℕ → List Piece
inputs_between k = if k == 1 then make_t ∷ begin ∷ one 1 ∷ all_t ∷ commit ∷ all_t ∷ [] else (if k == 2 then column_b ∷ [] else [])

abbrev pub log_between : List Entry
log_between =
    at 1 1 entry.Create ∷ at 1 3 entry.Look ∷ at 1 3 (entry.Lend 0 0) ∷ at 2 1 entry.Alter ∷ at 1 4 entry.Look ∷ at 1 5 entry.Commit ∷ at 1 6 entry.Look ∷ []

pub shows_between : Transcript binds true 1 inputs_between log_between 1 (inputs_between 1) (codes "CREATE TABLE\nBEGIN\nINSERT 1\n1|\\N\nSELECT 1\nCOMMIT\n1|\\N\nSELECT 1\n")
unfolding digits
shows_between = (
  told (reply.Created ∷ reply.Begun ∷ reply.Inserted 1 ∷ reply.Rows ((value.Int (pos 1) ∷ value.Null ∷ []) ∷ []) ∷ reply.Committed ∷ reply.Rows ((value.Int (pos 1) ∷ value.Null ∷ []) ∷ []) ∷ []),
  (
    idle_at 7,
    (((refl, refl), ((refl, refl), ((lent 0, refl, inl (refl, refl)), ((lent 0, refl, inl (refl, refl)), (inl (refl, refl), ((lent 0, refl, inl (refl, refl)), refl)))))), refl),
    tt,
  ),
  refl,
)

-- ---- sixty-four tables, and one more
abbrev pub numbered : ℕ → Piece
numbered n = create (n ∷ []) (int_column a ∷ []) []

abbrev pub input_tables : List Piece
input_tables = map numbered (range_with_len 1 65)

abbrev pub log_tables : List Entry
log_tables = map (λ n. at 1 n entry.Create) (range_with_len 1 65)

pub shows_one_table_more : Step binds true (found_by binds 1 input_tables (replay binds (alone input_tables) 1 log_tables) 0 65) Idle [] (numbered 65) (own log_tables 1 65) (Some (reply.Error fault.TooManyTables))
shows_one_table_more = (refl, refl)

-- a sixty-fifth table is not made
pub shows_no_table_more : length (replay binds (alone input_tables) 1 log_tables).tables ≡ 64
shows_no_table_more = refl

-- ---- values that do not fit; one lane for a transaction's INSERTs, which read its own earlier rows
abbrev pub copy_t : Piece
copy_t = insert_select t (all_from (source t ∷ []))

abbrev pub input_copy : List Piece
input_copy =
    make_t ∷ insert t ((text (codes "x") ∷ []) ∷ []) ∷ insert t ((int 1 ∷ int 2 ∷ []) ∷ [])
    ∷ begin ∷ one 2 ∷ copy_t ∷ one 1 ∷ copy_t ∷ commit ∷ all_t ∷ []

abbrev pub log_copy : List Entry
log_copy =
    at 1 1 entry.Create ∷ at 1 2 entry.Look ∷ at 1 3 entry.Look ∷ at 1 5 entry.Look ∷ at 1 5 (entry.Lend 0 0) ∷ at 1 6 entry.Look ∷ at 1 7 entry.Look
    ∷ at 1 8 entry.Look ∷ at 1 9 entry.Commit ∷ at 1 10 entry.Look ∷ []

pub shows_copy : Transcript binds true 1 (alone input_copy) log_copy 1 input_copy (codes "CREATE TABLE\nERROR 42804 kinds do not fit\nERROR 42804 kinds do not fit\nBEGIN\nINSERT 1\nINSERT 1\nINSERT 1\nINSERT 3\nCOMMIT\n1\n1\n2\n2\n2\n2\nSELECT 6\n")
unfolding digits hidden-the_row-Expr-0 hidden-the_row-SqlExpr-0 hidden of_aggregate of_two of_compared of_not of_null_test
shows_copy =
    let does : Choice = lent 0 in (
      told (reply.Created ∷ reply.Error fault.TypeMismatch ∷ reply.Error fault.TypeMismatch ∷ reply.Begun ∷ reply.Inserted 1 ∷ reply.Inserted 1 ∷ reply.Inserted 1 ∷ reply.Inserted 3 ∷ reply.Committed
          ∷ reply.Rows (row 1 ∷ row 1 ∷ row 2 ∷ row 2 ∷ row 2 ∷ row 2 ∷ []) ∷ []),
      (
        idle_at 11,
        (
          (
            (refl, refl),
            (
              (does, refl, inl (refl, refl)),
              (
                (does, refl, inl (refl, refl)),
                (
                  (refl, refl),
                  (
                    (does, refl, inl (refl, refl)),
                    ((does, refl, inl (refl, refl)), ((does, refl, inl (refl, refl)), ((does, refl, inl (refl, refl)), (inl (refl, refl), ((does, refl, inl (refl, refl)), refl))))),
                  ),
                ),
              ),
            ),
          ),
          refl,
        ),
        tt,
      ),
      refl,
    )

-- ---- an order, and what else a list of columns, a key and the sources are refused for
abbrev pub insert_into : List ℕ → List (List ℕ) → List Literal → Piece
insert_into name columns tuple = Reads (statement.Insert (record { name = name; columns = columns; input = input.Tuples (tuple ∷ []) }))

abbrev pub ordered : ℕ → SelectStatement
ordered place = record (from (item (column a) ∷ []) (source t ∷ [])) { keys = record { by = by.Place place; descending = true } ∷ []; limit = Some 2 }

abbrev pub input_order : List Piece
unfolding hidden-the_row-SqlExpr-0 hidden
input_order =
    make_t ∷ insert t ((int 1 ∷ []) ∷ (int 3 ∷ []) ∷ (lit.Null ∷ []) ∷ (int 2 ∷ []) ∷ []) ∷ select (ordered 1)
    ∷ insert_into t (b ∷ []) (int 1 ∷ []) ∷ insert_into t (a ∷ a ∷ []) (int 1 ∷ int 2 ∷ []) ∷ select (ordered 2) ∷ insert_into (codes "nope") [] (int 1 ∷ [])
    ∷ select (all_from (map (λ n. source_as t (n ∷ [])) (range_with_len 97 9))) ∷ []

abbrev pub log_order : List Entry
log_order =
    at 1 1 entry.Create ∷ at 1 2 entry.Look ∷ at 1 2 (entry.Lend 0 0) ∷ at 1 2 entry.Commit ∷ at 1 3 entry.Look ∷ at 1 4 entry.Look ∷ at 1 5 entry.Look
    ∷ at 1 6 entry.Look ∷ at 1 7 entry.Look ∷ at 1 8 entry.Look ∷ []

pub shows_order : Transcript binds true 1 (alone input_order) log_order 1 input_order (codes "CREATE TABLE\nINSERT 4\n\\N\n3\nSELECT 2\nERROR 42703 no such column\nERROR 42701 column named twice\nERROR 42703 no such column\nERROR 42P01 no such table\nERROR 54000 limit passed\n")
unfolding digits hidden-the_row-Expr-0 hidden-the_row-SqlExpr-0 hidden of_aggregate of_two of_compared of_not of_null_test
shows_order =
    let does : Choice = lent 0 in (
      told (reply.Created ∷ reply.Inserted 4 ∷ reply.Rows ((value.Null ∷ []) ∷ row 3 ∷ []) ∷ reply.Error fault.UndefinedColumn ∷ reply.Error fault.DuplicateColumn
          ∷ reply.Error fault.UndefinedColumn ∷ reply.Error fault.UndefinedTable ∷ reply.Error fault.Limit ∷ []),
      (
        idle_at 9,
        (
          (
            (refl, refl),
            (
              (does, refl, inl (refl, refl)),
              (
                (does, refl, inl (refl, refl)),
                ((does, refl, inl (refl, refl)), ((does, refl, inl (refl, refl)), ((does, refl, inl (refl, refl)), ((does, refl, inl (refl, refl)), ((does, refl, inl (refl, refl)), refl))))),
              ),
            ),
          ),
          refl,
        ),
        tt,
      ),
      refl,
    )

-- the added column stands in its place also where another source stands behind it
abbrev pub input_beside : List Piece
unfolding hidden-the_row-SqlExpr-0 hidden
input_beside =
    make_t ∷ one 1 ∷ column_b
    ∷ select (from (item (column_of (codes "x") b) ∷ item (column_of (codes "y") a) ∷ []) (source_as t (codes "x") ∷ source_as t (codes "y") ∷ [])) ∷ []

abbrev pub log_beside : List Entry
log_beside = at 1 1 entry.Create ∷ at 1 2 entry.Look ∷ at 1 2 (entry.Lend 0 0) ∷ at 1 2 entry.Commit ∷ at 1 3 entry.Alter ∷ at 1 4 entry.Look ∷ []

pub shows_beside : Transcript binds true 1 (alone input_beside) log_beside 1 input_beside (codes "CREATE TABLE\nINSERT 1\nALTER TABLE\n\\N|1\nSELECT 1\n")
unfolding digits hidden-the_row-Expr-0 hidden-the_row-SqlExpr-0 hidden of_aggregate of_two of_compared of_not of_null_test
shows_beside = (
  told (reply.Created ∷ reply.Inserted 1 ∷ reply.Altered ∷ reply.Rows ((value.Null ∷ row 1) ∷ []) ∷ []),
  (idle_at 5, (((refl, refl), ((lent 0, refl, inl (refl, refl)), ((refl, refl), ((lent 0, refl, inl (refl, refl)), refl)))), refl), tt),
  refl,
)
