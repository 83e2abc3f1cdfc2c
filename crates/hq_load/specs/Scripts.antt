-- The scripts of a load, by the number of the session.
--     RowsLeft                            the rows of a session, of which some were taken
--     word seed session i                 the word that is drawn for row i, from 0, of a session
--     tuple_text id grp val               a row as INSERT has it
--     row_text seed session i             that row
--     rows_text seed session from count   so many rows from one on, with a comma between each two
--     group_text seed session rows j      transaction j, from 0, of a session that inserts so many rows
--     groups_text seed session rows       all its transactions
--     script_of seed sessions rows session    the script of a session
use Rattle.std.specs.Prelude.{ℕ, ◌+◌, ◌-◌, ◌*◌, ◌%◌, min, List, ◌++◌, ◌==◌, if◌then◌else◌, codes, decimal}
use Rattle.std.specs.Int.{div_ceil}
use Rattle.std.specs.List.{range_with_len, join_by, flat_map}
use Rattle.rand_pcg.specs.Lcg.{Lcg, advance, started, increment_of}
use Rattle.rand_pcg.specs.Pcg.{multiplier_64, pcg32}

-- the rows of a session, of which `next` were taken
pub record RowsLeft : Type 0 where
  pub seed : ℕ
  pub session : ℕ
  pub next : ℕ

-- the generator of a session, before row i
unfoldable pub draws_at : ℕ → ℕ → ℕ → Lcg
draws_at seed session i = advance 64 multiplier_64 i (started 64 multiplier_64 seed (increment_of 64 session))

-- the word that is drawn for row i
unfoldable pub word : ℕ → ℕ → ℕ → ℕ
word seed session i = (pcg32 (draws_at seed session i)).0

-- a row of three numbers
abbrev pub tuple_text : ℕ → ℕ → ℕ → List ℕ
tuple_text id grp val = codes "(" ++ decimal id ++ codes "," ++ decimal grp ++ codes "," ++ decimal val ++ codes ")"

-- row i: its id, a group below 10 and a value below 1000
abbrev pub row_text : ℕ → ℕ → ℕ → List ℕ
row_text seed session i =
    tuple_text (session * 1000000 + i) (word seed session i % 10) (word seed session i % 1000)

-- `count` rows from row `from` on
unfoldable pub rows_text : ℕ → ℕ → ℕ → ℕ → List ℕ
rows_text seed session from count = join_by (row_text seed session) (codes ",") (range_with_len from count)

-- each seventh transaction is rolled back
abbrev pub end_text : ℕ → List ℕ
end_text j = if j % 7 == 6 then codes "ROLLBACK;" else codes "COMMIT;"

-- transaction j has the next 100 rows, or the rest
abbrev pub group_text : ℕ → ℕ → ℕ → ℕ → List ℕ
group_text seed session rows j = codes "BEGIN;INSERT INTO load VALUES "
    ++ rows_text seed session (100 * j) (min 100 (rows - 100 * j)) ++ codes ";" ++ end_text j

-- the first `count` transactions
abbrev pub groups_text : ℕ → ℕ → ℕ → ℕ → List ℕ
groups_text seed session rows count = flat_map (group_text seed session rows) (range_with_len 0 count)

-- the first session makes the table, the last one asks, and those between insert
abbrev pub script_of : ℕ → ℕ → ℕ → ℕ → List ℕ
script_of seed sessions rows session =
    if session == 1 then codes "CREATE TABLE load (id INT NOT NULL, grp INT, val INT) DISTRIBUTED BY (id);"
    else if session == sessions + 2 then codes "SELECT COUNT(*), SUM(val) FROM load;"
    else groups_text seed session rows (div_ceil rows 100)
