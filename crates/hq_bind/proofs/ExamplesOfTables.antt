-- What CREATE TABLE and ALTER TABLE make of tables.
use Rattle.std.proofs.Common.{◌≡◌, ℕ, List, [], ◌∷◌, codes, Some, false, refl}
use Rattle.hq_value.specs.declared.kind.Kind.{Kind}
use Rattle.hq_value.specs.declared.kind.Kind.TheVariants as kind
use Rattle.hq_value.specs.declared.table.Column.{Column}
use Rattle.hq_value.specs.Tables.{Definition}
use Rattle.hq_sql.specs.declared.tree.CreateStatement.{CreateStatement}
use Rattle.hq_bind.specs.Tables.{create_fault, exists, with_created, alter_fault, no_table, column_there, with_added}

abbrev a : List ℕ
a = codes "a"

abbrev b : List ℕ
b = codes "b"

abbrev t : List ℕ
t = codes "t"

abbrev u : List ℕ
u = codes "u"

abbrev column : List ℕ → Kind → Column
column name k = record { name = name; kind = k; not_null = false }

-- CREATE TABLE t (a INT, b TEXT) DISTRIBUTED BY (b)
abbrev create_t : CreateStatement
create_t = record { name = t; columns = column a kind.Int ∷ column b kind.Text ∷ []; keys = b ∷ [] }

abbrev table_t : Definition
table_t = record { name = t; columns = column a kind.Int ∷ column b kind.Text ∷ []; keys = 1 ∷ [] }

made : with_created [] create_t ≡ table_t ∷ []
made = refl

-- a second time it is there
there : create_fault (table_t ∷ []) t ≡ Some exists
there = refl

there_stays : with_created (table_t ∷ []) create_t ≡ table_t ∷ []
there_stays = refl

-- ALTER TABLE t ADD u BOOL adds the last column
added : with_added (table_t ∷ []) t (column u kind.Bool) ≡ record { name = t; columns = column a kind.Int ∷ column b kind.Text ∷ column u kind.Bool ∷ []; keys = 1 ∷ [] } ∷ []
added = refl

-- ALTER TABLE u: no table; ALTER TABLE t ADD a: the column is there
not_there : alter_fault (table_t ∷ []) u (column a kind.Int) ≡ Some no_table
not_there = refl

column_is_there : alter_fault (table_t ∷ []) t (column a kind.Bool) ≡ Some column_there
column_is_there = refl
