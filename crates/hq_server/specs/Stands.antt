-- Tables as they are kept, and the tables that they stand for.
--     Stands kept tables           each kept table has the name, the columns and, in some order, the rows of its table
--     AnswersTo s old reply new    the reply is the statement's, and what is kept stands for the tables that it leaves
use Rattle.std.specs.Prelude.{◌≡◌, ℕ, List, [], ◌∷◌, map, Option}
use Rattle.hq_value.specs.declared.table.Column.{Column}
use Rattle.hq_value.specs.Order.{SameBag}
use Rattle.hq_forms.specs.declared.form.Form.{Form}
use Rattle.hq_reply.specs.declared.reply.Reply.{Reply}
use Rattle.hq_value.specs.Bucket.{Buckets, rows_of}
use Rattle.hq_table.specs.Kept.{TableState, Keeps}
use Rattle.hq_server.specs.Tables.{Table, IsAnswer}

pub record Holds (kept : TableState) (table : Table) : Type 0 where
  pub name : kept.name ≡ table.name
  pub columns : kept.columns ≡ table.columns
  pub keys : kept.keys ≡ table.keys
  pub buckets : Buckets
  pub keeps : Keeps kept buckets
  pub rows : SameBag (rows_of buckets) table.rows

abbrev pub Stands : List TableState → List Table → Type 0
Stands [] [] = Unit {0}
Stands (kept ∷ more) (table ∷ tables) = Holds kept table × Stands more tables
Stands _ _ = ⊥

abbrev pub kept_names : List TableState → List (List ℕ)
kept_names kept = map (λ (table : TableState). table.name) kept

-- the reply is the statement's, and what is kept then stands for the tables that it leaves
abbrev pub AnswersTo : Option Form → List TableState → Reply → List TableState → Type 0
AnswersTo s old reply new = (tables : List Table) → Stands old tables → (after : List Table) × IsAnswer s tables reply after × Stands new after

-- a new table with no rows
pub record IsEmpty (name : List ℕ) (columns : List Column) (keys : List ℕ) (kept : TableState) : Type 0 where
  pub name_is : kept.name ≡ name
  pub columns_are : kept.columns ≡ columns
  pub keys_are : kept.keys ≡ keys
  pub empty : Keeps kept (λ b. [])
