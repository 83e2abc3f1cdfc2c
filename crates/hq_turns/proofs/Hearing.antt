-- What an answer says of the history and of the tables.
use Rattle.std.proofs.Common.{◌≡◌, ◌<◌, ℕ, zero, suc, Bool, true, false, not, cond, List, [], ◌∷◌, ◌++◌, length, drop, Option, Some, None, refl, sym, ◌∙◌, ap, subst, arith, IsTrue, slice_index_or, position}
use Rattle.std.specs.Prelude.{nat_le}
use Rattle.std.proofs.lemmas.Bool.Decides.{nat_tests}
use Rattle.std.specs.List.{list_any}
use Rattle.std.proofs.lemmas.List.Quantifiers.{position-Some}
use Rattle.hq_value.specs.Tables.{Definition, column_refusal}
use Rattle.hq_value.specs.declared.table.Column.{Column}
use Rattle.hq_value.specs.declared.table.ColumnFault.{ColumnFault}
use Rattle.hq_value.specs.declared.table.ColumnFault.TheVariants as column_fault
use Rattle.hq_value.specs.declared.kind.Kind.{Kind}
use Rattle.hq_value.specs.declared.value.Value.{Value}
use Rattle.hq_history.specs.declared.noted.Noted.{Noted}
use Rattle.hq_history.specs.Deposits.{MayMake, is_new}
use Rattle.hq_bind.specs.Tables.{is_named, create_fault, exists, too_many_tables, alter_fault, of_column, no_table, too_many_columns, column_there, AlterFault}
use Rattle.hq_schema.proofs.Altered.{fault_there, no_table_there}
use Rattle.hq_catalog.specs.Files.{def_in, table_named}
use Rattle.hq_catalog.specs.Files as files
use Rattle.hq_reply.specs.declared.fault.Fault.TheVariants as fault
use Rattle.hq_reply.specs.declared.reply.Reply.TheVariants as reply
use Rattle.hq_transcript.specs.Step.{create_reply, created_reply, alter_reply, altered_reply}
use Rattle.hq_turns.specs.Now.{Now, behind, shown}

pub drop-behind : {A : Type 0} (xs ys : List A) → drop (length xs) (xs ++ ys) ≡ ys
drop-behind [] ys = refl
drop-behind (x ∷ xs) ys = drop-behind xs ys

pub drop-all : {A : Type 0} (xs : List A) → drop (length xs) xs ≡ []
drop-all [] = refl
drop-all (x ∷ xs) = drop-all xs

module _ (file_rows : List Kind → List ℕ → List (List Value)) (told : Bool) (nodes k : ℕ) (now : Now) (before new : List Noted) where
  -- an entry was noted, and nothing was
  pub noted-one : (n : Noted) → new ≡ before ++ n ∷ [] → behind file_rows told nodes k now before (drop (length before) new) ≡ shown file_rows told nodes k now before n
  noted-one n e = ap (λ xs. behind file_rows told nodes k now before (drop (length before) xs)) e ∙ ap (behind file_rows told nodes k now before) (drop-behind before (n ∷ []))

  pub noted-none : new ≡ before → behind file_rows told nodes k now before (drop (length before) new) ≡ record now { history = before }
  noted-none e = ap (λ xs. behind file_rows told nodes k now before (drop (length before) xs)) e ∙ ap (behind file_rows told nodes k now before) (drop-all before)

-- ---- CREATE TABLE

is-not : (b : Bool) → not b ≡ true → b ≡ false
is-not true h = cc
is-not false h = refl

is-so : (b : Bool) → not b ≡ false → b ≡ true
is-so true h = refl
is-so false h = cc

few : (n : ℕ) → n < 64 → nat_le 64 n ≡ false
few n h = grind (arith, nat_tests)

many : (n : ℕ) → n ≡ 64 → nat_le 64 n ≡ true
many n h = subst (λ k. nat_le 64 k ≡ true) (sym h) refl

module _ (tables : List Definition) (def : Definition) where
  pub made : MayMake tables def → create_reply tables def ≡ reply.Created
  made m =
      ap (λ b. created_reply (cond b (Some exists) (cond (nat_le 64 (length tables)) (Some too_many_tables) None))) (is-not (list_any (is_named def.name) tables) m.new_name)
      ∙ ap (λ b. created_reply (cond b (Some too_many_tables) None)) (few (length tables) m.room)

  pub there : is_new def.name tables ≡ false → create_reply tables def ≡ reply.Error fault.TableExists
  there h = ap (λ b. created_reply (cond b (Some exists) (cond (nat_le 64 (length tables)) (Some too_many_tables) None))) (is-so (list_any (is_named def.name) tables) h)

  pub full : is_new def.name tables ≡ true → length tables ≡ 64 → create_reply tables def ≡ reply.Error fault.TooManyTables
  full h n =
      ap (λ b. created_reply (cond b (Some exists) (cond (nat_le 64 (length tables)) (Some too_many_tables) None))) (is-not (list_any (is_named def.name) tables) h)
      ∙ ap (λ b. created_reply (cond b (Some too_many_tables) None)) (many (length tables) n)

-- ---- ALTER TABLE

same-at : {A : Type 0} (xs : List A) (i : ℕ) (d e : A) → i < length xs → slice_index_or xs i d ≡ slice_index_or xs i e
same-at [] i d e h = absurd (omega arith)
same-at (x ∷ xs) zero d e h = refl
same-at (x ∷ xs) (suc i) d e h = same-at xs i d e (omega (arith, h))

module _ (tables : List Definition) (name : List ℕ) (column : Column) where
  -- the table of the name decides
  by-table : (t : ℕ) → table_named name tables ≡ Some t → alter_reply tables name column ≡ altered_reply (of_column (column_refusal (def_in tables t) column))
  by-table t h =
      let d : Definition = def_in tables t in
      let within : t < length tables = (position-Some (is_named name) tables t d h).0 in
      ap altered_reply (fault_there name column tables t d h (same-at tables t files.no_table d within))

  pub altered : (t : ℕ) → table_named name tables ≡ Some t → column_refusal (def_in tables t) column ≡ None → alter_reply tables name column ≡ reply.Altered
  altered t h none = by-table t h ∙ ap (λ o. altered_reply (of_column o)) none

  pub no-table : table_named name tables ≡ None → alter_reply tables name column ≡ reply.Error fault.UndefinedTable
  no-table h = ap altered_reply (no_table_there name column tables h)

  pub too-many-columns : (t : ℕ) → table_named name tables ≡ Some t → column_refusal (def_in tables t) column ≡ Some column_fault.TooManyColumns
      → alter_reply tables name column ≡ reply.Error fault.Limit
  too-many-columns t h e = by-table t h ∙ ap (λ o. altered_reply (of_column o)) e

  pub column-there : (t : ℕ) → table_named name tables ≡ Some t → column_refusal (def_in tables t) column ≡ Some column_fault.ColumnThere
      → alter_reply tables name column ≡ reply.Error fault.DuplicateColumn
  column-there t h e = by-table t h ∙ ap (λ o. altered_reply (of_column o)) e
