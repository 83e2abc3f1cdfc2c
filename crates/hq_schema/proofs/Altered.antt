-- What ALTER TABLE makes of the table at the first place of its name.
use Rattle.std.proofs.Common.{◌≡◌, ℕ, zero, suc, ◌+◌, ◌<◌, Bool, true, false, cond, List, [], ◌∷◌, ◌++◌, length, Option, Some, None, is_none, position, slice_index_or, slice_set, refl, sym, ap, subst, ◌∙◌, inl, inr, ◌⊎◌, not, ltb, ◌||◌, arith}
use Rattle.std.specs.List.{list_any, position_or_len}
use Rattle.std.proofs.lemmas.Bool.Decides.{nat_tests}
use Rattle.std.proofs.lemmas.List.Quantifiers.{position-Some}
use Rattle.hq_value.specs.Tables.{Definition, column_refusal, with_column}
use Rattle.hq_value.specs.declared.table.Column.{Column}
use Rattle.hq_schema.specs.declared.alter.AlterFault.{AlterFault as Why}
use Rattle.hq_schema.specs.declared.alter.AlterFault.TheVariants.{NoMemory}
use Rattle.hq_schema.specs.Refused.{alter_fault_of}
use Rattle.hq_bind.specs.Scope.{Name}
use Rattle.hq_bind.specs.Tables.{is_named, with_added, if_added, AlterFault, alter_fault, of_column, no_table}

added_at : (name : Name) (column : Column) (tables : List Definition) (i : ℕ) (d : Definition) → i < length tables → is_named name (slice_index_or tables i d) ≡ true
    → ((k : ℕ) → k < i → is_named name (slice_index_or tables k d) ≡ false) → column_refusal (slice_index_or tables i d) column ≡ None
    → with_added tables name column ≡ slice_set tables i (with_column (slice_index_or tables i d) column)
added_at name column [] i d h here before none = absurd (omega arith)
added_at name column (x ∷ xs) zero d h here before none =
    ap (λ b. cond b (if_added x column ∷ xs) (x ∷ with_added xs name column)) here ∙ ap (λ o. cond (is_none o) (with_column x column) x ∷ xs) none
added_at name column (x ∷ xs) (suc i) d h here before none =
    ap (λ b. cond b (if_added x column ∷ xs) (x ∷ with_added xs name column)) (before 0 (omega arith))
    ∙ ap (λ (ts : List Definition). x ∷ ts) (added_at name column xs i d (omega arith) here (λ k lt. before (suc k) (omega arith)) none)

fault_at : (name : Name) (column : Column) (tables : List Definition) (i : ℕ) (d : Definition) → i < length tables → is_named name (slice_index_or tables i d) ≡ true
    → ((k : ℕ) → k < i → is_named name (slice_index_or tables k d) ≡ false) → alter_fault tables name column ≡ of_column (column_refusal (slice_index_or tables i d) column)
fault_at name column [] i d h here before = absurd (omega arith)
fault_at name column (x ∷ xs) zero d h here before = ap (λ b. cond b (of_column (column_refusal x column)) (alter_fault xs name column)) here
fault_at name column (x ∷ xs) (suc i) d h here before =
    ap (λ b. cond b (of_column (column_refusal x column)) (alter_fault xs name column)) (before 0 (omega arith)) ∙ fault_at name column xs i d (omega arith) here (λ k lt. before (suc k) (omega arith))

-- the table r at that place becomes y
pub added_there : (name : Name) (column : Column) (tables new : List Definition) (i : ℕ) (r y : Definition) → position (is_named name) tables ≡ Some i → r ≡ slice_index_or tables i r
    → column_refusal r column ≡ None → y ≡ with_column r column → new ≡ slice_set tables i y → new ≡ with_added tables name column
added_there name column tables new i r y pos read none made set =
    let f = position-Some (is_named name) tables i r pos in
    let none_there : column_refusal (slice_index_or tables i r) column ≡ None = ap (λ d. column_refusal d column) (sym read) ∙ none in
    set ∙ ap (slice_set tables i) (made ∙ ap (λ d. with_column d column) read) ∙ sym (added_at name column tables i r f.0 f.1 f.2 none_there)

-- .. or is refused the column for the same cause
pub fault_there : (name : Name) (column : Column) (tables : List Definition) (i : ℕ) (r : Definition) → position (is_named name) tables ≡ Some i → r ≡ slice_index_or tables i r
    → alter_fault tables name column ≡ of_column (column_refusal r column)
fault_there name column tables i r pos read =
    let f = position-Some (is_named name) tables i r pos in
    fault_at name column tables i r f.0 f.1 f.2 ∙ ap (λ d. of_column (column_refusal d column)) (sym read)

pub within : (name : Name) (tables : List Definition) (i : ℕ) (d : Definition) → position (is_named name) tables ≡ Some i → i < length tables
within name tables i d pos = (position-Some (is_named name) tables i d pos).0

pub refused_there : (name : Name) (column : Column) (tables : List Definition) (i : ℕ) (r : Definition) (why : Why) → position (is_named name) tables ≡ Some i → r ≡ slice_index_or tables i r
    → ((why ≡ NoMemory) ⊎ (of_column (column_refusal r column) ≡ alter_fault_of why)) → (why ≡ NoMemory) ⊎ (alter_fault tables name column ≡ alter_fault_of why)
refused_there name column tables i r why pos read h = elim h [ inl e ↦ inl e | inr e ↦ inr (fault_there name column tables i r pos read ∙ e) ]

-- ---- no table of the name

-- a place is found exactly where one passes
front : (b : Bool) (m n : ℕ) (r : Bool) → ltb m n ≡ r → ltb (cond (not b) (1 + m) 0) (suc n) ≡ (b || r)
front true m n r e = grind (arith, nat_tests)
front false m n r e = let step : ltb (1 + m) (suc n) ≡ ltb m n = grind (arith, nat_tests) in step ∙ e

found_where_one_passes : (test : Definition → Bool) (ds : List Definition) → ltb (position_or_len test ds) (length ds) ≡ list_any test ds
found_where_one_passes test [] = refl
found_where_one_passes test (x ∷ xs) = front (test x) (position_or_len test xs) (length xs) (list_any test xs) (found_where_one_passes test xs)

is_none-chosen : (b : Bool) (n : ℕ) → is_none (cond b (Some n) None) ≡ not b
is_none-chosen true n = refl
is_none-chosen false n = refl

not_true : (b : Bool) → not b ≡ true → b ≡ false
not_true true e = cc
not_true false e = refl

none_passes : (test : Definition → Bool) (ds : List Definition) → position test ds ≡ None → list_any test ds ≡ false
none_passes test ds e =
    not_true (list_any test ds) (ap not (sym (found_where_one_passes test ds)) ∙ sym (is_none-chosen (ltb (position_or_len test ds) (length ds)) (position_or_len test ds)) ∙ ap is_none e)

or_none : (a b : Bool) → (a || b) ≡ false → (a ≡ false) × (b ≡ false)
or_none true b e = cc
or_none false b e = (refl, e)

none_named : (name : Name) (column : Column) (tables : List Definition) → list_any (is_named name) tables ≡ false → alter_fault tables name column ≡ Some no_table
none_named name column [] h = refl
none_named name column (x ∷ xs) h =
    let p = or_none (is_named name x) (list_any (is_named name) xs) h in
    ap (λ b. cond b (of_column (column_refusal x column)) (alter_fault xs name column)) p.0 ∙ none_named name column xs p.1

pub no_table_there : (name : Name) (column : Column) (tables : List Definition) → position (is_named name) tables ≡ None → alter_fault tables name column ≡ Some no_table
no_table_there name column tables pos = none_named name column tables (none_passes (is_named name) tables pos)
