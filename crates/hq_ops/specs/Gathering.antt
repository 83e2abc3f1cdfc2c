-- Groups, and what aggregates have come to in them.
--     HasPlace y keys news index fresh           a key has its group at an index
--     started fresh olds                         the places of the groups, one more where it is new
--     GrewAt c index fresh row olds news         a row was added in its group
--     IsTally by rows tally                      what an aggregate has come to in each group
--     HasGathered by columns rows keys tallies   the groups of the rows, and what each aggregate has come to in each
--     AreEven keys tallies                       there is a place for each group
--     AllGrew index fresh row olds news          a row was added in its group, in each tally
--     given_at index t, leaves_at index t        what stands for a tally in the row of the group at an index
--     rows_from, leaves_from                     the rows of the groups from an index on
--     group_row by columns rows k                the key of a group, and what stands for each aggregate over its rows
--     group_rows by columns rows                 the same of each group, by first appearance
--     some_fault by columns rows                 reading faults over some row, or a count or a sum of some group leaves 64 bits
use Rattle.std.specs.Prelude.{◌≡◌, ℕ, Bool, false, not, ◌||◌, List, [], ◌∷◌, ◌++◌, ◌+◌, ◌<◌, length, All, map, flat_map, slice_index_or, slice_set, if◌then◌else◌}
use Rattle.std.specs.List.{list_any, position_or_len}
use Rattle.std.specs.Cmp.Lexicographic.{pointwise}
use Rattle.hq_value.specs.declared.value.Value.{Value}
use Rattle.hq_value.specs.contracts.value.ValuePartialEq.TheImpl as partial
use Rattle.hq_meaning.specs.Rows.{Row, firsts}
use Rattle.hq_meaning.specs.Groups.{keys_found, members}
use Rattle.hq_ops.specs.declared.column.Column.{Column}
use Rattle.hq_ops.specs.declared.gathered.Tally.{Tally}
use Rattle.hq_ops.specs.declared.groups.GroupBy.{GroupBy}
use Rattle.hq_ops.specs.declared.running.Running.{Running}
use Rattle.hq_ops.specs.declared.running.Running.TheVariants as running
use Rattle.hq_ops.specs.Columns.{reads, reads_fault, joins, comes, seen, given, leaves}
use Rattle.hq_ops.specs.Grouping.{key_by, width_by}

-- a key has its group at this index; where it is new it stands behind the others
pub record HasPlace (y : Row) (keys news : List Row) (index : ℕ) (fresh : Bool) : Type 0 where
  pub keys_are : news ≡ (if list_any (λ w. pointwise (partial.ghosts).eq y w) keys then keys else keys ++ y ∷ [])
  pub fresh_is : fresh ≡ not (list_any (λ w. pointwise (partial.ghosts).eq y w) keys)
  pub index_is : index ≡ position_or_len (λ w. pointwise (partial.ghosts).eq y w) keys

-- the places of the groups, one more where it is new
abbrev pub started : Bool → List Running → List Running
started fresh olds = if fresh then olds ++ running.Nothing ∷ [] else olds

-- what is read of a row was added in its group
pub record GrewAt (c : Column) (index : ℕ) (fresh : Bool) (row : Row) (olds news : List Running) : Type 0 where
  pub one : Running
  pub is : news ≡ slice_set (started fresh olds) index one
  pub value : seen c one ≡ joins c (seen c (slice_index_or (started fresh olds) index running.Nothing)) (reads c row)

-- what an aggregate has come to in each group
abbrev pub IsTally : GroupBy → List Row → Tally → Type 0
IsTally by rows t = map (seen t.column) t.groups.items ≡ map (λ k. comes t.column (members (key_by by) k rows)) (firsts (map (key_by by) rows))

abbrev pub row_faults : List Column → Row → Bool
row_faults columns row = list_any (λ c. reads_fault c row) columns

-- the groups of the rows, and what each aggregate has come to in each; no reading faulted
pub record HasGathered (by : GroupBy) (columns : List Column) (rows keys : List Row) (tallies : List Tally) : Type 0 where
  pub keys_are : keys ≡ firsts (map (key_by by) rows)
  pub columns_are : map (λ t. t.column) tallies ≡ columns
  pub tallies_are : All (IsTally by rows) tallies
  pub no_fault : list_any (row_faults columns) rows ≡ false

-- there is a place for each group
abbrev pub AreEven : List Row → List Tally → Type 0
AreEven keys tallies = All (λ t. length t.groups.items ≡ length keys) tallies

-- a row was added in its group, in each tally
pub record AllGrew (index : ℕ) (fresh : Bool) (row : Row) (olds news : List Tally) : Type 0 where
  pub count : length news ≡ length olds
  pub columns : (n : ℕ) (d : Tally) → n < length olds → (slice_index_or news n d).column ≡ (slice_index_or olds n d).column
  pub grew : (n : ℕ) (d : Tally) → n < length olds →
      GrewAt (slice_index_or olds n d).column index fresh row (slice_index_or olds n d).groups.items (slice_index_or news n d).groups.items

-- what a tally says of the group at an index, of nothing past the end
abbrev pub seen_at : ℕ → Tally → Value
seen_at index t = seen t.column (slice_index_or t.groups.items index running.Nothing)

abbrev pub given_at : ℕ → Tally → List Value
given_at index t = given t.column (seen_at index t)

abbrev pub leaves_at : ℕ → Tally → Bool
leaves_at index t = leaves t.column (seen_at index t)

-- the rows of the groups from an index on, by their keys
abbrev pub rows_from : List Tally → ℕ → List Row → List Row
rows_from tallies index [] = []
rows_from tallies index (k ∷ keys) = (k ++ flat_map (given_at index) tallies) ∷ rows_from tallies (index + 1) keys

abbrev pub leaves_from : List Tally → ℕ → List Row → Bool
leaves_from tallies index [] = false
leaves_from tallies index (k ∷ keys) = list_any (leaves_at index) tallies || leaves_from tallies (index + 1) keys

-- what stands for an aggregate over the rows of a group
abbrev pub given_over : List Row → Column → List Value
given_over rows c = given c (comes c rows)

abbrev pub leaves_over : List Row → Column → Bool
leaves_over rows c = leaves c (comes c rows)

-- the key of a group, and what stands for each aggregate over its rows
abbrev pub group_row : GroupBy → List Column → List Row → Row → Row
group_row by columns rows k = k ++ flat_map (given_over (members (key_by by) k rows)) columns

abbrev pub group_keys_by : GroupBy → List Row → List Row
group_keys_by by rows = keys_found (width_by by) (key_by by) rows

-- the same of each group, by first appearance; without keys there is one group, also over no row
abbrev pub group_rows : GroupBy → List Column → List Row → List Row
group_rows by columns rows = map (group_row by columns rows) (group_keys_by by rows)

-- a count or a sum of some group has to be a number of 64 bits, and is none
abbrev pub group_leaves : GroupBy → List Column → List Row → Bool
group_leaves by columns rows = list_any (λ k. list_any (leaves_over (members (key_by by) k rows)) columns) (group_keys_by by rows)

-- reading faults over some row, or a count or a sum of some group leaves 64 bits
abbrev pub some_fault : GroupBy → List Column → List Row → Bool
some_fault by columns rows = list_any (row_faults columns) rows || group_leaves by columns rows
