-- The bounds of a block's columns: their least and greatest values.
--     value_at row place         the row's value in a column; NULL where it has none
--     column_bounds kind place rows    the bounds of a column of the rows
--     bounds_of kinds rows       the bounds of each column
--     bounds_bytes bounds        their spelling
--     AreBounds kinds bounds     bounds that columns of these kinds may have
use Rattle.std.specs.Prelude.{◌≡◌, ℕ, suc, Bool, true, false, not, List, [], ◌∷◌, ◌++◌, fold, flat_map, slice_index_or, if◌then◌else◌}
use Rattle.std.specs.List.{AllZip, list_any}
use Rattle.std.specs.Ordering.{is_gt, is_lt}
use Rattle.hq_value.specs.declared.value.Value.{Value}
use Rattle.hq_value.specs.declared.value.Value.TheVariants as variant
use Rattle.hq_value.specs.declared.kind.Kind.{Kind}
use Rattle.hq_value.specs.declared.kind.Kind.TheVariants as kind
use Rattle.hq_value.specs.Kinds.{IsOfKind}
use Rattle.hq_value.specs.Order.{value_cmp}
use Rattle.hq_block.specs.declared.bounds.Bounds.{Bounds}
use Rattle.hq_block.specs.declared.bounds.Bounds.TheVariants as bound
use Rattle.hq_block.specs.Row.{IsInRange, value_bytes}

abbrev pub is_null : Value → Bool
is_null variant.Null = true
is_null (variant.Bool b) = false
is_null (variant.Int n) = false
is_null (variant.Text text) = false

-- the row's value in a column; NULL where it has none
abbrev pub value_at : List Value → ℕ → Value
value_at row place = slice_index_or row place variant.Null

-- the lesser and the greater of two values in value order
abbrev pub lesser : Value → Value → Value
lesser a b = if is_gt (value_cmp a b) then b else a

abbrev pub greater : Value → Value → Value
greater a b = if is_lt (value_cmp a b) then b else a

-- the bounds of values with one more, which is not NULL
abbrev pub with_some : Bounds → Value → Bounds
with_some bound.Text value = bound.Text
with_some bound.Empty value = bound.Range value value
with_some (bound.Range least greatest) value = bound.Range (lesser least value) (greater greatest value)

-- the same with any value: NULL changes nothing
abbrev pub with_value : Bounds → Value → Bounds
with_value bounds value = if is_null value then bounds else with_some bounds value

-- the least and the greatest of a column's values, but for NULL
abbrev pub range_of : ℕ → List (List Value) → Bounds
range_of place rows = fold (λ bounds row. with_value bounds (value_at row place)) bound.Empty rows

-- the bounds of a column of the rows; a column of texts has none
abbrev pub column_bounds : Kind → ℕ → List (List Value) → Bounds
column_bounds kind.Text place rows = bound.Text
column_bounds kind.Bool place rows = range_of place rows
column_bounds kind.Int place rows = range_of place rows

-- the column has a value but NULL
abbrev pub has_value : ℕ → List (List Value) → Bool
has_value place rows = list_any (λ row. not (is_null (value_at row place))) rows

-- how many bytes the bounds of a column take, by whether it has a value but NULL
abbrev pub bound_size : Kind → Bool → ℕ
bound_size kind.Text some = 1
bound_size kind.Bool some = if some then 3 else 1
bound_size kind.Int some = if some then 17 else 1

-- the bounds of columns of which the first has this place
abbrev pub bounds_from : ℕ → List Kind → List (List Value) → List Bounds
bounds_from place [] rows = []
bounds_from place (k ∷ kinds) rows = column_bounds k place rows ∷ bounds_from (suc place) kinds rows

-- the bounds of each column
abbrev pub bounds_of : List Kind → List (List Value) → List Bounds
bounds_of kinds rows = bounds_from 0 kinds rows

-- 2 for texts, 0 for a column of NULLs, else 1 and the least and the greatest value as a row has them
abbrev pub bound_bytes : Bounds → List ℕ
bound_bytes bound.Text = 2 ∷ []
bound_bytes bound.Empty = 0 ∷ []
bound_bytes (bound.Range least greatest) = 1 ∷ (value_bytes least ++ value_bytes greatest)

abbrev pub bounds_bytes : List Bounds → List ℕ
bounds_bytes bounds = flat_map bound_bytes bounds

-- a value that is not NULL, and may stand in a row
pub record IsValue (k : Kind) (value : Value) : Type 0 where
  pub some : is_null value ≡ false
  pub of_kind : IsOfKind k value
  pub in_range : IsInRange value

-- a least value that is not above the greatest
pub record IsRange (k : Kind) (least greatest : Value) : Type 0 where
  pub low : IsValue k least
  pub high : IsValue k greatest
  pub ordered : is_gt (value_cmp least greatest) ≡ false

-- bounds that a column of this kind may have
abbrev pub IsBound : Kind → Bounds → Type 0
IsBound kind.Text bound.Text = Unit {0}
IsBound kind.Text bound.Empty = ⊥
IsBound kind.Text (bound.Range least greatest) = ⊥
IsBound kind.Bool bound.Text = ⊥
IsBound kind.Bool bound.Empty = Unit {0}
IsBound kind.Bool (bound.Range least greatest) = IsRange kind.Bool least greatest
IsBound kind.Int bound.Text = ⊥
IsBound kind.Int bound.Empty = Unit {0}
IsBound kind.Int (bound.Range least greatest) = IsRange kind.Int least greatest

-- bounds that columns of these kinds may have
abbrev pub AreBounds : List Kind → List Bounds → Type 0
AreBounds = AllZip IsBound
