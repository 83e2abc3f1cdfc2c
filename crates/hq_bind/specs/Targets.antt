-- Where an INSERT puts its values.
--     targets columns names     the kinds of the columns that take its values: those in its list, or all where it has none
--     places columns names      for each column of the table the place of its value, or none
--     row_of places literals    the row that a tuple makes: NULL where no value is named
use Rattle.std.specs.Prelude.{ℕ, Bool, List, [], ◌∷◌, map, flat_map, Option, Some, None, position, length, slice_get, if◌then◌else◌}
use Rattle.std.specs.List.{range_with_len}
use Rattle.std.specs.Option.{option_map_or}
use Rattle.hq_value.specs.Tables.{same_names}
use Rattle.hq_value.specs.Kinds.{kinds_of}
use Rattle.hq_value.specs.declared.kind.Kind.{Kind}
use Rattle.hq_value.specs.declared.table.Column.{Column}
use Rattle.hq_value.specs.declared.value.Value.{Value}
use Rattle.hq_value.specs.declared.value.Value.TheVariants as value
use Rattle.hq_expr.specs.declared.tree.Literal.{Literal}
use Rattle.hq_expr.specs.declared.tree.Literal.TheVariants as lit
use Rattle.hq_bind.specs.Scope.{Name}
use Rattle.hq_bind.specs.Reading.{is_empty}

abbrev pub column_names : List Column → List Name
column_names columns = map (λ (c : Column). c.name) columns

abbrev pub column_named : List Column → Name → Option Column
column_named [] name = None
column_named (c ∷ columns) name = if same_names c.name name then Some c else column_named columns name

abbrev pub kind_named : List Column → Name → List Kind
kind_named columns name = option_map_or (λ (c : Column). c.kind ∷ []) (column_named columns name) []

abbrev pub kinds_named : List Column → List Name → List Kind
kinds_named columns names = flat_map (kind_named columns) names

-- the kinds of the columns that take the values, in order: those named, or all where none is named
abbrev pub targets : List Column → List Name → List Kind
targets columns names = if is_empty names then kinds_of columns else kinds_named columns names

abbrev pub place_among : List Name → Column → Option ℕ
place_among names c = position (λ (name : Name). same_names c.name name) names

abbrev pub places_among : List Column → List Name → List (Option ℕ)
places_among columns names = map (place_among names) columns

-- each of so many columns has the value at its own place
abbrev pub own_places : ℕ → List (Option ℕ)
own_places count = map Some (range_with_len 0 count)

-- for each column of the table the place of its value, if it has one
abbrev pub places : List Column → List Name → List (Option ℕ)
places columns names = if is_empty names then own_places (length columns) else places_among columns names

abbrev pub value_of : Literal → Value
value_of lit.Null = value.Null
value_of (lit.Bool b) = value.Bool b
value_of (lit.Int n) = value.Int n
value_of (lit.Text t) = value.Text t

abbrev pub value_at : List Literal → Option ℕ → Value
value_at literals None = value.Null
value_at literals (Some place) = option_map_or value_of (slice_get literals place) value.Null

abbrev pub row_of : List (Option ℕ) → List Literal → List Value
row_of places literals = map (value_at literals) places
