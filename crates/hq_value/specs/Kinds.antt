-- Rows that fit the kinds of columns, as facts and as tests.
--     IsOfKind kind value     the value is NULL or of the kind
--     Fits kinds row          as many values as kinds, each NULL or of its column's kind
--     AreFit kinds rows       each row fits
--     kinds_of columns        the kinds of columns
use Rattle.std.specs.Prelude.{Bool, true, false, ◌&&◌, All, List, [], ◌∷◌, map}
use Rattle.std.specs.List.{AllZip, list_all}
use Rattle.hq_value.specs.declared.value.Value.{Value}
use Rattle.hq_value.specs.declared.value.Value.TheVariants as variant
use Rattle.hq_value.specs.declared.kind.Kind.{Kind}
use Rattle.hq_value.specs.declared.kind.Kind.TheVariants as kind
use Rattle.hq_value.specs.declared.table.Column.{Column}

-- the value is NULL or of the kind
abbrev pub IsOfKind : Kind → Value → Type 0
IsOfKind k variant.Null = Unit {0}
IsOfKind kind.Bool (variant.Bool b) = Unit {0}
IsOfKind kind.Int (variant.Int n) = Unit {0}
IsOfKind kind.Text (variant.Text text) = Unit {0}
IsOfKind _ _ = ⊥

-- as many values as kinds, each NULL or of its column's kind
abbrev pub Fits : List Kind → List Value → Type 0
Fits = AllZip IsOfKind

-- each row fits
abbrev pub AreFit : List Kind → List (List Value) → Type 0
AreFit kinds rows = All (Fits kinds) rows

-- the same as tests
abbrev pub is_of_kind : Kind → Value → Bool
is_of_kind k variant.Null = true
is_of_kind kind.Bool (variant.Bool b) = true
is_of_kind kind.Int (variant.Int n) = true
is_of_kind kind.Text (variant.Text text) = true
is_of_kind _ _ = false

abbrev pub fits : List Kind → List Value → Bool
fits [] [] = true
fits (k ∷ kinds) (value ∷ row) = is_of_kind k value && fits kinds row
fits _ _ = false

abbrev pub are_fit : List Kind → List (List Value) → Bool
are_fit kinds rows = list_all (fits kinds) rows

-- the kinds of columns
abbrev pub kinds_of : List Column → List Kind
kinds_of columns = map (λ column. column.kind) columns
