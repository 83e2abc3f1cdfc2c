-- Rows with NULLs behind them have the same values and bounds.
use Rattle.std.proofs.Common.{◌≡◌, ℕ, zero, suc, ◌-◌, cond, nat_eq, List, [], ◌∷◌, ◌++◌, length, map, replicate, refl, ap, ◌∙◌}
use Rattle.std.specs.Prelude.{fold}
use Rattle.std.proofs.lemmas.List.Folds.{fold-map}
use Rattle.hq_value.specs.declared.value.Value.{Value}
use Rattle.hq_value.specs.declared.value.Value.TheVariants as variant
use Rattle.hq_value.specs.declared.kind.Kind.{Kind}
use Rattle.hq_value.specs.declared.kind.Kind.TheVariants as kind
use Rattle.hq_block.specs.declared.bounds.Bounds.{Bounds}
use Rattle.hq_block.specs.declared.bounds.Bounds.TheVariants as bound
use Rattle.hq_block.specs.Bounds.{value_at, with_value, range_of, column_bounds, bounds_from, bounds_bytes}
use Rattle.hq_block.specs.Block.{padded, bounds_in}

nulls : (n place : ℕ) → value_at (replicate n variant.Null) place ≡ variant.Null
nulls zero place = refl
nulls (suc n) zero = refl
nulls (suc n) (suc place) = nulls n place

pub value_at-nulls : (row : List Value) (n place : ℕ) → value_at (row ++ replicate n variant.Null) place ≡ value_at row place
value_at-nulls [] n place = nulls n place
value_at-nulls (value ∷ row) n zero = refl
value_at-nulls (value ∷ row) n (suc place) = value_at-nulls row n place

range_of-padded : (width place : ℕ) (rows : List (List Value)) → range_of place (map (padded width) rows) ≡ range_of place rows
range_of-padded width place rows =
    fold-map (λ (b : Bounds) (row : List Value). with_value b (value_at row place)) (padded width) bound.Empty rows
    ∙ (λ i. fold (λ (b : Bounds) (row : List Value). with_value b (value_at-nulls row (width - length row) place i)) bound.Empty rows)

column_bounds-padded : (k : Kind) (width place : ℕ) (rows : List (List Value)) → column_bounds k place (map (padded width) rows) ≡ column_bounds k place rows
column_bounds-padded kind.Text width place rows = refl
column_bounds-padded kind.Bool width place rows = range_of-padded width place rows
column_bounds-padded kind.Int width place rows = range_of-padded width place rows

bounds_from-padded : (place : ℕ) (kinds : List Kind) (width : ℕ) (rows : List (List Value)) → bounds_from place kinds (map (padded width) rows) ≡ bounds_from place kinds rows
bounds_from-padded place [] width rows = refl
bounds_from-padded place (k ∷ kinds) width rows = λ i. column_bounds-padded k width place rows i ∷ bounds_from-padded (suc place) kinds width rows i

pub bounds_in-padded : (version : ℕ) (kinds : List Kind) (width : ℕ) (rows : List (List Value)) → bounds_in version kinds (map (padded width) rows) ≡ bounds_in version kinds rows
bounds_in-padded version kinds width rows = ap (λ (bounds : List Bounds). cond (nat_eq version 2) (bounds_bytes bounds) []) (bounds_from-padded 0 kinds width rows)
