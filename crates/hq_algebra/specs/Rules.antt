-- The rules that a query keeps by itself.
--     cannot_fault es            no step of arithmetic stands in them
--     are_small es               each has at most 256 parts
--     fit_sources sources as     over several sources there is no count, and no sum of a literal
--     are_below n es             each column's place is below n
use Rattle.std.specs.Prelude.{ℕ, Bool, true, false, not, ◌&&◌, List, [], ◌∷◌, nat_le, nat_lt, flat_map}
use Rattle.std.specs.List.{list_all}
use Rattle.hq_algebra.specs.declared.expr.Expr.{Expr, Row_of-Expr, end_of-Expr, more_of-Expr}
use Rattle.hq_algebra.specs.declared.expr.Expr.TheVariants as expr
use Rattle.hq_algebra.specs.declared.aggregate.Aggregate.{Aggregate}
use Rattle.hq_algebra.specs.declared.aggregate.Aggregate.TheVariants as agg
use Rattle.hq_algebra.specs.declared.op.SortKey.{SortKey}
use Rattle.hq_algebra.specs.Shape.{parts, has_arith, has_column}

abbrev pub is_empty : {A : Type 0} → List A → Bool
is_empty [] = true
is_empty (x ∷ xs) = false

-- no step of arithmetic stands in them
abbrev pub cannot_fault : List Expr → Bool
cannot_fault es = list_all (λ e. not (has_arith e)) es

-- each has at most 256 parts
abbrev pub are_small : List Expr → Bool
are_small es = list_all (λ e. nat_le (parts e) 256) es

-- the expression of an aggregate, if it has one
abbrev pub argument : Aggregate → List Expr
argument agg.CountAll = []
argument (agg.Count e) = e ∷ []
argument (agg.Sum e) = e ∷ []
argument (agg.Min e) = e ∷ []
argument (agg.Max e) = e ∷ []

abbrev pub arguments : List Aggregate → List Expr
arguments aggregates = flat_map argument aggregates

abbrev pub is_count : Aggregate → Bool
is_count agg.CountAll = true
is_count (agg.Count e) = true
is_count _ = false

-- a sum of what names no column
abbrev pub sums_no_column : Aggregate → Bool
sums_no_column (agg.Sum e) = not (has_column e)
sums_no_column _ = false

-- it is no count, and no sum of what names no column
abbrev pub stands_over_pairs : Aggregate → Bool
stands_over_pairs a = not (is_count a) && not (sums_no_column a)

-- over several sources there is no count, and no sum of what names no column
abbrev pub fit_sources : List ℕ → List Aggregate → Bool
fit_sources (t ∷ u ∷ ts) aggregates = list_all stands_over_pairs aggregates
fit_sources _ aggregates = true

-- each column's place is below n
abbrev mutual
  pub is_below : ℕ → Expr → Bool
  is_below n (expr.Column place) = nat_lt place n
  is_below n (expr.Literal v) = true
  is_below n (expr.Arith' kind _ left _ right) = below_in n left && below_in n right
  is_below n (expr.Compare' kind _ left _ right) = below_in n left && below_in n right
  is_below n (expr.And' _ left _ right) = below_in n left && below_in n right
  is_below n (expr.Or' _ left _ right) = below_in n left && below_in n right
  is_below n (expr.Not' _ of) = below_in n of
  is_below n (expr.IsNull' _ of) = below_in n of

  pub below_in : {m : _} → ℕ → Row_of-Expr m → Bool
  below_in n end_of-Expr = true
  below_in n (more_of-Expr e rest) = is_below n e

abbrev pub are_below : ℕ → List Expr → Bool
are_below n es = list_all (is_below n) es

-- the sorted columns are among so many
abbrev pub are_within : List SortKey → ℕ → Bool
are_within order columns = list_all (λ key. nat_lt key.column columns) order
