-- Conditions that say that columns are equal.
--     equates i j e                   where it is true, the columns i and j are equal and not NULL
--     keys_equated w v conds lk rk    some condition equates each left key with its right key
--     are_equated kinds conds w js    so it is with the keys of each join
use Rattle.std.specs.Prelude.{ℕ, ◌+◌, Bool, true, false, not, ◌&&◌, ◌||◌, ◌==◌, nat_lt, List, [], ◌∷◌, length}
use Rattle.std.specs.List.{list_any}
use Rattle.hq_value.specs.declared.kind.Kind.{Kind}
use Rattle.hq_value.specs.declared.operator.CompareKind.{CompareKind}
use Rattle.hq_value.specs.declared.operator.CompareKind.TheVariants as compare
use Rattle.hq_algebra.specs.declared.expr.Expr.{Expr, Row_of-Expr, end_of-Expr, more_of-Expr}
use Rattle.hq_algebra.specs.declared.expr.Expr.TheVariants as expr
use Rattle.hq_algebra.specs.Rules.{is_empty}
use Rattle.hq_algebra.specs.Plans.{is_short}
use Rattle.hq_laws.specs.Spread.{Way, MoveBoth, MoveLeft, MoveRight, Joining}

-- it is the column at this place
abbrev pub is_place : ℕ → Expr → Bool
is_place i (expr.Column place) = place == i
is_place i _ = false

-- an operand stands in a row of one
abbrev pub place_in : {m : _} → ℕ → Row_of-Expr m → Bool
place_in i end_of-Expr = false
place_in i (more_of-Expr e rest) = is_place i e

abbrev pub is_equal : CompareKind → Bool
is_equal compare.Equal = true
is_equal _ = false

-- where it is true, the columns i and j are equal and not NULL: it compares them, or a side of an AND does
abbrev mutual
  pub equates : ℕ → ℕ → Expr → Bool
  equates i j (expr.Column place) = false
  equates i j (expr.Literal v) = false
  equates i j (expr.Arith' kind _ left _ right) = false
  equates i j (expr.Compare' kind _ left _ right) = is_equal kind && ((place_in i left && place_in j right) || (place_in j left && place_in i right))
  equates i j (expr.And' _ left _ right) = equates_in i j left || equates_in i j right
  equates i j (expr.Or' _ left _ right) = false
  equates i j (expr.Not' _ of) = false
  equates i j (expr.IsNull' _ of) = false

  pub equates_in : {m : _} → ℕ → ℕ → Row_of-Expr m → Bool
  equates_in i j end_of-Expr = false
  equates_in i j (more_of-Expr e rest) = equates i j e

-- some condition equates each left key with its right key, which stands w columns further on; the left row has w
-- columns, the right one v
abbrev pub keys_equated : ℕ → ℕ → List Expr → List ℕ → List ℕ → Bool
keys_equated w v conds [] [] = true
keys_equated w v conds (i ∷ is) (j ∷ js) = (nat_lt i w && (nat_lt j v && list_any (equates i (w + j)) conds)) && keys_equated w v conds is js
keys_equated w v conds _ _ = false

-- some rows go to the nodes of their keys
abbrev pub moves_rows : Way → Bool
moves_rows MoveBoth = true
moves_rows MoveLeft = true
moves_rows MoveRight = true
moves_rows _ = false

-- conditions equate the keys of a join; they are few, and there is one where rows go by them. The rows before it have
-- w columns
abbrev pub is_equated : (ℕ → List Kind) → List Expr → ℕ → Joining → Bool
is_equated kinds conds w j = keys_equated w (length (kinds j.table)) conds j.left_keys j.right_keys && (is_short j.left_keys && (not (moves_rows j.way) || not (is_empty j.left_keys)))

-- so it is with each join
abbrev pub are_equated : (ℕ → List Kind) → List Expr → ℕ → List Joining → Bool
are_equated kinds conds w [] = true
are_equated kinds conds w (j ∷ js) = is_equated kinds conds w j && are_equated kinds conds (w + length (kinds j.table)) js
