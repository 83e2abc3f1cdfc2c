-- The tests that a query's conditions hold on a source.
--     members e                          its parts after it is split at AND
--     is_on kinds w e                    it compares a column of the source that is a Bool or an Int with a value
--     tests_of kinds w conds             the members of the conditions that are so, over the source's own columns
--     with_tests kinds conds w ts        the tables as sources with these tests, the first of them behind w columns
use Rattle.std.specs.Prelude.{ℕ, ◌+◌, ◌-◌, Bool, true, false, not, ◌&&◌, nat_le, nat_lt, List, [], ◌∷◌, ◌++◌, map, filter, flat_map, length, slice_get, Option, Some}
use Rattle.std.specs.List.{list_all}
use Rattle.hq_value.specs.declared.value.Value.{Value}
use Rattle.hq_value.specs.declared.kind.Kind.{Kind}
use Rattle.hq_value.specs.declared.kind.Kind.TheVariants as kind
use Rattle.hq_algebra.specs.declared.expr.Expr.{Expr, Row_of-Expr, end_of-Expr, more_of-Expr}
use Rattle.hq_algebra.specs.declared.expr.Expr.TheVariants as expr
use Rattle.hq_algebra.specs.Steps.{is_null}
use Rattle.hq_laws.specs.Sources.{Source, only_column, only_literal}
use Rattle.hq_laws.specs.Turned.{renamed}

-- its parts after it is split at AND
abbrev mutual
  pub members : Expr → List Expr
  members (expr.Column place) = expr.Column place ∷ []
  members (expr.Literal v) = expr.Literal v ∷ []
  members (expr.Arith' step p left q right) = expr.Arith' step p left q right ∷ []
  members (expr.Compare' test p left q right) = expr.Compare' test p left q right ∷ []
  members (expr.And' p left q right) = members_in left ++ members_in right
  members (expr.Or' p left q right) = expr.Or' p left q right ∷ []
  members (expr.Not' p of) = expr.Not' p of ∷ []
  members (expr.IsNull' p of) = expr.IsNull' p of ∷ []

  pub members_in : {m : _} → Row_of-Expr m → List Expr
  members_in end_of-Expr = []
  members_in (more_of-Expr e rest) = members e

-- its blocks tell their least and greatest values
abbrev pub is_ranged : Option Kind → Bool
is_ranged (Some kind.Bool) = true
is_ranged (Some kind.Int) = true
is_ranged _ = false

-- the column at place i is one of the source's, which begin at place w, and v is no NULL
abbrev pub are_on : List Kind → ℕ → Option ℕ → Option Value → Bool
are_on kinds w (Some i) (Some v) = nat_le w i && (nat_lt i (w + length kinds) && (is_ranged (slice_get kinds (i - w)) && not (is_null v)))
are_on kinds w _ _ = false

abbrev pub is_on : List Kind → ℕ → Expr → Bool
is_on kinds w (expr.Compare' test _ left _ right) = are_on kinds w (only_column left) (only_literal right)
is_on kinds w _ = false

-- over the source's own columns
abbrev pub tests_of : List Kind → ℕ → List Expr → List Expr
tests_of kinds w conds = map (renamed (λ i. i - w)) (filter (is_on kinds w) (flat_map members conds))

abbrev pub with_tests : (ℕ → List Kind) → List Expr → ℕ → List ℕ → List Source
with_tests kinds conds w [] = []
with_tests kinds conds w (t ∷ ts) = record { table = t; tests = tests_of (kinds t) w conds } ∷ with_tests kinds conds (w + length (kinds t)) ts

-- the tests of each source are few enough for a Filter
abbrev pub few_tests : List Source → Bool
few_tests ss = list_all (λ (s : Source). nat_le (length s.tests) 1050) ss
