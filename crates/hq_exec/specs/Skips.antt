-- The tests by which a Scan skips blocks.
--     test_of kinds e             the test that a part of a condition is, if it is one
--     tests_in kinds cond         the tests among the parts of a condition
--     tests_under kinds above     those of the Filter directly above a Scan; none where there is no Filter
use Rattle.std.specs.Prelude.{ℕ, Bool, not, ◌&&◌, List, [], ◌∷◌, flat_map, Option, Some, None, slice_get, if◌then◌else◌}
use Rattle.hq_value.specs.declared.value.Value.{Value}
use Rattle.hq_value.specs.declared.kind.Kind.{Kind}
use Rattle.hq_value.specs.declared.operator.CompareKind.{CompareKind}
use Rattle.hq_block.specs.declared.skip.ColumnTest.{ColumnTest}
use Rattle.hq_algebra.specs.declared.expr.Expr.{Expr}
use Rattle.hq_algebra.specs.declared.expr.Expr.TheVariants as expr
use Rattle.hq_algebra.specs.Steps.{is_null}
use Rattle.hq_laws.specs.Sources.{only_column, only_literal}
use Rattle.hq_laws.specs.Tests.{members, is_ranged}

-- a column of kind Bool or Int is compared with a value that is not NULL
abbrev pub test_on : List Kind → CompareKind → Option ℕ → Option Value → List ColumnTest
test_on kinds how (Some place) (Some v) = if is_ranged (slice_get kinds place) && not (is_null v) then record { column = place; compare = how; value = v } ∷ [] else []
test_on kinds how _ _ = []

-- the test that a part of a condition is, if it is one
abbrev pub test_of : List Kind → Expr → List ColumnTest
test_of kinds (expr.Compare' how _ left _ right) = test_on kinds how (only_column left) (only_literal right)
test_of kinds _ = []

-- the tests among the parts of a condition
abbrev pub tests_in : List Kind → Expr → List ColumnTest
tests_in kinds cond = flat_map (test_of kinds) (members cond)

-- those of the Filter directly above a Scan
abbrev pub tests_under : List Kind → Option Expr → List ColumnTest
tests_under kinds None = []
tests_under kinds (Some cond) = tests_in kinds cond
