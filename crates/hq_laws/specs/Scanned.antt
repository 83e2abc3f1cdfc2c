-- The tables that a plan scans, and the tests above its Scans.
--     AreScannedOnce slices ts       each of the tables stands in as many Scans as it stands among ts, no other in any
--     AreFiltered kinds slices ss    the operator of each source stands in the slices: its Scan directly under its tests
--     tested_scans above op          each Scan of an operator, with the tests of the Filter directly above it
--     AreTested slices ss            the Scans of the slices are those of the sources, each directly under its tests
use Rattle.std.specs.Prelude.{◌≡◌, ◌≤◌, ℕ, Bool, ◌==◌, List, [], ◌∷◌, ◌++◌, map, filter, flat_map, count_by}
use Rattle.hq_value.specs.declared.kind.Kind.{Kind}
use Rattle.hq_algebra.specs.declared.expr.Expr.{Expr}
use Rattle.hq_algebra.specs.declared.op.Op.{Op, Row_of-Op, end_of-Op, more_of-Op}
use Rattle.hq_algebra.specs.declared.op.Op.TheVariants as op
use Rattle.hq_algebra.specs.declared.plan.Slice.{Slice}
use Rattle.hq_algebra.specs.Plans.{all_operators}
use Rattle.hq_laws.specs.Sources.{Source, source_op}
use Rattle.hq_laws.specs.Tests.{members, is_on}

-- the table that it scans, if it is a Scan
abbrev pub scanned : Op → List ℕ
scanned (op.Scan table kinds) = table ∷ []
scanned _ = []

abbrev pub tables_scanned : List Slice → List ℕ
tables_scanned slices = flat_map scanned (all_operators slices)

-- each table stands in as many Scans as it stands among these
abbrev pub AreScannedOnce : List Slice → List ℕ → Type 0
AreScannedOnce slices ts = (t : ℕ) → count_by (λ u. u == t) (tables_scanned slices) ≡ count_by (λ u. u == t) ts

-- the operators of the sources stand in the slices, each as often as its source: whatever is true of so many of them
-- is true of at least as many operators of the slices
abbrev pub AreFiltered : (ℕ → List Kind) → List Slice → List Source → Type 0
AreFiltered kinds slices ss = (p : Op → Bool) → count_by p (map (λ (s : Source). source_op kinds s.table s.tests) ss) ≤ count_by p (all_operators slices)

-- each Scan of an operator, with the tests among the members of the Filter directly above it: comparisons of its Bool
-- and Int columns with values that are no NULL
abbrev mutual
  pub tested_scans : List Expr → Op → List Source
  tested_scans above (op.Scan table kinds) = (record { table = table; tests = filter (is_on kinds 0) (flat_map members above) }) ∷ []
  tested_scans above (op.Receive slice kinds) = []
  tested_scans above (op.Filter' cond _ input) = scans_in (cond ∷ []) input
  tested_scans above (op.Project' items _ input) = scans_in [] input
  tested_scans above (op.Join' lk rk _ left _ right) = scans_in [] left ++ scans_in [] right
  tested_scans above (op.Partial' keys aggregates _ input) = scans_in [] input
  tested_scans above (op.Final' keys aggregates _ input) = scans_in [] input
  tested_scans above (op.Distinct' _ input) = scans_in [] input
  tested_scans above (op.Sort' order limit _ input) = scans_in [] input

  pub scans_in : {m : _} → List Expr → Row_of-Op m → List Source
  scans_in above end_of-Op = []
  scans_in above (more_of-Op child rest) = tested_scans above child

abbrev pub all_tested : List Slice → List Source
all_tested slices = flat_map (λ (s : Slice). tested_scans [] s.root) slices

-- the Scans of the slices are those of the sources, each as often, directly under exactly its tests: where a source has
-- none, no member of a Filter directly above its Scan is a test
abbrev pub AreTested : List Slice → List Source → Type 0
AreTested slices ss = (p : Source → Bool) → count_by p (all_tested slices) ≡ count_by p ss
