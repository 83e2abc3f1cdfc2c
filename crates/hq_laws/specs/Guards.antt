-- The conditions of a query that name one source alone, and Scans directly under them.
--     is_inside w v e                  each column that it names is one of the v columns from place w on
--     is_guard kinds w e               it names a column of the source with columns of these kinds, which begin at place w,
--                                      and no other source's
--     guards_of kinds w conds          the members of the conditions that are so, over the source's own columns
--     with_guards kinds conds w ts     the tables as sources with these, the first of them behind w columns
--     guarded_scans above op           each Scan of an operator, with the guards of the Filter directly above it
--     AreGuarded kinds slices ss       the Scans of the slices are those of the sources, each directly under its guards
use Rattle.std.specs.Prelude.{◌≡◌, ℕ, ◌+◌, ◌-◌, Bool, true, ◌&&◌, nat_le, nat_lt, List, [], ◌∷◌, ◌++◌, map, filter, flat_map, length, count_by}
use Rattle.hq_value.specs.declared.kind.Kind.{Kind}
use Rattle.hq_algebra.specs.declared.expr.Expr.{Expr, Row_of-Expr, end_of-Expr, more_of-Expr}
use Rattle.hq_algebra.specs.declared.expr.Expr.TheVariants as expr
use Rattle.hq_algebra.specs.declared.op.Op.{Op, Row_of-Op, end_of-Op, more_of-Op}
use Rattle.hq_algebra.specs.declared.op.Op.TheVariants as op
use Rattle.hq_algebra.specs.declared.plan.Slice.{Slice}
use Rattle.hq_algebra.specs.Shape.{has_column}
use Rattle.hq_laws.specs.Sources.{Source}
use Rattle.hq_laws.specs.Tests.{members}
use Rattle.hq_laws.specs.Turned.{renamed}

-- each column that it names is one of the v columns from place w on
abbrev mutual
  pub is_inside : ℕ → ℕ → Expr → Bool
  is_inside w v (expr.Column place) = nat_le w place && nat_lt place (w + v)
  is_inside w v (expr.Literal u) = true
  is_inside w v (expr.Arith' step _ left _ right) = inside_in w v left && inside_in w v right
  is_inside w v (expr.Compare' test _ left _ right) = inside_in w v left && inside_in w v right
  is_inside w v (expr.And' _ left _ right) = inside_in w v left && inside_in w v right
  is_inside w v (expr.Or' _ left _ right) = inside_in w v left && inside_in w v right
  is_inside w v (expr.Not' _ of) = inside_in w v of
  is_inside w v (expr.IsNull' _ of) = inside_in w v of

  pub inside_in : {m : _} → ℕ → ℕ → Row_of-Expr m → Bool
  inside_in w v end_of-Expr = true
  inside_in w v (more_of-Expr e rest) = is_inside w v e

-- it names a column of the source, and no other source's
abbrev pub is_guard : List Kind → ℕ → Expr → Bool
is_guard kinds w e = has_column e && is_inside w (length kinds) e

-- over the source's own columns
abbrev pub guards_of : List Kind → ℕ → List Expr → List Expr
guards_of kinds w conds = map (renamed (λ i. i - w)) (filter (is_guard kinds w) (flat_map members conds))

abbrev pub with_guards : (ℕ → List Kind) → List Expr → ℕ → List ℕ → List Source
with_guards kinds conds w [] = []
with_guards kinds conds w (t ∷ ts) = record { table = t; tests = guards_of (kinds t) w conds } ∷ with_guards kinds conds (w + length (kinds t)) ts

-- a table that is scanned, the kinds of its columns, and the guards of the Filter directly above its Scan
pub record Guarded : Type 0 where
  pub table : ℕ
  pub kinds : List Kind
  pub guards : List Expr

-- each Scan of an operator, with the members of the Filter directly above it that name a column of its own, and no other
abbrev mutual
  pub guarded_scans : List Expr → Op → List Guarded
  guarded_scans above (op.Scan table kinds) = (record { table = table; kinds = kinds; guards = filter (is_guard kinds 0) (flat_map members above) }) ∷ []
  guarded_scans above (op.Receive slice kinds) = []
  guarded_scans above (op.Filter' cond _ input) = guarded_in (cond ∷ []) input
  guarded_scans above (op.Project' items _ input) = guarded_in [] input
  guarded_scans above (op.Join' lk rk _ left _ right) = guarded_in [] left ++ guarded_in [] right
  guarded_scans above (op.Partial' keys aggregates _ input) = guarded_in [] input
  guarded_scans above (op.Final' keys aggregates _ input) = guarded_in [] input
  guarded_scans above (op.Distinct' _ input) = guarded_in [] input
  guarded_scans above (op.Sort' order limit _ input) = guarded_in [] input

  pub guarded_in : {m : _} → List Expr → Row_of-Op m → List Guarded
  guarded_in above end_of-Op = []
  guarded_in above (more_of-Op child rest) = guarded_scans above child

abbrev pub all_guarded : List Slice → List Guarded
all_guarded slices = flat_map (λ (s : Slice). guarded_scans [] s.root) slices

-- a source as it is scanned
abbrev pub guarded : (ℕ → List Kind) → Source → Guarded
guarded kinds s = record { table = s.table; kinds = kinds s.table; guards = s.tests }

-- the Scans of the slices are those of the sources, each as often, with all columns and directly under exactly its
-- guards: where a source has none, no member of a Filter directly above its Scan names a column
abbrev pub AreGuarded : (ℕ → List Kind) → List Slice → List Source → Type 0
AreGuarded kinds slices ss = (p : Guarded → Bool) → count_by p (all_guarded slices) ≡ count_by p (map (guarded kinds) ss)
