-- The operators from a leaf to the root of a slice, one after another. The leaf is the Scan or the Receive that is
-- reached by first inputs; a Join's second input is its build.
--     Stage                       an operator, and a Join's right rows
--     flowed stages rows          what the last of them gives over the first one's rows
--     faulted stages rows         an evaluation of some of them faults
--     leaf_of op, above_of op c   the leaf, and the condition of the Filter directly above it, if there is one
--     leaf_rows op h              the rows of the leaf
--     builds_of op here           the right rows of the Joins, the root's first
--     stages_of op builds         the stages, with these right rows
--     builds_fault op here        an evaluation below a Join's right side faults
use Rattle.std.specs.Prelude.{ℕ, Bool, false, ◌||◌, List, [], ◌∷◌, ◌++◌, Option, Some, None}
use Rattle.hq_value.specs.declared.value.Value.{Value}
use Rattle.hq_value.specs.declared.kind.Kind.{Kind}
use Rattle.hq_algebra.specs.declared.expr.Expr.{Expr}
use Rattle.hq_algebra.specs.declared.op.Op.{Op, Row_of-Op, end_of-Op, more_of-Op}
use Rattle.hq_algebra.specs.declared.op.Op.TheVariants as op
use Rattle.hq_meaning.specs.Rows.{Row}
use Rattle.hq_meaning.specs.Slices.{Here, input_rows, input_faults}
use Rattle.hq_ops.specs.Pipes.{gives, fails}

-- an operator, and a Join's right rows
pub record Stage : Type 0 where
  pub op : Op
  pub build : List (List Value)

-- what the last of them gives over the first one's rows
abbrev pub flowed : List Stage → List Row → List Row
flowed [] rows = rows
flowed (s ∷ ss) rows = flowed ss (gives s.op s.build rows)

-- an evaluation of some of them faults
abbrev pub faulted : List Stage → List Row → Bool
faulted [] rows = false
faulted (s ∷ ss) rows = fails s.op rows || faulted ss (gives s.op s.build rows)

-- the Scan or the Receive that is reached by first inputs
abbrev mutual
  pub leaf_of : Op → Op
  leaf_of (op.Scan table kinds) = op.Scan table kinds
  leaf_of (op.Receive slice kinds) = op.Receive slice kinds
  leaf_of (op.Filter' cond p input) = leaf_in (op.Filter' cond p input) input
  leaf_of (op.Project' items p input) = leaf_in (op.Project' items p input) input
  leaf_of (op.Join' lk rk p left q right) = leaf_in (op.Join' lk rk p left q right) left
  leaf_of (op.Partial' keys aggs p input) = leaf_in (op.Partial' keys aggs p input) input
  leaf_of (op.Final' n aggs p input) = leaf_in (op.Final' n aggs p input) input
  leaf_of (op.Distinct' p input) = leaf_in (op.Distinct' p input) input
  leaf_of (op.Sort' order limit p input) = leaf_in (op.Sort' order limit p input) input

  pub leaf_in : {m : _} → Op → Row_of-Op m → Op
  leaf_in outer end_of-Op = outer
  leaf_in outer (more_of-Op child rest) = leaf_of child

-- the condition of the Filter directly above it, if there is one; `above` is that of the Filter above the operator
abbrev mutual
  pub above_of : Op → Option Expr → Option Expr
  above_of (op.Scan table kinds) above = above
  above_of (op.Receive slice kinds) above = above
  above_of (op.Filter' cond p input) above = above_in input (Some cond)
  above_of (op.Project' items p input) above = above_in input None
  above_of (op.Join' lk rk p left q right) above = above_in left None
  above_of (op.Partial' keys aggs p input) above = above_in input None
  above_of (op.Final' n aggs p input) above = above_in input None
  above_of (op.Distinct' p input) above = above_in input None
  above_of (op.Sort' order limit p input) above = above_in input None

  pub above_in : {m : _} → Row_of-Op m → Option Expr → Option Expr
  above_in end_of-Op above = above
  above_in (more_of-Op child rest) above = above_of child above

-- the right rows of the Joins, the root's first
abbrev mutual
  pub builds_of : Op → Here → List (List Row)
  builds_of (op.Scan table kinds) here = []
  builds_of (op.Receive slice kinds) here = []
  builds_of (op.Filter' cond p input) here = builds_in input here
  builds_of (op.Project' items p input) here = builds_in input here
  builds_of (op.Join' lk rk p left q right) here = input_rows right here ∷ builds_in left here
  builds_of (op.Partial' keys aggs p input) here = builds_in input here
  builds_of (op.Final' n aggs p input) here = builds_in input here
  builds_of (op.Distinct' p input) here = builds_in input here
  builds_of (op.Sort' order limit p input) here = builds_in input here

  pub builds_in : {m : _} → Row_of-Op m → Here → List (List Row)
  builds_in end_of-Op here = []
  builds_in (more_of-Op child rest) here = builds_of child here

-- an evaluation below a Join's right side faults
abbrev mutual
  pub builds_fault : Op → Here → Bool
  builds_fault (op.Scan table kinds) here = false
  builds_fault (op.Receive slice kinds) here = false
  builds_fault (op.Filter' cond p input) here = builds_fault_in input here
  builds_fault (op.Project' items p input) here = builds_fault_in input here
  builds_fault (op.Join' lk rk p left q right) here = input_faults right here || builds_fault_in left here
  builds_fault (op.Partial' keys aggs p input) here = builds_fault_in input here
  builds_fault (op.Final' n aggs p input) here = builds_fault_in input here
  builds_fault (op.Distinct' p input) here = builds_fault_in input here
  builds_fault (op.Sort' order limit p input) here = builds_fault_in input here

  pub builds_fault_in : {m : _} → Row_of-Op m → Here → Bool
  builds_fault_in end_of-Op here = false
  builds_fault_in (more_of-Op child rest) here = builds_fault child here

abbrev pub first_of : List (List Row) → List Row
first_of [] = []
first_of (b ∷ bs) = b

abbrev pub others_of : List (List Row) → List (List Row)
others_of [] = []
others_of (b ∷ bs) = bs

-- an operator behind others
abbrev pub behind : List Stage → Op → List Row → List Stage
behind stages o build = stages ++ record { op = o; build = build } ∷ []

-- the stages, with these right rows, the root's Join's first
abbrev mutual
  pub stages_of : Op → List (List Row) → List Stage
  stages_of (op.Scan table kinds) builds = []
  stages_of (op.Receive slice kinds) builds = []
  stages_of (op.Filter' cond p input) builds = behind (stages_in input builds) (op.Filter' cond p input) []
  stages_of (op.Project' items p input) builds = behind (stages_in input builds) (op.Project' items p input) []
  stages_of (op.Join' lk rk p left q right) builds = behind (stages_in left (others_of builds)) (op.Join' lk rk p left q right) (first_of builds)
  stages_of (op.Partial' keys aggs p input) builds = behind (stages_in input builds) (op.Partial' keys aggs p input) []
  stages_of (op.Final' n aggs p input) builds = behind (stages_in input builds) (op.Final' n aggs p input) []
  stages_of (op.Distinct' p input) builds = behind (stages_in input builds) (op.Distinct' p input) []
  stages_of (op.Sort' order limit p input) builds = behind (stages_in input builds) (op.Sort' order limit p input) []

  pub stages_in : {m : _} → Row_of-Op m → List (List Row) → List Stage
  stages_in end_of-Op builds = []
  stages_in (more_of-Op child rest) builds = stages_of child builds
