-- What an operator of a slice gives on one node.
--     Here                    what a node has: the rows of its buckets, and what it received
--     rows_of op here         the rows that an operator gives, by those below it
--     op_faults op here       some evaluation in it or below it faults
--     receives op             the slices that it and those below it receive
use Rattle.std.specs.Prelude.{ℕ, Bool, false, ◌||◌, List, [], ◌∷◌, flat_map}
use Rattle.hq_value.specs.declared.value.Value.{Value}
use Rattle.hq_algebra.specs.declared.op.Op.{Op, Row_of-Op, end_of-Op, more_of-Op}
use Rattle.hq_algebra.specs.declared.op.Op.TheVariants as op
use Rattle.hq_algebra.specs.Plans.{operators, received}
use Rattle.hq_meaning.specs.Rows.{Row, faults_in}
use Rattle.hq_meaning.specs.Operators.{filtered, projected, project_faults, joined, partial, partial_faults, final, final_faults, distinct, sorted}

-- what a node has: the rows of its buckets of each table, and what it received from each slice
pub record Here : Type 0 where
  pub tables : ℕ → List (List Value)
  pub sent : ℕ → List (List Value)

-- the rows that an operator gives. An input stands in a row of one, which `input_rows` reads
abbrev mutual
  pub rows_of : Op → Here → List Row
  rows_of (op.Scan table kinds) here = here.tables table
  rows_of (op.Receive slice kinds) here = here.sent slice
  rows_of (op.Filter' cond _ input) here = filtered cond (input_rows input here)
  rows_of (op.Project' items _ input) here = projected items (input_rows input here)
  rows_of (op.Join' lk rk _ left _ right) here = joined lk rk (input_rows left here) (input_rows right here)
  rows_of (op.Partial' keys aggs _ input) here = partial keys aggs (input_rows input here)
  rows_of (op.Final' n aggs _ input) here = final n aggs (input_rows input here)
  rows_of (op.Distinct' _ input) here = distinct (input_rows input here)
  rows_of (op.Sort' order limit _ input) here = sorted order limit (input_rows input here)

  pub input_rows : {m : _} → Row_of-Op m → Here → List Row
  input_rows end_of-Op here = []
  input_rows (more_of-Op child rest) here = rows_of child here

-- some evaluation in it or below it faults
abbrev mutual
  pub op_faults : Op → Here → Bool
  op_faults (op.Scan table kinds) here = false
  op_faults (op.Receive slice kinds) here = false
  op_faults (op.Filter' cond _ input) here = input_faults input here || faults_in (cond ∷ []) (input_rows input here)
  op_faults (op.Project' items _ input) here = input_faults input here || project_faults items (input_rows input here)
  op_faults (op.Join' lk rk _ left _ right) here = input_faults left here || input_faults right here
  op_faults (op.Partial' keys aggs _ input) here = input_faults input here || partial_faults aggs (input_rows input here)
  op_faults (op.Final' n aggs _ input) here = input_faults input here || final_faults n aggs (input_rows input here)
  op_faults (op.Distinct' _ input) here = input_faults input here
  op_faults (op.Sort' order limit _ input) here = input_faults input here

  pub input_faults : {m : _} → Row_of-Op m → Here → Bool
  input_faults end_of-Op here = false
  input_faults (more_of-Op child rest) here = op_faults child here

-- the slices that it and those below it receive
abbrev pub receives : Op → List ℕ
receives root = flat_map received (operators root)
