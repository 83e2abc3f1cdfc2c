-- Which plans are well formed.
--     is_well_formed plan        it keeps all the rules below
--     operators op               an operator and those below it
use Rattle.std.specs.Prelude.{ℕ, ◌-◌, Bool, true, false, not, ◌&&◌, ◌||◌, ◌==◌, List, [], ◌∷◌, ◌++◌, Option, Some, None, is_some, length, flat_map, count_by, nat_le, slice_get}
use Rattle.std.specs.List.{list_all, list_any, range_with_len}
use Rattle.std.specs.Option.{option_map_or}
use Rattle.hq_value.specs.declared.kind.Kind.{Kind}
use Rattle.hq_algebra.specs.declared.expr.Expr.{Expr}
use Rattle.hq_algebra.specs.declared.op.Op.{Op, Row_of-Op, end_of-Op, more_of-Op}
use Rattle.hq_algebra.specs.declared.op.Op.TheVariants as op
use Rattle.hq_algebra.specs.declared.plan.Motion.{Motion}
use Rattle.hq_algebra.specs.declared.plan.Motion.TheVariants as motion
use Rattle.hq_algebra.specs.declared.plan.Slice.{Slice}
use Rattle.hq_algebra.specs.declared.plan.Plan.{Plan}
use Rattle.hq_value.specs.Tables.{all_below}
use Rattle.hq_algebra.specs.Shape.{parts, has_arith}
use Rattle.hq_algebra.specs.Rules.{is_empty, arguments, is_count, sums_no_column}
use Rattle.hq_algebra.specs.Kinds.{◌>>=◌, same_kinds}
use Rattle.hq_algebra.specs.Operators.{op_kinds}

-- an operator and those below it
abbrev mutual
  pub operators : Op → List Op
  operators (op.Scan table kinds) = op.Scan table kinds ∷ []
  operators (op.Receive slice kinds) = op.Receive slice kinds ∷ []
  operators (op.Filter' cond p input) = op.Filter' cond p input ∷ operators_in input
  operators (op.Project' items p input) = op.Project' items p input ∷ operators_in input
  operators (op.Join' lk rk p left q right) = op.Join' lk rk p left q right ∷ (operators_in left ++ operators_in right)
  operators (op.Partial' keys aggregates p input) = op.Partial' keys aggregates p input ∷ operators_in input
  operators (op.Final' keys aggregates p input) = op.Final' keys aggregates p input ∷ operators_in input
  operators (op.Distinct' p input) = op.Distinct' p input ∷ operators_in input
  operators (op.Sort' order limit p input) = op.Sort' order limit p input ∷ operators_in input

  pub operators_in : {m : _} → Row_of-Op m → List Op
  operators_in end_of-Op = []
  operators_in (more_of-Op child rest) = operators child

-- what an operator says of itself, without its inputs

abbrev pub is_scan : Op → Bool
is_scan (op.Scan table kinds) = true
is_scan _ = false

abbrev pub is_join : Op → Bool
is_join (op.Join' lk rk _ left _ right) = true
is_join _ = false

-- the slice that it receives, if it is a Receive
abbrev pub received : Op → List ℕ
received (op.Receive slice kinds) = slice ∷ []
received _ = []

abbrev pub expressions : Op → List Expr
expressions (op.Filter' cond _ input) = cond ∷ []
expressions (op.Project' items _ input) = items
expressions (op.Partial' keys aggregates _ input) = arguments aggregates
expressions (op.Final' keys aggregates _ input) = arguments aggregates
expressions _ = []

-- an expression has at most 2,100 parts, and in a Filter none of them is arithmetic
abbrev pub are_bounded : Op → Bool
are_bounded o = list_all (λ e. nat_le (parts e) 2100) (expressions o)

abbrev pub filters_without_arith : Op → Bool
filters_without_arith (op.Filter' cond _ input) = not (has_arith cond)
filters_without_arith _ = true

-- no count, and in a Partial no sum of what names no column
abbrev pub stands_over_pairs : Op → Bool
stands_over_pairs (op.Partial' keys aggregates _ input) = list_all (λ a. not (is_count a) && not (sums_no_column a)) aggregates
stands_over_pairs (op.Final' keys aggregates _ input) = list_all (λ a. not (is_count a)) aggregates
stands_over_pairs _ = true

-- a list of a plan in bytes has at most 65,535 members
abbrev pub is_short : {A : Type 0} → List A → Bool
is_short xs = nat_le (length xs) 65535

abbrev pub is_writable : Op → Bool
is_writable (op.Scan table kinds) = is_short kinds
is_writable (op.Receive slice kinds) = is_short kinds
is_writable (op.Filter' cond _ input) = true
is_writable (op.Project' items _ input) = is_short items
is_writable (op.Join' lk rk _ left _ right) = is_short lk && is_short rk
is_writable (op.Partial' keys aggregates _ input) = is_short keys && is_short aggregates
is_writable (op.Final' keys aggregates _ input) = is_short aggregates
is_writable (op.Distinct' _ input) = true
is_writable (op.Sort' order limit _ input) = is_short order

abbrev pub op_is_fine : Op → Bool
op_is_fine o = are_bounded o && (filters_without_arith o && is_writable o)

-- a slice by itself: at most 64 operators, whose columns and kinds fit
abbrev pub slice_is_fine : Slice → Bool
slice_is_fine s = nat_le (length (operators s.root)) 64 && (list_all op_is_fine (operators s.root) && is_some (op_kinds s.root))

-- a Redistribute has at least one key, and all its keys are columns of the slice
abbrev pub keys_stand : List ℕ → Option (List Kind) → Bool
keys_stand keys None = false
keys_stand keys (Some kinds) = not (is_empty keys) && (is_short keys && all_below (length kinds) keys)

abbrev pub motion_stands : Motion → Option (List Kind) → Bool
motion_stands (motion.Redistribute keys) kinds = keys_stand keys kinds
motion_stands _ kinds = true

abbrev pub motion_is_fine : Slice → Bool
motion_is_fine s = motion_stands s.out (op_kinds s.root)

abbrev pub is_result : Motion → Bool
is_result motion.Result = true
is_result _ = false

abbrev pub is_gather : Motion → Bool
is_gather motion.Gather = true
is_gather _ = false

-- the last slice alone is Result
abbrev pub ends_with_result : List Slice → Bool
ends_with_result [] = false
ends_with_result (s ∷ []) = is_result s.out
ends_with_result (s ∷ t ∷ slices) = not (is_result s.out) && ends_with_result (t ∷ slices)

-- what an operator says over the slices before its own

-- the kinds that the slice of this number sends
abbrev pub sent_kinds : List Slice → ℕ → Option (List Kind)
sent_kinds before i = slice_get before i >>= (λ s. op_kinds s.root)

abbrev pub are_sent : List Kind → Option (List Kind) → Bool
are_sent kinds None = false
are_sent kinds (Some sent) = same_kinds kinds sent && not (is_empty kinds)

-- a Receive names an earlier slice and has its kinds, of which there is at least one
abbrev pub receives_what_is_sent : List Slice → Op → Bool
receives_what_is_sent before (op.Receive slice kinds) = are_sent kinds (sent_kinds before slice)
receives_what_is_sent before _ = true

abbrev pub gathers : List Slice → ℕ → Bool
gathers before i = option_map_or (λ (s : Slice). is_gather s.out) (slice_get before i) false

abbrev pub receives_a_gather : List Slice → Op → Bool
receives_a_gather before o = list_any (gathers before) (received o)

-- no Scan, and no Receive but of a Gather
abbrev pub only_gathers : List Slice → Op → Bool
only_gathers before o = not (is_scan o) && list_all (gathers before) (received o)

-- a slice that receives a Gather has no Scan and receives nothing but Gathers
abbrev pub gathers_alone : List Slice → List Op → Bool
gathers_alone before ops = not (list_any (receives_a_gather before) ops) || list_all (only_gathers before) ops

abbrev pub fits_before : List Slice → Slice → Bool
fits_before before s = list_all (receives_what_is_sent before) (operators s.root) && gathers_alone before (operators s.root)

-- each slice fits those before it
abbrev pub fit_in_order : List Slice → List Slice → Bool
fit_in_order before [] = true
fit_in_order before (s ∷ slices) = fits_before before s && fit_in_order (before ++ s ∷ []) slices

-- the last slice receives a Gather
abbrev pub ends_with_gather : List Slice → List Slice → Bool
ends_with_gather before [] = false
ends_with_gather before (s ∷ []) = list_any (receives_a_gather before) (operators s.root)
ends_with_gather before (s ∷ t ∷ slices) = ends_with_gather (before ++ s ∷ []) (t ∷ slices)

-- the operators of all slices
abbrev pub all_operators : List Slice → List Op
all_operators slices = flat_map (λ s. operators s.root) slices

-- each slice but the last is received exactly once
abbrev pub are_received_once : List Slice → Bool
are_received_once slices = list_all (λ i. count_by (λ j. j == i) (flat_map received (all_operators slices)) == 1) (range_with_len 0 (length slices - 1))

-- with a Join in the plan there is no count and no sum of what names no column
abbrev pub joins_without_counts : List Op → Bool
joins_without_counts ops = not (list_any is_join ops) || list_all stands_over_pairs ops

abbrev pub are_well_formed : List Slice → Bool
are_well_formed slices =
    nat_le 2 (length slices) && (nat_le (length slices) 64 && (ends_with_result slices && (list_all slice_is_fine slices && (list_all motion_is_fine slices && (fit_in_order [] slices && (ends_with_gather [] slices && (are_received_once slices && joins_without_counts (all_operators slices))))))))

abbrev pub is_well_formed : Plan → Bool
is_well_formed plan = are_well_formed plan.slices
