-- Kinds of what small operators give; small plans that are well formed, and some that are not.
use Rattle.std.proofs.Common.{◌≡◌, ℕ, List, [], ◌∷◌, true, false, Some, None, refl}
use Rattle.hq_value.specs.declared.value.Value.TheVariants as value
use Rattle.hq_value.specs.declared.kind.Kind.{Kind}
use Rattle.hq_value.specs.declared.kind.Kind.TheVariants as kind
use Rattle.hq_value.specs.declared.operator.ArithKind.TheVariants as arith
use Rattle.hq_value.specs.declared.operator.CompareKind.TheVariants as compare
use Rattle.hq_algebra.specs.declared.expr.Expr.TheVariants as e
use Rattle.hq_algebra.specs.declared.aggregate.Aggregate.{Aggregate}
use Rattle.hq_algebra.specs.declared.aggregate.Aggregate.TheVariants as agg
use Rattle.hq_algebra.specs.declared.op.Op.{Op}
use Rattle.hq_algebra.specs.declared.op.Op.TheVariants as op
use Rattle.hq_algebra.specs.declared.plan.Motion.TheVariants as motion
use Rattle.hq_algebra.specs.declared.plan.Slice.{Slice}
use Rattle.hq_algebra.specs.declared.kinds.ExprKind.TheVariants as typed
use Rattle.hq_algebra.specs.declared.expr.Expr.TheBlock.{hidden-the_row-Expr-0}
use Rattle.hq_algebra.specs.declared.op.Op.TheBlock.{hidden-the_row-Op-0}
use denote.Hole.Carrier.{hidden}
use Rattle.hq_algebra.specs.Rules.{fit_sources}
use Rattle.hq_algebra.specs.Kinds.{expr_kind}
use Rattle.hq_algebra.specs.Operators.{op_kinds}
use Rattle.hq_algebra.specs.Plans.{are_well_formed}

-- a + 'x' has no kind; NULL fits wherever a kind is asked
a_plus_text : expr_kind (kind.Int ∷ []) (e.Arith arith.Plus (e.Column 0) (e.Literal (value.Text (120 ∷ [])))) ≡ typed.Wrong
unfolding hidden-the_row-Expr-0 hidden
a_plus_text = refl

a_plus_null : expr_kind (kind.Int ∷ []) (e.Arith arith.Plus (e.Column 0) (e.Literal value.Null)) ≡ typed.Of kind.Int
unfolding hidden-the_row-Expr-0 hidden
a_plus_null = refl

past_the_end : expr_kind (kind.Int ∷ []) (e.Column 1) ≡ typed.Wrong
past_the_end = refl

scan : Op
scan = op.Scan 0 (kind.Int ∷ kind.Text ∷ [])

totals : List Aggregate
totals = agg.CountAll ∷ agg.Sum (e.Column 0) ∷ agg.Min (e.Column 1) ∷ []

-- GROUP BY the text: a count is one column, a sum two, the least a Text
partial : Op
partial = op.Partial (1 ∷ []) totals scan

partial-kinds : op_kinds partial ≡ Some (kind.Text ∷ kind.Int ∷ kind.Int ∷ kind.Int ∷ kind.Text ∷ [])
unfolding partial totals scan hidden-the_row-Op-0 hidden
partial-kinds = refl

-- in the Final the least tells its kind by a column of the input
finals : List Aggregate
finals = agg.CountAll ∷ agg.Sum (e.Column 2) ∷ agg.Min (e.Column 4) ∷ []

final-kinds : op_kinds (op.Final 1 finals partial) ≡ Some (kind.Text ∷ kind.Int ∷ kind.Int ∷ kind.Text ∷ [])
unfolding finals partial totals scan hidden-the_row-Op-0 hidden
final-kinds = refl

-- over the rows themselves a Final has no kinds
final_of_rows : op_kinds (op.Final 1 finals scan) ≡ None
unfolding finals scan hidden-the_row-Op-0 hidden
final_of_rows = refl

join_of_kinds : op_kinds (op.Join (0 ∷ []) (0 ∷ []) scan scan) ≡ Some (kind.Int ∷ kind.Text ∷ kind.Int ∷ kind.Text ∷ [])
unfolding scan hidden-the_row-Op-0 hidden
join_of_kinds = refl

join_of_other_kinds : op_kinds (op.Join (0 ∷ []) (1 ∷ []) scan scan) ≡ None
unfolding scan hidden-the_row-Op-0 hidden
join_of_other_kinds = refl

-- SELECT * FROM t
sent : Slice
sent = record { out = motion.Gather; root = op.Scan 0 (kind.Int ∷ []) }

shown : List Kind → Slice
shown kinds = record { out = motion.Result; root = op.Sort [] None (op.Receive 0 kinds) }

star-well_formed : are_well_formed (sent ∷ shown (kind.Int ∷ []) ∷ []) ≡ true
unfolding sent shown hidden-the_row-Op-0 hidden
star-well_formed = refl

-- received with another kind, twice, or by itself
other_kind : are_well_formed (sent ∷ shown (kind.Text ∷ []) ∷ []) ≡ false
unfolding sent shown hidden-the_row-Op-0 hidden
other_kind = refl

received_twice : are_well_formed (sent ∷ (record { out = motion.Result; root = op.Join [] [] (op.Receive 0 (kind.Int ∷ [])) (op.Receive 0 (kind.Int ∷ [])) }) ∷ []) ≡ false
unfolding sent hidden-the_row-Op-0 hidden
received_twice = refl

shown_first : are_well_formed (shown (kind.Int ∷ []) ∷ sent ∷ []) ≡ false
unfolding sent shown hidden-the_row-Op-0 hidden
shown_first = refl

-- the last slice gathers
broadcast_to_the_last : are_well_formed ((record { out = motion.Broadcast; root = op.Scan 0 (kind.Int ∷ []) }) ∷ shown (kind.Int ∷ []) ∷ []) ≡ false
unfolding shown hidden-the_row-Op-0 hidden
broadcast_to_the_last = refl

-- no count over a join
counted : Aggregate → List Slice
counted a =
    (record { out = motion.Broadcast; root = op.Scan 1 (kind.Int ∷ []) })
    ∷ (record { out = motion.Gather; root = op.Partial [] (a ∷ []) (op.Join (0 ∷ []) (0 ∷ []) (op.Scan 0 (kind.Int ∷ [])) (op.Receive 0 (kind.Int ∷ []))) })
    ∷ (record { out = motion.Result; root = op.Final 0 (agg.Min (e.Column 0) ∷ []) (op.Receive 1 (kind.Int ∷ [])) }) ∷ []

least_of_pairs : are_well_formed (counted (agg.Min (e.Column 0))) ≡ true
unfolding counted hidden-the_row-Op-0 hidden
least_of_pairs = refl

count_of_pairs : are_well_formed (counted agg.CountAll) ≡ false
unfolding counted hidden-the_row-Op-0 hidden
count_of_pairs = refl

-- arithmetic in a Filter
filtered : List Slice
filtered =
    (record { out = motion.Gather; root = op.Filter (e.Compare compare.Less (e.Arith arith.Plus (e.Column 0) (e.Column 0)) (e.Column 0)) (op.Scan 0 (kind.Int ∷ [])) })
    ∷ shown (kind.Int ∷ []) ∷ []

filtered-not_well_formed : are_well_formed filtered ≡ false
unfolding filtered shown hidden-the_row-Op-0 hidden-the_row-Expr-0 hidden
filtered-not_well_formed = refl

-- a Redistribute without keys
scattered : List ℕ → List Slice
scattered keys =
    (record { out = motion.Redistribute keys; root = op.Scan 0 (kind.Int ∷ []) })
    ∷ (record { out = motion.Gather; root = op.Distinct (op.Receive 0 (kind.Int ∷ [])) })
    ∷ (record { out = motion.Result; root = op.Distinct (op.Receive 1 (kind.Int ∷ [])) }) ∷ []

scattered-well_formed : are_well_formed (scattered (0 ∷ [])) ≡ true
unfolding scattered hidden-the_row-Op-0 hidden
scattered-well_formed = refl

scattered_by_nothing : are_well_formed (scattered []) ≡ false
unfolding scattered hidden-the_row-Op-0 hidden
scattered_by_nothing = refl

scattered_past_the_end : are_well_formed (scattered (1 ∷ [])) ≡ false
unfolding scattered hidden-the_row-Op-0 hidden
scattered_past_the_end = refl

-- over two sources a sum of a column may stand, a count and a sum of a literal may not
sum_over_pairs : fit_sources (0 ∷ 0 ∷ []) (agg.Sum (e.Column 2) ∷ []) ≡ true
sum_over_pairs = refl

count_over_pairs : fit_sources (0 ∷ 0 ∷ []) (agg.CountAll ∷ []) ≡ false
count_over_pairs = refl

sum_of_null_over_pairs : fit_sources (0 ∷ 0 ∷ []) (agg.Sum (e.Literal value.Null) ∷ []) ≡ false
sum_of_null_over_pairs = refl
