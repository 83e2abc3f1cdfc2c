-- To statements of the worked scripts, answers that they don't have.
use Rattle.std.proofs.Common.{◌≡◌, ℕ, Bool, true, false, Option, Some, None, List, [], ◌∷◌, ◌++◌, refl, sym, ap, inl, inr, codes, pos, true≢false}
use denote.Hole.Carrier.{hidden}
use Rattle.hq_algebra.specs.declared.expr.Expr.TheBlock.{hidden-the_row-Expr-0}
use Rattle.hq_expr.specs.declared.tree.SqlExpr.TheBlock.{hidden-the_row-SqlExpr-0}
use Rattle.hq_value.specs.declared.entry.Entry.{Entry}
use Rattle.hq_value.specs.declared.entry.EntryKind.TheVariants as entry
use Rattle.hq_value.specs.declared.value.Value.{Value}
use Rattle.hq_value.specs.declared.value.Value.TheVariants as value
use Rattle.hq_meaning.specs.Rows.{same_row}
use Rattle.hq_reply.specs.declared.fault.Fault.TheVariants as fault
use Rattle.hq_reply.specs.declared.reply.Reply.{Reply}
use Rattle.hq_reply.specs.declared.reply.Reply.TheVariants as reply
use Rattle.hq_bind.specs.Findings.{of_aggregate, of_two, of_compared, of_not, of_null_test}
use Rattle.hq_transcript.specs.Pieces.{Piece, piece_at}
use Rattle.hq_transcript.specs.Binds.{binds}
use Rattle.hq_transcript.specs.Sights.{found_by, replay}
use Rattle.hq_transcript.specs.Step.{State, Idle, Open, Failed, Lanes, Way, Lent, Swept, All_out, Step, begun, written}
use Rattle.hq_transcript.specs.Transcript.{own}
use Rattle.hq_transcript.specs.Examples.{at, alone, one, row}
use Rattle.hq_transcript.specs.Scripts.{input_alter, log_alter}
use Rattle.hq_transcript.proofs.Settled.{not_early}
use Rattle.hq_transcript.proofs.NoAnswers.{answer_or_error}
use Rattle.hq_transcript.proofs.ExamplesOfStatements.{input_nothing, input_nulls, log_nulls, input_range, input_failed}
use Rattle.hq_transcript.proofs.ExamplesOfQueries.{two, input_join, log_join, input_pieces, log_pieces, input_shop, log_shop, input_refusals, log_refusals, input_texts, log_texts, input_spread, log_spread, input_copy, log_copy, input_order, log_order, input_beside, log_beside}
use Rattle.hq_transcript.proofs.ExamplesOfSessions.{input_segments, log_segments, inputs_full, log_full}

-- piece m of a session alone may answer so, over so many nodes
abbrev May : ℕ → List Piece → List Entry → State → Lanes → ℕ → Reply → Type 0
May nodes input log state lanes m r = by (piece_at m input)
  where
    by : Option Piece → Type 0
    by None = Unit {0}
    by (Some piece) = Step binds true (found_by binds 1 input (replay binds (alone input) nodes log) (begun state) m) state lanes piece (own log 1 m) (Some r)

-- a SUM over nothing is NULL
pub sum_of_nothing : May 1 input_nothing (at 1 1 entry.Create ∷ at 1 2 entry.Look ∷ []) Idle [] 2 (reply.Rows ((value.Int (pos 0) ∷ value.Int (pos 0) ∷ []) ∷ [])) → ⊥
unfolding hidden-the_row-Expr-0 hidden-the_row-SqlExpr-0 hidden of_aggregate of_two of_compared of_not of_null_test
sum_of_nothing h = elim (answer_or_error true false (true ∷ []) _ _ _ h) [ inl w ↦ cc | inr w ↦ cc ]

-- a NULL passes no condition, and is a group
pub null_that_passes : May 1 input_nulls log_nulls Idle [] 3 (reply.Rows (row 20 ∷ row 30 ∷ row 40 ∷ [])) → ⊥
unfolding hidden-the_row-Expr-0 hidden-the_row-SqlExpr-0 hidden of_aggregate of_two of_compared of_not of_null_test
null_that_passes h = elim (answer_or_error true false (true ∷ []) _ _ _ h) [ inl w ↦ cc | inr w ↦ cc ]

pub null_that_is_no_group : May 1 input_nulls log_nulls Idle [] 4 (reply.Rows ((value.Int (pos 1) ∷ row 10) ∷ (value.Int (pos 2) ∷ row 30) ∷ [])) → ⊥
unfolding hidden-the_row-Expr-0 hidden-the_row-SqlExpr-0 hidden of_aggregate of_two of_compared of_not of_null_test
null_that_is_no_group h = elim (answer_or_error true false (true ∷ []) _ _ _ h) [ inl w ↦ cc | inr w ↦ cc ]

-- a number that leaves 64 bits is no row, and one that can't is no error
pub range_passed_over : May 1 input_range log_nulls Idle [] 3 (reply.Rows []) → ⊥
unfolding hidden-the_row-Expr-0 hidden-the_row-SqlExpr-0 hidden of_aggregate of_two of_compared of_not of_null_test
range_passed_over h = elim (answer_or_error true false (true ∷ []) _ _ _ h) [ inl w ↦ cc | inr w ↦ cc ]

pub range_of_no_row : May 1 input_range log_nulls Idle [] 4 (reply.Error fault.NumericRange) → ⊥
unfolding hidden-the_row-Expr-0 hidden-the_row-SqlExpr-0 hidden of_aggregate of_two of_compared of_not of_null_test
range_of_no_row (choice, asc, inl whole) = cc
range_of_no_row (choice, asc, inr early) = not_early true (true ∷ []) false _ _ _ early refl

-- a failed transaction answers no SELECT
pub failed_and_answered : May 1 input_failed (at 1 1 entry.Create ∷ at 1 3 entry.Look ∷ []) (Failed 2) [] 4 (reply.Rows []) → ⊥
failed_and_answered (none, inl h) = cc
failed_and_answered (none, inr h) = cc

-- what is too long is no syntax error
pub long_as_syntax : May 1 input_pieces log_pieces Idle [] 4 (reply.Error fault.Syntax) → ⊥
long_as_syntax h = cc

-- a join has all its pairs, and an order its direction
pub pairs_left_out : May 3 input_join log_join Idle [] 5 (reply.Rows (two 1 7 ∷ two 2 8 ∷ two 3 7 ∷ [])) → ⊥
unfolding hidden-the_row-Expr-0 hidden-the_row-SqlExpr-0 hidden of_aggregate of_two of_compared of_not of_null_test
pairs_left_out h = elim (answer_or_error true false (true ∷ true ∷ true ∷ []) _ _ _ h) [ inl w ↦ cc | inr w ↦ cc ]

is_first : List Value → Reply → Bool
is_first x (reply.Rows (y ∷ ys)) = same_row x y
is_first x _ = false

is_rows : Reply → Bool
is_rows (reply.Rows rows) = true
is_rows _ = false

pub order_turned_round : May 3 input_shop log_shop Idle [] 5 (reply.Rows ((value.Text (codes "Rome") ∷ row 70) ∷ (value.Text (codes "Oslo") ∷ row 75) ∷ [])) → ⊥
unfolding hidden-the_row-Expr-0 hidden-the_row-SqlExpr-0 hidden of_aggregate of_two of_compared of_not of_null_test is_first is_rows
order_turned_round h =
    elim (answer_or_error true false (true ∷ true ∷ true ∷ []) _ _ _ h) [
      | inl w ↦ true≢false (sym (ap (is_first (value.Text (codes "Oslo") ∷ row 75)) w.1))
      | inr w ↦ true≢false (ap is_rows w.1)
    ]

pub null_last_descending : May 1 input_order log_order Idle [] 3 (reply.Rows (row 3 ∷ row 2 ∷ [])) → ⊥
unfolding hidden-the_row-Expr-0 hidden-the_row-SqlExpr-0 hidden of_aggregate of_two of_compared of_not of_null_test
null_last_descending h = elim (answer_or_error true false (true ∷ []) _ _ _ h) [ inl w ↦ cc | inr w ↦ cc ]

-- of two refusals the later one
pub later_refusal : May 1 input_refusals log_refusals Idle [] 5 (reply.Error fault.AmbiguousColumn) → ⊥
unfolding hidden-the_row-Expr-0 hidden-the_row-SqlExpr-0 hidden of_aggregate of_two of_compared of_not of_null_test
later_refusal (choice, asc, inl whole) = cc
later_refusal (choice, asc, inr early) = not_early true (true ∷ []) false _ _ _ early refl

-- DISTINCT takes NULLs as equal
pub two_nulls : May 1 input_texts log_texts Idle [] 4 (reply.Rows ((value.Bool false ∷ []) ∷ (value.Bool true ∷ []) ∷ (value.Null ∷ []) ∷ (value.Null ∷ []) ∷ [])) → ⊥
unfolding hidden-the_row-Expr-0 hidden-the_row-SqlExpr-0 hidden of_aggregate of_two of_compared of_not of_null_test
two_nulls h = elim (answer_or_error true false (true ∷ []) _ _ _ h) [ inl w ↦ cc | inr w ↦ cc ]

-- no lane is got for no row
pub lane_for_nothing : May 1 input_spread (log_spread ++ at 1 3 (entry.Lend 0 0) ∷ at 1 3 entry.Commit ∷ []) Idle [] 3 (reply.Inserted 0) → ⊥
unfolding hidden-the_row-Expr-0 hidden-the_row-SqlExpr-0 hidden of_aggregate of_two of_compared of_not of_null_test
lane_for_nothing (choice, asc, inl whole) = cc
lane_for_nothing (choice, asc, inr early) = cc

-- an INSERT doesn't read the rows that it puts itself, nor leaves out its transaction's
pub copies_counted_twice : May 1 input_copy log_copy (Open 4) ((0, 0) ∷ []) 8 (reply.Inserted 6) → ⊥
unfolding hidden-the_row-Expr-0 hidden-the_row-SqlExpr-0 hidden of_aggregate of_two of_compared of_not of_null_test
copies_counted_twice h = elim (answer_or_error true false (true ∷ []) _ _ _ h) [ inl w ↦ cc | inr w ↦ cc ]

-- an older row is as wide as its table
pub short_row : May 1 input_alter log_alter Idle [] 5 (reply.Rows ((value.Int (pos 1) ∷ []) ∷ (value.Int (pos 2) ∷ value.Text (codes "x") ∷ []) ∷ [])) → ⊥
short_row h = elim (answer_or_error true false (true ∷ []) _ _ _ h) [ inl w ↦ cc | inr w ↦ cc ]

pub value_moved_left : May 1 input_beside log_beside Idle [] 4 (reply.Rows ((value.Int (pos 1) ∷ value.Null ∷ []) ∷ [])) → ⊥
unfolding hidden-the_row-Expr-0 hidden-the_row-SqlExpr-0 hidden of_aggregate of_two of_compared of_not of_null_test
value_moved_left h = elim (answer_or_error true false (true ∷ []) _ _ _ h) [ inl w ↦ cc | inr w ↦ cc ]

-- a Full gives no lane
full_by : (w : Way) → entry.Look ∷ entry.Full 0 ∷ [] ≡ (written false 0 w true 1 (entry.Look ∷ [])).entries → reply.Inserted 1 ≡ (written false 0 w true 1 (entry.Look ∷ [])).answer → ⊥
full_by (Lent n) e h = cc
full_by (Swept n) e h = cc
full_by All_out e h = cc

pub inserted_by_none : Step binds true (found_by binds 65 (inputs_full 65) (replay binds inputs_full 1 log_full) 0 1) Idle [] (one 1) (own log_full 65 1) (Some (reply.Inserted 1)) → ⊥
inserted_by_none (choice, asc, inl whole) = full_by choice.way whole.0 whole.1
inserted_by_none (choice, asc, inr early) = cc

-- where a node is up, some segment is there
pub no_segment_beside_some : May 3 input_segments log_segments Idle [] 3 (reply.Error fault.NoSegment) → ⊥
no_segment_beside_some (choice, asc, inl whole) = cc
no_segment_beside_some (choice, asc, inr early) = not_early true (true ∷ false ∷ true ∷ []) false _ _ _ early refl
