-- Plans that join their sources on all nodes, one source after the other, group there, and finish on one node.
--     Way, Joining                      how a further source meets the ones before it
--     spread_plan kinds sent q s js     the plan whose first source is s, and whose further ones are those of js
--     sources_of s js                   these sources
--     AreImplied w v conds lk rk        rows for which every condition is true have equal keys
--     KeysAreImplied kinds conds w js   so it is with the keys of each join
use Rattle.std.specs.Prelude.{◌≡◌, ℕ, suc, ◌+◌, true, List, [], ◌∷◌, ◌++◌, length, map}
use Rattle.std.specs.List.{list_all, All}
use Rattle.hq_value.specs.declared.kind.Kind.{Kind}
use Rattle.hq_algebra.specs.declared.expr.Expr.{Expr}
use Rattle.hq_algebra.specs.declared.op.Op.{Op}
use Rattle.hq_algebra.specs.declared.op.Op.TheVariants as op
use Rattle.hq_algebra.specs.declared.plan.Motion.TheVariants as motion
use Rattle.hq_algebra.specs.declared.plan.Slice.{Slice}
use Rattle.hq_algebra.specs.declared.plan.Plan.{Plan}
use Rattle.hq_algebra.specs.declared.query.Query.{Query}
use Rattle.hq_algebra.specs.Eval.{is_true_at}
use Rattle.hq_meaning.specs.Rows.{Row}
use Rattle.hq_meaning.specs.Operators.{matches}
use Rattle.hq_meaning.specs.Plans.{Parts}
use Rattle.hq_laws.specs.Sources.{Source, source_op}
use Rattle.hq_laws.specs.Stages.{filters, partial_op, final_op, tail_op, sending}

-- how rows meet: the table's or those before it go to all nodes; both go to the nodes of their keys; one of them goes
-- there, where the other one's stand; or both stand there
pub data Way : Type 0 where
  CopyRight : Way
  CopyLeft : Way
  MoveBoth : Way
  MoveLeft : Way
  MoveRight : Way
  Stay : Way

-- a further source: its table and tests, the keys by which it is joined, and how the rows meet
pub record Joining : Type 0 where
  pub table : ℕ
  pub tests : List Expr
  pub left_keys : List ℕ
  pub right_keys : List ℕ
  pub way : Way

-- what is built so far: slices, the operator that gives the rows on all nodes, and their kinds
pub record Built : Type 0 where
  pub slices : List Slice
  pub root : Op
  pub kinds : List Kind

abbrev pub source_of : Joining → Source
source_of j = record { table = j.table; tests = j.tests }

-- all sources in order
abbrev pub sources_of : Source → List Joining → List Source
sources_of s js = s ∷ map source_of js

abbrev pub first_source : (ℕ → List Kind) → Source → Built
first_source kinds s = record { slices = []; root = source_op kinds s.table s.tests; kinds = kinds s.table }

-- the slices that a way adds
abbrev pub added_slices : Way → List ℕ → List ℕ → Op → Op → List Slice
added_slices CopyRight lk rk left right = sending motion.Broadcast right ∷ []
added_slices CopyLeft lk rk left right = sending motion.Broadcast left ∷ []
added_slices MoveBoth lk rk left right = sending (motion.Redistribute lk) left ∷ sending (motion.Redistribute rk) right ∷ []
added_slices MoveLeft lk rk left right = sending (motion.Redistribute lk) left ∷ []
added_slices MoveRight lk rk left right = sending (motion.Redistribute rk) right ∷ []
added_slices Stay lk rk left right = []

-- the two sides of the join, where slice i is the first that the way adds
abbrev pub left_side : Way → ℕ → List Kind → Op → Op
left_side CopyRight i kinds left = left
left_side MoveRight i kinds left = left
left_side Stay i kinds left = left
left_side _ i kinds left = op.Receive i kinds

abbrev pub right_side : Way → ℕ → List Kind → Op → Op
right_side CopyRight i kinds right = op.Receive i kinds
right_side MoveRight i kinds right = op.Receive i kinds
right_side MoveBoth i kinds right = op.Receive (suc i) kinds
right_side _ i kinds right = right

abbrev pub with_source : (ℕ → List Kind) → Built → Joining → Built
with_source kinds b j = record {
  slices = b.slices ++ added_slices j.way j.left_keys j.right_keys b.root (source_op kinds j.table j.tests);
  root = op.Join j.left_keys j.right_keys (left_side j.way (length b.slices) b.kinds b.root) (right_side j.way (length b.slices) (kinds j.table) (source_op kinds j.table j.tests));
  kinds = b.kinds ++ kinds j.table;
}

abbrev pub with_sources : (ℕ → List Kind) → Built → List Joining → Built
with_sources kinds b [] = b
with_sources kinds b (j ∷ js) = with_sources kinds (with_source kinds b j) js

-- the slices, then one that filters and groups on all nodes, and the last one
abbrev pub closed : List Kind → Query → Built → Plan
closed sent q b = record { slices = b.slices ++ sending motion.Gather (partial_op q (filters q.conds b.root)) ∷ sending motion.Result (tail_op q (final_op q (op.Receive (length b.slices) sent))) ∷ [] }

-- the plan; `sent` are the kinds of what the slice before the last one sends
abbrev pub spread_plan : (ℕ → List Kind) → List Kind → Query → Source → List Joining → Plan
spread_plan kinds sent q s js = closed sent q (with_sources kinds (first_source kinds s) js)

-- where every condition is true, the keys of the left row and of the right row match. The left row has w columns, the
-- right one v, and other columns may follow
abbrev pub AreImplied : ℕ → ℕ → List Expr → List ℕ → List ℕ → Type 0
AreImplied w v conds lk rk = (l r rest : Row) → length l ≡ w → length r ≡ v → list_all (λ e. is_true_at e (l ++ (r ++ rest))) conds ≡ true → matches lk rk l r ≡ true

-- so it is with the keys of each join; the rows before it have w columns
abbrev pub KeysAreImplied : (ℕ → List Kind) → List Expr → ℕ → List Joining → Type 0
KeysAreImplied kinds conds w [] = Unit {0}
KeysAreImplied kinds conds w (j ∷ js) = AreImplied w (length (kinds j.table)) conds j.left_keys j.right_keys × KeysAreImplied kinds conds (w + length (kinds j.table)) js

-- each table's rows have its number of columns
abbrev pub FitKinds : (ℕ → List Kind) → Parts → Type 0
FitKinds kinds parts = (t b : ℕ) → All (λ row. length row ≡ length (kinds t)) (parts t b)
