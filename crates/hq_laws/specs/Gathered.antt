-- The plan that gathers each source by itself and does the rest in the last slice.
--     gathered_plan kinds q ss     `kinds` are those of each table's columns, by its number, ss the sources of q
use Rattle.std.specs.Prelude.{ℕ, suc, List, [], ◌∷◌, ◌++◌, map}
use Rattle.hq_value.specs.declared.kind.Kind.{Kind}
use Rattle.hq_algebra.specs.declared.op.Op.{Op}
use Rattle.hq_algebra.specs.declared.op.Op.TheVariants as op
use Rattle.hq_algebra.specs.declared.plan.Motion.TheVariants as motion
use Rattle.hq_algebra.specs.declared.plan.Slice.{Slice}
use Rattle.hq_algebra.specs.declared.plan.Plan.{Plan}
use Rattle.hq_algebra.specs.declared.query.Query.{Query}
use Rattle.hq_laws.specs.Sources.{Source, source_op}
use Rattle.hq_laws.specs.Stages.{filters, partial_op, final_op, tail_op, sending}

-- each further source beside the ones before it; i is the slice that the next one comes from
abbrev pub product_from : (ℕ → List Kind) → Op → ℕ → List ℕ → Op
product_from kinds before i [] = before
product_from kinds before i (t ∷ ts) = product_from kinds (op.Join [] [] before (op.Receive i (kinds t))) (suc i) ts

-- the product of the sources
abbrev pub product_op : (ℕ → List Kind) → List ℕ → Op
product_op kinds [] = op.Receive 0 []
product_op kinds (t ∷ ts) = product_from kinds (op.Receive 0 (kinds t)) 1 ts

-- all that a query does behind its sources
abbrev pub rest_op : Query → Op → Op
rest_op q input = tail_op q (final_op q (partial_op q (filters q.conds input)))

abbrev pub scan_slice : (ℕ → List Kind) → Source → Slice
scan_slice kinds s = sending motion.Gather (source_op kinds s.table s.tests)

-- the tables of sources
abbrev pub tables_of : List Source → List ℕ
tables_of ss = map (λ (s : Source). s.table) ss

abbrev pub gathered_plan : (ℕ → List Kind) → Query → List Source → Plan
gathered_plan kinds q ss = record { slices = map (scan_slice kinds) ss ++ sending motion.Result (rest_op q (product_op kinds (tables_of ss))) ∷ [] }
