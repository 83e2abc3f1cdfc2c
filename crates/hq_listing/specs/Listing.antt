-- Plans whose select list is evaluated on all nodes, so that of the columns only its values travel to the last slice.
--     end_op q input                    DISTINCT, the order and LIMIT
--     listed out q b                    the last two slices of such a plan, behind what is built
--     listing_plan kinds out q s js     the plan whose first source is s, and whose further ones are those of js; `out`
--                                       are the kinds of the query's columns
use Rattle.std.specs.Prelude.{ℕ, List, [], ◌∷◌, ◌++◌, length}
use Rattle.hq_value.specs.declared.kind.Kind.{Kind}
use Rattle.hq_algebra.specs.declared.op.Op.{Op}
use Rattle.hq_algebra.specs.declared.op.Op.TheVariants as op
use Rattle.hq_algebra.specs.declared.plan.Motion.TheVariants as motion
use Rattle.hq_algebra.specs.declared.plan.Plan.{Plan}
use Rattle.hq_algebra.specs.declared.query.Query.{Query}
use Rattle.hq_laws.specs.Sources.{Source}
use Rattle.hq_laws.specs.Spread.{Joining, Built, first_source, with_sources}
use Rattle.hq_laws.specs.Stages.{filters, distinct_op, sending}

-- DISTINCT, the order and LIMIT
abbrev pub end_op : Query → Op → Op
end_op q input = op.Sort q.order q.limit (distinct_op q input)

-- the slices, then one that filters and evaluates the select list on all nodes, and the last one
abbrev pub listed : List Kind → Query → Built → Plan
listed out q b = record { slices = b.slices ++ sending motion.Gather (op.Project q.items (filters q.conds b.root)) ∷ sending motion.Result (end_op q (op.Receive (length b.slices) out)) ∷ [] }

abbrev pub listing_plan : (ℕ → List Kind) → List Kind → Query → Source → List Joining → Plan
listing_plan kinds out q s js = listed out q (with_sources kinds (first_source kinds s) js)
