-- The plan that gathers each source by itself, of sources and their tables.
--     gathered_of kinds q ss ts     ts are the tables of the sources ss
use Rattle.std.specs.Prelude.{ℕ, List, [], ◌∷◌, ◌++◌, map}
use Rattle.hq_value.specs.declared.kind.Kind.{Kind}
use Rattle.hq_algebra.specs.declared.plan.Motion.TheVariants as motion
use Rattle.hq_algebra.specs.declared.plan.Plan.{Plan}
use Rattle.hq_algebra.specs.declared.query.Query.{Query}
use Rattle.hq_laws.specs.Gathered.{product_op, rest_op, scan_slice}
use Rattle.hq_laws.specs.Sources.{Source}
use Rattle.hq_laws.specs.Stages.{sending}

-- a slice for each source, and one that does the rest over their product
abbrev pub gathered_of : (ℕ → List Kind) → Query → List Source → List ℕ → Plan
gathered_of kinds q ss ts = record { slices = map (scan_slice kinds) ss ++ sending motion.Result (rest_op q (product_op kinds ts)) ∷ [] }
