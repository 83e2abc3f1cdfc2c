use Rattle.std.proofs.Common.{◌≡◌, drop}
use Rattle.hq_laws.specs.Gathered.{product_from, product_op}
use Rattle.hq_whole.specs.Tables.{kinds_by}
use Rattle.hq_whole.proofs.gathering.product.Given as goal

abbrev pub invariant-loop-i : goal.invariant-loop-i
invariant-loop-i l = product_from (kinds_by l.defs) l.op l.i (drop l.i l.sources) ≡ product_op (kinds_by l.defs) l.sources
