-- A plan has at least two slices, and at most 64.
use Rattle.std.proofs.Common.{arith}
use Rattle.hq_dispatch.proofs.Forming.{rules-of}
use Rattle.hq_dispatch.proofs.query.last_slice.Goals as goal

pub overflow_sub-result : goal.overflow_sub-result
overflow_sub-result c = let r = rules-of c.args.plan.now c.requires in omega (arith, r.some, c.len.ensures)

pub overflow_cast-result : goal.overflow_cast-result
overflow_cast-result c = let r = rules-of c.args.plan.now c.requires in omega (arith, r.some, r.few, c.len.ensures)

pub returns : goal.returns
returns c = let r = rules-of c.args.plan.now c.requires in omega (arith, r.some, r.few, c.len.ensures)
