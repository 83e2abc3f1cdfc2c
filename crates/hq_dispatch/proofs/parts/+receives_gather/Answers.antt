-- What it and those below it receive.
use Rattle.hq_algebra.specs.Plans.{gathers}
use Rattle.hq_algebra.specs.declared.op.Op.TheVariants as op
use Rattle.hq_dispatch.proofs.Gathers.{any-over, any-Join, any-Receive, over-Filter, over-Project, over-Partial, over-Final, over-Distinct, over-Sort}
use Rattle.hq_dispatch.proofs.parts.+receives_gather.Goals as goal

pub returns-in-Receive : goal.returns-in-Receive
returns-in-Receive t c = any-Receive (gathers c.args.before.now) c.args.op.now c.in-Receive.slice c.in-Receive.kinds c.gathers.result c.in-Receive.is c.gathers.ensures

pub returns-in-Filter : goal.returns-in-Filter
returns-in-Filter t c = any-over (gathers c.args.before.now) c.args.op.now (op.Filter c.in-Filter.cond c.in-Filter.input) c.in-Filter.input c.get.result.now c.receives_gather.result c.in-Filter.is (over-Filter c.in-Filter.cond c.in-Filter.input) c.get.ensures c.receives_gather.ensures

pub returns-in-Project : goal.returns-in-Project
returns-in-Project t c = any-over (gathers c.args.before.now) c.args.op.now (op.Project c.in-Project.items c.in-Project.input) c.in-Project.input c.get-in-Project.result.now c.receives_gather-in-Project.result c.in-Project.is (over-Project c.in-Project.items c.in-Project.input) c.get-in-Project.ensures c.receives_gather-in-Project.ensures

pub returns-in-Partial : goal.returns-in-Partial
returns-in-Partial t c = any-over (gathers c.args.before.now) c.args.op.now (op.Partial c.in-Partial.keys c.in-Partial.aggregates c.in-Partial.input) c.in-Partial.input c.get-in-Partial.result.now c.receives_gather-in-Partial.result c.in-Partial.is (over-Partial c.in-Partial.keys c.in-Partial.aggregates c.in-Partial.input) c.get-in-Partial.ensures c.receives_gather-in-Partial.ensures

pub returns-in-Final : goal.returns-in-Final
returns-in-Final t c = any-over (gathers c.args.before.now) c.args.op.now (op.Final c.in-Final.keys c.in-Final.aggregates c.in-Final.input) c.in-Final.input c.get-in-Final.result.now c.receives_gather-in-Final.result c.in-Final.is (over-Final c.in-Final.keys c.in-Final.aggregates c.in-Final.input) c.get-in-Final.ensures c.receives_gather-in-Final.ensures

pub returns-in-Distinct : goal.returns-in-Distinct
returns-in-Distinct t c = any-over (gathers c.args.before.now) c.args.op.now (op.Distinct c.in-Distinct.input) c.in-Distinct.input c.get-in-Distinct.result.now c.receives_gather-in-Distinct.result c.in-Distinct.is (over-Distinct c.in-Distinct.input) c.get-in-Distinct.ensures c.receives_gather-in-Distinct.ensures

pub returns-in-Sort : goal.returns-in-Sort
returns-in-Sort t c = any-over (gathers c.args.before.now) c.args.op.now (op.Sort c.in-Sort.order c.in-Sort.limit c.in-Sort.input) c.in-Sort.input c.get-in-Sort.result.now c.receives_gather-in-Sort.result c.in-Sort.is (over-Sort c.in-Sort.order c.in-Sort.limit c.in-Sort.input) c.get-in-Sort.ensures c.receives_gather-in-Sort.ensures

pub returns-in-Join : goal.returns-in-Join
returns-in-Join t c = any-Join (gathers c.args.before.now) c.args.op.now c.in-Join.left_keys c.in-Join.right_keys c.in-Join.left c.in-Join.right c.get-in-Join.result.now c.get-in-Join-2.result.now c.receives_gather-in-Join.result c.receives_gather-in-Join-2.result c.either.result
    c.in-Join.is c.get-in-Join.ensures c.get-in-Join-2.ensures c.receives_gather-in-Join.ensures c.receives_gather-in-Join-2.ensures c.either.ensures
