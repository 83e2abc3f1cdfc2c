use Rattle.std.proofs.Common.{None, Some}
use Rattle.hq_exec.proofs.Views.{alone-Scan, alone-Receive, over-Filter, over-Project, over-Partial, over-Final, over-Distinct, over-Sort, beside-Join, alone-as, over-as, beside-as}
use Rattle.hq_exec.proofs.inputs.inputs_of.Goals as goal

pub returns-in-Scan : goal.returns-in-Scan
returns-in-Scan c = alone-as c.args.op.now _ c.in-Scan.is (alone-Scan c.in-Scan.table c.in-Scan.kinds)

pub returns-in-Receive : goal.returns-in-Receive
returns-in-Receive c = alone-as c.args.op.now _ c.in-Receive.is (alone-Receive c.in-Receive.slice c.in-Receive.kinds)

pub returns-in-Filter : goal.returns-in-Filter
returns-in-Filter c = over-as c.args.op.now _ c.in-Filter.input c.get.result.now (Some c.in-Filter.cond) c.in-Filter.is c.get.ensures (over-Filter c.in-Filter.cond c.in-Filter.input)

pub returns-in-Project : goal.returns-in-Project
returns-in-Project c = over-as c.args.op.now _ c.in-Project.input c.get-in-Project.result.now None c.in-Project.is c.get-in-Project.ensures (over-Project c.in-Project.items c.in-Project.input)

pub returns-in-Partial : goal.returns-in-Partial
returns-in-Partial c = over-as c.args.op.now _ c.in-Partial.input c.get-in-Partial.result.now None c.in-Partial.is c.get-in-Partial.ensures (over-Partial c.in-Partial.keys c.in-Partial.aggregates c.in-Partial.input)

pub returns-in-Final : goal.returns-in-Final
returns-in-Final c = over-as c.args.op.now _ c.in-Final.input c.get-in-Final.result.now None c.in-Final.is c.get-in-Final.ensures (over-Final c.in-Final.keys c.in-Final.aggregates c.in-Final.input)

pub returns-in-Distinct : goal.returns-in-Distinct
returns-in-Distinct c = over-as c.args.op.now _ c.in-Distinct.input c.get-in-Distinct.result.now None c.in-Distinct.is c.get-in-Distinct.ensures (over-Distinct c.in-Distinct.input)

pub returns-in-Sort : goal.returns-in-Sort
returns-in-Sort c = over-as c.args.op.now _ c.in-Sort.input c.get-in-Sort.result.now None c.in-Sort.is c.get-in-Sort.ensures (over-Sort c.in-Sort.order c.in-Sort.limit c.in-Sort.input)

pub returns-in-Join : goal.returns-in-Join
returns-in-Join c = beside-as c.args.op.now _ c.in-Join.left c.in-Join.right c.get-in-Join.result.now c.get-in-Join-2.result.now c.in-Join.is c.get-in-Join.ensures c.get-in-Join-2.ensures (beside-Join c.in-Join.left_keys c.in-Join.right_keys c.in-Join.left c.in-Join.right)
