use Rattle.std.proofs.Common.{◌≡◌, ◌∷◌, [], sym}
use Rattle.std.proofs.lemmas.Result.{on_ok_weaker}
use Rattle.hq_algebra.specs.declared.op.Op.TheVariants as op
use Rattle.hq_planwire.specs.Bytes.{op_bytes}
use Rattle.hq_planwire.specs.Ranges.{OpHasRoom}
use Rattle.hq_planwire.proofs.Putting.{PutOp, then_put, make_put, put_same}
use Rattle.hq_planwire.proofs.OpCodecs.{filter_spelled, filter_room, project_spelled, project_room, join_spelled, join_room, partial_spelled, partial_room, final_spelled, final_room, distinct_spelled, distinct_room, sort_spelled, sort_room}
use Rattle.hq_planwire.proofs.put.+put_op.Goals as goal

pub returns-in_ok-put_expr-in-Filter : goal.returns-in_ok-put_expr-in-Filter
returns-in_ok-put_expr-in-Filter t c = on_ok_weaker c.put_op.result
    (λ (k : PutOp c.put_expr.new.out.items c.get.result.now c.put_op.new.out.items). put_same (sym c.in-Filter.is) (make_put OpHasRoom op_bytes (op.Filter c.in-Filter.cond c.in-Filter.input) (3 ∷ []) c.args.out.now.items c.in_ok-put_byte-in-Filter.ensures (filter_spelled c.in-Filter.cond c.in-Filter.input) (λ h. filter_room c.in-Filter.cond c.in-Filter.input h.0 h.1) (then_put c.in_ok-put_expr-in-Filter.ensures (put_same c.get.ensures k)))) c.put_op.ensures

pub returns-in_ok-put_list-in-Project : goal.returns-in_ok-put_list-in-Project
returns-in_ok-put_list-in-Project t c = on_ok_weaker c.put_op-in-Project.result
    (λ (k : PutOp c.put_list-in-Project.new.out.items c.get-in-Project.result.now c.put_op-in-Project.new.out.items). put_same (sym c.in-Project.is) (make_put OpHasRoom op_bytes (op.Project c.in-Project.items c.in-Project.input) (4 ∷ []) c.args.out.now.items c.in_ok-put_byte-in-Project.ensures (project_spelled c.in-Project.items c.in-Project.input) (λ h. project_room c.in-Project.items c.in-Project.input h.0 h.1) (then_put (put_same c.as_slice-in-Project.ensures c.in_ok-put_list-in-Project.ensures) (put_same c.get-in-Project.ensures k)))) c.put_op-in-Project.ensures

pub returns-in_ok-put_op-in-Join : goal.returns-in_ok-put_op-in-Join
returns-in_ok-put_op-in-Join t c = on_ok_weaker c.put_op-in-Join-2.result
    (λ (k : PutOp c.put_op-in-Join.new.out.items c.get-in-Join-2.result.now c.put_op-in-Join-2.new.out.items). put_same (sym c.in-Join.is) (make_put OpHasRoom op_bytes (op.Join c.in-Join.left_keys c.in-Join.right_keys c.in-Join.left c.in-Join.right) (5 ∷ []) c.args.out.now.items c.in_ok-put_byte-in-Join.ensures (join_spelled c.in-Join.left_keys c.in-Join.right_keys c.in-Join.left c.in-Join.right) (λ h. join_room c.in-Join.left_keys c.in-Join.right_keys c.in-Join.left c.in-Join.right h.0 h.1.0 h.1.1.0 h.1.1.1) (then_put (put_same c.as_slice-in-Join.ensures c.in_ok-put_list-in-Join.ensures) (then_put (put_same c.as_slice-in-Join-2.ensures c.in_ok-put_list-in-Join-2.ensures) (then_put (put_same c.get-in-Join.ensures c.in_ok-put_op-in-Join.ensures) (put_same c.get-in-Join-2.ensures k)))))) c.put_op-in-Join-2.ensures

pub returns-in_ok-put_list-in-Partial-2 : goal.returns-in_ok-put_list-in-Partial-2
returns-in_ok-put_list-in-Partial-2 t c = on_ok_weaker c.put_op-in-Partial.result
    (λ (k : PutOp c.put_list-in-Partial-2.new.out.items c.get-in-Partial.result.now c.put_op-in-Partial.new.out.items). put_same (sym c.in-Partial.is) (make_put OpHasRoom op_bytes (op.Partial c.in-Partial.keys c.in-Partial.aggregates c.in-Partial.input) (6 ∷ []) c.args.out.now.items c.in_ok-put_byte-in-Partial.ensures (partial_spelled c.in-Partial.keys c.in-Partial.aggregates c.in-Partial.input) (λ h. partial_room c.in-Partial.keys c.in-Partial.aggregates c.in-Partial.input h.0 h.1.0 h.1.1) (then_put (put_same c.as_slice-in-Partial.ensures c.in_ok-put_list-in-Partial.ensures) (then_put (put_same c.as_slice-in-Partial-2.ensures c.in_ok-put_list-in-Partial-2.ensures) (put_same c.get-in-Partial.ensures k))))) c.put_op-in-Partial.ensures

pub returns-in_ok-put_list-in-Final : goal.returns-in_ok-put_list-in-Final
returns-in_ok-put_list-in-Final t c = on_ok_weaker c.put_op-in-Final.result
    (λ (k : PutOp c.put_list-in-Final.new.out.items c.get-in-Final.result.now c.put_op-in-Final.new.out.items). put_same (sym c.in-Final.is) (make_put OpHasRoom op_bytes (op.Final c.in-Final.keys c.in-Final.aggregates c.in-Final.input) (7 ∷ []) c.args.out.now.items c.in_ok-put_byte-in-Final.ensures (final_spelled c.in-Final.keys c.in-Final.aggregates c.in-Final.input) (λ h. final_room c.in-Final.keys c.in-Final.aggregates c.in-Final.input h.0 h.1.0 h.1.1) (then_put c.in_ok-put_short-in-Final.ensures (then_put (put_same c.as_slice-in-Final.ensures c.in_ok-put_list-in-Final.ensures) (put_same c.get-in-Final.ensures k))))) c.put_op-in-Final.ensures

pub returns-in_ok-put_byte-in-Distinct : goal.returns-in_ok-put_byte-in-Distinct
returns-in_ok-put_byte-in-Distinct t c = on_ok_weaker c.put_op-in-Distinct.result
    (λ (k : PutOp c.put_byte-in-Distinct.new.out.items c.get-in-Distinct.result.now c.put_op-in-Distinct.new.out.items). put_same (sym c.in-Distinct.is) (make_put OpHasRoom op_bytes (op.Distinct c.in-Distinct.input) (8 ∷ []) c.args.out.now.items c.in_ok-put_byte-in-Distinct.ensures (distinct_spelled c.in-Distinct.input) (distinct_room c.in-Distinct.input) (put_same c.get-in-Distinct.ensures k))) c.put_op-in-Distinct.ensures

pub returns-in_ok-put_limit-in-Sort : goal.returns-in_ok-put_limit-in-Sort
returns-in_ok-put_limit-in-Sort t c = on_ok_weaker c.put_op-in-Sort.result
    (λ (k : PutOp c.put_limit.new.out.items c.get-in-Sort.result.now c.put_op-in-Sort.new.out.items). put_same (sym c.in-Sort.is) (make_put OpHasRoom op_bytes (op.Sort c.in-Sort.order c.in-Sort.limit c.in-Sort.input) (9 ∷ []) c.args.out.now.items c.in_ok-put_byte-in-Sort.ensures (sort_spelled c.in-Sort.order c.in-Sort.limit c.in-Sort.input) (λ h. sort_room c.in-Sort.order c.in-Sort.limit c.in-Sort.input h.0 h.1.0 h.1.1) (then_put (put_same c.as_slice-in-Sort.ensures c.in_ok-put_list-in-Sort.ensures) (then_put c.in_ok-put_limit-in-Sort.ensures (put_same c.get-in-Sort.ensures k))))) c.put_op-in-Sort.ensures
