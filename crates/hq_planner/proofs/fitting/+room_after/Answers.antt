use Rattle.std.proofs.Common.{◌≡◌, ◌+◌, suc, length, sym, ap, ◌∙◌, arith}
use Rattle.hq_algebra.specs.declared.op.Op.{Op}
use Rattle.hq_algebra.specs.Plans.{operators}
use Rattle.hq_planner.proofs.Nodes.{room-next, room-both, count-Filter, count-Project, count-Join, count-Partial, count-Final, count-Distinct, count-Sort}
use Rattle.hq_planner.proofs.fitting.+room_after.Goals as goal

pub returns-in-Filter : goal.returns-in-Filter
returns-in-Filter t c =
    let one : c.in_ok-rest.rest + 1 ≡ c.args.room = omega arith in
    room-next c.room_after.result (length (operators c.args.op.now)) (length (operators c.get.result.now)) c.in_ok-rest.rest c.args.room
    (ap (λ (o : Op). length (operators o)) c.in-Filter.is ∙ count-Filter c.in-Filter.cond c.in-Filter.input ∙ ap (λ (o : Op). suc (length (operators o))) (sym c.get.ensures)) one c.room_after.ensures

pub returns-in-Project : goal.returns-in-Project
returns-in-Project t c =
    let one : c.in_ok-rest.rest + 1 ≡ c.args.room = omega arith in
    room-next c.room_after-in-Project.result (length (operators c.args.op.now)) (length (operators c.get-in-Project.result.now)) c.in_ok-rest.rest c.args.room
    (ap (λ (o : Op). length (operators o)) c.in-Project.is ∙ count-Project c.in-Project.items c.in-Project.input ∙ ap (λ (o : Op). suc (length (operators o))) (sym c.get-in-Project.ensures)) one c.room_after-in-Project.ensures

pub returns-in-Partial : goal.returns-in-Partial
returns-in-Partial t c =
    let one : c.in_ok-rest.rest + 1 ≡ c.args.room = omega arith in
    room-next c.room_after-in-Partial.result (length (operators c.args.op.now)) (length (operators c.get-in-Partial.result.now)) c.in_ok-rest.rest c.args.room
    (ap (λ (o : Op). length (operators o)) c.in-Partial.is ∙ count-Partial c.in-Partial.keys c.in-Partial.aggregates c.in-Partial.input ∙ ap (λ (o : Op). suc (length (operators o))) (sym c.get-in-Partial.ensures)) one c.room_after-in-Partial.ensures

pub returns-in-Final : goal.returns-in-Final
returns-in-Final t c =
    let one : c.in_ok-rest.rest + 1 ≡ c.args.room = omega arith in
    room-next c.room_after-in-Final.result (length (operators c.args.op.now)) (length (operators c.get-in-Final.result.now)) c.in_ok-rest.rest c.args.room
    (ap (λ (o : Op). length (operators o)) c.in-Final.is ∙ count-Final c.in-Final.keys c.in-Final.aggregates c.in-Final.input ∙ ap (λ (o : Op). suc (length (operators o))) (sym c.get-in-Final.ensures)) one c.room_after-in-Final.ensures

pub returns-in-Sort : goal.returns-in-Sort
returns-in-Sort t c =
    let one : c.in_ok-rest.rest + 1 ≡ c.args.room = omega arith in
    room-next c.room_after-in-Sort.result (length (operators c.args.op.now)) (length (operators c.get-in-Sort.result.now)) c.in_ok-rest.rest c.args.room
    (ap (λ (o : Op). length (operators o)) c.in-Sort.is ∙ count-Sort c.in-Sort.order c.in-Sort.limit c.in-Sort.input ∙ ap (λ (o : Op). suc (length (operators o))) (sym c.get-in-Sort.ensures)) one c.room_after-in-Sort.ensures

pub returns-in_ok-room_after-in-Join : goal.returns-in_ok-room_after-in-Join
returns-in_ok-room_after-in-Join t c =
    let one : c.in_ok-rest.rest + 1 ≡ c.args.room = omega arith in
    room-both c.room_after-in-Join-2.result (length (operators c.args.op.now)) (length (operators c.get-in-Join-2.result.now)) (length (operators c.get-in-Join.result.now)) c.in_ok-rest.rest c.in_ok-room_after-in-Join.field-0 c.args.room
    (ap (λ (o : Op). length (operators o)) c.in-Join.is ∙ count-Join c.in-Join.left_keys c.in-Join.right_keys c.in-Join.left c.in-Join.right ∙ (λ i. suc (length (operators (sym c.get-in-Join-2.ensures i)) + length (operators (sym c.get-in-Join.ensures i)))))
    one c.in_ok-room_after-in-Join.ensures c.room_after-in-Join-2.ensures

pub returns-in-Distinct : goal.returns-in-Distinct
returns-in-Distinct t c =
    let one : c.in_ok-rest.rest + 1 ≡ c.args.room = omega arith in
    room-next c.room_after-in-Distinct.result (length (operators c.args.op.now)) (length (operators c.get-in-Distinct.result.now)) c.in_ok-rest.rest c.args.room
    (ap (λ (o : Op). length (operators o)) c.in-Distinct.is ∙ count-Distinct c.in-Distinct.input ∙ ap (λ (o : Op). suc (length (operators o))) (sym c.get-in-Distinct.ensures)) one c.room_after-in-Distinct.ensures
