use Rattle.std.proofs.Common.{◌≡◌, ◌++◌, ◌∙◌, ap, sym, append_assoc, List}
use Rattle.std.proofs.lemmas.Result.{on_ok_weaker}
use Rattle.hq_algebra.specs.declared.op.Op.{Op}
use Rattle.hq_algebra.specs.Plans.{operators}
use Rattle.hq_planwire.specs.Rules.{the_ops}
use Rattle.hq_planwire.proofs.OpLists.{operators-Filter, operators-Project, operators-Join, operators-Partial, operators-Final, operators-Distinct, operators-Sort}
use Rattle.hq_planwire.proofs.Refs.{pushed}
use Rattle.hq_planwire.proofs.parts.+push_operators.Goals as goal

pub returns-in-Filter : goal.returns-in-Filter
returns-in-Filter t c = on_ok_weaker c.push_operators.result
    (λ (k : the_ops c.push_operators.new.found.items ≡ the_ops c.push.new.self.items ++ operators c.get.result.now). pushed c.args.found.now.items c.push.new.self.items c.push_operators.new.found.items c.args.op (operators c.in-Filter.input) c.in_ok-push.ensures.items
    (rw c.in-Filter.is (operators-Filter c.in-Filter.cond c.in-Filter.input)) (k ∙ ap (λ (o : Op). the_ops c.push.new.self.items ++ operators o) c.get.ensures)) c.push_operators.ensures

pub returns-in-Project : goal.returns-in-Project
returns-in-Project t c = on_ok_weaker c.push_operators-in-Project.result
    (λ (k : the_ops c.push_operators-in-Project.new.found.items ≡ the_ops c.push.new.self.items ++ operators c.get-in-Project.result.now). pushed c.args.found.now.items c.push.new.self.items c.push_operators-in-Project.new.found.items c.args.op (operators c.in-Project.input) c.in_ok-push.ensures.items
    (rw c.in-Project.is (operators-Project c.in-Project.items c.in-Project.input)) (k ∙ ap (λ (o : Op). the_ops c.push.new.self.items ++ operators o) c.get-in-Project.ensures)) c.push_operators-in-Project.ensures

pub returns-in-Partial : goal.returns-in-Partial
returns-in-Partial t c = on_ok_weaker c.push_operators-in-Partial.result
    (λ (k : the_ops c.push_operators-in-Partial.new.found.items ≡ the_ops c.push.new.self.items ++ operators c.get-in-Partial.result.now). pushed c.args.found.now.items c.push.new.self.items c.push_operators-in-Partial.new.found.items c.args.op (operators c.in-Partial.input) c.in_ok-push.ensures.items
    (rw c.in-Partial.is (operators-Partial c.in-Partial.keys c.in-Partial.aggregates c.in-Partial.input)) (k ∙ ap (λ (o : Op). the_ops c.push.new.self.items ++ operators o) c.get-in-Partial.ensures)) c.push_operators-in-Partial.ensures

pub returns-in-Final : goal.returns-in-Final
returns-in-Final t c = on_ok_weaker c.push_operators-in-Final.result
    (λ (k : the_ops c.push_operators-in-Final.new.found.items ≡ the_ops c.push.new.self.items ++ operators c.get-in-Final.result.now). pushed c.args.found.now.items c.push.new.self.items c.push_operators-in-Final.new.found.items c.args.op (operators c.in-Final.input) c.in_ok-push.ensures.items
    (rw c.in-Final.is (operators-Final c.in-Final.keys c.in-Final.aggregates c.in-Final.input)) (k ∙ ap (λ (o : Op). the_ops c.push.new.self.items ++ operators o) c.get-in-Final.ensures)) c.push_operators-in-Final.ensures

pub returns-in-Distinct : goal.returns-in-Distinct
returns-in-Distinct t c = on_ok_weaker c.push_operators-in-Distinct.result
    (λ (k : the_ops c.push_operators-in-Distinct.new.found.items ≡ the_ops c.push.new.self.items ++ operators c.get-in-Distinct.result.now). pushed c.args.found.now.items c.push.new.self.items c.push_operators-in-Distinct.new.found.items c.args.op (operators c.in-Distinct.input) c.in_ok-push.ensures.items
    (rw c.in-Distinct.is (operators-Distinct c.in-Distinct.input)) (k ∙ ap (λ (o : Op). the_ops c.push.new.self.items ++ operators o) c.get-in-Distinct.ensures)) c.push_operators-in-Distinct.ensures

pub returns-in-Sort : goal.returns-in-Sort
returns-in-Sort t c = on_ok_weaker c.push_operators-in-Sort.result
    (λ (k : the_ops c.push_operators-in-Sort.new.found.items ≡ the_ops c.push.new.self.items ++ operators c.get-in-Sort.result.now). pushed c.args.found.now.items c.push.new.self.items c.push_operators-in-Sort.new.found.items c.args.op (operators c.in-Sort.input) c.in_ok-push.ensures.items
    (rw c.in-Sort.is (operators-Sort c.in-Sort.order c.in-Sort.limit c.in-Sort.input)) (k ∙ ap (λ (o : Op). the_ops c.push.new.self.items ++ operators o) c.get-in-Sort.ensures)) c.push_operators-in-Sort.ensures

pub returns-in_ok-push_operators-in-Join : goal.returns-in_ok-push_operators-in-Join
returns-in_ok-push_operators-in-Join t c = on_ok_weaker c.push_operators-in-Join-2.result
    (λ (k : the_ops c.push_operators-in-Join-2.new.found.items ≡ the_ops c.push_operators-in-Join.new.found.items ++ operators c.get-in-Join-2.result.now). pushed c.args.found.now.items c.push.new.self.items c.push_operators-in-Join-2.new.found.items c.args.op (operators c.in-Join.left ++ operators c.in-Join.right) c.in_ok-push.ensures.items
    (rw c.in-Join.is (operators-Join c.in-Join.left_keys c.in-Join.right_keys c.in-Join.left c.in-Join.right))
    (k ∙ ap (λ (l : List Op). l ++ operators c.get-in-Join-2.result.now) (c.in_ok-push_operators-in-Join.ensures ∙ ap (λ (o : Op). the_ops c.push.new.self.items ++ operators o) c.get-in-Join.ensures) ∙ ap (λ (o : Op). (the_ops c.push.new.self.items ++ operators c.in-Join.left) ++ operators o) c.get-in-Join-2.ensures
    ∙ append_assoc (the_ops c.push.new.self.items) (operators c.in-Join.left) (operators c.in-Join.right))) c.push_operators-in-Join-2.ensures
