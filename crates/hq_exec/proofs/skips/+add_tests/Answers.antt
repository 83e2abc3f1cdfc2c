use Rattle.std.proofs.Common.{◌≡◌, ◌∙◌, ◌++◌, List, ap}
use Rattle.std.proofs.lemmas.Result.{on_ok_weaker}
use Rattle.hq_block.specs.declared.skip.ColumnTest.{ColumnTest}
use Rattle.hq_algebra.specs.declared.expr.Expr.{Expr}
use Rattle.hq_laws.specs.Sources.{column_of, literal_of}
use Rattle.hq_exec.specs.Skips.{test_on, tests_in}
use Rattle.hq_exec.proofs.Parted.{of-and, of-compare}
use Rattle.hq_exec.proofs.skips.+add_tests.Goals as goal

pub returns-in_ok-add_tests-in-And : goal.returns-in_ok-add_tests-in-And
returns-in_ok-add_tests-in-And t c = on_ok_weaker c.add_tests-in-And.result
    (λ (k : c.add_tests-in-And.new.tests.items ≡ c.add_tests.new.tests.items ++ tests_in c.args.kinds.now c.get-in-And.result.now).
    of-and c.args.kinds.now c.args.tests.now.items c.args.cond.now c.in-And.left c.in-And.right c.add_tests.new.tests.items c.add_tests-in-And.new.tests.items c.in-And.is
    (c.in_ok-add_tests-in-And.ensures ∙ ap (λ (e : Expr). c.args.tests.now.items ++ tests_in c.args.kinds.now e) c.get.ensures)
    (k ∙ ap (λ (e : Expr). c.add_tests.new.tests.items ++ tests_in c.args.kinds.now e) c.get-in-And.ensures)) c.add_tests-in-And.ensures

pub returns-in-Compare : goal.returns-in-Compare
returns-in-Compare t c = on_ok_weaker c.add_test.result
    (λ (k : c.add_test.new.tests.items ≡ c.args.tests.now.items ++ test_on c.args.kinds.now c.in-Compare.kind (column_of c.get-in-Compare.result.now) (literal_of c.get-in-Compare-2.result.now)).
    of-compare c.args.kinds.now c.args.tests.now.items c.args.cond.now c.in-Compare.kind c.in-Compare.left c.in-Compare.right c.add_test.new.tests.items c.in-Compare.is
    (k ∙ (λ i. c.args.tests.now.items ++ test_on c.args.kinds.now c.in-Compare.kind (column_of (c.get-in-Compare.ensures i)) (literal_of (c.get-in-Compare-2.ensures i))))) c.add_test.ensures
