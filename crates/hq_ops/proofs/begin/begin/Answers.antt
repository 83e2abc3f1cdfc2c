use Rattle.std.proofs.Common.{◌++◌, refl, ap}
use Rattle.hq_meaning.specs.Operators.{sorted}
use Rattle.std.proofs.lemmas.Result.{IfOk-weaker}
use Rattle.hq_ops.proofs.Steps.{none-long}
use Rattle.hq_ops.proofs.begin.begin.Goals as goal

pub returns-in-Filter : goal.returns-in-Filter
returns-in-Filter c = rw c.in-Filter.is (record { gives_are = λ rows. refl; fails_are = λ rows. refl; streams_are = refl }, refl)

pub returns-in-Project : goal.returns-in-Project
returns-in-Project c = rw c.in-Project.is (record { gives_are = λ rows. refl; fails_are = λ rows. refl; streams_are = refl }, refl, refl)

pub returns-in-Join : goal.returns-in-Join
returns-in-Join c = IfOk-weaker c.begin_join.result _ _ (λ w h. h c.args.op.now (rw c.in-Join.is (record { gives_are = λ b rows. refl; fails_are = λ rows. refl; streams = refl }))) c.begin_join.ensures

pub returns-in-Partial : goal.returns-in-Partial
returns-in-Partial c = IfOk-weaker c.begin_partial.result _ _ (λ w h. h c.args.op.now (rw c.in-Partial.is (record { gives_are = λ b rows. refl; fails_are = λ rows. refl; streams = refl })) c.args.build.now) c.begin_partial.ensures

pub returns-in-Final : goal.returns-in-Final
returns-in-Final c = IfOk-weaker c.begin_final.result _ _ (λ w h. h c.args.op.now (rw c.in-Final.is (record { gives_are = λ b rows. refl; fails_are = λ rows. refl; streams = refl })) c.args.build.now) c.begin_final.ensures

pub returns-in-Distinct : goal.returns-in-Distinct
returns-in-Distinct c = rw c.in-Distinct.is (record { gives_are = λ rows. refl; fails_are = λ rows. refl; streams_are = refl }, none-long _ c.new.ensures.len, refl)

pub returns-in-Sort : goal.returns-in-Sort
returns-in-Sort c = rw c.in-Sort.is (record { gives_are = λ rows. refl; fails_are = λ rows. refl; streams_are = refl }, (λ more. ap (λ l. sorted c.in-Sort.order c.in-Sort.limit (l ++ more)) c.new-in-Sort.ensures.items), refl)
