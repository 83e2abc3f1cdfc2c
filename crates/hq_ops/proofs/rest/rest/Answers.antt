use Rattle.std.proofs.Common.{◌∙◌, [], Bool, sym, ap, subst}
use Rattle.std.proofs.lemmas.List.{append-nil}
use Rattle.std.proofs.lemmas.Result.{IfOk-weaker}
use Rattle.hq_meaning.specs.Operators.{sorted}
use Rattle.hq_ops.specs.declared.work.Work.{Work}
use Rattle.hq_ops.specs.Ends.{StopsAt}
use Rattle.hq_ops.specs.Works.{Holds}
use Rattle.hq_ops.proofs.Pipes.{rest-streamed, rest-kept, keeps-nothing, rest-faults}
use Rattle.hq_ops.proofs.rest.rest.Goals as goal

pub returns-in-Filter-clause-rows : goal.returns-in-Filter-clause-rows
returns-in-Filter-clause-rows c op build pushed given h =
    let k = subst (λ (w : Work). Holds op build pushed given w) c.in-Filter.is h in
    rest-streamed op build pushed given _ _ _ _ k.0 k.1 c.new.ensures.items

pub returns-in-Filter-clause-numeric : goal.returns-in-Filter-clause-numeric
returns-in-Filter-clause-numeric c op build pushed given h =
    let k = subst (λ (w : Work). Holds op build pushed given w) c.in-Filter.is h in k.0.fails_are pushed

pub returns-in-Project-clause-rows : goal.returns-in-Project-clause-rows
returns-in-Project-clause-rows c op build pushed given h =
    let k = subst (λ (w : Work). Holds op build pushed given w) c.in-Project.is h in
    rest-streamed op build pushed given _ _ _ _ k.0 k.1 c.new-in-Project.ensures.items

pub returns-in-Project-clause-numeric : goal.returns-in-Project-clause-numeric
returns-in-Project-clause-numeric c op build pushed given h =
    let k = subst (λ (w : Work). Holds op build pushed given w) c.in-Project.is h in k.0.fails_are pushed ∙ k.2

pub returns-in-Join-clause-rows : goal.returns-in-Join-clause-rows
returns-in-Join-clause-rows c op build pushed given h =
    let k = subst (λ (w : Work). Holds op build pushed given w) c.in-Join.is h in
    rest-streamed op build pushed given _ _ _ _ k.stands k.given_are c.new-in-Join.ensures.items

pub returns-in-Join-clause-numeric : goal.returns-in-Join-clause-numeric
returns-in-Join-clause-numeric c op build pushed given h =
    let k = subst (λ (w : Work). Holds op build pushed given w) c.in-Join.is h in k.stands.fails_are pushed

pub returns-in-Group-clause-rows : goal.returns-in-Group-clause-rows
returns-in-Group-clause-rows c op build pushed given h =
    let k = subst (λ (w : Work). Holds op build pushed given w) c.in-Group.is h in
    IfOk-weaker c.finished.result _ _ (λ found e. rest-kept op build pushed given found.items _ _ _ k.1 k.3 e) (c.finished.ensures.rows k.0 pushed k.2)

pub returns-in-Group-clause-numeric : goal.returns-in-Group-clause-numeric
returns-in-Group-clause-numeric c op build pushed given h =
    let k = subst (λ (w : Work). Holds op build pushed given w) c.in-Group.is h in
    subst (λ (b : Bool). StopsAt c.finished.result b) (rest-faults op build pushed given c.in-Group.by c.in-Group.gathered k.0 k.1 k.2) (c.finished.ensures.numeric k.0 pushed k.2)

pub returns-in-Group-clause-streamed : goal.returns-in-Group-clause-streamed
returns-in-Group-clause-streamed c op build pushed given h =
    let k = subst (λ (w : Work). Holds op build pushed given w) c.in-Group.is h in keeps-nothing op _ _ build k.1

pub returns-in-Distinct-clause-rows : goal.returns-in-Distinct-clause-rows
returns-in-Distinct-clause-rows c op build pushed given h =
    let k = subst (λ (w : Work). Holds op build pushed given w) c.in-Distinct.is h in
    IfOk-weaker c.all_firsts.result _ _ (λ found e. rest-kept op build pushed given found.items _ _ _ k.0 k.2 (e ∙ k.1)) c.all_firsts.ensures.rows

pub returns-in-Distinct-clause-numeric : goal.returns-in-Distinct-clause-numeric
returns-in-Distinct-clause-numeric c op build pushed given h =
    let k = subst (λ (w : Work). Holds op build pushed given w) c.in-Distinct.is h in
    subst (λ (b : Bool). StopsAt c.all_firsts.result b) (sym (k.0.fails_are pushed)) c.all_firsts.ensures.numeric

pub returns-in-Distinct-clause-streamed : goal.returns-in-Distinct-clause-streamed
returns-in-Distinct-clause-streamed c op build pushed given h =
    let k = subst (λ (w : Work). Holds op build pushed given w) c.in-Distinct.is h in keeps-nothing op _ _ build k.0

pub returns-in-Sort-clause-rows : goal.returns-in-Sort-clause-rows
returns-in-Sort-clause-rows c op build pushed given h =
    let k = subst (λ (w : Work). Holds op build pushed given w) c.in-Sort.is h in
    IfOk-weaker c.all_sorted.result _ _ (λ found e. rest-kept op build pushed given found.items _ _ _ k.0 k.2
    (e ∙ ap (sorted c.in-Sort.order.now c.in-Sort.limit) (sym (append-nil c.in-Sort.rows.items)) ∙ k.1 [] ∙ ap (sorted c.in-Sort.order.now c.in-Sort.limit) (append-nil pushed))) c.all_sorted.ensures.rows

pub returns-in-Sort-clause-numeric : goal.returns-in-Sort-clause-numeric
returns-in-Sort-clause-numeric c op build pushed given h =
    let k = subst (λ (w : Work). Holds op build pushed given w) c.in-Sort.is h in
    subst (λ (b : Bool). StopsAt c.all_sorted.result b) (sym (k.0.fails_are pushed)) c.all_sorted.ensures.numeric

pub returns-in-Sort-clause-streamed : goal.returns-in-Sort-clause-streamed
returns-in-Sort-clause-streamed c op build pushed given h =
    let k = subst (λ (w : Work). Holds op build pushed given w) c.in-Sort.is h in keeps-nothing op _ _ build k.0
