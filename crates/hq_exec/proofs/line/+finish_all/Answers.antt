use Rattle.std.proofs.Common.{rules, ◌≡◌, ◌∙◌, ◌<◌, ◌∷◌, ◌++◌, ℕ, suc, [], List, Ok, Err, Result, vec_len, length, refl, sym, ap, subst, arith}
use Rattle.std.specs.List.{remove}
use Rattle.std.proofs.lemmas.Bool.{eqb-true}
use Rattle.std.proofs.lemmas.Result.{err_from_is_err_and}
use Rattle.hq_ops.specs.declared.end.OpEnd.{OpEnd}
use Rattle.hq_ops.specs.declared.pipe.Pipe.{Pipe}
use Rattle.hq_ops.specs.Ends.{IsNumericAt}
use Rattle.hq_ops.specs.Pipes.{gives, fails}
use Rattle.hq_ops.specs.Taking.{HasTaken, GivesRest}
use Rattle.hq_algebra.specs.declared.op.Op.{Op}
use Rattle.hq_meaning.specs.Rows.{Row}
use Rattle.hq_exec.specs.declared.end.Halt.{Halt}
use Rattle.hq_exec.specs.Given.{end_as}
use Rattle.hq_exec.specs.Lines.{CanPush, Pushed, Drained}
use Rattle.hq_exec.proofs.Rows.{first-and-others}
use Rattle.hq_exec.proofs.Running.{drained-none, drained-first, can-finish, can-go-on, same-many, drained-stop, drained-step}
use Rattle.hq_exec.proofs.line.+finish_all.Goals as goal

pub returns-then-is_empty-clause-drained : goal.returns-then-is_empty-clause-drained
returns-then-is_empty-clause-drained g t c =
    let none : vec_len c.args.pipes ≡ 0 = eqb-true (vec_len c.args.pipes) 0 (sym c.is_empty.ensures ∙ c.if-is_empty.true) in
    drained-none c.args.pipes.items (g.O.RowOut.state c.args.out.now) (omega arith)

pub returns-in_err-rows-clause-drained : goal.returns-in_err-rows-clause-drained
returns-in_err-rows-clause-drained g t c =
    let out = g.O.RowOut.state c.args.out.now in
    let p = err_from_is_err_and c.from_residual.result c.from_residual.ensures.1 in
    let split : c.args.pipes.items ≡ c.remove-pipe.result ∷ remove c.args.pipes.items 0 = first-and-others c.args.pipes.items c.remove-pipe.result (omega arith) c.remove-pipe.ensures.value in
    subst (λ (r : Result Unit Halt). Drained r c.args.pipes.items out out) (sym (p.1 ∙ ap Err p.2))
    (subst (λ (ps : List Pipe). Drained (Err c.in_err-rows.field-0.0) ps out out) (sym split)
    (drained-first c.in_err-rows.field-0.0 c.remove-pipe.result (remove c.args.pipes.items 0) out out
    (λ op build pushed given h. subst (λ (e : OpEnd). IsNumericAt e (fails op pushed)) (c.given.ensures ∙ ap end_as c.in_err-rows.was) (c.finish.ensures.numeric op build pushed given h))))

pub push_all-requires : goal.push_all-requires
push_all-requires g t c =
    let out = g.O.RowOut.state c.args.out.now in
    let split : c.args.pipes.items ≡ c.remove-pipe.result ∷ remove c.args.pipes.items 0 = first-and-others c.args.pipes.items c.remove-pipe.result (omega arith) c.remove-pipe.ensures.value in
    subst (λ (ps : List Pipe). CanPush ps c.in_ok-rows.rows.items out.kinds) (sym c.remove-pipe.ensures.items)
    (can-finish c.remove-pipe.result (remove c.args.pipes.items 0) c.in_ok-rows.rows.items
    (λ op build pushed given h. subst (λ (e : OpEnd). GivesRest e given (gives op build pushed)) (c.given.ensures ∙ ap end_as c.in_ok-rows.was) (c.finish.ensures.rows op build pushed given h))
    out.kinds (subst (λ (ps : List Pipe). CanPush ps [] out.kinds) split c.requires))

pub returns-in_err-push_all-clause-drained : goal.returns-in_err-push_all-clause-drained
returns-in_err-push_all-clause-drained g t c =
    let out = g.O.RowOut.state c.args.out.now in
    let after = g.O.RowOut.state c.push_all.new.out in
    let p = err_from_is_err_and c.from_residual-in_err-push_all.result c.from_residual-in_err-push_all.ensures.1 in
    let split : c.args.pipes.items ≡ c.remove-pipe.result ∷ remove c.args.pipes.items 0 = first-and-others c.args.pipes.items c.remove-pipe.result (omega arith) c.remove-pipe.ensures.value in
    subst (λ (r : Result Unit Halt). Drained r c.args.pipes.items out after) (sym (p.1 ∙ ap Err p.2))
    (subst (λ (ps : List Pipe). Drained (Err c.in_err-push_all.field-0.0) ps out after) (sym split)
    (drained-stop c.remove-pipe.result (remove c.args.pipes.items 0) c.in_ok-rows.rows.items
    (λ op build pushed given h. subst (λ (e : OpEnd). GivesRest e given (gives op build pushed)) (c.given.ensures ∙ ap end_as c.in_ok-rows.was) (c.finish.ensures.rows op build pushed given h))
    c.in_err-push_all.field-0.0 c.push_all.new.pipes.items out after
    (subst (λ (ps : List Pipe). Pushed (Err c.in_err-push_all.field-0.0) c.in_ok-rows.rows.items ps c.push_all.new.pipes.items out after) c.remove-pipe.ensures.items c.in_err-push_all.ensures.pushed)))

pub returns-clause-drained : goal.returns-clause-drained
returns-clause-drained g t c =
    let out = g.O.RowOut.state c.args.out.now in
    let between = g.O.RowOut.state c.push_all.new.out in
    let after = g.O.RowOut.state c.finish_all.new.out in
    let split : c.args.pipes.items ≡ c.remove-pipe.result ∷ remove c.args.pipes.items 0 = first-and-others c.args.pipes.items c.remove-pipe.result (omega arith) c.remove-pipe.ensures.value in
    subst (λ (ps : List Pipe). Drained c.finish_all.result ps out after) (sym split)
    (drained-step c.remove-pipe.result (remove c.args.pipes.items 0) c.in_ok-rows.rows.items
    (λ op build pushed given h. subst (λ (e : OpEnd). GivesRest e given (gives op build pushed)) (c.given.ensures ∙ ap end_as c.in_ok-rows.was) (c.finish.ensures.rows op build pushed given h))
    (λ op build pushed given h. subst (λ (e : OpEnd). IsNumericAt e (fails op pushed)) (c.given.ensures ∙ ap end_as c.in_ok-rows.was) (c.finish.ensures.numeric op build pushed given h))
    c.finish_all.result c.push_all.new.pipes.items out between after
    (subst (λ (ps : List Pipe). Pushed (Ok tt) c.in_ok-rows.rows.items ps c.push_all.new.pipes.items out between) c.remove-pipe.ensures.items c.in_ok-push_all.ensures.pushed) c.finish_all.ensures.drained)

pub finish_all-requires : goal.finish_all-requires
finish_all-requires g t c κs within =
    let out = g.O.RowOut.state c.args.out.now in
    let after = g.O.RowOut.state c.push_all.new.out in
    let split : c.args.pipes.items ≡ c.remove-pipe.result ∷ remove c.args.pipes.items 0 = first-and-others c.args.pipes.items c.remove-pipe.result (omega arith) c.remove-pipe.ensures.value in
    let can : CanPush (c.remove-pipe.result ∷ remove c.args.pipes.items 0) [] out.kinds = subst (λ (ps : List Pipe). CanPush ps [] out.kinds) split c.requires in
    let push : Pushed (Ok tt) c.in_ok-rows.rows.items (remove c.args.pipes.items 0) c.push_all.new.pipes.items out after =
    subst (λ (ps : List Pipe). Pushed (Ok tt) c.in_ok-rows.rows.items ps c.push_all.new.pipes.items out after) c.remove-pipe.ensures.items c.in_ok-push_all.ensures.pushed in
    let rest : (op : Op) (build pushed given : List Row) → HasTaken op build pushed given c.remove-pipe.result → given ++ c.in_ok-rows.rows.items ≡ gives op build pushed =
    λ op build pushed given h. subst (λ (e : OpEnd). GivesRest e given (gives op build pushed)) (c.given.ensures ∙ ap end_as c.in_ok-rows.was) (c.finish.ensures.rows op build pushed given h) in
    let many : length c.push_all.new.pipes.items ≡ length (remove c.args.pipes.items 0) = same-many c.remove-pipe.result (remove c.args.pipes.items 0) c.in_ok-rows.rows.items rest c.push_all.new.pipes.items out after can push in
    let long : length c.args.pipes.items ≡ suc (length (remove c.args.pipes.items 0)) = ap length split in
    (omega (arith, c.decreases, many, long), (search rules, can-go-on c.remove-pipe.result (remove c.args.pipes.items 0) c.in_ok-rows.rows.items rest c.push_all.new.pipes.items out after can push c.push_all.ensures.kinds))
