use Rattle.std.proofs.Common.{rules, ◌≡◌, ◌∙◌, ◌+◌, ◌++◌, ◌<◌, List, Ok, Err, length, slice_set, refl, sym, ap, subst, arith, add-one}
use Rattle.std.proofs.Math.ListN.{length-set}
use Rattle.std.proofs.lemmas.Result.{err_from_is_err_and}
use Rattle.hq_ops.specs.declared.end.OpEnd.{OpEnd}
use Rattle.hq_ops.specs.declared.pipe.Pipe.{Pipe}
use Rattle.hq_ops.specs.Pipes.{fails}
use Rattle.hq_ops.specs.Taking.{HasTaken, HasTakenAfter, FailsFor}
use Rattle.hq_exec.specs.Given.{end_as}
use Rattle.hq_exec.proofs.Adding.{adds-none}
use Rattle.hq_exec.proofs.Running.{passed-suits, can-step, was-put, was-stopped, was-step}
use Rattle.hq_exec.proofs.line.+push_from.Goals as goal

pub put-requires : goal.put-requires
put-requires g t c = passed-suits c.args.at c.args.pipes.now.items c.args.rows.items (g.O.RowOut.state c.args.out.now).kinds c.requires.can (omega (arith, c.if-at-len.true, c.len.ensures))

pub returns-then-at-len-clause-passed : goal.returns-then-at-len-clause-passed
returns-then-at-len-clause-passed g t c =
    was-put c.args.at c.args.pipes.now.items c.args.rows.items (g.O.RowOut.state c.args.out.now) (g.O.RowOut.state c.put.new.self) (omega (arith, c.if-at-len.true, c.len.ensures)) c.in_ok-put.ensures.put

pub returns-in_err-rows-clause-passed : goal.returns-in_err-rows-clause-passed
returns-in_err-rows-clause-passed g t c =
    let p = err_from_is_err_and c.from_residual-in_err-rows.result c.from_residual-in_err-rows.ensures.1 in
    rw (p.1, p.2)
    (was-stopped c.in_err-rows.field-0.0 c.args.at c.args.pipes.now.items _ c.index_mut-pipe.result.now c.args.rows.items (g.O.RowOut.state c.args.out.now) (g.O.RowOut.state c.args.out.now) (omega (arith, c.if-at-len.false, c.len.ensures, c.requires.within)) (adds-none (g.O.RowOut.state c.args.out.now))
    (λ op build before given more h. subst (λ (e : OpEnd). FailsFor e (fails op (before ++ c.args.rows.items ++ more))) (c.given.ensures ∙ ap end_as c.in_err-rows.was)
    (c.push.ensures.numeric op build before given more (subst (λ (q : Pipe). HasTaken op build before given q) (sym c.index_mut-pipe.ensures.value) h))))

pub returns-clause-passed : goal.returns-clause-passed
returns-clause-passed g t c =
    was-step c.push_from.result c.args.at (c.args.at + 1) c.args.pipes.now.items c.push_from.new.pipes.items c.index_mut-pipe.result.now c.push.new.self c.args.rows.items c.in_ok-rows.rows.items (g.O.RowOut.state c.args.out.now) (g.O.RowOut.state c.push_from.new.out)
    (add-one c.args.at) (omega (arith, c.if-at-len.false, c.len.ensures, c.requires.within))
    (λ op build before given h. subst (λ (e : OpEnd). HasTakenAfter op build (before ++ c.args.rows.items) given e c.push.new.self) (c.given.ensures ∙ ap end_as c.in_ok-rows.was)
    (c.push.ensures.rows op build before given (subst (λ (q : Pipe). HasTaken op build before given q) (sym c.index_mut-pipe.ensures.value) h))) c.push_from.ensures.passed

pub push_from-requires : goal.push_from-requires
push_from-requires g t c κs within =
    let low : c.args.at < length c.args.pipes.now.items = omega (arith, c.if-at-len.false, c.len.ensures, c.requires.within) in
    let long : length (slice_set c.args.pipes.now.items c.args.at c.push.new.self) ≡ length c.args.pipes.now.items = length-set c.args.pipes.now.items c.args.at c.push.new.self in (
      omega (arith, c.decreases, low, long),
      (
        search rules,
        (
          omega (arith, c.if-at-len.false, c.len.ensures, c.requires.within, low, long),
          can-step c.args.at (c.args.at + 1) c.args.pipes.now.items c.index_mut-pipe.result.now c.push.new.self c.args.rows.items c.in_ok-rows.rows.items (g.O.RowOut.state c.args.out.now).kinds (add-one c.args.at) low c.requires.can
              (λ op build before given h. subst (λ (e : OpEnd). HasTakenAfter op build (before ++ c.args.rows.items) given e c.push.new.self) (c.given.ensures ∙ ap end_as c.in_ok-rows.was)
              (c.push.ensures.rows op build before given (subst (λ (q : Pipe). HasTaken op build before given q) (sym c.index_mut-pipe.ensures.value) h))),
        ),
      ),
    )
