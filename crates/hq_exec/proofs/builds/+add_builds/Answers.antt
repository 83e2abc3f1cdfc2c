use Rattle.std.proofs.Common.{Bool, List, arith}
use Rattle.std.specs.Global.{Vec}
use Rattle.std.proofs.lemmas.Result.{err_from_is_err_and}
use Rattle.hq_value.specs.declared.value.Value.{Value}
use Rattle.hq_value.proofs.Counting.{steady_more}
use Rattle.hq_exec.specs.Slices.{IsGiven, SealsStand, OwnStand}
use Rattle.hq_exec.proofs.Bad.{bad-more, bad-so, in-more}
use Rattle.hq_exec.proofs.Whole.{built-alone, input-has, sides-have, input-fine, sides-fine, input-in, left-in, right-in, input-less, left-less, right-less}
use Rattle.hq_exec.proofs.Flows.{all-fit, over-so, beside-built}
use Rattle.hq_exec.proofs.builds.+add_builds.Goals as goal

pub returns-in-Alone-clause-built : goal.returns-in-Alone-clause-built
returns-in-Alone-clause-built g t c = built-alone g.S.Store.faults g.S.Store.given g.S.Store.sound _ c.args.held.now c.args.op.now c.args.store.now c.args.builds.now.items c.in-Alone.ensures

pub add_builds-requires : goal.add_builds-requires
add_builds-requires g t c κs within =
    let o = c.args.op.now in
    let x = c.in-One.input.now in
    let h = c.args.held.now in
    let over = c.in-One.ensures in (
      omega (arith, c.decreases, input-less o x over.operators_are),
      (
        within.0,
        (
          within.1.0,
          (
            within.1.1,
            (
              input-has (IsGiven h) o x over.operators_are c.requires.inputs,
              (
                λ told. input-has (SealsStand h) o x over.operators_are (c.requires.seals told),
                (
                  λ told. input-has (OwnStand h) o x over.operators_are (c.requires.own told),
                  (over.kinds c.requires.typed.0 c.requires.typed.1, input-fine o x over.operators_are c.requires.fine),
                ),
              ),
            ),
          ),
        ),
      ),
    )

pub returns-in-One-clause-built : goal.returns-in-One-clause-built
returns-in-One-clause-built g t c =
    over-so g.S.Store.faults g.S.Store.given g.S.Store.sound _ c.args.held.now c.args.op.now c.add_builds.result c.in-One.input.now _ c.args.store.now c.add_builds.new.store c.args.builds.now.items c.add_builds.new.builds.items c.in-One.ensures c.add_builds.ensures.built

pub returns-in-One-clause-bad : goal.returns-in-One-clause-bad
returns-in-One-clause-bad g t c =
    bad-more c.add_builds.result _ _ (in-more c.in-One.input.now c.args.op.now c.args.held.now.buckets (input-in c.args.op.now c.in-One.input.now c.in-One.ensures.operators_are)) c.add_builds.ensures.bad

-- the right side of a Join
pub add_builds-requires-in-Two : goal.add_builds-requires-in-Two
add_builds-requires-in-Two g t c κs within =
    let o = c.args.op.now in
    let l = c.in-Two.left.now in
    let r = c.in-Two.right.now in
    let h = c.args.held.now in
    let beside = c.in-Two.ensures in (
      omega (arith, c.decreases, right-less o l r beside.operators_are),
      (
        within.0,
        (
          within.1.0,
          (
            within.1.1,
            (
              (sides-have (IsGiven h) o l r beside.operators_are c.requires.inputs).1,
              (
                λ told. (sides-have (SealsStand h) o l r beside.operators_are (c.requires.seals told)).1,
                (
                  λ told. (sides-have (OwnStand h) o l r beside.operators_are (c.requires.own told)).1,
                  (beside.right_kinds c.requires.typed.0 c.requires.typed.1, (sides-fine o l r beside.operators_are c.requires.fine).1),
                ),
              ),
            ),
          ),
        ),
      ),
    )

pub listed-requires-clause-inputs : goal.listed-requires-clause-inputs
listed-requires-clause-inputs g t c = (sides-have (IsGiven c.args.held.now) c.args.op.now c.in-Two.left.now c.in-Two.right.now c.in-Two.ensures.operators_are c.requires.inputs).1

pub listed-requires-clause-seals : goal.listed-requires-clause-seals
listed-requires-clause-seals g t c = λ told. (sides-have (SealsStand c.args.held.now) c.args.op.now c.in-Two.left.now c.in-Two.right.now c.in-Two.ensures.operators_are (c.requires.seals told)).1

pub listed-requires-clause-own : goal.listed-requires-clause-own
listed-requires-clause-own g t c = λ told. (sides-have (OwnStand c.args.held.now) c.args.op.now c.in-Two.left.now c.in-Two.right.now c.in-Two.ensures.operators_are (c.requires.own told)).1

pub listed-requires-clause-typed : goal.listed-requires-clause-typed
listed-requires-clause-typed g t c = c.in-Two.ensures.right_kinds c.requires.typed.0 c.requires.typed.1

pub listed-requires-clause-builds : goal.listed-requires-clause-builds
listed-requires-clause-builds g t c = all-fit _ c.args.held.now c.in-Two.right.now c.in_ok-failed-in-Two.failed _ c.add_builds-in-Two.new.builds.items c.deref.result.now c.new-inner.ensures.items c.deref.ensures.value c.in_ok-failed-in-Two.ensures.built.built

-- and then the left one
pub add_builds-requires-in-Two-2 : goal.add_builds-requires-in-Two-2
add_builds-requires-in-Two-2 g t c κs within =
    let o = c.args.op.now in
    let l = c.in-Two.left.now in
    let r = c.in-Two.right.now in
    let h = c.args.held.now in
    let beside = c.in-Two.ensures in (
      omega (arith, c.decreases, left-less o l r beside.operators_are),
      (
        within.0,
        (
          within.1.0,
          (
            within.1.1,
            (
              (sides-have (IsGiven h) o l r beside.operators_are c.requires.inputs).0,
              (
                λ told. (sides-have (SealsStand h) o l r beside.operators_are (c.requires.seals told)).0,
                (
                  λ told. (sides-have (OwnStand h) o l r beside.operators_are (c.requires.own told)).0,
                  (beside.left_kinds c.requires.typed.0 c.requires.typed.1, (sides-fine o l r beside.operators_are c.requires.fine).0),
                ),
              ),
            ),
          ),
        ),
      ),
    )

pub returns-in_ok-more-in-Two-clause-built : goal.returns-in_ok-more-in-Two-clause-built
returns-in_ok-more-in-Two-clause-built g t c =
    let o = c.args.op.now in
    let l = c.in-Two.left.now in
    let r = c.in-Two.right.now in
    let h = c.args.held.now in
    let beside = c.in-Two.ensures in
    beside-built g.S.Store.faults g.S.Store.given g.S.Store.sound _ h o l r c.in_ok-failed-in-Two.failed c.in_ok-rows-in-Two.fault c.in_ok-more-in-Two.more c.either.result _ c.add_builds-in-Two.new.builds.items c.deref.result.now c.in_ok-rows-in-Two.rows
    c.args.store.now c.add_builds-in-Two.new.store c.listed.new.store c.add_builds-in-Two-2.new.store c.args.builds.now.items c.push.new.self.items c.add_builds-in-Two-2.new.builds.items beside
    (sides-have (IsGiven h) o l r beside.operators_are c.requires.inputs).1
    (λ told. ((sides-have (SealsStand h) o l r beside.operators_are (c.requires.seals told.0)).1, (sides-have (OwnStand h) o l r beside.operators_are (c.requires.own told.1)).1))
    (sides-fine o l r beside.operators_are c.requires.fine).1 c.either.ensures c.new-inner.ensures.items c.deref.ensures.value c.in_ok-failed-in-Two.ensures.built c.in_ok-rows-in-Two.ensures.ran c.in_ok-push-in-Two.ensures.items c.in_ok-more-in-Two.ensures.built

pub returns-in_ok-more-in-Two-clause-store : goal.returns-in_ok-more-in-Two-clause-store
returns-in_ok-more-in-Two-clause-store g t c =
    steady_more g.S.Store.faults g.S.Store.sound c.args.store.now c.listed.new.store c.add_builds-in-Two-2.new.store
    (steady_more g.S.Store.faults g.S.Store.sound c.args.store.now c.add_builds-in-Two.new.store c.listed.new.store c.in_ok-failed-in-Two.ensures.store c.in_ok-rows-in-Two.ensures.store) c.in_ok-more-in-Two.ensures.store

pub returns-in_err-failed-in-Two-clause-bad : goal.returns-in_err-failed-in-Two-clause-bad
returns-in_err-failed-in-Two-clause-bad g t c =
    let o = c.args.op.now in
    let l = c.in-Two.left.now in
    let r = c.in-Two.right.now in
    let p = err_from_is_err_and c.from_residual.result c.from_residual.ensures.1 in
    rw (p.1, p.2) (bad-so Bool Bool c.in_err-failed-in-Two.field-0.0 _ _ (in-more r o c.args.held.now.buckets (right-in o l r c.in-Two.ensures.operators_are)) c.in_err-failed-in-Two.ensures.bad)

pub returns-in_err-rows-in-Two-clause-bad : goal.returns-in_err-rows-in-Two-clause-bad
returns-in_err-rows-in-Two-clause-bad g t c =
    let o = c.args.op.now in
    let l = c.in-Two.left.now in
    let r = c.in-Two.right.now in
    let p = err_from_is_err_and c.from_residual-in_err-rows-in-Two.result c.from_residual-in_err-rows-in-Two.ensures.1 in
    rw (p.1, p.2) (bad-so (Vec (List Value) × Bool) Bool c.in_err-rows-in-Two.field-0.0 _ _ (in-more r o c.args.held.now.buckets (right-in o l r c.in-Two.ensures.operators_are)) c.in_err-rows-in-Two.ensures.bad)

pub returns-in_err-more-in-Two-clause-bad : goal.returns-in_err-more-in-Two-clause-bad
returns-in_err-more-in-Two-clause-bad g t c =
    let o = c.args.op.now in
    let l = c.in-Two.left.now in
    let r = c.in-Two.right.now in
    let p = err_from_is_err_and c.from_residual-in_err-more-in-Two.result c.from_residual-in_err-more-in-Two.ensures.1 in
    rw (p.1, p.2) (bad-so Bool Bool c.in_err-more-in-Two.field-0.0 _ _ (in-more l o c.args.held.now.buckets (left-in o l r c.in-Two.ensures.operators_are)) c.in_err-more-in-Two.ensures.bad)
