use Rattle.std.proofs.Common.{arith, subst, take, length, ◌≤◌}
use Rattle.std.proofs.lemmas.List.{take_rest, take_all, length-drop}
use Rattle.hq_io.specs.Scanning.{Passes, CutAt}
use Rattle.hq_io.proofs.Scanning.{Passes-on, CutAt-on}
use Rattle.hq_io.proofs.scan.find_end.Goals as goal

pub returns-in-Cut : goal.returns-in-Cut
returns-in-Cut c =
    let bytes = c.args.bytes.now in
    let found = subst (λ bs. CutAt c.loop-at.spot bs c.in-Cut.count) (take_rest bytes c.loop-at.at) c.in-Cut.ensures in
    CutAt-on c.args.spot c.loop-at.spot bytes c.loop-at.at c.in-Cut.count c.loop-at.invariant.within c.loop-at.invariant.passes found

pub loop-at-preserved : goal.loop-at-preserved
loop-at-preserved c =
    let bytes = c.args.bytes.now in
    let fits = subst (λ bs. c.in-Past.count ≤ length bs) (take_rest bytes c.loop-at.at) c.in-Past.ensures.1 in
    let past = subst (λ bs. Passes c.loop-at.spot (take c.in-Past.count bs) c.in-Past.next) (take_rest bytes c.loop-at.at) c.in-Past.ensures.2 in
    record {
      within = omega (arith, fits, length-drop c.loop-at.at bytes, c.loop-at.invariant.within);
      passes = Passes-on c.args.spot c.loop-at.spot c.in-Past.next bytes c.loop-at.at c.in-Past.count c.loop-at.invariant.within c.loop-at.invariant.passes past;
    }

pub returns : goal.returns
returns c = subst (λ bs. Passes c.args.spot bs c.loop-at.spot) (take_all c.loop-at.at c.args.bytes.now c.loop-at-test.false) c.loop-at.invariant.passes
