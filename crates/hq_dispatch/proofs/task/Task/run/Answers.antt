-- As it ran, or as it rested.
use Rattle.std.proofs.Common.{◌≡◌, ◌∙◌, true, false, refl, sym}
use Rattle.hq_dispatch.proofs.task.Task.run.Goals as goal

pub returns-then-not-runs : goal.returns-then-not-runs
returns-then-not-runs g c = λ root is. record {
  served = record {
    link = refl;
    flowed = λ on. (let bad : false ≡ true = sym c.if-not-runs.true ∙ on in absurd cc);
    rested = λ off. refl;
  };
  incoming = refl;
  sent = λ on. (let bad : false ≡ true = sym c.if-not-runs.true ∙ on in absurd cc);
  rested = λ off. refl;
}

pub returns : goal.returns
returns g c = λ root is.
    let e = rw c.as_slice.ensures.value at c.flow-end.ensures in
    record {
      served = record {
        link = e.link;
        flowed = λ on. e.flowed root is;
        rested = λ off. (let bad : true ≡ false = sym c.if-not-runs.false ∙ off in absurd cc);
      };
      incoming = refl;
      sent = λ on. e.sent root is;
      rested = λ off. (let bad : true ≡ false = sym c.if-not-runs.false ∙ off in absurd cc);
    }
