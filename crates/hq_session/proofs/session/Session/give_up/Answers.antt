use Rattle.std.proofs.Common.{◌≡◌, ◌∙◌, sym, ap}
use Rattle.hq_txn.specs.Transactions.{Transaction}
use Rattle.hq_txn.specs.declared.state.TxnState.{TxnState}
use Rattle.hq_txn.specs.declared.state.TxnState.TheVariants as txn
use Rattle.hq_turns.specs.Ends.{given_up}
use Rattle.hq_session.proofs.Outcomes.{same-state}
use Rattle.hq_session.proofs.session.Session.give_up.Goals as goal

given-up-at : (t after : Transaction) (s : TxnState) → t.state ≡ s → after ≡ record t { state = given_up s } → after ≡ record t { state = given_up t.state }
given-up-at t after s e is = is ∙ ap (λ (x : TxnState). record t { state = given_up x }) (sym e)

pub returns-in-Idle-clause-txn : goal.returns-in-Idle-clause-txn
returns-in-Idle-clause-txn g c =
    let t : Transaction = c.args.self.now.txn in
    let is : t.state ≡ txn.Idle = sym c.state.ensures ∙ c.in-Idle.is in
    given-up-at t t txn.Idle is (same-state t txn.Idle is)

pub returns-in-Open-clause-txn : goal.returns-in-Open-clause-txn
returns-in-Open-clause-txn g c = given-up-at c.args.self.now.txn c.fail.new.self txn.Open (sym c.state.ensures ∙ c.in-Open.is) c.fail.ensures

pub returns-in-Failed-clause-txn : goal.returns-in-Failed-clause-txn
returns-in-Failed-clause-txn g c =
    let t : Transaction = c.args.self.now.txn in
    let is : t.state ≡ txn.Failed = sym c.state.ensures ∙ c.in-Failed.is in
    given-up-at t t txn.Failed is (same-state t txn.Failed is)
