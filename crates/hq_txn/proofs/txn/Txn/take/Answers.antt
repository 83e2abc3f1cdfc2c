-- A clean lane of another table comes.
use Rattle.std.proofs.Common.{◌∙◌, ap, sym, subst}
use Rattle.hq_txn.specs.Transactions.{Transaction, IsTransaction, has_lane}
use Rattle.hq_txn.proofs.Standing.{stands-more}
use Rattle.hq_txn.proofs.txn.Txn.take.Goals as goal

pub invariant_of-self : goal.invariant_of-self
invariant_of-self g c =
    subst (IsTransaction c.self.inside.state) (sym c.push_sure.ensures.items)
    (stands-more c.self.inside.state c.self.inside.lanes.items c.args.lane (ap (λ (t : Transaction). t.state) c.self.view_is ∙ c.requires.open) c.self.invariant c.requires.clean c.requires.no_seal
    (ap (λ (t : Transaction). has_lane t.lanes c.args.lane.table) c.self.view_is ∙ c.requires.new_table))
