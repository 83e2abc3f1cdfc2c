use Rattle.std.proofs.Common.{sym, ◌∙◌}
use Rattle.hq_locktests.proofs.Logs.{entries_of-bare}
use Rattle.hq_locktests.proofs.ledger.LedgerLogged.entries.Goals as goal

pub returns : goal.returns
returns c = c.as_slice.ensures.value ∙ c.self.view_is ∙ sym (entries_of-bare c.args.self.now)
