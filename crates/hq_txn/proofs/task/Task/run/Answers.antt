-- A part that stays has none of the rows.
use Rattle.std.proofs.Common.{Err, ap}
use Rattle.hq_store.specs.declared.store.StoreFault.{StoreFault}
use Rattle.hq_txn.specs.Shares.{share_in}
use Rattle.hq_txn.specs.Parts.{IsWholePart}
use Rattle.hq_txn.proofs.Tasking.{begins-none, unless-store}
use Rattle.hq_txn.proofs.task.Task.run.Goals as goal

pub returns-then-is_err-clause-begun : goal.returns-then-is_err-clause-begun
returns-then-is_err-clause-begun g c = begins-none g.F.StoredFile.tells c.args.kinds.now (share_in c.args.shares.now) c.args.self.now.part.value

pub returns-in-Ok-clause-whole : goal.returns-in-Ok-clause-whole
returns-in-Ok-clause-whole g c = c.in-Ok.ensures.whole

pub returns-in-Err-clause-whole : goal.returns-in-Err-clause-whole
returns-in-Err-clause-whole g c =
    unless-store c.trouble_of.result (IsWholePart c.write_part.new.part) c.trouble_of.ensures.not_host
    (λ wanted. c.in-Err.ensures.not_torn (ap (λ (f : StoreFault). Err f) (c.trouble_of.ensures.no_memory wanted)))
