-- By induction over the calls.
use Rattle.hq_store.proofs.Runs.{fresh_kept, run_kept, run_keeps, run_id}
use Rattle.hq_store.proofs.laws.sealed_bytes_stay.Goals as goal

pub returns : goal.returns
returns c = record { fresh = fresh_kept; kept = run_kept; sealed = run_keeps; id = run_id }
