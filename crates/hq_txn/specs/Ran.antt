-- What a node's task leaves of its bench and of its part.
--     HasRun told kinds shares checks host_faults host_sound faults given sound old new
use Rattle.std.specs.Prelude.{◌≡◌, ℕ, Bool, List, OnOk, IsErrOf}
use Rattle.hq_value.specs.declared.kind.Kind.{Kind}
use Rattle.hq_value.specs.Bucket.{Buckets}
use Rattle.hq_value.specs.Causes.{Rose, IsSteady, GoesOn}
use Rattle.hq_txn.specs.InUse.{HasAnswered}
use Rattle.hq_txn.specs.Parts.{IsUsed, HasSameHead, IsWholePart, WritesPart, BeginsPart, UnlessHost, UnlessStore}
use Rattle.hq_txn.specs.declared.task.Task.{Task}
use Rattle.hq_txn.specs.declared.task.Trouble.TheVariants as trouble

-- its files have what its outcome says, and the counts of its host and its store tell why
pub record HasRun {S H L F Z : Type 0} (told : Bool) (kinds : List Kind) (shares : Buckets) (checks host_faults : H → ℕ) (host_sound : H → Type 0) (faults given : S → ℕ) (sound : S → Type 0) (old new : Task S H L F Z) : Type 0 where
  pub head : HasSameHead old.part.value new.part.value
  pub written : OnOk new.outcome (WritesPart told kinds shares old.part.value new.part.value)
  pub begun : BeginsPart told kinds shares old.part.value new.part.value
  pub whole : UnlessStore new.outcome (IsWholePart new.part.value)
  pub link : new.bench.link ≡ old.bench.link
  pub unused : (IsUsed old.part.value → ⊥) → new.bench ≡ old.bench
  pub answered : UnlessHost new.outcome (IsUsed old.part.value → HasAnswered checks host_faults old.bench.host new.bench.host)
  pub held : UnlessHost new.outcome (host_faults new.bench.host ≡ host_faults old.bench.host)
  pub host_used : IsErrOf new.outcome trouble.Host → IsUsed old.part.value
  pub host_rose : IsErrOf new.outcome trouble.Host → Rose (host_faults old.bench.host) (host_faults new.bench.host)
  pub store_used : IsErrOf new.outcome trouble.Store → IsUsed old.part.value
  pub store_rose : IsErrOf new.outcome trouble.Store → Rose (faults old.bench.store) (faults new.bench.store)
  pub host : IsSteady host_faults host_sound old.bench.host new.bench.host
  pub store : GoesOn faults given sound old.bench.store new.bench.store
