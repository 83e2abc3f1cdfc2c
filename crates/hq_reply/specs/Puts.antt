-- What a call does that puts bytes through a buffer into a sink.
use Rattle.std.specs.Prelude.{◌≡◌, ℕ, List, ◌++◌, Result, OnOk}
use Rattle.std.specs.declared.option.Option.{Option}
use Rattle.std.specs.Io.KnownBytes.{append_known}
use Rattle.hq_value.specs.Causes.{HasCause}
use Rattle.hq_io.specs.declared.label.Label.{Label}

-- the sink was given some bytes, and the rest of what was held and is put is held at Ok; the sink keeps its label and its promise
pub record Puts {K E : Type 0} (given : K → Option (List ℕ)) (label : K → Option Label) (faults : K → ℕ) (sound : K → Type 0) (old new : K) (held now : List ℕ) (result : Result Unit E) (bytes : List ℕ) : Type 0 where
  pub sent : List ℕ
  pub rest : List ℕ
  pub told : given new ≡ append_known (given old) sent
  pub whole : sent ++ rest ≡ held ++ bytes
  pub kept : OnOk result (rest ≡ now)
  pub labelled : label new ≡ label old
  pub cause : HasCause (faults old) (faults new) result
  pub promise : sound old → (faults new ≡ faults old) × sound new
