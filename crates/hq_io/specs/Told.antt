-- What an object tells of its bytes: they may be unknown, and then nothing is claimed.
use Rattle.std.specs.Prelude.{◌≡◌, ℕ, List, take, Result, OnOk, length, None, Some, ⊤}
use Rattle.std.specs.declared.option.Option.{Option}
use Rattle.std.specs.Io.KnownBytes.{append_known}

-- told bytes grow by a prefix of these, by all of them at Ok; untold ones stay untold
pub record WritesPrefix {E : Type 0} (old new : Option (List ℕ)) (result : Result Unit E) (bytes : List ℕ) : Type 0 where
  pub count : ℕ
  pub appended : new ≡ append_known old (take count bytes)
  pub whole : OnOk result (count ≡ length bytes)

-- what holds of the told bytes before and after; told bytes stay told
abbrev pub IfTold : Option (List ℕ) → Option (List ℕ) → (List ℕ → List ℕ → Type 0) → Type 0
IfTold None new P = ⊤
IfTold (Some xs) None P = ⊥
IfTold (Some xs) (Some ys) P = P xs ys
