-- Objects over memory, whose calls fail by a plan.
use Rattle.std.specs.Prelude.{ℕ, ◌<◌, ◌==◌, Bool, List, [], ◌∷◌}
use Rattle.std.specs.List.{list_any}
use Rattle.std.specs.declared.option.Option.{Option}
use Rattle.hq_value.specs.Causes.{raised}
use Rattle.hq_io.specs.declared.label.Label.{Label}

-- a source: the bytes that are left, how many a read gives at most, the calls that fail, how many calls were made and how many have failed, and its label
pub record MemoryInput : Type 0 where
  pub left : List ℕ
  pub step : ℕ
  pub fails : List ℕ
  pub calls : ℕ
  pub faults : ℕ
  pub label : Option Label

-- a sink: the bytes that it was given, the calls that fail, how many calls were made and how many have failed, and its label
pub record MemoryOutput : Type 0 where
  pub given : List ℕ
  pub fails : List ℕ
  pub calls : ℕ
  pub faults : ℕ
  pub label : Option Label

-- the next call, after so many, is one of those that fail
abbrev pub fails_next : List ℕ → ℕ → Bool
fails_next fails calls = list_any (λ n. n == raised calls 1) fails

-- no call after so many is one of those that fail
abbrev pub NoneLeft : List ℕ → ℕ → Type 0
NoneLeft [] calls = Unit {0}
NoneLeft (n ∷ fails) calls = (n < raised calls 1) × NoneLeft fails calls
