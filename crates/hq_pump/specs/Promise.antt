-- What an exchange promises over a sound link that isn't too rough.
--     IsRoughAtMost most s    the link is sound, and tells that at most so many of its later calls are rough
--     IsOkOrNoMemory result   the exchange gave all, or found no memory
use Rattle.std.specs.Prelude.{◌≡◌, ℕ, ◌≤◌, true, Option, Some, None, Result, Ok, Err}
use Rattle.hq_link.specs.Link.{LinkState}
use Rattle.hq_pump.specs.declared.end.ExchangeEnd.{ExchangeEnd}
use Rattle.hq_pump.specs.declared.end.ExchangeEnd.TheVariants as end_variant

-- it is told, and at most so much
abbrev pub IsToldAtMost : ℕ → Option ℕ → Type 0
IsToldAtMost most None = ⊥
IsToldAtMost most (Some n) = n ≤ most

-- no call fails, and at most so many later ones raise troubles, but for a Quiet with nothing flying
pub record IsRoughAtMost (most : ℕ) (s : LinkState) : Type 0 where
  pub sound : s.sound ≡ true
  pub rough : IsToldAtMost most s.rough

-- it was neither lost, nor did the link fail
abbrev pub IsOkOrNoMemory : {A : Type 0} → Result A ExchangeEnd → Type 0
IsOkOrNoMemory (Ok given) = Unit {0}
IsOkOrNoMemory (Err end_variant.NoMemory) = Unit {0}
IsOkOrNoMemory (Err end_variant.LinkFailed) = ⊥
IsOkOrNoMemory (Err (end_variant.LinkLost seq troubles)) = ⊥
