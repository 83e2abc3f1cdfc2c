-- How an exchange ends.
--     HasCause old new result                    one that failed, or lost its link, has its cause in the counts
--     HasExchanged start link streams result     it ran over the link to its end, step by step, and gives what was taken
use Rattle.std.specs.Prelude.{◌≡◌, ◌⊎◌, ℕ, List, [], map, Result, Ok, Err, Vec}
use Rattle.hq_value.specs.Causes.{Rose}
use Rattle.hq_link.specs.Link.{LinkState}
use Rattle.hq_pump.specs.declared.end.ExchangeEnd.{ExchangeEnd}
use Rattle.hq_pump.specs.declared.end.ExchangeEnd.TheVariants as end_variant
use Rattle.hq_pump.specs.Exchange.{Exchange}
use Rattle.hq_pump.specs.Pumping.{HasRun, IsLost}
use Rattle.hq_pump.specs.Seen.{seen}

-- an exchange that failed, or lost its link, has its cause in the counts
pub record HasCause {A : Type 0} (old new : LinkState) (result : Result A ExchangeEnd) : Type 0 where
  pub failed : result ≡ Err end_variant.LinkFailed → Rose old.faults new.faults
  pub lost : (seq troubles : ℕ) → result ≡ Err (end_variant.LinkLost seq troubles) → IsLost old.troubles new.troubles

-- nothing was taken yet
abbrev pub nothing : ℕ → List ℕ
nothing n = []

-- it ran over the link to this end
pub record HasEnded (start : Exchange) (link : LinkState) (result : Result Unit ExchangeEnd) : Type 0 where
  pub taken : ℕ → List ℕ
  pub ran : HasRun start link taken result

-- it ran until all was done, and these are the streams as they were taken
pub record HasGiven (start : Exchange) (link : LinkState) (streams got : List (ℕ × List ℕ)) : Type 0 where
  pub taken : ℕ → List ℕ
  pub ran : HasRun start link taken (Ok tt)
  pub gave : got ≡ map (λ stream. (stream.0, taken stream.0)) streams

-- there was no memory to begin it, in a step of it, or for the streams that it gives
abbrev pub LackedMemory : Exchange → LinkState → Type 0
LackedMemory start link = (link ≡ start.link) ⊎ HasEnded start link (Err end_variant.NoMemory) ⊎ HasEnded start link (Ok tt)

-- it ran over the link to its end, and gives what was taken
abbrev pub HasExchanged : {A B : Type 0} → Exchange → LinkState → List (ℕ × List ℕ) → Result (Vec (ℕ × Vec ℕ A) B) ExchangeEnd → Type 0
HasExchanged start link streams (Ok got) = HasGiven start link streams (seen got.items)
HasExchanged start link streams (Err end_variant.NoMemory) = LackedMemory start link
HasExchanged start link streams (Err end_variant.LinkFailed) = HasEnded start link (Err end_variant.LinkFailed)
HasExchanged start link streams (Err (end_variant.LinkLost seq troubles)) = HasEnded start link (Err (end_variant.LinkLost seq troubles))
