-- What one who asks is answered.
--     IsAnswered told nodes k m shown ask shown' answer    the answer to session k's statement m, which was shown this history before and is
--                                                          shown that one now
--     SpeaksFor files seals may_ask answered               so a desk answers; what may be asked of the catalogue may be asked there
use Rattle.std.specs.Prelude.{ℕ, ◌&&◌, Bool, List, []}
use Rattle.hq_log.specs.Legal.{IsLegal}
use Rattle.hq_history.specs.declared.noted.Noted.{Noted}
use Rattle.hq_history.specs.History.{GrewByOthers, entries_of}
use Rattle.hq_history.specs.Deposits.{IsHistory}
use Rattle.hq_catalog.specs.declared.ask.Ask.{Ask}
use Rattle.hq_catalog.specs.declared.ask.Answer.{Answer}
use Rattle.hq_catalog.specs.Asks.{MayAsk}
use Rattle.hq_catalog.specs.CatStep.{CatStep}
use Rattle.hq_catalog.specs.Stands.{AreOwnSteps}

-- other sessions may have added to what it was shown, and then came one step of the catalogue
pub record IsAnswered {F Z : Type 0} (told : Bool) (nodes k m : ℕ) (shown : List Noted) (a : Ask F Z) (after : List Noted) (r : Answer F Z) : Type 0 where
  pub before : List Noted
  pub others : GrewByOthers k shown before
  -- as each history of a catalogue is
  pub deposits : IsHistory told before
  pub legal : IsLegal nodes (entries_of before)
  pub steps : AreOwnSteps told [] before
  pub step : CatStep told nodes k m before a after r

-- what may be asked of the catalogue may be asked at the desk, and so it answers
pub record SpeaksFor {F Z : Type 0} (files seals : Bool) (may_ask : ℕ → Ask F Z → List Noted → ℕ → Type 0)
    (answered : ℕ → ℕ → ℕ → List Noted → Ask F Z → List Noted → Answer F Z → Type 0) : Type 0 where
  pub asks : (k : ℕ) (a : Ask F Z) (shown : List Noted) (nodes : ℕ) → MayAsk files seals k a shown nodes → may_ask k a shown nodes
  pub answers : (nodes k m : ℕ) (shown : List Noted) (a : Ask F Z) (after : List Noted) (r : Answer F Z)
      → answered nodes k m shown a after r → IsAnswered (files && seals) nodes k m shown a after r
