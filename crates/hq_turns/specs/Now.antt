-- A running statement, as one who hears all that is asked and answered knows it.
--     Now                        what the statement has found, its entries so far, and what began it
--     behind now before news     .. once it was told what the history has behind `before`
--     Heard now ask answer after what the answer to an ask adds
-- What a session is told is the catalogue's own step, over the history that the session was shown and what other sessions have added
-- to it since. So it is the same whether the session is alone or one of many.
use Rattle.std.specs.Prelude.{◌≡◌, ℕ, Bool, List, [], ◌∷◌, ◌++◌, length, drop, Option, Some}
use Rattle.hq_value.specs.declared.entry.EntryKind.{EntryKind}
use Rattle.hq_value.specs.declared.entry.EntryKind.TheVariants as entry
use Rattle.hq_value.specs.declared.kind.Kind.{Kind}
use Rattle.hq_value.specs.declared.value.Value.{Value}
use Rattle.hq_log.specs.Marks.{marks}
use Rattle.hq_log.specs.Legal.{IsLegal}
use Rattle.hq_history.specs.declared.noted.Noted.{Noted}
use Rattle.hq_history.specs.History.{GrewByOthers, entries_of}
use Rattle.hq_history.specs.Deposits.{tables_left}
use Rattle.hq_catalog.specs.declared.ask.Ask.{Ask}
use Rattle.hq_catalog.specs.declared.ask.Answer.{Answer}
use Rattle.hq_catalog.specs.CatStep.{CatStep}
use Rattle.hq_catalog.specs.Stands.{AreOwnSteps}
use Rattle.hq_transcript.specs.Pieces.{Piece}
use Rattle.hq_transcript.specs.Sights.{Sight, Found}
use Rattle.hq_transcript.specs.Step.{State, Lanes}
use Rattle.hq_transcript.specs.History.{replay_history}
use Rattle.hq_turns.specs.Counts.{Counts}

pub record Now : Type 0 where
  -- what it has found, the session's state and its lanes in hand as it began, its number, and its piece, none at the session's end
  pub found : Found
  pub state : State
  pub lanes : Lanes
  pub number : ℕ
  pub piece : Option Piece
  -- its entries so far
  pub entries : List EntryKind
  -- the counts of the benches as it began
  pub counts : Counts
  -- the history that the session was shown
  pub history : List Noted

-- what an entry adds to what is found
abbrev pub found_with : Sight → Found → EntryKind → Found
found_with sight found entry.Look = record found { look = Some sight }
found_with sight found entry.Create = record found { change = Some sight }
found_with sight found entry.Alter = record found { change = Some sight }
found_with sight found _ = found

-- Session k of a catalogue of so many nodes. `told`: its files and seals tell their bytes; `file_rows` gives the rows of such bytes
module _ (file_rows : List Kind → List ℕ → List (List Value)) (told : Bool) (nodes k : ℕ) where
  -- what statement m finds where this is the history
  abbrev pub sight_over : List Noted → ℕ → Sight
  sight_over history m = record {
    session = k;
    statement = m;
    tables = tables_left history;
    puts = (replay_history file_rows nodes history).puts;
    up = marks nodes (entries_of history);
  }

  -- an entry of the statement, over this history
  abbrev pub shown : Now → List Noted → Noted → Now
  shown now before n = record now {
    found = found_with (sight_over before now.number) now.found n.entry.kind;
    entries = now.entries ++ n.entry.kind ∷ [];
    history = before ++ n ∷ [];
  }

  -- what the history has behind `before`: an entry, or nothing
  abbrev pub behind : Now → List Noted → List Noted → Now
  behind now before [] = record now { history = before }
  behind now before (n ∷ more) = shown now before n

  -- other sessions may have added to the history, and then came the answer
  pub record Heard {F Z : Type 0} (now : Now) (a : Ask F Z) (r : Answer F Z) (after : Now) : Type 0 where
    pub before : List Noted
    pub history : List Noted
    pub others : GrewByOthers k now.history before
    -- as each history of a catalogue is
    pub legal : IsLegal nodes (entries_of before)
    pub steps : AreOwnSteps told [] before
    pub step : CatStep told nodes k now.number before a history r
    pub after_is : after ≡ behind now before (drop (length before) history)
