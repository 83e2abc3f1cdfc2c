-- What doors open, and what they tell of it.
use Rattle.std.specs.Prelude.{◌≡◌, ℕ, List, [], ◌∷◌, ◌++◌, None, Some, IfSome}
use Rattle.std.specs.declared.option.Option.{Option}
use Rattle.hq_io.specs.declared.label.Label.{Label}
use Rattle.hq_io.specs.declared.label.Opened.TheVariants as opened
use Rattle.hq_doors.specs.declared.opening.Opening.{Opening}
use Rattle.hq_doors.specs.declared.opening.Opening.TheVariants.{File, Script}

-- the session and the opening, as data
abbrev pub label_of : ℕ → Opening → Label
label_of session (File name) = record { session = session; opened = opened.File name.now }
label_of session (Script text) = record { session = session; opened = opened.Script text.now }

-- the list of labels grew by this one, where it is told; untold it stays untold
abbrev pub ListsLabel : Option (List Label) → Option (List Label) → Label → Type 0
ListsLabel None new label = new ≡ None
ListsLabel (Some labels) new label = new ≡ Some (labels ++ label ∷ [])

-- an object has this label, where it tells one
abbrev pub HasLabel : Option Label → Label → Type 0
HasLabel told label = IfSome told (λ own. own ≡ label)

-- where doors tell a file's bytes, its source has just those left; a script's source gives the script
abbrev pub Gives : (List ℕ → Option (List ℕ)) → Opening → Option (List ℕ) → Type 0
Gives file (File name) left = IfSome (file name.now) (λ bytes. left ≡ Some bytes)
Gives file (Script text) left = IfSome left (λ bytes. bytes ≡ text.now)

-- a script's source tells just the script; of a file nothing is said
abbrev pub TellsScript : Opening → Option (List ℕ) → Type 0
TellsScript (File name) left = Unit {0}
TellsScript (Script text) left = left ≡ Some text.now
