-- The statuses, and what the console shows.
use Rattle.std.specs.Prelude.{◌≡◌, ◌⊎◌, ℕ, List, [], ◌∷◌, length, take, codes, if◌then◌else◌, ◌==◌, Option, IfSome}
use Rattle.std.specs.Io.KnownBytes.{append_known}
use Rattle.hq_value.specs.Causes.{Rose}
use Rattle.hq_io.specs.declared.label.Label.{Label}
use Rattle.hq_io.specs.declared.label.Opened.TheVariants.{File}
use Rattle.hq_doors.specs.declared.words.Command.TheVariants as command
use Rattle.hq_doors.specs.Words.{IsForm}
use Rattle.hq_server.specs.Ending.{Serves}
use Rattle.hq_server.specs.declared.why.EndWhy.{EndWhy}
use Rattle.hq_server.specs.declared.why.EndWhy.TheVariants.{End, SourceFault, SinkFault, InputLimit, NoMemory}

-- the words ask for one file to be run
abbrev pub RunsFile : List (List ℕ) → List ℕ → Type 0
RunsFile words name = IsForm words (command.Run (name ∷ []))

abbrev pub status_of : EndWhy → ℕ
status_of End = 0
status_of SourceFault = 4
status_of SinkFault = 4
status_of InputLimit = 4
status_of NoMemory = 5

-- what the console shows of session 1
abbrev pub end_text : EndWhy → List ℕ
end_text End = []
end_text SourceFault = codes "session 1: source fault\n"
end_text SinkFault = codes "session 1: sink fault\n"
end_text InputLimit = codes "session 1: input limit\n"
end_text NoMemory = codes "hawq: out of memory\n"

-- the status, by why the one session ended; without a session it is 2, 3 or 5
abbrev pub IsStatus : ℕ → List EndWhy → Type 0
IsStatus status [] = (status ≡ 2) ⊎ ((status ≡ 3) ⊎ (status ≡ 5))
IsStatus status (why ∷ []) = status ≡ status_of why
IsStatus status (why ∷ more ∷ whys) = ⊥

-- what the console shows
abbrev pub console_text : ℕ → List EndWhy → List ℕ
console_text status [] =
    if status == 2 then codes "usage: hawq run [--segments N] [--data FOLDER] FILE..\n"
    else (if status == 3 then codes "hawq: cannot open\n"
    else codes "hawq: out of memory\n")
console_text status (why ∷ whys) = end_text why

-- the text was written, or a prefix of it where the console has failed
abbrev pub Shows : Option (List ℕ) → Option (List ℕ) → ℕ → ℕ → List ℕ → Type 0
Shows old new before now text = (count : ℕ) × (new ≡ append_known old (take count text)) × ((count ≡ length text) ⊎ Rose before now)

-- what a session wrote for a file, where the file's bytes and the sink's are told
abbrev pub ServesFile : EndWhy → Option (List ℕ) → Option (List ℕ) → Option (List ℕ) → Type 0
ServesFile why file left given = IfSome file (λ input. IfSome given (λ bytes. Serves why input bytes left))

-- a fault is the end only where that object has failed
pub record HasFaults (why : EndWhy) (source sink : ℕ) : Type 0 where
  pub source_fault : why ≡ SourceFault → Rose 0 source
  pub sink_fault : why ≡ SinkFault → Rose 0 sink

-- the label of session 1 over a file
abbrev pub file_label : List ℕ → Label
file_label name = record { session = 1; opened = File name }
