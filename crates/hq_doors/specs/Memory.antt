-- Doors over memory, whose files and failures are planned.
use Rattle.std.specs.Prelude.{◌≡◌, ℕ, ◌||◌, Bool, List, [], ◌∷◌, ◌++◌, None, Some, find, option_map, is_none, IsNone, ⊤, string_bytes}
use Rattle.std.specs.declared.option.Option.{Option}
use Rattle.std.specs.Str.{bytes_eq}
use Rattle.hq_value.specs.Causes.{raised}
use Rattle.hq_io.specs.Memory.{MemoryInput, MemoryOutput, fails_next}
use Rattle.hq_io.specs.declared.label.Label.{Label}
use Rattle.hq_doors.specs.declared.opening.Opening.{Opening}
use Rattle.hq_doors.specs.declared.opening.Opening.TheVariants.{File, Script}
use Rattle.hq_doors.specs.declared.plan.FilePlan.{FilePlan}

-- a planned file: its name and bytes, how many of them a read gives at most, and the calls of its source and of its sink that fail
pub record PlannedFile : Type 0 where
  pub name : List ℕ
  pub bytes : List ℕ
  pub step : ℕ
  pub reads : List ℕ
  pub writes : List ℕ

-- the doors: their files, the openings that fail, how many were asked for and how many have failed, and the labels of what was opened
pub record MemoryDoors : Type 0 where
  pub files : List PlannedFile
  pub fails : List ℕ
  pub calls : ℕ
  pub faults : ℕ
  pub opened : List Label

-- a plan, as data
abbrev pub planned : FilePlan → PlannedFile
planned plan = record { name = string_bytes plan.name; bytes = plan.bytes.items; step = plan.step; reads = plan.reads.items; writes = plan.writes.items }

-- the file of this name
abbrev pub plan_named : List PlannedFile → List ℕ → Option PlannedFile
plan_named files name = find (λ plan. bytes_eq plan.name name) files

-- no two files have one name: none has the name of a later one
abbrev pub HaveDistinctNames : List PlannedFile → Type 0
HaveDistinctNames [] = ⊤
HaveDistinctNames (file ∷ files) = IsNone (plan_named files file.name) × HaveDistinctNames files

-- the bytes of the file of this name
abbrev pub file_of : List PlannedFile → List ℕ → Option (List ℕ)
file_of files name = option_map (λ plan. plan.bytes) (plan_named files name)

-- each of these files has its bytes told under its name
abbrev pub TellsEach : (List ℕ → Option (List ℕ)) → List PlannedFile → Type 0
TellsEach told [] = ⊤
TellsEach told (file ∷ files) = (told file.name ≡ Some file.bytes) × TellsEach told files

-- a script is given at most 4,096 bytes a read, and nothing of it fails
abbrev pub script_plan : List ℕ → PlannedFile
script_plan text = record { name = []; bytes = text; step = 4096; reads = []; writes = [] }

-- what an opening asks for
abbrev pub plan_for : List PlannedFile → Opening → Option PlannedFile
plan_for files (File name) = plan_named files name.now
plan_for files (Script text) = Some (script_plan text.now)

-- a source as planned, before its first call
abbrev pub unlabelled_source : PlannedFile → MemoryInput
unlabelled_source plan = record { left = plan.bytes; step = plan.step; fails = plan.reads; calls = 0; faults = 0; label = None }

-- a sink as planned, before its first call
abbrev pub unlabelled_sink : PlannedFile → MemoryOutput
unlabelled_sink plan = record { given = []; fails = plan.writes; calls = 0; faults = 0; label = None }

-- a source as planned, under a label
abbrev pub source_by : PlannedFile → Label → MemoryInput
source_by plan label = record { left = plan.bytes; step = plan.step; fails = plan.reads; calls = 0; faults = 0; label = Some label }

-- a sink as planned, under a label
abbrev pub sink_by : PlannedFile → Label → MemoryOutput
sink_by plan label = record { given = []; fails = plan.writes; calls = 0; faults = 0; label = Some label }

-- the source and the sink are those of the plan, under the label
pub record IsMade (plan : Option PlannedFile) (label : Label) (source : MemoryInput) (sink : MemoryOutput) : Type 0 where
  pub source_made : option_map (λ plan. source_by plan label) plan ≡ Some source
  pub sink_made : option_map (λ plan. sink_by plan label) plan ≡ Some sink

-- the next opening fails: it is planned to, or it asks for a file that there is none of
abbrev pub fails_to_open : MemoryDoors → Opening → Bool
fails_to_open doors what = fails_next doors.fails doors.calls || is_none (plan_for doors.files what)

-- the doors after an opening that was asked for
abbrev pub after_call : MemoryDoors → MemoryDoors
after_call doors = record doors { calls = raised doors.calls 1 }

-- the doors after an opening that has failed
abbrev pub after_fault : MemoryDoors → MemoryDoors
after_fault doors = record doors { calls = raised doors.calls 1; faults = raised doors.faults 1 }

-- the doors after an opening under this label
abbrev pub after_opening : MemoryDoors → Label → MemoryDoors
after_opening doors label = record doors { calls = raised doors.calls 1; opened = doors.opened ++ label ∷ [] }
