-- What the Looks of a log found, by their places.
--     looks_by_place before log     for each Look of the log, what the log before its place leaves
use Rattle.std.specs.Prelude.{ℕ, List, [], ◌∷◌, ◌++◌}
use Rattle.hq_value.specs.declared.entry.Entry.{Entry}
use Rattle.hq_value.specs.declared.entry.EntryKind.{EntryKind}
use Rattle.hq_value.specs.declared.entry.EntryKind.TheVariants as entry
use Rattle.hq_transcript.specs.Pieces.{Piece}
use Rattle.hq_transcript.specs.Binding.{Binder}
use Rattle.hq_transcript.specs.Sights.{Sight, replay, sight_at}

-- the sight of an entry, where it is a Look
abbrev pub looked : Sight → EntryKind → List Sight
looked s entry.Look = s ∷ []
looked s _ = []

module _ (binds : Binder) (inputs : ℕ → List Piece) (nodes : ℕ) where
  -- for each Look among the entries behind `before`, what the log up to its place leaves
  abbrev pub looks_by_place : List Entry → List Entry → List Sight
  looks_by_place before [] = []
  looks_by_place before (e ∷ es) = looked (sight_at (replay binds inputs nodes before) e) e.kind ++ looks_by_place (before ++ e ∷ []) es
