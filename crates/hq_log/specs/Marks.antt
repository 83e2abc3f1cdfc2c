-- Which nodes are marked up, as the log leaves it.
--     marks nodes log             of each node, whether it is up
--     marks_before nodes log p    the same before place p of the log
use Rattle.std.specs.Prelude.{ℕ, Bool, true, List, length, take, slice_set, replicate, fold}
use Rattle.hq_value.specs.declared.entry.Entry.{Entry}
use Rattle.hq_value.specs.declared.entry.EntryKind.{EntryKind}
use Rattle.hq_value.specs.declared.entry.EntryKind.TheVariants as entry

-- the marks after an entry
abbrev pub marks_after : List Bool → EntryKind → List Bool
marks_after marks (entry.Mark node up) = slice_set marks node up
marks_after marks entry.Restart = replicate (length marks) true
marks_after marks _ = marks

-- all nodes up, changed by the entries
abbrev pub marks : ℕ → List Entry → List Bool
marks nodes log = fold (λ marks e. marks_after marks e.kind) (replicate nodes true) log

-- the same by the entries before place p
abbrev pub marks_before : ℕ → List Entry → ℕ → List Bool
marks_before nodes log p = marks nodes (take p log)
