-- What passes know, and how each step changes it.
--     first_view first fixed log     pass 0 once the lock is open over a value with this history
--     with_more v, made_by v         pass 0 after it made a pass, and that pass
--     entered v log                  a pass once it has the turn and sees this history
--     noted_by v log, left_by v log  the same once it noted this history, and once it left
--     with_ended v w                 pass 0 after it took back w
use Rattle.std.specs.Prelude.{ℕ, ◌+◌, true, false, List, [], ◌∷◌, ◌++◌, length, drop, nat_le, if◌then◌else◌}
use Rattle.hq_history.specs.declared.noted.Noted.{Noted}
use Rattle.hq_history.specs.History.{by}
use Rattle.hq_histlock.specs.declared.view.View.{View}
use Rattle.hq_histlock.specs.declared.view.Ended.{Ended}

-- pass 0 before the value is in the lock: it has the turn, and takes the empty slot
abbrev pub raw_view : ℕ → View
raw_view first = record { number = 0; live = true; turn = false; chief = true; raw = true; fixed = 0; first = first; next = first; opened = []; seen = []; mine = []; ended = [] }

-- pass 0 once the value that it put in is noted
abbrev pub started : ℕ → ℕ → List Noted → View
started first fixed log = record { number = 0; live = true; turn = true; chief = true; raw = false; fixed = fixed; first = first; next = first; opened = log; seen = log; mine = by 0 log; ended = [] }

-- pass 0 once the lock is open
abbrev pub first_view : ℕ → ℕ → List Noted → View
first_view first fixed log = record (started first fixed log) { turn = false }

-- pass 0 after it made a pass
abbrev pub with_more : View → View
with_more v = record v { next = v.next + 1 }

-- the pass that it made: it has seen what pass 0 had
abbrev pub made_by : View → View
made_by v = record { number = v.next; live = true; turn = false; chief = false; raw = false; fixed = v.fixed; first = 0; next = 0; opened = []; seen = v.seen; mine = []; ended = [] }

-- it won the turn, and sees the history
abbrev pub entered : View → List Noted → View
entered v log = record v { turn = true; seen = log }

-- what this history has more than was seen is its own
abbrev pub noted_by : View → List Noted → View
noted_by v log = record v { seen = log; mine = v.mine ++ drop (length v.seen) log }

-- the same, and the turn is free
abbrev pub left_by : View → List Noted → View
left_by v log = record (noted_by v log) { turn = false }

abbrev pub longer : List Noted → List Noted → List Noted
longer one other = if nat_le (length one) (length other) then other else one

-- what pass 0 keeps of a pass that it takes back
abbrev pub ended_of : View → View → Ended
ended_of v w = record { number = w.number; entries = w.mine; seen = w.seen; before = v.seen }

-- pass 0 after it took back a pass: it has seen the longer of the two
abbrev pub with_ended : View → View → View
with_ended v w = record v { seen = longer v.seen w.seen; ended = v.ended ++ ended_of v w ∷ [] }

-- what is left of a pass that was taken back
abbrev pub spent_view : View
spent_view = record { number = 0; live = false; turn = false; chief = false; raw = false; fixed = 0; first = 0; next = 0; opened = []; seen = []; mine = []; ended = [] }
