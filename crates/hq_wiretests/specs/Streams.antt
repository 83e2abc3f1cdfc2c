-- Streams of the tests.
--     GoDown first streams    they are from that node and those below it
use Rattle.std.specs.Prelude.{◌≡◌, ℕ, ◌+◌, List, Some, Vec, slice_get}

-- they are from that node and those below it
abbrev pub GoDown : {A : Type 0} → ℕ → List (ℕ × Vec ℕ A) → Type 0
GoDown {A} first streams = (i : ℕ) (x : ℕ × Vec ℕ A) → slice_get streams i ≡ Some x → x.0 + i ≡ first
