-- Streams as contracts see them.
--     seen streams    each with its bytes as a list
use Rattle.std.specs.Prelude.{ℕ, List, map, Vec}

-- each stream with its bytes as a list
abbrev pub seen : {A : Type 0} → List (ℕ × Vec ℕ A) → List (ℕ × List ℕ)
seen streams = map (λ stream. (stream.0, stream.1.items)) streams
