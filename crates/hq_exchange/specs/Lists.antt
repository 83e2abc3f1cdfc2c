-- Bytes by senders.
--     bytes_at lists n    the bytes at a place, or none
--     AreApart senders    no sender twice
use Rattle.std.specs.Prelude.{◌≡◌, ℕ, zero, suc, List, [], ◌∷◌, Some, Vec, slice_get}

-- the bytes at a place, or none
abbrev pub bytes_at : {A : Type 0} → List (Vec ℕ A) → ℕ → List ℕ
bytes_at [] n = []
bytes_at (x ∷ xs) zero = x.items
bytes_at (x ∷ xs) (suc n) = bytes_at xs n

-- no sender twice
abbrev pub AreApart : List ℕ → Type 0
AreApart senders = (i j n : ℕ) → slice_get senders i ≡ Some n → slice_get senders j ≡ Some n → i ≡ j
