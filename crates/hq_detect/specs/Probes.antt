-- Checks of all hosts at once.
--     has_bit word n           bit n of a word, counted from the least significant, is 1
--     IsProbed old new yes     a host was checked, and the answer says whether it was found
--     AreProbed olds news word the same of each node, bit n being that of node n
use Rattle.std.specs.Prelude.{◌≡◌, ℕ, zero, suc, ◌<◌, ◌≤◌, ◌/◌, ◌%◌, ◌==◌, Bool, true, false, List, length, slice_index_or}
use Rattle.hq_value.specs.Causes.{Rose}
use Rattle.hq_detect.specs.declared.bench.Bench.{Bench}

-- bit n of a word, counted from the least significant, is 1
abbrev pub has_bit : ℕ → ℕ → Bool
has_bit word zero = word % 2 == 1
has_bit word (suc n) = has_bit (word / 2) n

-- the node's host was checked and nothing else changed: it is found, or else its count of faults rose
pub record IsProbed {S H L : Type 0} (checks faults : H → ℕ) (sound : H → Type 0) (old new : Bench S H L) (found : Bool) : Type 0 where
  pub store : new.store ≡ old.store
  pub link : new.link ≡ old.link
  pub checked : Rose (checks old.host) (checks new.host)
  pub failed : found ≡ false → Rose (faults old.host) (faults new.host)
  pub held : found ≡ true → faults new.host ≡ faults old.host
  pub never_falls : faults old.host ≤ faults new.host
  pub steady : found ≡ false → sound old.host → ⊥
  pub stays_sound : sound old.host → sound new.host

-- the same of each node, bit n being that of node n
abbrev pub AreProbed : {S H L : Type 0} → (H → ℕ) → (H → ℕ) → (H → Type 0) → List (Bench S H L) → List (Bench S H L) → ℕ → Type 0
AreProbed checks faults sound olds news word =
    (n : ℕ) (none : _) → n < length olds → IsProbed checks faults sound (slice_index_or olds n none) (slice_index_or news n none) (has_bit word n)
