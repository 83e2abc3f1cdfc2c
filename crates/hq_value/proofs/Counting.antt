-- Counts over several calls.
use Rattle.std.proofs.Common.{◌≡◌, ◌∙◌, ℕ, ◌+◌, ◌-◌, ◌^◌, ◌≤◌, min, refl, ap, arith}
use Rattle.hq_value.specs.Causes.{RoseBy, raised, IsSteady, GoesOn, GoesOnGiving}

-- up to any end
sum_below : (end before m n now new : ℕ) → min (before + m) end ≤ now → min (now + n) end ≤ new → min (before + (m + n)) end ≤ new
sum_below end before m n now new first next = omega arith

same_below : (end before m n : ℕ) → min (min (before + m) end + n) end ≡ min (before + (m + n)) end
same_below end before m n = omega arith

-- a rise by m and then one by n are one by both
pub rose_more : (before m n now new : ℕ) → RoseBy m before now → RoseBy n now new → RoseBy (m + n) before new
rose_more before m n now new = sum_below (2 ^ 64 - 1) before m n now new

-- m more and then n more are both more
pub raised_more : (before m n : ℕ) → raised (raised before m) n ≡ raised before (m + n)
raised_more before m n = same_below (2 ^ 64 - 1) before m n

-- no call
pub steady_still : {S : Type 0} (faults : S → ℕ) (sound : S → Type 0) (a : S) → IsSteady faults sound a a
steady_still faults sound a = record { later = omega arith; steady = λ s. refl; stays_sound = λ s. s }

pub goes_on_still : {S : Type 0} (faults given : S → ℕ) (sound : S → Type 0) (a : S) → GoesOn faults given sound a a
goes_on_still faults given sound a = record { later = omega arith; steady = λ s. refl; stays_sound = λ s. s; gave = refl }

-- one call after another
pub steady_more : {S : Type 0} (faults : S → ℕ) (sound : S → Type 0) (a b c : S) → IsSteady faults sound a b → IsSteady faults sound b c → IsSteady faults sound a c
steady_more faults sound a b c first next = record {
  later = omega (arith, first.later, next.later);
  steady = λ s. next.steady (first.stays_sound s) ∙ first.steady s;
  stays_sound = λ s. next.stays_sound (first.stays_sound s);
}

pub goes_on_more : {S : Type 0} (faults given : S → ℕ) (sound : S → Type 0) (a b c : S) → GoesOn faults given sound a b → GoesOn faults given sound b c → GoesOn faults given sound a c
goes_on_more faults given sound a b c first next = record {
  later = omega (arith, first.later, next.later);
  steady = λ s. next.steady (first.stays_sound s) ∙ first.steady s;
  stays_sound = λ s. next.stays_sound (first.stays_sound s);
  gave = next.gave ∙ first.gave;
}

pub giving_more : {S : Type 0} (faults given : S → ℕ) (sound : S → Type 0) (m n : ℕ) (a b c : S) → GoesOnGiving faults given sound m a b → GoesOnGiving faults given sound n b c → GoesOnGiving faults given sound (m + n) a c
giving_more faults given sound m n a b c first next = record {
  later = omega (arith, first.later, next.later);
  steady = λ s. next.steady (first.stays_sound s) ∙ first.steady s;
  stays_sound = λ s. next.stays_sound (first.stays_sound s);
  gave = next.gave ∙ ap (λ (g : ℕ). raised g n) first.gave ∙ raised_more (given a) m n;
}

-- a call that gave nothing behind one that gave n
pub giving_on : {S : Type 0} (faults given : S → ℕ) (sound : S → Type 0) (n : ℕ) (a b c : S) → GoesOnGiving faults given sound n a b → GoesOn faults given sound b c → GoesOnGiving faults given sound n a c
giving_on faults given sound n a b c first next = record {
  later = omega (arith, first.later, next.later);
  steady = λ s. next.steady (first.stays_sound s) ∙ first.steady s;
  stays_sound = λ s. next.stays_sound (first.stays_sound s);
  gave = next.gave ∙ first.gave;
}
