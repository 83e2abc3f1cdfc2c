-- The definitions at small values.
use Rattle.std.proofs.Common.{◌≡◌, ℕ, ◌<◌, List, [], ◌∷◌, true, false, Some, None, length, get_or, refl, ap, arith, lit<, lit≤}
use Rattle.hq_value.specs.declared.entry.FileId.{FileId}
use Rattle.hq_store.specs.FileStep.{FileState, IsTornAt, IsCut}
use Rattle.hq_store.specs.MemPlan.{MemState, next_tail, NoFailureLeft}
use Rattle.hq_store.specs.Pages.{bytes_in, IsRunAt}

-- the second call leaves 10 bytes, and the third fails too
abbrev client : ℕ → MemState
client calls = record {
  plan = record { call = 2; tail = 10 } ∷ record { call = 3; tail = 0 } ∷ [];
  calls = calls;
  faults = 0;
  given = 0;
}

first : next_tail (client 0) ≡ None
first = refl

second : next_tail (client 1) ≡ Some 10
second = refl

third : next_tail (client 2) ≡ Some 0
third = refl

fourth : next_tail (client 3) ≡ None
fourth = refl

-- the third call is still to come
one_left : NoFailureLeft (client 2) → ⊥
one_left left = let late : 3 < 3 = left 1 (record { call = 0; tail = 0 }) (lit< tt) in omega arith

here : FileId
here = record { table = 0; lane = 0; bucket = 15 }

-- a file of three bytes
abbrev three : FileState
three = record { id = here; bytes = 1 ∷ 2 ∷ 3 ∷ []; sure = 3; sealed = 0; flushed = false }

-- its first two bytes, and another one
abbrev torn : FileState
torn = record { id = here; bytes = 1 ∷ 2 ∷ 9 ∷ []; sure = 2; sealed = 0; flushed = false }

is_torn : IsTornAt true three 2 torn
is_torn = record { id = refl; bytes = λ t. refl; long = λ t. lit≤ tt; sure = refl; sealed = refl; flushed = refl }

-- lists of two lengths are two
not_as_long : (xs ys : List ℕ) → xs ≡ ys → length ys < length xs → ⊥
not_as_long xs ys same longer = let equal : length xs ≡ length ys = ap length same in omega arith

-- a cut leaves no third byte
is_not_cut : IsCut true three 2 torn → ⊥
is_not_cut cut = not_as_long torn.bytes (1 ∷ 2 ∷ []) (cut.bytes refl) (lit< tt)

-- a group of two pages, a page, a run and a byte that is not shared
in_order : bytes_in (((1 ∷ 2 ∷ []) ∷ (3 ∷ 4 ∷ []) ∷ []) ∷ []) ((5 ∷ 6 ∷ []) ∷ []) ((7 ∷ []) ∷ []) (8 ∷ []) ≡ 1 ∷ 2 ∷ 3 ∷ 4 ∷ 5 ∷ 6 ∷ 7 ∷ 8 ∷ []
in_order = refl

is_run : IsRunAt (1 ∷ 2 ∷ 3 ∷ []) 1 (2 ∷ 3 ∷ [])
is_run = refl

-- its second byte is another
is_no_run : IsRunAt (1 ∷ 2 ∷ 3 ∷ []) 1 (2 ∷ 4 ∷ []) → ⊥
is_no_run run = let second : ℕ = 3 in let same : second ≡ 4 = ap (λ (bytes : List ℕ). get_or bytes 1 0) run in omega arith
