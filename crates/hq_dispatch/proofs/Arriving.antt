-- Rows read from bytes as these come.
use Rattle.std.proofs.Common.{◌≡◌, ◌+◌, ◌-◌, ◌<◌, ◌≤◌, ℕ, zero, suc, Bool, true, false, cond, nat_eq, List, [], ◌∷◌, ◌++◌, length, take, drop, filter, flat_map, slice_set, slice_index_or, refl, ap, sym, subst, ◌∙◌, append_assoc, append-nil, take-append-drop, length-drop, arith}
use Rattle.std.proofs.Math.Seq.{take-append_seam}
use Rattle.std.proofs.lemmas.Bool.{eqb-true, eqb-false}
use Rattle.std.specs.List.{AllByRecursion, range_with_len}
use Rattle.hq_value.specs.declared.kind.Kind.{Kind}
use Rattle.hq_value.specs.declared.value.Value.{Value}
use Rattle.hq_block.specs.Row.{IsStorable, IsRow, row_bytes}
use Rattle.hq_motion.specs.Bytes.{rows_bytes, AreRows}
use Rattle.hq_motion.proofs.Reading.{bytes-joined, one-reading}
use Rattle.hq_motion.proofs.Splitting.{up-more}
use Rattle.hq_recv.specs.Taking.{with_more}
use Rattle.hq_dispatch.specs.declared.arrivals.Arrival.{Arrival}
use Rattle.hq_dispatch.specs.Arrivals.{came, came_at, AreStorable}
use Rattle.hq_dispatch.proofs.Ranges.{flat-append}

-- rows of both lists
pub all-joined : {A : Type 0} (P : A → Type 0) (xs ys : List A) → AllByRecursion P xs → AllByRecursion P ys → AllByRecursion P (xs ++ ys)
all-joined P [] ys h g = g
all-joined P (x ∷ xs) ys h g = (h.0, all-joined P xs ys h.1 g)

-- a row read from the front of the bytes
pub one-read : (kinds : List Kind) (rows new : List (List Value)) (row : List Value) (len : ℕ) (bytes : List ℕ) → new ≡ rows ++ row ∷ [] → IsRow kinds row (take len bytes) → rows_bytes new ++ drop len bytes ≡ rows_bytes rows ++ bytes
one-read kinds rows new row len bytes is read =
    ap (λ (l : List (List Value)). rows_bytes l ++ drop len bytes) is
    ∙ ap (λ (b : List ℕ). b ++ drop len bytes) (bytes-joined rows (row ∷ []) ∙ ap (λ (b : List ℕ). rows_bytes rows ++ b) (append-nil (row_bytes row) ∙ sym read.spelled))
    ∙ append_assoc (rows_bytes rows) (take len bytes) (drop len bytes)
    ∙ ap (λ (b : List ℕ). rows_bytes rows ++ b) (take-append-drop len bytes)

pub one-storable : (kinds : List Kind) (rows new : List (List Value)) (row : List Value) (bytes : List ℕ) → new ≡ rows ++ row ∷ [] → IsRow kinds row bytes → AllByRecursion (IsStorable kinds) rows → AllByRecursion (IsStorable kinds) new
one-storable kinds rows new row bytes is read h = subst (AllByRecursion (IsStorable kinds)) (sym is) (all-joined (IsStorable kinds) rows (row ∷ []) h (read.storable, tt))

-- bytes dropped one after the other
pub drop-both : (i j : ℕ) (xs : List ℕ) → drop (i + j) xs ≡ drop j (drop i xs)
drop-both zero j xs = ap (λ (n : ℕ). drop n xs) (let e : 0 + j ≡ j = omega arith in e)
drop-both (suc i) j [] = ap (λ (n : ℕ). drop n (let l : List ℕ = [] in l)) (let e : suc i + j ≡ suc (i + j) = omega arith in e) ∙ sym (none j)
  where
    none : (j : ℕ) → drop j (let l : List ℕ = [] in l) ≡ []
    none zero = refl
    none (suc j) = refl
drop-both (suc i) j (x ∷ xs) = ap (λ (n : ℕ). drop n (x ∷ xs)) (let e : suc i + j ≡ suc (i + j) = omega arith in e) ∙ drop-both i j xs

-- the front turned behind the others, and cut off
pub front-gone : (count : ℕ) (xs : List ℕ) → take (length xs - count) (drop count xs ++ take count xs) ≡ drop count xs
front-gone count xs = ap (λ (n : ℕ). take n (drop count xs ++ take count xs)) (sym (length-drop count xs)) ∙ take-append_seam (drop count xs) (take count xs)

-- what came of the node at a place
pub none-there : (from : List Arrival) (n : ℕ) → length from ≤ n → came_at from n ≡ []
none-there [] n le = refl
none-there (a ∷ from) zero le = absurd (omega (arith, le))
none-there (a ∷ from) (suc n) le = none-there from n (omega (arith, le))

pub here-at : (from : List Arrival) (i : ℕ) (d : Arrival) → i < length from → came (slice_index_or from i d) ≡ came_at from i
here-at [] i d lt = absurd (omega (arith, lt))
here-at (a ∷ from) zero d lt = refl
here-at (a ∷ from) (suc i) d lt = here-at from i d (omega (arith, lt))

pub read-here : (from : List Arrival) (i : ℕ) (a : Arrival) → i < length from → a ≡ slice_index_or from i a → came a ≡ came_at from i
read-here from i a lt e = ap came e ∙ here-at from i a lt

pub set-here : (from : List Arrival) (i : ℕ) (a : Arrival) → i < length from → came_at (slice_set from i a) i ≡ came a
set-here [] i a lt = absurd (omega (arith, lt))
set-here (x ∷ from) zero a lt = refl
set-here (x ∷ from) (suc i) a lt = set-here from i a (omega (arith, lt))

pub set-others : (from : List Arrival) (i n : ℕ) (a : Arrival) → (n ≡ i → ⊥) → came_at (slice_set from i a) n ≡ came_at from n
set-others [] i n a differ = refl
set-others (x ∷ from) zero zero a differ = absurd (differ refl)
set-others (x ∷ from) zero (suc n) a differ = refl
set-others (x ∷ from) (suc i) zero a differ = refl
set-others (x ∷ from) (suc i) (suc n) a differ = set-others from i n a (λ e. differ (ap suc e))

-- more bytes of one node
pub set-more : (from : List Arrival) (i : ℕ) (a : Arrival) (bytes : List ℕ) → i < length from → came a ≡ came_at from i ++ bytes → (n : ℕ) → came_at (slice_set from i a) n ≡ with_more (came_at from) i bytes n
set-more from i a bytes lt e n = by (nat_eq n i) refl
  where
    by : (b : Bool) → nat_eq n i ≡ b → came_at (slice_set from i a) n ≡ cond b (came_at from n ++ bytes) (came_at from n)
    by true f =
        let same : n ≡ i = eqb-true n i f in
        ap (came_at (slice_set from i a)) same ∙ set-here from i a lt ∙ e ∙ ap (λ (m : ℕ). came_at from m ++ bytes) (sym same)
    by false f = set-others from i n a (eqb-false n i f)

-- nothing more of it
pub set-same : (from : List Arrival) (i : ℕ) (a : Arrival) → i < length from → came a ≡ came_at from i → (n : ℕ) → came_at (slice_set from i a) n ≡ came_at from n
set-same from i a lt e n = by (nat_eq n i) refl
  where
    by : (b : Bool) → nat_eq n i ≡ b → came_at (slice_set from i a) n ≡ came_at from n
    by true f =
        let same : n ≡ i = eqb-true n i f in
        ap (came_at (slice_set from i a)) same ∙ set-here from i a lt ∙ e ∙ ap (came_at from) (sym same)
    by false f = set-others from i n a (eqb-false n i f)

-- the rows at a place can be written, and stay so
pub storable-at : (kinds : List Kind) (from : List Arrival) (i : ℕ) (a : Arrival) → AreStorable kinds from → i < length from → a ≡ slice_index_or from i a → AllByRecursion (IsStorable kinds) a.rows.items
storable-at kinds [] i a h lt e = absurd (omega (arith, lt))
storable-at kinds (x ∷ from) zero a h lt e = subst (λ (b : Arrival). AllByRecursion (IsStorable kinds) b.rows.items) (sym e) h.0
storable-at kinds (x ∷ from) (suc i) a h lt e = storable-at kinds from i a h.1 (omega (arith, lt)) e

pub storable-set : (kinds : List Kind) (from : List Arrival) (i : ℕ) (a : Arrival) → AreStorable kinds from → AllByRecursion (IsStorable kinds) a.rows.items → AreStorable kinds (slice_set from i a)
storable-set kinds [] i a h g = tt
storable-set kinds (x ∷ from) zero a h g = (g, h.1)
storable-set kinds (x ∷ from) (suc i) a h g = (h.0, storable-set kinds from i a h.1 g)

-- one more node of which nothing came
pub came-more : (from new : List Arrival) (a : Arrival) → new ≡ from ++ a ∷ [] → came a ≡ [] → ((n : ℕ) → came_at from n ≡ []) → (n : ℕ) → came_at new n ≡ []
came-more from new a is none before n = ap (λ (l : List Arrival). came_at l n) is ∙ by from n before
  where
    by : (from : List Arrival) (n : ℕ) → ((n : ℕ) → came_at from n ≡ []) → came_at (from ++ a ∷ []) n ≡ []
    by [] zero before = none
    by [] (suc n) before = refl
    by (x ∷ from) zero before = before zero
    by (x ∷ from) (suc n) before = by from n (λ m. before (suc m))

pub storable-more : (kinds : List Kind) (from new : List Arrival) (a : Arrival) → new ≡ from ++ a ∷ [] → a.rows.items ≡ [] → AreStorable kinds from → AreStorable kinds new
storable-more kinds from new a is none h =
    subst (AreStorable kinds) (sym is) (all-joined (λ (x : Arrival). AllByRecursion (IsStorable kinds) x.rows.items) from (a ∷ []) h (subst (AllByRecursion (IsStorable kinds)) (sym none) tt, tt))

-- the next of them
pub came-here : (from : List Arrival) (n : ℕ) (a : Arrival) (rest : List Arrival) → drop n from ≡ a ∷ rest → came_at from n ≡ came a
came-here [] zero a rest h = cc
came-here [] (suc n) a rest h = cc
came-here (x ∷ from) zero a rest h = let e : x ≡ a = cc in ap came e
came-here (x ∷ from) (suc n) a rest h = came-here from n a rest h

pub rest-there : (from : List Arrival) (n : ℕ) (a : Arrival) (rest : List Arrival) → drop n from ≡ a ∷ rest → rest ≡ drop (n + 1) from
rest-there from n a rest h = let one : suc n ≡ n + 1 = omega arith in by from n h ∙ ap (λ (m : ℕ). drop m from) one
  where
    by : (ls : List Arrival) (n : ℕ) → drop n ls ≡ a ∷ rest → rest ≡ drop (suc n) ls
    by [] zero h = cc
    by [] (suc n) h = cc
    by (l ∷ ls) zero h = let e : ls ≡ rest = cc in sym e
    by (l ∷ ls) (suc n) h = by ls n h

-- the rows of one node more
pub sender-more : (kinds : List Kind) (from : List Arrival) (given : ℕ → List (List Value)) (sends : ℕ → Bool) (n : ℕ) (a : Arrival) (rest : List Arrival) (all new : List (List Value))
    → n < 16 → drop n from ≡ a ∷ rest
    → ((rows : List (List Value)) → (sends n ≡ true → AreRows kinds rows (came a)) → new ≡ all ++ cond (sends n) rows [])
    → all ≡ flat_map given (filter sends (range_with_len 0 n)) → ((m : ℕ) → m < 16 → sends m ≡ true → AreRows kinds (given m) (came_at from m))
    → new ≡ flat_map given (filter sends (range_with_len 0 (n + 1)))
sender-more kinds from given sends n a rest all new within here is before each =
    is (given n) (λ e. subst (AreRows kinds (given n)) (came-here from n a rest here) (each n within e))
    ∙ ap (λ (l : List (List Value)). l ++ cond (sends n) (given n) []) before
    ∙ by (sends n)
    ∙ sym (flat-append given (filter sends (range_with_len 0 n)) (cond (sends n) (n ∷ []) []))
    ∙ ap (flat_map given) (sym (up-more sends n))
  where
    by : (b : Bool) → flat_map given (filter sends (range_with_len 0 n)) ++ cond b (given n) [] ≡ flat_map given (filter sends (range_with_len 0 n)) ++ flat_map given (cond b (n ∷ []) [])
    by true = ap (λ (l : List (List Value)). flat_map given (filter sends (range_with_len 0 n)) ++ l) (sym (append-nil (given n)))
    by false = refl

-- one row more was read
pub next-row : (start rows new : List (List Value)) (at len : ℕ) (bytes rest : List ℕ) → rest ≡ drop at bytes → rows_bytes new ++ drop len rest ≡ rows_bytes rows ++ rest → rows_bytes rows ++ drop at bytes ≡ rows_bytes start ++ bytes
    → rows_bytes new ++ drop (at + len) bytes ≡ rows_bytes start ++ bytes
next-row start rows new at len bytes rest is read before =
    ap (λ (b : List ℕ). rows_bytes new ++ b) (drop-both at len bytes ∙ ap (drop len) (sym is)) ∙ read ∙ ap (λ (b : List ℕ). rows_bytes rows ++ b) is ∙ before

-- nothing came
pub came-none : (a : Arrival) → a.rows.items ≡ [] → a.rest.items ≡ [] → came a ≡ []
came-none a rows rest = λ i. rows_bytes (rows i) ++ rest i

-- where no more is left, all that came is rows
pub all-rows : (kinds : List Kind) (a : Arrival) → a.rest.items ≡ [] → AllByRecursion (IsStorable kinds) a.rows.items → AreRows kinds a.rows.items (came a)
all-rows kinds a none h = record { storable = h; spelled = ap (λ (b : List ℕ). rows_bytes a.rows.items ++ b) none ∙ append-nil (rows_bytes a.rows.items) }

-- the rows of a sender behind the others
pub rows-added : (kinds : List Kind) (all new rows : List (List Value)) (a : Arrival) (sends : Bool) → sends ≡ true → 0 < length kinds → AreRows kinds rows (came a) → new ≡ all ++ rows → (given : List (List Value)) → (sends ≡ true → AreRows kinds given (came a)) → new ≡ all ++ cond sends given []
rows-added kinds all new rows a sends on some read is given h =
    is ∙ ap (λ (l : List (List Value)). all ++ l) (one-reading kinds rows given (came a) some read (h on)) ∙ ap (λ (b : Bool). all ++ cond b given []) (sym on)
