-- Rows go to the lists of their receivers.
use Rattle.std.proofs.Common.{◌≡◌, ◌==◌, ◌+◌, ◌<◌, ◌≤◌, ℕ, zero, suc, Bool, true, false, cond, List, [], ◌∷◌, ◌++◌, length, take, filter, map, slice_set, slice_index_or, refl, ap, sym, subst, ◌∙◌, append-nil, arith}
use Rattle.std.specs.Prelude.{Vec}
use Rattle.std.proofs.lemmas.List.{map-append, take_more}
use Rattle.std.specs.List.{range_with_len}
use Rattle.std.proofs.lemmas.Bool.{eqb-true, eqb-false}
use Rattle.std.proofs.lemmas.Bool.Decides.{nat_tests}
use Rattle.std.proofs.lemmas.List.Elements.{filter-append}
use Rattle.hq_block.specs.Row.{row_bytes}
use Rattle.hq_algebra.specs.declared.plan.Motion.{Motion}
use Rattle.hq_algebra.specs.declared.plan.Motion.TheVariants as motion
use Rattle.hq_meaning.specs.Rows.{Row}
use Rattle.hq_meaning.specs.Nodes.{moved, lowest}
use Rattle.hq_motion.specs.Bytes.{rows_bytes}
use Rattle.hq_motion.proofs.Reading.{bytes-joined}
use Rattle.hq_motion.proofs.Splitting.{up-more}
use Rattle.hq_pump.specs.Seen.{seen}
use Rattle.hq_dispatch.specs.declared.parcels.Parcels.{Parcels}
use Rattle.hq_dispatch.specs.Parcels.{place_of, list_of, bytes_at, parcel_at, HasParcels}

-- past the end there is none
pub none_there : {A : Type 0} (xs : List (Vec ℕ A)) (n : ℕ) → length xs ≤ n → bytes_at xs n ≡ []
none_there [] n le = refl
none_there (x ∷ xs) zero le = absurd (omega (arith, le))
none_there (x ∷ xs) (suc n) le = none_there xs n (omega (arith, le))

-- the list that stands at a place
pub at_place : {A : Type 0} (xs : List (Vec ℕ A)) (i : ℕ) (d : Vec ℕ A) → i < length xs → (slice_index_or xs i d).items ≡ bytes_at xs i
at_place [] i d lt = absurd (omega (arith, lt))
at_place (x ∷ xs) zero d lt = refl
at_place (x ∷ xs) (suc i) d lt = at_place xs i d (omega (arith, lt))

-- what an index reads
pub read_at : {A : Type 0} (xs : List (Vec ℕ A)) (i : ℕ) (v : Vec ℕ A) → i < length xs → v ≡ slice_index_or xs i v → v.items ≡ bytes_at xs i
read_at {A} xs i v lt e = ap (λ (w : Vec ℕ A). w.items) e ∙ at_place xs i v lt

-- another list at a place
pub set_there : {A : Type 0} (xs : List (Vec ℕ A)) (i : ℕ) (y : Vec ℕ A) → i < length xs → bytes_at (slice_set xs i y) i ≡ y.items
set_there [] i y lt = absurd (omega (arith, lt))
set_there (x ∷ xs) zero y lt = refl
set_there (x ∷ xs) (suc i) y lt = set_there xs i y (omega (arith, lt))

pub set_others : {A : Type 0} (xs : List (Vec ℕ A)) (i n : ℕ) (y : Vec ℕ A) → (n ≡ i → ⊥) → bytes_at (slice_set xs i y) n ≡ bytes_at xs n
set_others [] i n y differ = refl
set_others (x ∷ xs) zero zero y differ = absurd (differ refl)
set_others (x ∷ xs) zero (suc n) y differ = refl
set_others (x ∷ xs) (suc i) zero y differ = refl
set_others (x ∷ xs) (suc i) (suc n) y differ = set_others xs i n y (λ e. differ (ap suc e))

-- one empty list more
pub one_made : {A : Type 0} (xs : List (Vec ℕ A)) (x : Vec ℕ A) (n : ℕ) → x.items ≡ [] → bytes_at (xs ++ x ∷ []) n ≡ bytes_at xs n
one_made [] x zero e = e
one_made [] x (suc n) e = refl
one_made (y ∷ ys) x zero e = refl
one_made (y ∷ ys) x (suc n) e = one_made ys x n e

pub made_same : {A : Type 0} (xs new : List (Vec ℕ A)) (x : Vec ℕ A) → new ≡ xs ++ x ∷ [] → x.items ≡ [] → (n : ℕ) → bytes_at new n ≡ bytes_at xs n
made_same {A} xs new x is e n = ap (λ (l : List (Vec ℕ A)). bytes_at l n) is ∙ one_made xs x n e

-- with one row more
pub row-more : {A : Type 0} (out : Motion) (owner : List ℕ) (row : Row) (old new : List (Vec ℕ A)) (k : ℕ) → k ≡ place_of out owner row
    → bytes_at new k ≡ bytes_at old k ++ row_bytes row → ((n : ℕ) → (n ≡ k → ⊥) → bytes_at new n ≡ bytes_at old n)
    → (rows : List Row) → HasParcels out owner rows old → HasParcels out owner (rows ++ row ∷ []) new
row-more out owner row old new k is here others rows has = λ n within.
    let goes : List Row → List Row = filter (λ r. place_of out owner r == n) in
    let split : rows_bytes (goes (rows ++ row ∷ [])) ≡ rows_bytes (goes rows) ++ rows_bytes (goes (row ∷ [])) =
    ap rows_bytes (filter-append (λ r. place_of out owner r == n) rows (row ∷ [])) ∙ bytes-joined (goes rows) (goes (row ∷ [])) in
    let by : (b : Bool) → (place_of out owner row == n) ≡ b → bytes_at new n ≡ bytes_at old n ++ rows_bytes (cond b (row ∷ []) []) = λ b e. elim b as (λ b. (place_of out owner row == n) ≡ b → bytes_at new n ≡ bytes_at old n ++ rows_bytes (cond b (row ∷ []) [])) [
      | true ↦ λ e.
          let same : k ≡ n = is ∙ eqb-true (place_of out owner row) n e in
          subst (λ m. bytes_at new m ≡ bytes_at old m ++ rows_bytes (row ∷ [])) same (here ∙ ap (λ (l : List ℕ). bytes_at old k ++ l) (sym (append-nil (row_bytes row))))
      | false ↦ λ e.
          others n (λ same. eqb-false (place_of out owner row) n e (sym is ∙ sym same)) ∙ sym (append-nil (bytes_at old n))
    ] e in
    by (place_of out owner row == n) refl ∙ ap (λ (l : List ℕ). l ++ rows_bytes (goes (row ∷ []))) (has n within) ∙ sym split

-- no rows
pub no-rows : {A : Type 0} (out : Motion) (owner : List ℕ) (lists : List (Vec ℕ A)) → ((n : ℕ) → bytes_at lists n ≡ []) → HasParcels out owner [] lists
no-rows out owner lists none n within = none n

-- all rows pass a test that always holds
pub all-pass : (rows : List Row) → filter (λ row. true) rows ≡ rows
all-pass [] = refl
all-pass (row ∷ rows) = ap (λ (l : List Row). row ∷ l) (all-pass rows)

-- the lists of a sender
pub parcel-here : (parcels : List Parcels) (s k : ℕ) (p : Parcels) → s < length parcels → p ≡ slice_index_or parcels s p → bytes_at p.lists.items k ≡ parcel_at parcels s k
parcel-here [] s k p lt e = absurd (omega (arith, lt))
parcel-here (x ∷ parcels) zero k p lt e = ap (λ (q : Parcels). bytes_at q.lists.items k) e
parcel-here (x ∷ parcels) (suc s) k p lt e = parcel-here parcels s k p (omega (arith, lt)) e

-- the stream of one node more
pub stream-more : {A : Type 0} (streams new : List (ℕ × Vec ℕ A)) (sends : ℕ → Bool) (f : ℕ → List ℕ) (n : ℕ) → seen new ≡ seen streams ++ cond (sends n) ((n, f n) ∷ []) []
    → seen streams ≡ map (λ s. (s, f s)) (filter sends (range_with_len 0 n)) → seen new ≡ map (λ s. (s, f s)) (filter sends (range_with_len 0 (n + 1)))
stream-more {A} streams new sends f n is before =
    is ∙ ap (λ (l : List (ℕ × List ℕ)). l ++ cond (sends n) ((n, f n) ∷ []) []) before
    ∙ by (sends n)
    ∙ sym (map-append (λ s. (s, f s)) (filter sends (range_with_len 0 n)) (cond (sends n) (n ∷ []) []))
    ∙ ap (map (λ s. (s, f s))) (sym (up-more sends n))
  where
    by : (b : Bool) → map (λ s. (s, f s)) (filter sends (range_with_len 0 n)) ++ cond b ((n, f n) ∷ []) [] ≡ map (λ s. (s, f s)) (filter sends (range_with_len 0 n)) ++ map {B = ℕ × List ℕ} (λ s. (s, f s)) (cond b (n ∷ []) [])
    by true = refl
    by false = refl

-- a stream behind the others
pub stream-added : {A : Type 0} (streams new : List (ℕ × Vec ℕ A)) (sender : ℕ) (bytes : Vec ℕ A) (is : List ℕ) (sends : Bool) → sends ≡ true → new ≡ streams ++ (sender, bytes) ∷ [] → bytes.items ≡ is → seen new ≡ seen streams ++ cond sends ((sender, is) ∷ []) []
stream-added {A} streams new sender bytes is sends on e same =
    ap (λ (l : List (ℕ × Vec ℕ A)). seen l) e ∙ map-append (λ (stream : ℕ × Vec ℕ A). (stream.0, stream.1.items)) streams ((sender, bytes) ∷ []) ∙ (λ k. seen streams ++ (sender, same k) ∷ [])
    ∙ ap (λ (b : Bool). seen streams ++ cond b ((sender, is) ∷ []) []) (sym on)

-- a motion by which node n gets rows
abbrev pub Gets : Motion → List ℕ → ℕ → Type 0
Gets motion.Gather owner n = n ≡ lowest owner
Gets motion.Broadcast owner n = Unit {0}
Gets (motion.Redistribute keys) owner n = Unit {0}
Gets motion.Result owner n = ⊥

-- what a receiver gets of a sender is the bytes of the rows that go to it
pub stream-is : {A : Type 0} (out : Motion) (owner : List ℕ) (rows : List Row) (lists : List (Vec ℕ A)) (n : ℕ) → HasParcels out owner rows lists → n < 16 → Gets out owner n → bytes_at lists (list_of out n) ≡ rows_bytes (moved out owner rows n)
stream-is motion.Gather owner rows lists n has within gets =
    has 0 (omega arith) ∙ ap rows_bytes (all-pass rows ∙ ap (λ (b : Bool). cond b rows []) (sym (same n (lowest owner) gets)))
  where
    same : (m n : ℕ) → m ≡ n → (m == n) ≡ true
    same m n e = grind (arith, nat_tests)
stream-is motion.Broadcast owner rows lists n has within gets = has 0 (omega arith) ∙ ap rows_bytes (all-pass rows)
stream-is (motion.Redistribute keys) owner rows lists n has within gets = has n within
stream-is motion.Result owner rows lists n has within gets = absurd gets

-- the rows up to one more
pub take-row : (rows : List Row) (i : ℕ) (row : Row) → i < length rows → row ≡ slice_index_or rows i row → take (i + 1) rows ≡ take i rows ++ row ∷ []
take-row rows i row lt is = take_more rows i row lt ∙ ap (λ (r : Row). take i rows ++ r ∷ []) (sym is)
