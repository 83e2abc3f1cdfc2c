-- Lists of bytes at places.
use Rattle.std.proofs.Common.{◌≡◌, ℕ, zero, suc, ◌<◌, ◌≤◌, Bool, true, false, cond, nat_eq, List, [], ◌∷◌, ◌++◌, length, Result, Ok, Err, refl, sym, ap, ◌∙◌, arith}
use Rattle.std.specs.Prelude.{Vec, ◌≢◌, OnErr, slice_set, slice_index_or}
use Rattle.std.proofs.lemmas.Bool.{eqb-true, eqb-false}
use Rattle.hq_recv.specs.Taking.{with_more}
use Rattle.hq_exchange.specs.Lists.{bytes_at}

-- an empty list behind them changes none
pub one_made : {A : Type 0} (xs : List (Vec ℕ A)) (x : Vec ℕ A) (n : ℕ) → x.items ≡ [] → bytes_at (xs ++ x ∷ []) n ≡ bytes_at xs n
one_made [] x zero e = e
one_made [] x (suc n) e = refl
one_made (y ∷ ys) x zero e = refl
one_made (y ∷ ys) x (suc n) e = one_made ys x n e

-- past the end there is none
pub none_there : {A : Type 0} (xs : List (Vec ℕ A)) (n : ℕ) → length xs ≤ n → bytes_at xs n ≡ []
none_there [] n le = refl
none_there (x ∷ xs) zero le = absurd (omega (arith, le))
none_there (x ∷ xs) (suc n) le = none_there xs n (omega (arith, le))

-- the list that stands at a place
pub at_place : {A : Type 0} (xs : List (Vec ℕ A)) (i : ℕ) (d : Vec ℕ A) → i < length xs → (slice_index_or xs i d).items ≡ bytes_at xs i
at_place [] i d lt = absurd (omega (arith, lt))
at_place (x ∷ xs) zero d lt = refl
at_place (x ∷ xs) (suc i) d lt = at_place xs i d (omega (arith, lt))

-- another list at a place
pub set_there : {A : Type 0} (xs : List (Vec ℕ A)) (i : ℕ) (y : Vec ℕ A) → i < length xs → bytes_at (slice_set xs i y) i ≡ y.items
set_there [] i y lt = absurd (omega (arith, lt))
set_there (x ∷ xs) zero y lt = refl
set_there (x ∷ xs) (suc i) y lt = set_there xs i y (omega (arith, lt))

pub set_others : {A : Type 0} (xs : List (Vec ℕ A)) (i n : ℕ) (y : Vec ℕ A) → n ≢ i → bytes_at (slice_set xs i y) n ≡ bytes_at xs n
set_others [] i n y differ = refl
set_others (x ∷ xs) zero zero y differ = absurd (differ refl)
set_others (x ∷ xs) zero (suc n) y differ = refl
set_others (x ∷ xs) (suc i) zero y differ = refl
set_others (x ∷ xs) (suc i) (suc n) y differ = set_others xs i n y (λ e. differ (ap suc e))

-- the same list at a place
pub set_same : {A : Type 0} (xs : List (Vec ℕ A)) (i n : ℕ) (y : Vec ℕ A) → y.items ≡ bytes_at xs i → bytes_at (slice_set xs i y) n ≡ bytes_at xs n
set_same [] i n y e = refl
set_same (x ∷ xs) zero zero y e = e
set_same (x ∷ xs) zero (suc n) y e = refl
set_same (x ∷ xs) (suc i) zero y e = refl
set_same (x ∷ xs) (suc i) (suc n) y e = set_same xs i n y e

-- what an index reads
pub read_at : {A : Type 0} (xs : List (Vec ℕ A)) (i : ℕ) (v : Vec ℕ A) → i < length xs → v ≡ slice_index_or xs i v → v.items ≡ bytes_at xs i
read_at {A} xs i v lt e = ap (λ (w : Vec ℕ A). w.items) e ∙ at_place xs i v lt

-- more bytes at a place
pub appended : {A : Type 0} (xs : List (Vec ℕ A)) (i n : ℕ) (y : Vec ℕ A) (bytes : List ℕ) → i < length xs → y.items ≡ bytes_at xs i ++ bytes → bytes_at (slice_set xs i y) n ≡ with_more (bytes_at xs) i bytes n
appended {A} xs i n y bytes lt e = by (nat_eq n i) refl
  where
    by : (b : Bool) → nat_eq n i ≡ b → bytes_at (slice_set xs i y) n ≡ cond b (bytes_at xs n ++ bytes) (bytes_at xs n)
    by true f =
        let same : n ≡ i = eqb-true n i f in
        ap (bytes_at (slice_set xs i y)) same ∙ set_there xs i y lt ∙ e ∙ ap (λ (m : ℕ). bytes_at xs m ++ bytes) (sym same)
    by false f = set_others xs i n y (eqb-false n i f)

-- one empty list more
pub made_more : {A : Type 0} (xs new : List (Vec ℕ A)) (x : Vec ℕ A) (n : ℕ) → new ≡ xs ++ x ∷ [] → x.items ≡ [] → bytes_at new n ≡ bytes_at xs n
made_more {A} xs new x n is e = ap (λ (l : List (Vec ℕ A)). bytes_at l n) is ∙ one_made xs x n e

-- what holds holds on an error
pub on_error : {X E : Type 0} (r : Result X E) (P : Type 0) → P → OnErr r P
on_error (Ok x) P p = tt
on_error (Err e) P p = p
