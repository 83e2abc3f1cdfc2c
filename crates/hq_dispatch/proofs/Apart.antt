-- Streams of the senders, ascending.
use Rattle.std.proofs.Common.{◌≡◌, ◌==◌, ◌+◌, ◌<◌, ◌≤◌, ℕ, zero, suc, Bool, true, false, cond, All, List, [], ◌∷◌, length, filter, map, Some, refl, sym, ap, subst, ◌∙◌, arith}
use Rattle.std.specs.Prelude.{slice_get, Vec}
use Rattle.std.specs.List.{range_with_len}
use Rattle.std.proofs.lemmas.Bool.{eqb-true}
use Rattle.std.proofs.lemmas.List.{length-map}
use Rattle.hq_pump.specs.Safe.{AreAlone}
use Rattle.hq_pump.specs.Seen.{seen}

-- a stream and its number
abbrev pub at_node : ℕ → List ℕ → ℕ × List ℕ
at_node n bytes = (n, bytes)

-- the stream of each kept number
abbrev pub streams_of : (ℕ → List ℕ) → (ℕ → Bool) → ℕ → ℕ → List (ℕ × List ℕ)
streams_of f p a k = map (λ s. (s, f s)) (filter p (range_with_len a k))

-- with the first number or without it
first-there : (f : ℕ → List ℕ) (p : ℕ → Bool) (a k : ℕ) → p a ≡ true → streams_of f p a (suc k) ≡ at_node a (f a) ∷ streams_of f p (a + 1) k
first-there f p a k e = ap (λ (b : Bool). map {B = ℕ × List ℕ} (λ s. (s, f s)) (cond b (a ∷ filter p (range_with_len (a + 1) k)) (filter p (range_with_len (a + 1) k)))) e

first-not : (f : ℕ → List ℕ) (p : ℕ → Bool) (a k : ℕ) → p a ≡ false → streams_of f p a (suc k) ≡ streams_of f p (a + 1) k
first-not f p a k e = ap (λ (b : Bool). map {B = ℕ × List ℕ} (λ s. (s, f s)) (cond b (a ∷ filter p (range_with_len (a + 1) k)) (filter p (range_with_len (a + 1) k)))) e

-- each is from a number of the range
from-above : (f : ℕ → List ℕ) (p : ℕ → Bool) (a k i : ℕ) (x : ℕ × List ℕ) → slice_get (streams_of f p a k) i ≡ Some x → (a ≤ x.0) × (x.0 < a + k)
from-above f p a zero i x h = absurd cc
from-above f p a (suc k) i x h = by (p a) refl (λ m g. from-above f p (a + 1) k m x g)
  where
    wider : (a + 1 ≤ x.0) × (x.0 < a + 1 + k) → (a ≤ x.0) × (x.0 < a + suc k)
    wider r = let low = r.0 in let high = r.1 in (omega (arith, low), omega (arith, high))

    at : (i : ℕ) → ((m : ℕ) → slice_get (streams_of f p (a + 1) k) m ≡ Some x → (a + 1 ≤ x.0) × (x.0 < a + 1 + k)) → slice_get (at_node a (f a) ∷ streams_of f p (a + 1) k) i ≡ Some x → (a ≤ x.0) × (x.0 < a + suc k)
    at zero rest g = let is : Some (at_node a (f a)) ≡ Some x = g in let same : at_node a (f a) ≡ x = cc in let n : a ≡ x.0 = ap (λ (y : ℕ × List ℕ). y.0) same in (omega (arith, n), omega (arith, n))
    at (suc m) rest g = wider (rest m g)

    by : (b : Bool) → p a ≡ b → ((m : ℕ) → slice_get (streams_of f p (a + 1) k) m ≡ Some x → (a + 1 ≤ x.0) × (x.0 < a + 1 + k)) → (a ≤ x.0) × (x.0 < a + suc k)
    by true e rest = at i rest (subst (λ (l : List (ℕ × List ℕ)). slice_get l i ≡ Some x) (first-there f p a k e) h)
    by false e rest = wider (rest i (subst (λ (l : List (ℕ × List ℕ)). slice_get l i ≡ Some x) (first-not f p a k e) h))

-- no two are from one number
alone-from : (f : ℕ → List ℕ) (p : ℕ → Bool) (a k : ℕ) → AreAlone (streams_of f p a k)
alone-from f p a zero i j x y h g e = absurd cc
alone-from f p a (suc k) i j x y h g e = by (p a) refl (λ m n u v. alone-from f p (a + 1) k m n x y u v e)
  where
    at : (i j : ℕ) → ((m n : ℕ) → slice_get (streams_of f p (a + 1) k) m ≡ Some x → slice_get (streams_of f p (a + 1) k) n ≡ Some y → m ≡ n) → slice_get (at_node a (f a) ∷ streams_of f p (a + 1) k) i ≡ Some x → slice_get (at_node a (f a) ∷ streams_of f p (a + 1) k) j ≡ Some y → i ≡ j
    at zero zero rest h g = refl
    at zero (suc j) rest h g =
        let is : Some (at_node a (f a)) ≡ Some x = h in let same : at_node a (f a) ≡ x = cc in let n : a ≡ x.0 = ap (λ (z : ℕ × List ℕ). z.0) same in
        let r = from-above f p (a + 1) k j y g in let low = r.0 in absurd (omega (arith, n, low, e))
    at (suc i) zero rest h g =
        let is : Some (at_node a (f a)) ≡ Some y = g in let same : at_node a (f a) ≡ y = cc in let n : a ≡ y.0 = ap (λ (z : ℕ × List ℕ). z.0) same in
        let r = from-above f p (a + 1) k i x h in let low = r.0 in absurd (omega (arith, n, low, e))
    at (suc i) (suc j) rest h g = ap suc (rest i j h g)

    by : (b : Bool) → p a ≡ b → ((m n : ℕ) → slice_get (streams_of f p (a + 1) k) m ≡ Some x → slice_get (streams_of f p (a + 1) k) n ≡ Some y → m ≡ n) → i ≡ j
    by true t rest = at i j rest (subst (λ (l : List (ℕ × List ℕ)). slice_get l i ≡ Some x) (first-there f p a k t) h) (subst (λ (l : List (ℕ × List ℕ)). slice_get l j ≡ Some y) (first-there f p a k t) g)
    by false t rest = rest i j (subst (λ (l : List (ℕ × List ℕ)). slice_get l i ≡ Some x) (first-not f p a k t) h) (subst (λ (l : List (ℕ × List ℕ)). slice_get l j ≡ Some y) (first-not f p a k t) g)

pub alone : (f : ℕ → List ℕ) (p : ℕ → Bool) (streams : List (ℕ × List ℕ)) → streams ≡ streams_of f p 0 16 → AreAlone streams
alone f p streams is = subst AreAlone (sym is) (alone-from f p 0 16)

-- the stream of a kept number stands at some place
pub there-at : (f : ℕ → List ℕ) (p : ℕ → Bool) (a k n : ℕ) → a ≤ n → n < a + k → p n ≡ true → (i : ℕ) × (slice_get (streams_of f p a k) i ≡ Some (n, f n))
there-at f p a zero n low high h = absurd (omega (arith, low, high))
there-at f p a (suc k) n low high h = by (p a) refl (a == n) refl (λ l. there-at f p (a + 1) k n l (omega (arith, high)) h)
  where
    above : (a n : ℕ) → a ≤ n → (a == n) ≡ false → a + 1 ≤ n
    above a n low e = grind arith

    by : (b : Bool) → p a ≡ b → (c : Bool) → (a == n) ≡ c → (a + 1 ≤ n → (i : ℕ) × (slice_get (streams_of f p (a + 1) k) i ≡ Some (n, f n))) → (i : ℕ) × (slice_get (streams_of f p a (suc k)) i ≡ Some (n, f n))
    by true e true g rest =
        let same : a ≡ n = eqb-true a n g in
        (0, ap (λ (l : List (ℕ × List ℕ)). slice_get l 0) (first-there f p a k e) ∙ ap (λ (m : ℕ). Some (at_node m (f m))) same)
    by true e false g rest =
        let r = rest (above a n low g) in
        (suc r.0, ap (λ (l : List (ℕ × List ℕ)). slice_get l (suc r.0)) (first-there f p a k e) ∙ r.1)
    by false e true g rest = let same : a ≡ n = eqb-true a n g in let bad : false ≡ true = sym e ∙ ap p same ∙ h in absurd cc
    by false e false g rest =
        let r = rest (above a n low g) in
        (r.0, ap (λ (l : List (ℕ × List ℕ)). slice_get l r.0) (first-not f p a k e) ∙ r.1)

pub few-from : (f : ℕ → List ℕ) (p : ℕ → Bool) (a k : ℕ) → length (streams_of f p a k) ≤ k
few-from f p a zero = omega arith
few-from f p a (suc k) = by (p a) refl (few-from f p (a + 1) k)
  where
    by : (b : Bool) → p a ≡ b → length (streams_of f p (a + 1) k) ≤ k → length (streams_of f p a (suc k)) ≤ suc k
    by true e r = let n = ap (λ (l : List (ℕ × List ℕ)). length l) (first-there f p a k e) in omega (arith, n, r)
    by false e r = let n = ap (λ (l : List (ℕ × List ℕ)). length l) (first-not f p a k e) in omega (arith, n, r)

-- what streams of the kept numbers are like
pub below : {A : Type 0} (f : ℕ → List ℕ) (p : ℕ → Bool) (streams : List (ℕ × Vec ℕ A)) → seen streams ≡ streams_of f p 0 16 → All (λ stream. stream.0 < 16) streams
below {A} f p streams is = each streams (λ i x h. (from-above f p 0 16 i x (subst (λ (l : List (ℕ × List ℕ)). slice_get l i ≡ Some x) is h)).1)
  where
    each : (xs : List (ℕ × Vec ℕ A)) → ((i : ℕ) (x : ℕ × List ℕ) → slice_get (seen xs) i ≡ Some x → x.0 < 16) → All (λ stream. stream.0 < 16) xs
    each [] h k d within = absurd (omega (arith, within))
    each (x ∷ xs) h zero d within = h 0 (x.0, x.1.items) refl
    each (x ∷ xs) h (suc k) d within = each xs (λ i y e. h (suc i) y e) k d (omega (arith, within))

pub few : {A : Type 0} (f : ℕ → List ℕ) (p : ℕ → Bool) (streams : List (ℕ × Vec ℕ A)) → seen streams ≡ streams_of f p 0 16 → length streams ≤ 16
few {A} f p streams is =
    let n : length (seen streams) ≡ length streams = length-map streams (λ (stream : ℕ × Vec ℕ A). (stream.0, stream.1.items)) in
    let m = ap (λ (l : List (ℕ × List ℕ)). length l) is in
    let k = few-from f p 0 16 in
    omega (arith, n, m, k)
