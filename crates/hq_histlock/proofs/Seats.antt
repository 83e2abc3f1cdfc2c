-- How many numbers have a seat.
use Rattle.std.proofs.Common.{◌≡◌, ℕ, zero, suc, ◌+◌, ◌<◌, ◌≤◌, ◌≢◌, eqb, cond, true, false, Bool, sym, refl, ap, ◌∙◌, eq-eqb, ne_eqb, add-one, arith}
use mathlib.Core.Logic.{dite}
use native.Mathlib.Decide.{ℕ_discrete}
use Rattle.hq_histlock.specs.Kept.{seated}

-- the seat of one number changed
abbrev pub seat_at : (ℕ → ℕ) → ℕ → ℕ → ℕ → ℕ
seat_at f n x m = cond (eqb m n) x (f m)

pub seat_here : (f : ℕ → ℕ) (n x : ℕ) → seat_at f n x n ≡ x
seat_here f n x = ap (λ (b : Bool). cond b x (f n)) (eq-eqb n n refl)

pub seat_else : (f : ℕ → ℕ) (n x m : ℕ) → m ≢ n → seat_at f n x m ≡ f m
seat_else f n x m ne = ap (λ (b : Bool). cond b x (f m)) (ne_eqb m n ne)

abbrev weight : ℕ → ℕ
weight x = cond (eqb x 0) 0 1

weight_one : (x : ℕ) → x ≢ 0 → weight x ≡ 1
weight_one x ne = ap (λ (b : Bool). cond b 0 1) (ne_eqb x 0 ne)

weight_none : (x : ℕ) → x ≡ 0 → weight x ≡ 0
weight_none x e = ap (λ (b : Bool). cond b 0 1) (eq-eqb x 0 e)

-- a seat at or above the bound doesn't count
pub seated_above : (f : ℕ → ℕ) (n x m : ℕ) → m ≤ n → seated m (seat_at f n x) ≡ seated m f
seated_above f n x zero h = refl
seated_above f n x (suc m) h = ap (λ (k : ℕ). weight k + seated m (seat_at f n x)) (seat_else f n x m (λ e. absurd (omega arith))) ∙ ap (λ (k : ℕ). weight (f m) + k) (seated_above f n x m (omega arith))

-- one more seat
pub seated_new : (f : ℕ → ℕ) (n x : ℕ) → x ≢ 0 → seated (n + 1) (seat_at f n x) ≡ seated n f + 1
seated_new f n x ne = let a : weight (seat_at f n x n) ≡ 1 = ap weight (seat_here f n x) ∙ weight_one x ne in let b = seated_above f n x n (omega arith) in let s : seated (n + 1) (seat_at f n x) ≡ weight (seat_at f n x n) + seated n (seat_at f n x) = ap (λ (k : ℕ). seated k (seat_at f n x)) (add-one n) in omega (arith, a, b, s)

-- one seat less
pub seated_left : (f : ℕ → ℕ) (n m : ℕ) → n < m → f n ≢ 0 → seated m (seat_at f n 0) + 1 ≡ seated m f
seated_left f n zero h ne = absurd (omega arith)
seated_left f n (suc m) h ne = dite (ℕ_discrete m n)
    (λ e. let a : weight (seat_at f n 0 m) ≡ 0 = weight_none _ (ap (seat_at f n 0) e ∙ seat_here f n 0) in let b : weight (f m) ≡ 1 = weight_one (f m) (λ z. ne (sym (ap f e) ∙ z)) in let c = seated_above f n 0 m (omega arith) in let s : seated (suc m) (seat_at f n 0) ≡ weight (seat_at f n 0 m) + seated m (seat_at f n 0) = refl in let t : seated (suc m) f ≡ weight (f m) + seated m f = refl in omega (arith, a, b, c, s, t))
    (λ d. let a : weight (seat_at f n 0 m) ≡ weight (f m) = ap weight (seat_else f n 0 m d) in let b = seated_left f n m (omega arith) ne in let s : seated (suc m) (seat_at f n 0) ≡ weight (seat_at f n 0 m) + seated m (seat_at f n 0) = refl in let t : seated (suc m) f ≡ weight (f m) + seated m f = refl in omega (arith, a, b, s, t))

seated_some : (f : ℕ → ℕ) (n m : ℕ) → n < m → f n ≢ 0 → 1 ≤ seated m f
seated_some f n m h ne = let a = seated_left f n m h ne in omega arith

-- where one number has a seat, and only one does, another has none
pub only_one : (f : ℕ → ℕ) (n k m : ℕ) → seated m f ≡ 1 → n < m → f n ≢ 0 → k < m → k ≢ n → f k ≡ 0
only_one f n k m one h ne below other = dite (ℕ_discrete (f k) 0) (λ e. e)
    (λ d. let a = seated_left f n m h ne in let b = seated_some (seat_at f n 0) k m below (λ z. d (sym (seat_else f n 0 k other) ∙ z)) in absurd (omega arith))

-- where number 0 alone has a seat, one is counted
pub seated_first : (m x : ℕ) → x ≢ 0 → seated (suc m) (seat_at (λ _. 0) 0 x) ≡ 1
seated_first zero x ne = let a : weight (seat_at (λ _. 0) 0 x 0) ≡ 1 = ap weight (seat_here (λ _. 0) 0 x) ∙ weight_one x ne in omega (arith, a)
seated_first (suc m) x ne =
    let a : weight (seat_at (λ _. 0) 0 x (suc m)) ≡ 0 = ap weight (seat_else (λ _. 0) 0 x (suc m) (λ e. absurd (omega arith))) in
    let b = seated_first m x ne in
    let s : seated (suc (suc m)) (seat_at (λ _. 0) 0 x) ≡ weight (seat_at (λ _. 0) 0 x (suc m)) + seated (suc m) (seat_at (λ _. 0) 0 x) = refl in
    omega (arith, a, b, s)
