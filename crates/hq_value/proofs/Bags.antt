-- The shares of all buckets are the rows, as a bag.
use Rattle.std.proofs.Common.{◌≡◌, ◌≢◌, ◌==◌, ◌+◌, ◌<◌, ◌≤◌, ℕ, zero, suc, Bool, true, false, cond, List, [], ◌∷◌, ◌++◌, if◌then◌else◌, refl, ap, sym, ◌∙◌, arith}
use Rattle.std.proofs.lemmas.Bool.Decides.{nat_tests}
use Rattle.std.specs.Ordering.{is_eq}
use Rattle.hq_value.specs.declared.value.Value.{Value}
use Rattle.hq_value.specs.Sorting.{times}
use Rattle.hq_value.specs.Order.{row_cmp, SameBag}
use Rattle.hq_value.specs.Bucket.{Buckets, bucket_at, share_from, share, joined, rows_of}

abbrev count : List Value → List (List Value) → ℕ
count x rows = times row_cmp x rows

abbrev hit : List Value → List Value → ℕ
hit x row = if is_eq (row_cmp x row) then 1 else 0

count-append : (x : List Value) (rows others : List (List Value)) → count x (rows ++ others) ≡ count x rows + count x others
count-append x [] others = omega arith
count-append x (row ∷ rows) others = omega (arith, count-append x rows others)

-- a row more in one bucket
abbrev with : ℕ → List Value → Buckets → Buckets
with k row f b = if k == b then row ∷ f b else f b

with-other : (k b : ℕ) (row : List Value) (f : Buckets) → k ≢ b → with k row f b ≡ f b
with-other k b row f n = let other : (k == b) ≡ false = grind (arith, nat_tests) in ap (λ v. cond v (row ∷ f b) (f b)) other

with-this : (k b : ℕ) (row : List Value) (f : Buckets) → k ≡ b → with k row f b ≡ row ∷ f b
with-this k b row f e = let this : (k == b) ≡ true = grind (arith, nat_tests) in ap (λ v. cond v (row ∷ f b) (f b)) this

joined-before : (n k : ℕ) (row : List Value) (f : Buckets) → n ≤ k → joined n (with k row f) ≡ joined n f
joined-before zero k row f less = refl
joined-before (suc n) k row f less =
    ap (λ rows. rows ++ with k row f n) (joined-before n k row f (omega (arith, less))) ∙ ap (λ rows. joined n f ++ rows) (with-other k n row f (λ e. absurd (omega (arith, less, e))))

split-last : (k n : ℕ) → k < suc n → (k ≡ n → ⊥) → k < n
split-last k n less other = by (k == n) refl
  where
    by : (same : Bool) → (k == n) ≡ same → k < n
    by true e = absurd (other (grind (arith, nat_tests)))
    by false e = let n' : k ≢ n = grind (arith, nat_tests) in omega (arith, less, n')

count-with : (x : List Value) (n k : ℕ) (row : List Value) (f : Buckets) → k < n → count x (joined n (with k row f)) ≡ hit x row + count x (joined n f)
count-with x zero k row f less = absurd (omega (arith, less))
count-with x (suc n) k row f less = by (k == n) refl (count-with x n k row f)
  where
    by : (same : Bool) → (k == n) ≡ same → (k < n → count x (joined n (with k row f)) ≡ hit x row + count x (joined n f)) → count x (joined (suc n) (with k row f)) ≡ hit x row + count x (joined (suc n) f)
    by true e rest =
        let this : k ≡ n = grind (arith, nat_tests) in
        omega (arith, count-append x (joined n (with k row f)) (with k row f n), count-append x (joined n f) (f n), ap (count x) (joined-before n k row f (omega (arith, this))), ap (count x) (with-this k n row f this))
    by false e rest =
        let other : k ≢ n = grind (arith, nat_tests) in
        let lower : k < n = omega (arith, less, other) in
        omega (arith, count-append x (joined n (with k row f)) (with k row f n), count-append x (joined n f) (f n), rest lower, ap (count x) (with-other k n row f other))

pub bucket-below : (keys : List ℕ) (place : ℕ) (row : List Value) → bucket_at keys place row < 16
bucket-below [] place row = omega arith
bucket-below (key ∷ keys) place row = omega arith

count-nothing : (x : List Value) (n : ℕ) → count x (joined n (λ b. [])) ≡ 0
count-nothing x zero = refl
count-nothing x (suc n) = omega (arith, count-append x (joined n (λ b. [])) [], count-nothing x n)

count-share : (x : List Value) (keys : List ℕ) (place : ℕ) (rows : List (List Value)) → count x (joined 16 (share_from keys place rows)) ≡ count x rows
count-share x keys place [] = count-nothing x 16
count-share x keys place (row ∷ rows) = count-with x 16 (bucket_at keys place row) row (share_from keys (place + 1) rows) (bucket-below keys place row) ∙ ap (λ n. hit x row + n) (count-share x keys (place + 1) rows)

count-both : (x : List Value) (n : ℕ) (f g : Buckets) → count x (joined n (λ b. f b ++ g b)) ≡ count x (joined n f) + count x (joined n g)
count-both x zero f g = refl
count-both x (suc n) f g = omega (arith, count-both x n f g, count-append x (joined n (λ b. f b ++ g b)) (f n ++ g n), count-append x (f n) (g n), count-append x (joined n f) (f n), count-append x (joined n g) (g n))

pub shares-same : (keys : List ℕ) (rows : List (List Value)) (kept : Buckets) → SameBag (rows_of (λ b. kept b ++ share keys rows b)) (rows_of kept ++ rows)
shares-same keys rows kept = λ x. count-both x 16 kept (share keys rows) ∙ ap (λ n. count x (rows_of kept) + n) (count-share x keys 0 rows) ∙ sym (count-append x (rows_of kept) rows)
