-- A row goes to its bucket.
use Rattle.std.proofs.Common.{◌≡◌, ◌≢◌, ◌==◌, ◌+◌, ◌<◌, ℕ, Bool, true, false, cond, All, List, [], ◌∷◌, ◌++◌, length, replicate, zero, suc, slice_set, refl, ap, sym, ◌∙◌, append_assoc, arith}
use Rattle.std.proofs.lemmas.Bool.Decides.{nat_tests}
use Rattle.std.proofs.lemmas.List.{get_or-set_same, get_or-set_other}
use Rattle.hq_value.specs.declared.value.Value.{Value}
use Rattle.hq_value.specs.Bucket.{bucket_at, share_from}
use Rattle.hq_table.specs.Home.{rows_at}

-- the buckets with the row, and then the shares of the rows behind it
pub share-row : (keys : List ℕ) (place : ℕ) (row : List Value) (rest : List (List Value)) (buckets : List (List (List Value))) (k b : ℕ)
    → k ≡ bucket_at keys place row → k < length buckets
    → rows_at buckets b ++ share_from keys place (row ∷ rest) b ≡ rows_at (slice_set buckets k (rows_at buckets k ++ row ∷ [])) b ++ share_from keys (place + 1) rest b
share-row keys place row rest buckets k b is within = by (k == b) refl
  where
    same-bucket : (k == b) ≡ true → k ≡ b
    same-bucket e = grind (arith, nat_tests)

    other-bucket : (k == b) ≡ false → b ≢ k
    other-bucket e = grind (arith, nat_tests)

    by : (here : Bool) → (k == b) ≡ here → rows_at buckets b ++ share_from keys place (row ∷ rest) b ≡ rows_at (slice_set buckets k (rows_at buckets k ++ row ∷ [])) b ++ share_from keys (place + 1) rest b
    by true e =
        let same : k ≡ b = same-bucket e in
        let test : (bucket_at keys place row == b) ≡ true = ap (λ n. n == b) (sym is) ∙ e in
        let set : rows_at (slice_set buckets k (rows_at buckets k ++ row ∷ [])) b ≡ rows_at buckets b ++ row ∷ [] =
        ap (λ n. rows_at (slice_set buckets k (rows_at buckets k ++ row ∷ [])) n) (sym same) ∙ get_or-set_same buckets k (rows_at buckets k ++ row ∷ []) [] within ∙ ap (λ n. rows_at buckets n ++ row ∷ []) same in
        ap (λ v. rows_at buckets b ++ cond v (row ∷ share_from keys (place + 1) rest b) (share_from keys (place + 1) rest b)) test
        ∙ sym (append_assoc (rows_at buckets b) (row ∷ []) (share_from keys (place + 1) rest b)) ∙ ap (λ rows. rows ++ share_from keys (place + 1) rest b) (sym set)
    by false e =
        let test : (bucket_at keys place row == b) ≡ false = ap (λ n. n == b) (sym is) ∙ e in
        let set : rows_at (slice_set buckets k (rows_at buckets k ++ row ∷ [])) b ≡ rows_at buckets b = get_or-set_other buckets k b (rows_at buckets k ++ row ∷ []) [] (other-bucket e) in
        ap (λ v. rows_at buckets b ++ cond v (row ∷ share_from keys (place + 1) rest b) (share_from keys (place + 1) rest b)) test
        ∙ ap (λ rows. rows ++ share_from keys (place + 1) rest b) (sym set)

-- 16 empty buckets
pub none-yet : (b : ℕ) → rows_at ([] ∷ [] ∷ [] ∷ [] ∷ [] ∷ [] ∷ [] ∷ [] ∷ [] ∷ [] ∷ [] ∷ [] ∷ [] ∷ [] ∷ [] ∷ [] ∷ []) b ≡ []
none-yet b = replicated 16 b
  where
    replicated : (n b : ℕ) → rows_at (replicate n []) b ≡ []
    replicated zero b = refl
    replicated (suc n) zero = refl
    replicated (suc n) (suc b) = replicated n b

-- each row has the columns of the keys
abbrev pub AllKeyed : List ℕ → List (List Value) → Type 0
AllKeyed keys rows = All (λ row. All (λ key. key < length row) keys) rows

pub keyed-rest : (keys : List ℕ) (row : List Value) (rest : List (List Value)) → AllKeyed keys (row ∷ rest) → AllKeyed keys rest
keyed-rest keys row rest h = λ k d within. h (suc k) d (omega (arith, within))
