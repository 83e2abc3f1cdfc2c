-- A statement's rows by their buckets, row by row.
use Rattle.std.proofs.Common.{◌≡◌, ◌∙◌, ◌⊎◌, inl, inr, ◌≢◌, ℕ, zero, suc, ◌+◌, ◌<◌, ◌==◌, Bool, true, false, List, [], ◌∷◌, ◌++◌, All, length, drop, drop-cons, add-one, slice_index_or, cond, refl, sym, ap, arith, append_assoc}
use Rattle.std.specs.Borrow.{Bor}
use Rattle.std.proofs.lemmas.Bool.Decides.{eqb_tells}
use Rattle.std.proofs.lemmas.List.Elements.{All-nil, All-cons}
use Rattle.hq_value.specs.declared.value.Value.{Value}
use Rattle.hq_value.specs.Bucket.{bucket_at, share_from}
use Rattle.hq_txn.specs.Shares.{share_in}

-- no share has no row
pub none-at : (b : ℕ) → share_in [] b ≡ []
none-at zero = refl
none-at (suc b) = refl

-- one empty share more
pub none-pushed : (shares : List (List (Bor (List Value)))) → ((b : ℕ) → share_in shares b ≡ []) → (b : ℕ) → share_in (shares ++ [] ∷ []) b ≡ []
none-pushed [] none zero = refl
none-pushed [] none (suc b) = refl
none-pushed (share ∷ shares) none zero = none 0
none-pushed (share ∷ shares) none (suc b) = none-pushed shares (λ k. none (suc k)) b

-- of the rows from a place on go to a bucket the row there, if it is of the bucket, and those behind it
one-more : (keys : List ℕ) (rows : List (List Value)) (place b : ℕ) (d : List Value) → place < length rows
    → share_from keys place (drop place rows) b ≡ cond (bucket_at keys place (slice_index_or rows place d) == b) (slice_index_or rows place d ∷ share_from keys (place + 1) (drop (place + 1) rows) b) (share_from keys (place + 1) (drop (place + 1) rows) b)
one-more keys rows place b d within =
    ap (λ (rest : List (List Value)). share_from keys place rest b) (drop-cons rows place d within)
    ∙ ap (λ (n : ℕ). cond (bucket_at keys place (slice_index_or rows place d) == b) (slice_index_or rows place d ∷ share_from keys (place + 1) (drop n rows) b) (share_from keys (place + 1) (drop n rows) b)) (sym (add-one place))

-- a row more has gone to its bucket, and those behind it are left
pub row-added : (keys : List ℕ) (rows : List (List Value)) (place bucket b : ℕ) (d : List Value) (old new : List (List Value)) → place < length rows
    → bucket ≡ bucket_at keys place (slice_index_or rows place d) → (b ≡ bucket → new ≡ old ++ slice_index_or rows place d ∷ []) → (b ≢ bucket → new ≡ old)
    → old ++ share_from keys place (drop place rows) b ≡ share_from keys 0 rows b → new ++ share_from keys (place + 1) (drop (place + 1) rows) b ≡ share_from keys 0 rows b
row-added keys rows place bucket b d old new within is added others before = by (eqb_tells (bucket_at keys place (slice_index_or rows place d)) b)
  where
    by : (((bucket_at keys place (slice_index_or rows place d) == b) ≡ true) × (bucket_at keys place (slice_index_or rows place d) ≡ b)) ⊎ (((bucket_at keys place (slice_index_or rows place d) == b) ≡ false) × (bucket_at keys place (slice_index_or rows place d) ≢ b))
        → new ++ share_from keys (place + 1) (drop (place + 1) rows) b ≡ share_from keys 0 rows b
    by (inl here) =
        let row : List Value = slice_index_or rows place d in
        let rest : List (List Value) = share_from keys (place + 1) (drop (place + 1) rows) b in
        let more : share_from keys place (drop place rows) b ≡ row ∷ rest = one-more keys rows place b d within ∙ ap (λ (test : Bool). cond test (row ∷ rest) rest) here.0 in
        ap (λ (l : List (List Value)). l ++ rest) (added (sym here.1 ∙ sym is)) ∙ append_assoc old (row ∷ []) rest ∙ ap (λ (l : List (List Value)). old ++ l) (sym more) ∙ before
    by (inr other) =
        let row : List Value = slice_index_or rows place d in
        let rest : List (List Value) = share_from keys (place + 1) (drop (place + 1) rows) b in
        let more : share_from keys place (drop place rows) b ≡ rest = one-more keys rows place b d within ∙ ap (λ (test : Bool). cond test (row ∷ rest) rest) other.0 in
        ap (λ (l : List (List Value)). l ++ rest) (others (λ e. other.1 (sym is ∙ sym e))) ∙ ap (λ (l : List (List Value)). old ++ l) (sym more) ∙ before

-- what holds of all rows holds of a bucket's
pub All-share : (P : List Value → Type 0) (keys : List ℕ) (place : ℕ) (rows : List (List Value)) (b : ℕ) → All P rows → All P (share_from keys place rows b)
All-share P keys place [] b all = All-nil P
All-share P keys place (row ∷ rows) b all = by (bucket_at keys place row == b) (All-share P keys (place + 1) rows b (λ k d within. all (suc k) d (omega (arith, within))))
  where
    by : (here : Bool) → All P (share_from keys (place + 1) rows b) → All P (cond here (row ∷ share_from keys (place + 1) rows b) (share_from keys (place + 1) rows b))
    by true rest = All-cons P row (share_from keys (place + 1) rows b) (all 0 row (omega arith)) rest
    by false rest = rest
