-- Rows of a statement and what a table keeps after them.
use Rattle.std.proofs.Common.{◌≡◌, ◌==◌, ◌+◌, ◌<◌, ℕ, suc, Bool, true, false, cond, All, List, [], ◌∷◌, ◌++◌, length, Result, Ok, Err, OnOk, OnErr, Option, IsTrue, refl, ap, sym, subst, arith, nat_lt, get_or}
use Rattle.std.proofs.lemmas.Bool.Decides.{nat_tests}
use Rattle.std.proofs.lemmas.List.Elements.{All-cons}
use Rattle.std.proofs.lemmas.Slice.Zip.{AllZip-long}
use Rattle.hq_value.specs.declared.value.Value.{Value}
use Rattle.hq_value.specs.declared.kind.Kind.{Kind}
use Rattle.hq_value.specs.Tables.{all_below}
use Rattle.hq_value.specs.Kinds.{Fits, IsOfKind}
use Rattle.hq_block.specs.Block.{FileRows, pack}
use Rattle.hq_value.specs.Bucket.{Buckets, bucket_at, share_from}
use Rattle.hq_table.specs.Kept.{bytes_in}
use Rattle.hq_table.specs.Home.{IsAdded, files_of}
use Rattle.hq_store.specs.Pages.{Shared}

-- what holds of all rows holds of a bucket's
pub all-share : (P : List Value → Type 0) (keys : List ℕ) (place : ℕ) (rows : List (List Value)) (b : ℕ) → All P rows → All P (share_from keys place rows b)
all-share P keys place [] b h = h
all-share P keys place (row ∷ rows) b h =
    by (bucket_at keys place row == b) (all-share P keys (place + 1) rows b (λ k d within. h (suc k) d (omega (arith, within))))
  where
    by : (here : Bool) → All P (share_from keys (place + 1) rows b) → All P (cond here (row ∷ share_from keys (place + 1) rows b) (share_from keys (place + 1) rows b))
    by true rest = All-cons P row (share_from keys (place + 1) rows b) (h 0 row (omega arith)) rest
    by false rest = rest

abbrev Joins : Type 0
Joins = (kinds : List Kind) (a b : List ℕ) (rows others : List (List Value)) → FileRows kinds a rows → FileRows kinds b others → FileRows kinds (a ++ b) (rows ++ others)

-- what was added is kept behind what was there
pub added-kept : {E : Type 0} (joins : Joins) (kinds kinds' : List Kind) (shares shares' : Buckets) (files files' : ℕ → List ℕ) (result : Result Unit E)
    → kinds ≡ kinds' → ((b : ℕ) → b < 16 → shares b ≡ shares' b) → OnOk result ((b : ℕ) → b < 16 → IsAdded kinds (shares b) (files b) (files' b))
    → OnOk result ((kept : Buckets) → ((b : ℕ) → b < 16 → FileRows kinds' (files b) (kept b)) → (b : ℕ) → b < 16 → FileRows kinds' (files' b) (kept b ++ shares' b))
added-kept joins kinds kinds' shares shares' files files' (Err e) same is added = tt
added-kept joins kinds kinds' shares shares' files files' (Ok u) same is added = λ kept keeps b within.
    let a = added b within in
    let more : FileRows kinds (files' b) (kept b ++ shares b) = subst (λ bytes. FileRows kinds bytes (kept b ++ shares b)) (sym a.bytes) (joins kinds (files b) (pack kinds (shares b)) (kept b) (shares b) (subst (λ ks. FileRows ks (files b) (kept b)) (sym same) (keeps b within)) a.file) in
    subst (λ ks. FileRows ks (files' b) (kept b ++ shares' b)) same (subst (λ rows. FileRows kinds (files' b) (kept b ++ rows)) (is b within) more)

-- a table still keeps rows
pub still-kept : {E : Type 0} (joins : Joins) (kinds : List Kind) (shares : Buckets) (files files' : ℕ → List ℕ) (result : Result Unit E)
    → OnOk result ((b : ℕ) → b < 16 → IsAdded kinds (shares b) (files b) (files' b)) → OnErr result ((b : ℕ) → files' b ≡ files b)
    → ((rows : Buckets) × ((b : ℕ) → b < 16 → FileRows kinds (files b) (rows b))) → (rows : Buckets) × ((b : ℕ) → b < 16 → FileRows kinds (files' b) (rows b))
still-kept joins kinds shares files files' (Ok u) added same kept = (
  (λ b. kept.0 b ++ shares b),
  λ b within.
      let a = added b within in
      subst (λ bytes. FileRows kinds bytes (kept.0 b ++ shares b)) (sym a.bytes) (joins kinds (files b) (pack kinds (shares b)) (kept.0 b) (shares b) (kept.1 b within) a.file),
)
still-kept joins kinds shares files files' (Err e) added same kept = (kept.0, λ b within. subst (λ bytes. FileRows kinds bytes (kept.0 b)) (sym (same b)) (kept.1 b within))

-- keys below the number of columns
pub keys-below : (n : ℕ) (keys : List ℕ) → IsTrue (all_below n keys) → All (λ key. key < n) keys
keys-below n [] h = λ k d within. absurd (omega (arith, within))
keys-below n (key ∷ keys) h = by (nat_lt key n) refl (keys-below n keys)
  where
    by : (below : Bool) → nat_lt key n ≡ below → (IsTrue (all_below n keys) → All (λ key. key < n) keys) → All (λ key. key < n) (key ∷ keys)
    by true e rest = All-cons (λ key. key < n) key keys (grind (arith, nat_tests)) (rest (rw e at h))
    by false e rest = absurd (let failed : IsTrue (cond false (all_below n keys) false) = rw e at h in cc)

-- the columns of the keys are in each row that fits
pub keys-within : (kinds : List Kind) (n : ℕ) (keys : List ℕ) (rows : List (List Value)) → length kinds ≡ n → IsTrue (all_below n keys) → All (Fits kinds) rows → All (λ row. All (λ key. key < length row) keys) rows
keys-within kinds n keys rows same below fit = λ k d within k' d' within'.
    omega (arith, keys-below n keys below k' d' within', AllZip-long IsOfKind kinds (get_or rows k d) (fit k d within), same)

-- the files stay where the seals do
pub same-files : {E : Type 0} (seals seals' : List (Option Shared)) (result : Result Unit E) → OnErr result (seals' ≡ seals) → OnErr result ((b : ℕ) → bytes_in (files_of seals') b ≡ bytes_in (files_of seals) b)
same-files seals seals' (Ok u) same = tt
same-files seals seals' (Err e) same = λ b. ap (λ ss. bytes_in (files_of ss) b) same
