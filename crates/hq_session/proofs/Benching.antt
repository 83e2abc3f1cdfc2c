-- The counts of benches of which the first one's store goes on.
use Rattle.std.proofs.Common.{◌≡◌, ◌<◌, ◌≤◌, ℕ, zero, suc, Bool, true, false, true≢false, List, [], ◌∷◌, length, drop, get_or, slice_set, refl, sym, ◌∙◌, ap, subst, arith}
use Rattle.hq_value.specs.Causes.{Rose}
use Rattle.hq_detect.specs.declared.bench.Bench.{Bench}
use Rattle.hq_link.specs.Link.{LinkState}
use Rattle.hq_lane.specs.BucketFiles.{BucketState}
use Rattle.hq_lane.specs.Lanes.{LaneState, AreClean, are_clean}
use Rattle.hq_clean.specs.Sweeps.{Swept, is_clean, is_stopped}
use Rattle.hq_txn.specs.Transactions.{Transaction, lane_at}
use Rattle.hq_txn.specs.declared.state.TxnState.TheVariants as txn
use Rattle.hq_turns.specs.Counts.{counts_of, count_at, Later}

at-least : {B : Type 0} (count : B → ℕ) (x y : B) (xs : List B) (n : ℕ) → count x ≤ count y → count_at count (x ∷ xs) n ≤ count_at count (y ∷ xs) n
at-least count x y xs zero h = h
at-least count x y xs (suc n) h = omega arith

module _ {S H L : Type 0} (stores : S → ℕ) (checks hosts : H → ℕ) (link : L → LinkState) where
  pub first-later : (old : List (Bench S H L)) (was now : Bench S H L) → 0 < length old → was ≡ get_or old 0 was → now.host ≡ was.host → now.link ≡ was.link
      → stores was.store ≤ stores now.store
      → Later (counts_of stores checks hosts link old) (counts_of stores checks hosts link (slice_set old 0 now))
  first-later [] was now some is host same le = absurd (omega arith)
  first-later (x ∷ xs) was now some is host same le =
      let there : x ≡ was = sym is in
      record {
        nodes = refl;
        stores = λ n. at-least (λ (b : Bench S H L). stores b.store) x now xs n (subst (λ (b : Bench S H L). stores b.store ≤ stores now.store) is le);
        checks = λ n. at-least (λ (b : Bench S H L). checks b.host) x now xs n (subst (λ (h : H). checks x.host ≤ checks h) (sym (host-is there)) (omega arith));
        hosts = λ n. at-least (λ (b : Bench S H L). hosts b.host) x now xs n (subst (λ (h : H). hosts x.host ≤ hosts h) (sym (host-is there)) (omega arith));
        links = λ n. at-least (λ (b : Bench S H L). (link b.link).faults) x now xs n (subst (λ (l : L). (link x.link).faults ≤ (link l).faults) (sym (link-is there)) (omega arith));
        troubles = λ n. at-least (λ (b : Bench S H L). (link b.link).troubles) x now xs n (subst (λ (l : L). (link x.link).troubles ≤ (link l).troubles) (sym (link-is there)) (omega arith));
      }
    where
      host-is : x ≡ was → now.host ≡ x.host
      host-is e = subst (λ (b : Bench S H L). now.host ≡ b.host) (sym e) host

      link-is : x ≡ was → now.link ≡ x.link
      link-is e = subst (λ (b : Bench S H L). now.link ≡ b.link) (sym e) same

  pub first-rose : (old : List (Bench S H L)) (was now : Bench S H L) → 0 < length old → was ≡ get_or old 0 was → Rose (stores was.store) (stores now.store)
      → Rose ((counts_of stores checks hosts link old).stores 0) ((counts_of stores checks hosts link (slice_set old 0 now)).stores 0)
  first-rose [] was now some is rose = absurd (omega arith)
  first-rose (x ∷ xs) was now some is rose = subst (λ (b : Bench S H L). Rose (stores b.store) (stores now.store)) is rose

-- the same sweep by another cause
pub swept-by : (told : Bool) (old new : List BucketState) (P Q : Type 0) → (P → Q) → Swept told old new P → Swept told old new Q
swept-by told old new P Q go (is_clean files clean) = is_clean files clean
swept-by told old new P Q go (is_stopped stops rose) = is_stopped stops (go rose)

-- the first lane is the one that was lent first
first-of : (lanes : List LaneState) → (lanes ≡ [] → ⊥) → lanes ≡ lane_at lanes 0 ∷ drop 1 lanes
first-of [] some = absurd (some refl)
first-of (x ∷ xs) some = refl

pub first-there : (t after : Transaction) (spare : ℕ) → (t.lanes ≡ [] → ⊥) → after ≡ record t { state = txn.Failed; lanes = drop 1 t.lanes; spare = spare }
    → t.lanes ≡ lane_at t.lanes 0 ∷ after.lanes
first-there t after spare some is = first-of t.lanes some ∙ ap (λ (ls : List LaneState). lane_at t.lanes 0 ∷ ls) (sym (ap (λ (x : Transaction). x.lanes) is))

-- a lane that comes back with a tail has a cut that failed
pub tail-rose : (told : Bool) (old new : List BucketState) (P Q : Type 0) → (P → Q) → Swept told old new P → (AreClean new → are_clean new ≡ true) → are_clean new ≡ false → Q
tail-rose told old new P Q go (is_clean files clean) tells dirty = absurd (true≢false (sym (tells clean) ∙ dirty))
tail-rose told old new P Q go (is_stopped stops rose) tells dirty = go rose
