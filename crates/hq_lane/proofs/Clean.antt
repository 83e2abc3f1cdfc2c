-- Places that are clean, one by one and all.
use Rattle.std.proofs.Common.{◌≡◌, ℕ, zero, suc, ◌+◌, ◌<◌, ◌↔◌, Bool, true, false, not, ◌&&◌, ◌==◌, List, [], ◌∷◌, drop, drop-cons, add-one, length, refl, sym, ◌∙◌, arith, IsTrue, eq-eqb}
use Rattle.std.proofs.lemmas.Grind.{common_steps}
use Rattle.std.proofs.lemmas.Bool.{false≢true, eqb-true}
use Rattle.hq_lane.specs.BucketFiles.{BucketState, is_clean, no_file}
use Rattle.hq_lane.specs.Lanes.{id_of, file_of, are_clean, AreClean}

are_clean-cons : (x : BucketState) (xs : List BucketState) → is_clean x ≡ true → are_clean (x ∷ xs) ≡ are_clean xs
are_clean-cons x xs e = grind (arith, common_steps)

-- one place more is clean
pub are_clean-more : (xs : List BucketState) (i : ℕ) → i < length xs → is_clean (file_of xs i) ≡ true → are_clean (drop (i + 1) xs) ≡ are_clean (drop i xs)
are_clean-more xs i h e = rw (add-one, drop-cons xs i (no_file (id_of 0 0 0))) (sym (are_clean-cons (file_of xs i) (drop (suc i) xs) e))

both_true : (a b : Bool) → (a && b) ≡ true → (a ≡ true) × (b ≡ true)
both_true true b e = (refl, e)
both_true false b e = absurd (false≢true e)

clean_by : (torn : Bool) (good base : ℕ) → (not torn && (good == base)) ≡ true → (torn ≡ false) × (good ≡ base)
clean_by true good base e = absurd (false≢true e)
clean_by false good base e = (refl, eqb-true good base e)

clean_from : (torn : Bool) (good base : ℕ) → torn ≡ false → good ≡ base → (not torn && (good == base)) ≡ true
clean_from true good base e same = absurd (false≢true (sym e))
clean_from false good base e same = eq-eqb good base same

each_clean : (places : List BucketState) → are_clean places ≡ true → (b : ℕ) → b < length places → is_clean (file_of places b) ≡ true
each_clean [] e b h = absurd (omega arith)
each_clean (x ∷ xs) e zero h = (both_true (is_clean x) (are_clean xs) e).0
each_clean (x ∷ xs) e (suc b) h = each_clean xs (both_true (is_clean x) (are_clean xs) e).1 b (omega arith)

all_clean : (places : List BucketState) → ((b : ℕ) → b < length places → is_clean (file_of places b) ≡ true) → are_clean places ≡ true
all_clean [] each = refl
all_clean (x ∷ xs) each = are_clean-cons x xs (each 0 (omega arith)) ∙ all_clean xs (λ b h. each (suc b) (omega arith))

-- all are clean exactly where each is
pub are_clean-exactly : (places : List BucketState) → length places ≡ 16 → IsTrue (are_clean places) ↔ AreClean places
are_clean-exactly places sixteen = (
  (λ e b h. clean_by (file_of places b).torn (file_of places b).good (file_of places b).base (each_clean places e b (omega arith))),
  (λ clean. all_clean places (λ b h. let c = clean b (omega arith) in clean_from (file_of places b).torn (file_of places b).good (file_of places b).base c.0 c.1)),
)
