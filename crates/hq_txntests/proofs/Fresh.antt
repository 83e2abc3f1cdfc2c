-- A lane without files.
use Rattle.std.proofs.Common.{◌≡◌, ◌∙◌, ◌<◌, ℕ, false, None, ap, refl, sym}
use Rattle.std.proofs.lemmas.List.{get_or-map}
use Rattle.hq_lane.specs.BucketFiles.{BucketState, no_file}
use Rattle.hq_lane.specs.Lanes.{id_of, no_files, file_of, AreClean, HaveNoSeal}
use Rattle.std.specs.Prelude.{List, [], ◌∷◌, slice_index_or}

buckets : List ℕ
buckets = 0 ∷ 1 ∷ 2 ∷ 3 ∷ 4 ∷ 5 ∷ 6 ∷ 7 ∷ 8 ∷ 9 ∷ 10 ∷ 11 ∷ 12 ∷ 13 ∷ 14 ∷ 15 ∷ []

no-file-at : (table number b : ℕ) → b < 16 → file_of (no_files table number) b ≡ no_file (id_of table number (slice_index_or buckets b 0))
unfolding buckets
no-file-at table number b within = get_or-map (λ (k : ℕ). no_file (id_of table number k)) buckets b 0 (no_file (id_of 0 0 0)) within

-- it is clean, and has no seal
pub fresh-clean : (table number : ℕ) → AreClean (no_files table number)
fresh-clean table number = λ b within. (ap (λ (f : BucketState). f.torn) (no-file-at table number b within), ap (λ (f : BucketState). f.good) (no-file-at table number b within) ∙ sym (ap (λ (f : BucketState). f.base) (no-file-at table number b within)))

pub fresh-unsealed : (table number : ℕ) → HaveNoSeal (no_files table number)
fresh-unsealed table number = λ b within. ap (λ (f : BucketState). f.fresh) (no-file-at table number b within)
