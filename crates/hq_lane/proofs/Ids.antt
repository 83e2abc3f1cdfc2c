-- Files keep their ids.
use Rattle.std.proofs.Common.{◌≡◌, ◌∙◌, ℕ, ◌<◌, List, length, slice_set, subst, sym, arith}
use Rattle.std.proofs.Math.Logic.{⊎_elim}
use Rattle.std.proofs.lemmas.Bool.{cases_order}
use Rattle.std.proofs.lemmas.List.{get_or-set_same, get_or-set_other}
use Rattle.hq_lane.specs.BucketFiles.{BucketState, no_file}
use Rattle.hq_lane.specs.Lanes.{id_of, file_of, HaveIds}

-- a file of the bucket's id in its place
pub ids_put : (table number b : ℕ) (files : List BucketState) (f : BucketState) → HaveIds table number files → b < length files → f.id ≡ id_of table number b → HaveIds table number (slice_set files b f)
ids_put table number b files f have inside is k h =
    let other : (k ≡ b → ⊥) → (file_of (slice_set files b f) k).id ≡ id_of table number k =
    λ apart. rw (get_or-set_other files b k f (no_file (id_of 0 0 0)) apart) (have k h) in
    ⊎_elim
    (λ (same : k ≡ b). subst (λ (m : ℕ). (file_of (slice_set files b f) m).id ≡ id_of table number m) (sym same)
    (rw (get_or-set_same files b f (no_file (id_of 0 0 0)) inside) is))
    (⊎_elim (λ (below : k < b). other (λ e. omega arith)) (λ (above : b < k). other (λ e. omega arith)))
    (cases_order k b)

-- one that has the id of the file that was there
pub ids_set : (table number b : ℕ) (files : List BucketState) (f : BucketState) → HaveIds table number files → b < 16 → b < length files → f.id ≡ (file_of files b).id → HaveIds table number (slice_set files b f)
ids_set table number b files f have bucket inside is = ids_put table number b files f have inside (is ∙ have b bucket)
