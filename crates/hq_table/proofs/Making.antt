-- A table with no rows.
use Rattle.std.proofs.Common.{◌≡◌, ◌<◌, ℕ, zero, suc, List, [], ◌∷◌, map, Option, None, replicate, refl, ap, ◌∙◌, subst, sym}
use Rattle.hq_value.specs.declared.kind.Kind.{Kind}
use Rattle.hq_block.specs.Block.{FileRows}
use Rattle.hq_lane.specs.Lanes.{LaneState, file_of, id_of, no_files}
use Rattle.hq_lane.specs.BucketFiles.{no_file}
use Rattle.hq_value.specs.declared.entry.FileId.{FileId}
use Rattle.hq_table.specs.Kept.{bytes_in}
use Rattle.hq_table.specs.Home.{IsHome, AreHome, files_of}
use Rattle.hq_store.specs.Pages.{Shared}

no-seals : (n b : ℕ) → bytes_in (files_of (replicate n None)) b ≡ []
no-seals zero b = refl
no-seals (suc n) zero = refl
no-seals (suc n) (suc b) = no-seals n b

home-alone : (id : FileId) → IsHome [] (no_file id)
home-alone id = record { bytes_are = refl; whole = refl; committed = refl; no_seal = refl }

home-at : (id : ℕ → FileId) (buckets : List ℕ) (b : ℕ) → IsHome [] (file_of (map (λ n. no_file (id n)) buckets) b)
home-at id [] b = home-alone (id_of 0 0 0)
home-at id (n ∷ buckets) zero = home-alone (id n)
home-at id (n ∷ buckets) (suc b) = home-at id buckets b

pub no-bytes : (seals : List (Option Shared)) → seals ≡ replicate 16 None → (b : ℕ) → bytes_in (files_of seals) b ≡ []
no-bytes seals is b = ap (λ ss. bytes_in (files_of ss) b) is ∙ no-seals 16 b

pub home-new : (seals : List (Option Shared)) (lane : LaneState) (table number : ℕ) → seals ≡ replicate 16 None → lane ≡ record { table = table; number = number; files = no_files table number } → AreHome (files_of seals) lane.files
home-new seals lane table number none fresh = λ b within.
    let place : file_of lane.files b ≡ file_of (no_files table number) b = ap (λ (l : LaneState). file_of l.files b) fresh in
    rw (no-bytes seals none b, place) (home-at (λ n. id_of table number n) (0 ∷ 1 ∷ 2 ∷ 3 ∷ 4 ∷ 5 ∷ 6 ∷ 7 ∷ 8 ∷ 9 ∷ 10 ∷ 11 ∷ 12 ∷ 13 ∷ 14 ∷ 15 ∷ []) b)

pub empty-new : (kinds : List Kind) (seals : List (Option Shared)) → seals ≡ replicate 16 None → FileRows kinds [] [] → (b : ℕ) → b < 16 → FileRows kinds (bytes_in (files_of seals) b) []
empty-new kinds seals none empty = λ b within. subst (λ bytes. FileRows kinds bytes []) (sym (no-bytes seals none b)) empty
