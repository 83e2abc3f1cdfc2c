-- Seals that are put in their places.
use Rattle.std.proofs.Common.{◌≡◌, ◌≢◌, ℕ, zero, suc, ◌+◌, ◌<◌, ◌==◌, ◌&&◌, cond, List, [], ◌∷◌, length, replicate, drop, Option, Some, None, slice_index_or, slice_set, refl, sym, ◌∙◌, ap, subst, arith, inl, inr}
use Rattle.std.proofs.lemmas.Bool.{cases_eq}
use Rattle.std.proofs.lemmas.List.{get_or-set_same, get_or-set_other, length-set, length-replicate}
use Rattle.hq_store.specs.FileStep.{SealState}
use Rattle.hq_snap.specs.Snaps.{seal_at, seal_in, lane_in, newer, AreMerged}
use Rattle.hq_snap.specs.Deltas.{FileSealState, seal_if, file_seal, lanes_of, ArePlaces, IsPut}
use Rattle.hq_snap.proofs.Elements.{get_same, get_replicated, below_or}
use Rattle.hq_snap.proofs.Cached.{is_same, is_other}
use Rattle.hq_snap.proofs.Files.{newer_of, seal_of, places_of, where_is, outside_places}

abbrev pub put : List (List (Option SealState)) → ℕ → ℕ → SealState → List (List (Option SealState))
put lanes k i z = slice_set lanes k (slice_set (lane_in lanes k) i (Some z))

same_file : (k i : ℕ) (z : SealState) → seal_if (record { lane = k; bucket = i; seal = z }) k i ≡ Some z
same_file k i z = ap (λ c. cond (c && (i == i)) (Some z) None) (is_same k) ∙ ap (λ c. cond c (Some z) None) (is_same i)

other_bucket : (k i b : ℕ) (z : SealState) → i ≢ b → seal_if (record { lane = k; bucket = i; seal = z }) k b ≡ None
other_bucket k i b z d = ap (λ c. cond (c && (i == b)) (Some z) None) (is_same k) ∙ ap (λ c. cond c (Some z) None) (is_other i b d)

other_lane : (k i n b : ℕ) (z : SealState) → k ≢ n → seal_if (record { lane = k; bucket = i; seal = z }) n b ≡ None
other_lane k i n b z d = ap (λ c. cond (c && (i == b)) (Some z) None) (is_other k n d)

pub put_seals : (lanes : List (List (Option SealState))) (k i : ℕ) (z : SealState) → k < length lanes → i < length (lane_in lanes k)
    → IsPut (record { lane = k; bucket = i; seal = z }) lanes (put lanes k i z)
put_seals lanes k i z h w n b =
    let row = slice_set (lane_in lanes k) i (Some z) in
    elim (cases_eq k n) [
      | inr far ↦ ap (λ l. seal_at l b) (get_or-set_other lanes k n row [] (λ e. far (sym e))) ∙ sym (ap (λ s. newer s (seal_in lanes n b)) (other_lane k i n b z far))
      | inl here ↦ subst (λ m. seal_in (put lanes k i z) m b ≡ newer (seal_if (record { lane = k; bucket = i; seal = z }) m b) (seal_in lanes m b)) here
          (ap (λ l. seal_at l b) (get_or-set_same lanes k row [] h) ∙ elim (cases_eq i b) [
            | inr apart ↦ get_or-set_other (lane_in lanes k) i b (Some z) None (λ e. apart (sym e)) ∙ sym (ap (λ s. newer s (seal_in lanes k b)) (other_bucket k i b z apart))
            | inl same ↦ subst (λ c. seal_at row c ≡ newer (seal_if (record { lane = k; bucket = i; seal = z }) k c) (seal_in lanes k c)) same
                (get_or-set_same (lane_in lanes k) i (Some z) None w ∙ sym (ap (λ s. newer s (seal_in lanes k i)) (same_file k i z)))
          ])
    ]

pub put_places : (lanes : List (List (Option SealState))) (k i : ℕ) (z : SealState) → k < 64 → ArePlaces lanes → ArePlaces (put lanes k i z)
put_places lanes k i z h p =
    let row = slice_set (lane_in lanes k) i (Some z) in
    record {
      many = length-set lanes k row ∙ p.many;
      places = λ n lt. elim (cases_eq k n) [
        | inr far ↦ ap (λ (l : List (Option SealState)). length l) (get_or-set_other lanes k n row [] (λ e. far (sym e))) ∙ p.places n lt
        | inl here ↦ subst (λ m. length (lane_in (put lanes k i z) m) ≡ 16) here
            (ap (λ (l : List (Option SealState)). length l) (get_or-set_same lanes k row [] (omega (arith, p.many))) ∙ length-set (lane_in lanes k) i (Some z) ∙ p.places k h)
      ];
    }

pub lane_within : (lanes : List (List (Option SealState))) (k : ℕ) → ArePlaces lanes → k < 64 → k < length lanes
lane_within lanes k p h = omega (arith, p.many)

pub bucket_within : (lanes : List (List (Option SealState))) (k i : ℕ) → ArePlaces lanes → k < 64 → i < 16 → i < length (lane_in lanes k)
bucket_within lanes k i p h w = omega (arith, p.places k h)

-- the seal of a file is put
pub file_put : (f : FileSealState) (old new : List (List (Option SealState))) (k i : ℕ) (z : SealState) → ArePlaces old → k ≡ f.lane → k < 64 → i ≡ f.bucket → i < 16 → z ≡ f.seal
    → new ≡ put old k i z → IsPut f old new
file_put f old new k i z p ek hk ei hi ez en =
    subst (λ x. IsPut f old x) (sym en)
    (subst (λ (g : FileSealState). IsPut g old (put old k i z)) (λ j. record { lane = ek j; bucket = ei j; seal = ez j }) (put_seals old k i z (lane_within old k p hk) (bucket_within old k i p hk hi)))

pub file_places : (old new : List (List (Option SealState))) (k i : ℕ) (z : SealState) → ArePlaces old → k < 64 → new ≡ put old k i z → ArePlaces new
file_places old new k i z p hk en = subst ArePlaces (sym en) (put_places old k i z hk p)

abbrev pub no_row : List (Option SealState)
no_row = replicate 16 None

-- no file has a seal
abbrev pub no_table : List (List (Option SealState))
no_table = replicate 64 no_row

long_row : length no_row ≡ 16
long_row = length-replicate {A = Option SealState} 16 None

pub blank_places : ArePlaces no_table
blank_places = record {
  many = length-replicate {A = List (Option SealState)} 64 no_row;
  places = λ n h. ap (λ (l : List (Option SealState)). length l) (get_replicated {A = List (Option SealState)} 64 n no_row [] h) ∙ long_row;
}

pub blank_of : (lanes : List (List (Option SealState))) → lanes ≡ no_table → ArePlaces lanes
blank_of lanes e = subst ArePlaces (sym e) blank_places

no_seal : (b : ℕ) → seal_at no_row b ≡ None
no_seal b = get_same 16 b None

blank_seal : (n b : ℕ) → seal_in no_table n b ≡ None
blank_seal n b = elim (below_or n 64) [
  | inl h ↦ ap (λ l. seal_at l b) (get_replicated 64 n no_row [] h) ∙ no_seal b
  | inr g ↦ outside_places no_table blank_places n b (inl g)
]

pub blank_merged : (newest new : List (List (Option SealState))) → AreMerged newest no_table new → AreMerged newest [] new
blank_merged newest new h n b = h n b ∙ ap (newer (seal_in newest n b)) (blank_seal n b)

pub merged_of : (lanes : List (List (Option SealState))) (files : List FileSealState) (old new : List (List (Option SealState))) → lanes ≡ lanes_of files
    → AreMerged (lanes_of files) old new → AreMerged lanes old new
merged_of lanes files old new e h = subst (λ l. AreMerged l old new) (sym e) h

pub new_of : (lanes : List (List (Option SealState))) (files : List FileSealState) (old new : List (List (Option SealState))) → lanes ≡ lanes_of files
    → old ≡ no_table → AreMerged (lanes_of files) old new → AreMerged lanes [] new
new_of lanes files old new e blank h = blank_merged lanes new (subst (λ l. AreMerged lanes l new) blank (merged_of lanes files old new e h))

-- of a list that is merged from its end the members from place `from` on are put
pub record IsPutBack (files : List FileSealState) (old new : List (List (Option SealState))) (from : ℕ) : Type 0 where
  pub places : ArePlaces new
  pub seals : (n b : ℕ) → seal_in new n b ≡ newer (file_seal (drop from files) n b) (seal_in old n b)

drop_more : (d : FileSealState) (fs : List FileSealState) (j : ℕ) → j < length fs → drop j fs ≡ slice_index_or fs j d ∷ drop (j + 1) fs
drop_more d fs j h = (let one : j + 1 ≡ suc j = omega arith in from_here d fs j h ∙ ap (λ k. slice_index_or fs j d ∷ drop k fs) (sym one))
  where
    from_here : (d : FileSealState) (fs : List FileSealState) (j : ℕ) → j < length fs → drop j fs ≡ slice_index_or fs j d ∷ drop (suc j) fs
    from_here d [] j h = absurd (omega arith)
    from_here d (f ∷ fs) zero h = refl
    from_here d (f ∷ fs) (suc j) h = from_here d fs j (omega arith)

drop_none : (fs : List FileSealState) → drop (length fs) fs ≡ []
drop_none [] = refl
drop_none (f ∷ fs) = drop_none fs

pub none_back : (files : List FileSealState) (old : List (List (Option SealState))) → ArePlaces old → IsPutBack files old old (length files)
none_back files old p = record { places = p; seals = λ n b. sym (ap (λ fs. newer (file_seal fs n b) (seal_in old n b)) (drop_none files)) }

pub more_back : (files : List FileSealState) (old now new : List (List (Option SealState))) (from : ℕ) (f d : FileSealState) → f ≡ slice_index_or files from d → from < length files
    → IsPutBack files old now (from + 1) → ArePlaces new → IsPut f now new → IsPutBack files old new from
more_back files old now new from f d e lt so p one = record {
  places = p;
  seals = λ n b.
      one n b ∙ ap (newer (seal_if f n b)) (so.seals n b) ∙ sym (newer_of (seal_if f n b) (file_seal (drop (from + 1) files) n b) (seal_in old n b))
      ∙ ap (λ (g : FileSealState). newer (newer (seal_if g n b) (file_seal (drop (from + 1) files) n b)) (seal_in old n b)) e
      ∙ sym (ap (λ fs. newer (file_seal fs n b) (seal_in old n b)) (drop_more d files from lt));
}

pub all_back : (files : List FileSealState) (old new : List (List (Option SealState))) → ArePlaces old → IsPutBack files old new 0 → AreMerged (lanes_of files) old new
all_back files old new p so n b = elim (where_is n b) [
  | inl h ↦ so.seals n b ∙ sym (ap (λ s. newer s (seal_in old n b)) (seal_of files n b h.0 h.1))
  | inr out ↦ outside_places new so.places n b out
      ∙ sym (ap (λ s. newer s (seal_in old n b)) (outside_places (lanes_of files) (places_of files) n b out) ∙ outside_places old p n b out)
]
