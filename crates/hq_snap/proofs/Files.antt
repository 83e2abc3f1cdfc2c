-- Files with their seals.
use Rattle.std.proofs.Common.{◌≡◌, ◌≢◌, ◌⊎◌, ℕ, zero, suc, ◌+◌, ◌<◌, ◌≤◌, ◌==◌, ◌&&◌, Bool, true, false, cond, ltb, List, [], ◌∷◌, ◌++◌, length, map, Option, Some, None, refl, sym, ◌∙◌, ap, subst, arith, inl, inr}
use Rattle.std.specs.List.{range_with_len}
use Rattle.std.proofs.lemmas.Bool.{cases_eq, le-ltb}
use Rattle.std.proofs.lemmas.List.{append-nil, append_assoc, get_or_past}
use Rattle.std.proofs.lemmas.List.FromFn.{length-map-range_with_len, get_or-map-range_with_len}
use Rattle.hq_store.specs.FileStep.{SealState}
use Rattle.hq_snap.specs.Snaps.{seal_at, seal_in, lane_in, change_at, changes_in, is_since, kept_if, newer, AreSince}
use Rattle.hq_snap.specs.Deltas.{FileSealState, seal_if, file_seal, lanes_of, file_if, seal_since, files_in, files_since, OthersAreAtMost, ArePlaces}
use Rattle.hq_snap.proofs.Elements.{below_or}
use Rattle.hq_snap.proofs.Cached.{is_same, is_other}
use Rattle.hq_snap.proofs.Since.{kept_none, newer_none}

pub newer_of : (a b c : Option SealState) → newer (newer a b) c ≡ newer a (newer b c)
newer_of None b c = refl
newer_of (Some z) b c = refl

pub file_seal_append : (xs ys : List FileSealState) (n b : ℕ) → file_seal (xs ++ ys) n b ≡ newer (file_seal xs n b) (file_seal ys n b)
file_seal_append [] ys n b = refl
file_seal_append (x ∷ xs) ys n b = ap (newer (seal_if x n b)) (file_seal_append xs ys n b) ∙ sym (newer_of (seal_if x n b) (file_seal xs n b) (file_seal ys n b))

if_kept : (c : Bool) (z : SealState) → cond c (Some z) None ≡ kept_if c (Some z)
if_kept true z = refl
if_kept false z = refl

-- of one file
file_if_seal : (k i : ℕ) (s : Option SealState) (n b : ℕ) → file_seal (file_if k i s) n b ≡ kept_if ((k == n) && (i == b)) s
file_if_seal k i None n b = sym (kept_none ((k == n) && (i == b)))
file_if_seal k i (Some z) n b = newer_none (seal_if (record { lane = k; bucket = i; seal = z }) n b) ∙ if_kept ((k == n) && (i == b)) z

one_other : (k i : ℕ) (s : Option SealState) (n b : ℕ) → k ≢ n → file_seal (file_if k i s) n b ≡ None
one_other k i s n b d = file_if_seal k i s n b ∙ ap (λ c. kept_if (c && (i == b)) s) (is_other k n d)

one_bucket : (k i : ℕ) (s : Option SealState) (b : ℕ) → i ≢ b → file_seal (file_if k i s) k b ≡ None
one_bucket k i s b d = file_if_seal k i s k b ∙ ap (λ c. kept_if (c && (i == b)) s) (is_same k) ∙ ap (λ c. kept_if c s) (is_other i b d)

one_same : (k i : ℕ) (s : Option SealState) → file_seal (file_if k i s) k i ≡ s
one_same k i s = file_if_seal k i s k i ∙ ap (λ c. kept_if (c && (i == i)) s) (is_same k) ∙ ap (λ c. kept_if c s) (is_same i)

-- of the files of one lane
in_other : (k n b : ℕ) → k ≢ n → (places : List ℕ) (at : ℕ) (seals : List (Option SealState)) (i : ℕ) → file_seal (files_in k places at seals i) n b ≡ None
in_other k n b d places at seals zero = refl
in_other k n b d places at seals (suc i) =
    file_seal_append (files_in k places at seals i) (file_if k i (seal_since places at seals i)) n b
    ∙ ap (λ x. newer x (file_seal (file_if k i (seal_since places at seals i)) n b)) (in_other k n b d places at seals i)
    ∙ one_other k i (seal_since places at seals i) n b d

in_above : (k b : ℕ) (places : List ℕ) (at : ℕ) (seals : List (Option SealState)) (i : ℕ) → i ≤ b → file_seal (files_in k places at seals i) k b ≡ None
in_above k b places at seals zero h = refl
in_above k b places at seals (suc i) h =
    file_seal_append (files_in k places at seals i) (file_if k i (seal_since places at seals i)) k b
    ∙ ap (λ x. newer x (file_seal (file_if k i (seal_since places at seals i)) k b)) (in_above k b places at seals i (omega arith))
    ∙ one_bucket k i (seal_since places at seals i) b (λ e. absurd (omega (arith, e)))

in_below : (k b : ℕ) (places : List ℕ) (at : ℕ) (seals : List (Option SealState)) (i : ℕ) → b < i → file_seal (files_in k places at seals i) k b ≡ seal_since places at seals b
in_below k b places at seals zero h = absurd (omega arith)
in_below k b places at seals (suc i) h =
    let part = file_seal_append (files_in k places at seals i) (file_if k i (seal_since places at seals i)) k b in
    elim (cases_eq i b) [
      | inl same ↦ part ∙ ap (λ x. newer x (file_seal (file_if k i (seal_since places at seals i)) k b)) (in_above k b places at seals i (omega (arith, same)))
          ∙ subst (λ j. file_seal (file_if k i (seal_since places at seals i)) k j ≡ seal_since places at seals j) same (one_same k i (seal_since places at seals i))
      | inr other ↦ part ∙ ap (newer (file_seal (files_in k places at seals i) k b)) (one_bucket k i (seal_since places at seals i) b other)
          ∙ newer_none (file_seal (files_in k places at seals i) k b) ∙ in_below k b places at seals i (omega (arith, other))
    ]

-- of all files of one lane
in_any : (k b : ℕ) (places : List ℕ) (at : ℕ) (seals : List (Option SealState)) → file_seal (files_in k places at seals (length seals)) k b ≡ seal_since places at seals b
in_any k b places at seals = elim (below_or b (length seals)) [
  | inl h ↦ in_below k b places at seals (length seals) h
  | inr h ↦ in_above k b places at seals (length seals) h ∙ sym (ap (kept_if (ltb at (change_at places b))) (get_or_past seals b None h) ∙ kept_none (ltb at (change_at places b)))
]

abbrev all_in : List (List ℕ) → ℕ → List (List (Option SealState)) → ℕ → List FileSealState
all_in changed at lanes n = files_in n (changes_in changed n) at (lane_in lanes n) (length (lane_in lanes n))

-- of the files of the first lanes
since_above : (changed : List (List ℕ)) (at : ℕ) (lanes : List (List (Option SealState))) (m b k : ℕ) → k ≤ m → file_seal (files_since changed at lanes k) m b ≡ None
since_above changed at lanes m b zero h = refl
since_above changed at lanes m b (suc n) h =
    file_seal_append (files_since changed at lanes n) (all_in changed at lanes n) m b
    ∙ ap (λ x. newer x (file_seal (all_in changed at lanes n) m b)) (since_above changed at lanes m b n (omega arith))
    ∙ in_other n m b (λ e. absurd (omega (arith, e))) (changes_in changed n) at (lane_in lanes n) (length (lane_in lanes n))

since_below : (changed : List (List ℕ)) (at : ℕ) (lanes : List (List (Option SealState))) (m b k : ℕ) → m < k
    → file_seal (files_since changed at lanes k) m b ≡ seal_since (changes_in changed m) at (lane_in lanes m) b
since_below changed at lanes m b zero h = absurd (omega arith)
since_below changed at lanes m b (suc n) h =
    let part = file_seal_append (files_since changed at lanes n) (all_in changed at lanes n) m b in
    elim (cases_eq n m) [
      | inl same ↦ part ∙ ap (λ x. newer x (file_seal (all_in changed at lanes n) m b)) (since_above changed at lanes m b n (omega (arith, same)))
          ∙ subst (λ j. file_seal (all_in changed at lanes n) j b ≡ seal_since (changes_in changed j) at (lane_in lanes j) b) same (in_any n b (changes_in changed n) at (lane_in lanes n))
      | inr other ↦ part ∙ ap (newer (file_seal (files_since changed at lanes n) m b)) (in_other n m b other (changes_in changed n) at (lane_in lanes n) (length (lane_in lanes n)))
          ∙ newer_none (file_seal (files_since changed at lanes n) m b) ∙ since_below changed at lanes m b n (omega (arith, other))
    ]

-- the lists of the lanes
lane_of : (files : List FileSealState) (n : ℕ) → n < 64 → lane_in (lanes_of files) n ≡ map (file_seal files n) (range_with_len 0 16)
unfolding lanes_of
lane_of files n h = get_or-map-range_with_len (λ k. map (file_seal files k) (range_with_len 0 16)) 0 64 n n [] h (omega arith)

pub seal_of : (files : List FileSealState) (n b : ℕ) → n < 64 → b < 16 → seal_in (lanes_of files) n b ≡ file_seal files n b
seal_of files n b h w = ap (λ l. seal_at l b) (lane_of files n h) ∙ get_or-map-range_with_len (file_seal files n) 0 16 b b None w (omega arith)

past_lanes : (lanes : List (List (Option SealState))) (n b : ℕ) → length lanes ≤ n → seal_in lanes n b ≡ None
past_lanes lanes n b h = ap (λ l. seal_at l b) (get_or_past lanes n [] h)

past_places : (lanes : List (List (Option SealState))) (n b : ℕ) → length (lane_in lanes n) ≤ b → seal_in lanes n b ≡ None
past_places lanes n b h = get_or_past (lane_in lanes n) b None h

many_lanes : (files : List FileSealState) → length (lanes_of files) ≡ 64
unfolding lanes_of
many_lanes files = length-map-range_with_len (λ k. map (file_seal files k) (range_with_len 0 16)) 0 64

many_places : (files : List FileSealState) (n : ℕ) → n < 64 → length (lane_in (lanes_of files) n) ≡ 16
many_places files n h = ap (λ l. length l) (lane_of files n h) ∙ length-map-range_with_len (file_seal files n) 0 16

pub places_of : (files : List FileSealState) → ArePlaces (lanes_of files)
places_of files = record { many = many_lanes files; places = many_places files }

-- beyond 64 lanes of 16 places there is nothing
pub outside : (lanes : List (List (Option SealState))) → length lanes ≡ 64 → ((n : ℕ) → n < 64 → length (lane_in lanes n) ≤ 16)
    → (n b : ℕ) → (64 ≤ n) ⊎ (16 ≤ b) → seal_in lanes n b ≡ None
outside lanes many few n b (inl h) = past_lanes lanes n b (omega (arith, many))
outside lanes many few n b (inr h) = elim (below_or n 64) [
  | inl lt ↦ past_places lanes n b (omega (arith, few n lt))
  | inr ge ↦ past_lanes lanes n b (omega (arith, many))
]

-- inside or beyond
pub where_is : (n b : ℕ) → ((n < 64) × (b < 16)) ⊎ ((64 ≤ n) ⊎ (16 ≤ b))
where_is n b = elim (below_or n 64) [
  | inl h ↦ elim (below_or b 16) [ inl w ↦ inl (h, w) | inr v ↦ inr (inr v) ]
  | inr g ↦ inr (inl g)
]

few_of : (lanes : List (List (Option SealState))) → ArePlaces lanes → (n : ℕ) → n < 64 → length (lane_in lanes n) ≤ 16
few_of lanes p n h = omega (arith, p.places n h)

pub outside_places : (lanes : List (List (Option SealState))) → ArePlaces lanes → (n b : ℕ) → (64 ≤ n) ⊎ (16 ≤ b) → seal_in lanes n b ≡ None
outside_places lanes p n b out = outside lanes p.many (few_of lanes p) n b out

-- of all lanes these are the files that changed since
pub since_all : (changed : List (List ℕ)) (at : ℕ) (lanes : List (List (Option SealState))) → length lanes ≡ 64 → ((n : ℕ) → n < 64 → length (lane_in lanes n) ≤ 16)
    → (files : List FileSealState) → files ≡ files_since changed at lanes (length lanes) → AreSince changed at lanes (lanes_of files)
since_all changed at lanes many few files e n b = elim (where_is n b) [
  | inl h ↦ seal_of files n b h.0 h.1 ∙ ap (λ fs. file_seal fs n b) e ∙ since_below changed at lanes n b (length lanes) (omega (arith, many, h.0))
  | inr out ↦ outside_places (lanes_of files) (places_of files) n b out
      ∙ sym (ap (kept_if (is_since changed at n b)) (outside lanes many few n b out) ∙ kept_none (is_since changed at n b))
]

-- a file that did not change is none of them
still_none : (places : List ℕ) (at : ℕ) (seals : List (Option SealState)) (k b : ℕ) → change_at places b ≤ at → file_if k b (seal_since places at seals b) ≡ []
still_none places at seals k b h = ap (λ c. file_if k b (kept_if c (seal_at seals b))) (le-ltb at (change_at places b) h)

pub none_in : (places : List ℕ) (at : ℕ) (seals : List (Option SealState)) (k i : ℕ) → ((b : ℕ) → change_at places b ≤ at) → files_in k places at seals i ≡ []
none_in places at seals k zero h = refl
none_in places at seals k (suc i) h =
    ap (λ (xs : List FileSealState). xs ++ file_if k i (seal_since places at seals i)) (none_in places at seals k i h) ∙ still_none places at seals k i (h i)

-- where only one file may have changed
only_above : (places : List ℕ) (at : ℕ) (seals : List (Option SealState)) (k last i : ℕ) → i ≤ last → OthersAreAtMost at last places → files_in k places at seals i ≡ []
only_above places at seals k last zero w h = refl
only_above places at seals k last (suc i) w h =
    ap (λ (xs : List FileSealState). xs ++ file_if k i (seal_since places at seals i)) (only_above places at seals k last i (omega arith) h)
    ∙ still_none places at seals k i (h i (λ e. absurd (omega (arith, e))))

pub only_in : (places : List ℕ) (at : ℕ) (seals : List (Option SealState)) (k last i : ℕ) → last < i → OthersAreAtMost at last places
    → files_in k places at seals i ≡ file_if k last (seal_since places at seals last)
only_in places at seals k last zero w h = absurd (omega arith)
only_in places at seals k last (suc i) w h = elim (cases_eq i last) [
  | inl same ↦ ap (λ (xs : List FileSealState). xs ++ file_if k i (seal_since places at seals i)) (only_above places at seals k last i (omega (arith, same)) h)
      ∙ ap (λ j. file_if k j (seal_since places at seals j)) same
  | inr other ↦ ap (λ (xs : List FileSealState). files_in k places at seals i ++ xs) (still_none places at seals k i (h i other)) ∙ append-nil (files_in k places at seals i)
      ∙ only_in places at seals k last i (omega (arith, other)) h
]

-- one file more
pub files_more : (k : ℕ) (places : List ℕ) (at : ℕ) (seals : List (Option SealState)) (i : ℕ) (xs ys zs : List FileSealState) → ys ≡ xs ++ files_in k places at seals i
    → zs ≡ ys ++ file_if k i (seal_since places at seals i) → zs ≡ xs ++ files_in k places at seals (i + 1)
files_more k places at seals i xs ys zs e f =
    f ∙ ap (λ (l : List FileSealState). l ++ file_if k i (seal_since places at seals i)) e ∙ append_assoc xs (files_in k places at seals i) (file_if k i (seal_since places at seals i))
    ∙ ap (λ j. xs ++ files_in k places at seals j) (let one : suc i ≡ i + 1 = omega arith in one)

-- a lane that did not change has none
pub still_all : (k : ℕ) (places : List ℕ) (at : ℕ) (seals : List (Option SealState)) (xs : List FileSealState) → ((b : ℕ) → change_at places b ≤ at)
    → xs ≡ xs ++ files_in k places at seals (length seals)
still_all k places at seals xs h = sym (ap (λ (l : List FileSealState). xs ++ l) (none_in places at seals k (length seals) h) ∙ append-nil xs)

-- the only file that may have changed is all
only_of : (k : ℕ) (places : List ℕ) (at : ℕ) (seals : List (Option SealState)) (last : ℕ) → OthersAreAtMost at last places
    → file_if k last (seal_since places at seals last) ≡ files_in k places at seals (length seals)
only_of k places at seals last h = elim (below_or last (length seals)) [
  | inl within ↦ sym (only_in places at seals k last (length seals) within h)
  | inr beyond ↦ ap (λ s. file_if k last (kept_if (ltb at (change_at places last)) s)) (get_or_past seals last None beyond) ∙ ap (file_if k last) (kept_none (ltb at (change_at places last)))
      ∙ sym (only_above places at seals k last (length seals) beyond h)
]

pub only_all : (k : ℕ) (places : List ℕ) (at : ℕ) (seals : List (Option SealState)) (last : ℕ) (xs ys : List FileSealState) → OthersAreAtMost at last places
    → ys ≡ xs ++ file_if k last (seal_since places at seals last) → ys ≡ xs ++ files_in k places at seals (length seals)
only_all k places at seals last xs ys h e = e ∙ ap (λ (l : List FileSealState). xs ++ l) (only_of k places at seals last h)

-- one lane more
pub lanes_more : (changed : List (List ℕ)) (at : ℕ) (lanes : List (List (Option SealState))) (n : ℕ) (xs ys : List FileSealState) (places : List ℕ) (seals : List (Option SealState))
    → xs ≡ files_since changed at lanes n → places ≡ changes_in changed n → seals ≡ lane_in lanes n → ys ≡ xs ++ files_in n places at seals (length seals) → ys ≡ files_since changed at lanes (n + 1)
lanes_more changed at lanes n xs ys places seals e p s f =
    f ∙ ap (λ (l : List FileSealState). l ++ files_in n places at seals (length seals)) e ∙ (λ j. files_since changed at lanes n ++ files_in n (p j) at (s j) (length (s j)))
    ∙ ap (files_since changed at lanes) (let one : suc n ≡ n + 1 = omega arith in one)

pub few_more : (lanes : List (List (Option SealState))) (n : ℕ) (seals : List (Option SealState)) → ((k : ℕ) → k < n → length (lane_in lanes k) ≤ 16) → seals ≡ lane_in lanes n
    → length seals ≤ 16 → (k : ℕ) → k < n + 1 → length (lane_in lanes k) ≤ 16
few_more lanes n seals few e h k lt = elim (cases_eq k n) [
  | inl same ↦ subst (λ j. length (lane_in lanes j) ≤ 16) (sym same) (subst (λ (l : List (Option SealState)). length l ≤ 16) e h)
  | inr other ↦ few k (omega (arith, other))
]
