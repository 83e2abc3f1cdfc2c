-- Tables of a cache.
use Rattle.std.proofs.Common.{◌≡◌, ◌≢◌, ℕ, zero, suc, ◌+◌, ◌-◌, ◌<◌, ◌≤◌, ◌==◌, ◌||◌, Bool, true, false, not, cond, ltb, List, [], ◌∷◌, ◌++◌, length, take, Option, Some, None, position, is_some, IsSome, slice_index_or, slice_set, refl, sym, ◌∙◌, ap, subst, arith, inl, inr}
use Rattle.std.specs.List.{list_any, position_or_len}
use Rattle.std.proofs.lemmas.Bool.{cases_eq, eqb-true}
use Rattle.std.proofs.lemmas.List.{append-nil, append_assoc, get_or_default}
use Rattle.std.proofs.lemmas.Bool.Decides.{nat_tests}
use Rattle.std.proofs.lemmas.List.Quantifiers.{position-Some}
use Rattle.std.proofs.lemmas.Grind.{common_steps}
use Rattle.hq_snap.specs.declared.scope.Scope.{Scope}
use Rattle.hq_snap.specs.declared.scope.Have.{Have}
use Rattle.hq_snap.specs.Snaps.{TableSnapState, AreMerged}
use Rattle.hq_snap.specs.Caches.{CacheState, CachedState, is_table, cached, cached_in, have_one, have_of, no_snap, snap_at, AreDistinct, IsMergedTo, IsMerged, MergesAll}

-- the tables of a scope, with one table more
pub have_more : (scope : Scope) (snaps : List TableSnapState) (ps : List ℕ) (i : ℕ) → i < length snaps → length ps ≡ length snaps
    → have_of scope (take (suc i) snaps) (take (suc i) ps) ≡ have_of scope (take i snaps) (take i ps) ++ have_one scope (slice_index_or snaps i no_snap) (slice_index_or ps i 0)
have_more scope [] ps i h e = absurd (omega arith)
have_more scope (s ∷ ss) [] i h e = absurd (omega (arith, e))
have_more scope (s ∷ ss) (p ∷ ps) zero h e = append-nil (have_one scope s p)
have_more scope (s ∷ ss) (p ∷ ps) (suc i) h e =
    ap (λ (xs : List Have). have_one scope s p ++ xs) (have_more scope ss ps i (omega arith) (omega (arith, e)))
    ∙ sym (append_assoc (have_one scope s p) (have_of scope (take i ss) (take i ps)) (have_one scope (slice_index_or ss i no_snap) (slice_index_or ps i 0)))

pub is_same : (t : ℕ) → (t == t) ≡ true
is_same t = grind (arith, common_steps)

pub is_other : (u t : ℕ) → u ≢ t → (u == t) ≡ false
is_other u t h = grind (arith, common_steps)

-- the table of a number that is first at place i
pub cached_at : (t : ℕ) (ss : List TableSnapState) (ps : List ℕ) (i : ℕ) → i < length ss → length ps ≡ length ss → is_table t (slice_index_or ss i no_snap) ≡ true
    → ((k : ℕ) → k < i → is_table t (slice_index_or ss k no_snap) ≡ false) → cached t ss ps ≡ Some (record { at = slice_index_or ps i 0; snap = slice_index_or ss i no_snap })
cached_at t [] ps i h e here before = absurd (omega arith)
cached_at t (s ∷ ss) [] i h e here before = absurd (omega (arith, e))
cached_at t (s ∷ ss) (p ∷ ps) zero h e here before = ap (λ b. cond b (Some (record { at = p; snap = s })) (cached t ss ps)) here
cached_at t (s ∷ ss) (p ∷ ps) (suc i) h e here before =
    ap (λ b. cond b (Some (record { at = p; snap = s })) (cached t ss ps)) (before 0 (omega arith))
    ∙ cached_at t ss ps i (omega arith) (omega (arith, e)) here (λ k lt. before (suc k) (omega arith))

-- it is set
pub cached_set : (t : ℕ) (ss : List TableSnapState) (ps : List ℕ) (i : ℕ) (y : TableSnapState) (q : ℕ) → i < length ss → length ps ≡ length ss → y.table ≡ t
    → ((k : ℕ) → k < i → is_table t (slice_index_or ss k no_snap) ≡ false) → cached t (slice_set ss i y) (slice_set ps i q) ≡ Some (record { at = q; snap = y })
cached_set t [] ps i y q h e here before = absurd (omega arith)
cached_set t (s ∷ ss) [] i y q h e here before = absurd (omega (arith, e))
cached_set t (s ∷ ss) (p ∷ ps) zero y q h e here before = ap (λ b. cond b (Some (record { at = q; snap = y })) (cached t ss ps)) (ap (λ k. k == t) here ∙ is_same t)
cached_set t (s ∷ ss) (p ∷ ps) (suc i) y q h e here before =
    ap (λ b. cond b (Some (record { at = p; snap = s })) (cached t (slice_set ss i y) (slice_set ps i q))) (before 0 (omega arith))
    ∙ cached_set t ss ps i y q (omega arith) (omega (arith, e)) here (λ k lt. before (suc k) (omega arith))

-- another table stays when it is set
pub cached_other : (u t : ℕ) → u ≢ t → (ss : List TableSnapState) (ps : List ℕ) (i : ℕ) (y : TableSnapState) (q : ℕ) → i < length ss → length ps ≡ length ss
    → y.table ≡ t → (slice_index_or ss i no_snap).table ≡ t → cached u (slice_set ss i y) (slice_set ps i q) ≡ cached u ss ps
cached_other u t d [] ps i y q h e new old = absurd (omega arith)
cached_other u t d (s ∷ ss) [] i y q h e new old = absurd (omega (arith, e))
cached_other u t d (s ∷ ss) (p ∷ ps) zero y q h e new old =
    ap (λ b. cond b (Some (record { at = q; snap = y })) (cached u ss ps)) (ap (λ k. k == u) new ∙ is_other t u (λ x. d (sym x)))
    ∙ sym (ap (λ b. cond b (Some (record { at = p; snap = s })) (cached u ss ps)) (ap (λ k. k == u) old ∙ is_other t u (λ x. d (sym x))))
cached_other u t d (s ∷ ss) (p ∷ ps) (suc i) y q h e new old =
    ap (cond (is_table u s) (Some (record { at = p; snap = s }))) (cached_other u t d ss ps i y q (omega arith) (omega (arith, e)) new old)

-- it is pushed
pub cached_push : (t : ℕ) (ss : List TableSnapState) (ps : List ℕ) (y : TableSnapState) (q : ℕ) → length ps ≡ length ss → y.table ≡ t
    → list_any (is_table t) ss ≡ false → cached t (ss ++ y ∷ []) (ps ++ q ∷ []) ≡ Some (record { at = q; snap = y })
cached_push t [] [] y q e here none = ap (λ b. cond b (Some (record { at = q; snap = y })) None) (ap (λ k. k == t) here ∙ is_same t)
cached_push t [] (p ∷ ps) y q e here none = absurd (omega (arith, e))
cached_push t (s ∷ ss) [] y q e here none = absurd (omega (arith, e))
cached_push t (s ∷ ss) (p ∷ ps) y q e here none =
    let h = or_none (is_table t s) (list_any (is_table t) ss) none in
    ap (λ b. cond b (Some (record { at = p; snap = s })) (cached t (ss ++ y ∷ []) (ps ++ q ∷ []))) h.0 ∙ cached_push t ss ps y q (omega (arith, e)) here h.1
  where
    or_none : (a b : Bool) → (a || b) ≡ false → (a ≡ false) × (b ≡ false)
    or_none true b e = cc
    or_none false b e = (refl, e)

-- it was not there
pub not_cached : (t : ℕ) (ss : List TableSnapState) (ps : List ℕ) → list_any (is_table t) ss ≡ false → cached t ss ps ≡ None
not_cached t [] ps none = refl
not_cached t (s ∷ ss) [] none = refl
not_cached t (s ∷ ss) (p ∷ ps) none =
    let h = or_none (is_table t s) (list_any (is_table t) ss) none in
    ap (λ b. cond b (Some (record { at = p; snap = s })) (cached t ss ps)) h.0 ∙ not_cached t ss ps h.1
  where
    or_none : (a b : Bool) → (a || b) ≡ false → (a ≡ false) × (b ≡ false)
    or_none true b e = cc
    or_none false b e = (refl, e)

-- another table stays when it is pushed
pub cached_push_other : (u t : ℕ) → u ≢ t → (ss : List TableSnapState) (ps : List ℕ) (y : TableSnapState) (q : ℕ) → length ps ≡ length ss → y.table ≡ t
    → cached u (ss ++ y ∷ []) (ps ++ q ∷ []) ≡ cached u ss ps
cached_push_other u t d [] [] y q e new = ap (λ b. cond b (Some (record { at = q; snap = y })) None) (ap (λ k. k == u) new ∙ is_other t u (λ x. d (sym x)))
cached_push_other u t d [] (p ∷ ps) y q e new = absurd (omega (arith, e))
cached_push_other u t d (s ∷ ss) [] y q e new = absurd (omega (arith, e))
cached_push_other u t d (s ∷ ss) (p ∷ ps) y q e new = ap (cond (is_table u s) (Some (record { at = p; snap = s }))) (cached_push_other u t d ss ps y q (omega (arith, e)) new)

-- a place is found exactly where one passes
front : (b : Bool) (m n : ℕ) (r : Bool) → ltb m n ≡ r → ltb (cond (not b) (1 + m) 0) (suc n) ≡ (b || r)
front true m n r e = grind (arith, nat_tests)
front false m n r e = let step : ltb (1 + m) (suc n) ≡ ltb m n = grind (arith, nat_tests) in step ∙ e

found_where_one_passes : (test : TableSnapState → Bool) (ss : List TableSnapState) → ltb (position_or_len test ss) (length ss) ≡ list_any test ss
found_where_one_passes test [] = refl
found_where_one_passes test (x ∷ xs) = front (test x) (position_or_len test xs) (length xs) (list_any test xs) (found_where_one_passes test xs)

is_some-chosen : (b : Bool) (n : ℕ) → is_some (cond b (Some n) None) ≡ b
is_some-chosen true n = refl
is_some-chosen false n = refl

pub none_passes : (test : TableSnapState → Bool) (ss : List TableSnapState) → position test ss ≡ None → list_any test ss ≡ false
none_passes test ss e = sym (sym (ap is_some e) ∙ is_some-chosen (ltb (position_or_len test ss) (length ss)) (position_or_len test ss) ∙ found_where_one_passes test ss)

-- of a list that is merged from its end the members from place `from` on are merged, where no table stands twice
pub record IsMergedBack (at : ℕ) (delta : List TableSnapState) (old new : CacheState) (from : ℕ) : Type 0 where
  pub merged : AreDistinct delta → (i : ℕ) → from ≤ i → i < length delta → IsMerged at (snap_at delta i) (cached_in old (snap_at delta i).table) (cached_in new (snap_at delta i).table)
  pub others : (t : ℕ) → ((i : ℕ) → from ≤ i → i < length delta → (snap_at delta i).table ≢ t) → cached_in new t ≡ cached_in old t

pub none_back : (at : ℕ) (delta : List TableSnapState) (old : CacheState) → IsMergedBack at delta old old (length delta)
none_back at delta old = record { merged = λ d i lo hi. absurd (omega arith); others = λ t h. refl }

pub more_back : (at : ℕ) (delta : List TableSnapState) (old now new : CacheState) (from : ℕ) (snap : TableSnapState) → snap ≡ snap_at delta from → from < length delta
    → IsMergedBack at delta old now (from + 1) → IsMerged at snap (cached_in now snap.table) (cached_in new snap.table) → ((t : ℕ) → t ≢ snap.table → cached_in new t ≡ cached_in now t)
    → IsMergedBack at delta old new from
more_back at delta old now new from snap e lt so one others = record {
  merged = λ d i lo hi. elim (cases_eq i from) [
    | inl same ↦ (let s : snap ≡ snap_at delta i = e ∙ ap (snap_at delta) (sym same) in
        let before : cached_in now snap.table ≡ cached_in old snap.table = so.others snap.table (λ j lo' hi' x. d from j (omega arith) hi' (ap (λ (z : TableSnapState). z.table) (sym e) ∙ sym x)) in
        subst (λ (z : TableSnapState). IsMerged at z (cached_in old z.table) (cached_in new z.table)) s (subst (λ o. IsMerged at snap o (cached_in new snap.table)) before one))
    | inr other ↦ (let apart : (snap_at delta i).table ≢ snap.table = λ x. d from i (omega (arith, other)) hi (sym (x ∙ ap (λ (z : TableSnapState). z.table) e)) in
        subst (λ o. IsMerged at (snap_at delta i) (cached_in old (snap_at delta i).table) o) (sym (others (snap_at delta i).table apart)) (so.merged d i (omega (arith, other)) hi))
  ];
  others = λ t h. others t (λ x. h from (omega arith) lt (ap (λ (z : TableSnapState). z.table) (sym e) ∙ sym x)) ∙ so.others t (λ i lo hi. h i (omega arith) hi);
}

any_at : (t : ℕ) (delta : List TableSnapState) (i : ℕ) → i < length delta → list_any (is_table t) delta ≡ false → is_table t (snap_at delta i) ≡ false
any_at t [] i h none = absurd (omega arith)
any_at t (s ∷ ss) zero h none = (or_none (is_table t s) (list_any (is_table t) ss) none).0
  where
    or_none : (a b : Bool) → (a || b) ≡ false → (a ≡ false) × (b ≡ false)
    or_none true b e = cc
    or_none false b e = (refl, e)
any_at t (s ∷ ss) (suc i) h none = any_at t ss i (omega arith) (or_none (is_table t s) (list_any (is_table t) ss) none).1
  where
    or_none : (a b : Bool) → (a || b) ≡ false → (a ≡ false) × (b ≡ false)
    or_none true b e = cc
    or_none false b e = (refl, e)

pub all_back : (at : ℕ) (delta : List TableSnapState) (old new : CacheState) → IsMergedBack at delta old new 0 → MergesAll at delta old new
all_back at delta old new so = record {
  merged = λ d i hi. so.merged d i (omega arith) hi;
  others = λ t none. so.others t (λ i lo hi x. absurd (let f = any_at t delta i hi none in let g : is_table t (snap_at delta i) ≡ true = ap (λ k. k == t) x ∙ is_same t in (let y : true ≡ false = sym g ∙ f in cc)));
}

-- the table was there, and is merged in its place
pub merged_found : (at i : ℕ) (ts : List TableSnapState) (ps : List ℕ) (snap r y : TableSnapState) → position (is_table snap.table) ts ≡ Some i → length ps ≡ length ts → r ≡ slice_index_or ts i r
    → y.table ≡ r.table → y.def ≡ snap.def → AreMerged snap.lanes r.lanes y.lanes → IsMerged at snap (cached snap.table ts ps) (cached snap.table (slice_set ts i y) (slice_set ps i at))
merged_found at i ts ps snap r y pos len read table def seals =
    let f = position-Some (is_table snap.table) ts i no_snap pos in
    let r_is : r ≡ slice_index_or ts i no_snap = read ∙ get_or_default ts i r no_snap f.0 in
    let own : (slice_index_or ts i no_snap).table ≡ snap.table = eqb-true (slice_index_or ts i no_snap).table snap.table f.1 in
    let y_is : y.table ≡ snap.table = table ∙ ap (λ (s : TableSnapState). s.table) r_is ∙ own in
    let to : IsMergedTo at snap (Some (record { at = slice_index_or ps i 0; snap = slice_index_or ts i no_snap })) (record { at = at; snap = y }) = record {
      place = refl;
      table = y_is;
      def = def;
      seals = subst (λ (s : TableSnapState). AreMerged snap.lanes s.lanes y.lanes) r_is seals;
    } in
    subst (λ o. IsMerged at snap o (cached snap.table (slice_set ts i y) (slice_set ps i at))) (sym (cached_at snap.table ts ps i f.0 len f.1 f.2))
    (subst (λ o. IsMerged at snap (Some (record { at = slice_index_or ps i 0; snap = slice_index_or ts i no_snap })) o) (sym (cached_set snap.table ts ps i y at f.0 len y_is f.2)) to)

pub others_found : (at i : ℕ) (ts : List TableSnapState) (ps : List ℕ) (snap r y : TableSnapState) → position (is_table snap.table) ts ≡ Some i → length ps ≡ length ts → r ≡ slice_index_or ts i r
    → y.table ≡ r.table → (t : ℕ) → t ≢ snap.table → cached t (slice_set ts i y) (slice_set ps i at) ≡ cached t ts ps
others_found at i ts ps snap r y pos len read table t d =
    let f = position-Some (is_table snap.table) ts i no_snap pos in
    let r_is : r ≡ slice_index_or ts i no_snap = read ∙ get_or_default ts i r no_snap f.0 in
    let own : (slice_index_or ts i no_snap).table ≡ snap.table = eqb-true (slice_index_or ts i no_snap).table snap.table f.1 in
    cached_other t snap.table d ts ps i y at f.0 len (table ∙ ap (λ (s : TableSnapState). s.table) r_is ∙ own) own

-- the table was not there, and is added
pub merged_new : (at : ℕ) (ts : List TableSnapState) (ps : List ℕ) (snap y : TableSnapState) → position (is_table snap.table) ts ≡ None → length ps ≡ length ts
    → y.table ≡ snap.table → y.def ≡ snap.def → AreMerged snap.lanes [] y.lanes → IsMerged at snap (cached snap.table ts ps) (cached snap.table (ts ++ y ∷ []) (ps ++ at ∷ []))
merged_new at ts ps snap y pos len table def seals =
    let none = none_passes (is_table snap.table) ts pos in
    let to : IsMergedTo at snap None (record { at = at; snap = y }) = record { place = refl; table = table; def = def; seals = seals } in
    subst (λ o. IsMerged at snap o (cached snap.table (ts ++ y ∷ []) (ps ++ at ∷ []))) (sym (not_cached snap.table ts ps none))
    (subst (IsMerged at snap None) (sym (cached_push snap.table ts ps y at len table none)) to)

-- a table that is found is there
pub there_found : (t i : ℕ) (ts : List TableSnapState) (ps : List ℕ) → position (is_table t) ts ≡ Some i → length ps ≡ length ts → IsSome (cached t ts ps)
there_found t i ts ps pos len =
    let f = position-Some (is_table t) ts i no_snap pos in
    ap is_some (cached_at t ts ps i f.0 len f.1 f.2)

-- where it is not found, there is room
pub room_new : (room : Bool) (t : ℕ) (ts : List TableSnapState) (ps : List ℕ) → (room ≡ false → IsSome (cached t ts ps)) → position (is_table t) ts ≡ None → room ≡ true
room_new true t ts ps there pos = refl
room_new false t ts ps there pos = sym (ap is_some (not_cached t ts ps (none_passes (is_table t) ts pos))) ∙ there refl

merged_some : (at : ℕ) (snap : TableSnapState) (old new : Option CachedState) → IsMerged at snap old new → IsSome new
merged_some at snap old None h = absurd h
merged_some at snap old (Some c) h = refl

-- what is there stays there
pub stays_there : (at : ℕ) (snap : TableSnapState) (now new : CacheState) → IsMerged at snap (cached_in now snap.table) (cached_in new snap.table)
    → ((t : ℕ) → t ≢ snap.table → cached_in new t ≡ cached_in now t) → (t : ℕ) → IsSome (cached_in now t) → IsSome (cached_in new t)
stays_there at snap now new one others t h = elim (cases_eq t snap.table) [
  | inl same ↦ subst (λ k. IsSome (cached_in new k)) (sym same) (merged_some at snap (cached_in now snap.table) (cached_in new snap.table) one)
  | inr other ↦ ap is_some (others t other) ∙ h
]
