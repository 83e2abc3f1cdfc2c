-- Joins by keys that conditions equate are those of which the laws of plans speak.
use Rattle.std.proofs.Common.{◌≡◌, ℕ, suc, ◌+◌, nat_lt, nat_le, true, not, ◌&&◌, ◌||◌, List, [], ◌∷◌, ◌++◌, length, length-append, append_assoc, map, flat_map, Option, Some, None, is_some, refl, sym, ◌∙◌, ap, subst, IsTrue}
use Rattle.std.specs.List.{list_any}
use Rattle.hq_value.specs.Tables.{all_below}
use Rattle.hq_value.specs.declared.kind.Kind.{Kind}
use Rattle.hq_algebra.specs.declared.expr.Expr.{Expr}
use Rattle.hq_algebra.specs.declared.query.Query.{Query}
use Rattle.hq_algebra.specs.Rules.{is_empty}
use Rattle.hq_algebra.specs.Queries.{product_kinds, are_conditions, query_kinds}
use Rattle.hq_algebra.specs.Plans.{is_short}
use Rattle.hq_laws.specs.Spread.{Way, CopyRight, CopyLeft, MoveBoth, MoveLeft, MoveRight, Stay, Joining, KeysAreImplied}
use Rattle.hq_laws.specs.Equated.{equates, keys_equated, moves_rows, is_equated, are_equated}
use Rattle.hq_laws.specs.Placed.{homes_after, stays_by, are_placed, sides_stay}
use Rattle.hq_laws.specs.Room.{way_stands, are_joinable}
use Rattle.hq_laws.proofs.Typing.{Seen, seen-from}
use Rattle.hq_laws.proofs.Equating.{keys-equated}
use Rattle.hq_laws.proofs.EquatedKinds.{keys-joinable}
use Rattle.hq_laws.proofs.Lists.{both_true}

module _ (w v : ℕ) (conds : List Expr) where
  as-many : (lk rk : List ℕ) → keys_equated w v conds lk rk ≡ true → length rk ≡ length lk
  as-many [] [] g = refl
  as-many [] (j ∷ js) g = cc
  as-many (i ∷ is) [] g = cc
  as-many (i ∷ is) (j ∷ js) g = ap suc (as-many is js (both_true _ _ g).1)

  both-below : (lk rk : List ℕ) → keys_equated w v conds lk rk ≡ true → (all_below w lk ≡ true) × (all_below v rk ≡ true)
  both-below [] [] g = (refl, refl)
  both-below [] (j ∷ js) g = cc
  both-below (i ∷ is) [] g = cc
  both-below (i ∷ is) (j ∷ js) g =
      let b : ((nat_lt i w && (nat_lt j v && list_any (equates i (w + j)) conds)) ≡ true) × (keys_equated w v conds is js ≡ true) = both_true _ _ g in
      let c : (nat_lt i w ≡ true) × ((nat_lt j v && list_any (equates i (w + j)) conds) ≡ true) = both_true _ _ b.0 in
      let d : (nat_lt j v ≡ true) × (list_any (equates i (w + j)) conds ≡ true) = both_true _ _ c.1 in
      let rest : (all_below w is ≡ true) × (all_below v js ≡ true) = both-below is js b.1 in
      ((λ t. c.0 t && rest.0 t), (λ t. d.0 t && rest.1 t))

  both-some : (lk rk : List ℕ) → keys_equated w v conds lk rk ≡ true → not (is_empty lk) ≡ true → not (is_empty rk) ≡ true
  both-some [] rk g h = cc
  both-some (i ∷ is) [] g h = cc
  both-some (i ∷ is) (j ∷ js) g h = refl

-- the rows before a join have these kinds
module _ (kinds : ℕ → List Kind) (conds : List Expr) where
  stands-by : (left right : List Kind) (lk rk : List ℕ) (way : Way) → keys_equated (length left) (length right) conds lk rk ≡ true → is_short lk ≡ true → is_short rk ≡ true → (not (moves_rows way) || not (is_empty lk)) ≡ true → way_stands way left right lk rk ≡ true
  stands-by left right lk rk CopyRight g s r m = refl
  stands-by left right lk rk CopyLeft g s r m = refl
  stands-by left right lk rk MoveBoth g s r m =
      let b : (all_below (length left) lk ≡ true) × (all_below (length right) rk ≡ true) = both-below (length left) (length right) conds lk rk g in
      λ t. (m t && (s t && b.0 t)) && (both-some (length left) (length right) conds lk rk g m t && (r t && b.1 t))
  stands-by left right lk rk MoveRight g s r m =
      let b : (all_below (length left) lk ≡ true) × (all_below (length right) rk ≡ true) = both-below (length left) (length right) conds lk rk g in
      λ t. both-some (length left) (length right) conds lk rk g m t && (r t && b.1 t)
  stands-by left right lk rk Stay g s r m = refl
  stands-by left right lk rk MoveLeft g s r m =
      let b : (all_below (length left) lk ≡ true) × (all_below (length right) rk ≡ true) = both-below (length left) (length right) conds lk rk g in
      λ t. m t && (s t && b.0 t)

  joinable : (left : List Kind) (js : List Joining) → are_equated kinds conds (length left) js ≡ true → are_conditions (left ++ flat_map kinds (map (λ (j : Joining). j.table) js)) conds ≡ true → are_joinable kinds left js ≡ true
  joinable left [] g fit = refl
  joinable left (j ∷ js) g fit =
      let b : (is_equated kinds conds (length left) j ≡ true) × (are_equated kinds conds (length left + length (kinds j.table)) js ≡ true) = both_true _ _ g in
      let c : (keys_equated (length left) (length (kinds j.table)) conds j.left_keys j.right_keys ≡ true) × ((is_short j.left_keys && (not (moves_rows j.way) || not (is_empty j.left_keys))) ≡ true) = both_true _ _ b.0 in
      let d : (is_short j.left_keys ≡ true) × ((not (moves_rows j.way) || not (is_empty j.left_keys)) ≡ true) = both_true _ _ c.1 in
      let fit_there : are_conditions ((left ++ kinds j.table) ++ flat_map kinds (map (λ (j : Joining). j.table) js)) conds ≡ true =
      ap (λ l. are_conditions l conds) (append_assoc left (kinds j.table) (flat_map kinds (map (λ (j : Joining). j.table) js))) ∙ fit in
      let right_short : is_short j.right_keys ≡ true = ap (λ n. nat_le n 65535) (as-many (length left) (length (kinds j.table)) conds j.left_keys j.right_keys c.0) ∙ d.0 in
      λ t. (keys-joinable left (kinds j.table) (flat_map kinds (map (λ (j : Joining). j.table) js)) conds fit_there j.left_keys j.right_keys c.0 t
      && ((d.0 t && right_short t) && stands-by left (kinds j.table) j.left_keys j.right_keys j.way c.0 d.0 right_short d.1 t))
      && joinable (left ++ kinds j.table) js (subst (λ n. are_equated kinds conds n js ≡ true) (sym (length-append left (kinds j.table))) b.1) fit_there t

  implied : (w : ℕ) (js : List Joining) → are_equated kinds conds w js ≡ true → KeysAreImplied kinds conds w js
  implied w [] g = tt
  implied w (j ∷ js) g =
      let b : (is_equated kinds conds w j ≡ true) × (are_equated kinds conds (w + length (kinds j.table)) js ≡ true) = both_true _ _ g in
      let c : (keys_equated w (length (kinds j.table)) conds j.left_keys j.right_keys ≡ true) × ((is_short j.left_keys && (not (moves_rows j.way) || not (is_empty j.left_keys))) ≡ true) = both_true _ _ b.0 in
      (keys-equated w (length (kinds j.table)) conds j.left_keys j.right_keys c.0, implied (w + length (kinds j.table)) js b.1)

pub equated-joinable : (kinds : ℕ → List Kind) (q : Query) (t : ℕ) (js : List Joining) → q.sources ≡ t ∷ map (λ (j : Joining). j.table) js → IsTrue (is_some (query_kinds kinds q)) → IsTrue (are_equated kinds q.conds (length (kinds t)) js) → IsTrue (are_joinable kinds (kinds t) js)
equated-joinable kinds q t js sources fits g = by (query_kinds kinds q) refl fits
  where
    by : (o : Option (List Kind)) → query_kinds kinds q ≡ o → is_some o ≡ true → are_joinable kinds (kinds t) js ≡ true
    by None f h = cc
    by (Some out) f h =
        let seen : Seen (product_kinds kinds q) q out = seen-from kinds q out f in
        joinable kinds q.conds (kinds t) js g (ap (λ ss. are_conditions (flat_map kinds ss) q.conds) (sym sources) ∙ seen.conds)

pub equated-implied : (kinds : ℕ → List Kind) (conds : List Expr) (w : ℕ) (js : List Joining) → IsTrue (are_equated kinds conds w js) → KeysAreImplied kinds conds w js
equated-implied kinds conds w js g = implied kinds conds w js g

pub equated-placed : (kinds : ℕ → List Kind) (own : ℕ → List ℕ) (conds : List Expr) (w : ℕ) (homes : List (List ℕ)) (js : List Joining) → IsTrue (are_equated kinds conds w js) → IsTrue (sides_stay kinds own w homes js) → IsTrue (are_placed kinds own w homes js)
equated-placed kinds own conds w homes [] g s = refl
equated-placed kinds own conds w homes (j ∷ js) g s =
    let b : (is_equated kinds conds w j ≡ true) × (are_equated kinds conds (w + length (kinds j.table)) js ≡ true) = both_true _ _ g in
    let c : (keys_equated w (length (kinds j.table)) conds j.left_keys j.right_keys ≡ true) × ((is_short j.left_keys && (not (moves_rows j.way) || not (is_empty j.left_keys))) ≡ true) = both_true _ _ b.0 in
    let d : (all_below w j.left_keys ≡ true) × (all_below (length (kinds j.table)) j.right_keys ≡ true) = both-below w (length (kinds j.table)) conds j.left_keys j.right_keys c.0 in
    let h : (stays_by j.way (own j.table) j.left_keys j.right_keys homes ≡ true) × (sides_stay kinds own (w + length (kinds j.table)) (homes_after j.way w (length (kinds j.table)) (own j.table) j.left_keys j.right_keys homes) js ≡ true) = both_true _ _ s in
    λ t. ((d.0 t && d.1 t) && h.0 t) && equated-placed kinds own conds (w + length (kinds j.table)) (homes_after j.way w (length (kinds j.table)) (own j.table) j.left_keys j.right_keys homes) js b.1 h.1 t
