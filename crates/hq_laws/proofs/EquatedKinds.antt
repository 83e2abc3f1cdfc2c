-- Keys that conditions of fitting kinds equate are of the same kinds.
use Rattle.std.proofs.Common.{◌≡◌, ℕ, zero, suc, ◌+◌, ◌<◌, nat_lt, Bool, true, false, ◌&&◌, ◌||◌, List, [], ◌∷◌, ◌++◌, append_assoc, length, Option, Some, None, is_some, refl, sym, ◌∙◌, ap, arith, slice_get}
use Rattle.std.specs.List.{list_any}
use Rattle.hq_value.specs.declared.kind.Kind.{Kind}
use Rattle.hq_value.specs.declared.kind.Kind.TheVariants as kind
use Rattle.hq_algebra.specs.declared.expr.Expr.{Expr, Row_of-Expr, end_of-Expr, more_of-Expr}
use Rattle.hq_algebra.specs.declared.expr.Expr.TheVariants as expr
use Rattle.hq_algebra.specs.Kinds.{◌>>=◌, same_kind, same_kinds, is_of, are_alike, kind_if, column_kind, expr_kind, kind_in, some_if}
use Rattle.hq_algebra.specs.Operators.{keys_kinds, join_kinds}
use Rattle.hq_algebra.specs.Queries.{are_conditions}
use Rattle.hq_laws.specs.Equated.{is_place, place_in, is_equal, equates, equates_in, keys_equated}
use Rattle.hq_laws.proofs.Equating.{either_true, by_either, below}
use Rattle.hq_laws.proofs.Lists.{eq_means, both_true}

if-bool : (b : Bool) → is_of kind.Bool (kind_if b kind.Bool) ≡ true → b ≡ true
if-bool true h = refl
if-bool false h = cc

same-equal : (j k : Kind) → same_kind j k ≡ true → j ≡ k
same-equal kind.Bool kind.Bool h = refl
same-equal kind.Bool kind.Int h = cc
same-equal kind.Bool kind.Text h = cc
same-equal kind.Int kind.Bool h = cc
same-equal kind.Int kind.Int h = refl
same-equal kind.Int kind.Text h = cc
same-equal kind.Text kind.Bool h = cc
same-equal kind.Text kind.Int h = cc
same-equal kind.Text kind.Text h = refl

module _ (kinds : List Kind) where
  -- two columns have one kind
  abbrev pub AreOfOneKind : ℕ → ℕ → Type 0
  AreOfOneKind i j = (k : Kind) × (slice_get kinds i ≡ Some k) × (slice_get kinds j ≡ Some k)

  turned : (i j : ℕ) → AreOfOneKind i j → AreOfOneKind j i
  turned i j same = (same.0, same.2, same.1)

  alike-same : (i j : ℕ) (o p : Option Kind) → slice_get kinds i ≡ o → slice_get kinds j ≡ p → are_alike (column_kind o) (column_kind p) ≡ true → AreOfOneKind i j
  alike-same i j None None e f h = cc
  alike-same i j None (Some k) e f h = cc
  alike-same i j (Some l) None e f h = cc
  alike-same i j (Some l) (Some k) e f h = (l, e, f ∙ ap Some (same-equal k l h))

  place-kind : (i : ℕ) (e : Expr) → is_place i e ≡ true → expr_kind kinds e ≡ column_kind (slice_get kinds i)
  place-kind i (expr.Column place) h = ap (λ p. column_kind (slice_get kinds p)) (eq_means place i h)
  place-kind i (expr.Literal v) h = cc
  place-kind i (expr.Arith' step p left q right) h = cc
  place-kind i (expr.Compare' step p left q right) h = cc
  place-kind i (expr.And' p left q right) h = cc
  place-kind i (expr.Or' p left q right) h = cc
  place-kind i (expr.Not' p of) h = cc
  place-kind i (expr.IsNull' p of) h = cc

  place_in-kind : {m : _} (i : ℕ) (of : Row_of-Expr m) → place_in i of ≡ true → kind_in kinds of ≡ column_kind (slice_get kinds i)
  place_in-kind i end_of-Expr h = cc
  place_in-kind i (more_of-Expr e rest) h = place-kind i e h

  sides-same : {m n : _} (i j : ℕ) (left : Row_of-Expr m) (right : Row_of-Expr n) → place_in i left ≡ true → place_in j right ≡ true → are_alike (kind_in kinds left) (kind_in kinds right) ≡ true → AreOfOneKind i j
  sides-same i j left right e f h = alike-same i j (slice_get kinds i) (slice_get kinds j) refl refl ((λ t. are_alike (sym (place_in-kind i left e) t) (sym (place_in-kind j right f) t)) ∙ h)

  module _ (i j : ℕ) where
    mutual
      equates-same : (e : Expr) → equates i j e ≡ true → is_of kind.Bool (expr_kind kinds e) ≡ true → AreOfOneKind i j
      equates-same (expr.Column place) g h = cc
      equates-same (expr.Literal v) g h = cc
      equates-same (expr.Arith' step p left q right) g h = cc
      equates-same (expr.Compare' step p left q right) g h =
          let b : (is_equal step ≡ true) × (((place_in i left && place_in j right) || (place_in j left && place_in i right)) ≡ true) = both_true (is_equal step) _ g in
          let t : are_alike (kind_in kinds left) (kind_in kinds right) ≡ true = if-bool (are_alike (kind_in kinds left) (kind_in kinds right)) h in
          by_either (either_true (place_in i left && place_in j right) (place_in j left && place_in i right) b.1)
          (λ e. let c : (place_in i left ≡ true) × (place_in j right ≡ true) = both_true (place_in i left) (place_in j right) e in sides-same i j left right c.0 c.1 t)
          (λ e. let c : (place_in j left ≡ true) × (place_in i right ≡ true) = both_true (place_in j left) (place_in i right) e in turned j i (sides-same j i left right c.0 c.1 t))
      equates-same (expr.And' p left q right) g h =
          let b : (is_of kind.Bool (kind_in kinds left) ≡ true) × (is_of kind.Bool (kind_in kinds right) ≡ true) = both_true _ _ (if-bool (is_of kind.Bool (kind_in kinds left) && is_of kind.Bool (kind_in kinds right)) h) in
          by_either (either_true (equates_in i j left) (equates_in i j right) g) (λ e. equates_in-same left e b.0) (λ e. equates_in-same right e b.1)
      equates-same (expr.Or' p left q right) g h = cc
      equates-same (expr.Not' p of) g h = cc
      equates-same (expr.IsNull' p of) g h = cc

      equates_in-same : {m : _} (of : Row_of-Expr m) → equates_in i j of ≡ true → is_of kind.Bool (kind_in kinds of) ≡ true → AreOfOneKind i j
      equates_in-same end_of-Expr g h = cc
      equates_in-same (more_of-Expr e rest) g h = equates-same e g h

    any-same : (conds : List Expr) → list_any (equates i j) conds ≡ true → are_conditions kinds conds ≡ true → AreOfOneKind i j
    any-same [] g h = cc
    any-same (e ∷ conds) g h =
        let b : (is_of kind.Bool (expr_kind kinds e) ≡ true) × (are_conditions kinds conds ≡ true) = both_true (is_of kind.Bool (expr_kind kinds e)) _ h in
        by_either (either_true (equates i j e) (list_any (equates i j) conds) g) (λ k. equates-same e k b.0) (λ k. any-same conds k b.1)

pub get-left : (xs ys : List Kind) (i : ℕ) → i < length xs → slice_get (xs ++ ys) i ≡ slice_get xs i
get-left [] ys i h = absurd (omega arith)
get-left (x ∷ xs) ys zero h = refl
get-left (x ∷ xs) ys (suc i) h = get-left xs ys i (omega arith)

pub get-right : (xs ys : List Kind) (j : ℕ) → slice_get (xs ++ ys) (length xs + j) ≡ slice_get ys j
get-right [] ys j = ap (slice_get ys) (zero_add j)
  where
    zero_add : (j : ℕ) → 0 + j ≡ j
    zero_add j = omega arith
get-right (x ∷ xs) ys j = ap (slice_get (x ∷ xs ++ ys)) (suc_add (length xs) j) ∙ get-right xs ys j
  where
    suc_add : (n j : ℕ) → suc n + j ≡ suc (n + j)
    suc_add n j = omega arith

-- both sides have kinds at their keys, and the same ones
module _ (left right more : List Kind) (conds : List Expr) (fit : are_conditions ((left ++ right) ++ more) conds ≡ true) where
  abbrev Matched : List ℕ → List ℕ → Type 0
  Matched lk rk = (ls : List Kind) × (rs : List Kind) × (keys_kinds left lk ≡ Some ls) × (keys_kinds right rk ≡ Some rs) × (same_kinds ls rs ≡ true)

  matched : (lk rk : List ℕ) → keys_equated (length left) (length right) conds lk rk ≡ true → Matched lk rk
  matched [] [] g = ([], [], refl, refl, refl)
  matched [] (j ∷ js) g = cc
  matched (i ∷ is) [] g = cc
  matched (i ∷ is) (j ∷ js) g =
      let b : ((nat_lt i (length left) && (nat_lt j (length right) && list_any (equates i (length left + j)) conds)) ≡ true) × (keys_equated (length left) (length right) conds is js ≡ true) = both_true _ _ g in
      let c : (nat_lt i (length left) ≡ true) × ((nat_lt j (length right) && list_any (equates i (length left + j)) conds) ≡ true) = both_true _ _ b.0 in
      let d : (nat_lt j (length right) ≡ true) × (list_any (equates i (length left + j)) conds ≡ true) = both_true _ _ c.1 in
      let same : AreOfOneKind ((left ++ right) ++ more) i (length left + j) = any-same ((left ++ right) ++ more) i (length left + j) conds d.1 fit in
      let rest : Matched is js = matched is js b.1 in
      let at_left : slice_get left i ≡ Some same.0 = sym (get-left left (right ++ more) i (below i (length left) c.0)) ∙ ap (λ l. slice_get l i) (sym (append_assoc left right more)) ∙ same.1 in
      let at_right : slice_get right j ≡ Some same.0 =
      sym (get-left right more j (below j (length right) d.0)) ∙ sym (get-right left (right ++ more) j) ∙ ap (λ l. slice_get l (length left + j)) (sym (append_assoc left right more)) ∙ same.2 in (
        same.0 ∷ rest.0,
        same.0 ∷ rest.1,
        (λ t. at_left t >>= (λ y. rest.2 t >>= (λ ys. Some (y ∷ ys)))),
        (λ t. at_right t >>= (λ y. rest.3 t >>= (λ ys. Some (y ∷ ys)))),
        (λ t. itself same.0 t && rest.4 t),
      )
    where
      itself : (k : Kind) → same_kind k k ≡ true
      itself kind.Bool = refl
      itself kind.Int = refl
      itself kind.Text = refl

  pub keys-joinable : (lk rk : List ℕ) → keys_equated (length left) (length right) conds lk rk ≡ true → is_some (join_kinds lk rk left right) ≡ true
  keys-joinable lk rk g =
      let m : Matched lk rk = matched lk rk g in
      (λ t. is_some (m.2 t >>= (λ ls. m.3 t >>= (λ rs. some_if (same_kinds ls rs) (left ++ right))))) ∙ ap (λ b. is_some (some_if b (left ++ right))) m.4
