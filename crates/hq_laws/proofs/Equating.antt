-- Conditions that equate the keys imply that they match.
use Rattle.std.proofs.Common.{◌≡◌, ℕ, zero, suc, ◌+◌, ◌<◌, nat_lt, Bool, true, false, ◌&&◌, ◌||◌, ◌⊎◌, inl, inr, List, [], ◌∷◌, ◌++◌, length, refl, sym, ◌∙◌, ap, subst, arith}
use Rattle.std.specs.List.{list_any, list_all}
use Rattle.hq_value.specs.declared.value.Value.{Value}
use Rattle.hq_value.specs.declared.value.Value.TheVariants as value
use Rattle.hq_value.specs.declared.operator.CompareKind.{CompareKind}
use Rattle.hq_value.specs.declared.operator.CompareKind.TheVariants as compare
use Rattle.hq_algebra.specs.declared.expr.Expr.{Expr, Row_of-Expr, end_of-Expr, more_of-Expr}
use Rattle.hq_algebra.specs.declared.expr.Expr.TheVariants as expr
use Rattle.hq_algebra.specs.Outcome.{Outcome, Is, Fault, of_two_values}
use Rattle.hq_algebra.specs.Steps.{compare_of, and_of}
use Rattle.hq_algebra.specs.Eval.{eval, only, column, or_null, is_true, is_true_at}
use Rattle.hq_meaning.specs.Rows.{Row}
use Rattle.hq_meaning.specs.Operators.{meets}
use Rattle.hq_laws.specs.Spread.{AreImplied}
use Rattle.hq_laws.specs.Equated.{is_place, place_in, is_equal, equates, equates_in, keys_equated}
use Rattle.hq_laws.proofs.Partners.{meets-equal}
use Rattle.hq_laws.proofs.Lists.{eq_means, both_true}

-- a comparison that is true
equal-meets : (a b : Value) → is_true (compare_of compare.Equal a b) ≡ true → meets a b ≡ true
equal-meets value.Null b h = cc
equal-meets (value.Bool x) value.Null h = cc
equal-meets (value.Bool x) (value.Bool y) h = h
equal-meets (value.Bool x) (value.Int n) h = h
equal-meets (value.Bool x) (value.Text s) h = h
equal-meets (value.Int m) value.Null h = cc
equal-meets (value.Int m) (value.Bool y) h = h
equal-meets (value.Int m) (value.Int n) h = h
equal-meets (value.Int m) (value.Text s) h = h
equal-meets (value.Text t) value.Null h = cc
equal-meets (value.Text t) (value.Bool y) h = h
equal-meets (value.Text t) (value.Int n) h = h
equal-meets (value.Text t) (value.Text s) h = h

meets-sym : (a b : Value) → meets a b ≡ true → meets b a ≡ true
meets-sym a b h = let e : a ≡ b = meets-equal a b h in (λ i. meets (sym e i) (e i)) ∙ h

-- an AND that is true
pub and-true : (o p : Outcome) → is_true (or_null (of_two_values and_of o p)) ≡ true → (is_true (or_null o) ≡ true) × (is_true (or_null p) ≡ true)
and-true Fault p h = cc
and-true (Is a) Fault h = cc
and-true (Is a) (Is b) h = by a b h
  where
    by : (a b : Value) → is_true (and_of a b) ≡ true → (is_true a ≡ true) × (is_true b ≡ true)
    by (value.Bool true) (value.Bool true) h = (refl, refl)
    by (value.Bool true) (value.Bool false) h = cc
    by (value.Bool true) (value.Int n) h = cc
    by (value.Bool true) (value.Text s) h = cc
    by (value.Bool true) value.Null h = cc
    by (value.Bool false) b h = cc
    by (value.Int n) (value.Bool true) h = cc
    by (value.Int n) (value.Bool false) h = cc
    by (value.Int n) (value.Int m) h = cc
    by (value.Int n) (value.Text s) h = cc
    by (value.Int n) value.Null h = cc
    by (value.Text s) (value.Bool true) h = cc
    by (value.Text s) (value.Bool false) h = cc
    by (value.Text s) (value.Int m) h = cc
    by (value.Text s) (value.Text t) h = cc
    by (value.Text s) value.Null h = cc
    by value.Null (value.Bool true) h = cc
    by value.Null (value.Bool false) h = cc
    by value.Null (value.Int m) h = cc
    by value.Null (value.Text s) h = cc
    by value.Null value.Null h = cc

pub either_true : (a b : Bool) → (a || b) ≡ true → (a ≡ true) ⊎ (b ≡ true)
either_true true b h = inl refl
either_true false b h = inr h

place-column : (i : ℕ) (row : Row) (e : Expr) → is_place i e ≡ true → eval e row ≡ Is (column row i)
place-column i row (expr.Column place) h = ap (λ p. Is (column row p)) (eq_means place i h)
place-column i row (expr.Literal v) h = cc
place-column i row (expr.Arith' kind p left q right) h = cc
place-column i row (expr.Compare' kind p left q right) h = cc
place-column i row (expr.And' p left q right) h = cc
place-column i row (expr.Or' p left q right) h = cc
place-column i row (expr.Not' p of) h = cc
place-column i row (expr.IsNull' p of) h = cc

place_in-column : {m : _} (i : ℕ) (row : Row) (of : Row_of-Expr m) → place_in i of ≡ true → only of row ≡ Is (column row i)
place_in-column i row end_of-Expr h = cc
place_in-column i row (more_of-Expr e rest) h = place-column i row e h

pub by_either : {A B C : Type 0} → A ⊎ B → (A → C) → (B → C) → C
by_either (inl a) f g = f a
by_either (inr b) f g = g b

module _ (i j : ℕ) (row : Row) where
  sides : {m n : _} (left : Row_of-Expr m) (right : Row_of-Expr n) → ((place_in i left && place_in j right) || (place_in j left && place_in i right)) ≡ true
      → ((only left row ≡ Is (column row i)) × (only right row ≡ Is (column row j))) ⊎ ((only left row ≡ Is (column row j)) × (only right row ≡ Is (column row i)))
  sides left right h = by_either (either_true (place_in i left && place_in j right) (place_in j left && place_in i right) h)
      (λ e. let b : (place_in i left ≡ true) × (place_in j right ≡ true) = both_true (place_in i left) (place_in j right) e in inl (place_in-column i row left b.0, place_in-column j row right b.1))
      (λ e. let b : (place_in j left ≡ true) × (place_in i right ≡ true) = both_true (place_in j left) (place_in i right) e in inr (place_in-column j row left b.0, place_in-column i row right b.1))

  compared : (kind : CompareKind) (o p : Outcome) → is_equal kind ≡ true → is_true (or_null (of_two_values (compare_of kind) o p)) ≡ true
      → ((o ≡ Is (column row i)) × (p ≡ Is (column row j))) ⊎ ((o ≡ Is (column row j)) × (p ≡ Is (column row i))) → meets (column row i) (column row j) ≡ true
  compared compare.Equal o p e h (inl s) = equal-meets (column row i) (column row j) ((λ t. is_true (or_null (of_two_values (compare_of compare.Equal) (sym s.0 t) (sym s.1 t)))) ∙ h)
  compared compare.Equal o p e h (inr s) = meets-sym (column row j) (column row i) (equal-meets (column row j) (column row i) ((λ t. is_true (or_null (of_two_values (compare_of compare.Equal) (sym s.0 t) (sym s.1 t)))) ∙ h))
  compared compare.NotEqual o p e h s = cc
  compared compare.Less o p e h s = cc
  compared compare.AtMost o p e h s = cc
  compared compare.Greater o p e h s = cc
  compared compare.AtLeast o p e h s = cc

  mutual
    equates-meets : (e : Expr) → equates i j e ≡ true → is_true (or_null (eval e row)) ≡ true → meets (column row i) (column row j) ≡ true
    equates-meets (expr.Column place) g h = cc
    equates-meets (expr.Literal v) g h = cc
    equates-meets (expr.Arith' kind p left q right) g h = cc
    equates-meets (expr.Compare' kind p left q right) g h =
        let b : (is_equal kind ≡ true) × (((place_in i left && place_in j right) || (place_in j left && place_in i right)) ≡ true) = both_true (is_equal kind) _ g in
        compared kind (only left row) (only right row) b.0 h (sides left right b.1)
    equates-meets (expr.And' p left q right) g h =
        let b : (is_true (or_null (only left row)) ≡ true) × (is_true (or_null (only right row)) ≡ true) = and-true (only left row) (only right row) h in
        by_either (either_true (equates_in i j left) (equates_in i j right) g) (λ e. equates_in-meets left e b.0) (λ e. equates_in-meets right e b.1)
    equates-meets (expr.Or' p left q right) g h = cc
    equates-meets (expr.Not' p of) g h = cc
    equates-meets (expr.IsNull' p of) g h = cc

    equates_in-meets : {m : _} (of : Row_of-Expr m) → equates_in i j of ≡ true → is_true (or_null (only of row)) ≡ true → meets (column row i) (column row j) ≡ true
    equates_in-meets end_of-Expr g h = cc
    equates_in-meets (more_of-Expr e rest) g h = equates-meets e g h

  any-meets : (conds : List Expr) → list_any (equates i j) conds ≡ true → list_all (λ e. is_true_at e row) conds ≡ true → meets (column row i) (column row j) ≡ true
  any-meets [] g h = cc
  any-meets (e ∷ conds) g h =
      let b : (is_true_at e row ≡ true) × (list_all (λ e. is_true_at e row) conds ≡ true) = both_true (is_true_at e row) _ h in
      by_either (either_true (equates i j e) (list_any (equates i j) conds) g) (λ k. equates-meets e k b.0) (λ k. any-meets conds k b.1)

-- columns of a row that is made of others
pub column-left : (l rest : Row) (i : ℕ) → i < length l → column (l ++ rest) i ≡ column l i
column-left [] rest i h = absurd (omega arith)
column-left (x ∷ l) rest zero h = refl
column-left (x ∷ l) rest (suc i) h = column-left l rest i (omega arith)

pub column-right : (l rest : Row) (j : ℕ) → column (l ++ rest) (length l + j) ≡ column rest j
column-right [] rest j = ap (column rest) (zero_add j)
  where
    zero_add : (j : ℕ) → 0 + j ≡ j
    zero_add j = omega arith
column-right (x ∷ l) rest j = ap (column (x ∷ l ++ rest)) (suc_add (length l) j) ∙ column-right l rest j
  where
    suc_add : (n j : ℕ) → suc n + j ≡ suc (n + j)
    suc_add n j = omega arith

pub below : (m n : ℕ) → nat_lt m n ≡ true → m < n
below m n h = grind arith

pub keys-equated : (w v : ℕ) (conds : List Expr) (lk rk : List ℕ) → keys_equated w v conds lk rk ≡ true → AreImplied w v conds lk rk
keys-equated w v conds [] [] g l r rest e f h = refl
keys-equated w v conds [] (j ∷ js) g l r rest e f h = cc
keys-equated w v conds (i ∷ is) [] g l r rest e f h = cc
keys-equated w v conds (i ∷ is) (j ∷ js) g l r rest e f h =
    let b : ((nat_lt i w && (nat_lt j v && list_any (equates i (w + j)) conds)) ≡ true) × (keys_equated w v conds is js ≡ true) = both_true _ _ g in
    let c : (nat_lt i w ≡ true) × ((nat_lt j v && list_any (equates i (w + j)) conds) ≡ true) = both_true _ _ b.0 in
    let d : (nat_lt j v ≡ true) × (list_any (equates i (w + j)) conds ≡ true) = both_true _ _ c.1 in
    let met : meets (column (l ++ (r ++ rest)) i) (column (l ++ (r ++ rest)) (w + j)) ≡ true = any-meets i (w + j) (l ++ (r ++ rest)) conds d.1 h in
    let left : column (l ++ (r ++ rest)) i ≡ column l i = column-left l (r ++ rest) i (subst (λ n. i < n) (sym e) (below i w c.0)) in
    let right : column (l ++ (r ++ rest)) (w + j) ≡ column r j =
    ap (λ n. column (l ++ (r ++ rest)) (n + j)) (sym e) ∙ column-right l (r ++ rest) j ∙ column-left r rest j (subst (λ n. j < n) (sym f) (below j v d.0)) in
    (λ t. meets (sym left t) (sym right t) && keys-equated w v conds is js b.1 l r rest e f h t) ∙ ap (λ m. m && true) met
