-- Definitions on operators, at each part.
use Rattle.std.proofs.Common.{◌≡◌, ℕ, zero, suc, ◌+◌, ◌≤◌, true, nat_le, nat_lt, subst, ◌&&◌, List, [], ◌∷◌, ◌++◌, length, take, get_or, slice_get, IfSome, ◌<◌, Option, Some, None, refl, sym, ◌∙◌, ap, arith, length-append}
use Rattle.std.proofs.lemmas.List.Folds.{list_all-append}
use Rattle.hq_value.specs.declared.kind.Kind.{Kind}
use Rattle.hq_value.specs.declared.kind.Kind.TheVariants as kind
use Rattle.hq_algebra.specs.declared.aggregate.Aggregate.{Aggregate}
use Rattle.hq_algebra.specs.declared.expr.Expr.{Expr}
use Rattle.hq_algebra.specs.declared.op.Op.{Op}
use Rattle.hq_algebra.specs.declared.op.Op.TheVariants as op
use Rattle.hq_algebra.specs.declared.op.Op.TheBlock.{hidden-the_row-Op-0}
use Rattle.hq_algebra.specs.declared.op.SortKey.{SortKey}
use denote.Hole.Carrier.{hidden}
use Rattle.std.proofs.Math.Seq.{take-suc}
use Rattle.hq_algebra.specs.Kinds.{◌>>=◌, every, same_kind, same_kinds}
use Rattle.hq_algebra.specs.Operators.{keys_kinds}
use Rattle.hq_algebra.specs.Plans.{operators, is_short}
use Rattle.hq_laws.specs.Turned.{renamed}
use Rattle.hq_narrow.specs.declared.taken.Taken.{Taken}
use Rattle.hq_narrow.specs.Narrow.{taken_at, place_from}
use Rattle.hq_narrow.specs.Widened.{columns_of, under, taken_op, are_kinds, scan_fits}
use Rattle.hq_planner.specs.Widens.{Widens}

-- how many operators there are
pub count-Filter : (c : Expr) (x : Op) → length (operators (op.Filter c x)) ≡ suc (length (operators x))
unfolding hidden-the_row-Op-0 hidden
count-Filter c x = refl

pub count-Project : (items : List Expr) (x : Op) → length (operators (op.Project items x)) ≡ suc (length (operators x))
unfolding hidden-the_row-Op-0 hidden
count-Project items x = refl

pub count-Join : (lk rk : List ℕ) (x y : Op) → length (operators (op.Join lk rk x y)) ≡ suc (length (operators x) + length (operators y))
unfolding hidden-the_row-Op-0 hidden
count-Join lk rk x y = ap suc (length-append (operators x) (operators y))

pub count-Partial : (keys : List ℕ) (aggregates : List Aggregate) (x : Op) → length (operators (op.Partial keys aggregates x)) ≡ suc (length (operators x))
unfolding hidden-the_row-Op-0 hidden
count-Partial keys aggregates x = refl

pub count-Final : (keys : ℕ) (aggregates : List Aggregate) (x : Op) → length (operators (op.Final keys aggregates x)) ≡ suc (length (operators x))
unfolding hidden-the_row-Op-0 hidden
count-Final keys aggregates x = refl

pub count-Distinct : (x : Op) → length (operators (op.Distinct x)) ≡ suc (length (operators x))
unfolding hidden-the_row-Op-0 hidden
count-Distinct x = refl

pub count-Sort : (order : List SortKey) (limit : Option ℕ) (x : Op) → length (operators (op.Sort order limit x)) ≡ suc (length (operators x))
unfolding hidden-the_row-Op-0 hidden
count-Sort order limit x = refl

pub room-next : (found : Option ℕ) (n m rest room : ℕ) → n ≡ suc m → rest + 1 ≡ room → IfSome found (λ left. left + m ≡ rest) → IfSome found (λ left. left + n ≡ room)
room-next None n m rest room e f h = tt
room-next (Some left) n m rest room e f h = omega (arith, e, f, h)

pub room-both : (found : Option ℕ) (n a b rest mid room : ℕ) → n ≡ suc (a + b) → rest + 1 ≡ room → mid + a ≡ rest → IfSome found (λ left. left + b ≡ mid) → IfSome found (λ left. left + n ≡ room)
room-both None n a b rest mid room e f g h = tt
room-both (Some left) n a b rest mid room e f g h = omega (arith, e, f, g, h)

-- the kinds that were found are those
every-last : {A B : Type 0} (f : A → Option B) (xs : List A) (ys : List B) (x : A) (y : B) → every f xs ≡ Some ys → f x ≡ Some y → every f (xs ++ x ∷ []) ≡ Some (ys ++ y ∷ [])
every-last f [] ys x y h e = by ys h
  where
    by : (ys : List _) → Some [] ≡ Some ys → (f x >>= (λ z. Some (z ∷ []))) ≡ Some (ys ++ y ∷ [])
    by [] h = ap (λ o. o >>= (λ z. Some (z ∷ []))) e
    by (z ∷ ys) h = cc
every-last f (w ∷ xs) ys x y h e = by (f w) (every f xs) ys h (every-last f xs)
  where
    by : (o : Option _) (p : Option (List _)) (ys : List _) → (o >>= (λ z. p >>= (λ zs. Some (z ∷ zs)))) ≡ Some ys → ((zs : List _) (u : _) (v : _) → p ≡ Some zs → f u ≡ Some v → every f (xs ++ u ∷ []) ≡ Some (zs ++ v ∷ [])) → (o >>= (λ z. every f (xs ++ x ∷ []) >>= (λ zs. Some (z ∷ zs)))) ≡ Some (ys ++ y ∷ [])
    by None p ys h rest = cc
    by (Some z) None ys h rest = cc
    by (Some z) (Some zs) [] h rest = cc
    by (Some z) (Some zs) (v ∷ ys) h rest =
        let same : zs ≡ ys = cc in
        let first : z ≡ v = cc in
        ap (λ o. o >>= (λ zs. Some (z ∷ zs))) (rest zs x y refl e) ∙ (λ i. Some (first i ∷ (same i ++ y ∷ [])))

pub kinds-more : (whole : List Kind) (columns : List ℕ) (kinds : List Kind) (i : ℕ) → i < length columns → i < length kinds → slice_get whole (get_or columns i 0) ≡ Some (get_or kinds i kind.Bool)
    → keys_kinds whole (take i columns) ≡ Some (take i kinds) → keys_kinds whole (take (i + 1) columns) ≡ Some (take (i + 1) kinds)
kinds-more whole columns kinds i h g found before =
    let one : i + 1 ≡ suc i = omega arith in
    ap (λ n. keys_kinds whole (take n columns)) one
    ∙ ap (keys_kinds whole) (take-suc columns i 0 h)
    ∙ every-last (slice_get whole) (take i columns) (take i kinds) (get_or columns i 0) (get_or kinds i kind.Bool) before found
    ∙ ap Some (sym (take-suc kinds i kind.Bool g) ∙ ap (λ n. take n kinds) (sym one))

same-self : (k : Kind) → same_kind k k ≡ true
same-self kind.Bool = refl
same-self kind.Int = refl
same-self kind.Text = refl

all-same : (kinds : List Kind) → same_kinds kinds kinds ≡ true
all-same [] = refl
all-same (k ∷ kinds) = λ i. same-self k i && all-same kinds i

op-same : (kinds : ℕ → List Kind) (whole : List Kind) (t : Taken) (above : Option Expr) → whole ≡ kinds t.table → taken_op (λ v. whole) t above ≡ taken_op kinds t above
op-same kinds whole t None e = ap (λ k. columns_of (length k) t.columns (op.Scan t.table k)) e
op-same kinds whole t (Some c) e = λ i. columns_of (length (e i)) t.columns (op.Filter (renamed (place_from t.columns (length (e i))) c) (op.Scan t.table (e i)))

pub at-op : (kinds : ℕ → List Kind) (ts : List Taken) (above : Option Expr) (o p new : Op) → o ≡ p → Widens kinds ts above p new → Widens kinds ts above o new
at-op kinds ts above o p new e w = subst (λ (x : Op). Widens kinds ts above x new) (sym e) w

-- the source of a number that is there
pub taken-found : (ts : List Taken) (v : ℕ) (t : Taken) → true ≡ nat_lt v (length ts) → t ≡ get_or ts v t → taken_at ts v ≡ t
taken-found ts v t h e = by ts v (low v (length ts) h) e
  where
    low : (m n : ℕ) → true ≡ nat_lt m n → m < n
    low m n h = grind arith

    by : (ts : List Taken) (v : ℕ) → v < length ts → t ≡ get_or ts v t → taken_at ts v ≡ t
    by [] v h e = absurd (omega (arith, h))
    by (x ∷ ts) zero h e = sym e
    by (x ∷ ts) (suc v) h e = by ts v (omega (arith, h)) e

module _ (kinds : ℕ → List Kind) (ts : List Taken) (above : Option Expr) where
  pub widens-Scan : (v : ℕ) (found whole : List Kind) (t : Taken) (new : Op) → taken_at ts v ≡ t → whole ≡ kinds t.table → length whole ≤ 64 → keys_kinds whole t.columns ≡ Some found → new ≡ taken_op (λ u. whole) t above → Widens kinds ts above (op.Scan v found) new
  widens-Scan v found whole t new et ew few have e = record {
    same = e ∙ op-same kinds whole t above ew ∙ ap (λ u. taken_op kinds u above) (sym et);
    fits = (λ i. scan i && true);
  }
    where
      short : (n : ℕ) → n ≤ 64 → nat_le n 65535 ≡ true
      short n h = grind arith

      kept : (is_short (kinds t.table) && are_kinds found (keys_kinds (kinds t.table) t.columns)) ≡ true
      kept = (λ i. is_short (sym ew i) && are_kinds found (keys_kinds (sym ew i) t.columns)) ∙ (λ i. short (length whole) few i && (ap (are_kinds found) have ∙ all-same found) i)

      scan : scan_fits kinds ts (op.Scan v found) ≡ true
      scan = ap (λ (u : Taken). is_short (kinds u.table) && are_kinds found (keys_kinds (kinds u.table) u.columns)) et ∙ kept

  pub widens-Filter : (c : Expr) (x y new : Op) → Widens kinds ts (Some c) x y → new ≡ under above y → Widens kinds ts above (op.Filter c x) new
  unfolding hidden-the_row-Op-0 hidden
  widens-Filter c x y new w e = record { same = e ∙ ap (under above) w.same; fits = w.fits }

  pub widens-Project : (items : List Expr) (x y new : Op) → Widens kinds ts None x y → new ≡ under above (op.Project items y) → Widens kinds ts above (op.Project items x) new
  unfolding hidden-the_row-Op-0 hidden
  widens-Project items x y new w e = record { same = e ∙ ap (λ z. under above (op.Project items z)) w.same; fits = w.fits }

  pub widens-Join : (lk rk : List ℕ) (x y l r new : Op) → Widens kinds ts None x l → Widens kinds ts None y r → new ≡ under above (op.Join lk rk l r) → Widens kinds ts above (op.Join lk rk x y) new
  unfolding hidden-the_row-Op-0 hidden
  widens-Join lk rk x y l r new w v e = record {
    same = e ∙ (λ i. under above (op.Join lk rk (w.same i) (v.same i)));
    fits = list_all-append (scan_fits kinds ts) (operators x) (operators y) ∙ (λ i. w.fits i && v.fits i);
  }

  pub widens-Partial : (keys : List ℕ) (aggregates : List Aggregate) (x y new : Op) → Widens kinds ts None x y → new ≡ under above (op.Partial keys aggregates y) → Widens kinds ts above (op.Partial keys aggregates x) new
  unfolding hidden-the_row-Op-0 hidden
  widens-Partial keys aggregates x y new w e = record { same = e ∙ ap (λ z. under above (op.Partial keys aggregates z)) w.same; fits = w.fits }

  pub widens-Final : (keys : ℕ) (aggregates : List Aggregate) (x y new : Op) → Widens kinds ts None x y → new ≡ under above (op.Final keys aggregates y) → Widens kinds ts above (op.Final keys aggregates x) new
  unfolding hidden-the_row-Op-0 hidden
  widens-Final keys aggregates x y new w e = record { same = e ∙ ap (λ z. under above (op.Final keys aggregates z)) w.same; fits = w.fits }

  pub widens-Distinct : (x y new : Op) → Widens kinds ts None x y → new ≡ under above (op.Distinct y) → Widens kinds ts above (op.Distinct x) new
  unfolding hidden-the_row-Op-0 hidden
  widens-Distinct x y new w e = record { same = e ∙ ap (λ z. under above (op.Distinct z)) w.same; fits = w.fits }

  pub widens-Sort : (order : List SortKey) (limit : Option ℕ) (x y new : Op) → Widens kinds ts None x y → new ≡ under above (op.Sort order limit y) → Widens kinds ts above (op.Sort order limit x) new
  unfolding hidden-the_row-Op-0 hidden
  widens-Sort order limit x y new w e = record { same = e ∙ ap (λ z. under above (op.Sort order limit z)) w.same; fits = w.fits }
