-- The kinds of expressions over the columns of groups and their aggregates.
use Rattle.std.proofs.Common.{◌≡◌, ℕ, zero, suc, ◌+◌, ◌<◌, ◌≤◌, ◌==◌, Bool, true, false, not, ◌||◌, ◌&&◌, cond, nat_eq, nat_lt, List, [], ◌∷◌, ◌++◌, length, map, slice_get, Option, Some, None, refl, sym, ap, subst, ◌∙◌, append_assoc, lt-ltb, arith}
use Rattle.std.specs.Prelude.{position, unwrap_or, is_some}
use Rattle.std.specs.List.{list_any, list_all, position_or_len}
use Rattle.std.proofs.lemmas.Bool.{eqb-true}
use Rattle.std.proofs.lemmas.List.Folds.{list_all-append}
use Rattle.hq_value.specs.declared.kind.Kind.{Kind}
use Rattle.hq_value.specs.declared.kind.Kind.TheVariants as kind
use Rattle.hq_expr.specs.declared.tree.ColumnRef.{ColumnRef}
use Rattle.hq_expr.specs.declared.tree.AggregateKind.{AggregateKind}
use Rattle.hq_expr.specs.declared.tree.AggregateKind.TheVariants as ak
use Rattle.hq_expr.specs.declared.tree.SqlExpr.{SqlExpr, Row_of-SqlExpr, end_of-SqlExpr, more_of-SqlExpr}
use Rattle.hq_expr.specs.declared.tree.SqlExpr.TheVariants as e
use Rattle.hq_expr.specs.Shape.{is_sum, sum_in, is_operand, operand_in, is_cond, cond_in}
use Rattle.hq_algebra.specs.declared.expr.Expr.{Expr}
use Rattle.hq_algebra.specs.declared.expr.Expr.TheVariants as expr
use Rattle.hq_algebra.specs.declared.aggregate.Aggregate.{Aggregate}
use Rattle.hq_algebra.specs.declared.aggregate.Aggregate.TheVariants as agg
use Rattle.hq_algebra.specs.declared.kinds.ExprKind.{ExprKind}
use Rattle.hq_algebra.specs.declared.kinds.ExprKind.TheVariants as typed
use Rattle.hq_algebra.specs.Kinds.{is_of, are_alike, has_kind, kind_if, item_kind, some_if, expr_kind}
use Rattle.hq_algebra.specs.Kinds as algebra
use Rattle.hq_algebra.proofs.Typed.{expr_kind-Arith, expr_kind-Compare, expr_kind-And, expr_kind-Or, expr_kind-Not, expr_kind-IsNull}
use Rattle.hq_bind.specs.declared.scope.SourceColumn.{SourceColumn}
use Rattle.hq_bind.specs.Scope.{place_of}
use Rattle.hq_bind.specs.Findings.{findings, findings_in, is_among, of_aggregate, of_two, of_compared, of_not, of_null_test, of_item, column_kind, aggregate_kind}
use Rattle.hq_bind.specs.Bound.{placed_in, over_groups, over_in, aggregates_in, aggregates_of, aggregate_of, group_column, next_place}
use Rattle.hq_bind.proofs.OverSources.{both_true}
use Rattle.hq_bind.proofs.Grouped.{or_parts, not_false, first_within}
use Rattle.hq_bind.proofs.Kinded.{kinds_in, kind_fits, of_has, alike_have, two_have, literal_same, asked_same, alike_same, placed_kind_in, sum_without_in}

-- ---- the columns of the groups

abbrev pub key_kind : List Kind → ℕ → Kind
key_kind ks place = unwrap_or (slice_get ks place) kind.Text

abbrev pub agg_kind : List Kind → Aggregate → Kind
agg_kind ks a = unwrap_or (algebra.aggregate_kind ks a) kind.Text

-- the kinds of the groups' columns and then of these aggregates
abbrev pub seen : List Kind → List ℕ → List Aggregate → List Kind
seen ks gs aggs = map (key_kind ks) gs ++ map (agg_kind ks) aggs

abbrev pub has_value : List Kind → Aggregate → Bool
has_value ks a = is_some (algebra.aggregate_kind ks a)

behind : (f : ℕ → Kind) (g : Aggregate → Kind) (gs : List ℕ) (before : List Aggregate) (a : Aggregate) (after : List Aggregate) (n : ℕ) → n ≡ length gs + length before
    → slice_get (map f gs ++ map g (before ++ a ∷ after)) n ≡ Some (g a)
behind f g [] [] a after zero h = refl
behind f g [] [] a after (suc n) h = absurd (omega (arith, h))
behind f g [] (b ∷ before) a after zero h = absurd (omega (arith, h))
behind f g [] (b ∷ before) a after (suc n) h = behind f g [] before a after n (omega (arith, h))
behind f g (p ∷ gs) before a after zero h = absurd (omega (arith, h))
behind f g (p ∷ gs) before a after (suc n) h = behind f g gs before a after n (omega (arith, h))

-- the column of an aggregate has its kind
leaf : (ks : List Kind) (gs : List ℕ) (before : List Aggregate) (a : Aggregate) (after all : List Aggregate) → all ≡ before ++ a ∷ after
    → expr_kind (seen ks gs all) (expr.Column (next_place gs before)) ≡ typed.Of (agg_kind ks a)
leaf ks gs before a after all h =
    ap algebra.column_kind (subst (λ (z : List Aggregate). slice_get (map (key_kind ks) gs ++ map (agg_kind ks) z) (length gs + length before) ≡ Some (agg_kind ks a)) (sym h) (behind (key_kind ks) (agg_kind ks) gs before a after (length gs + length before) refl))

first_at : (f : ℕ → Kind) (gs : List ℕ) (ys : List Kind) (place : ℕ) → list_any (λ p. p == place) gs ≡ true → slice_get (map f gs ++ ys) (position_or_len (λ p. p == place) gs) ≡ Some (f place)
first_at f [] ys place h = cc
first_at f (q ∷ gs) ys place h = go (q == place) refl h (first_at f gs ys place)
  where
    go : (b : Bool) → (q == place) ≡ b → (b || list_any (λ p. p == place) gs) ≡ true → (list_any (λ p. p == place) gs ≡ true → slice_get (map f gs ++ ys) (position_or_len (λ p. p == place) gs) ≡ Some (f place))
        → slice_get (map f (q ∷ gs) ++ ys) (position_or_len (λ p. p == place) (q ∷ gs)) ≡ Some (f place)
    go true e h again = let same : q ≡ place = eqb-true q place e in rw e (ap (λ (p : ℕ). Some (f p)) same)
    go false e h again = let n : 1 + position_or_len (λ p. p == place) gs ≡ suc (position_or_len (λ p. p == place) gs) = omega arith in rw (e, n) (again h)

found_at : (f : ℕ → Kind) (gs : List ℕ) (ys : List Kind) (o : Option ℕ) → is_among gs o ≡ true → slice_get (map f gs ++ ys) (unwrap_or (position (λ p. p == unwrap_or o 0) gs) 0) ≡ Some (f (unwrap_or o 0))
found_at f gs ys None h = cc
found_at f gs ys (Some place) h = rw (lt-ltb (position_or_len (λ p. p == place) gs) (length gs) (first_within (λ p. p == place) gs h)) (first_at f gs ys place h)

key_at : (cs : List SourceColumn) (place : ℕ) → has_kind (column_kind cs (Some place)) ≡ true → typed.Of (key_kind (kinds_in cs) place) ≡ column_kind cs (Some place)
key_at [] place h = cc
key_at (c ∷ cs) zero h = refl
key_at (c ∷ cs) (suc place) h = key_at cs place h

key_same : (cs : List SourceColumn) (o : Option ℕ) → has_kind (column_kind cs o) ≡ true → typed.Of (key_kind (kinds_in cs) (unwrap_or o 0)) ≡ column_kind cs o
key_same cs None h = cc
key_same cs (Some place) h = key_at cs place h

column_over : (cs : List SourceColumn) (gs : List ℕ) (all : List Aggregate) (r : ColumnRef) → not (is_among gs (place_of cs r)) ≡ false → has_kind (column_kind cs (place_of cs r)) ≡ true
    → expr_kind (seen (kinds_in cs) gs all) (expr.Column (group_column cs gs r)) ≡ column_kind cs (place_of cs r)
column_over cs gs all r u h =
    ap algebra.column_kind (found_at (key_kind (kinds_in cs)) gs (map (agg_kind (kinds_in cs)) all) (place_of cs r) (not_false (is_among gs (place_of cs r)) u)) ∙ key_same cs (place_of cs r) h

-- ---- aggregates

inner_has : (k : AggregateKind) (x : ExprKind) → has_kind (aggregate_kind k x) ≡ true → has_kind x ≡ true
inner_has ak.Count x h = kind_fits (has_kind x) kind.Int h
inner_has ak.Sum x h = of_has kind.Int x (kind_fits (is_of kind.Int x) kind.Int h)
inner_has ak.Min (typed.Of j) h = refl
inner_has ak.Min typed.Null h = refl
inner_has ak.Min typed.Wrong h = cc
inner_has ak.Max (typed.Of j) h = refl
inner_has ak.Max typed.Null h = refl
inner_has ak.Max typed.Wrong h = cc

extreme : (o : Option Kind) (x y : ExprKind) → x ≡ y → o ≡ item_kind x → has_kind (of_item (item_kind y)) ≡ true → (is_some o ≡ true) × (typed.Of (unwrap_or o kind.Text) ≡ of_item (item_kind y))
extreme o x (typed.Of j) s h k = let e : o ≡ Some j = h ∙ ap item_kind s in (rw e refl, rw e refl)
extreme o x typed.Null s h k = let e : o ≡ Some kind.Text = h ∙ ap item_kind s in (rw e refl, rw e refl)
extreme o x typed.Wrong s h k = cc

aggregate_found : (ks : List Kind) (k : AggregateKind) (x : Expr) (y : ExprKind) → expr_kind ks x ≡ y → has_kind (aggregate_kind k y) ≡ true
    → (has_value ks (aggregate_of k x) ≡ true) × (typed.Of (agg_kind ks (aggregate_of k x)) ≡ aggregate_kind k y)
aggregate_found ks ak.Count x y s h =
    let b : has_kind y ≡ true = kind_fits (has_kind y) kind.Int h in
    let c : has_kind (expr_kind ks x) ≡ true = ap has_kind s ∙ b in
    (rw c refl, rw (c, b) refl)
aggregate_found ks ak.Sum x y s h =
    let b : is_of kind.Int y ≡ true = kind_fits (is_of kind.Int y) kind.Int h in
    let c : is_of kind.Int (expr_kind ks x) ≡ true = ap (is_of kind.Int) s ∙ b in
    (rw c refl, rw (c, b) refl)
aggregate_found ks ak.Min x y s h = extreme (item_kind (expr_kind ks x)) (expr_kind ks x) y s refl h
aggregate_found ks ak.Max x y s h = extreme (item_kind (expr_kind ks x)) (expr_kind ks x) y s refl h

-- ---- expressions over groups

-- its kind is the one that is found, and its aggregates have values
abbrev pub IsTyped : List SourceColumn → List ℕ → List Aggregate → List Aggregate → SqlExpr → Type 0
IsTyped cs gs all before x = (expr_kind (seen (kinds_in cs) gs all) (over_groups cs gs before x) ≡ (findings cs gs x).kind) × (list_all (has_value (kinds_in cs)) (aggregates_in cs x) ≡ true)

abbrev pub IsTypedIn : {m : _} → List SourceColumn → List ℕ → List Aggregate → List Aggregate → Row_of-SqlExpr m → Type 0
IsTypedIn cs gs all before of = (expr_kind (seen (kinds_in cs) gs all) (over_in cs gs before of) ≡ (findings_in cs gs of).kind) × (list_all (has_value (kinds_in cs)) (aggregates_of cs of) ≡ true)

aggregate_over : {m : _} (cs : List SourceColumn) (gs : List ℕ) (before after all : List Aggregate) (k : AggregateKind) (of : Row_of-SqlExpr m) → sum_in false of ≡ true → all ≡ before ++ aggregate_of k (placed_in cs of) ∷ after
    → has_kind (aggregate_kind k (findings_in cs gs of).kind) ≡ true
    → (expr_kind (seen (kinds_in cs) gs all) (expr.Column (next_place gs before)) ≡ aggregate_kind k (findings_in cs gs of).kind) × (list_all (has_value (kinds_in cs)) (aggregate_of k (placed_in cs of) ∷ []) ≡ true)
aggregate_over cs gs before after all k of s w h =
    let x = placed_in cs of in
    let inner = placed_kind_in cs gs of (sum_without_in cs gs of s) (inner_has k (findings_in cs gs of).kind h) in
    let t = aggregate_found (kinds_in cs) k x (findings_in cs gs of).kind inner h in
    (leaf (kinds_in cs) gs before (aggregate_of k x) after all w ∙ t.1, rw t.0 refl)

pub left_part : (all before xs ys after : List Aggregate) → all ≡ before ++ ((xs ++ ys) ++ after) → all ≡ before ++ (xs ++ (ys ++ after))
left_part all before xs ys after w = w ∙ ap (λ (z : List Aggregate). before ++ z) (append_assoc xs ys after)

pub right_part : (all before xs ys after : List Aggregate) → all ≡ before ++ ((xs ++ ys) ++ after) → all ≡ (before ++ xs) ++ (ys ++ after)
right_part all before xs ys after w = left_part all before xs ys after w ∙ sym (append_assoc before xs (ys ++ after))

both_values : (ks : List Kind) (xs ys : List Aggregate) → list_all (has_value ks) xs ≡ true → list_all (has_value ks) ys ≡ true → list_all (has_value ks) (xs ++ ys) ≡ true
both_values ks xs ys h k = rw (list_all-append (has_value ks) xs ys, h, k) refl

mutual
  unfolding of_aggregate of_two of_compared of_not of_null_test

  pub sum_typed : (cs : List SourceColumn) (gs : List ℕ) (before after all : List Aggregate) (x : SqlExpr) → is_sum true x ≡ true → (findings cs gs x).ungrouped ≡ false → has_kind (findings cs gs x).kind ≡ true
      → all ≡ before ++ (aggregates_in cs x ++ after) → IsTyped cs gs all before x
  sum_typed cs gs before after all (e.Literal v) s u h w = (literal_same v, refl)
  sum_typed cs gs before after all (e.Column r) s u h w = (column_over cs gs all r u h, refl)
  sum_typed cs gs before after all e.CountAll s u h w = (leaf (kinds_in cs) gs before agg.CountAll after all w, refl)
  sum_typed cs gs before after all (e.Aggregate' k _ of) s u h w = aggregate_over cs gs before after all k of s w h
  sum_typed cs gs before after all (e.Arith' k _ left _ right) s u h w =
      let p = both_true (sum_in true left) (sum_in true right) s in
      let q = or_parts (findings_in cs gs left).ungrouped (findings_in cs gs right).ungrouped u in
      let t = two_have kind.Int kind.Int (findings_in cs gs left).kind (findings_in cs gs right).kind h in
      let a = sum_typed_in cs gs before (aggregates_of cs right ++ after) all left p.0 q.0 t.0 (left_part all before (aggregates_of cs left) (aggregates_of cs right) after w) in
      let b = sum_typed_in cs gs (before ++ aggregates_of cs left) after all right p.1 q.1 t.1 (right_part all before (aggregates_of cs left) (aggregates_of cs right) after w) in (
        expr_kind-Arith (seen (kinds_in cs) gs all) k (over_in cs gs before left) (over_in cs gs (before ++ aggregates_of cs left) right) ∙ asked_same kind.Int a.0 b.0,
        both_values (kinds_in cs) (aggregates_of cs left) (aggregates_of cs right) a.1 b.1,
      )
  sum_typed cs gs before after all (e.Compare' k _ left _ right) s u h w = cc
  sum_typed cs gs before after all (e.And' _ left _ right) s u h w = cc
  sum_typed cs gs before after all (e.Or' _ left _ right) s u h w = cc
  sum_typed cs gs before after all (e.Not' _ of) s u h w = cc
  sum_typed cs gs before after all (e.IsNull' _ of) s u h w = cc

  pub sum_typed_in : {m : _} (cs : List SourceColumn) (gs : List ℕ) (before after all : List Aggregate) (of : Row_of-SqlExpr m) → sum_in true of ≡ true → (findings_in cs gs of).ungrouped ≡ false → has_kind (findings_in cs gs of).kind ≡ true
      → all ≡ before ++ (aggregates_of cs of ++ after) → IsTypedIn cs gs all before of
  sum_typed_in cs gs before after all end_of-SqlExpr s u h w = cc
  sum_typed_in cs gs before after all (more_of-SqlExpr x rest) s u h w = sum_typed cs gs before after all x s u h w

pub operand_typed : (cs : List SourceColumn) (gs : List ℕ) (before after all : List Aggregate) (x : SqlExpr) → is_operand true x ≡ true → (findings cs gs x).ungrouped ≡ false → has_kind (findings cs gs x).kind ≡ true
    → all ≡ before ++ (aggregates_in cs x ++ after) → IsTyped cs gs all before x
unfolding of_aggregate
operand_typed cs gs before after all (e.Literal v) s u h w = (literal_same v, refl)
operand_typed cs gs before after all (e.Column r) s u h w = (column_over cs gs all r u h, refl)
operand_typed cs gs before after all e.CountAll s u h w = (leaf (kinds_in cs) gs before agg.CountAll after all w, refl)
operand_typed cs gs before after all (e.Aggregate' k _ of) s u h w = aggregate_over cs gs before after all k of s w h
operand_typed cs gs before after all _ s u h w = cc

pub operand_typed_in : {m : _} (cs : List SourceColumn) (gs : List ℕ) (before after all : List Aggregate) (of : Row_of-SqlExpr m) → operand_in true of ≡ true → (findings_in cs gs of).ungrouped ≡ false → has_kind (findings_in cs gs of).kind ≡ true
    → all ≡ before ++ (aggregates_of cs of ++ after) → IsTypedIn cs gs all before of
operand_typed_in cs gs before after all end_of-SqlExpr s u h w = cc
operand_typed_in cs gs before after all (more_of-SqlExpr x rest) s u h w = operand_typed cs gs before after all x s u h w

mutual
  unfolding of_aggregate of_two of_compared of_not of_null_test

  pub cond_typed : (cs : List SourceColumn) (gs : List ℕ) (before after all : List Aggregate) (x : SqlExpr) → is_cond true x ≡ true → (findings cs gs x).ungrouped ≡ false → has_kind (findings cs gs x).kind ≡ true
      → all ≡ before ++ (aggregates_in cs x ++ after) → IsTyped cs gs all before x
  cond_typed cs gs before after all (e.Literal v) s u h w = (literal_same v, refl)
  cond_typed cs gs before after all (e.Column r) s u h w = (column_over cs gs all r u h, refl)
  cond_typed cs gs before after all e.CountAll s u h w = (leaf (kinds_in cs) gs before agg.CountAll after all w, refl)
  cond_typed cs gs before after all (e.Aggregate' k _ of) s u h w = aggregate_over cs gs before after all k of s w h
  cond_typed cs gs before after all (e.Arith' k _ left _ right) s u h w = cc
  cond_typed cs gs before after all (e.Compare' k _ left _ right) s u h w =
      let p = both_true (operand_in true left) (operand_in true right) s in
      let q = or_parts (findings_in cs gs left).ungrouped (findings_in cs gs right).ungrouped u in
      let t = alike_have (findings_in cs gs left).kind (findings_in cs gs right).kind (kind_fits (are_alike (findings_in cs gs left).kind (findings_in cs gs right).kind) kind.Bool h) in
      let a = operand_typed_in cs gs before (aggregates_of cs right ++ after) all left p.0 q.0 t.0 (left_part all before (aggregates_of cs left) (aggregates_of cs right) after w) in
      let b = operand_typed_in cs gs (before ++ aggregates_of cs left) after all right p.1 q.1 t.1 (right_part all before (aggregates_of cs left) (aggregates_of cs right) after w) in (
        expr_kind-Compare (seen (kinds_in cs) gs all) k (over_in cs gs before left) (over_in cs gs (before ++ aggregates_of cs left) right) ∙ alike_same a.0 b.0,
        both_values (kinds_in cs) (aggregates_of cs left) (aggregates_of cs right) a.1 b.1,
      )
  cond_typed cs gs before after all (e.And' _ left _ right) s u h w =
      let p = both_true (cond_in true left) (cond_in true right) s in
      let q = or_parts (findings_in cs gs left).ungrouped (findings_in cs gs right).ungrouped u in
      let t = two_have kind.Bool kind.Bool (findings_in cs gs left).kind (findings_in cs gs right).kind h in
      let a = cond_typed_in cs gs before (aggregates_of cs right ++ after) all left p.0 q.0 t.0 (left_part all before (aggregates_of cs left) (aggregates_of cs right) after w) in
      let b = cond_typed_in cs gs (before ++ aggregates_of cs left) after all right p.1 q.1 t.1 (right_part all before (aggregates_of cs left) (aggregates_of cs right) after w) in (
        expr_kind-And (seen (kinds_in cs) gs all) (over_in cs gs before left) (over_in cs gs (before ++ aggregates_of cs left) right) ∙ asked_same kind.Bool a.0 b.0,
        both_values (kinds_in cs) (aggregates_of cs left) (aggregates_of cs right) a.1 b.1,
      )
  cond_typed cs gs before after all (e.Or' _ left _ right) s u h w =
      let p = both_true (cond_in true left) (cond_in true right) s in
      let q = or_parts (findings_in cs gs left).ungrouped (findings_in cs gs right).ungrouped u in
      let t = two_have kind.Bool kind.Bool (findings_in cs gs left).kind (findings_in cs gs right).kind h in
      let a = cond_typed_in cs gs before (aggregates_of cs right ++ after) all left p.0 q.0 t.0 (left_part all before (aggregates_of cs left) (aggregates_of cs right) after w) in
      let b = cond_typed_in cs gs (before ++ aggregates_of cs left) after all right p.1 q.1 t.1 (right_part all before (aggregates_of cs left) (aggregates_of cs right) after w) in (
        expr_kind-Or (seen (kinds_in cs) gs all) (over_in cs gs before left) (over_in cs gs (before ++ aggregates_of cs left) right) ∙ asked_same kind.Bool a.0 b.0,
        both_values (kinds_in cs) (aggregates_of cs left) (aggregates_of cs right) a.1 b.1,
      )
  cond_typed cs gs before after all (e.Not' _ of) s u h w =
      let t = of_has kind.Bool (findings_in cs gs of).kind (kind_fits (is_of kind.Bool (findings_in cs gs of).kind) kind.Bool h) in
      let a = cond_typed_in cs gs before after all of s u t w in
      (expr_kind-Not (seen (kinds_in cs) gs all) (over_in cs gs before of) ∙ ap (λ (k : ExprKind). kind_if (is_of kind.Bool k) kind.Bool) a.0, a.1)
  cond_typed cs gs before after all (e.IsNull' _ of) s u h w =
      let a = operand_typed_in cs gs before after all of s u (kind_fits (has_kind (findings_in cs gs of).kind) kind.Bool h) w in
      (expr_kind-IsNull (seen (kinds_in cs) gs all) (over_in cs gs before of) ∙ ap (λ (k : ExprKind). kind_if (has_kind k) kind.Bool) a.0, a.1)

  pub cond_typed_in : {m : _} (cs : List SourceColumn) (gs : List ℕ) (before after all : List Aggregate) (of : Row_of-SqlExpr m) → cond_in true of ≡ true → (findings_in cs gs of).ungrouped ≡ false → has_kind (findings_in cs gs of).kind ≡ true
      → all ≡ before ++ (aggregates_of cs of ++ after) → IsTypedIn cs gs all before of
  cond_typed_in cs gs before after all end_of-SqlExpr s u h w = cc
  cond_typed_in cs gs before after all (more_of-SqlExpr x rest) s u h w = cond_typed cs gs before after all x s u h w
