-- Expressions over the columns of groups, and their aggregates: what they keep of the tree that they are made of.
use Rattle.std.proofs.Common.{◌≡◌, ℕ, suc, ◌+◌, ◌<◌, ◌≤◌, ◌==◌, Bool, true, false, not, ◌||◌, ◌&&◌, cond, nat_le, nat_lt, List, [], ◌∷◌, ◌++◌, length, Option, Some, None, refl, sym, ap, subst, ◌∙◌, append_assoc, length-append, le-leb, lt-ltb, arith}
use Rattle.std.specs.Prelude.{position, unwrap_or, flat_map}
use Rattle.std.specs.List.{list_any, list_all, position_or_len}
use Rattle.std.proofs.lemmas.Bool.{leb-true}
use Rattle.std.proofs.lemmas.List.Folds.{list_all-append}
use Rattle.hq_expr.specs.declared.tree.ColumnRef.{ColumnRef}
use Rattle.hq_expr.specs.declared.tree.AggregateKind.{AggregateKind}
use Rattle.hq_expr.specs.declared.tree.AggregateKind.TheVariants as ak
use Rattle.hq_expr.specs.declared.tree.SqlExpr.{SqlExpr, Row_of-SqlExpr, end_of-SqlExpr, more_of-SqlExpr}
use Rattle.hq_expr.specs.declared.tree.SqlExpr.TheVariants as e
use Rattle.hq_expr.specs.Shape.{weight, weight_in, is_sum, sum_in, is_operand, operand_in, is_cond, cond_in}
use Rattle.hq_expr.specs.Uses.{uses, uses_in, either, aggregated}
use Rattle.hq_algebra.specs.declared.expr.Expr.{Expr}
use Rattle.hq_algebra.specs.declared.aggregate.Aggregate.{Aggregate}
use Rattle.hq_algebra.specs.declared.aggregate.Aggregate.TheVariants as agg
use Rattle.hq_algebra.specs.Shape.{parts, has_arith, has_column}
use Rattle.hq_algebra.specs.Rules.{argument, arguments, are_small, stands_over_pairs, is_below}
use Rattle.hq_bind.specs.declared.scope.SourceColumn.{SourceColumn}
use Rattle.hq_bind.specs.Scope.{place_of}
use Rattle.hq_bind.specs.Findings.{findings, findings_in, is_among, of_aggregate, of_two, of_compared, of_not, of_null_test}
use Rattle.hq_bind.specs.Bound.{placed, placed_in, over_groups, over_in, aggregates_in, aggregates_of, aggregate_of, group_column, placed_column}
use Rattle.hq_bind.proofs.AtParts.{parts-Arith, parts-Compare, parts-And, parts-Or, parts-Not, parts-IsNull, arith-Compare, arith-And, arith-Or, arith-Not, arith-IsNull, below-Arith, below-Compare, below-And, below-Or, below-Not, below-IsNull}
use Rattle.hq_bind.proofs.OverSources.{both_true, or_false, placed_parts, placed_parts_in, sum_column_in}

-- ---- HAVING has no arithmetic outside of its aggregates

operand_over : (cs : List SourceColumn) (gs : List ℕ) (at : List Aggregate) (x : SqlExpr) → is_operand true x ≡ true → has_arith (over_groups cs gs at x) ≡ false
operand_over cs gs at (e.Literal v) h = refl
operand_over cs gs at (e.Column r) h = refl
operand_over cs gs at e.CountAll h = refl
operand_over cs gs at (e.Aggregate' k _ of) h = refl
operand_over cs gs at _ h = cc

operand_over_in : {m : _} (cs : List SourceColumn) (gs : List ℕ) (at : List Aggregate) (of : Row_of-SqlExpr m) → operand_in true of ≡ true → has_arith (over_in cs gs at of) ≡ false
operand_over_in cs gs at end_of-SqlExpr h = refl
operand_over_in cs gs at (more_of-SqlExpr x rest) h = operand_over cs gs at x h

mutual
  pub cond_over : (cs : List SourceColumn) (gs : List ℕ) (at : List Aggregate) (x : SqlExpr) → is_cond true x ≡ true → has_arith (over_groups cs gs at x) ≡ false
  cond_over cs gs at (e.Literal v) h = refl
  cond_over cs gs at (e.Column r) h = refl
  cond_over cs gs at e.CountAll h = refl
  cond_over cs gs at (e.Aggregate' k _ of) h = refl
  cond_over cs gs at (e.Arith' k _ left _ right) h = cc
  cond_over cs gs at (e.Compare' k _ left _ right) h =
      let p = both_true (operand_in true left) (operand_in true right) h in
      arith-Compare k (over_in cs gs at left) (over_in cs gs (at ++ aggregates_of cs left) right) ∙ or_false (has_arith (over_in cs gs at left)) (has_arith (over_in cs gs (at ++ aggregates_of cs left) right)) (operand_over_in cs gs at left p.0) (operand_over_in cs gs (at ++ aggregates_of cs left) right p.1)
  cond_over cs gs at (e.And' _ left _ right) h =
      let p = both_true (cond_in true left) (cond_in true right) h in
      arith-And (over_in cs gs at left) (over_in cs gs (at ++ aggregates_of cs left) right) ∙ or_false (has_arith (over_in cs gs at left)) (has_arith (over_in cs gs (at ++ aggregates_of cs left) right)) (cond_over_in cs gs at left p.0) (cond_over_in cs gs (at ++ aggregates_of cs left) right p.1)
  cond_over cs gs at (e.Or' _ left _ right) h =
      let p = both_true (cond_in true left) (cond_in true right) h in
      arith-Or (over_in cs gs at left) (over_in cs gs (at ++ aggregates_of cs left) right) ∙ or_false (has_arith (over_in cs gs at left)) (has_arith (over_in cs gs (at ++ aggregates_of cs left) right)) (cond_over_in cs gs at left p.0) (cond_over_in cs gs (at ++ aggregates_of cs left) right p.1)
  cond_over cs gs at (e.Not' _ of) h = arith-Not (over_in cs gs at of) ∙ cond_over_in cs gs at of h
  cond_over cs gs at (e.IsNull' _ of) h = arith-IsNull (over_in cs gs at of) ∙ operand_over_in cs gs at of h

  pub cond_over_in : {m : _} (cs : List SourceColumn) (gs : List ℕ) (at : List Aggregate) (of : Row_of-SqlExpr m) → cond_in true of ≡ true → has_arith (over_in cs gs at of) ≡ false
  cond_over_in cs gs at end_of-SqlExpr h = refl
  cond_over_in cs gs at (more_of-SqlExpr x rest) h = cond_over cs gs at x h

-- ---- it has no more parts than the tree weighs

mutual
  pub over_parts : (cs : List SourceColumn) (gs : List ℕ) (at : List Aggregate) (x : SqlExpr) → parts (over_groups cs gs at x) ≤ weight x
  over_parts cs gs at (e.Literal v) = omega arith
  over_parts cs gs at (e.Column r) = omega arith
  over_parts cs gs at e.CountAll = omega arith
  over_parts cs gs at (e.Aggregate' k _ of) = omega arith
  over_parts cs gs at (e.Arith' k _ left _ right) = omega (arith, parts-Arith k (over_in cs gs at left) (over_in cs gs (at ++ aggregates_of cs left) right), over_parts_in cs gs at left, over_parts_in cs gs (at ++ aggregates_of cs left) right)
  over_parts cs gs at (e.Compare' k _ left _ right) = omega (arith, parts-Compare k (over_in cs gs at left) (over_in cs gs (at ++ aggregates_of cs left) right), over_parts_in cs gs at left, over_parts_in cs gs (at ++ aggregates_of cs left) right)
  over_parts cs gs at (e.And' _ left _ right) = omega (arith, parts-And (over_in cs gs at left) (over_in cs gs (at ++ aggregates_of cs left) right), over_parts_in cs gs at left, over_parts_in cs gs (at ++ aggregates_of cs left) right)
  over_parts cs gs at (e.Or' _ left _ right) = omega (arith, parts-Or (over_in cs gs at left) (over_in cs gs (at ++ aggregates_of cs left) right), over_parts_in cs gs at left, over_parts_in cs gs (at ++ aggregates_of cs left) right)
  over_parts cs gs at (e.Not' _ of) = omega (arith, parts-Not (over_in cs gs at of), over_parts_in cs gs at of)
  over_parts cs gs at (e.IsNull' _ of) = omega (arith, parts-IsNull (over_in cs gs at of), over_parts_in cs gs at of)

  pub over_parts_in : {m : _} (cs : List SourceColumn) (gs : List ℕ) (at : List Aggregate) (of : Row_of-SqlExpr m) → parts (over_in cs gs at of) ≤ weight_in of
  over_parts_in cs gs at end_of-SqlExpr = omega arith
  over_parts_in cs gs at (more_of-SqlExpr x rest) = over_parts cs gs at x

-- ---- it has no more aggregates than the tree weighs

mutual
  pub few_aggregates : (cs : List SourceColumn) (x : SqlExpr) → length (aggregates_in cs x) ≤ weight x
  few_aggregates cs (e.Literal v) = omega arith
  few_aggregates cs (e.Column r) = omega arith
  few_aggregates cs e.CountAll = omega arith
  few_aggregates cs (e.Aggregate' k _ of) = omega arith
  few_aggregates cs (e.Arith' k _ left _ right) = omega (arith, length-append (aggregates_of cs left) (aggregates_of cs right), few_aggregates_in cs left, few_aggregates_in cs right)
  few_aggregates cs (e.Compare' k _ left _ right) = omega (arith, length-append (aggregates_of cs left) (aggregates_of cs right), few_aggregates_in cs left, few_aggregates_in cs right)
  few_aggregates cs (e.And' _ left _ right) = omega (arith, length-append (aggregates_of cs left) (aggregates_of cs right), few_aggregates_in cs left, few_aggregates_in cs right)
  few_aggregates cs (e.Or' _ left _ right) = omega (arith, length-append (aggregates_of cs left) (aggregates_of cs right), few_aggregates_in cs left, few_aggregates_in cs right)
  few_aggregates cs (e.Not' _ of) = omega (arith, few_aggregates_in cs of)
  few_aggregates cs (e.IsNull' _ of) = omega (arith, few_aggregates_in cs of)

  pub few_aggregates_in : {m : _} (cs : List SourceColumn) (of : Row_of-SqlExpr m) → length (aggregates_of cs of) ≤ weight_in of
  few_aggregates_in cs end_of-SqlExpr = omega arith
  few_aggregates_in cs (more_of-SqlExpr x rest) = few_aggregates cs x

-- ---- the arguments of its aggregates are small

pub arguments_append : (xs ys : List Aggregate) → arguments (xs ++ ys) ≡ arguments xs ++ arguments ys
arguments_append [] ys = refl
arguments_append (a ∷ xs) ys = ap (λ z. argument a ++ z) (arguments_append xs ys) ∙ sym (append_assoc (argument a) (arguments xs) (arguments ys))

pub small_append : (xs ys : List Aggregate) → are_small (arguments xs) ≡ true → are_small (arguments ys) ≡ true → are_small (arguments (xs ++ ys)) ≡ true
small_append xs ys h h' = rw (arguments_append xs ys, list_all-append (λ e. nat_le (parts e) 256) (arguments xs) (arguments ys), h, h') refl

small_of : (k : AggregateKind) (x : Expr) → parts x ≤ 256 → are_small (arguments (aggregate_of k x ∷ [])) ≡ true
small_of ak.Count x h = rw (le-leb (parts x) 256 h) refl
small_of ak.Sum x h = rw (le-leb (parts x) 256 h) refl
small_of ak.Min x h = rw (le-leb (parts x) 256 h) refl
small_of ak.Max x h = rw (le-leb (parts x) 256 h) refl

mutual
  pub small_arguments : (cs : List SourceColumn) (x : SqlExpr) → weight x ≤ 256 → are_small (arguments (aggregates_in cs x)) ≡ true
  small_arguments cs (e.Literal v) h = refl
  small_arguments cs (e.Column r) h = refl
  small_arguments cs e.CountAll h = refl
  small_arguments cs (e.Aggregate' k _ of) h = small_of k (placed_in cs of) (omega (arith, h, placed_parts_in cs of))
  small_arguments cs (e.Arith' k _ left _ right) h = small_append (aggregates_of cs left) (aggregates_of cs right) (small_arguments_in cs left (omega (arith, h))) (small_arguments_in cs right (omega (arith, h)))
  small_arguments cs (e.Compare' k _ left _ right) h = small_append (aggregates_of cs left) (aggregates_of cs right) (small_arguments_in cs left (omega (arith, h))) (small_arguments_in cs right (omega (arith, h)))
  small_arguments cs (e.And' _ left _ right) h = small_append (aggregates_of cs left) (aggregates_of cs right) (small_arguments_in cs left (omega (arith, h))) (small_arguments_in cs right (omega (arith, h)))
  small_arguments cs (e.Or' _ left _ right) h = small_append (aggregates_of cs left) (aggregates_of cs right) (small_arguments_in cs left (omega (arith, h))) (small_arguments_in cs right (omega (arith, h)))
  small_arguments cs (e.Not' _ of) h = small_arguments_in cs of (omega (arith, h))
  small_arguments cs (e.IsNull' _ of) h = small_arguments_in cs of (omega (arith, h))

  pub small_arguments_in : {m : _} (cs : List SourceColumn) (of : Row_of-SqlExpr m) → weight_in of ≤ 256 → are_small (arguments (aggregates_of cs of)) ≡ true
  small_arguments_in cs end_of-SqlExpr h = refl
  small_arguments_in cs (more_of-SqlExpr x rest) h = small_arguments cs x h

-- ---- where nothing counts rows, its aggregates stand over several sources

pub pairs_append : (xs ys : List Aggregate) → list_all stands_over_pairs xs ≡ true → list_all stands_over_pairs ys ≡ true → list_all stands_over_pairs (xs ++ ys) ≡ true
pairs_append xs ys h h' = rw (list_all-append stands_over_pairs xs ys, h, h') refl

pairs_of : (k : AggregateKind) (x : Expr) (column : Bool) (count : Bool) → has_column x ≡ column → (aggregated k (record { column = column; count = count })).count ≡ false
    → list_all stands_over_pairs (aggregate_of k x ∷ []) ≡ true
unfolding aggregated
pairs_of ak.Count x column count e h = cc
pairs_of ak.Sum x true count e h = rw e refl
pairs_of ak.Sum x false count e h = cc
pairs_of ak.Min x column count e h = refl
pairs_of ak.Max x column count e h = refl

pub or_parts : (a b : Bool) → (a || b) ≡ false → (a ≡ false) × (b ≡ false)
or_parts true b h = cc
or_parts false b h = (refl, h)

mutual
  unfolding either

  pub sum_pairs : (cs : List SourceColumn) (x : SqlExpr) → is_sum true x ≡ true → (uses x).count ≡ false → list_all stands_over_pairs (aggregates_in cs x) ≡ true
  sum_pairs cs (e.Literal v) s h = refl
  sum_pairs cs (e.Column r) s h = refl
  sum_pairs cs e.CountAll s h = cc
  sum_pairs cs (e.Aggregate' k _ of) s h = pairs_of k (placed_in cs of) (uses_in of).column (uses_in of).count (sum_column_in cs of s) h
  sum_pairs cs (e.Arith' k _ left _ right) s h =
      let p = both_true (sum_in true left) (sum_in true right) s in let q = or_parts (uses_in left).count (uses_in right).count h in
      pairs_append (aggregates_of cs left) (aggregates_of cs right) (sum_pairs_in cs left p.0 q.0) (sum_pairs_in cs right p.1 q.1)
  sum_pairs cs (e.Compare' k _ left _ right) s h = cc
  sum_pairs cs (e.And' _ left _ right) s h = cc
  sum_pairs cs (e.Or' _ left _ right) s h = cc
  sum_pairs cs (e.Not' _ of) s h = cc
  sum_pairs cs (e.IsNull' _ of) s h = cc

  pub sum_pairs_in : {m : _} (cs : List SourceColumn) (of : Row_of-SqlExpr m) → sum_in true of ≡ true → (uses_in of).count ≡ false → list_all stands_over_pairs (aggregates_of cs of) ≡ true
  sum_pairs_in cs end_of-SqlExpr s h = cc
  sum_pairs_in cs (more_of-SqlExpr x rest) s h = sum_pairs cs x s h

operand_pairs : (cs : List SourceColumn) (x : SqlExpr) → is_operand true x ≡ true → (uses x).count ≡ false → list_all stands_over_pairs (aggregates_in cs x) ≡ true
operand_pairs cs (e.Literal v) s h = refl
operand_pairs cs (e.Column r) s h = refl
operand_pairs cs e.CountAll s h = cc
operand_pairs cs (e.Aggregate' k _ of) s h = pairs_of k (placed_in cs of) (uses_in of).column (uses_in of).count (sum_column_in cs of s) h
operand_pairs cs _ s h = cc

operand_pairs_in : {m : _} (cs : List SourceColumn) (of : Row_of-SqlExpr m) → operand_in true of ≡ true → (uses_in of).count ≡ false → list_all stands_over_pairs (aggregates_of cs of) ≡ true
operand_pairs_in cs end_of-SqlExpr s h = cc
operand_pairs_in cs (more_of-SqlExpr x rest) s h = operand_pairs cs x s h

mutual
  unfolding either

  pub cond_pairs : (cs : List SourceColumn) (x : SqlExpr) → is_cond true x ≡ true → (uses x).count ≡ false → list_all stands_over_pairs (aggregates_in cs x) ≡ true
  cond_pairs cs (e.Literal v) s h = refl
  cond_pairs cs (e.Column r) s h = refl
  cond_pairs cs e.CountAll s h = cc
  cond_pairs cs (e.Aggregate' k _ of) s h = pairs_of k (placed_in cs of) (uses_in of).column (uses_in of).count (sum_column_in cs of s) h
  cond_pairs cs (e.Arith' k _ left _ right) s h = cc
  cond_pairs cs (e.Compare' k _ left _ right) s h =
      let p = both_true (operand_in true left) (operand_in true right) s in let q = or_parts (uses_in left).count (uses_in right).count h in
      pairs_append (aggregates_of cs left) (aggregates_of cs right) (operand_pairs_in cs left p.0 q.0) (operand_pairs_in cs right p.1 q.1)
  cond_pairs cs (e.And' _ left _ right) s h =
      let p = both_true (cond_in true left) (cond_in true right) s in let q = or_parts (uses_in left).count (uses_in right).count h in
      pairs_append (aggregates_of cs left) (aggregates_of cs right) (cond_pairs_in cs left p.0 q.0) (cond_pairs_in cs right p.1 q.1)
  cond_pairs cs (e.Or' _ left _ right) s h =
      let p = both_true (cond_in true left) (cond_in true right) s in let q = or_parts (uses_in left).count (uses_in right).count h in
      pairs_append (aggregates_of cs left) (aggregates_of cs right) (cond_pairs_in cs left p.0 q.0) (cond_pairs_in cs right p.1 q.1)
  cond_pairs cs (e.Not' _ of) s h = cond_pairs_in cs of s h
  cond_pairs cs (e.IsNull' _ of) s h = operand_pairs_in cs of s h

  pub cond_pairs_in : {m : _} (cs : List SourceColumn) (of : Row_of-SqlExpr m) → cond_in true of ≡ true → (uses_in of).count ≡ false → list_all stands_over_pairs (aggregates_of cs of) ≡ true
  cond_pairs_in cs end_of-SqlExpr s h = cc
  cond_pairs_in cs (more_of-SqlExpr x rest) s h = cond_pairs cs x s h

-- ---- its columns are those of the groups and the aggregates

pub first_within : {X : Type 0} (f : X → Bool) (xs : List X) → list_any f xs ≡ true → position_or_len f xs < length xs
first_within f [] h = cc
first_within f (x ∷ xs) h = go (f x) refl h (first_within f xs)
  where
    go : (b : Bool) → f x ≡ b → (b || list_any f xs) ≡ true → (list_any f xs ≡ true → position_or_len f xs < length xs) → position_or_len f (x ∷ xs) < suc (length xs)
    go true e h again = rw e (omega arith)
    go false e h again = rw e (omega (arith, again h))

pub found_within : {X : Type 0} (f : X → Bool) (xs : List X) → list_any f xs ≡ true → unwrap_or (position f xs) 0 < length xs
found_within f xs h = let w = first_within f xs h in rw (lt-ltb (position_or_len f xs) (length xs) w) w

pub not_false : (b : Bool) → not b ≡ false → b ≡ true
not_false true h = refl
not_false false h = cc

among_within : (gs : List ℕ) (o : Option ℕ) → is_among gs o ≡ true → unwrap_or (position (λ p. p == unwrap_or o 0) gs) 0 < length gs
among_within gs None h = cc
among_within gs (Some place) h = found_within (λ p. p == place) gs h

both_below : (a b : Bool) → a ≡ true → b ≡ true → (a && b) ≡ true
both_below a b h h' = rw (h, h') refl

mutual
  unfolding of_two of_compared of_not of_null_test

  pub over_below : (cs : List SourceColumn) (gs : List ℕ) (at : List Aggregate) (n : ℕ) (x : SqlExpr) → (findings cs gs x).ungrouped ≡ false → length gs ≤ n → length gs + (length at + length (aggregates_in cs x)) ≤ n
      → is_below n (over_groups cs gs at x) ≡ true
  over_below cs gs at n (e.Literal v) h g l = refl
  over_below cs gs at n (e.Column r) h g l = let w = among_within gs (place_of cs r) (not_false (is_among gs (place_of cs r)) h) in lt-ltb (group_column cs gs r) n (omega (arith, w, g))
  over_below cs gs at n e.CountAll h g l = lt-ltb (length gs + length at) n (omega (arith, l))
  over_below cs gs at n (e.Aggregate' k _ of) h g l = lt-ltb (length gs + length at) n (omega (arith, l))
  over_below cs gs at n (e.Arith' k _ left _ right) h g l =
      let q = or_parts (findings_in cs gs left).ungrouped (findings_in cs gs right).ungrouped h in
      let len = length-append (aggregates_of cs left) (aggregates_of cs right) in let front = length-append at (aggregates_of cs left) in
      below-Arith n k (over_in cs gs at left) (over_in cs gs (at ++ aggregates_of cs left) right) ∙ both_below (is_below n (over_in cs gs at left)) (is_below n (over_in cs gs (at ++ aggregates_of cs left) right))
      (over_below_in cs gs at n left q.0 g (omega (arith, l, len, front))) (over_below_in cs gs (at ++ aggregates_of cs left) n right q.1 g (omega (arith, l, len, front)))
  over_below cs gs at n (e.Compare' k _ left _ right) h g l =
      let q = or_parts (findings_in cs gs left).ungrouped (findings_in cs gs right).ungrouped h in
      let len = length-append (aggregates_of cs left) (aggregates_of cs right) in let front = length-append at (aggregates_of cs left) in
      below-Compare n k (over_in cs gs at left) (over_in cs gs (at ++ aggregates_of cs left) right) ∙ both_below (is_below n (over_in cs gs at left)) (is_below n (over_in cs gs (at ++ aggregates_of cs left) right))
      (over_below_in cs gs at n left q.0 g (omega (arith, l, len, front))) (over_below_in cs gs (at ++ aggregates_of cs left) n right q.1 g (omega (arith, l, len, front)))
  over_below cs gs at n (e.And' _ left _ right) h g l =
      let q = or_parts (findings_in cs gs left).ungrouped (findings_in cs gs right).ungrouped h in
      let len = length-append (aggregates_of cs left) (aggregates_of cs right) in let front = length-append at (aggregates_of cs left) in
      below-And n (over_in cs gs at left) (over_in cs gs (at ++ aggregates_of cs left) right) ∙ both_below (is_below n (over_in cs gs at left)) (is_below n (over_in cs gs (at ++ aggregates_of cs left) right))
      (over_below_in cs gs at n left q.0 g (omega (arith, l, len, front))) (over_below_in cs gs (at ++ aggregates_of cs left) n right q.1 g (omega (arith, l, len, front)))
  over_below cs gs at n (e.Or' _ left _ right) h g l =
      let q = or_parts (findings_in cs gs left).ungrouped (findings_in cs gs right).ungrouped h in
      let len = length-append (aggregates_of cs left) (aggregates_of cs right) in let front = length-append at (aggregates_of cs left) in
      below-Or n (over_in cs gs at left) (over_in cs gs (at ++ aggregates_of cs left) right) ∙ both_below (is_below n (over_in cs gs at left)) (is_below n (over_in cs gs (at ++ aggregates_of cs left) right))
      (over_below_in cs gs at n left q.0 g (omega (arith, l, len, front))) (over_below_in cs gs (at ++ aggregates_of cs left) n right q.1 g (omega (arith, l, len, front)))
  over_below cs gs at n (e.Not' _ of) h g l = below-Not n (over_in cs gs at of) ∙ over_below_in cs gs at n of h g l
  over_below cs gs at n (e.IsNull' _ of) h g l = below-IsNull n (over_in cs gs at of) ∙ over_below_in cs gs at n of h g l

  pub over_below_in : {m : _} (cs : List SourceColumn) (gs : List ℕ) (at : List Aggregate) (n : ℕ) (of : Row_of-SqlExpr m) → (findings_in cs gs of).ungrouped ≡ false → length gs ≤ n → length gs + (length at + length (aggregates_of cs of)) ≤ n
      → is_below n (over_in cs gs at of) ≡ true
  over_below_in cs gs at n end_of-SqlExpr h g l = refl
  over_below_in cs gs at n (more_of-SqlExpr x rest) h g l = over_below cs gs at n x h g l
