-- Expressions and aggregates: what is read was written, and what is written is read again.
use Rattle.std.proofs.Common.{◌≡◌, ◌⊎◌, ℕ, zero, suc, ◌+◌, ◌^◌, ◌<◌, ◌≤◌, Bool, true, false, List, [], ◌∷◌, ◌++◌, length, Option, Some, None, refl, sym, ap, subst, ◌∙◌, append_assoc, arith}
use Rattle.std.specs.Int.{w16}
use Rattle.hq_value.specs.declared.value.Value.{Value}
use Rattle.hq_value.specs.declared.operator.ArithKind.{ArithKind}
use Rattle.hq_value.specs.declared.operator.CompareKind.{CompareKind}
use Rattle.hq_algebra.specs.declared.expr.Expr.{Expr, roll-Expr, map-Expr}
use Rattle.hq_algebra.specs.declared.expr.Expr.TheOpen.{Expr-F}
use Rattle.hq_algebra.specs.declared.expr.Expr.TheFolds.{ind-Expr}
use Rattle.hq_algebra.specs.declared.expr.Expr.TheVariants as expr
use Rattle.hq_algebra.specs.declared.expr.Expr.TheBlock.{hidden-the_row-Expr-0}
use denote.Hole.Carrier.{hidden}
use Rattle.hq_algebra.specs.declared.aggregate.Aggregate.{Aggregate}
use Rattle.hq_algebra.specs.declared.aggregate.Aggregate.TheVariants as agg
use Rattle.hq_algebra.specs.Shape.{parts}
use Rattle.hq_planwire.specs.Bytes.{short, arith_byte, compare_byte, literal_bytes, expr_bytes, aggregate_bytes}
use Rattle.hq_planwire.specs.Ranges.{IsShort, ValueHasRoom, ExprHasRoom, AggregateHasRoom}
use Rattle.hq_planwire.specs.Reading.{Reader, ◌>>=◌, made_at, both_at, then_at, two_at, byte_at, number_at, coded_at, arith_of, compare_of, literal_at, expr_of, expr_at, some_expr_at, aggregate_of, aggregate_at}
use Rattle.hq_planwire.proofs.Numbers.{IsBytes}
use Rattle.hq_planwire.proofs.Codecs.{Took, Takes, Again, made_takes, both_takes, then_takes, one_tag, bare_takes, tag_takes, made_again, both_again}
use Rattle.hq_planwire.proofs.FieldCodecs.{none_tag, short_takes, short_again, literal_takes, literal_again, arith_takes, arith_again, compare_takes, compare_again}

-- ---- what is read was written

abbrev pub two_bytes : Expr × Expr → List ℕ
two_bytes of = expr_bytes of.0 ++ expr_bytes of.1

abbrev pub TwoHaveRoom : Expr × Expr → Type 0
TwoHaveRoom of = ExprHasRoom of.0 × ExprHasRoom of.1

-- a variant has the bytes of its operands behind its own

pub arith_spelled : (step : ArithKind) (of : Expr × Expr) → expr_bytes (expr.Arith step of.0 of.1) ≡ 3 ∷ (arith_byte step ++ two_bytes of)
unfolding hidden-the_row-Expr-0 hidden
arith_spelled step of = refl

pub compare_spelled : (test : CompareKind) (of : Expr × Expr) → expr_bytes (expr.Compare test of.0 of.1) ≡ 4 ∷ (compare_byte test ++ two_bytes of)
unfolding hidden-the_row-Expr-0 hidden
compare_spelled test of = refl

pub and_spelled : (of : Expr × Expr) → expr_bytes (expr.And of.0 of.1) ≡ 5 ∷ two_bytes of
unfolding hidden-the_row-Expr-0 hidden
and_spelled of = refl

pub or_spelled : (of : Expr × Expr) → expr_bytes (expr.Or of.0 of.1) ≡ 6 ∷ two_bytes of
unfolding hidden-the_row-Expr-0 hidden
or_spelled of = refl

pub not_spelled : (of : Expr) → expr_bytes (expr.Not of) ≡ 7 ∷ expr_bytes of
unfolding hidden-the_row-Expr-0 hidden
not_spelled of = refl

pub is_null_spelled : (of : Expr) → expr_bytes (expr.IsNull of) ≡ 8 ∷ expr_bytes of
unfolding hidden-the_row-Expr-0 hidden
is_null_spelled of = refl

pub arith_room : (step : ArithKind) (of : Expr × Expr) → TwoHaveRoom of → ExprHasRoom (expr.Arith step of.0 of.1)
unfolding hidden-the_row-Expr-0 hidden
arith_room step of h = h

pub compare_room : (test : CompareKind) (of : Expr × Expr) → TwoHaveRoom of → ExprHasRoom (expr.Compare test of.0 of.1)
unfolding hidden-the_row-Expr-0 hidden
compare_room test of h = h

pub and_room : (of : Expr × Expr) → TwoHaveRoom of → ExprHasRoom (expr.And of.0 of.1)
unfolding hidden-the_row-Expr-0 hidden
and_room of h = h

pub or_room : (of : Expr × Expr) → TwoHaveRoom of → ExprHasRoom (expr.Or of.0 of.1)
unfolding hidden-the_row-Expr-0 hidden
or_room of h = h

pub not_room : (of : Expr) → ExprHasRoom of → ExprHasRoom (expr.Not of)
unfolding hidden-the_row-Expr-0 hidden
not_room of h = h

pub is_null_room : (of : Expr) → ExprHasRoom of → ExprHasRoom (expr.IsNull of)
unfolding hidden-the_row-Expr-0 hidden
is_null_room of h = h

expr_of_takes : (get : Reader Expr) → Takes ExprHasRoom expr_bytes get → (b : ℕ) (bytes : List ℕ) (x : Expr × List ℕ) → IsBytes bytes → expr_of get b bytes ≡ Some x → Took ExprHasRoom expr_bytes (b ∷ bytes) x.0 x.1
expr_of_takes get takes b bytes x fits =
    let two : Takes TwoHaveRoom two_bytes (two_at get) = then_takes takes takes in
    one_tag ExprHasRoom expr_bytes bytes x b 1 _ _ (made_takes ExprHasRoom expr_bytes (1 ∷ []) expr.Column short_takes (λ a h. h) (λ a. refl) bytes x fits) (
    one_tag ExprHasRoom expr_bytes bytes x b 2 _ _ (made_takes ExprHasRoom expr_bytes (2 ∷ []) expr.Literal literal_takes (λ a h. h) (λ a. refl) bytes x fits) (
    one_tag ExprHasRoom expr_bytes bytes x b 3 _ _ (both_takes ExprHasRoom expr_bytes (3 ∷ []) (λ step of. expr.Arith step of.0 of.1) arith_takes two (λ step of _ h. arith_room step of h) arith_spelled bytes x fits) (
    one_tag ExprHasRoom expr_bytes bytes x b 4 _ _ (both_takes ExprHasRoom expr_bytes (4 ∷ []) (λ test of. expr.Compare test of.0 of.1) compare_takes two (λ test of _ h. compare_room test of h) compare_spelled bytes x fits) (
    one_tag ExprHasRoom expr_bytes bytes x b 5 _ _ (made_takes ExprHasRoom expr_bytes (5 ∷ []) (λ of. expr.And of.0 of.1) two and_room and_spelled bytes x fits) (
    one_tag ExprHasRoom expr_bytes bytes x b 6 _ _ (made_takes ExprHasRoom expr_bytes (6 ∷ []) (λ of. expr.Or of.0 of.1) two or_room or_spelled bytes x fits) (
    one_tag ExprHasRoom expr_bytes bytes x b 7 _ _ (made_takes ExprHasRoom expr_bytes (7 ∷ []) expr.Not takes not_room not_spelled bytes x fits) (
    one_tag ExprHasRoom expr_bytes bytes x b 8 _ _ (made_takes ExprHasRoom expr_bytes (8 ∷ []) expr.IsNull takes is_null_room is_null_spelled bytes x fits) (
    none_tag ExprHasRoom expr_bytes bytes x b))))))))

expr_takes : (depth : ℕ) → Takes ExprHasRoom expr_bytes (expr_at depth)
unfolding expr_at
expr_takes zero bytes x fits e = absurd cc
expr_takes (suc depth) bytes x fits e = tag_takes ExprHasRoom expr_bytes (expr_of (expr_at depth)) (expr_of_takes (expr_at depth) (expr_takes depth)) bytes x fits e

pub some_expr_takes : Takes ExprHasRoom expr_bytes some_expr_at
some_expr_takes = expr_takes 2101

-- ---- what is written is read again, where it has not too many parts

-- a fact of every expression, from variant to variant
module _ (P : Expr → Type 0) (column : (place : ℕ) → P (expr.Column place)) (literal : (v : Value) → P (expr.Literal v))
    (arith : (step : ArithKind) (a b : Expr) → P a → P b → P (expr.Arith step a b)) (compare : (test : CompareKind) (a b : Expr) → P a → P b → P (expr.Compare test a b))
    (and : (a b : Expr) → P a → P b → P (expr.And a b)) (or : (a b : Expr) → P a → P b → P (expr.Or a b))
    (not : (a : Expr) → P a → P (expr.Not a)) (is_null : (a : Expr) → P a → P (expr.IsNull a)) where
  layer : {S : Type 0} (e : S → Expr) (holds : (s : S) → P (e s)) (y : Expr-F S) → P (roll-Expr (map-Expr S Expr e y))
  layer e holds (Expr-F.Column place) = subst P (sym (expr.rolls-Column place)) (column place)
  layer e holds (Expr-F.Literal v) = subst P (sym (expr.rolls-Literal v)) (literal v)
  layer e holds (Expr-F.Arith step a b) = subst P (sym (expr.rolls-Arith step (e a) (e b))) (arith step (e a) (e b) (holds a) (holds b))
  layer e holds (Expr-F.Compare test a b) = subst P (sym (expr.rolls-Compare test (e a) (e b))) (compare test (e a) (e b) (holds a) (holds b))
  layer e holds (Expr-F.And a b) = subst P (sym (expr.rolls-And (e a) (e b))) (and (e a) (e b) (holds a) (holds b))
  layer e holds (Expr-F.Or a b) = subst P (sym (expr.rolls-Or (e a) (e b))) (or (e a) (e b) (holds a) (holds b))
  layer e holds (Expr-F.Not a) = subst P (sym (expr.rolls-Not (e a))) (not (e a) (holds a))
  layer e holds (Expr-F.IsNull a) = subst P (sym (expr.rolls-IsNull (e a))) (is_null (e a) (holds a))

  expr_induction : (e : Expr) → P e
  expr_induction = ind-Expr P (λ x y is. subst (λ (z : Expr-F Expr). P (roll-Expr z)) is (layer (λ s. s.0) (λ s. s.1) y))

abbrev IsReadAgain : Expr → Type 0
IsReadAgain e = (depth : ℕ) → ExprHasRoom e → parts e < depth → Again (expr_at depth) (expr_bytes e) e

column_again : (place : ℕ) → IsReadAgain (expr.Column place)
unfolding expr_at byte_at
column_again place zero room few rest = absurd (omega (arith, few))
column_again place (suc depth) room few rest = made_again expr.Column (number_at w16) (short place) place (short_again place room) rest

literal_is_again : (v : Value) → IsReadAgain (expr.Literal v)
unfolding expr_at byte_at
literal_is_again v zero room few rest = absurd (omega (arith, few))
literal_is_again v (suc depth) room few rest = made_again expr.Literal literal_at (literal_bytes v) v (literal_again v room) rest

two_again : (a b : Expr) (depth : ℕ) → IsReadAgain a → IsReadAgain b → ExprHasRoom a → ExprHasRoom b → suc (parts a + parts b) < suc depth → Again (two_at (expr_at depth)) (two_bytes (a, b)) (a, b)
two_again a b depth h k room_a room_b few =
    both_again (λ a b. (a, b)) (expr_at depth) (expr_at depth) (expr_bytes a) (expr_bytes b) a b (h depth room_a (omega (arith, few))) (k depth room_b (omega (arith, few)))

arith_is_again : (step : ArithKind) (a b : Expr) → IsReadAgain a → IsReadAgain b → IsReadAgain (expr.Arith step a b)
unfolding expr_at byte_at hidden-the_row-Expr-0 hidden
arith_is_again step a b h k zero room few rest = absurd (omega (arith, few))
arith_is_again step a b h k (suc depth) room few rest =
    both_again (λ step of. expr.Arith step of.0 of.1) (coded_at arith_of) (two_at (expr_at depth)) (arith_byte step) (two_bytes (a, b)) step (a, b) (arith_again step) (two_again a b depth h k room.0 room.1 few) rest

compare_is_again : (test : CompareKind) (a b : Expr) → IsReadAgain a → IsReadAgain b → IsReadAgain (expr.Compare test a b)
unfolding expr_at byte_at hidden-the_row-Expr-0 hidden
compare_is_again test a b h k zero room few rest = absurd (omega (arith, few))
compare_is_again test a b h k (suc depth) room few rest =
    both_again (λ test of. expr.Compare test of.0 of.1) (coded_at compare_of) (two_at (expr_at depth)) (compare_byte test) (two_bytes (a, b)) test (a, b) (compare_again test) (two_again a b depth h k room.0 room.1 few) rest

and_is_again : (a b : Expr) → IsReadAgain a → IsReadAgain b → IsReadAgain (expr.And a b)
unfolding expr_at byte_at hidden-the_row-Expr-0 hidden
and_is_again a b h k zero room few rest = absurd (omega (arith, few))
and_is_again a b h k (suc depth) room few rest = made_again (λ of. expr.And of.0 of.1) (two_at (expr_at depth)) (two_bytes (a, b)) (a, b) (two_again a b depth h k room.0 room.1 few) rest

or_is_again : (a b : Expr) → IsReadAgain a → IsReadAgain b → IsReadAgain (expr.Or a b)
unfolding expr_at byte_at hidden-the_row-Expr-0 hidden
or_is_again a b h k zero room few rest = absurd (omega (arith, few))
or_is_again a b h k (suc depth) room few rest = made_again (λ of. expr.Or of.0 of.1) (two_at (expr_at depth)) (two_bytes (a, b)) (a, b) (two_again a b depth h k room.0 room.1 few) rest

one_less : (n depth : ℕ) → suc n < suc depth → n < depth
one_less n depth h = omega (arith, h)

not_is_again : (a : Expr) → IsReadAgain a → IsReadAgain (expr.Not a)
unfolding expr_at byte_at hidden-the_row-Expr-0 hidden
not_is_again a h zero room few rest = absurd (omega (arith, few))
not_is_again a h (suc depth) room few rest = made_again expr.Not (expr_at depth) (expr_bytes a) a (h depth room (one_less (parts a) depth few)) rest

is_null_is_again : (a : Expr) → IsReadAgain a → IsReadAgain (expr.IsNull a)
unfolding expr_at byte_at hidden-the_row-Expr-0 hidden
is_null_is_again a h zero room few rest = absurd (omega (arith, few))
is_null_is_again a h (suc depth) room few rest = made_again expr.IsNull (expr_at depth) (expr_bytes a) a (h depth room (one_less (parts a) depth few)) rest

expr_again : (e : Expr) → IsReadAgain e
expr_again = expr_induction IsReadAgain column_again literal_is_again arith_is_again compare_is_again and_is_again or_is_again not_is_again is_null_is_again

-- room, and at most 2,100 parts
abbrev pub ExprIsFine : Expr → Type 0
ExprIsFine e = ExprHasRoom e × (parts e ≤ 2100)

pub some_expr_again : (e : Expr) → ExprIsFine e → Again some_expr_at (expr_bytes e) e
some_expr_again e fine = expr_again e 2101 fine.0 (omega (arith, fine.1))

-- ---- aggregates

aggregate_of_takes : (b : ℕ) (bytes : List ℕ) (x : Aggregate × List ℕ) → IsBytes bytes → aggregate_of b bytes ≡ Some x → Took AggregateHasRoom aggregate_bytes (b ∷ bytes) x.0 x.1
aggregate_of_takes b bytes x fits =
    one_tag AggregateHasRoom aggregate_bytes bytes x b 1 _ _ (bare_takes AggregateHasRoom aggregate_bytes (1 ∷ []) agg.CountAll tt refl bytes x fits) (
    one_tag AggregateHasRoom aggregate_bytes bytes x b 2 _ _ (made_takes AggregateHasRoom aggregate_bytes (2 ∷ []) agg.Count some_expr_takes (λ a h. h) (λ a. refl) bytes x fits) (
    one_tag AggregateHasRoom aggregate_bytes bytes x b 3 _ _ (made_takes AggregateHasRoom aggregate_bytes (3 ∷ []) agg.Sum some_expr_takes (λ a h. h) (λ a. refl) bytes x fits) (
    one_tag AggregateHasRoom aggregate_bytes bytes x b 4 _ _ (made_takes AggregateHasRoom aggregate_bytes (4 ∷ []) agg.Min some_expr_takes (λ a h. h) (λ a. refl) bytes x fits) (
    one_tag AggregateHasRoom aggregate_bytes bytes x b 5 _ _ (made_takes AggregateHasRoom aggregate_bytes (5 ∷ []) agg.Max some_expr_takes (λ a h. h) (λ a. refl) bytes x fits) (
    none_tag AggregateHasRoom aggregate_bytes bytes x b)))))

pub aggregate_takes : Takes AggregateHasRoom aggregate_bytes aggregate_at
unfolding aggregate_at
aggregate_takes = tag_takes AggregateHasRoom aggregate_bytes aggregate_of aggregate_of_takes

-- its argument is fine, where it has one
abbrev pub AggregateIsFine : Aggregate → Type 0
AggregateIsFine agg.CountAll = Unit {0}
AggregateIsFine (agg.Count e) = ExprIsFine e
AggregateIsFine (agg.Sum e) = ExprIsFine e
AggregateIsFine (agg.Min e) = ExprIsFine e
AggregateIsFine (agg.Max e) = ExprIsFine e

pub aggregate_again : (a : Aggregate) → AggregateIsFine a → Again aggregate_at (aggregate_bytes a) a
unfolding aggregate_at byte_at
aggregate_again agg.CountAll fine rest = refl
aggregate_again (agg.Count e) fine rest = made_again agg.Count some_expr_at (expr_bytes e) e (some_expr_again e fine) rest
aggregate_again (agg.Sum e) fine rest = made_again agg.Sum some_expr_at (expr_bytes e) e (some_expr_again e fine) rest
aggregate_again (agg.Min e) fine rest = made_again agg.Min some_expr_at (expr_bytes e) e (some_expr_again e fine) rest
aggregate_again (agg.Max e) fine rest = made_again agg.Max some_expr_at (expr_bytes e) e (some_expr_again e fine) rest
