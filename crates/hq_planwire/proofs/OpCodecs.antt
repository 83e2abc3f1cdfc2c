-- Operators: what is read was written, and what is written is read again.
use Rattle.std.proofs.Common.{◌≡◌, ◌⊎◌, ℕ, zero, suc, ◌+◌, ◌^◌, ◌<◌, ◌≤◌, Bool, true, false, ◌&&◌, List, [], ◌∷◌, ◌++◌, length, Option, Some, None, refl, sym, ap, subst, ◌∙◌, append_assoc, arith}
use Rattle.std.specs.Prelude.{flat_map, nat_le}
use Rattle.std.specs.List.{list_all, AllByRecursion}
use Rattle.std.specs.Int.{w16, w32, to_be_bytes}
use Rattle.std.proofs.lemmas.List.{length-append}
use Rattle.hq_value.specs.declared.kind.Kind.{Kind}
use Rattle.hq_algebra.specs.declared.expr.Expr.{Expr}
use Rattle.hq_algebra.specs.declared.aggregate.Aggregate.{Aggregate}
use Rattle.hq_algebra.specs.declared.aggregate.Aggregate.TheVariants as agg
use Rattle.hq_algebra.specs.declared.op.SortKey.{SortKey}
use Rattle.hq_algebra.specs.declared.op.Op.{Op, roll-Op, map-Op}
use Rattle.hq_algebra.specs.declared.op.Op.TheOpen.{Op-F}
use Rattle.hq_algebra.specs.declared.op.Op.TheFolds.{ind-Op}
use Rattle.hq_algebra.specs.declared.op.Op.TheVariants as op
use Rattle.hq_algebra.specs.declared.op.Op.TheBlock.{hidden-the_row-Op-0}
use denote.Hole.Carrier.{hidden}
use Rattle.hq_algebra.specs.Shape.{parts}
use Rattle.hq_algebra.specs.Rules.{argument, arguments}
use Rattle.hq_algebra.specs.Plans.{operators, are_bounded, filters_without_arith, is_writable, is_short, op_is_fine}
use Rattle.hq_planwire.specs.Bytes.{short, bool_byte, kind_byte, list_bytes, expr_bytes, aggregate_bytes, sort_key_bytes, limit_bytes, kinds_bytes, keys_bytes, exprs_bytes, aggregates_bytes, op_bytes}
use Rattle.hq_planwire.specs.Ranges.{IsShort, Always, HaveRoom, ExprHasRoom, AggregateHasRoom, SortKeyHasRoom, LimitHasRoom, OpHasRoom}
use Rattle.hq_planwire.specs.Reading.{Reader, ◌>>=◌, made_at, both_at, then_at, byte_at, number_at, coded_at, bool_of, kind_of, some_expr_at, aggregate_at, sort_key_at, limit_at, kinds_at, keys_at, exprs_at, aggregates_at, list_at, join_of, partial_of, final_of, sort_of, op_of, op_at}
use Rattle.hq_planwire.proofs.Numbers.{IsBytes, wide32, number_again}
use Rattle.hq_planwire.proofs.Codecs.{Took, Takes, Again, made_takes, both_takes, then_takes, number_takes, byte_takes, list_takes, one_tag, tag_takes, made_again, both_again, list_again}
use Rattle.hq_planwire.proofs.FieldCodecs.{none_tag, short_takes, short_again, bool_takes, bool_again, kind_takes, kind_again, limit_takes, limit_again}
use Rattle.hq_planwire.proofs.ExprCodecs.{some_expr_takes, some_expr_again, aggregate_takes, aggregate_again, ExprIsFine, AggregateIsFine}

-- ---- what is read was written

kinds_take : Takes (HaveRoom Always) kinds_bytes kinds_at
kinds_take = list_takes kind_takes

pub keys_take : Takes (HaveRoom IsShort) keys_bytes keys_at
keys_take = list_takes short_takes

exprs_take : Takes (HaveRoom ExprHasRoom) exprs_bytes exprs_at
exprs_take = list_takes some_expr_takes

aggregates_take : Takes (HaveRoom AggregateHasRoom) aggregates_bytes aggregates_at
aggregates_take = list_takes aggregate_takes

sort_key_takes : Takes SortKeyHasRoom sort_key_bytes sort_key_at
sort_key_takes = both_takes SortKeyHasRoom sort_key_bytes [] (λ column descending. record { column = column; descending = descending }) short_takes bool_takes (λ column descending h _. h) (λ column descending. refl)

order_takes : Takes (HaveRoom SortKeyHasRoom) (list_bytes sort_key_bytes) (list_at sort_key_at)
order_takes = list_takes sort_key_takes

pub filter_spelled : (cond : Expr) (input : Op) → op_bytes (op.Filter cond input) ≡ 3 ∷ (expr_bytes cond ++ op_bytes input)
unfolding hidden-the_row-Op-0 hidden
filter_spelled cond input = refl

pub project_spelled : (items : List Expr) (input : Op) → op_bytes (op.Project items input) ≡ 4 ∷ (exprs_bytes items ++ op_bytes input)
unfolding hidden-the_row-Op-0 hidden
project_spelled items input = refl

pub join_spelled : (lk rk : List ℕ) (left right : Op) → op_bytes (op.Join lk rk left right) ≡ 5 ∷ (keys_bytes lk ++ (keys_bytes rk ++ (op_bytes left ++ op_bytes right)))
unfolding hidden-the_row-Op-0 hidden
join_spelled lk rk left right = refl

pub partial_spelled : (keys : List ℕ) (aggregates : List Aggregate) (input : Op) → op_bytes (op.Partial keys aggregates input) ≡ 6 ∷ (keys_bytes keys ++ (aggregates_bytes aggregates ++ op_bytes input))
unfolding hidden-the_row-Op-0 hidden
partial_spelled keys aggregates input = refl

pub final_spelled : (keys : ℕ) (aggregates : List Aggregate) (input : Op) → op_bytes (op.Final keys aggregates input) ≡ 7 ∷ (short keys ++ (aggregates_bytes aggregates ++ op_bytes input))
unfolding hidden-the_row-Op-0 hidden
final_spelled keys aggregates input = refl

pub distinct_spelled : (input : Op) → op_bytes (op.Distinct input) ≡ 8 ∷ op_bytes input
unfolding hidden-the_row-Op-0 hidden
distinct_spelled input = refl

pub sort_spelled : (order : List SortKey) (limit : Option ℕ) (input : Op) → op_bytes (op.Sort order limit input) ≡ 9 ∷ (list_bytes sort_key_bytes order ++ (limit_bytes limit ++ op_bytes input))
unfolding hidden-the_row-Op-0 hidden
sort_spelled order limit input = refl

pub filter_room : (cond : Expr) (input : Op) → ExprHasRoom cond → OpHasRoom input → OpHasRoom (op.Filter cond input)
unfolding hidden-the_row-Op-0 hidden
filter_room cond input h k = (h, k)

pub project_room : (items : List Expr) (input : Op) → HaveRoom ExprHasRoom items → OpHasRoom input → OpHasRoom (op.Project items input)
unfolding hidden-the_row-Op-0 hidden
project_room items input h k = (h, k)

pub join_room : (lk rk : List ℕ) (left right : Op) → HaveRoom IsShort lk → HaveRoom IsShort rk → OpHasRoom left → OpHasRoom right → OpHasRoom (op.Join lk rk left right)
unfolding hidden-the_row-Op-0 hidden
join_room lk rk left right h i j k = (h, i, j, k)

pub partial_room : (keys : List ℕ) (aggregates : List Aggregate) (input : Op) → HaveRoom IsShort keys → HaveRoom AggregateHasRoom aggregates → OpHasRoom input → OpHasRoom (op.Partial keys aggregates input)
unfolding hidden-the_row-Op-0 hidden
partial_room keys aggregates input h i k = (h, i, k)

pub final_room : (keys : ℕ) (aggregates : List Aggregate) (input : Op) → IsShort keys → HaveRoom AggregateHasRoom aggregates → OpHasRoom input → OpHasRoom (op.Final keys aggregates input)
unfolding hidden-the_row-Op-0 hidden
final_room keys aggregates input h i k = (h, i, k)

pub distinct_room : (input : Op) → OpHasRoom input → OpHasRoom (op.Distinct input)
unfolding hidden-the_row-Op-0 hidden
distinct_room input h = h

pub sort_room : (order : List SortKey) (limit : Option ℕ) (input : Op) → HaveRoom SortKeyHasRoom order → LimitHasRoom limit → OpHasRoom input → OpHasRoom (op.Sort order limit input)
unfolding hidden-the_row-Op-0 hidden
sort_room order limit input h i k = (h, i, k)

op_of_takes : (get : Reader Op) → Takes OpHasRoom op_bytes get → (b : ℕ) (bytes : List ℕ) (x : Op × List ℕ) → IsBytes bytes → op_of get b bytes ≡ Some x → Took OpHasRoom op_bytes (b ∷ bytes) x.0 x.1
op_of_takes get takes b bytes x fits =
    let two = then_takes takes takes in
    let of_join = then_takes keys_take two in
    let of_groups = then_takes aggregates_take takes in
    let of_sort = then_takes limit_takes takes in
    one_tag OpHasRoom op_bytes bytes x b 1 _ _ (both_takes OpHasRoom op_bytes (1 ∷ []) op.Scan (number_takes w32 (2 ^ 32) wide32) kinds_take (λ table kinds h _. h) (λ table kinds. refl) bytes x fits) (
    one_tag OpHasRoom op_bytes bytes x b 2 _ _ (both_takes OpHasRoom op_bytes (2 ∷ []) op.Receive byte_takes kinds_take (λ slice kinds h _. h) (λ slice kinds. refl) bytes x fits) (
    one_tag OpHasRoom op_bytes bytes x b 3 _ _ (both_takes OpHasRoom op_bytes (3 ∷ []) op.Filter some_expr_takes takes filter_room filter_spelled bytes x fits) (
    one_tag OpHasRoom op_bytes bytes x b 4 _ _ (both_takes OpHasRoom op_bytes (4 ∷ []) op.Project exprs_take takes project_room project_spelled bytes x fits) (
    one_tag OpHasRoom op_bytes bytes x b 5 _ _ (both_takes OpHasRoom op_bytes (5 ∷ []) (λ lk rest. op.Join lk rest.0 rest.1.0 rest.1.1) keys_take of_join (λ lk rest h k. join_room lk rest.0 rest.1.0 rest.1.1 h k.0 k.1.0 k.1.1) (λ lk rest. join_spelled lk rest.0 rest.1.0 rest.1.1) bytes x fits) (
    one_tag OpHasRoom op_bytes bytes x b 6 _ _ (both_takes OpHasRoom op_bytes (6 ∷ []) (λ keys rest. op.Partial keys rest.0 rest.1) keys_take of_groups (λ keys rest h k. partial_room keys rest.0 rest.1 h k.0 k.1) (λ keys rest. partial_spelled keys rest.0 rest.1) bytes x fits) (
    one_tag OpHasRoom op_bytes bytes x b 7 _ _ (both_takes OpHasRoom op_bytes (7 ∷ []) (λ keys rest. op.Final keys rest.0 rest.1) short_takes of_groups (λ keys rest h k. final_room keys rest.0 rest.1 h k.0 k.1) (λ keys rest. final_spelled keys rest.0 rest.1) bytes x fits) (
    one_tag OpHasRoom op_bytes bytes x b 8 _ _ (made_takes OpHasRoom op_bytes (8 ∷ []) op.Distinct takes distinct_room distinct_spelled bytes x fits) (
    one_tag OpHasRoom op_bytes bytes x b 9 _ _ (both_takes OpHasRoom op_bytes (9 ∷ []) (λ order rest. op.Sort order rest.0 rest.1) order_takes of_sort (λ order rest h k. sort_room order rest.0 rest.1 h k.0 k.1) (λ order rest. sort_spelled order rest.0 rest.1) bytes x fits) (
    none_tag OpHasRoom op_bytes bytes x b)))))))))

pub op_takes : (depth : ℕ) → Takes OpHasRoom op_bytes (op_at depth)
unfolding op_at
op_takes zero bytes x fits e = absurd cc
op_takes (suc depth) bytes x fits e = tag_takes OpHasRoom op_bytes (op_of (op_at depth)) (op_of_takes (op_at depth) (op_takes depth)) bytes x fits e

-- ---- what is written is read again, where its expressions have not too many parts and the operators are not too many

module _ (P : Op → Type 0) (scan : (table : ℕ) (kinds : List Kind) → P (op.Scan table kinds)) (receive : (slice : ℕ) (kinds : List Kind) → P (op.Receive slice kinds))
    (filter : (cond : Expr) (a : Op) → P a → P (op.Filter cond a)) (project : (items : List Expr) (a : Op) → P a → P (op.Project items a))
    (join : (lk rk : List ℕ) (a b : Op) → P a → P b → P (op.Join lk rk a b)) (partial : (keys : List ℕ) (aggregates : List Aggregate) (a : Op) → P a → P (op.Partial keys aggregates a))
    (final : (keys : ℕ) (aggregates : List Aggregate) (a : Op) → P a → P (op.Final keys aggregates a)) (distinct : (a : Op) → P a → P (op.Distinct a))
    (sort : (order : List SortKey) (limit : Option ℕ) (a : Op) → P a → P (op.Sort order limit a)) where
  layer : {S : Type 0} (o : S → Op) (holds : (s : S) → P (o s)) (y : Op-F S) → P (roll-Op (map-Op S Op o y))
  layer o holds (Op-F.Scan table kinds) = subst P (sym (op.rolls-Scan table kinds)) (scan table kinds)
  layer o holds (Op-F.Receive slice kinds) = subst P (sym (op.rolls-Receive slice kinds)) (receive slice kinds)
  layer o holds (Op-F.Filter cond a) = subst P (sym (op.rolls-Filter cond (o a))) (filter cond (o a) (holds a))
  layer o holds (Op-F.Project items a) = subst P (sym (op.rolls-Project items (o a))) (project items (o a) (holds a))
  layer o holds (Op-F.Join lk rk a b) = subst P (sym (op.rolls-Join lk rk (o a) (o b))) (join lk rk (o a) (o b) (holds a) (holds b))
  layer o holds (Op-F.Partial keys aggregates a) = subst P (sym (op.rolls-Partial keys aggregates (o a))) (partial keys aggregates (o a) (holds a))
  layer o holds (Op-F.Final keys aggregates a) = subst P (sym (op.rolls-Final keys aggregates (o a))) (final keys aggregates (o a) (holds a))
  layer o holds (Op-F.Distinct a) = subst P (sym (op.rolls-Distinct (o a))) (distinct (o a) (holds a))
  layer o holds (Op-F.Sort order limit a) = subst P (sym (op.rolls-Sort order limit (o a))) (sort order limit (o a) (holds a))

  pub op_induction : (o : Op) → P o
  op_induction = ind-Op P (λ x y is. subst (λ (z : Op-F Op). P (roll-Op z)) is (layer (λ s. s.0) (λ s. s.1) y))

-- ---- what is asked of operators and expressions, one by one

pub first_true : (a b : Bool) → (a && b) ≡ true → a ≡ true
first_true true b h = refl
first_true false b h = cc

pub second_true : (a b : Bool) → (a && b) ≡ true → b ≡ true
second_true true b h = h
second_true false b h = cc

pub list_all-append : {A : Type 0} (p : A → Bool) (xs ys : List A) → list_all p (xs ++ ys) ≡ true → (list_all p xs ≡ true) × (list_all p ys ≡ true)
list_all-append p [] ys h = (refl, h)
list_all-append p (x ∷ xs) ys h =
    let rest = list_all-append p xs ys (second_true (p x) (list_all p (xs ++ ys)) h) in
    (rw (first_true (p x) (list_all p (xs ++ ys)) h) rest.0, rest.1)

abbrev is_bounded : Expr → Bool
is_bounded e = nat_le (parts e) 2100

pub le_of : (n m : ℕ) → nat_le n m ≡ true → n ≤ m
le_of n m h = grind (arith, h)

expr_fine : (e : Expr) → ExprHasRoom e → is_bounded e ≡ true → ExprIsFine e
expr_fine e room h = (room, le_of (parts e) 2100 h)

exprs_fine : (es : List Expr) → AllByRecursion ExprHasRoom es → list_all is_bounded es ≡ true → AllByRecursion ExprIsFine es
exprs_fine [] room h = tt
exprs_fine (e ∷ es) room h = (expr_fine e room.0 (first_true (is_bounded e) (list_all is_bounded es) h), exprs_fine es room.1 (second_true (is_bounded e) (list_all is_bounded es) h))

aggregate_fine : (a : Aggregate) → AggregateHasRoom a → list_all is_bounded (argument a) ≡ true → AggregateIsFine a
aggregate_fine agg.CountAll room h = tt
aggregate_fine (agg.Count e) room h = expr_fine e room (first_true (is_bounded e) true h)
aggregate_fine (agg.Sum e) room h = expr_fine e room (first_true (is_bounded e) true h)
aggregate_fine (agg.Min e) room h = expr_fine e room (first_true (is_bounded e) true h)
aggregate_fine (agg.Max e) room h = expr_fine e room (first_true (is_bounded e) true h)

aggregates_fine : (found : List Aggregate) → AllByRecursion AggregateHasRoom found → list_all is_bounded (arguments found) ≡ true → AllByRecursion AggregateIsFine found
aggregates_fine [] room h = tt
aggregates_fine (a ∷ found) room h =
    let both = list_all-append is_bounded (argument a) (arguments found) h in
    (aggregate_fine a room.0 both.0, aggregates_fine found room.1 both.1)

always_each : (kinds : List Kind) → AllByRecursion Always kinds
always_each [] = tt
always_each (k ∷ kinds) = (tt, always_each kinds)

short_of : {A : Type 0} (xs : List A) → is_short xs ≡ true → IsShort (length xs)
short_of xs h = let le = le_of (length xs) 65535 h in omega (arith, le)

-- what is asked of one operator, and of those below it
pub record Fine (o : Op) (others : List Op) : Type 0 where
  pub bounded : are_bounded o ≡ true
  pub writable : is_writable o ≡ true
  pub below : list_all op_is_fine others ≡ true

fine : (o : Op) (below : List Op) → list_all op_is_fine (o ∷ below) ≡ true → Fine o below
fine o below h =
    let self = first_true (op_is_fine o) (list_all op_is_fine below) h in
    record {
      bounded = first_true (are_bounded o) (filters_without_arith o && is_writable o) self;
      writable = second_true (filters_without_arith o) (is_writable o) (second_true (are_bounded o) (filters_without_arith o && is_writable o) self);
      below = second_true (op_is_fine o) (list_all op_is_fine below) h;
    }

-- ---- each operator is read again

abbrev IsReadAgain : Op → Type 0
IsReadAgain o = (depth : ℕ) → OpHasRoom o → list_all op_is_fine (operators o) ≡ true → length (operators o) ≤ depth → Again (op_at depth) (op_bytes o) o

kinds_again : (kinds : List Kind) → is_short kinds ≡ true → Again kinds_at (kinds_bytes kinds) kinds
kinds_again kinds few = list_again Always kind_byte (coded_at kind_of) kind_again kinds (short_of kinds few) (always_each kinds)

pub keys_again : (keys : List ℕ) → is_short keys ≡ true → HaveRoom IsShort keys → Again keys_at (keys_bytes keys) keys
keys_again keys few = list_again IsShort short (number_at w16) short_again keys (short_of keys few)

exprs_again : (es : List Expr) → is_short es ≡ true → HaveRoom ExprHasRoom es → list_all is_bounded es ≡ true → Again exprs_at (exprs_bytes es) es
exprs_again es few room h = list_again ExprIsFine expr_bytes some_expr_at some_expr_again es (short_of es few) (exprs_fine es room h)

aggregates_again : (found : List Aggregate) → is_short found ≡ true → HaveRoom AggregateHasRoom found → list_all is_bounded (arguments found) ≡ true → Again aggregates_at (aggregates_bytes found) found
aggregates_again found few room h = list_again AggregateIsFine aggregate_bytes aggregate_at aggregate_again found (short_of found few) (aggregates_fine found room h)

sort_key_again : (key : SortKey) → SortKeyHasRoom key → Again sort_key_at (sort_key_bytes key) key
sort_key_again key room =
    both_again (λ column descending. record { column = column; descending = descending }) (number_at w16) (coded_at bool_of) (short key.column) (bool_byte key.descending) key.column key.descending (short_again key.column room) (bool_again key.descending)

order_again : (order : List SortKey) → is_short order ≡ true → HaveRoom SortKeyHasRoom order → Again (list_at sort_key_at) (list_bytes sort_key_bytes order) order
order_again order few = list_again SortKeyHasRoom sort_key_bytes sort_key_at sort_key_again order (short_of order few)

byte_again : (n : ℕ) → Again byte_at (n ∷ []) n
unfolding byte_at
byte_again n rest = refl

scan_is_again : (table : ℕ) (kinds : List Kind) → IsReadAgain (op.Scan table kinds)
unfolding op_at byte_at
scan_is_again table kinds zero room all few rest = absurd (omega (arith, few))
scan_is_again table kinds (suc depth) room all few rest =
    let f = fine (op.Scan table kinds) [] all in
    both_again op.Scan (number_at w32) kinds_at (to_be_bytes w32 table) (kinds_bytes kinds) table kinds (λ rest. number_again w32 (2 ^ 32) wide32 table rest room) (kinds_again kinds f.writable) rest

receive_is_again : (slice : ℕ) (kinds : List Kind) → IsReadAgain (op.Receive slice kinds)
unfolding op_at byte_at
receive_is_again slice kinds zero room all few rest = absurd (omega (arith, few))
receive_is_again slice kinds (suc depth) room all few rest =
    let f = fine (op.Receive slice kinds) [] all in
    both_again op.Receive byte_at kinds_at (slice ∷ []) (kinds_bytes kinds) slice kinds (byte_again slice) (kinds_again kinds f.writable) rest

filter_is_again : (cond : Expr) (a : Op) → IsReadAgain a → IsReadAgain (op.Filter cond a)
unfolding op_at byte_at hidden-the_row-Op-0 hidden
filter_is_again cond a h zero room all few rest = absurd (omega (arith, few))
filter_is_again cond a h (suc depth) room all few rest =
    let f = fine (op.Filter cond a) (operators a) all in
    both_again op.Filter some_expr_at (op_at depth) (expr_bytes cond) (op_bytes a) cond a (some_expr_again cond (expr_fine cond room.0 (first_true (is_bounded cond) true f.bounded))) (h depth room.1 f.below (omega (arith, few))) rest

project_is_again : (items : List Expr) (a : Op) → IsReadAgain a → IsReadAgain (op.Project items a)
unfolding op_at byte_at hidden-the_row-Op-0 hidden
project_is_again items a h zero room all few rest = absurd (omega (arith, few))
project_is_again items a h (suc depth) room all few rest =
    let f = fine (op.Project items a) (operators a) all in
    both_again op.Project exprs_at (op_at depth) (exprs_bytes items) (op_bytes a) items a (exprs_again items f.writable room.0 f.bounded) (h depth room.1 f.below (omega (arith, few))) rest

join_is_again : (lk rk : List ℕ) (a b : Op) → IsReadAgain a → IsReadAgain b → IsReadAgain (op.Join lk rk a b)
unfolding op_at byte_at hidden-the_row-Op-0 hidden
join_is_again lk rk a b h k zero room all few rest = absurd (omega (arith, few))
join_is_again lk rk a b h k (suc depth) room all few rest =
    let f = fine (op.Join lk rk a b) (operators a ++ operators b) all in
    let below = list_all-append op_is_fine (operators a) (operators b) f.below in
    let count = length-append (operators a) (operators b) in
    both_again (λ lk rest. op.Join lk rest.0 rest.1.0 rest.1.1) keys_at (then_at keys_at (then_at (op_at depth) (op_at depth))) (keys_bytes lk) (keys_bytes rk ++ (op_bytes a ++ op_bytes b)) lk (rk, (a, b)) (keys_again lk (first_true (is_short lk) (is_short rk) f.writable) room.0)
    (both_again (λ a b. (a, b)) keys_at (then_at (op_at depth) (op_at depth)) (keys_bytes rk) (op_bytes a ++ op_bytes b) rk (a, b) (keys_again rk (second_true (is_short lk) (is_short rk) f.writable) room.1)
    (both_again (λ a b. (a, b)) (op_at depth) (op_at depth) (op_bytes a) (op_bytes b) a b (h depth room.2 below.0 (omega (arith, few, count))) (k depth room.3 below.1 (omega (arith, few, count))))) rest

partial_is_again : (keys : List ℕ) (aggregates : List Aggregate) (a : Op) → IsReadAgain a → IsReadAgain (op.Partial keys aggregates a)
unfolding op_at byte_at hidden-the_row-Op-0 hidden
partial_is_again keys aggregates a h zero room all few rest = absurd (omega (arith, few))
partial_is_again keys aggregates a h (suc depth) room all few rest =
    let f = fine (op.Partial keys aggregates a) (operators a) all in
    both_again (λ keys rest. op.Partial keys rest.0 rest.1) keys_at (then_at aggregates_at (op_at depth)) (keys_bytes keys) (aggregates_bytes aggregates ++ op_bytes a) keys (aggregates, a) (keys_again keys (first_true (is_short keys) (is_short aggregates) f.writable) room.0)
    (both_again (λ a b. (a, b)) aggregates_at (op_at depth) (aggregates_bytes aggregates) (op_bytes a) aggregates a (aggregates_again aggregates (second_true (is_short keys) (is_short aggregates) f.writable) room.1 f.bounded) (h depth room.2 f.below (omega (arith, few)))) rest

final_is_again : (keys : ℕ) (aggregates : List Aggregate) (a : Op) → IsReadAgain a → IsReadAgain (op.Final keys aggregates a)
unfolding op_at byte_at hidden-the_row-Op-0 hidden
final_is_again keys aggregates a h zero room all few rest = absurd (omega (arith, few))
final_is_again keys aggregates a h (suc depth) room all few rest =
    let f = fine (op.Final keys aggregates a) (operators a) all in
    both_again (λ keys rest. op.Final keys rest.0 rest.1) (number_at w16) (then_at aggregates_at (op_at depth)) (short keys) (aggregates_bytes aggregates ++ op_bytes a) keys (aggregates, a) (short_again keys room.0)
    (both_again (λ a b. (a, b)) aggregates_at (op_at depth) (aggregates_bytes aggregates) (op_bytes a) aggregates a (aggregates_again aggregates f.writable room.1 f.bounded) (h depth room.2 f.below (omega (arith, few)))) rest

distinct_is_again : (a : Op) → IsReadAgain a → IsReadAgain (op.Distinct a)
unfolding op_at byte_at hidden-the_row-Op-0 hidden
distinct_is_again a h zero room all few rest = absurd (omega (arith, few))
distinct_is_again a h (suc depth) room all few rest =
    let f = fine (op.Distinct a) (operators a) all in
    made_again op.Distinct (op_at depth) (op_bytes a) a (h depth room f.below (omega (arith, few))) rest

sort_is_again : (order : List SortKey) (limit : Option ℕ) (a : Op) → IsReadAgain a → IsReadAgain (op.Sort order limit a)
unfolding op_at byte_at hidden-the_row-Op-0 hidden
sort_is_again order limit a h zero room all few rest = absurd (omega (arith, few))
sort_is_again order limit a h (suc depth) room all few rest =
    let f = fine (op.Sort order limit a) (operators a) all in
    both_again (λ order rest. op.Sort order rest.0 rest.1) (list_at sort_key_at) (then_at limit_at (op_at depth)) (list_bytes sort_key_bytes order) (limit_bytes limit ++ op_bytes a) order (limit, a) (order_again order f.writable room.0)
    (both_again (λ a b. (a, b)) limit_at (op_at depth) (limit_bytes limit) (op_bytes a) limit a (limit_again limit room.1) (h depth room.2 f.below (omega (arith, few)))) rest

pub op_again : (o : Op) → IsReadAgain o
op_again = op_induction IsReadAgain scan_is_again receive_is_again filter_is_again project_is_again join_is_again partial_is_again final_is_again distinct_is_again sort_is_again
