-- The kinds of what expressions and aggregates give.
--     expr_kind kinds e           its kind over columns of these kinds; Wrong where it has none
--     item_kind, is_of k          the kind of a column made of it; it can stand where k is asked
--     aggregate_kind kinds a      the kind of an aggregate's value, if it has one
--     layout kinds aggregates     the kinds of the columns of partial aggregates
use Rattle.std.specs.Prelude.{Bool, true, false, ◌&&◌, List, [], ◌∷◌, ◌++◌, Option, Some, None, slice_get}
use Rattle.std.specs.Cmp.Lexicographic.{pointwise}
use Rattle.hq_value.specs.declared.value.Value.{Value}
use Rattle.hq_value.specs.declared.value.Value.TheVariants as value
use Rattle.hq_value.specs.declared.kind.Kind.{Kind}
use Rattle.hq_value.specs.declared.kind.Kind.TheVariants as kind
use Rattle.hq_algebra.specs.declared.expr.Expr.{Expr, Row_of-Expr, end_of-Expr, more_of-Expr}
use Rattle.hq_algebra.specs.declared.expr.Expr.TheVariants as expr
use Rattle.hq_algebra.specs.declared.aggregate.Aggregate.{Aggregate}
use Rattle.hq_algebra.specs.declared.aggregate.Aggregate.TheVariants as agg
use Rattle.hq_algebra.specs.declared.kinds.ExprKind.{ExprKind}
use Rattle.hq_algebra.specs.declared.kinds.ExprKind.TheVariants as typed

infixl 10 ◌>>=◌
abbrev pub ◌>>=◌ : {A B : Type 0} → Option A → (A → Option B) → Option B
(Some x) >>= f = f x
None >>= f = None

-- what f gives of each item, if it gives something of each
abbrev pub every : {A B : Type 0} → (A → Option B) → List A → Option (List B)
every f [] = Some []
every f (x ∷ xs) = do
  y ← f x
  ys ← every f xs
  Some (y ∷ ys)

abbrev pub same_kind : Kind → Kind → Bool
same_kind kind.Bool kind.Bool = true
same_kind kind.Int kind.Int = true
same_kind kind.Text kind.Text = true
same_kind _ _ = false

-- as many kinds, and the same ones
abbrev pub same_kinds : List Kind → List Kind → Bool
same_kinds = pointwise same_kind

-- it can stand where the kind is asked; NULL can stand anywhere
abbrev pub is_of : Kind → ExprKind → Bool
is_of k (typed.Of j) = same_kind j k
is_of k typed.Null = true
is_of k typed.Wrong = false

-- they can be compared: they are of one kind, or one is NULL
abbrev pub are_alike : ExprKind → ExprKind → Bool
are_alike (typed.Of j) b = is_of j b
are_alike typed.Null typed.Wrong = false
are_alike typed.Null b = true
are_alike typed.Wrong b = false

abbrev pub has_kind : ExprKind → Bool
has_kind typed.Wrong = false
has_kind _ = true

-- the kind, where the operands fit
abbrev pub kind_if : Bool → Kind → ExprKind
kind_if true k = typed.Of k
kind_if false k = typed.Wrong

abbrev pub column_kind : Option Kind → ExprKind
column_kind (Some k) = typed.Of k
column_kind None = typed.Wrong

abbrev pub literal_kind : Value → ExprKind
literal_kind (value.Bool b) = typed.Of kind.Bool
literal_kind (value.Int n) = typed.Of kind.Int
literal_kind (value.Text text) = typed.Of kind.Text
literal_kind value.Null = typed.Null

-- its kind over columns of these kinds: Null for NULL alone, Wrong where a column is out of range or an operand is
-- of another kind than is asked
abbrev mutual
  pub expr_kind : List Kind → Expr → ExprKind
  expr_kind kinds (expr.Column place) = column_kind (slice_get kinds place)
  expr_kind kinds (expr.Literal v) = literal_kind v
  expr_kind kinds (expr.Arith' step _ left _ right) = kind_if (is_of kind.Int (kind_in kinds left) && is_of kind.Int (kind_in kinds right)) kind.Int
  expr_kind kinds (expr.Compare' test _ left _ right) = kind_if (are_alike (kind_in kinds left) (kind_in kinds right)) kind.Bool
  expr_kind kinds (expr.And' _ left _ right) = kind_if (is_of kind.Bool (kind_in kinds left) && is_of kind.Bool (kind_in kinds right)) kind.Bool
  expr_kind kinds (expr.Or' _ left _ right) = kind_if (is_of kind.Bool (kind_in kinds left) && is_of kind.Bool (kind_in kinds right)) kind.Bool
  expr_kind kinds (expr.Not' _ of) = kind_if (is_of kind.Bool (kind_in kinds of)) kind.Bool
  expr_kind kinds (expr.IsNull' _ of) = kind_if (has_kind (kind_in kinds of)) kind.Bool

  pub kind_in : {m : _} → List Kind → Row_of-Expr m → ExprKind
  kind_in kinds end_of-Expr = typed.Wrong
  kind_in kinds (more_of-Expr e rest) = expr_kind kinds e

-- the kind of a column made of it: NULL alone makes a Text
abbrev pub item_kind : ExprKind → Option Kind
item_kind (typed.Of k) = Some k
item_kind typed.Null = Some kind.Text
item_kind typed.Wrong = None

abbrev pub some_if : {A : Type 0} → Bool → A → Option A
some_if true x = Some x
some_if false x = None

-- the kind of an aggregate's value over columns of these kinds
abbrev pub aggregate_kind : List Kind → Aggregate → Option Kind
aggregate_kind kinds agg.CountAll = Some kind.Int
aggregate_kind kinds (agg.Count e) = some_if (has_kind (expr_kind kinds e)) kind.Int
aggregate_kind kinds (agg.Sum e) = some_if (is_of kind.Int (expr_kind kinds e)) kind.Int
aggregate_kind kinds (agg.Min e) = item_kind (expr_kind kinds e)
aggregate_kind kinds (agg.Max e) = item_kind (expr_kind kinds e)

-- the columns of a partial aggregate: a sum is two
abbrev pub partial_columns : Aggregate → Kind → List Kind
partial_columns (agg.Sum e) k = k ∷ k ∷ []
partial_columns _ k = k ∷ []

-- the columns of the partial aggregates over columns of these kinds
abbrev pub layout : List Kind → List Aggregate → Option (List Kind)
layout kinds [] = Some []
layout kinds (a ∷ aggregates) = do
  k ← aggregate_kind kinds a
  ks ← layout kinds aggregates
  Some (partial_columns a k ++ ks)
