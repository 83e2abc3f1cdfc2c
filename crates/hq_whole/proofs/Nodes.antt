-- Definitions on expressions, at each part.
use Rattle.std.proofs.Common.{◌≡◌, ℕ, zero, suc, ◌+◌, ◌<◌, Bool, ◌&&◌, ◌||◌, List, [], ◌∷◌, ◌++◌, length, map, take, get_or, refl, sym, ◌∙◌, ap, arith}
use Rattle.hq_value.specs.declared.operator.ArithKind.{ArithKind}
use Rattle.hq_value.specs.declared.operator.CompareKind.{CompareKind}
use Rattle.hq_algebra.specs.declared.expr.Expr.{Expr}
use Rattle.hq_algebra.specs.declared.expr.Expr.TheVariants as e
use Rattle.hq_algebra.specs.declared.expr.Expr.TheBlock.{hidden-the_row-Expr-0}
use denote.Hole.Carrier.{hidden}
use Rattle.hq_algebra.specs.Shape.{has_column}
use Rattle.hq_laws.specs.Guards.{is_inside}
use Rattle.hq_laws.specs.Turned.{renamed}
use Rattle.hq_laws.specs.Equated.{is_equal, equates}
use Rattle.hq_whole.specs.Choices.{are_places}

pub renamed-Arith : (f : ℕ → ℕ) (k : ArithKind) (x y : Expr) → renamed f (e.Arith k x y) ≡ e.Arith k (renamed f x) (renamed f y)
unfolding hidden-the_row-Expr-0 hidden
renamed-Arith f k x y = refl

pub renamed-Compare : (f : ℕ → ℕ) (k : CompareKind) (x y : Expr) → renamed f (e.Compare k x y) ≡ e.Compare k (renamed f x) (renamed f y)
unfolding hidden-the_row-Expr-0 hidden
renamed-Compare f k x y = refl

pub renamed-And : (f : ℕ → ℕ) (x y : Expr) → renamed f (e.And x y) ≡ e.And (renamed f x) (renamed f y)
unfolding hidden-the_row-Expr-0 hidden
renamed-And f x y = refl

pub renamed-Or : (f : ℕ → ℕ) (x y : Expr) → renamed f (e.Or x y) ≡ e.Or (renamed f x) (renamed f y)
unfolding hidden-the_row-Expr-0 hidden
renamed-Or f x y = refl

pub renamed-Not : (f : ℕ → ℕ) (x : Expr) → renamed f (e.Not x) ≡ e.Not (renamed f x)
unfolding hidden-the_row-Expr-0 hidden
renamed-Not f x = refl

pub renamed-IsNull : (f : ℕ → ℕ) (x : Expr) → renamed f (e.IsNull x) ≡ e.IsNull (renamed f x)
unfolding hidden-the_row-Expr-0 hidden
renamed-IsNull f x = refl

pub equates-Compare : (i j : ℕ) (k : CompareKind) (x y : Expr) → equates i j (e.Compare k x y) ≡ (is_equal k && are_places i j x y)
unfolding hidden-the_row-Expr-0 hidden
equates-Compare i j k x y = refl

pub equates-And : (i j : ℕ) (x y : Expr) → equates i j (e.And x y) ≡ (equates i j x || equates i j y)
unfolding hidden-the_row-Expr-0 hidden
equates-And i j x y = refl

-- the columns that an expression names
pub column-Arith : (k : ArithKind) (x y : Expr) → has_column (e.Arith k x y) ≡ (has_column x || has_column y)
unfolding hidden-the_row-Expr-0 hidden
column-Arith k x y = refl

pub column-Compare : (k : CompareKind) (x y : Expr) → has_column (e.Compare k x y) ≡ (has_column x || has_column y)
unfolding hidden-the_row-Expr-0 hidden
column-Compare k x y = refl

pub column-And : (x y : Expr) → has_column (e.And x y) ≡ (has_column x || has_column y)
unfolding hidden-the_row-Expr-0 hidden
column-And x y = refl

pub column-Or : (x y : Expr) → has_column (e.Or x y) ≡ (has_column x || has_column y)
unfolding hidden-the_row-Expr-0 hidden
column-Or x y = refl

pub column-Not : (x : Expr) → has_column (e.Not x) ≡ has_column x
unfolding hidden-the_row-Expr-0 hidden
column-Not x = refl

pub column-IsNull : (x : Expr) → has_column (e.IsNull x) ≡ has_column x
unfolding hidden-the_row-Expr-0 hidden
column-IsNull x = refl

pub inside-Arith : (w v : ℕ) (k : ArithKind) (x y : Expr) → is_inside w v (e.Arith k x y) ≡ (is_inside w v x && is_inside w v y)
unfolding hidden-the_row-Expr-0 hidden
inside-Arith w v k x y = refl

pub inside-Compare : (w v : ℕ) (k : CompareKind) (x y : Expr) → is_inside w v (e.Compare k x y) ≡ (is_inside w v x && is_inside w v y)
unfolding hidden-the_row-Expr-0 hidden
inside-Compare w v k x y = refl

pub inside-And : (w v : ℕ) (x y : Expr) → is_inside w v (e.And x y) ≡ (is_inside w v x && is_inside w v y)
unfolding hidden-the_row-Expr-0 hidden
inside-And w v x y = refl

pub inside-Or : (w v : ℕ) (x y : Expr) → is_inside w v (e.Or x y) ≡ (is_inside w v x && is_inside w v y)
unfolding hidden-the_row-Expr-0 hidden
inside-Or w v x y = refl

pub inside-Not : (w v : ℕ) (x : Expr) → is_inside w v (e.Not x) ≡ is_inside w v x
unfolding hidden-the_row-Expr-0 hidden
inside-Not w v x = refl

pub inside-IsNull : (w v : ℕ) (x : Expr) → is_inside w v (e.IsNull x) ≡ is_inside w v x
unfolding hidden-the_row-Expr-0 hidden
inside-IsNull w v x = refl

pub ruleset column_nodes = (column-Arith, column-Compare, column-And, column-Or, column-Not, column-IsNull)

pub ruleset inside_nodes = (inside-Arith, inside-Compare, inside-And, inside-Or, inside-Not, inside-IsNull)

-- one expression more
take-one : (es : List Expr) (i : ℕ) (x : Expr) → i < length es → x ≡ get_or es i x → take (suc i) es ≡ take i es ++ x ∷ []
take-one [] i x l h = absurd (omega (arith, l))
take-one (y ∷ es) zero x l h = ap (λ (z : Expr). z ∷ []) (sym h)
take-one (y ∷ es) (suc i) x l h = ap (λ (zs : List Expr). y ∷ zs) (take-one es i x (omega (arith, l)) h)

map-append : (g : Expr → Expr) (xs ys : List Expr) → map g (xs ++ ys) ≡ map g xs ++ map g ys
map-append g [] ys = refl
map-append g (x ∷ xs) ys = ap (λ (zs : List Expr). g x ∷ zs) (map-append g xs ys)

pub renamed-more : (f : ℕ → ℕ) (es : List Expr) (i : ℕ) (x : Expr) (old : List Expr) (y : Expr) (new : List Expr)
    → old ≡ map (renamed f) (take i es) → i < length es → x ≡ get_or es i x → y ≡ renamed f x → new ≡ old ++ y ∷ [] → new ≡ map (renamed f) (take (i + 1) es)
renamed-more f es i x old y new before within item renamed_item pushed =
    let one : suc i ≡ i + 1 = omega arith in
    pushed ∙ (λ t. before t ++ renamed_item t ∷ []) ∙ sym (map-append (renamed f) (take i es) (x ∷ [])) ∙ ap (map (renamed f)) (sym (take-one es i x within item) ∙ ap (λ (n : ℕ). take n es) one)
