-- An operator and those below it.
use Rattle.std.proofs.Common.{◌≡◌, ℕ, Bool, true, false, ◌&&◌, List, [], ◌∷◌, ◌++◌, Option, refl, sym, ap, ◌∙◌}
use Rattle.std.specs.Prelude.{nat_le}
use Rattle.std.specs.List.{list_all}
use Rattle.hq_algebra.specs.Shape.{parts}
use Rattle.hq_algebra.specs.Rules.{argument, arguments}
use Rattle.hq_algebra.specs.declared.expr.Expr.{Expr}
use Rattle.hq_algebra.specs.declared.aggregate.Aggregate.{Aggregate}
use Rattle.hq_algebra.specs.declared.op.SortKey.{SortKey}
use Rattle.hq_algebra.specs.declared.op.Op.{Op}
use Rattle.hq_algebra.specs.declared.op.Op.TheVariants as op
use Rattle.hq_algebra.specs.declared.op.Op.TheBlock.{hidden-the_row-Op-0}
use denote.Hole.Carrier.{hidden}
use Rattle.hq_algebra.specs.Plans.{operators, are_bounded}

pub operators-Filter : (cond : Expr) (input : Op) → operators (op.Filter cond input) ≡ op.Filter cond input ∷ operators input
unfolding hidden-the_row-Op-0 hidden
operators-Filter cond input = refl

pub operators-Project : (items : List Expr) (input : Op) → operators (op.Project items input) ≡ op.Project items input ∷ operators input
unfolding hidden-the_row-Op-0 hidden
operators-Project items input = refl

pub operators-Partial : (keys : List ℕ) (aggregates : List Aggregate) (input : Op) → operators (op.Partial keys aggregates input) ≡ op.Partial keys aggregates input ∷ operators input
unfolding hidden-the_row-Op-0 hidden
operators-Partial keys aggregates input = refl

pub operators-Final : (keys : ℕ) (aggregates : List Aggregate) (input : Op) → operators (op.Final keys aggregates input) ≡ op.Final keys aggregates input ∷ operators input
unfolding hidden-the_row-Op-0 hidden
operators-Final keys aggregates input = refl

pub operators-Distinct : (input : Op) → operators (op.Distinct input) ≡ op.Distinct input ∷ operators input
unfolding hidden-the_row-Op-0 hidden
operators-Distinct input = refl

pub operators-Sort : (order : List SortKey) (limit : Option ℕ) (input : Op) → operators (op.Sort order limit input) ≡ op.Sort order limit input ∷ operators input
unfolding hidden-the_row-Op-0 hidden
operators-Sort order limit input = refl

pub operators-Join : (lk rk : List ℕ) (left right : Op) → operators (op.Join lk rk left right) ≡ op.Join lk rk left right ∷ (operators left ++ operators right)
unfolding hidden-the_row-Op-0 hidden
operators-Join lk rk left right = refl

all_true-append : (p : Expr → Bool) (xs ys : List Expr) → list_all p (xs ++ ys) ≡ (list_all p xs && list_all p ys)
all_true-append p [] ys = refl
all_true-append p (x ∷ xs) ys = ap (λ (b : Bool). p x && b) (all_true-append p xs ys) ∙ assoc (p x) (list_all p xs) (list_all p ys)
  where
    assoc : (a b c : Bool) → (a && (b && c)) ≡ ((a && b) && c)
    assoc true b c = refl
    assoc false b c = refl

all-arguments : (p : Expr → Bool) (aggregates : List Aggregate) → list_all p (arguments aggregates) ≡ list_all (λ a. list_all p (argument a)) aggregates
all-arguments p [] = refl
all-arguments p (a ∷ aggregates) = all_true-append p (argument a) (arguments aggregates) ∙ ap (λ (b : Bool). list_all p (argument a) && b) (all-arguments p aggregates)

pub bounded-Partial : (keys : List ℕ) (aggregates : List Aggregate) (input : Op) → list_all (λ a. list_all (λ e. nat_le (parts e) 2100) (argument a)) aggregates ≡ are_bounded (op.Partial keys aggregates input)
unfolding hidden-the_row-Op-0 hidden
bounded-Partial keys aggregates input = sym (all-arguments (λ e. nat_le (parts e) 2100) aggregates)

pub bounded-Final : (keys : ℕ) (aggregates : List Aggregate) (input : Op) → list_all (λ a. list_all (λ e. nat_le (parts e) 2100) (argument a)) aggregates ≡ are_bounded (op.Final keys aggregates input)
unfolding hidden-the_row-Op-0 hidden
bounded-Final keys aggregates input = sym (all-arguments (λ e. nat_le (parts e) 2100) aggregates)
