-- What `op_kinds` is at each operator, and how its answers follow from those of its inputs.
use Rattle.std.proofs.Common.{◌≡◌, ℕ, true, List, ◌++◌, take, Option, Some, Result, Ok, Err, refl}
use Rattle.hq_value.specs.declared.kind.Kind.{Kind}
use Rattle.hq_algebra.specs.declared.expr.Expr.{Expr}
use Rattle.hq_algebra.specs.declared.aggregate.Aggregate.{Aggregate}
use Rattle.hq_algebra.specs.declared.op.SortKey.{SortKey}
use Rattle.hq_algebra.specs.declared.op.Op.{Op}
use Rattle.hq_algebra.specs.declared.op.Op.TheVariants as op
use Rattle.hq_algebra.specs.declared.op.Op.TheBlock.{hidden-the_row-Op-0}
use denote.Hole.Carrier.{hidden}
use Rattle.hq_algebra.specs.declared.misfit.Misfit.{Misfit}
use Rattle.hq_algebra.specs.declared.misfit.Misfit.TheVariants as misfit
use Rattle.hq_algebra.specs.Found.{Gives}
use Rattle.hq_algebra.specs.Kinds.{◌>>=◌, layout}
use Rattle.hq_algebra.specs.Operators.{op_kinds, are_finals, values_kinds, filter_kinds, items_kinds, join_kinds, partial_kinds, final_kinds, sort_kinds}

-- what an input lacks the operator lacks
pub gives-err : (e : Misfit) (o : Option (List Kind)) (f : List Kind → Option (List Kind)) → Gives (Err e) o → Gives (Err e) (o >>= f)
gives-err misfit.Wrong o f g = rw g refl
gives-err misfit.NoMemory o f g = tt

-- what an input gives the operator goes on with
pub gives-ok : (r : Result (List Kind) Misfit) (o : Option (List Kind)) (f : List Kind → Option (List Kind)) (kinds : List Kind) → Gives (Ok kinds) o → Gives r (f kinds) → Gives r (o >>= f)
gives-ok r o f kinds g h = rw g h

pub op_kinds-Filter : (cond : Expr) (x : Op) → op_kinds (op.Filter cond x) ≡ (op_kinds x >>= filter_kinds cond)
unfolding hidden-the_row-Op-0 hidden
op_kinds-Filter cond x = refl

pub op_kinds-Project : (items : List Expr) (x : Op) → op_kinds (op.Project items x) ≡ (op_kinds x >>= (λ kinds. items_kinds kinds items))
unfolding hidden-the_row-Op-0 hidden
op_kinds-Project items x = refl

pub op_kinds-Join : (lk rk : List ℕ) (x y : Op) → op_kinds (op.Join lk rk x y) ≡ (op_kinds x >>= (λ ls. op_kinds y >>= (λ rs. join_kinds lk rk ls rs)))
unfolding hidden-the_row-Op-0 hidden
op_kinds-Join lk rk x y = refl

pub op_kinds-Partial : (keys : List ℕ) (aggregates : List Aggregate) (x : Op) → op_kinds (op.Partial keys aggregates x) ≡ (op_kinds x >>= partial_kinds keys aggregates)
unfolding hidden-the_row-Op-0 hidden
op_kinds-Partial keys aggregates x = refl

pub op_kinds-Final : (keys : ℕ) (aggregates : List Aggregate) (x : Op) → op_kinds (op.Final keys aggregates x) ≡ (op_kinds x >>= final_kinds keys aggregates)
unfolding hidden-the_row-Op-0 hidden
op_kinds-Final keys aggregates x = refl

pub op_kinds-Distinct : (x : Op) → op_kinds (op.Distinct x) ≡ op_kinds x
unfolding hidden-the_row-Op-0 hidden
op_kinds-Distinct x = refl

pub op_kinds-Sort : (order : List SortKey) (limit : Option ℕ) (x : Op) → op_kinds (op.Sort order limit x) ≡ (op_kinds x >>= sort_kinds order)
unfolding hidden-the_row-Op-0 hidden
op_kinds-Sort order limit x = refl

-- the keys and the values, where what stands after the keys is what it has to be
pub final_found : (r : Result (List Kind) Misfit) (kinds : List Kind) (keys n : ℕ) (aggregates : List Aggregate) (values columns front : List Kind) → values_kinds kinds aggregates ≡ Some values → layout kinds aggregates ≡ Some columns → are_finals kinds keys aggregates columns ≡ true → n ≡ keys → Some (take n kinds) ≡ Some front → Gives r (Some (front ++ values)) → Gives r (final_kinds keys aggregates kinds)
final_found r kinds keys n aggregates values columns front v l t m f g =
    let e : front ≡ take keys kinds = cc in
    rw (v, l, t) (rw e at g)
