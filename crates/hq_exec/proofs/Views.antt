-- Operators and their inputs.
use Rattle.std.proofs.Common.{◌≡◌, ◌∙◌, ℕ, Bool, List, [], ◌∷◌, ◌++◌, Option, Some, None, refl, sym, ap, subst}
use Rattle.hq_value.specs.declared.kind.Kind.{Kind}
use Rattle.hq_algebra.specs.declared.aggregate.Aggregate.{Aggregate}
use Rattle.hq_algebra.specs.declared.expr.Expr.{Expr}
use Rattle.hq_algebra.specs.declared.op.Op.{Op}
use Rattle.hq_algebra.specs.declared.op.SortKey.{SortKey}
use Rattle.hq_algebra.specs.declared.op.Op.TheVariants as op
use Rattle.hq_algebra.specs.declared.op.Op.TheBlock.{hidden-the_row-Op-0}
use denote.Hole.Carrier.{hidden}
use Rattle.hq_algebra.specs.Kinds.{◌>>=◌}
use Rattle.hq_algebra.specs.Operators.{op_kinds, filter_kinds, items_kinds, join_kinds, partial_kinds, final_kinds, sort_kinds}
use Rattle.hq_exec.specs.Inputs.{IsAlone, IsOver, IsBeside}

from-bind : (o : Option (List Kind)) (f : List Kind → Option (List Kind)) (out : List Kind) → (o >>= f) ≡ Some out → (found : List Kind) × (o ≡ Some found)
from-bind None f out e = cc
from-bind (Some ks) f out e = (ks, refl)

from-second : (o p : Option (List Kind)) (f : List Kind → List Kind → Option (List Kind)) (out : List Kind) → (o >>= (λ ls. p >>= f ls)) ≡ Some out → (found : List Kind) × (p ≡ Some found)
from-second None p f out e = cc
from-second (Some ls) None f out e = cc
from-second (Some ls) (Some rs) f out e = (rs, refl)

pub alone-Scan : (table : ℕ) (kinds : List Kind) → IsAlone (op.Scan table kinds)
alone-Scan table kinds = record { leaf = refl; above = λ a. refl; stages = λ b. refl; builds = λ here. refl; fault = λ here. refl; reads = λ h. refl; fit = λ b. tt }

pub alone-Receive : (slice : ℕ) (kinds : List Kind) → IsAlone (op.Receive slice kinds)
alone-Receive slice kinds = record { leaf = refl; above = λ a. refl; stages = λ b. refl; builds = λ here. refl; fault = λ here. refl; reads = λ h. refl; fit = λ b. tt }

pub over-Filter : (c : Expr) (x : Op) → IsOver (op.Filter c x) x (Some c)
unfolding hidden-the_row-Op-0 hidden
over-Filter c x = record {
  takes = refl;
  operators_are = refl;
  kinds = λ out e. from-bind (op_kinds x) (filter_kinds c) out e;
  leaf = refl;
  above = λ a. refl;
  stages = λ b. refl;
  builds = λ here. refl;
  fault = λ here. refl;
  reads = λ h. refl;
  fit = λ b f. f;
}

pub over-Project : (items : List Expr) (x : Op) → IsOver (op.Project items x) x None
unfolding hidden-the_row-Op-0 hidden
over-Project items x = record {
  takes = refl;
  operators_are = refl;
  kinds = λ out e. from-bind (op_kinds x) (λ ks. items_kinds ks items) out e;
  leaf = refl;
  above = λ a. refl;
  stages = λ b. refl;
  builds = λ here. refl;
  fault = λ here. refl;
  reads = λ h. refl;
  fit = λ b f. f;
}

pub over-Partial : (keys : List ℕ) (aggs : List Aggregate) (x : Op) → IsOver (op.Partial keys aggs x) x None
unfolding hidden-the_row-Op-0 hidden
over-Partial keys aggs x = record {
  takes = refl;
  operators_are = refl;
  kinds = λ out e. from-bind (op_kinds x) (partial_kinds keys aggs) out e;
  leaf = refl;
  above = λ a. refl;
  stages = λ b. refl;
  builds = λ here. refl;
  fault = λ here. refl;
  reads = λ h. refl;
  fit = λ b f. f;
}

pub over-Final : (n : ℕ) (aggs : List Aggregate) (x : Op) → IsOver (op.Final n aggs x) x None
unfolding hidden-the_row-Op-0 hidden
over-Final n aggs x = record {
  takes = refl;
  operators_are = refl;
  kinds = λ out e. from-bind (op_kinds x) (final_kinds n aggs) out e;
  leaf = refl;
  above = λ a. refl;
  stages = λ b. refl;
  builds = λ here. refl;
  fault = λ here. refl;
  reads = λ h. refl;
  fit = λ b f. f;
}

pub over-Distinct : (x : Op) → IsOver (op.Distinct x) x None
unfolding hidden-the_row-Op-0 hidden
over-Distinct x = record {
  takes = refl;
  operators_are = refl;
  kinds = λ out e. (out, e);
  leaf = refl;
  above = λ a. refl;
  stages = λ b. refl;
  builds = λ here. refl;
  fault = λ here. refl;
  reads = λ h. refl;
  fit = λ b f. f;
}

pub over-Sort : (order : List SortKey) (limit : Option ℕ) (x : Op) → IsOver (op.Sort order limit x) x None
unfolding hidden-the_row-Op-0 hidden
over-Sort order limit x = record {
  takes = refl;
  operators_are = refl;
  kinds = λ out e. from-bind (op_kinds x) (sort_kinds order) out e;
  leaf = refl;
  above = λ a. refl;
  stages = λ b. refl;
  builds = λ here. refl;
  fault = λ here. refl;
  reads = λ h. refl;
  fit = λ b f. f;
}

pub beside-Join : (lk rk : List ℕ) (l r : Op) → IsBeside (op.Join lk rk l r) l r
unfolding hidden-the_row-Op-0 hidden
beside-Join lk rk l r = record {
  takes = refl;
  operators_are = refl;
  left_kinds = λ out e. from-bind (op_kinds l) (λ ls. op_kinds r >>= join_kinds lk rk ls) out e;
  right_kinds = λ out e. from-second (op_kinds l) (op_kinds r) (join_kinds lk rk) out e;
  leaf = refl;
  above = λ a. refl;
  stages = λ b. refl;
  builds = λ here. refl;
  fault = λ here. refl;
  reads = λ h. refl;
  fit = λ b right left. (right, left);
}

-- of another spelling
pub alone-as : (o p : Op) → o ≡ p → IsAlone p → IsAlone o
alone-as o p e h = subst IsAlone (sym e) h

pub over-as : (o p x y : Op) (cond : Option Expr) → o ≡ p → y ≡ x → IsOver p x cond → IsOver o y cond
over-as o p x y cond e f h = subst (λ (z : Op). IsOver o z cond) (sym f) (subst (λ (z : Op). IsOver z x cond) (sym e) h)

pub beside-as : (o p l r m s : Op) → o ≡ p → m ≡ l → s ≡ r → IsBeside p l r → IsBeside o m s
beside-as o p l r m s e f g h = subst (λ (z : Op). IsBeside o m z) (sym g) (subst (λ (z : Op). IsBeside o z r) (sym f) (subst (λ (z : Op). IsBeside z l r) (sym e) h))
