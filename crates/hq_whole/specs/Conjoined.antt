-- One condition of many.
--     conjoined es last       the conditions and the last one, if there is one, as one; None where there are none
--     lowered_guards ..       the guards among these conditions, over the source's own columns
--     under_filter cond op    an operator under a Filter, if there is a condition
--     is_within w v i         a place is one of v from w on
use Rattle.std.specs.Prelude.{ℕ, ◌+◌, ◌-◌, Bool, ◌&&◌, nat_le, nat_lt, List, [], ◌∷◌, map, filter, Option, Some, None}
use Rattle.hq_value.specs.declared.kind.Kind.{Kind}
use Rattle.hq_algebra.specs.declared.expr.Expr.{Expr}
use Rattle.hq_algebra.specs.declared.expr.Expr.TheVariants as expr
use Rattle.hq_algebra.specs.declared.op.Op.{Op}
use Rattle.hq_algebra.specs.declared.op.Op.TheVariants as op
use Rattle.hq_laws.specs.Turned.{renamed}
use Rattle.hq_laws.specs.Guards.{is_guard}

-- a condition before another one, if there is one
abbrev pub with_cond : Expr → Option Expr → Option Expr
with_cond e None = Some e
with_cond e (Some f) = Some (expr.And e f)

abbrev pub conjoined : List Expr → Option Expr → Option Expr
conjoined [] last = last
conjoined (e ∷ es) last = with_cond e (conjoined es last)

-- the guards among these conditions, over the source's own columns
abbrev pub lowered_guards : List Kind → ℕ → List Expr → List Expr
lowered_guards kinds w es = map (renamed (λ i. i - w)) (filter (is_guard kinds w) es)

-- an operator under a Filter, if there is a condition
abbrev pub under_filter : Option Expr → Op → Op
under_filter None input = input
under_filter (Some cond) input = op.Filter cond input

-- the column at place i is one of v columns from place w on
abbrev pub is_within : ℕ → ℕ → ℕ → Bool
is_within w v i = nat_le w i && nat_lt i (w + v)
