-- How a plan is tested.
--     Shape, shape_of e       what is asked of an expression's parts, all in one
--     the_ops refs            the operators to which references point
--     slices_of parts         the slices of which parts are made
use Rattle.std.specs.Prelude.{ℕ, ◌+◌, ◌-◌, ◌^◌, Bool, true, false, ◌&&◌, ◌||◌, List, [], min, map}
use Rattle.std.specs.List.{list_all}
use Rattle.std.specs.Borrow.{Bor}
use Rattle.hq_algebra.specs.declared.expr.Expr.{Expr}
use Rattle.hq_algebra.specs.declared.op.Op.{Op}
use Rattle.hq_algebra.specs.declared.plan.Slice.{Slice}
use Rattle.hq_algebra.specs.Shape.{parts, has_arith, has_column}
use Rattle.hq_algebra.specs.Plans.{slice_is_fine, motion_is_fine, fit_in_order, ends_with_gather, are_received_once, joins_without_counts, all_operators}
use Rattle.hq_planwire.specs.declared.shape.Shape.{Shape}
use Rattle.hq_planwire.specs.declared.slice_part.Part.{Part}

-- a count that stays at its type's end
abbrev pub counted : ℕ → ℕ
counted n = min n (2 ^ 64 - 1)

abbrev pub shape_of : Expr → Shape
shape_of e = record { parts = counted (parts e); arith = has_arith e; column = has_column e }

-- the operators to which references point
abbrev pub the_ops : List (Bor Op) → List Op
the_ops refs = map (λ r. r.now) refs

-- the slices of which parts are made
abbrev pub slices_of : List Part → List Slice
slices_of found = map (λ (p : Part). p.slice.now) found

-- the rules on slices whose number and ends are right
abbrev pub keep_rules : List Slice → Bool
keep_rules slices =
    list_all slice_is_fine slices && (list_all motion_is_fine slices && (fit_in_order [] slices && (ends_with_gather [] slices && (are_received_once slices && joins_without_counts (all_operators slices)))))
