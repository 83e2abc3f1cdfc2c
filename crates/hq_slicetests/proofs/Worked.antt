-- The plans of the slices are well formed, and are given what they read.
use Rattle.std.proofs.Common.{◌≡◌, ◌∙◌, ℕ, List, [], ◌∷◌, true, Some, None, refl, sym, ap, subst}
use Rattle.std.specs.Prelude.{◌==◌, option_map, is_some, if◌then◌else◌}
use Rattle.std.specs.Option.{option_map_or}
use Rattle.hq_value.specs.declared.kind.Kind.{Kind}
use Rattle.hq_algebra.specs.declared.expr.Expr.TheBlock.{hidden-the_row-Expr-0}
use Rattle.hq_algebra.specs.declared.op.Op.{Op}
use Rattle.hq_algebra.specs.declared.op.Op.TheBlock.{hidden-the_row-Op-0}
use Rattle.hq_algebra.specs.declared.plan.Plan.{Plan}
use Rattle.hq_algebra.specs.Operators.{op_kinds}
use Rattle.hq_algebra.specs.Plans.{is_well_formed}
use denote.Hole.Carrier.{hidden}
use Rattle.hq_planwire.specs.Wire.{IsPlan}
use Rattle.hq_snap.specs.Snaps.{TableSnapState}
use Rattle.hq_value.specs.Kinds.{kinds_of}
use Rattle.hq_exec.specs.Files.{HeldState, held, table_in}
use Rattle.hq_exec.specs.Slices.{IsSliceOf, HasSlice, IsThere, HasInputs}
use Rattle.hq_exec.proofs.Roots.{one-root}
use Rattle.hq_slicetests.specs.Works.{two, root_by, sent_by, plan_by}
use Rattle.hq_slicetests.specs.declared.plans.Work.{Work}
use Rattle.hq_slicetests.specs.declared.plans.Work.TheVariants as work

well_formed : (w : Work) → is_well_formed (plan_by w) ≡ true
unfolding hidden-the_row-Op-0 hidden-the_row-Expr-0 hidden
well_formed work.Scan = refl
well_formed (work.Filter most) = refl
well_formed (work.Group most) = refl
well_formed (work.Times factor) = refl

typed : (w : Work) → op_kinds (root_by w) ≡ Some (sent_by w)
unfolding hidden-the_row-Op-0 hidden-the_row-Expr-0 hidden
typed work.Scan = refl
typed (work.Filter most) = refl
typed (work.Group most) = refl
typed (work.Times factor) = refl

given : (w : Work) (h : HeldState) → IsThere h 0 two → HasInputs h (root_by w)
unfolding hidden-the_row-Op-0 hidden-the_row-Expr-0 hidden
given work.Scan h there = (there, tt)
given (work.Filter most) h there = (tt, (there, tt))
given (work.Group most) h there = (tt, (tt, (there, tt)))
given (work.Times factor) h there = (tt, (there, tt))

-- its kinds are told
pub root_typed : (w : Work) (root : Op) → root ≡ root_by w → is_some (op_kinds root) ≡ true
root_typed w root is = ap (λ (o : Op). is_some (op_kinds o)) is ∙ ap is_some (typed w)

pub sent_so : (w : Work) (root : Op) (kinds : List Kind) → root ≡ root_by w → op_kinds root ≡ Some kinds → kinds ≡ sent_by w
sent_so w root kinds is found =
    let same : Some kinds ≡ Some (sent_by w) = sym found ∙ ap op_kinds is ∙ typed w in cc

-- the plan is one
pub plan_stands : (w : Work) (plan : Plan) → plan ≡ plan_by w → is_well_formed plan ≡ true
plan_stands w plan is = ap is_well_formed is ∙ well_formed w

-- its bytes are those of a plan whose first slice does the work
slice_so : (w : Work) (bytes : List ℕ) → IsPlan (plan_by w) bytes → IsSliceOf bytes 0 (root_by w)
slice_so w bytes spelled = record { plan = plan_by w; is_plan = spelled; there = refl }

pub has_slice : (w : Work) (bytes : List ℕ) → IsPlan (plan_by w) bytes → HasSlice bytes 0
has_slice w bytes spelled = (root_by w, slice_so w bytes spelled)

-- the one table is there
there_so : (snap : TableSnapState) (buckets : List ℕ) → snap.table ≡ 0 → kinds_of snap.def.columns ≡ two → IsThere (held (snap ∷ []) [] buckets []) 0 two
there_so snap buckets number columns = record {
  found = ap (option_map (λ (s : TableSnapState). s.table)) (found snap number) ∙ ap Some number;
  kinds_are = ap (λ t. option_map_or (λ (s : TableSnapState). kinds_of s.def.columns) t []) (found snap number) ∙ columns;
}
  where
    found : (snap : TableSnapState) → snap.table ≡ 0 → table_in (snap ∷ []) 0 ≡ Some snap
    found snap number = ap (λ n. if n == 0 then Some snap else None) number

-- whatever its root is taken for, it is given what it reads
pub has_inputs : (w : Work) (bytes : List ℕ) (snap : TableSnapState) (buckets : List ℕ) → IsPlan (plan_by w) bytes → snap.table ≡ 0 → kinds_of snap.def.columns ≡ two
    → (root : Op) → IsSliceOf bytes 0 root → HasInputs (held (snap ∷ []) [] buckets []) root
has_inputs w bytes snap buckets spelled number columns root of_it =
    subst (λ (o : Op). HasInputs (held (snap ∷ []) [] buckets []) o) (one-root bytes 0 (root_by w) root (slice_so w bytes spelled) of_it) (given w (held (snap ∷ []) [] buckets []) (there_so snap buckets number columns))
