-- The plan of a small query in bytes, and bytes that are no plan.
use Rattle.std.proofs.Common.{◌≡◌, ℕ, List, [], ◌∷◌, ◌++◌, length, take, Some, None, true, false, refl, arith}
use Rattle.hq_value.specs.declared.kind.Kind.{Kind}
use Rattle.hq_value.specs.declared.kind.Kind.TheVariants as kind
use Rattle.hq_algebra.specs.declared.op.Op.TheVariants as op
use Rattle.hq_algebra.specs.declared.op.Op.TheBlock.{hidden-the_row-Op-0}
use denote.Hole.Carrier.{hidden}
use Rattle.hq_algebra.specs.declared.plan.Motion.TheVariants as motion
use Rattle.hq_algebra.specs.declared.plan.Slice.{Slice}
use Rattle.hq_algebra.specs.declared.plan.Plan.{Plan}
use Rattle.hq_algebra.specs.Plans.{is_well_formed}
use Rattle.hq_planwire.specs.Bytes.{plan_bytes}
use Rattle.hq_planwire.specs.Reading.{plan_at, head_at, items_at, byte_at, motion_at, op_at, limit_at}
use Rattle.hq_planwire.specs.Wire.{IsPlan}
use Rattle.hq_planwire.specs.declared.fault.PlanFault.TheVariants as fault
use Rattle.hq_planwire.proofs.PlanCodecs.{no_plan}

-- SELECT * FROM t, over one Int
star_of : List Kind → Plan
star_of kinds = record {
  slices = record { out = motion.Gather; root = op.Scan 0 (kind.Int ∷ []) } ∷ record { out = motion.Result; root = op.Sort [] None (op.Receive 0 kinds) } ∷ [];
}

star : Plan
star = star_of (kind.Int ∷ [])

star_in_bytes : List ℕ
star_in_bytes = 0x48 ∷ 0x50 ∷ 1 ∷ 2 ∷ 1 ∷ 1 ∷ 0 ∷ 0 ∷ 0 ∷ 0 ∷ 0 ∷ 1 ∷ 2 ∷ 4 ∷ 9 ∷ 0 ∷ 0 ∷ 0 ∷ 2 ∷ 0 ∷ 0 ∷ 1 ∷ 2 ∷ []

star-length : length star_in_bytes ≡ 23
unfolding star_in_bytes
star-length = refl

star-written : plan_bytes star ≡ star_in_bytes
unfolding star star_of star_in_bytes hidden-the_row-Op-0 hidden
star-written = refl

star-read : plan_at star_in_bytes ≡ Some star
unfolding star star_of star_in_bytes plan_at head_at items_at byte_at motion_at op_at limit_at
star-read = refl

star-is_plan : IsPlan star star_in_bytes
unfolding star star_of star_in_bytes hidden-the_row-Op-0 hidden
star-is_plan = record { well_formed = refl; has_room = ((tt, omega arith), ((tt, (tt, tt, omega arith)), tt)); spelled = refl }

-- the last byte cut off, and one more behind it
star_cut-not_read : plan_at (take 22 star_in_bytes) ≡ None
unfolding star_in_bytes plan_at head_at items_at byte_at motion_at op_at limit_at
star_cut-not_read = refl

star_cut-is_no_plan : (plan : Plan) → IsPlan plan (take 22 star_in_bytes) → ⊥
star_cut-is_no_plan = no_plan fault.NotAPlan (take 22 star_in_bytes) star_cut-not_read refl

star_and_more-not_read : plan_at (star_in_bytes ++ 0 ∷ []) ≡ None
unfolding star_in_bytes plan_at head_at items_at byte_at motion_at op_at limit_at
star_and_more-not_read = refl

-- the Receive has other kinds than the Scan
star_of_text-malformed : is_well_formed (star_of (kind.Text ∷ [])) ≡ false
unfolding star_of hidden-the_row-Op-0 hidden
star_of_text-malformed = refl
