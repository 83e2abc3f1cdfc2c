-- Plans: what is read was written, and what is written is read again.
use Rattle.std.proofs.Common.{◌≡◌, ◌⊎◌, ℕ, zero, suc, ◌+◌, ◌^◌, ◌<◌, ◌≤◌, Bool, true, false, cond, nat_eq, ◌&&◌, List, [], ◌∷◌, ◌++◌, length, Option, Some, None, refl, sym, ap, subst, ◌∙◌, append_assoc, append-nil, arith}
use Rattle.std.specs.Prelude.{flat_map, nat_le, IsTrue, is_some}
use Rattle.std.specs.List.{list_all, AllByRecursion}
use Rattle.std.proofs.lemmas.Bool.{eqb-true, eq-eqb}
use Rattle.hq_value.specs.declared.kind.Kind.{Kind}
use Rattle.hq_algebra.specs.declared.op.Op.{Op}
use Rattle.hq_algebra.specs.declared.plan.Motion.{Motion}
use Rattle.hq_algebra.specs.declared.plan.Motion.TheVariants as motion
use Rattle.hq_algebra.specs.declared.plan.Slice.{Slice}
use Rattle.hq_algebra.specs.declared.plan.Plan.{Plan}
use Rattle.hq_algebra.specs.Operators.{op_kinds}
use Rattle.hq_algebra.specs.Rules.{is_empty}
use Rattle.hq_value.specs.Tables.{all_below}
use Rattle.hq_algebra.specs.Plans.{operators, op_is_fine, is_short, keys_stand, motion_stands, slice_is_fine, motion_is_fine, ends_with_result, fit_in_order, ends_with_gather, are_received_once, joins_without_counts, all_operators, is_well_formed}
use Rattle.hq_planwire.specs.Bytes.{keys_bytes, op_bytes, motion_bytes, slice_bytes, plan_bytes}
use Rattle.hq_planwire.specs.Ranges.{IsShort, HaveRoom, OpHasRoom, MotionHasRoom, SliceHasRoom, PlanHasRoom}
use Rattle.hq_planwire.specs.Reading.{Reader, ◌>>=◌, Fails, keys_at, op_at, byte_at, motion_of, motion_at, slice_at, after, head_at, whole, items_at, plan_at}
use Rattle.hq_planwire.specs.declared.fault.PlanFault.{PlanFault}
use Rattle.hq_planwire.specs.declared.fault.PlanFault.TheVariants as fault
use Rattle.hq_planwire.specs.Wire.{IsPlan}
use Rattle.hq_planwire.proofs.Numbers.{IsBytes, IsBytes-tail, bind_some, guard_some, some_is}
use Rattle.hq_planwire.proofs.Codecs.{Took, Takes, Again, made_takes, both_takes, byte_takes, items_take, one_tag, bare_takes, tag_takes, made_again, both_again, items_again}
use Rattle.hq_planwire.proofs.FieldCodecs.{none_tag}
use Rattle.hq_planwire.proofs.OpCodecs.{op_takes, op_again, keys_take, keys_again, first_true, second_true, le_of}

-- ---- motions and slices

motion_of_takes : (b : ℕ) (bytes : List ℕ) (x : Motion × List ℕ) → IsBytes bytes → motion_of b bytes ≡ Some x → Took MotionHasRoom motion_bytes (b ∷ bytes) x.0 x.1
motion_of_takes b bytes x fits =
    one_tag MotionHasRoom motion_bytes bytes x b 1 _ _ (bare_takes MotionHasRoom motion_bytes (1 ∷ []) motion.Gather tt refl bytes x fits) (
    one_tag MotionHasRoom motion_bytes bytes x b 2 _ _ (bare_takes MotionHasRoom motion_bytes (2 ∷ []) motion.Broadcast tt refl bytes x fits) (
    one_tag MotionHasRoom motion_bytes bytes x b 3 _ _ (made_takes MotionHasRoom motion_bytes (3 ∷ []) motion.Redistribute keys_take (λ keys h. h) (λ keys. refl) bytes x fits) (
    one_tag MotionHasRoom motion_bytes bytes x b 4 _ _ (bare_takes MotionHasRoom motion_bytes (4 ∷ []) motion.Result tt refl bytes x fits) (
    none_tag MotionHasRoom motion_bytes bytes x b))))

motion_takes : Takes MotionHasRoom motion_bytes motion_at
unfolding motion_at
motion_takes = tag_takes MotionHasRoom motion_bytes motion_of motion_of_takes

slice_takes : Takes SliceHasRoom slice_bytes slice_at
slice_takes = both_takes SliceHasRoom slice_bytes [] (λ out root. record { out = out; root = root }) motion_takes (op_takes 64) (λ out root h k. (h, k)) (λ out root. refl)

motion_again : (m : Motion) (kinds : Option (List Kind)) → motion_stands m kinds ≡ true → MotionHasRoom m → Again motion_at (motion_bytes m) m
unfolding motion_at byte_at
motion_again motion.Gather kinds stands room rest = refl
motion_again motion.Broadcast kinds stands room rest = refl
motion_again motion.Result kinds stands room rest = refl
motion_again (motion.Redistribute keys) None stands room rest = cc
motion_again (motion.Redistribute keys) (Some kinds) stands room rest =
    let few = first_true (is_short keys) (all_below (length kinds) keys) (second_true _ (is_short keys && all_below (length kinds) keys) stands) in
    made_again motion.Redistribute keys_at (keys_bytes keys) keys (keys_again keys few room) rest

-- a slice that is fine, with a motion that is
abbrev SliceIsFine : Slice → Type 0
SliceIsFine s = SliceHasRoom s × (slice_is_fine s ≡ true) × (motion_is_fine s ≡ true)

slice_again : (s : Slice) → SliceIsFine s → Again slice_at (slice_bytes s) s
slice_again s fine =
    let few = first_true (nat_le (length (operators s.root)) 64) (list_all op_is_fine (operators s.root) && is_some (op_kinds s.root)) fine.1 in
    let ops = first_true (list_all op_is_fine (operators s.root)) (is_some (op_kinds s.root)) (second_true (nat_le (length (operators s.root)) 64) (list_all op_is_fine (operators s.root) && is_some (op_kinds s.root)) fine.1) in
    both_again (λ out root. record { out = out; root = root }) motion_at (op_at 64) (motion_bytes s.out) (op_bytes s.root) s.out s.root (motion_again s.out (op_kinds s.root) fine.2 fine.0.0)
    (op_again s.root 64 fine.0.1 ops (le_of (length (operators s.root)) 64 few))

slices_fine : (slices : List Slice) → AllByRecursion SliceHasRoom slices → list_all slice_is_fine slices ≡ true → list_all motion_is_fine slices ≡ true → AllByRecursion SliceIsFine slices
slices_fine [] room h k = tt
slices_fine (s ∷ slices) room h k =
    ((room.0, first_true (slice_is_fine s) _ h, first_true (motion_is_fine s) _ k), slices_fine slices room.1 (second_true (slice_is_fine s) _ h) (second_true (motion_is_fine s) _ k))

-- ---- plans

after_taken : (expected bytes rest : List ℕ) → IsBytes bytes → after expected bytes ≡ Some rest → (bytes ≡ expected ++ rest) × IsBytes rest
after_taken [] bytes rest fits e = (some_is bytes rest e, subst IsBytes (some_is bytes rest e) fits)
after_taken (e ∷ expected) [] rest fits h = absurd cc
after_taken (e ∷ expected) (b ∷ bytes) rest fits h =
    let g = guard_some (nat_eq b e) (after expected bytes) rest h in
    let t = after_taken expected bytes rest (IsBytes-tail b bytes fits) g.1 in
    (λ i. eqb-true b e g.0 i ∷ t.0 i, t.1)

-- what is read as a plan is spelled so
pub plan_taken : (bytes : List ℕ) (plan : Plan) → IsBytes bytes → plan_at bytes ≡ Some plan → PlanHasRoom plan × (bytes ≡ plan_bytes plan)
unfolding plan_at head_at
plan_taken bytes plan fits e =
    let head = bind_some (after (0x48 ∷ 0x50 ∷ 1 ∷ []) bytes >>= byte_at) (λ n. items_at slice_at n.0 n.1 >>= λ slices. whole slices >>= λ found. Some (record { slices = found })) plan e in
    let front = bind_some (after (0x48 ∷ 0x50 ∷ 1 ∷ []) bytes) byte_at head.0 head.1 in
    let magic = after_taken (0x48 ∷ 0x50 ∷ 1 ∷ []) bytes front.0 fits front.1 in
    let count = byte_takes front.0 head.0 magic.1 front.2 in
    let body = bind_some (items_at slice_at head.0.0 head.0.1) (λ slices. whole slices >>= λ found. Some (record { slices = found })) plan head.2 in
    let slices = items_take slice_takes head.0.0 head.0.1 body.0 count.rest_fits body.1 in
    let end = bind_some (whole body.0) (λ found. Some (record { slices = found })) plan body.2 in
    let g = guard_some (nat_eq (length body.0.1) 0) (Some body.0.0) end.0 end.1 in
    let same : body.0.0 ≡ end.0 = some_is body.0.0 end.0 g.1 in
    let nothing : body.0.1 ≡ [] = is_nil body.0.1 (eqb-true (length body.0.1) 0 g.0) in
    let spelled : bytes ≡ 0x48 ∷ 0x50 ∷ 1 ∷ length body.0.0 ∷ flat_map slice_bytes body.0.0 =
    magic.0 ∙ ap (λ (l : List ℕ). 0x48 ∷ 0x50 ∷ 1 ∷ l) (count.parts ∙ (λ i. sym slices.0 i ∷ (slices.1.parts ∙ ap (λ (l : List ℕ). flat_map slice_bytes body.0.0 ++ l) nothing ∙ append-nil (flat_map slice_bytes body.0.0)) i)) in
    subst (λ (p : Plan). PlanHasRoom p × (bytes ≡ plan_bytes p)) (ap (λ (l : List Slice). record { slices = l }) same ∙ some_is (record { slices = end.0 }) plan end.2) (slices.1.fits, spelled)
  where
    is_nil : (l : List ℕ) → length l ≡ 0 → l ≡ []
    is_nil [] h = refl
    is_nil (b ∷ l) h = absurd (omega (arith, h))

after_again : (expected rest : List ℕ) → after expected (expected ++ rest) ≡ Some rest
after_again [] rest = refl
after_again (e ∷ expected) rest = ap (λ (b : Bool). cond b (after expected (expected ++ rest)) None) (eq-eqb e e refl) ∙ after_again expected rest

-- a plan that is spelled is read
pub plan_again : (plan : Plan) (bytes : List ℕ) → IsPlan plan bytes → plan_at bytes ≡ Some plan
unfolding plan_at head_at byte_at
plan_again plan bytes is =
    let slices = plan.slices in
    let rules = formed slices is.well_formed in
    let again : items_at slice_at (length slices) (flat_map slice_bytes slices ++ []) ≡ Some (slices, []) =
    items_again SliceIsFine slice_bytes slice_at slice_again slices (slices_fine slices is.has_room rules.0 rules.1) [] in
    let read : items_at slice_at (length slices) (flat_map slice_bytes slices) ≡ Some (slices, []) = ap (items_at slice_at (length slices)) (sym (append-nil (flat_map slice_bytes slices))) ∙ again in
    ap plan_at is.spelled
    ∙ ap (λ (o : Option (List Slice × List ℕ)). o >>= λ slices. whole slices >>= λ found. Some (record { slices = found })) read
  where
    formed : (slices : List Slice) → IsTrue (is_well_formed (record { slices = slices })) → (list_all slice_is_fine slices ≡ true) × (list_all motion_is_fine slices ≡ true)
    formed slices h =
        let a = second_true (nat_le 2 (length slices)) _ h in
        let b = second_true (nat_le (length slices) 64) _ a in
        let c = second_true (ends_with_result slices) _ b in
        let d = second_true (list_all slice_is_fine slices) _ c in
        (first_true (list_all slice_is_fine slices) _ c, first_true (list_all motion_is_fine slices) _ d)

-- bytes are at most one plan
pub one_plan : (plan other : Plan) (bytes : List ℕ) → IsPlan plan bytes → IsPlan other bytes → plan ≡ other
one_plan plan other bytes is also = some_is plan other (sym (plan_again plan bytes is) ∙ plan_again other bytes also)

-- what is read and well formed is a plan
pub plan_found : (bytes : List ℕ) (plan : Plan) → IsBytes bytes → plan_at bytes ≡ Some plan → is_well_formed plan ≡ true → IsPlan plan bytes
plan_found bytes plan fits read formed = let t = plan_taken bytes plan fits read in record { well_formed = formed; has_room = t.0; spelled = t.1 }

-- where nothing is read there is no plan
pub no_plan : (e : PlanFault) (bytes : List ℕ) → Fails e (plan_at bytes) → e ≡ fault.NotAPlan → (plan : Plan) → IsPlan plan bytes → ⊥
no_plan fault.NotAPlan bytes fails is plan h = let some = plan_again plan bytes h in cc (fails, some)
no_plan fault.NoMemory bytes fails is plan h = cc

-- nor where what is read is not well formed
pub not_formed : (bytes : List ℕ) (found : Plan) → plan_at bytes ≡ Some found → is_well_formed found ≡ false → (plan : Plan) → IsPlan plan bytes → ⊥
not_formed bytes found read bad plan is =
    let same : plan ≡ found = some_is plan found (sym (plan_again plan bytes is) ∙ read) in
    let good : is_well_formed found ≡ true = ap (λ (p : Plan). is_well_formed p) (sym same) ∙ is.well_formed in
    cc (good, bad)
