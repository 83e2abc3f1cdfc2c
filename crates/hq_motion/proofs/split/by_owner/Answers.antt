use Rattle.std.proofs.Common.{◌≡◌, ◌+◌, ◌<◌, ◌++◌, [], ℕ, List, length, slice_index, rules, arith, sym, ap, subst, ◌∙◌, append-nil}
use Rattle.std.proofs.lemmas.List.{length-set, nil_from_length}
use Rattle.hq_value.specs.declared.value.Value.{Value}
use Rattle.hq_algebra.specs.declared.plan.Motion.TheVariants as motion
use Rattle.hq_meaning.specs.Nodes.{moved}
use Rattle.hq_motion.specs.Lists.{list_at}
use Rattle.hq_motion.proofs.Splitting.{row-home, none-yet, AllKeyed, keyed-rest}
use Rattle.hq_motion.proofs.split.by_owner.Goals as goal

pub loop-row-preserved : goal.loop-row-preserved
loop-row-preserved c =
    let keys : List ℕ = c.args.keys.now in
    let owner : List ℕ = c.args.owner.now in
    let old : List (List (List Value)) = c.loop-row.lists.items in
    let rest : List (List Value) = c.next.new.self.rest.items in
    let b : ℕ = c.bucket_of_places-bucket.result in
    let next = c.in-Some.ensures.steps.0 in
    let below : slice_index owner b < 16 = c.requires.owners b 0 (search rules) in
    let within : slice_index owner b < length old = omega (arith, below, c.loop-row.invariant.sixteen) in
    record {
      sixteen = ap length c.in_ok-add.ensures ∙ length-set old (slice_index owner b) _ ∙ c.loop-row.invariant.sixteen;
      shared = λ n. c.loop-row.invariant.shared n ∙ ap (λ (r : List (List Value)). list_at old n ++ moved (motion.Redistribute keys) owner r n) next
          ∙ row-home keys owner c.in-Some.row rest old (slice_index owner b) n (ap (slice_index owner) c.bucket_of_places-bucket.ensures.bucket) within
          ∙ ap (λ (ls : List (List (List Value))). list_at ls n ++ moved (motion.Redistribute keys) owner rest n) (sym c.in_ok-add.ensures);
      keyed = keyed-rest keys c.in-Some.row rest (subst (AllKeyed keys) next c.loop-row.invariant.keyed);
    }
