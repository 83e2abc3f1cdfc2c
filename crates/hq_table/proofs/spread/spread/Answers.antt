use Rattle.std.proofs.Common.{◌≡◌, ◌+◌, ◌++◌, [], length, rules, arith, sym, ap, subst, ◌∙◌, append-nil}
use Rattle.std.proofs.lemmas.List.{length-set, nil_from_length}
use Rattle.hq_value.specs.Bucket.{share_from}
use Rattle.hq_table.specs.Home.{rows_at}
use Rattle.hq_table.proofs.Sharing.{share-row, none-yet, AllKeyed, keyed-rest}
use Rattle.hq_table.proofs.spread.spread.Goals as goal

pub loop-row-init : goal.loop-row-init
loop-row-init c =
    let is = c.into_iter-row-iterator.ensures.into_iter_gives in
    record {
      sixteen = ap length c.in_ok-buckets.ensures;
      shared = λ b. rw (c.in_ok-buckets.ensures, none-yet b) (search rules);
      keyed = search rules;
      count = search rules;
    }

pub loop-row-preserved : goal.loop-row-preserved
loop-row-preserved c =
    let keys = c.args.keys.now in
    let old = c.loop-row.buckets.items in
    let rest = c.next.new.self.rest.items in
    let next = c.in-Some.ensures.steps.0 in
    record {
      sixteen = ap length c.in_ok-add.ensures ∙ length-set old c.bucket_at-bucket.result _ ∙ c.loop-row.invariant.sixteen;
      shared = λ b. c.loop-row.invariant.shared b ∙ ap (λ r. rows_at old b ++ share_from keys c.loop-row.place r b) next
          ∙ share-row keys c.loop-row.place c.in-Some.row rest old c.bucket_at-bucket.result b c.bucket_at-bucket.ensures.bucket (omega (arith, c.bucket_at-bucket.ensures.below, c.loop-row.invariant.sixteen))
          ∙ ap (λ bs. rows_at bs b ++ share_from keys (c.loop-row.place + 1) rest b) (sym c.in_ok-add.ensures);
      keyed = keyed-rest keys c.in-Some.row rest (subst (AllKeyed keys) next c.loop-row.invariant.keyed);
      count = omega (arith, c.loop-row.invariant.count, ap length next);
    }

pub returns-clause-shared : goal.returns-clause-shared
returns-clause-shared c =
    let none : c.loop-row.row-iterator.rest.items ≡ [] = nil_from_length _ (sym c.loop-row.row-iterator.rest.ok.0 ∙ c.in-None.ensures.steps.0) in
    λ b within. sym (c.loop-row.invariant.shared b ∙ ap (λ r. rows_at c.loop-row.buckets.items b ++ share_from c.args.keys.now c.loop-row.place r b) none ∙ append-nil (rows_at c.loop-row.buckets.items b))
