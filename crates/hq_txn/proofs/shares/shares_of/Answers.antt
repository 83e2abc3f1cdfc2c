-- One row more has gone to its bucket.
use Rattle.std.proofs.Common.{◌≡◌, ◌∙◌, ℕ, List, [], ◌∷◌, ◌++◌, slice_index_or, ap, subst, sym}
use Rattle.hq_value.specs.declared.value.Value.{Value}
use Rattle.hq_value.specs.Bucket.{bucket_at, share_from}
use Rattle.hq_txn.specs.Shares.{share_in}
use Rattle.hq_txn.proofs.Sharing.{row-added}
use Rattle.hq_txn.proofs.shares.shares_of.Goals as goal

pub loop-place-init : goal.loop-place-init
loop-place-init c = record {
  count = c.in_ok-shares.ensures.count;
  shares = λ b. ap (λ (l : List (List Value)). l ++ share_from c.args.def.now.keys 0 c.args.rows.now b) (c.in_ok-shares.ensures.none b);
}

pub loop-place-preserved : goal.loop-place-preserved
loop-place-preserved c =
    let keys = c.args.def.now.keys in
    let rows = c.args.rows.now in
    let i = c.loop-place.place in
    let row = c.index-rows-place.result in
    let old = c.loop-place.shares.items in
    let new = c.add_row.new.shares.items in
    let read : row ≡ slice_index_or rows i row = c.index-rows-place.is in
    record {
      count = c.add_row.ensures.count ∙ c.loop-place.invariant.count;
      shares = λ b. row-added keys rows i c.bucket_in.result b row (share_in old b) (share_in new b) c.loop-place-test.true
          (c.bucket_in.ensures.bucket ∙ ap (bucket_at keys i) read)
          (λ e. subst (λ (k : ℕ). share_in new k ≡ share_in old k ++ slice_index_or rows i row ∷ []) (sym e) (c.in_ok-add_row.ensures.added ∙ ap (λ (r : List Value). share_in old c.bucket_in.result ++ r ∷ []) read))
          (λ apart. c.add_row.ensures.others b apart)
          (c.loop-place.invariant.shares b);
    }
