-- One empty share more.
use Rattle.std.proofs.Common.{◌≡◌, ◌∙◌, List, [], ◌∷◌, ◌++◌, ap, arith}
use Rattle.std.specs.Borrow.{Bor}
use Rattle.hq_value.specs.declared.value.Value.{Value}
use Rattle.hq_txn.specs.Shares.{share_in}
use Rattle.hq_txn.proofs.Sharing.{none-at, none-pushed}
use Rattle.hq_txn.proofs.shares.no_shares.Goals as goal

pub loop-alloc-init : goal.loop-alloc-init
loop-alloc-init c = record {
  few = omega (arith, c.in_ok-shares.ensures.len);
  none = λ b. ap (λ (l : List (List (Bor (List Value)))). share_in l b) c.in_ok-shares.ensures.items ∙ none-at b;
}

pub loop-alloc-preserved : goal.loop-alloc-preserved
loop-alloc-preserved c =
    let old = c.loop-alloc.shares.items in
    let empty : c.from_vec.result ≡ [] = c.from_vec.ensures ∙ c.in_ok-share.ensures.items in
    record {
      few = omega (arith, c.loop-alloc-test.true);
      none = λ b. ap (λ (l : List (List (Bor (List Value)))). share_in l b) (c.in_ok-push.ensures.items ∙ ap (λ (s : List (Bor (List Value))). old ++ s ∷ []) empty) ∙ none-pushed old c.loop-alloc.invariant.none b;
    }
