use Rattle.std.proofs.Common.{[], get_or, subst, sym, refl}
use Rattle.std.proofs.lemmas.List.{get_or_default}
use Rattle.hq_ops.proofs.Chaining.{Walks, links, walk-more, walk-ends}
use Rattle.hq_ops.proofs.join.push_chain.Goals as goal

pub chain-init : goal.chain-init
chain-init c all linked = record { rest = all; linked = links _ _ _ linked; is = refl }

pub chain-preserved : goal.chain-preserved
chain-preserved c all linked =
    let right = c.args.right.now in
    subst (λ n. Walks right.next.items c.args.keys.now right.keys.now c.args.left.now right.rows.now c.push_match.new.found.items c.args.found.now.items n all) (sym c.after-place.ensures.is)
    (walk-more right.next.items c.args.keys.now right.keys.now c.args.left.now right.rows.now c.chain.found.items c.push_match.new.found.items c.args.found.now.items c.chain.place all (get_or right.rows.now c.chain.place c.index-right-place.result)
    right.chained.long c.chain-test.true (get_or_default right.rows.now c.chain.place c.index-right-place.result [] c.chain-test.true) c.in_ok-push_match.ensures (c.chain.invariant all linked))

pub returns : goal.returns
returns c all linked =
    let right = c.args.right.now in
    walk-ends right.next.items c.args.keys.now right.keys.now c.args.left.now right.rows.now c.chain.found.items c.args.found.now.items c.chain.place all right.chained.long c.chain-test.false (c.chain.invariant all linked)
