use Rattle.std.proofs.Common.{◌≡◌, ◌∙◌, ◌<◌, [], length, slice_set, get_or, subst, sym, ap, arith}
use Rattle.std.proofs.lemmas.List.{get_or_default}
use Rattle.hq_meaning.specs.Groups.{key_of}
use Rattle.hq_ops.specs.Chains.{chain_by, AreChained}
use Rattle.hq_ops.proofs.Chaining.{linked-more}
use Rattle.hq_ops.proofs.chains.link.Goals as goal

pub returns : goal.returns
returns c =
    let first = c.args.first.now.items in
    let next = c.args.next.now.items in
    let inside : c.chain_of-chain.result < length first = omega (arith, c.len.ensures, c.chain_of-chain.ensures.within) in
    let at : c.index.result.now ≡ get_or first c.chain_of-chain.result 0 = c.index.ensures ∙ get_or_default first c.chain_of-chain.result c.index.result.now 0 inside in
    let is : c.chain_of-chain.result ≡ chain_by (length first) (key_of c.args.keys.now (get_or c.args.rows.now c.args.place [])) =
    c.chain_of-chain.ensures.is ∙ ap (λ n. chain_by n (key_of c.args.keys.now c.index-rows-place.result)) (omega (arith, c.len.ensures)) ∙ ap (λ r. chain_by (length first) (key_of c.args.keys.now r)) (c.index-rows-place.is ∙ get_or_default c.args.rows.now c.args.place c.index-rows-place.result [] c.requires.within) in
    subst (λ v. AreChained c.args.keys.now c.args.rows.now (slice_set first c.chain_of-chain.result c.args.place) (slice_set next c.args.place v) c.args.place) (sym at)
    (linked-more c.args.keys.now c.args.rows.now first next c.args.place c.chain_of-chain.result [] c.requires.within inside is c.requires.chained)
