use Rattle.std.proofs.Common.{◌≡◌, ◌++◌, List, length, OnOk, subst, sym}
use Rattle.hq_value.specs.declared.value.Value.{Value}
use Rattle.hq_meaning.specs.Groups.{key_of}
use Rattle.hq_ops.specs.Chains.{chain_by, places, Linked}
use Rattle.hq_ops.proofs.Chaining.{chain-is-all, chain-inside}
use Rattle.hq_ops.proofs.join.push_pairs.Goals as goal

pub returns : goal.returns
returns c =
    let right = c.args.right.now in
    let count = length right.first.items in
    let chain = chain_by count (key_of c.args.keys.now c.args.left.now) in
    let all = places count right.keys.now chain 0 right.rows.now in
    let linked : Linked right.next.items c.args.first all =
    subst (λ n. Linked right.next.items n all) (sym c.requires) (right.chained.chained chain (chain-inside count (key_of c.args.keys.now c.args.left.now) right.chained.some)) in
    subst (λ (rows : List (List Value)). OnOk c.push_chain.result (c.push_chain.new.found.items ≡ c.args.found.now.items ++ rows)) (chain-is-all count c.args.keys.now right.keys.now c.args.left.now right.rows.now)
    (c.push_chain.ensures all linked)
