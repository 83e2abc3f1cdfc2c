-- One task more gave its rows, or had none.
use Rattle.std.proofs.Common.{◌<◌, length, arith, rules}
use Rattle.std.proofs.lemmas.Result.{err_from_is_err_and}
use Rattle.hq_dispatch.proofs.Taking.{heads-more, rest-more, taken-more, done-more, lacks-so, one-more, wide-so, there-so, taken-as}
use Rattle.hq_dispatch.proofs.settle.take_parcels.Goals as goal

pub returns-in_err-parcels-clause-lack : goal.returns-in_err-parcels-clause-lack
returns-in_err-parcels-clause-lack g c =
    let old = c.args.tasks.now.items in
    let now = c.loop-node.tasks.items in
    let n = c.loop-node.node in
    let i = c.loop-node.invariant in
    let within : n < length now = omega (arith, c.loop-node-test.true, c.loop-node.tasks.ok.0) in
    let p = err_from_is_err_and c.from_residual.result c.from_residual.ensures.1 in
    rw (p.1, p.2) (lacks-so old now n c.index_mut.result.now c.parcels_at.new.task within i.rest c.index_mut.ensures.value (there-so old now n i.heads within) c.in_err-parcels.field-0.0 c.in_err-parcels.ensures.lack)

pub loop-node-preserved : goal.loop-node-preserved
loop-node-preserved g c =
    let old = c.args.tasks.now.items in
    let now = c.loop-node.tasks.items in
    let n = c.loop-node.node in
    let x = c.index_mut.result.now in
    let y = c.parcels_at.new.task in
    let i = c.loop-node.invariant in
    let within : n < length now = omega (arith, c.loop-node-test.true, c.loop-node.tasks.ok.0) in
    record {
      heads = heads-more old now n x y within i.rest c.index_mut.ensures.value i.heads c.in_ok-parcels.ensures.head;
      rest = rest-more old now n x y within i.rest c.index_mut.ensures.value;
      count = one-more c.loop-node.all.items c.push_sure.new.items.items c.in_ok-parcels.parcels n c.push_sure.ensures.items i.count;
      len = search rules;
      room = wide-so c.args.tasks.now.len c.loop-node.all.cap c.push_sure.new.items.cap i.room c.push_sure.ensures.capacity;
      taken = taken-as c.loop-node.all.items c.push_sure.new.items.items c.in_ok-parcels.parcels old n c.push_sure.ensures.items
          (taken-more old now n x y within i.rest c.index_mut.ensures.value c.loop-node.all.items c.in_ok-parcels.parcels i.count c.in_ok-parcels.ensures.taken i.taken);
      done = done-more old now n x y within i.rest c.index_mut.ensures.value c.in_ok-parcels.ensures.done i.done;
    }
