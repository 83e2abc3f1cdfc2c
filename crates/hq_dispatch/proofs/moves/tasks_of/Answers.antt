-- One bench more has its task.
use Rattle.std.proofs.Common.{◌≡◌, [], All, List, length, sym, subst}
use Rattle.hq_dispatch.specs.declared.task.Task.{Task}
use Rattle.hq_dispatch.proofs.Taking.{all-behind, benches-more, some-so, len-so, room-so, kept-so}
use Rattle.hq_dispatch.proofs.moves.tasks_of.Goals as goal

pub loop-alloc-preserved : goal.loop-alloc-preserved
loop-alloc-preserved g c =
    let i = c.loop-alloc.invariant in
    let r = c.remove-bench.ensures in
    let p = c.push_sure.ensures in
    record {
      benches = benches-more c.loop-alloc.tasks.items c.push_sure.new.items.items c.new.result c.remove-bench.result c.loop-alloc.benches.items c.remove-bench.new.self.items c.args.benches.now.items i.benches
          (some-so c.remove-bench.new.self.len c.loop-alloc.benches.len (length c.loop-alloc.benches.items) r.len c.loop-alloc.benches.ok.0) r.value r.by_index.2 c.new.ensures.bench p.items;
      none = subst (λ (l : List (Task g.row.S.Denot g.row.H.Denot g.row.L.Denot)). All (λ t. t.incoming.items ≡ []) l) (sym p.items)
          (all-behind (λ (t : Task g.row.S.Denot g.row.H.Denot g.row.L.Denot). t.incoming.items ≡ []) c.loop-alloc.tasks.items c.new.result i.none c.new.ensures.none);
      len = len-so c.loop-alloc.tasks.len c.push_sure.new.items.len c.loop-alloc.benches.len c.remove-bench.new.self.len c.args.benches.now.len i.len p.len r.len;
      room = room-so c.loop-alloc.tasks.len c.push_sure.new.items.len c.loop-alloc.benches.len c.remove-bench.new.self.len c.loop-alloc.tasks.cap c.push_sure.new.items.cap i.room p.len r.len p.capacity;
      kept = kept-so c.args.benches.now.cap c.loop-alloc.benches.cap c.remove-bench.new.self.cap i.kept r.capacity;
    }
