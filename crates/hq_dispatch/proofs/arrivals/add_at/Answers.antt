-- More bytes of one node.
use Rattle.std.proofs.Common.{◌≡◌, ◌∙◌, ◌++◌, ℕ, List, ap}
use Rattle.std.proofs.lemmas.Result.{on_ok_weaker, on_err_weaker}
use Rattle.hq_dispatch.specs.Arrivals.{came}
use Rattle.hq_dispatch.proofs.Arriving.{read-here, set-more, set-same, storable-at, storable-set}
use Rattle.hq_dispatch.proofs.arrivals.add_at.Goals as goal

pub add-requires-clause-storable : goal.add-requires-clause-storable
add-requires-clause-storable c = storable-at c.args.kinds.now c.args.from.now.items c.args.place c.index_mut.result.now c.requires.storable c.requires.within c.index_mut.ensures.value

pub returns-clause-storable : goal.returns-clause-storable
returns-clause-storable c = storable-set c.args.kinds.now c.args.from.now.items c.args.place c.add.new.self c.requires.storable c.add.ensures.storable

pub returns-clause-more : goal.returns-clause-more
returns-clause-more c =
    on_ok_weaker c.add.result
    (λ (e : came c.add.new.self ≡ came c.index_mut.result.now ++ c.args.bytes.now).
    set-more c.args.from.now.items c.args.place c.add.new.self c.args.bytes.now c.requires.within
    (e ∙ ap (λ (l : List ℕ). l ++ c.args.bytes.now) (read-here c.args.from.now.items c.args.place c.index_mut.result.now c.requires.within c.index_mut.ensures.value)))
    c.add.ensures.more

pub returns-clause-refused : goal.returns-clause-refused
returns-clause-refused c =
    on_err_weaker c.add.result
    (λ (e : came c.add.new.self ≡ came c.index_mut.result.now).
    set-same c.args.from.now.items c.args.place c.add.new.self c.requires.within
    (e ∙ read-here c.args.from.now.items c.args.place c.index_mut.result.now c.requires.within c.index_mut.ensures.value))
    c.add.ensures.refused
