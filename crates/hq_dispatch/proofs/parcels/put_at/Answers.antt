-- The list at the place has the row's bytes more.
use Rattle.std.proofs.Common.{◌≡◌, ◌∙◌, ◌++◌, ℕ, List, ap}
use Rattle.std.proofs.lemmas.Result.{on_ok_weaker}
use Rattle.hq_block.specs.Row.{IsRow, row_bytes}
use Rattle.hq_dispatch.proofs.Parceling.{read_at, set_there, set_others}
use Rattle.hq_dispatch.proofs.parcels.put_at.Goals as goal

pub returns-clause-here : goal.returns-clause-here
returns-clause-here c =
    on_ok_weaker c.put_row.result
    (λ (e : c.put_row.new.out.items ≡ c.index_mut.result.now.items ++ row_bytes c.args.row.now).
    set_there c.args.lists.now.items c.args.place c.put_row.new.out c.requires.within ∙ e
    ∙ ap (λ (l : List ℕ). l ++ row_bytes c.args.row.now) (read_at c.args.lists.now.items c.args.place c.index_mut.result.now c.requires.within c.index_mut.ensures.value))
    c.put_row.ensures.appended

pub returns-clause-others : goal.returns-clause-others
returns-clause-others c = λ n differ. set_others c.args.lists.now.items c.args.place n c.put_row.new.out differ

pub returns-clause-storable : goal.returns-clause-storable
returns-clause-storable c = on_ok_weaker c.put_row.result (λ (h : IsRow c.args.kinds.now c.args.row.now (row_bytes c.args.row.now)). h.storable) c.put_row.ensures.spelled
