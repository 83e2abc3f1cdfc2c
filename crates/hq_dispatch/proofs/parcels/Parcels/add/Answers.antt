-- The lists have the row's bytes more.
use Rattle.std.proofs.Common.{◌≡◌, ◌∙◌, ◌++◌, ℕ, List, ap}
use Rattle.std.proofs.lemmas.Result.{on_ok_weaker}
use Rattle.hq_block.specs.Row.{row_bytes}
use Rattle.hq_dispatch.specs.Parcels.{bytes_at}
use Rattle.hq_dispatch.proofs.Parceling.{row-more}
use Rattle.hq_dispatch.proofs.parcels.Parcels.add.Goals as goal

pub returns-clause-added : goal.returns-clause-added
returns-clause-added c =
    on_ok_weaker c.put_at.result
    (λ (here : bytes_at c.put_at.new.lists.items c.place_of-place.result ≡ bytes_at c.reach.new.lists.items c.place_of-place.result ++ row_bytes c.args.row.now).
    row-more c.args.out.now c.args.owner.now c.args.row.now c.args.self.now.lists.items c.put_at.new.lists.items c.place_of-place.result c.place_of-place.ensures.place
    (here ∙ ap (λ (l : List ℕ). l ++ row_bytes c.args.row.now) (c.reach.ensures.same c.place_of-place.result)) (λ n differ. c.put_at.ensures.others n differ ∙ c.reach.ensures.same n))
    c.put_at.ensures.here
