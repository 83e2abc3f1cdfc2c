use Rattle.std.proofs.Common.{◌≡◌, sym, ◌∙◌}
use Rattle.hq_log.specs.Places.{next_place}
use Rattle.hq_log.proofs.Nexts.{next_place-AllOut}
use Rattle.hq_pool.specs.Slots.{places}
use Rattle.hq_pool.proofs.pool.Pool.next.Goals as goal

pub returns-clause-all_out : goal.returns-clause-all_out
returns-clause-all_out g c =
    let is : c.next_lane.result ≡ next_place (places c.args.self.now) = cc (c.next_lane.ensures, c.deref.ensures.value, c.self.view_is) in
    let out = next_place-AllOut (places c.args.self.now) in
    (λ e. out.0 (sym is ∙ e), λ all. is ∙ out.1 all)
