use Rattle.std.proofs.Common.{◌≡◌, ℕ, List, Some, ap, sym, subst, ◌∙◌, take, get_or, arith}
use Rattle.std.specs.Prelude.{slice_get, remove}
use Rattle.hq_sim.specs.Acting.{SimState, AreSent}
use Rattle.hq_sim.specs.contracts.sim.SimLink.{the_view}
use Rattle.hq_sim.proofs.Lists.{all_sent_less, place_read}
use Rattle.hq_sim.proofs.sim.SimLink.take_out.Goals as goal

pub invariant_of-self : goal.invariant_of-self
invariant_of-self c =
    subst (λ (xs : List (List ℕ)). AreSent xs c.self.inside.sent.items) (sym c.remove-held.ensures.items)
    (all_sent_less c.self.inside.flying.items c.self.inside.sent.items c.args.place c.self.invariant)

pub returns : goal.returns
returns c =
    let flying : c.self.inside.flying.items ≡ c.args.self.now.flying = ap (λ (s : SimState). s.flying) c.self.view_is in
    let read = place_read c.self.inside.flying.items c.args.place c.remove-held.result (omega (arith, c.if-place-len.false, c.len.ensures)) c.remove-held.ensures.value in (
      ap (λ xs. slice_get xs c.args.place) (sym flying) ∙ read ∙ ap Some (sym c.put.ensures.put),
      c.put.ensures.short,
      ap (λ (xs : List (List ℕ)). record (the_view c.self.inside) { flying = xs }) c.remove-held.ensures.items ∙ ap (λ (s : SimState). record s { flying = remove s.flying c.args.place }) c.self.view_is,
    )
