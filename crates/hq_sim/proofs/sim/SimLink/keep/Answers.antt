use Rattle.std.proofs.Common.{◌≡◌, ℕ, List, [], ◌∷◌, ◌++◌, ap, sym, subst, ◌∙◌}
use Rattle.hq_sim.specs.Acting.{AreSent}
use Rattle.hq_sim.proofs.Lists.{all_sent_more}
use Rattle.hq_sim.proofs.sim.SimLink.keep.Goals as goal

pub invariant_of-self-2 : goal.invariant_of-self-2
invariant_of-self-2 c =
    let sent : c.push_sure.new.list.items ≡ c.self.inside.sent.items ++ c.in_ok-held.held ∷ [] = c.push_sure.ensures ∙ ap (λ xs. xs ++ c.in_ok-held.held ∷ []) c.in_ok-reserve.ensures.items in
    let flying : c.push_sure-2.new.list.items ≡ c.self.inside.flying.items ++ c.in_ok-held.held ∷ [] = c.push_sure-2.ensures ∙ (λ i. c.in_ok-reserve-2.ensures.items i ++ c.in_ok-copy.ensures i ∷ []) in
    subst (λ (xs : List (List ℕ)). AreSent xs c.push_sure.new.list.items) (sym flying)
    (subst (λ (xs : List (List ℕ)). AreSent (c.self.inside.flying.items ++ c.in_ok-held.held ∷ []) xs) (sym sent)
    (all_sent_more c.in_ok-held.held c.self.inside.flying.items c.self.inside.sent.items c.self.invariant))
