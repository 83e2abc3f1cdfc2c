use Rattle.std.proofs.Common.{◌≡◌, ◌+◌, ◌-◌, ◌++◌, ◌∷◌, [], List, ℕ, length, take, drop, get_or, refl, rules, ◌∙◌, ap}
use Rattle.hq_whole.proofs.Reordering.{up-list}
use Rattle.hq_whole.proofs.ordering.source_up.Goals as goal

pub returns : goal.returns
returns c =
    let first : c.in_ok-moved.moved.items ≡ take c.args.at c.args.sources.now = search rules in
    c.from_vec.ensures ∙ c.in_ok-extend_from_slice-2.ensures.items
    ∙ ap (λ (l : List ℕ). l ++ take (length c.args.sources.now - (c.args.from + 1)) (drop (c.args.from + 1) c.args.sources.now)) (c.in_ok-extend_from_slice.ensures.items
    ∙ ap (λ (l : List ℕ). l ++ take (c.args.from - c.args.at) (drop c.args.at c.args.sources.now)) (c.in_ok-push.ensures.items ∙ ap (λ (l : List ℕ). l ++ get_or c.args.sources.now c.args.from 0 ∷ []) first))
    ∙ up-list c.args.sources.now c.args.at c.args.from c.requires.order
