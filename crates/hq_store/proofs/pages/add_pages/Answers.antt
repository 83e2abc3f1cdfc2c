-- One full page more.
use Rattle.std.proofs.Common.{◌≡◌, ◌∙◌, ◌++◌, ◌∷◌, [], List, ℕ, length, ap}
use Rattle.std.proofs.lemmas.List.Elements.{All-push}
use Rattle.hq_store.proofs.Joined.{part_moved}
use Rattle.hq_store.proofs.pages.add_pages.Goals as goal

pub loop-rest-preserved : goal.loop-rest-preserved
loop-rest-preserved c =
    let made : List (List ℕ) = c.loop-rest.made.items in
    let page : List ℕ = c.in_ok-copy_from_slice.field-0 in
    let pushed : c.push.new.self.items ≡ made ++ page ∷ [] = c.in_ok-push.ensures.items in
    let here : length page ≡ 4096 = ap length c.in_ok-copy_from_slice.ensures ∙ c.split_at.ensures.front_len in (
      rw pushed (All-push (λ (p : List ℕ). length p ≡ 4096) made page c.loop-rest.invariant.0 here),
      part_moved 4096 made _ page c.loop-rest.rest.now _ pushed (c.in_ok-copy_from_slice.ensures ∙ c.split_at.ensures.front)
          c.split_at.ensures.back ∙ c.loop-rest.invariant.1,
    )
