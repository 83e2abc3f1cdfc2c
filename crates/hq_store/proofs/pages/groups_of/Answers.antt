-- One group more.
use Rattle.std.proofs.Common.{◌≡◌, ◌∙◌, ◌+◌, ◌++◌, ◌∷◌, [], List, ℕ, length, ap, arith}
use Rattle.std.proofs.lemmas.List.{length_push}
use Rattle.std.proofs.lemmas.List.Elements.{All-push}
use Rattle.hq_store.proofs.Joined.{length-joined, part_moved, flat_taken}
use Rattle.hq_store.proofs.pages.groups_of.Goals as goal

pub split_at-requires : goal.split_at-requires
split_at-requires c = omega (arith, length-joined 64 c.loop.made.items c.loop.rest.now c.loop.invariant.0, ap length c.loop.invariant.2)

pub loop-preserved : goal.loop-preserved
loop-preserved c =
    let made : List (List (List ℕ)) = c.loop.made.items in
    let group : List (List ℕ) = c.in_ok-new.field-0 in
    let pushed : c.push.new.self.items ≡ made ++ group ∷ [] = c.in_ok-push.ensures.items in
    let here : length group ≡ 64 = ap length c.in_ok-new.ensures ∙ c.split_at.ensures.front_len in (
      rw pushed (All-push (λ (g : List (List ℕ)). length g ≡ 64) made group c.loop.invariant.0 here),
      ap length pushed ∙ length_push made group ∙ ap (λ (n : ℕ). n + 1) c.loop.invariant.1,
      part_moved 64 made _ group c.loop.rest.now _ pushed (c.in_ok-new.ensures ∙ c.split_at.ensures.front) c.split_at.ensures.back ∙ c.loop.invariant.2,
    )

pub returns-clause-pages : goal.returns-clause-pages
returns-clause-pages c =
    flat_taken 64 c.args.count c.loop.made.items c.loop.rest.now c.args.pages.now c.loop.invariant.0 (omega arith) c.loop.invariant.2
