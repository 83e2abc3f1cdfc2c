use Rattle.std.proofs.Common.{◌≡◌, ◌+◌, ◌++◌, ◌∷◌, ℕ, length, take, drop, arith, ap, subst, sym, ◌∙◌}
use Rattle.std.proofs.lemmas.List.{length-take, length-drop, length-take-le, take_all, drop_all}
use Rattle.hq_io.specs.Gathering.{Gathered}
use Rattle.hq_io.specs.declared.scan.Spot.TheVariants as spots
use Rattle.hq_io.proofs.Scanning.{Passes-then, cut-held, held-through}
use Rattle.hq_io.proofs.held.take_part.Goals as goal

pub overflow_add-taken : goal.overflow_add-taken
overflow_add-taken c = omega (arith, c.in-Cut.ensures.within, length-take {A = ℕ})

pub overflow_add-taken-in-Cut : goal.overflow_add-taken-in-Cut
overflow_add-taken-in-Cut c = omega (arith, c.in-Cut.ensures.within, length-take {A = ℕ})

pub overflow_add-at : goal.overflow_add-at
overflow_add-at c = omega (arith, c.in-Cut.ensures.within, length-take {A = ℕ})

pub skip-requires : goal.skip-requires
skip-requires c = omega (arith, c.in-Cut.ensures.within, length-take {A = ℕ}, ap length c.as_slice-held.ensures)

pub returns-in-Cut-clause-part : goal.returns-in-Cut-clause-part
returns-in-Cut-clause-part c = λ seen g.
    let held = c.as_slice-held.result.now in
    let cut = c.in-Cut.ensures in
    let front = take c.in-Cut.at (take c.min.result held) in
    let same = c.as_slice-held.ensures in (
      front,
      (cut.to, c.keep-long.ensures.gathered seen c.args.spot cut.to g cut.passes, cut.outside),
      sym same ∙ cut-held c.args.spot held c.min.result c.in-Cut.at cut ∙ ap (λ r. front ++ 59 ∷ r) (ap (drop (c.in-Cut.at + 1)) same ∙ sym c.skip.ensures),
      omega (arith, length-take-le c.in-Cut.at (take c.min.result held), cut.within),
    )

pub returns-in-Cut-clause-taken : goal.returns-in-Cut-clause-taken
returns-in-Cut-clause-taken c = omega (arith, c.in-Cut.ensures.within, length-take {A = ℕ})

pub returns-then-more-clause-part : goal.returns-then-more-clause-part
returns-then-more-clause-part c = λ seen g.
    let held = c.as_slice-held.result.now in
    let within = take c.min.result held in
    let same = c.as_slice-held.ensures in (
      within,
      record { to = c.in-Through.spot; passes = Passes-then spots.Outside c.args.spot c.in-Through.spot seen within g.passes c.in-Through.ensures },
      held-through held c.args.chunk.now c.skip-in-Through.new.self c.min.result same c.skip-in-Through.ensures,
      omega (arith, ap length c.skip-in-Through.ensures, length-drop {A = ℕ}, length-take {A = ℕ}, ap length same),
      omega arith,
      omega (arith, length-take {A = ℕ}),
    )

pub returns-else-more-clause-part : goal.returns-else-more-clause-part
returns-else-more-clause-part c = λ seen g.
    let held = c.as_slice-held.result.now in
    let same = c.as_slice-held.ensures in
    let all : take c.min.result held ≡ c.args.chunk.now = take_all c.min.result held (omega arith) ∙ same in (
      subst (λ bs. Gathered (seen ++ bs) c.in-Through.spot c.keep-long-in-Through.result c.keep-long-in-Through.new.text.items) all (c.keep-long-in-Through.ensures.gathered seen c.args.spot c.in-Through.spot g c.in-Through.ensures),
      c.skip-in-Through.ensures ∙ drop_all (length (take c.min.result held)) c.args.chunk.now (omega (arith, ap length all)),
      omega (arith, ap length all),
    )

pub returns-then-more-clause-more : goal.returns-then-more-clause-more
returns-then-more-clause-more c =
    let same = c.as_slice-held.ensures in
    λ e. omega (arith, ap length c.skip-in-Through.ensures, length-drop {A = ℕ}, length-take {A = ℕ}, ap length same)
