use Rattle.std.proofs.Common.{◌<◌, ◌∙◌, length, ap, List, arith}
use Rattle.std.specs.List.{list_any}
use Rattle.std.proofs.lemmas.Bool.Decides.{nat_tests}
use Rattle.hq_block.specs.declared.bounds.Bounds.{Bounds}
use Rattle.hq_block.specs.Skipping.{excludes}
use Rattle.hq_block.proofs.Skipped.{some-bounds}
use Rattle.hq_block.proofs.skip.skips.Goals as goal

pub returns-then-not-is_empty : goal.returns-then-not-is_empty
returns-then-not-is_empty c =
    let some : 0 < length c.args.head.now.bounds = grind (arith, nat_tests, c.is_empty.ensures, c.if-not-is_empty.true, c.as_slice-bounds.ensures) in
    c.some_excludes.ensures ∙ ap (λ (bounds : List Bounds). list_any (excludes bounds) c.args.tests.now) c.as_slice-bounds.ensures ∙ some-bounds c.args.tests.now c.args.head.now.bounds some
