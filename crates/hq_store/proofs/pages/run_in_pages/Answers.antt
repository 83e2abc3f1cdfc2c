-- The end of a page lies in the bytes of the pages.
use Rattle.std.proofs.Common.{◌≡◌, ◌/◌, ◌%◌, ◌∙◌, ◌<◌, List, ℕ, length, drop, ap, arith}
use Rattle.hq_store.proofs.Joined.{length-flat, length-front, run_in_part}
use Rattle.hq_store.proofs.pages.run_in_pages.Goals as goal

pub bounds-pages-at : goal.bounds-pages-at
bounds-pages-at c = omega (arith, length-flat 4096 c.args.pages.now c.requires.whole)

pub split_at-requires : goal.split_at-requires
split_at-requires c =
    let there : c.args.at / 4096 < length c.args.pages.now = omega (arith, length-flat 4096 c.args.pages.now c.requires.whole) in
    omega (arith, c.requires.whole (c.args.at / 4096) c.index-pages-at.result there, ap length c.index-pages-at.is, ap length c.as_slice.ensures)

pub returns-clause-run : goal.returns-clause-run
returns-clause-run c =
    let there : c.args.at / 4096 < length c.args.pages.now = omega (arith, length-flat 4096 c.args.pages.now c.requires.whole) in
    let whole : length c.index-pages-at.result ≡ 4096 = ap length c.index-pages-at.is ∙ c.requires.whole (c.args.at / 4096) c.index-pages-at.result there in
    run_in_part c.args.pages.now c.args.at (c.args.at / 4096) (c.args.at % 4096) c.index-pages-at.result _ there
    (omega (arith, length-front 4096 c.args.pages.now (c.args.at / 4096) c.requires.whole (omega arith))) c.index-pages-at.is
    (omega arith) (c.split_at.ensures.back ∙ ap (λ (page : List ℕ). drop (c.args.at % 4096) page) c.as_slice.ensures)

pub returns-clause-some : goal.returns-clause-some
returns-clause-some c =
    let there : c.args.at / 4096 < length c.args.pages.now = omega (arith, length-flat 4096 c.args.pages.now c.requires.whole) in
    omega (
      arith,
      c.requires.whole (c.args.at / 4096) c.index-pages-at.result there,
      ap length c.index-pages-at.is,
      ap length c.as_slice.ensures,
      c.split_at.ensures.back_len,
    )
