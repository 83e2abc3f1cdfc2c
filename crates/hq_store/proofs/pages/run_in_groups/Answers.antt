-- The end of a page lies in the bytes of the groups.
use Rattle.std.proofs.Common.{◌≡◌, ◌/◌, ◌%◌, ◌∙◌, ◌<◌, List, ℕ, length, drop, get_or, ap, arith}
use Rattle.hq_store.specs.Pages.{flat}
use Rattle.hq_store.proofs.Joined.{length-groups, length-flat, length-front, page_in_group, run_in_part}
use Rattle.hq_store.proofs.pages.run_in_groups.Goals as goal

pub bounds-groups-place : goal.bounds-groups-place
bounds-groups-place c = omega (arith, length-groups 4096 64 c.args.groups.now c.requires.groups)

pub bounds-pages-place : goal.bounds-pages-place
bounds-pages-place c =
    let there : c.args.at / 4096 / 64 < length c.args.groups.now = omega (arith, length-groups 4096 64 c.args.groups.now c.requires.groups) in
    omega (arith, c.requires.groups.0 (c.args.at / 4096 / 64) c.index-groups-place.result there, ap length c.index-groups-place.is, ap length c.pages-pages.ensures)

pub split_at-requires : goal.split_at-requires
split_at-requires c =
    let page : List ℕ = c.index-pages-place.result in
    let there : c.args.at / 4096 / 64 < length c.args.groups.now = omega (arith, length-groups 4096 64 c.args.groups.now c.requires.groups) in
    let among : c.args.at / 4096 < length (flat c.args.groups.now) = omega (arith, length-flat 4096 (flat c.args.groups.now) c.requires.groups.1) in
    let is : page ≡ get_or (flat c.args.groups.now) (c.args.at / 4096) page =
    page_in_group 64 c.args.groups.now (c.args.at / 4096) (c.args.at / 4096 / 64) (c.args.at / 4096 % 64) c.index-groups-place.result
    c.pages-pages.result.now page c.requires.groups.0 there (omega arith) (omega arith) c.index-groups-place.is c.pages-pages.ensures
    c.index-pages-place.is in
    omega (arith, c.requires.groups.1 (c.args.at / 4096) page among, ap length is, ap length c.as_slice.ensures)

pub returns-clause-run : goal.returns-clause-run
returns-clause-run c =
    let page : List ℕ = c.index-pages-place.result in
    let there : c.args.at / 4096 / 64 < length c.args.groups.now = omega (arith, length-groups 4096 64 c.args.groups.now c.requires.groups) in
    let among : c.args.at / 4096 < length (flat c.args.groups.now) = omega (arith, length-flat 4096 (flat c.args.groups.now) c.requires.groups.1) in
    let is : page ≡ get_or (flat c.args.groups.now) (c.args.at / 4096) page =
    page_in_group 64 c.args.groups.now (c.args.at / 4096) (c.args.at / 4096 / 64) (c.args.at / 4096 % 64) c.index-groups-place.result
    c.pages-pages.result.now page c.requires.groups.0 there (omega arith) (omega arith) c.index-groups-place.is c.pages-pages.ensures
    c.index-pages-place.is in
    let whole : length page ≡ 4096 = ap length is ∙ c.requires.groups.1 (c.args.at / 4096) page among in
    run_in_part (flat c.args.groups.now) c.args.at (c.args.at / 4096) (c.args.at % 4096) page _ among
    (omega (arith, length-front 4096 (flat c.args.groups.now) (c.args.at / 4096) c.requires.groups.1 (omega arith))) is
    (omega arith) (c.split_at.ensures.back ∙ ap (λ (p : List ℕ). drop (c.args.at % 4096) p) c.as_slice.ensures)

pub returns-clause-some : goal.returns-clause-some
returns-clause-some c =
    let page : List ℕ = c.index-pages-place.result in
    let there : c.args.at / 4096 / 64 < length c.args.groups.now = omega (arith, length-groups 4096 64 c.args.groups.now c.requires.groups) in
    let among : c.args.at / 4096 < length (flat c.args.groups.now) = omega (arith, length-flat 4096 (flat c.args.groups.now) c.requires.groups.1) in
    let is : page ≡ get_or (flat c.args.groups.now) (c.args.at / 4096) page =
    page_in_group 64 c.args.groups.now (c.args.at / 4096) (c.args.at / 4096 / 64) (c.args.at / 4096 % 64) c.index-groups-place.result
    c.pages-pages.result.now page c.requires.groups.0 there (omega arith) (omega arith) c.index-groups-place.is c.pages-pages.ensures
    c.index-pages-place.is in
    omega (arith, c.requires.groups.1 (c.args.at / 4096) page among, ap length is, ap length c.as_slice.ensures, c.split_at.ensures.back_len)
