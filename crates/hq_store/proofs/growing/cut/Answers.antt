-- A cut keeps the pages before it, and the front of the page or of the bytes behind them in which it lies.
use Rattle.std.proofs.Common.{◌≡◌, ◌∙◌, ◌+◌, ◌-◌, ◌<◌, ◌*◌, ◌/◌, ◌%◌, List, ℕ, length, take, ap, arith}
use Rattle.hq_store.specs.Pages.{flat, joined}
use Rattle.hq_store.proofs.Joined.{length-joined, length-flat, length-front, cut_at_page, cut_behind}
use Rattle.hq_store.proofs.growing.cut.Goals as goal

pub returns-then-place-len-clause-bytes : goal.returns-then-place-len-clause-bytes
returns-then-place-len-clause-bytes c =
    let pages : List (List ℕ) = c.args.pages.now.items in
    let place : ℕ = c.args.at / 4096 in
    let page : List ℕ = c.index_mut.result.now in
    let there : place < length pages = omega arith in
    let whole : length page ≡ 4096 = ap length c.index_mut.ensures.value ∙ c.requires.whole place page there in
    let here : c.args.at ≡ length (flat (take place pages)) + c.args.at % 4096 =
    omega (arith, length-front 4096 pages place c.requires.whole (omega arith)) in
    rw (c.truncate-then-place-len.ensures.items, c.keep_run.ensures.bytes)
    (cut_at_page pages (joined c.args.runs.now.items c.args.unshared.now.items) c.args.at place (c.args.at % 4096) page c.replace-page.new.dest
    c.truncate.new.self there here c.index_mut.ensures.value (omega arith)
    (c.truncate.ensures ∙ ap (λ (p : List ℕ). take (c.args.at % 4096) p) c.replace-page.ensures.value))

pub cut_tail-requires : goal.cut_tail-requires
cut_tail-requires c =
    omega (arith, length-joined 4096 c.args.pages.now.items (joined c.args.runs.now.items c.args.unshared.now.items) c.requires.whole)

pub returns-clause-bytes : goal.returns-clause-bytes
returns-clause-bytes c =
    cut_behind (flat c.args.pages.now.items) (joined c.args.runs.now.items c.args.unshared.now.items) c.args.at (c.args.at - c.len-2.result * 4096) _
    (omega (arith, length-flat 4096 c.args.pages.now.items c.requires.whole)) c.cut_tail.ensures.bytes
