-- A cut keeps the runs before it, and the front of the run or of the unshared bytes in which it lies.
use Rattle.std.proofs.Common.{◌≡◌, ◌∙◌, ◌+◌, ◌<◌, List, ℕ, length, take, get_or, ap, arith}
use Rattle.hq_store.specs.Pages.{flat}
use Rattle.hq_store.proofs.Joined.{length-first, cut_at_run, cut_behind}
use Rattle.hq_store.proofs.tail.cut_tail.Goals as goal

pub returns-then-spot-len-clause-bytes : goal.returns-then-spot-len-clause-bytes
returns-then-spot-len-clause-bytes c =
    let runs : List (List ℕ) = c.args.runs.now.items in
    let place : ℕ = c.find_spot-spot.result.place in
    let within : ℕ = c.find_spot-spot.result.within in
    let run : List ℕ = c.index_mut.result.now in
    let among : c.deref.result.now ≡ runs = c.deref.ensures.value in
    let there : place < length c.deref.result.now = omega (arith, ap length among) in
    let inside : within < length (get_or c.deref.result.now place run) = c.find_spot-spot.ensures.within run there in
    let inside_run : within < length (get_or runs place run) = rw among at inside in
    let here : c.args.at ≡ length (flat (take place runs)) + within = rw among at c.find_spot-spot.ensures.there in
    rw (c.truncate-then-spot-len.ensures.items, c.clear.ensures.items)
    (cut_at_run runs c.args.unshared.now.items c.args.at place within run c.truncate.new.self (omega arith) here c.index_mut.ensures.value
    (omega (arith, ap length c.index_mut.ensures.value)) c.truncate.ensures)

pub returns-else-spot-len-clause-bytes : goal.returns-else-spot-len-clause-bytes
returns-else-spot-len-clause-bytes c =
    cut_behind (flat c.args.runs.now.items) c.args.unshared.now.items c.args.at c.find_spot-spot.result.within _
    (c.find_spot-spot.ensures.there
    ∙ ap (λ (n : ℕ). n + c.find_spot-spot.result.within)
    (length-first c.deref.result.now c.find_spot-spot.result.place (omega arith)
    ∙ ap (λ (rs : List (List ℕ)). length (flat rs)) c.deref.ensures.value)) c.truncate-else-spot-len.ensures.items
