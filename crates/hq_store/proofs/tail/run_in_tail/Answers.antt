-- The end of a run or of the unshared bytes lies in the bytes.
use Rattle.std.proofs.Common.{◌∙◌, ◌+◌, ◌<◌, ◌≤◌, List, ℕ, length, take, drop, get_or, ap, arith}
use Rattle.hq_store.specs.Pages.{flat}
use Rattle.hq_store.proofs.Joined.{length-first, first_within, run_in_part, run_before, run_behind_all, run_to_end}
use Rattle.hq_store.proofs.tail.run_in_tail.Goals as goal

pub returns-then-spot-runs-clause-run : goal.returns-then-spot-runs-clause-run
returns-then-spot-runs-clause-run c =
    let place : ℕ = c.find_spot-spot.result.place in
    let within : ℕ = c.find_spot-spot.result.within in
    let run : List ℕ = c.index-runs-spot.result in
    let inside : within < length (get_or c.args.runs.now place run) = c.find_spot-spot.ensures.within run c.if-spot-runs.true in
    let short : within ≤ length run = omega (arith, ap length c.index-runs-spot.is) in
    let among : length (flat (take place c.args.runs.now)) + within ≤ length (flat c.args.runs.now) =
    first_within c.args.runs.now place within run c.if-spot-runs.true (omega arith) in
    run_before (flat c.args.runs.now) c.args.unshared.now c.args.at _ (omega (arith, c.find_spot-spot.ensures.there))
    (run_in_part c.args.runs.now c.args.at place within run _ c.if-spot-runs.true c.find_spot-spot.ensures.there c.index-runs-spot.is short
    (c.split_at.ensures.back ∙ ap (λ (bytes : List ℕ). drop within bytes) c.as_slice.ensures))

pub returns-else-spot-runs-clause-run : goal.returns-else-spot-runs-clause-run
returns-else-spot-runs-clause-run c =
    let within : ℕ = c.find_spot-spot.result.within in
    run_behind_all (flat c.args.runs.now) c.args.unshared.now c.args.at within _
    (omega (arith, c.find_spot-spot.ensures.there, length-first c.args.runs.now c.find_spot-spot.result.place c.if-spot-runs.false))
    (run_to_end c.args.unshared.now within _ c.split_at-else-spot-runs.ensures.back)
