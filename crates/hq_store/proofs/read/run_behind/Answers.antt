-- A run of the pages or behind them is one of all bytes.
use Rattle.std.proofs.Common.{◌-◌, ◌*◌, length, arith}
use Rattle.hq_store.specs.Pages.{flat, joined}
use Rattle.hq_store.proofs.Joined.{length-joined, length-flat, run_behind_all}
use Rattle.hq_store.proofs.read.run_behind.Goals as goal

pub overflow_mul-full : goal.overflow_mul-full
overflow_mul-full c = omega (arith, length-joined 4096 c.args.pages.now (joined c.args.runs.now c.args.unshared.now) c.requires.whole)

pub run_in_pages-requires-clause-within : goal.run_in_pages-requires-clause-within
run_in_pages-requires-clause-within c = omega (arith, length-flat 4096 c.args.pages.now c.requires.whole)

pub run_in_tail-requires : goal.run_in_tail-requires
run_in_tail-requires c = omega (arith, length-joined 4096 c.args.pages.now (joined c.args.runs.now c.args.unshared.now) c.requires.whole)

pub returns-else-at-full-clause-run : goal.returns-else-at-full-clause-run
returns-else-at-full-clause-run c =
    run_behind_all (flat c.args.pages.now) (joined c.args.runs.now c.args.unshared.now) c.args.at (c.args.at - length c.args.pages.now * 4096) _
    (omega (arith, length-flat 4096 c.args.pages.now c.requires.whole)) c.run_in_tail.ensures.run
