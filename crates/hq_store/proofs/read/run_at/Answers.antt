-- A run of the groups or behind them is one of all bytes.
use Rattle.std.proofs.Common.{◌-◌, ◌*◌, length, length-append, arith}
use Rattle.hq_store.specs.Pages.{flat, joined}
use Rattle.hq_store.proofs.Joined.{length-groups, groups_within, run_behind_all}
use Rattle.hq_store.proofs.read.run_at.Goals as goal

pub overflow_mul-grouped-2 : goal.overflow_mul-grouped-2
overflow_mul-grouped-2 c =
    omega (
      arith,
      length-groups 4096 64 c.args.groups.now c.requires.groups,
      groups_within c.args.groups.now c.args.pages.now c.args.runs.now c.args.unshared.now,
    )

pub run_in_groups-requires-clause-within : goal.run_in_groups-requires-clause-within
run_in_groups-requires-clause-within c = omega (arith, length-groups 4096 64 c.args.groups.now c.requires.groups)

pub run_behind-requires-clause-within : goal.run_behind-requires-clause-within
run_behind-requires-clause-within c =
    omega (
      arith,
      length-groups 4096 64 c.args.groups.now c.requires.groups,
      length-append (flat (flat c.args.groups.now)) (joined c.args.pages.now (joined c.args.runs.now c.args.unshared.now)),
    )

pub returns-else-at-grouped-clause-run : goal.returns-else-at-grouped-clause-run
returns-else-at-grouped-clause-run c =
    run_behind_all (flat (flat c.args.groups.now)) (joined c.args.pages.now (joined c.args.runs.now c.args.unshared.now)) c.args.at
    (c.args.at - length c.args.groups.now * 262144) _
    (omega (arith, length-groups 4096 64 c.args.groups.now c.requires.groups)) c.run_behind.ensures.run
