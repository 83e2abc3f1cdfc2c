use Rattle.std.proofs.Common.{◌≡◌, take}
use Rattle.hq_whole.proofs.tables.wide.Given as goal

abbrev pub invariant-loop-key : goal.invariant-loop-key
invariant-loop-key l = l.wide ≡ take l.key-index l.keys
