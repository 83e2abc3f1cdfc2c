use Rattle.std.proofs.Common.{◌≡◌, ◌*◌, ◌++◌, min}
use Rattle.std.specs.String.{string_bytes}
use Rattle.hq_load.specs.Scripts.{groups_text}
use Rattle.hq_load.proofs.script.write_groups.Given as goal

abbrev pub invariant-loop-group : goal.invariant-loop-group
invariant-loop-group l = record {
  taken : l.taken ≡ record { seed = l.fn.seed; session = l.fn.session; next = min l.fn.rows (100 * l.group) };
  text : string_bytes l.script ≡ string_bytes l.fn.script ++ groups_text l.fn.seed l.fn.session l.fn.rows l.group;
}
