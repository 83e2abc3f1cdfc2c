use Rattle.std.proofs.Common.{◌≡◌, ◌+◌, ◌++◌}
use Rattle.std.specs.String.{string_bytes}
use Rattle.hq_load.specs.Scripts.{rows_text}
use Rattle.hq_load.proofs.rows.Rows.write.Given as goal

abbrev pub invariant-loop : goal.invariant-loop
invariant-loop l = record {
  taken : l.self ≡ record l.fn.self { next = l.fn.self.next + l.counter };
  text : string_bytes l.script ≡ string_bytes l.fn.script ++ rows_text l.fn.self.seed l.fn.self.session l.fn.self.next l.counter;
}
