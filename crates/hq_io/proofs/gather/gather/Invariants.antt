use Rattle.std.proofs.Common.{◌≡◌, ◌≤◌, ◌^◌, ◌-◌, ◌+◌, ℕ, List, length, vec_capacity}
use Rattle.std.specs.Io.KnownBytes.{prepend_known, Consumes}
use Rattle.hq_io.specs.Gathering.{Gathered}
use Rattle.hq_io.proofs.gather.gather.Given as goal

abbrev pub invariant-loop-chunk : goal.invariant-loop-chunk
invariant-loop-chunk g l = record {
  room : 65536 ≤ vec_capacity l.text;
  fits : length l.text.items ≤ 65536;
  taken : l.taken ≤ 2 ^ 32;
  label : g.S.Source.label l.source ≡ g.S.Source.label l.fn.source;
  faults : g.S.Source.faults l.fn.source ≤ g.S.Source.faults l.source;
  sound : g.S.Source.sound l.fn.source → (g.S.Source.faults l.source ≡ g.S.Source.faults l.fn.source) × g.S.Source.sound l.source;
  gathered : (seen : List ℕ) × Gathered seen l.spot l.long l.text.items × Consumes (prepend_known l.fn.chunk (g.S.Source.left l.fn.source)) (prepend_known l.chunk (g.S.Source.left l.source)) seen × (l.taken ≡ l.fn.taken + length seen);
}

abbrev pub decreases-loop-chunk : goal.decreases-loop-chunk
decreases-loop-chunk g l = 2 ^ 32 - l.taken
