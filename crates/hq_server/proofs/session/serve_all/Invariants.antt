use Rattle.std.proofs.Common.{◌≡◌, ◌≤◌, ◌-◌, ℕ, List, true}
use Rattle.std.specs.Io.KnownBytes.{IsAtEnd}
use Rattle.std.specs.declared.option.Option.{Option}
use Rattle.hq_io.specs.Told.{IfTold}
use Rattle.hq_io.specs.Reading.{ahead}
use Rattle.hq_server.specs.Ending.{Served}
use Rattle.hq_server.proofs.session.serve_all.Given as goal

abbrev pub invariant-loop-why : goal.invariant-loop-why
invariant-loop-why g l = record {
  source_label : g.A.Source.label l.source ≡ g.A.Source.label l.fn.source;
  sink_label : g.B.Sink.label l.sink ≡ g.B.Sink.label l.fn.sink;
  source_faults : g.A.Source.faults l.fn.source ≤ g.A.Source.faults l.source;
  sink_faults : g.B.Sink.faults l.fn.sink ≤ g.B.Sink.faults l.sink;
  read : (l.fn.reader.ended ≡ true → IsAtEnd (g.A.Source.left l.fn.source)) → l.reader.ended ≡ true → IsAtEnd (g.A.Source.left l.source);
  served : (whole first : Option (List ℕ)) → IfTold whole (ahead l.fn.reader (g.A.Source.left l.fn.source)) (Served first (g.B.Sink.given l.fn.sink) l.fn.database l.fn.reader) → IfTold whole (ahead l.reader (g.A.Source.left l.source)) (Served first (g.B.Sink.given l.sink) l.database l.reader);
}

abbrev pub decreases-loop-why : goal.decreases-loop-why
decreases-loop-why g l = 100000 - l.reader.pieces
