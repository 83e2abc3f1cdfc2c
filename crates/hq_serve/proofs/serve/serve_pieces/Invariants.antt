use Rattle.std.proofs.Common.{◌≡◌, ◌+◌, ◌≤◌, ◌-◌, ℕ, List, true, IsTrue}
use Rattle.std.specs.Io.KnownBytes.{IsAtEnd}
use Rattle.std.specs.declared.option.Option.{Option}
use Rattle.hq_history.specs.History.{StartsWith}
use Rattle.hq_turns.specs.Counts.{Counts, counts_of}
use Rattle.hq_session.specs.Waits.{RowsOfBytes}
use Rattle.hq_serve.specs.Inputs.{SoFar}
use Rattle.hq_serve.specs.Running.{CanGoOn}
use Rattle.hq_serve.specs.Seats.{IsSeated}
use Rattle.hq_serve.specs.Served.{GrewBy}
use Rattle.hq_serve.proofs.serve.serve_pieces.Given as goal

abbrev pub invariant-loop-why : goal.invariant-loop-why
invariant-loop-why g l = record {
  desk : g.D.Desk.answers l.desk l.fn.number;
  nodes : g.D.Desk.nodes l.desk ≡ g.D.Desk.nodes l.fn.desk;
  seated : IsSeated (g.D.Desk.nodes l.fn.desk) l.fn.number l.session l.benches.items;
  begins : StartsWith (g.D.Desk.shown l.desk) (g.D.Desk.shown l.fn.desk);
  alone : IsTrue g.D.Desk.alone → GrewBy l.fn.number (g.D.Desk.shown l.fn.desk) (g.D.Desk.shown l.desk);
  waiting : CanGoOn g.S.File.StoredFile.tells g.S.Seal.SealCopy.tells (g.D.Desk.nodes l.fn.desk) l.fn.number l.statement (g.D.Desk.shown l.desk) l.session
      (counts_of g.S.Store.faults g.H.Host.checks g.H.Host.faults g.L.Link.state l.benches.items);
  count : l.statement ≡ l.reader.pieces + 1;
  so_far : (file_rows : RowsOfBytes) (first : Counts) (whole given : Option (List ℕ))
      → SoFar file_rows (g.D.Desk.nodes l.fn.desk) l.fn.number g.S.File.StoredFile.tells g.S.Seal.SealCopy.tells (g.D.Desk.shown l.fn.desk) l.fn.session first
      (counts_of g.S.Store.faults g.H.Host.checks g.H.Host.faults g.L.Link.state l.fn.benches.items) l.fn.statement l.fn.reader whole (g.A.Source.left l.fn.source) given (g.B.Sink.given l.fn.sink)
      → SoFar file_rows (g.D.Desk.nodes l.fn.desk) l.fn.number g.S.File.StoredFile.tells g.S.Seal.SealCopy.tells (g.D.Desk.shown l.desk) l.session first
      (counts_of g.S.Store.faults g.H.Host.checks g.H.Host.faults g.L.Link.state l.benches.items) l.statement l.reader whole (g.A.Source.left l.source) given (g.B.Sink.given l.sink);
  read : (l.fn.reader.ended ≡ true → IsAtEnd (g.A.Source.left l.fn.source)) → l.reader.ended ≡ true → IsAtEnd (g.A.Source.left l.source);
  source_faults : g.A.Source.faults l.fn.source ≤ g.A.Source.faults l.source;
  sink_faults : g.B.Sink.faults l.fn.sink ≤ g.B.Sink.faults l.sink;
  source_label : g.A.Source.label l.source ≡ g.A.Source.label l.fn.source;
  sink_label : g.B.Sink.label l.sink ≡ g.B.Sink.label l.fn.sink;
}

abbrev pub decreases-loop-why : goal.decreases-loop-why
decreases-loop-why g l = 100000 - l.reader.pieces
