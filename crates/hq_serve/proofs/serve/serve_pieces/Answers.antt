use Rattle.std.proofs.Common.{◌≡◌, ◌≤◌, ℕ, List, sym, subst, ◌∙◌, arith}
use Rattle.hq_turns.specs.Counts.{Counts, counts_of}
use Rattle.hq_serve.specs.Inputs.{SoFar}
use Rattle.hq_serve.specs.Running.{CanGoOn}
use Rattle.hq_serve.specs.Seats.{IsSeated}
use Rattle.hq_serve.proofs.Growing.{starts-then, grew-then, le-then}
use Rattle.hq_serve.proofs.serve.serve_pieces.Goals as goal

pub loop-why-preserved : goal.loop-why-preserved
loop-why-preserved g c =
    let now : Counts = counts_of g.S.Store.faults g.H.Host.checks g.H.Host.faults g.L.Link.state c.turn.new.benches.items in
    let before : Counts = counts_of g.S.Store.faults g.H.Host.checks g.H.Host.faults g.L.Link.state c.loop-why.benches.items in
    let i = c.loop-why.invariant in
    record {
      desk = c.turn.ensures.desk;
      nodes = c.turn.ensures.nodes ∙ i.nodes;
      seated = subst (λ n. IsSeated n c.args.number c.turn.new.session c.turn.new.benches.items) i.nodes c.turn.ensures.seated;
      begins = starts-then _ _ _ i.begins c.turn.ensures.begins;
      alone = λ alone. grew-then _ _ _ _ (i.alone alone) (c.turn.ensures.alone alone);
      waiting = subst (λ n. CanGoOn g.S.File.StoredFile.tells g.S.Seal.SealCopy.tells n c.args.number c.turn.new.statement (g.D.Desk.shown c.turn.new.desk) c.turn.new.session now)
          i.nodes c.turn.ensures.waiting;
      count = c.in-Ok.ensures.count;
      so_far = λ rows first whole given x.
          subst (λ n. SoFar rows n c.args.number g.S.File.StoredFile.tells g.S.Seal.SealCopy.tells (g.D.Desk.shown c.turn.new.desk) c.turn.new.session first now c.turn.new.statement c.turn.new.reader whole (g.A.Source.left c.turn.new.source) given (g.B.Sink.given c.turn.new.sink))
          i.nodes
          (c.in-Ok.ensures.so_far rows first whole given
          (subst (λ n. SoFar rows n c.args.number g.S.File.StoredFile.tells g.S.Seal.SealCopy.tells (g.D.Desk.shown c.loop-why.desk) c.loop-why.session first before c.loop-why.statement c.loop-why.reader whole (g.A.Source.left c.loop-why.source) given (g.B.Sink.given c.loop-why.sink))
          (sym i.nodes) (i.so_far rows first whole given x)));
      read = λ h. c.in-Ok.ensures.read (i.read h);
      source_faults = le-then _ _ _ i.source_faults c.turn.ensures.cause.source_later;
      sink_faults = le-then _ _ _ i.sink_faults c.turn.ensures.cause.sink_later;
      source_label = c.turn.ensures.source_label ∙ i.source_label;
      sink_label = c.turn.ensures.sink_label ∙ i.sink_label;
    }

pub returns-in-Err-clause-begins : goal.returns-in-Err-clause-begins
returns-in-Err-clause-begins g c = starts-then _ _ _ c.loop-why.invariant.begins c.turn.ensures.begins

pub returns-in-Err-clause-alone : goal.returns-in-Err-clause-alone
returns-in-Err-clause-alone g c alone = grew-then _ _ _ _ (c.loop-why.invariant.alone alone) (c.turn.ensures.alone alone)
