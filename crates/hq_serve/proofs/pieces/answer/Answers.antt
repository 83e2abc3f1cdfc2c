use Rattle.std.proofs.Common.{lit<, ◌≡◌, ◌&&◌, Bool, ℕ, List}
use Rattle.hq_history.specs.declared.noted.Noted.{Noted}
use Rattle.hq_turns.specs.Counts.{Counts, counts_of}
use Rattle.hq_turns.specs.Now.{Now}
use Rattle.hq_serve.specs.Inputs.{piece_in}
use Rattle.hq_serve.specs.Running.{Spot, CanSettle, now_at}
use Rattle.hq_serve.proofs.Going.{runs}
use Rattle.hq_serve.proofs.Seating.{seated-on}
use Rattle.hq_serve.proofs.pieces.answer.Goals as goal

pub settle-requires : goal.settle-requires
settle-requires g c =
    let nodes : ℕ = g.D.Desk.nodes c.args.desk.now in
    let seen : List Noted = g.D.Desk.shown c.args.desk.now in
    let w = c.requires.waiting in
    let now : Now = now_at w.0 nodes c.args.number (record w.1 { piece = piece_in c.args.piece }) seen in
    let running : CanSettle g.S.File.StoredFile.tells g.S.Seal.SealCopy.tells nodes c.args.number c.args.statement seen c.next-turn.new.self
    (counts_of g.S.Store.faults g.H.Host.checks g.H.Host.faults g.L.Link.state c.next-turn.new.benches.items) c.next-turn.result = (
      w.0,
      record w.1 { piece = piece_in c.args.piece },
      w.2,
      runs w.0 nodes c.args.number g.S.File.StoredFile.tells g.S.Seal.SealCopy.tells w.1 seen c.args.session.now
          (counts_of g.S.Store.faults g.H.Host.checks g.H.Host.faults g.L.Link.state c.args.benches.now.items) c.args.benches.now.items c.requires.seated c.args.piece _ _ _
          (c.next-turn.ensures.carries now) (c.next-turn.ensures.hand now) w.3,
    ) in (
      lit< tt,
      (
        c.requires.catalogue,
        (
          c.requires.desk,
          (
            seated-on nodes c.args.number c.args.session.now c.next-turn.new.self c.args.benches.now.items c.next-turn.new.benches.items c.requires.seated c.next-turn.ensures.kept
                c.next-turn.ensures.later.nodes c.next-turn.ensures.sound,
            running,
          ),
        ),
      ),
    )

pub returns-clause-ended : goal.returns-clause-ended
returns-clause-ended g c rows spot is w =
    let nodes : ℕ = g.D.Desk.nodes c.args.desk.now in
    let seen : List Noted = g.D.Desk.shown c.args.desk.now in
    let now : Now = now_at rows nodes c.args.number (record spot { piece = piece_in c.args.piece }) seen in
    c.settle.ensures.ended rows (record spot { piece = piece_in c.args.piece }) is
    (runs rows nodes c.args.number g.S.File.StoredFile.tells g.S.Seal.SealCopy.tells spot seen c.args.session.now
    (counts_of g.S.Store.faults g.H.Host.checks g.H.Host.faults g.L.Link.state c.args.benches.now.items) c.args.benches.now.items c.requires.seated c.args.piece _ _ _
    (c.next-turn.ensures.carries now) (c.next-turn.ensures.hand now) w)
