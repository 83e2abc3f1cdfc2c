use Rattle.std.proofs.Common.{◌≡◌, ℕ, List, [], None, ◌∙◌, sym}
use Rattle.hq_turns.specs.Counts.{Counts, counts_of}
use Rattle.hq_turns.proofs.Counting.{later-by}
use Rattle.hq_session.specs.Waits.{RowsOfBytes}
use Rattle.hq_serve.proofs.Growing.{starts-then, grew-then}
use Rattle.hq_serve.proofs.Starting.{run-none, served-none, can-begin, so-far-none, is-served, has-run, rose}
use Rattle.hq_serve.proofs.serve.serve_at.Goals as goal

pub returns-in-Err-clause-served : goal.returns-in-Err-clause-served
returns-in-Err-clause-served g c rows =
    served-none rows (g.D.Desk.nodes c.args.desk.now) c.args.number g.S.File.StoredFile.tells g.S.Seal.SealCopy.tells (g.D.Desk.shown c.args.desk.now) c.requires.fresh
    (counts_of g.S.Store.faults g.H.Host.checks g.H.Host.faults g.L.Link.state c.args.benches.now.items) (g.A.Source.left c.args.source.now) (g.B.Sink.given c.args.sink.now)

pub returns-in-Err-clause-run : goal.returns-in-Err-clause-run
returns-in-Err-clause-run g c rows =
    run-none rows (g.D.Desk.nodes c.args.desk.now) c.args.number g.S.File.StoredFile.tells g.S.Seal.SealCopy.tells (g.D.Desk.shown c.args.desk.now) c.requires.fresh
    (counts_of g.S.Store.faults g.H.Host.checks g.H.Host.faults g.L.Link.state c.args.benches.now.items) (g.B.Sink.given c.args.sink.now)

pub serve_pieces-why-requires-clause-waiting : goal.serve_pieces-why-requires-clause-waiting
serve_pieces-why-requires-clause-waiting g c κs within =
    can-begin (λ kinds bytes. []) (g.D.Desk.nodes c.args.desk.now) c.args.number g.S.File.StoredFile.tells g.S.Seal.SealCopy.tells (g.D.Desk.shown c.args.desk.now) c.requires.fresh
    c.new-session.result (counts_of g.S.Store.faults g.H.Host.checks g.H.Host.faults g.L.Link.state c.args.benches.now.items) c.new-session.ensures.idle c.requires.home

pub returns-clause-served : goal.returns-clause-served
returns-clause-served g c rows =
    let first : Counts = counts_of g.S.Store.faults g.H.Host.checks g.H.Host.faults g.L.Link.state c.args.benches.now.items in
    is-served rows (g.D.Desk.nodes c.args.desk.now) (g.D.Desk.nodes c.serve_pieces-why.new.desk) c.args.number g.S.File.StoredFile.tells g.S.Seal.SealCopy.tells
    (g.D.Desk.shown c.serve_pieces-why.new.desk) (g.D.Desk.shown c.end.new.desk) c.serve_pieces-why.new.session c.end.new.session first
    (counts_of g.S.Store.faults g.H.Host.checks g.H.Host.faults g.L.Link.state c.serve_pieces-why.new.benches.items)
    (counts_of g.S.Store.faults g.H.Host.checks g.H.Host.faults g.L.Link.state c.end.new.benches.items) c.serve_pieces-why.new.statement c.serve_pieces-why.result
    (g.A.Source.left c.args.source.now) (g.A.Source.left c.serve_pieces-why.new.source) (g.B.Sink.given c.args.sink.now) (g.B.Sink.given c.serve_pieces-why.new.sink)
    c.serve_pieces-why.ensures.nodes
    (c.serve_pieces-why.ensures.last rows first (g.A.Source.left c.args.source.now) (g.B.Sink.given c.args.sink.now)
    (so-far-none rows (g.D.Desk.nodes c.args.desk.now) c.args.number g.S.File.StoredFile.tells g.S.Seal.SealCopy.tells (g.D.Desk.shown c.args.desk.now) c.requires.fresh
    c.new-session.result first c.new-session.ensures.idle c.requires.home c.in-Ok.reader (g.A.Source.left c.args.source.now) (g.B.Sink.given c.args.sink.now) c.in-Ok.ensures))
    (c.end.ensures.ended rows)

pub returns-clause-run : goal.returns-clause-run
returns-clause-run g c rows =
    let first : Counts = counts_of g.S.Store.faults g.H.Host.checks g.H.Host.faults g.L.Link.state c.args.benches.now.items in
    has-run rows (g.D.Desk.nodes c.args.desk.now) (g.D.Desk.nodes c.serve_pieces-why.new.desk) c.args.number g.S.File.StoredFile.tells g.S.Seal.SealCopy.tells
    (g.D.Desk.shown c.serve_pieces-why.new.desk) (g.D.Desk.shown c.end.new.desk) c.serve_pieces-why.new.session c.end.new.session first
    (counts_of g.S.Store.faults g.H.Host.checks g.H.Host.faults g.L.Link.state c.serve_pieces-why.new.benches.items)
    (counts_of g.S.Store.faults g.H.Host.checks g.H.Host.faults g.L.Link.state c.end.new.benches.items) c.serve_pieces-why.new.statement c.serve_pieces-why.result
    (g.A.Source.left c.args.source.now) (g.A.Source.left c.serve_pieces-why.new.source) (g.B.Sink.given c.args.sink.now) (g.B.Sink.given c.serve_pieces-why.new.sink)
    c.serve_pieces-why.ensures.nodes
    (c.serve_pieces-why.ensures.last rows first (g.A.Source.left c.args.source.now) (g.B.Sink.given c.args.sink.now)
    (so-far-none rows (g.D.Desk.nodes c.args.desk.now) c.args.number g.S.File.StoredFile.tells g.S.Seal.SealCopy.tells (g.D.Desk.shown c.args.desk.now) c.requires.fresh
    c.new-session.result first c.new-session.ensures.idle c.requires.home c.in-Ok.reader (g.A.Source.left c.args.source.now) (g.B.Sink.given c.args.sink.now) c.in-Ok.ensures))
    (c.end.ensures.ended rows)

pub returns-clause-begins : goal.returns-clause-begins
returns-clause-begins g c = starts-then _ _ _ c.serve_pieces-why.ensures.begins c.end.ensures.begins

pub returns-clause-alone : goal.returns-clause-alone
returns-clause-alone g c alone = grew-then _ _ _ _ (c.serve_pieces-why.ensures.alone alone) (c.end.ensures.alone alone)

pub returns-clause-later : goal.returns-clause-later
returns-clause-later g c =
    let first : Counts = counts_of g.S.Store.faults g.H.Host.checks g.H.Host.faults g.L.Link.state c.args.benches.now.items in
    later-by first _ _
    (c.serve_pieces-why.ensures.last (λ kinds bytes. []) first (g.A.Source.left c.args.source.now) (g.B.Sink.given c.args.sink.now)
    (so-far-none (λ kinds bytes. []) (g.D.Desk.nodes c.args.desk.now) c.args.number g.S.File.StoredFile.tells g.S.Seal.SealCopy.tells (g.D.Desk.shown c.args.desk.now) c.requires.fresh
    c.new-session.result first c.new-session.ensures.idle c.requires.home c.in-Ok.reader (g.A.Source.left c.args.source.now) (g.B.Sink.given c.args.sink.now) c.in-Ok.ensures)).answered.causes.later
    c.end.ensures.later
