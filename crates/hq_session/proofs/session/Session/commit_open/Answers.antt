use Rattle.std.proofs.Common.{lit<, ◌≡◌, ◌&&◌, ◌++◌, ◌∷◌, ◌<◌, [], List, length, refl, sym, ap, subst, arith}
use Rattle.std.proofs.lemmas.List.{append-nil}
use Rattle.hq_lane.specs.Lanes.{LaneState}
use Rattle.hq_catalog.specs.declared.ask.Ask.TheVariants as ask
use Rattle.hq_txn.specs.Transactions.{Transaction}
use Rattle.hq_transcript.specs.Binds.{binds}
use Rattle.hq_turns.specs.Counts.{counts_of}
use Rattle.hq_turns.specs.Hand.{InHand}
use Rattle.hq_turns.proofs.Answering.{commits-nothing, commits, commit-refused}
use Rattle.hq_turns.proofs.Counting.{cause-before}
use Rattle.hq_turns.proofs.Hands.{may-commit, hand-ready}
use Rattle.hq_session.proofs.Handed.{hand-unsealed}
use Rattle.hq_session.proofs.Sounds.{sound-spent, sound-unsealed, unsealed-slots}
use Rattle.hq_session.proofs.session.Session.commit_open.Goals as goal

some-lanes : (lanes : List LaneState) → 0 < length lanes → lanes ≡ [] → ⊥
some-lanes [] h e = omega arith
some-lanes (x ∷ xs) h e = cc

pub finish-requires-in-Err : goal.finish-requires-in-Err
finish-requires-in-Err g c = (
  lit< tt,
  (
    omega (arith, c.requires.some, c.prepare_first.ensures.later.nodes),
    sound-unsealed g.F.StoredFile.tells c.args.self.now.txn c.prepare_first.new.txn c.in-Err.ensures.failed c.in-Err.ensures.kept c.in-Err.ensures.unsealed c.requires.sound,
  ),
)

pub returns-then-has_none-clause-carries : goal.returns-then-has_none-clause-carries
returns-then-has_none-clause-carries g c now b =
    c.finish.ensures.carries now
    (commits-nothing binds (g.F.StoredFile.tells && g.Z.SealCopy.tells) now c.args.self.now.txn _ b c.requires.open (c.has_none.ensures.yes c.if-has_none.true))

pub returns-in-Ok-clause-carries : goal.returns-in-Ok-clause-carries
returns-in-Ok-clause-carries g c now b =
    commits binds (g.F.StoredFile.tells && g.Z.SealCopy.tells) now c.args.self.now.txn _ b c.requires.open (ask.Commit c.in-Ok.lanes) c.prepare_first.new.txn _
    (some-lanes c.args.self.now.txn.lanes (c.has_none.ensures.no c.if-has_none.false)) c.prepare_first.ensures.later
    (ap (λ (t : Transaction). t.state) c.in-Ok.ensures.idle) (ap (λ (t : Transaction). t.lanes) c.in-Ok.ensures.idle) refl

pub returns-in-Ok-clause-hand : goal.returns-in-Ok-clause-hand
returns-in-Ok-clause-hand g c history x =
    let files = g.F.StoredFile.tells in
    let seals = g.Z.SealCopy.tells in
    let k = c.args.self.now.number in
    let old = c.args.self.now.txn.lanes in
    let new = c.in-Ok.lanes.items in
    record {
      may = may-commit files seals k history old new x c.in-Ok.ensures.count c.in-Ok.ensures.prepared (omega (arith, c.in-Ok.ensures.count, c.has_none.ensures.no c.if-has_none.false));
      hand = subst (λ (ls : List LaneState). InHand files seals k history (new ++ ls)) (sym (ap (λ (t : Transaction). t.lanes) c.in-Ok.ensures.idle))
          (subst (λ (ls : List LaneState). InHand files seals k history ls) (sym (append-nil new)) (hand-ready files seals k history old new x c.in-Ok.ensures.count c.in-Ok.ensures.prepared));
    }

pub returns-in-Ok-clause-sound : goal.returns-in-Ok-clause-sound
returns-in-Ok-clause-sound g c = sound-spent c.args.self.now.txn c.prepare_first.new.txn c.in-Ok.ensures.idle

pub returns-in-Err-clause-carries : goal.returns-in-Err-clause-carries
returns-in-Err-clause-carries g c now b =
    c.finish-in-Err.ensures.carries now
    (commit-refused binds (g.F.StoredFile.tells && g.Z.SealCopy.tells) now c.args.self.now.txn _ b c.requires.open c.prepare_first.new.txn _ c.in-Err.why
    (some-lanes c.args.self.now.txn.lanes (c.has_none.ensures.no c.if-has_none.false)) c.prepare_first.ensures.later
    (unsealed-slots g.F.StoredFile.tells c.args.self.now.txn.lanes c.prepare_first.new.txn.lanes c.in-Err.ensures.kept c.in-Err.ensures.unsealed)
    c.in-Err.ensures.why (cause-before now.counts (counts_of g.S.Store.faults g.H.Host.checks g.H.Host.faults g.L.Link.state c.args.benches.now.items)
    (counts_of g.S.Store.faults g.H.Host.checks g.H.Host.faults g.L.Link.state c.prepare_first.new.benches.items) c.in-Err.why b.before.later c.in-Err.ensures.cause))

pub returns-in-Err-clause-hand : goal.returns-in-Err-clause-hand
returns-in-Err-clause-hand g c history x =
    c.finish-in-Err.ensures.hand history
    (hand-unsealed g.F.StoredFile.tells g.Z.SealCopy.tells c.args.self.now.number history c.args.self.now.txn.lanes c.prepare_first.new.txn.lanes x c.in-Err.ensures.kept c.in-Err.ensures.unsealed)
