use Rattle.std.proofs.Common.{◌≡◌, ◌&&◌, Bool, ℕ, List, sym, subst}
use Rattle.hq_catalog.specs.declared.ask.Answer.{Answer}
use Rattle.hq_history.specs.declared.noted.Noted.{Noted}
use Rattle.hq_turns.specs.Counts.{Counts, counts_of}
use Rattle.hq_turns.specs.Now.{Now}
use Rattle.hq_turns.proofs.Counting.{later-same}
use Rattle.hq_session.specs.declared.turn.Input.TheVariants as input
use Rattle.hq_session.specs.Keeps.{number_of, nodes_of, txn_of, IsInOrder}
use Rattle.hq_session.specs.Waits.{Answered, TakesLanes, awaited_of}
use Rattle.hq_serve.specs.Asking.{IsAnswered}
use Rattle.hq_serve.specs.Running.{now_at}
use Rattle.hq_serve.proofs.Answering.{asks-new, heard, replied-answered, tails-answered}
use Rattle.hq_serve.proofs.Growing.{starts-answered}
use Rattle.hq_serve.proofs.Seating.{seated, unseated}
use Rattle.hq_serve.proofs.settle.ask_once.Goals as goal

pub returns-clause-running : goal.returns-clause-running
returns-clause-running g c rows spot is run =
    let files : Bool = g.S.File.StoredFile.tells in
    let seals : Bool = g.S.Seal.SealCopy.tells in
    let told : Bool = files && seals in
    let nodes : ℕ = g.D.Desk.nodes c.args.desk.now in
    let k : ℕ = c.args.number in
    let seen : List Noted = g.D.Desk.shown c.args.desk.now in
    let after : List Noted = g.D.Desk.shown c.answer-answer.new.self in
    let counts : Counts = counts_of g.S.Store.faults g.H.Host.checks g.H.Host.faults g.L.Link.state c.args.benches.now.items in
    let now : Now = now_at rows nodes k spot after in
    let answered = subst (λ m. IsAnswered {F = g.row.S-File.Denot} {Z = g.row.S-Seal.Denot} told nodes k m seen c.args.ask after c.answer-answer.result) is
    (c.requires.catalogue.answers nodes k c.args.statement seen c.args.ask after c.answer-answer.result c.answer-answer.ensures.answered) in
    let fresh = asks-new told (now_at rows nodes k spot seen) c.args.ask (txn_of c.args.session.now) counts (awaited_of c.args.session.now) run.outcome in
    let hears : Answered told {F = g.row.S-File.Denot} {Z = g.row.S-Seal.Denot} nodes k now c.answer-answer.result (txn_of c.args.session.now) counts (awaited_of c.args.session.now) =
    record {
      file_rows = rows;
      before = now_at rows nodes k spot seen;
      ask = c.args.ask;
      counts = counts;
      waits = run.outcome;
      later = later-same counts;
      heard = heard rows nodes k told spot seen after c.args.ask c.answer-answer.result answered run.replied fresh;
    } in
    record {
      replied = replied-answered rows nodes k told spot seen after c.args.ask c.answer-answer.result answered run.replied;
      tails = tails-answered rows nodes k told spot seen after c.args.ask c.answer-answer.result answered run.replied run.tails;
      outcome = c.next.ensures.carries now
          (unseated nodes k c.args.session.now c.args.benches.now.items c.requires.seated
          (λ n j. Answered told n j now c.answer-answer.result (txn_of c.args.session.now) counts (awaited_of c.args.session.now)) hears);
      hand = seated nodes k c.args.session.now c.args.benches.now.items c.requires.seated
          (λ n j. IsInOrder files seals n j after c.next.result (txn_of c.next.new.self).lanes)
          (c.next.ensures.hand now
          (unseated nodes k c.args.session.now c.args.benches.now.items c.requires.seated
          (λ n j. TakesLanes files seals n j now (input.Answer c.answer-answer.result) (txn_of c.args.session.now) counts (awaited_of c.args.session.now)) (hears, run.hand)));
    }

pub returns-clause-begins : goal.returns-clause-begins
returns-clause-begins g c =
    starts-answered _ _ _ _ _ _ c.args.ask c.answer-answer.result (c.requires.catalogue.answers _ _ _ _ c.args.ask _ c.answer-answer.result c.answer-answer.ensures.answered)
