-- The rows stand in front of the others.
use Rattle.std.proofs.Common.{◌≡◌, ◌∙◌, ◌∷◌, true, false, refl, sym}
use Rattle.std.proofs.lemmas.Result.{on_ok_weaker}
use Rattle.hq_dispatch.proofs.Exchanging.{kept-so}
use Rattle.hq_dispatch.proofs.task.Task.take.Goals as goal

pub returns-in-Ok : goal.returns-in-Ok
returns-in-Ok g c =
    record {
      store = refl;
      host = refl;
      exchanged = λ on. kept-so c.args.query c.args.slice (g.L.Link.state c.args.self.now.bench.link) (g.L.Link.state c.receive.new.link) c.in-Ok.rows c.keep-self.result c.in-Ok.ensures.exchanged c.keep-self.ensures.no_memory;
      received = λ on. on_ok_weaker c.keep-self.result
          (λ (kept : c.keep-self.new.incoming.items ≡ (c.args.slice, c.in-Ok.rows) ∷ c.args.self.now.incoming.items). record { rows = c.in-Ok.rows; received = kept; taken = c.in-Ok.ensures.taken }) c.keep-self.ensures.kept;
      waited = λ f. (let bad : true ≡ false = sym c.if-not-takes.false ∙ f in absurd cc);
    }
