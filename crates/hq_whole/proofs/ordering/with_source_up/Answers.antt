use Rattle.std.proofs.Common.{◌≡◌, ◌-◌, ℕ, List, take, drop, get_or, refl, ◌∙◌, IsTrue}
use Rattle.std.specs.Result.{IfOk}
use Rattle.hq_algebra.specs.Bound.{is_bound}
use Rattle.hq_algebra.specs.declared.query.Query.{Query}
use Rattle.hq_laws.specs.Turned.{turned, AreTurned}
use Rattle.hq_whole.specs.Places.{Reordered}
use Rattle.hq_whole.specs.Tables.{kinds_by}
use Rattle.hq_whole.proofs.Plans.{turned-bound}
use Rattle.hq_whole.proofs.Reordering.{reordered, cut-between}
use Rattle.hq_whole.proofs.Results.{ok_then, both_ok}
use Rattle.hq_whole.proofs.ordering.with_source_up.Goals as goal

pub returns : goal.returns
returns c =
    let q : Query = c.args.query.now in
    let ss : List ℕ = c.as_slice-sources.result.now in
    let found : IfOk c.turned.result (λ new. Reordered (kinds_by c.args.defs.now) q new) =
    both_ok c.turned.result (λ (new : Query). new.sources ≡ c.in_ok-sources.sources) (λ (new : Query). AreTurned (turned c.width_of_all.result c.width_of_all-2.result c.width_of.result) q new) (λ (new : Query). Reordered (kinds_by c.args.defs.now) q new)
    c.turned.ensures.sources c.turned.ensures.turned
    (λ new s t. reordered (kinds_by c.args.defs.now) q new ss (take c.args.at ss) (take (c.args.from - c.args.at) (drop c.args.at ss)) (get_or ss c.args.from 0) c.width_of_all.result c.width_of_all-2.result c.width_of.result c.args.at c.args.from
    c.as_slice-sources.ensures c.requires.order c.requires.within refl (cut-between ss c.args.at c.args.from c.requires.order) refl c.width_of_all.ensures.width c.width_of_all-2.ensures.width c.width_of.ensures.width (s ∙ c.in_ok-sources.ensures) t) in
    record {
      reordered = found;
      bound = ok_then c.turned.result (λ (new : Query). Reordered (kinds_by c.args.defs.now) q new) (λ (new : Query). IsTrue (is_bound (kinds_by c.args.defs.now) new)) found (λ new r. turned-bound (kinds_by c.args.defs.now) q new r c.requires.bound);
    }
