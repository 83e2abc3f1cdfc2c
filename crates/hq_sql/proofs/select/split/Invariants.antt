use Rattle.std.proofs.Common.{◌≡◌, ◌∷◌, map}
use Rattle.hq_sql.specs.Grammar.{on_of}
use Rattle.hq_sql.specs.declared.sources.Joined.{Joined}
use Rattle.hq_sql.proofs.select.split.Given as goal

abbrev pub invariant-loop-joined : goal.invariant-loop-joined
invariant-loop-joined l = record {
  sources : l.sources ≡ l.fn.from.first ∷ map (λ (joined : Joined). joined.source) l.yielded;
  ons : l.ons ≡ on_of l.yielded;
}
