-- All tables are wanted.
use Rattle.std.proofs.Common.{◌∙◌, true, false, sym, ap, arith}
use Rattle.std.proofs.lemmas.List.{get_or-replicate}
use Rattle.hq_snap.specs.declared.scope.Scope.{Scope}
use Rattle.hq_snap.specs.Scopes.{is_in}
use Rattle.hq_catalog.specs.Copies.{name_at}
use Rattle.hq_catalog.proofs.copies.wanted_of.Goals as goal

pub returns-in-All : goal.returns-in-All
returns-in-All c = λ t h. get_or-replicate 64 t true false (omega (arith, h, c.requires)) ∙ ap (λ (s : Scope). is_in s (name_at c.args.names.now.keys t)) (sym c.in-All.is)
