-- The kinds are the same.
use Rattle.std.proofs.Common.{◌≡◌, ◌<◌, List, true, length, rules, subst}
use Rattle.hq_value.specs.declared.kind.Kind.{Kind}
use Rattle.hq_dispatch.specs.Arrivals.{AreStorable}
use Rattle.hq_dispatch.proofs.arrivals.join_as.Goals as goal

pub join-requires-clause-some : goal.join-requires-clause-some
join-requires-clause-some c =
    let on : c.same_kinds.result ≡ true = search rules in
    subst (λ (k : List Kind). 0 < length k) (c.same_kinds.ensures on) c.requires.some

pub join-requires-clause-storable : goal.join-requires-clause-storable
join-requires-clause-storable c =
    let on : c.same_kinds.result ≡ true = search rules in
    subst (λ (k : List Kind). AreStorable k c.args.from.items) (c.same_kinds.ensures on) c.requires.storable
