-- What a plan owes to its query.
--     Means defs q plan      it means what the query means, wherever rows lie
--     Scans defs q plan      it scans each source once, under exactly its tests
--     Guards defs q plan     and under exactly the members of the conditions that name it alone
--     Serves defs q plan     all of this, and it is well formed
use Rattle.std.specs.Prelude.{◌≡◌, ℕ, List, IsTrue}
use Rattle.hq_algebra.specs.declared.plan.Plan.{Plan}
use Rattle.hq_algebra.specs.declared.query.Query.{Query}
use Rattle.hq_algebra.specs.Plans.{is_well_formed}
use Rattle.hq_meaning.specs.Mean.{mean}
use Rattle.hq_meaning.specs.Plans.{Parts, plan_mean, all_rows}
use Rattle.hq_laws.specs.Words.{IsOwner}
use Rattle.hq_laws.specs.Guards.{with_guards, AreGuarded}
use Rattle.hq_laws.specs.Tests.{with_tests}
use Rattle.hq_laws.specs.Scanned.{AreTested}
use Rattle.hq_whole.specs.Tables.{Defs, kinds_by, KeepRules}

-- it means what the query means, over every split into buckets that keeps the tables' rules and for every owner
abbrev pub Means : Defs → Query → Plan → Type 0
Means defs q plan = (parts : Parts) (owner : List ℕ) → IsOwner owner → KeepRules defs parts → plan_mean plan parts owner ≡ mean q (all_rows parts owner)

-- its Scans are those of the query's sources, each directly under exactly the tests that the conditions hold on it
abbrev pub Scans : Defs → Query → Plan → Type 0
Scans defs q plan = AreTested plan.slices (with_tests (kinds_by defs) q.conds 0 q.sources)

-- moreover each of them directly under exactly the members of the conditions that name this source alone
abbrev pub Guards : Defs → Query → Plan → Type 0
Guards defs q plan = AreGuarded (kinds_by defs) plan.slices (with_guards (kinds_by defs) q.conds 0 q.sources)

pub record Serves (defs : Defs) (q : Query) (plan : Plan) : Type 0 where
  pub means : Means defs q plan
  pub form : IsTrue (is_well_formed plan)
  pub scans : Scans defs q plan
  pub guards : Guards defs q plan
