-- The sources of a query joined on all nodes.
--     AreJoined defs q b     b is what the first source and further ones are built to, by steps that may be taken
use Rattle.std.specs.Prelude.{◌≡◌, ℕ, List, map, drop, length, slice_index, IsTrue}
use Rattle.hq_algebra.specs.declared.query.Query.{Query}
use Rattle.hq_laws.specs.Placed.{own_homes}
use Rattle.hq_laws.specs.Spread.{first_source, with_sources}
use Rattle.hq_whole.specs.Choices.{first_of, joinings, built_of, all_stand}
use Rattle.hq_whole.specs.Tables.{Defs, kinds_by, keys_by}
use Rattle.hq_whole.specs.declared.step.Step.{Step}
use Rattle.hq_whole.specs.declared.spreading.Built.{Built}

-- the first source of a query
abbrev pub first_table : Query → ℕ
first_table q = slice_index q.sources 0

pub record AreJoined (defs : Defs) (q : Query) (b : Built) : Type 0 where
  pub steps : List Step
  pub tables : map (λ (s : Step). s.table) steps ≡ drop 1 q.sources
  pub stand : IsTrue (all_stand (kinds_by defs) (keys_by defs) q.conds (length (kinds_by defs (first_table q))) (own_homes (length (kinds_by defs (first_table q))) (keys_by defs (first_table q))) steps)
  pub built : built_of b ≡ with_sources (kinds_by defs) (first_source (kinds_by defs) (first_of (kinds_by defs) q.conds (first_table q))) (joinings (kinds_by defs) q.conds (length (kinds_by defs (first_table q))) steps)
