-- What is taken of tables, and the tables of this alone.
--     IsPart whole own columns kinds keys     the columns that are taken of a table with these kinds and keys have those
--                                             kinds, and lie by those keys, or by none that is known
--     are_some columns                        they are as many as a table may have
--     AreParts defs ts found                  so it is with the columns that are taken of each source, whose table is
--                                             found by the source's number
--     IsNarrowed defs found q r ts            r is the query q over the columns that are taken of its sources
use Rattle.std.specs.Prelude.{◌≡◌, ◌≤◌, ◌⊎◌, ℕ, Bool, ◌&&◌, nat_le, List, [], map, length, Some, None, IsTrue}
use Rattle.std.specs.List.{list_all}
use Rattle.hq_value.specs.declared.kind.Kind.{Kind}
use Rattle.hq_algebra.specs.declared.query.Query.{Query}
use Rattle.hq_algebra.specs.Operators.{keys_kinds}
use Rattle.hq_laws.specs.Turned.{AreTurned, columns_in}
use Rattle.hq_narrow.specs.declared.taken.Taken.{Taken}
use Rattle.hq_narrow.specs.Narrow.{taken_at, place_from, places}
use Rattle.hq_whole.specs.Tables.{Defs, def_of, kinds_by, keys_by}

-- the columns that are taken of a table with these kinds and keys have those kinds; those keys are the table's, by their
-- places among these columns, or there are none
pub record IsPart (whole : List Kind) (own : List ℕ) (columns : List ℕ) (kinds : List Kind) (keys : List ℕ) : Type 0 where
  pub kinds_are : keys_kinds whole columns ≡ Some kinds
  pub keys_are : (keys ≡ []) ⊎ (map (place_from columns (length whole)) keys ≡ own)

-- a table has 1 to 64 columns
abbrev pub are_some : Taken → Bool
are_some t = nat_le 1 (length t.columns) && nat_le (length t.columns) 64

-- the columns that are taken of each source are 1 to 64 and make the table that is found by the source's number
pub record AreParts (defs : Defs) (ts : List Taken) (found : Defs) : Type 0 where
  pub each : (v : ℕ) → IsPart (kinds_by defs (taken_at ts v).table) (keys_by defs (taken_at ts v).table) (taken_at ts v).columns (kinds_by found v) (keys_by found v)
  pub no_more : (v : ℕ) → length ts ≤ v → def_of found v ≡ None
  pub some : IsTrue (list_all are_some ts)

-- r is the query q over the columns that are taken of its sources, which are numbered as they stand in q
pub record IsNarrowed (defs found : Defs) (q r : Query) (ts : List Taken) : Type 0 where
  pub parts : AreParts defs ts found
  pub tables : q.sources ≡ map (λ (t : Taken). t.table) ts
  pub sources : map (taken_at ts) r.sources ≡ ts
  pub turned : AreTurned (place_from (places (kinds_by defs) ts) (columns_in (kinds_by defs) q.sources)) r q
