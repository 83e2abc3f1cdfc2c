-- Sources of which only some columns are taken.
--     taken_at ts v               the source of number v, which stands at place v of the list
--     place_from columns n i      the place of the column that is taken as the i-th, where there are n
--     taken_row columns row       their values
--     taken_tables ts db          the rows of each source, by its number
--     taken_parts ts parts        so by bucket
--     places kinds ts             the places of the columns that are taken, in the rows of all sources
--     are_there kinds ts          they are columns of their tables
--     AreOwn kinds own taken ts   the keys of each source are its table's own, at their places among its columns, or none
use Rattle.std.specs.Prelude.{◌≡◌, ◌⊎◌, ℕ, zero, suc, ◌+◌, Bool, List, [], ◌∷◌, ◌++◌, map, length, slice_index_or}
use Rattle.std.specs.List.{list_all}
use Rattle.hq_value.specs.declared.kind.Kind.{Kind}
use Rattle.hq_value.specs.Tables.{all_below}
use Rattle.hq_algebra.specs.Eval.{column}
use Rattle.hq_meaning.specs.Rows.{Row}
use Rattle.hq_meaning.specs.Mean.{Database}
use Rattle.hq_meaning.specs.Plans.{Parts}
use Rattle.hq_laws.specs.Placed.{further}
use Rattle.hq_narrow.specs.declared.taken.Taken.{Taken}

-- no table, and none of its columns
abbrev pub nothing : Taken
nothing = record { table = 0; columns = [] }

-- the source that stands at this place of the list
abbrev pub taken_at : List Taken → ℕ → Taken
taken_at ts v = slice_index_or ts v nothing

-- the place of the column that is taken as the i-th, where there are n; the first place behind them where none is
abbrev pub place_from : List ℕ → ℕ → ℕ → ℕ
place_from [] n i = n
place_from (c ∷ columns) n zero = c
place_from (c ∷ columns) n (suc i) = place_from columns n i

-- the values of the columns that are taken
abbrev pub taken_row : List ℕ → Row → Row
taken_row columns row = map (column row) columns

-- the rows of a source
abbrev pub taken_rows : (ℕ → List Row) → Taken → List Row
taken_rows rows t = map (taken_row t.columns) (rows t.table)

abbrev pub taken_tables : List Taken → Database → Database
taken_tables ts db v = taken_rows db (taken_at ts v)

abbrev pub taken_parts : List Taken → Parts → Parts
taken_parts ts parts v b = map (taken_row (taken_at ts v).columns) (parts (taken_at ts v).table b)

-- where these columns stand in the rows of all sources
abbrev pub places : (ℕ → List Kind) → List Taken → List ℕ
places kinds [] = []
places kinds (t ∷ ts) = t.columns ++ further (length (kinds t.table)) (places kinds ts)

-- they are columns of their tables
abbrev pub are_there : (ℕ → List Kind) → List Taken → Bool
are_there kinds ts = list_all (λ (t : Taken). all_below (length (kinds t.table)) t.columns) ts

-- the keys by which a source lies are its table's own, by their places among the columns that are taken; or it has none
abbrev pub AreOwn : (ℕ → List Kind) → (ℕ → List ℕ) → (ℕ → List ℕ) → List Taken → Type 0
AreOwn kinds own taken ts = (v : ℕ) → (taken v ≡ []) ⊎ (map (place_from (taken_at ts v).columns (length (kinds (taken_at ts v).table))) (taken v) ≡ own (taken_at ts v).table)
