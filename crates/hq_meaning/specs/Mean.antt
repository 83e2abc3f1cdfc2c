-- What a query means over the rows of its tables, in five steps.
--     mean q db       its rows in order, or Numeric where any evaluation faults
use Rattle.std.specs.Prelude.{ℕ, Bool, true, false, ◌||◌, List, [], ◌∷◌, map, if◌then◌else◌}
use Rattle.hq_value.specs.declared.value.Value.{Value}
use Rattle.hq_algebra.specs.declared.query.Query.{Query}
use Rattle.hq_meaning.specs.Rows.{Row, pairs, kept, listed, faults_in, firsts, ordered, limited}
use Rattle.hq_meaning.specs.Aggregates.{arguments_fault}
use Rattle.hq_meaning.specs.Groups.{grouped, some_leaves_64}

pub data Answer : Type 0 where
  Rows : (rows : List (List Value)) → Answer
  Numeric : Answer

-- the rows of each table, by its number
abbrev pub Database : Type 0
Database = ℕ → List (List Value)

-- 1. the product of the sources, where every condition is true
abbrev pub product : List (List Row) → List Row
product [] = [] ∷ []
product (rows ∷ rest) = pairs rows (product rest)

abbrev pub source_rows : Query → Database → List Row
source_rows q db = kept q.conds (product (map db q.sources))

-- 2. the groups, where HAVING is true
abbrev pub group_rows : Query → List Row → List Row
group_rows q rows = if q.grouped then grouped q.groups q.aggregates rows else rows

abbrev pub having_rows : Query → List Row → List Row
having_rows q rows = kept q.having (group_rows q rows)

-- 3. the select list
abbrev pub item_rows : Query → List Row → List Row
item_rows q rows = listed q.items (having_rows q rows)

-- 4. DISTINCT
abbrev pub distinct_rows : Query → List Row → List Row
distinct_rows q rows = if q.distinct then firsts rows else rows

-- 5. the order, and LIMIT
abbrev pub ordered_rows : Query → List Row → List Row
ordered_rows q rows = limited q.limit (ordered q.order rows)

-- the steps after the first one
abbrev pub finished : Query → List Row → List Row
finished q rows = ordered_rows q (distinct_rows q (item_rows q rows))

-- an aggregate's argument faults over some row, or its value over some group leaves 64 bits
abbrev pub group_faults : Query → List Row → Bool
group_faults q rows = if q.grouped then arguments_fault q.aggregates rows || some_leaves_64 q.groups q.aggregates rows else false

-- an evaluation in step 2 or 3 faults
abbrev pub faults : Query → List Row → Bool
faults q rows = group_faults q rows || faults_in q.having (group_rows q rows) || faults_in q.items (having_rows q rows)

abbrev pub answer_of : Bool → List Row → Answer
answer_of true rows = Numeric
answer_of false rows = Rows rows

-- what a query means: its rows in order, or Numeric where any evaluation faults
abbrev pub mean : Query → Database → Answer
mean q db = answer_of (faults q (source_rows q db)) (finished q (source_rows q db))
