-- The grammar of statements, a rule for each line. In a rule `mark m.Table` is the word TABLE, and `r ▸ q` and `q ◂ r` are one rule
-- and then the other, where r gives nothing.
use Rattle.std.specs.Prelude.{ℕ, Bool, true, false, not, ◌||◌, nat_le, List, [], ◌∷◌, ◌++◌, length, map, Option, Some, None}
use Rattle.std.specs.List.{list_any, flat_map}
use Rattle.hq_expr.specs.Uses.{counts_rows}
use Rattle.hq_expr.specs.declared.mark.Mark.{Mark as MarkType}
use Rattle.hq_expr.specs.declared.mark.Mark.TheVariants as m
use Rattle.hq_expr.specs.declared.tree.ColumnRef.{ColumnRef}
use Rattle.hq_expr.specs.declared.tree.Literal.{Literal}
use Rattle.hq_expr.specs.declared.tree.SqlExpr.{SqlExpr}
use Rattle.hq_value.specs.declared.table.Column.{Column}
use Rattle.hq_value.specs.declared.kind.Kind.{Kind}
use Rattle.hq_value.specs.declared.kind.Kind.TheVariants as kind
use Rattle.hq_sql.specs.Rules.{Rule, nothing, mark, one_of, name, number, reference, value, sum, condition, both, either, listed, repeated, only, ◌▸◌, ◌◂◌, made, word, optional, optional_list, whether}
use Rattle.hq_sql.specs.declared.tree.Statement.{Statement}
use Rattle.hq_sql.specs.declared.tree.Statement.TheVariants as statement
use Rattle.hq_sql.specs.declared.tree.CreateStatement.{CreateStatement}
use Rattle.hq_sql.specs.declared.tree.InsertStatement.{InsertStatement}
use Rattle.hq_sql.specs.declared.tree.InsertInput.{InsertInput}
use Rattle.hq_sql.specs.declared.tree.InsertInput.TheVariants as input
use Rattle.hq_sql.specs.declared.tree.SelectStatement.{SelectStatement}
use Rattle.hq_sql.specs.declared.tree.Item.{Item}
use Rattle.hq_sql.specs.declared.tree.SourceName.{SourceName}
use Rattle.hq_sql.specs.declared.tree.OrderKey.{OrderKey}
use Rattle.hq_sql.specs.declared.tree.OrderBy.{OrderBy}
use Rattle.hq_sql.specs.declared.tree.OrderBy.TheVariants as by
use Rattle.hq_sql.specs.declared.sources.Joined.{Joined}
use Rattle.hq_sql.specs.declared.sources.SourceList.{SourceList}
use Rattle.hq_sql.specs.declared.select.Selected.{Selected}
use Rattle.hq_sql.specs.declared.select.Grouped.{Grouped}
use Rattle.hq_sql.specs.declared.select.Ordered.{Ordered}

-- ---- lists

abbrev pub in_parentheses : {A : Type 0} → Rule A → Rule A
in_parentheses r = mark m.Open ▸ (r ◂ mark m.Close)

-- "(" name {"," name} ")"
unfoldable pub names : Rule (List (List ℕ))
names = in_parentheses (listed name)

-- ---- CREATE TABLE

-- kind = INT | INTEGER | BIGINT | BOOL | BOOLEAN | TEXT
abbrev pub kind_of : MarkType → Option Kind
kind_of m.Int = Some kind.Int
kind_of m.Integer = Some kind.Int
kind_of m.Bigint = Some kind.Int
kind_of m.Bool = Some kind.Bool
kind_of m.Boolean = Some kind.Bool
kind_of m.Text = Some kind.Text
kind_of _ = None

-- [NOT NULL | NULL]
unfoldable pub nullity : Rule Bool
nullity = either (mark m.Not ▸ word m.Null true) (either (word m.Null false) (nothing false))

abbrev pub column_of : List ℕ → Kind × Bool → Column
column_of called rest = record { name = called; kind = rest.0; not_null = rest.1 }

-- coldef = name kind [NOT NULL | NULL]
unfoldable pub column : Rule Column
column = both column_of name (both (λ kind not_null. (kind, not_null)) (one_of kind_of) nullity)

-- [DISTRIBUTED BY "(" name {"," name} ")" | DISTRIBUTED RANDOMLY]
unfoldable pub distribution : Rule (List (List ℕ))
distribution = optional_list (mark m.Distributed ▸ either (mark m.By ▸ names) (word m.Randomly []))

abbrev pub create_of : List ℕ → List Column × List (List ℕ) → CreateStatement
create_of table rest = record { name = table; columns = rest.0; keys = rest.1 }

-- create = CREATE TABLE name "(" coldef {"," coldef} ")" [distribution]
unfoldable pub create : Rule CreateStatement
create = mark m.Create ▸ (mark m.Table ▸ both create_of name
    (both (λ columns keys. (columns, keys)) (in_parentheses (listed column)) distribution))

-- ---- ALTER TABLE

-- [NULL]
unfoldable pub nullable : Rule Bool
nullable = either (word m.Null false) (nothing false)

-- name kind [NULL]
unfoldable pub new_column : Rule Column
new_column = both column_of name (both (λ kind not_null. (kind, not_null)) (one_of kind_of) nullable)

-- ADD [COLUMN] name kind [NULL]
unfoldable pub addition : Rule Column
addition = mark m.Add ▸ (either (mark m.Column) (nothing (tt {0})) ▸ new_column)

-- alter = ALTER TABLE name ADD [COLUMN] name kind [NULL]
unfoldable pub alter : Rule Statement
alter = mark m.Alter ▸ (mark m.Table ▸ both (λ table column. statement.Alter table column) name addition)

-- ---- SELECT

-- [[AS] name]
unfoldable pub alias : Rule (Option (List ℕ))
alias = either (made Some (mark m.As ▸ name)) (optional name)

-- item = sum [[AS] name]
unfoldable pub item : Rule Item
item = both (λ expr alias. record { expr = expr; alias = alias }) sum alias

-- "*" | item {"," item}
unfoldable pub items : Rule (List Item)
items = either (word m.Star []) (listed item)

-- source = name [[AS] name]
unfoldable pub source : Rule SourceName
source = both (λ table alias. record { table = table; alias = alias }) name alias

-- [INNER] JOIN
unfoldable pub join : Rule (Unit {0})
join = either (mark m.Inner ▸ mark m.Join) (mark m.Join)

-- "," source | [INNER] JOIN source ON cond
unfoldable pub more_source : Rule Joined
more_source = either (mark m.Comma ▸ made (λ source. record { source = source; on = None }) source)
    (join ▸ both (λ source on. record { source = source; on = Some on }) source (mark m.On ▸ condition false))

-- FROM source {"," source | [INNER] JOIN source ON cond}
unfoldable pub from : Rule SourceList
from = mark m.From ▸ both (λ first others. record { first = first; others = others }) source (repeated more_source)

abbrev pub given : {A : Type 0} → Option A → List A
given (Some x) = x ∷ []
given None = []

-- [WHERE cond]
unfoldable pub filter : Rule (Option SqlExpr)
filter = optional (mark m.Where ▸ condition false)

-- [GROUP BY ref {"," ref}]
unfoldable pub groups : Rule (List ColumnRef)
groups = optional_list (mark m.Group ▸ (mark m.By ▸ listed reference))

-- [HAVING hcond]
unfoldable pub having : Rule (Option SqlExpr)
having = optional (mark m.Having ▸ condition true)

-- name | digits
unfoldable pub order : Rule OrderBy
order = either (made by.Column name) (made by.Place number)

-- [ASC | DESC]
unfoldable pub direction : Rule Bool
direction = either (word m.Asc false) (whether m.Desc)

-- key = (name | digits) [ASC | DESC]
unfoldable pub key : Rule OrderKey
key = both (λ by descending. record { by = by; descending = descending }) order direction

-- [ORDER BY key {"," key}]
unfoldable pub keys : Rule (List OrderKey)
keys = optional_list (mark m.Order ▸ (mark m.By ▸ listed key))

-- digits
abbrev pub digits_below : Rule ℕ
digits_below = number

-- [LIMIT digits]
unfoldable pub limit : Rule (Option ℕ)
limit = optional (mark m.Limit ▸ number)

abbrev pub head_of : Bool → List Item × SourceList → Selected
head_of distinct rest = record { distinct = distinct; items = rest.0; from = rest.1 }

abbrev pub middle_of : Option SqlExpr → List ColumnRef × Option SqlExpr → Grouped
middle_of filter rest = record { filter = filter; groups = rest.0; having = rest.1 }

-- [DISTINCT]
unfoldable pub distinct : Rule Bool
distinct = whether m.Distinct

-- SELECT [DISTINCT] items from
unfoldable pub head : Rule Selected
head = mark m.Select ▸ both head_of distinct (both (λ items from. (items, from)) items from)

unfoldable pub middle : Rule Grouped
middle = both middle_of filter (both (λ groups having. (groups, having)) groups having)

unfoldable pub tail : Rule Ordered
tail = both (λ keys limit. record { keys = keys; limit = limit }) keys limit

abbrev pub sources_of : SourceList → List SourceName
sources_of from = from.first ∷ map (λ (joined : Joined). joined.source) from.others

-- the conditions of ON in order
abbrev pub on_of : List Joined → List SqlExpr
on_of others = flat_map (λ (joined : Joined). given joined.on) others

abbrev pub select_of : Selected → Grouped × Ordered → SelectStatement
select_of head (middle, end) = record {
  distinct = head.distinct;
  items = head.items;
  sources = sources_of head.from;
  conds = on_of head.from.others ++ given middle.filter;
  groups = middle.groups;
  having = middle.having;
  keys = end.keys;
  limit = end.limit;
}

abbrev pub item_counts : Item → Bool
item_counts item = counts_rows item.expr

-- over more than one source, no COUNT and no SUM whose argument has no reference
abbrev pub counts_one_source : SelectStatement → Bool
counts_one_source s = nat_le (length s.sources) 1 || not (list_any item_counts s.items || list_any counts_rows (given s.having))

-- select = SELECT [DISTINCT] ("*" | item {"," item}) FROM .. [WHERE cond] [GROUP BY ..] [HAVING hcond] [ORDER BY ..] [LIMIT digits]
unfoldable pub select : Rule SelectStatement
select = only counts_one_source (both select_of head (both (λ middle tail. (middle, tail)) middle tail))

-- ---- INSERT

-- tuple = "(" literal {"," literal} ")"
unfoldable pub tuple : Rule (List Literal)
tuple = in_parentheses (listed value)

-- ["(" name {"," name} ")"]
unfoldable pub insert_columns : Rule (List (List ℕ))
insert_columns = optional_list names

-- VALUES tuple {"," tuple} | select
unfoldable pub insert_input : Rule InsertInput
insert_input = either (made input.Tuples (mark m.Values ▸ listed tuple)) (made input.Select select)

abbrev pub insert_of : List ℕ → List (List ℕ) × InsertInput → InsertStatement
insert_of table rest = record { name = table; columns = rest.0; input = rest.1 }

-- insert = INSERT INTO name ["(" name {"," name} ")"] (VALUES tuple {"," tuple} | select)
unfoldable pub insert : Rule InsertStatement
insert = mark m.Insert ▸ (mark m.Into ▸ both insert_of name (both (λ columns input. (columns, input)) insert_columns insert_input))

-- ---- statements

-- [SNAPSHOT]
unfoldable pub snapshot : Rule Bool
snapshot = whether m.Snapshot

-- BEGIN [SNAPSHOT] | COMMIT | ROLLBACK
unfoldable pub transaction : Rule Statement
transaction = either (mark m.Begin ▸ made statement.Begin snapshot)
    (either (word m.Commit statement.Commit) (word m.Rollback statement.Rollback))

-- statement = create | alter | insert | select | BEGIN [SNAPSHOT] | COMMIT | ROLLBACK
unfoldable pub statement_rule : Rule Statement
statement_rule = either (made statement.Create create) (either alter (either (made statement.Insert insert) (either (made statement.Select select) transaction)))
