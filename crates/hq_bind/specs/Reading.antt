-- A SELECT, read over its tables.
--     read_columns defs s      the columns of its sources
--     read_items cs s          its select list, in which * is written out
--     read_groups cs s         the places of its GROUP BY columns, each once
--     is_grouped ..            it has GROUP BY, HAVING or an aggregate
use Rattle.std.specs.Prelude.{ℕ, Bool, true, false, not, ◌&&◌, ◌||◌, ◌==◌, List, [], ◌∷◌, ◌++◌, length, map, fold, take, Option, Some, None, is_some, if◌then◌else◌}
use Rattle.std.specs.List.{list_any}
use Rattle.hq_expr.specs.declared.tree.ColumnRef.{ColumnRef}
use Rattle.hq_expr.specs.declared.tree.SqlExpr.{SqlExpr}
use Rattle.hq_expr.specs.declared.tree.SqlExpr.TheVariants as e
use Rattle.hq_sql.specs.Grammar.{given}
use Rattle.hq_sql.specs.declared.tree.Item.{Item}
use Rattle.hq_sql.specs.declared.tree.SelectStatement.{SelectStatement}
use Rattle.hq_bind.specs.Scope.{Defs, scope, place_of}
use Rattle.hq_bind.specs.Findings.{findings}
use Rattle.hq_bind.specs.declared.scope.SourceColumn.{SourceColumn}
use Rattle.hq_bind.specs.declared.findings.Findings.{Findings}

-- a query of more than 8 sources is refused before its columns count
abbrev pub read_columns : Defs → SelectStatement → List SourceColumn
read_columns defs s = scope defs (take 8 s.sources)

abbrev pub item_of : SourceColumn → Item
item_of c = record { expr = e.Column (record { source = Some c.source; column = c.name }); alias = None }

abbrev pub is_empty : {A : Type 0} → List A → Bool
is_empty xs = length xs == 0

-- * stands for all columns of all sources in order
abbrev pub written_out : List SourceColumn → SelectStatement → List Item
written_out cs s = if is_empty s.items then map item_of cs else []

-- the select list, where this is what * is written out to
abbrev pub items_read : List Item → SelectStatement → List Item
items_read written s = if is_empty s.items then written else s.items

-- the select list, in which * is written out
abbrev pub read_items : List SourceColumn → SelectStatement → List Item
read_items cs s = items_read (written_out cs s) s

abbrev pub item_exprs : List Item → List SqlExpr
item_exprs items = map (λ (i : Item). i.expr) items

abbrev pub is_there : List ℕ → ℕ → Bool
is_there places place = list_any (λ p. p == place) places

-- a place behind the others, unless it is there
abbrev pub with_place : List ℕ → Option ℕ → List ℕ
with_place places None = places
with_place places (Some place) = if is_there places place then places else places ++ place ∷ []

-- the places of columns, each once
abbrev pub group_places : List SourceColumn → List ColumnRef → List ℕ
group_places cs rs = fold (λ places r. with_place places (place_of cs r)) [] rs

-- the places of the GROUP BY columns
abbrev pub read_groups : List SourceColumn → SelectStatement → List ℕ
read_groups cs s = group_places cs s.groups

-- what is found in expressions
abbrev pub all_findings : List SourceColumn → List ℕ → List SqlExpr → List Findings
all_findings cs groups es = map (findings cs groups) es

abbrev pub item_findings : List SourceColumn → List ℕ → List Item → List Findings
item_findings cs groups items = map (λ (i : Item). findings cs groups i.expr) items

abbrev pub has_aggregate : Findings → Bool
has_aggregate f = f.aggregate

abbrev pub is_grouped : List Findings → SelectStatement → Bool
is_grouped items s = not (is_empty s.groups) || (is_some s.having || list_any has_aggregate items)
