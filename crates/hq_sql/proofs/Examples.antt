-- The definition at work: lexemes that are statements, and some that are none.
use Rattle.std.proofs.Common.{◌≡◌, ℕ, true, false, List, [], ◌∷◌, codes, Option, Some, None, pos, negsuc, refl}
use Rattle.hq_expr.specs.State.{State}
use Rattle.hq_expr.specs.Reading as expr
use Rattle.hq_expr.specs.Reader as r
use Rattle.hq_expr.specs.Parts as parts
use Rattle.hq_expr.specs.Lists.{list_from}
use Rattle.hq_expr.specs.declared.lexeme.Lexeme.{Lexeme}
use Rattle.hq_expr.specs.declared.lexeme.Lexeme.TheVariants.{Mark, Name, Digits, Text}
use Rattle.hq_expr.specs.declared.mark.Mark.TheVariants as m
use Rattle.hq_expr.specs.declared.tree.AggregateKind.TheVariants.{Sum}
use Rattle.hq_value.specs.declared.operator.CompareKind.TheVariants.{Equal, Less}
use Rattle.hq_expr.specs.declared.tree.Literal.TheVariants as l
use Rattle.hq_expr.specs.declared.tree.SqlExpr.{SqlExpr}
use Rattle.hq_expr.specs.declared.tree.SqlExpr.TheVariants as e
use Rattle.hq_value.specs.declared.kind.Kind.TheVariants as kind
use Rattle.hq_expr.proofs.Complete.{st}
use Rattle.hq_sql.specs.Rules.{both}
use Rattle.hq_sql.specs.Reading.{read, repeat_from}
use Rattle.hq_sql.specs.Grammar as g
use Rattle.hq_sql.specs.declared.tree.Statement.{Statement}
use Rattle.hq_sql.specs.declared.tree.Statement.TheVariants as statement
use Rattle.hq_sql.specs.declared.tree.InsertInput.TheVariants as input
use Rattle.hq_sql.specs.declared.tree.SelectStatement.{SelectStatement}
use Rattle.hq_sql.specs.declared.tree.OrderBy.TheVariants as by
use Rattle.hq_sql.proofs.Statements.{start}

abbrev alone : Statement → List Lexeme → Option Statement
alone s [] = Some s
alone s (_ ∷ _) = None

-- what is read, where nothing is left behind it
abbrev ended : Option (Statement × State) → Option Statement
ended (Some p) = alone p.0 p.1.rest
ended None = None

abbrev statement_of : List Lexeme → Option Statement
statement_of ls = ended (read g.statement_rule (start ls))

-- a SELECT, before it is told whether it counts rows of several sources
abbrev select_in : List Lexeme → Option (SelectStatement × State)
select_in ls = read (both g.select_of g.head (both (λ middle tail. (middle, tail)) g.middle g.tail)) (start ls)

abbrev a : List ℕ
a = codes "a"

abbrev b : List ℕ
b = codes "b"

abbrev t : List ℕ
t = codes "t"

abbrev u : List ℕ
u = codes "u"

abbrev column : List ℕ → SqlExpr
column name = e.Column (record { source = None; column = name })

abbrev column_in : List ℕ → List ℕ → SqlExpr
column_in source name = e.Column (record { source = Some source; column = name })

abbrev int : ℕ → SqlExpr
int n = e.Literal (l.Int (pos n))

-- `CREATE TABLE t (a INT NOT NULL, b TEXT) DISTRIBUTED BY (b)`
create_keys : statement_of (Mark m.Create ∷ Mark m.Table ∷ Name t ∷ Mark m.Open ∷ Name a ∷ Mark m.Int ∷ Mark m.Not ∷ Mark m.Null ∷ Mark m.Comma ∷ Name b ∷ Mark m.Text ∷ Mark m.Close ∷ Mark m.Distributed ∷ Mark m.By ∷ Mark m.Open ∷ Name b ∷ Mark m.Close ∷ [])
    ≡ Some (statement.Create (record {
      name = t;
      columns = record { name = a; kind = kind.Int; not_null = true } ∷ record { name = b; kind = kind.Text; not_null = false } ∷ [];
      keys = b ∷ [];
    }))
unfolding g.statement_rule g.create g.alter g.addition g.new_column g.nullable g.insert g.select g.transaction g.snapshot g.column g.nullity g.distribution g.names g.insert_columns g.insert_input g.tuple g.head g.middle g.tail g.distinct g.items g.item g.alias g.from g.source g.more_source g.join g.filter g.groups g.having g.keys g.key g.order g.direction g.limit list_from repeat_from parts.item_sum parts.condition parts.value expr.many expr.chain expr.factor expr.neg expr.test_at expr.operand expr.aggregate expr.literal expr.negated expr.reference r.expect r.name r.digits r.text
create_keys = refl

-- `INSERT INTO t (a, b) VALUES (-1, 'b'), (NULL, TRUE)`
insert_columns : statement_of (Mark m.Insert ∷ Mark m.Into ∷ Name t ∷ Mark m.Open ∷ Name a ∷ Mark m.Comma ∷ Name b ∷ Mark m.Close ∷ Mark m.Values ∷ Mark m.Open ∷ Mark m.Minus ∷ Digits 1 ∷ Mark m.Comma ∷ Text (codes "b") ∷ Mark m.Close ∷ Mark m.Comma ∷ Mark m.Open ∷ Mark m.Null ∷ Mark m.Comma ∷ Mark m.True ∷ Mark m.Close ∷ [])
    ≡ Some (statement.Insert (record {
      name = t;
      columns = a ∷ b ∷ [];
      input = input.Tuples ((l.Int (negsuc 0) ∷ l.Text b ∷ []) ∷ (l.Null ∷ l.Bool true ∷ []) ∷ []);
    }))
unfolding g.statement_rule g.create g.alter g.addition g.new_column g.nullable g.insert g.select g.transaction g.snapshot g.column g.nullity g.distribution g.names g.insert_columns g.insert_input g.tuple g.head g.middle g.tail g.distinct g.items g.item g.alias g.from g.source g.more_source g.join g.filter g.groups g.having g.keys g.key g.order g.direction g.limit list_from repeat_from parts.item_sum parts.condition parts.value expr.many expr.chain expr.factor expr.neg expr.test_at expr.operand expr.aggregate expr.literal expr.negated expr.reference r.expect r.name r.digits r.text
insert_columns = refl

-- `SELECT DISTINCT a, SUM(b) AS u FROM t JOIN u ON t.a = u.a WHERE b < 1 GROUP BY a HAVING SUM(b) = 2 ORDER BY a DESC, 2 LIMIT 3`
-- what is left of the limit is that of HAVING, the last condition
select_all_clauses : select_in (Mark m.Select ∷ Mark m.Distinct ∷ Name a ∷ Mark m.Comma ∷ Mark m.Sum ∷ Mark m.Open ∷ Name b ∷ Mark m.Close ∷ Mark m.As ∷ Name u ∷ Mark m.From ∷ Name t ∷ Mark m.Join ∷ Name u ∷ Mark m.On ∷ Name t ∷ Mark m.Dot ∷ Name a ∷ Mark m.Equal ∷ Name u ∷ Mark m.Dot ∷ Name a ∷ Mark m.Where ∷ Name b ∷ Mark m.Less ∷ Digits 1 ∷ Mark m.Group ∷ Mark m.By ∷ Name a ∷ Mark m.Having ∷ Mark m.Sum ∷ Mark m.Open ∷ Name b ∷ Mark m.Close ∷ Mark m.Equal ∷ Digits 2 ∷ Mark m.Order ∷ Mark m.By ∷ Name a ∷ Mark m.Desc ∷ Mark m.Comma ∷ Digits 2 ∷ Mark m.Limit ∷ Digits 3 ∷ [])
    ≡ Some (
      record {
        distinct = true;
        items = record { expr = column a; alias = None } ∷ record { expr = e.Aggregate Sum (column b); alias = Some u } ∷ [];
        sources = record { table = t; alias = None } ∷ record { table = u; alias = None } ∷ [];
        conds = e.Compare Equal (column_in t a) (column_in u a) ∷ e.Compare Less (column b) (int 1) ∷ [];
        groups = record { source = None; column = a } ∷ [];
        having = Some (e.Compare Equal (e.Aggregate Sum (column b)) (int 2));
        keys = record { by = by.Column a; descending = true } ∷ record { by = by.Place 2; descending = false } ∷ [];
        limit = Some 3;
      },
      st 254 [],
    )
unfolding g.statement_rule g.create g.alter g.addition g.new_column g.nullable g.insert g.select g.transaction g.snapshot g.column g.nullity g.distribution g.names g.insert_columns g.insert_input g.tuple g.head g.middle g.tail g.distinct g.items g.item g.alias g.from g.source g.more_source g.join g.filter g.groups g.having g.keys g.key g.order g.direction g.limit list_from repeat_from parts.item_sum parts.condition parts.value expr.many expr.chain expr.factor expr.neg expr.test_at expr.operand expr.aggregate expr.literal expr.negated expr.reference r.expect r.name r.digits r.text
select_all_clauses = refl

-- `SELECT COUNT(*) FROM t`
count_of_one : statement_of (Mark m.Select ∷ Mark m.Count ∷ Mark m.Open ∷ Mark m.Star ∷ Mark m.Close ∷ Mark m.From ∷ Name t ∷ [])
    ≡ Some (statement.Select (record {
      distinct = false;
      items = record { expr = e.CountAll; alias = None } ∷ [];
      sources = record { table = t; alias = None } ∷ [];
      conds = [];
      groups = [];
      having = None;
      keys = [];
      limit = None;
    }))
unfolding g.statement_rule g.create g.alter g.addition g.new_column g.nullable g.insert g.select g.transaction g.snapshot g.column g.nullity g.distribution g.names g.insert_columns g.insert_input g.tuple g.head g.middle g.tail g.distinct g.items g.item g.alias g.from g.source g.more_source g.join g.filter g.groups g.having g.keys g.key g.order g.direction g.limit list_from repeat_from parts.item_sum parts.condition parts.value expr.many expr.chain expr.factor expr.neg expr.test_at expr.operand expr.aggregate expr.literal expr.negated expr.reference r.expect r.name r.digits r.text
count_of_one = refl

-- `BEGIN SNAPSHOT`
begin_snapshot : statement_of (Mark m.Begin ∷ Mark m.Snapshot ∷ [])
    ≡ Some (statement.Begin true)
unfolding g.statement_rule g.create g.alter g.addition g.new_column g.nullable g.insert g.select g.transaction g.snapshot g.column g.nullity g.distribution g.names g.insert_columns g.insert_input g.tuple g.head g.middle g.tail g.distinct g.items g.item g.alias g.from g.source g.more_source g.join g.filter g.groups g.having g.keys g.key g.order g.direction g.limit list_from repeat_from parts.item_sum parts.condition parts.value expr.many expr.chain expr.factor expr.neg expr.test_at expr.operand expr.aggregate expr.literal expr.negated expr.reference r.expect r.name r.digits r.text
begin_snapshot = refl

-- `SELECT * FROM t GROUP BY a WHERE a` is none: WHERE comes first
where_behind_group : statement_of (Mark m.Select ∷ Mark m.Star ∷ Mark m.From ∷ Name t ∷ Mark m.Group ∷ Mark m.By ∷ Name a ∷ Mark m.Where ∷ Name a ∷ [])
    ≡ None
unfolding g.statement_rule g.create g.alter g.addition g.new_column g.nullable g.insert g.select g.transaction g.snapshot g.column g.nullity g.distribution g.names g.insert_columns g.insert_input g.tuple g.head g.middle g.tail g.distinct g.items g.item g.alias g.from g.source g.more_source g.join g.filter g.groups g.having g.keys g.key g.order g.direction g.limit list_from repeat_from parts.item_sum parts.condition parts.value expr.many expr.chain expr.factor expr.neg expr.test_at expr.operand expr.aggregate expr.literal expr.negated expr.reference r.expect r.name r.digits r.text
where_behind_group = refl

-- `SELECT * FROM t LIMIT 9223372036854775808` neither
limit_too_high : statement_of (Mark m.Select ∷ Mark m.Star ∷ Mark m.From ∷ Name t ∷ Mark m.Limit ∷ Digits 9223372036854775808 ∷ [])
    ≡ None
unfolding g.statement_rule g.create g.alter g.addition g.new_column g.nullable g.insert g.select g.transaction g.snapshot g.column g.nullity g.distribution g.names g.insert_columns g.insert_input g.tuple g.head g.middle g.tail g.distinct g.items g.item g.alias g.from g.source g.more_source g.join g.filter g.groups g.having g.keys g.key g.order g.direction g.limit list_from repeat_from parts.item_sum parts.condition parts.value expr.many expr.chain expr.factor expr.neg expr.test_at expr.operand expr.aggregate expr.literal expr.negated expr.reference r.expect r.name r.digits r.text
limit_too_high = refl

-- `COMMIT COMMIT` neither
two_statements : statement_of (Mark m.Commit ∷ Mark m.Commit ∷ [])
    ≡ None
unfolding g.statement_rule g.create g.alter g.addition g.new_column g.nullable g.insert g.select g.transaction g.snapshot g.column g.nullity g.distribution g.names g.insert_columns g.insert_input g.tuple g.head g.middle g.tail g.distinct g.items g.item g.alias g.from g.source g.more_source g.join g.filter g.groups g.having g.keys g.key g.order g.direction g.limit list_from repeat_from parts.item_sum parts.condition parts.value expr.many expr.chain expr.factor expr.neg expr.test_at expr.operand expr.aggregate expr.literal expr.negated expr.reference r.expect r.name r.digits r.text
two_statements = refl

-- `ALTER TABLE t ADD COLUMN b TEXT NULL`, and without COLUMN and NULL
alter_adds : statement_of (Mark m.Alter ∷ Mark m.Table ∷ Name t ∷ Mark m.Add ∷ Mark m.Column ∷ Name b ∷ Mark m.Text ∷ Mark m.Null ∷ [])
    ≡ Some (statement.Alter t (record { name = b; kind = kind.Text; not_null = false }))
unfolding g.statement_rule g.create g.alter g.addition g.new_column g.nullable g.insert g.select g.transaction r.expect r.name
alter_adds = refl

alter_adds_bare : statement_of (Mark m.Alter ∷ Mark m.Table ∷ Name t ∷ Mark m.Add ∷ Name b ∷ Mark m.Int ∷ [])
    ≡ Some (statement.Alter t (record { name = b; kind = kind.Int; not_null = false }))
unfolding g.statement_rule g.create g.alter g.addition g.new_column g.nullable g.insert g.select g.transaction r.expect r.name
alter_adds_bare = refl

-- `ALTER TABLE t ADD b INT NOT NULL` is none
alter_not_null : statement_of (Mark m.Alter ∷ Mark m.Table ∷ Name t ∷ Mark m.Add ∷ Name b ∷ Mark m.Int ∷ Mark m.Not ∷ Mark m.Null ∷ []) ≡ None
unfolding g.statement_rule g.create g.alter g.addition g.new_column g.nullable g.insert g.select g.transaction r.expect r.name
alter_not_null = refl
