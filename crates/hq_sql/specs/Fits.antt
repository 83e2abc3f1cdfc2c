-- What every statement that is read keeps.
--     select_fits s        items and conditions have their shapes and at most 256 operators, there is a source, no more conditions
--                          than sources, and over several sources nothing counts rows
--     fits s               so it is of each SELECT, and an INSERT has a tuple and each tuple a literal
use Rattle.std.specs.Prelude.{Bool, true, false, ◌&&◌, nat_le, List, length}
use Rattle.std.specs.List.{list_all}
use Rattle.hq_expr.specs.Shape.{is_item, is_condition}
use Rattle.hq_sql.specs.Grammar.{given, counts_one_source}
use Rattle.hq_sql.specs.declared.tree.Statement.{Statement}
use Rattle.hq_sql.specs.declared.tree.Statement.TheVariants as statement
use Rattle.hq_sql.specs.declared.tree.InsertInput.{InsertInput}
use Rattle.hq_sql.specs.declared.tree.InsertInput.TheVariants as input
use Rattle.hq_sql.specs.declared.tree.SelectStatement.{SelectStatement}
use Rattle.hq_sql.specs.declared.tree.Item.{Item}

abbrev pub item_fits : Item → Bool
item_fits item = is_item item.expr

-- there is a source, and there are no more conditions than sources
abbrev pub sources_fit : SelectStatement → Bool
sources_fit s = nat_le 1 (length s.sources) && nat_le (length s.conds) (length s.sources)

abbrev pub select_fits : SelectStatement → Bool
select_fits s =
    list_all item_fits s.items
    && (list_all (is_condition false) s.conds
    && (list_all (is_condition true) (given s.having)
    && (sources_fit s && counts_one_source s)))

abbrev pub has_some : {A : Type 0} → List A → Bool
has_some xs = nat_le 1 (length xs)

abbrev pub input_fits : InsertInput → Bool
input_fits (input.Tuples tuples) = has_some tuples && list_all has_some tuples
input_fits (input.Select s) = select_fits s

abbrev pub fits : Statement → Bool
fits (statement.Create create) = has_some create.columns
fits (statement.Alter table column) = true
fits (statement.Insert insert) = input_fits insert.input
fits (statement.Select s) = select_fits s
fits (statement.Begin snapshot) = true
fits statement.Commit = true
fits statement.Rollback = true
