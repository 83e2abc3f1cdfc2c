use Rattle.std.proofs.Common.{◌≡◌, ℕ, Some, None, position, ap, sym, ◌∙◌, inr}
use Rattle.std.specs.Prelude.{List}
use Rattle.std.proofs.lemmas.Result.{err_from_is_err_and}
use Rattle.hq_bind.specs.Tables.{is_named, of_column}
use Rattle.hq_schema.proofs.Altered.{added_there, fault_there, refused_there, no_table_there, within}
use Rattle.hq_schema.proofs.alter.add_column.Goals as goal

pub returns-in-None-clause-refused : goal.returns-in-None-clause-refused
returns-in-None-clause-refused c =
    let items : c.deref.result.now ≡ c.args.tables.now.items = (let v = c.deref.ensures.value in cc) in
    inr (no_table_there c.args.name.now c.args.column.now c.args.tables.now.items (sym (c.in-None.ensures ∙ ap (position (is_named c.args.name.now)) items)))

pub returns-in_err-table-in-Some-clause-refused : goal.returns-in_err-table-in-Some-clause-refused
returns-in_err-table-in-Some-clause-refused c =
    let items : c.deref.result.now ≡ c.args.tables.now.items = (let v = c.deref.ensures.value in cc) in
    let pos : position (is_named c.args.name.now) c.args.tables.now.items ≡ Some c.in-Some.place = sym (c.in-Some.ensures ∙ ap (position (is_named c.args.name.now)) items) in
    let p = err_from_is_err_and c.from_residual.result c.from_residual.ensures.1 in
    rw (p.1, p.2)
    (refused_there c.args.name.now c.args.column.now c.args.tables.now.items c.in-Some.place c.index.result.now c.in_err-table-in-Some.field-0.0 pos c.index.ensures c.in_err-table-in-Some.ensures.refused)

pub returns-in_ok-table-in-Some-clause-added : goal.returns-in_ok-table-in-Some-clause-added
returns-in_ok-table-in-Some-clause-added c =
    let items : c.deref.result.now ≡ c.args.tables.now.items = (let v = c.deref.ensures.value in cc) in
    let pos : position (is_named c.args.name.now) c.args.tables.now.items ≡ Some c.in-Some.place = sym (c.in-Some.ensures ∙ ap (position (is_named c.args.name.now)) items) in
    added_there c.args.name.now c.args.column.now c.args.tables.now.items c.put.new.tables.items c.in-Some.place c.index.result.now c.in_ok-table-in-Some.table pos c.index.ensures
    c.in_ok-table-in-Some.ensures.allowed c.in_ok-table-in-Some.ensures.ok c.put.ensures

pub returns-in_ok-table-in-Some-clause-allowed : goal.returns-in_ok-table-in-Some-clause-allowed
returns-in_ok-table-in-Some-clause-allowed c =
    let items : c.deref.result.now ≡ c.args.tables.now.items = (let v = c.deref.ensures.value in cc) in
    let pos : position (is_named c.args.name.now) c.args.tables.now.items ≡ Some c.in-Some.place = sym (c.in-Some.ensures ∙ ap (position (is_named c.args.name.now)) items) in
    fault_there c.args.name.now c.args.column.now c.args.tables.now.items c.in-Some.place c.index.result.now pos c.index.ensures ∙ ap of_column c.in_ok-table-in-Some.ensures.allowed
