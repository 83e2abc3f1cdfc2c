use Rattle.std.proofs.Common.{◌≡◌, ◌∙◌, ◌++◌, ◌∷◌, [], ap, sym, subst, List}
use Rattle.hq_value.specs.declared.table.Column.{Column}
use Rattle.hq_value.specs.Tables.{Definition, IsDefinition, with_column}
use Rattle.hq_value.proofs.Widened.{IsDefinition-with_column}
use Rattle.hq_value.proofs.table.TableDef.extended.Goals as goal

pub new-requires : goal.new-requires
new-requires c =
    let columns : c.in_ok-columns.columns ≡ c.args.self.now.columns ++ c.args.column ∷ [] = c.in_ok-columns.ensures ∙ ap (λ (cs : List Column). cs ++ c.args.column ∷ []) (c.as_slice.ensures ∙ c.columns.ensures.columns) in
    let name : c.in_ok-name.name ≡ c.args.self.now.name = c.in_ok-name.ensures ∙ c.name.ensures in
    let keys : c.in_ok-keys.keys ≡ c.args.self.now.keys = c.in_ok-keys.ensures ∙ c.keys.ensures in
    let is : IsDefinition (with_column c.args.self.now c.args.column) = IsDefinition-with_column c.args.self.now c.args.column c.keeps_the_rules.ensures c.requires.room c.requires.new_name in
    subst IsDefinition (λ i. record { name = sym name i; columns = sym columns i; keys = sym keys i }) is
