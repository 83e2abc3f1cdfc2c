-- What CREATE TABLE makes of the tables.
use Rattle.std.proofs.Common.{◌≡◌, cond, List, [], ◌∷◌, ◌++◌, None, is_none, sym, ap, ◌∙◌}
use Rattle.hq_value.specs.Tables.{Definition}
use Rattle.hq_sql.specs.declared.tree.CreateStatement.{CreateStatement}
use Rattle.hq_bind.specs.Bound.{created}
use Rattle.hq_bind.specs.Tables.{create_fault, with_created}

pub created_behind : (tables new : List Definition) (def : Definition) (c : CreateStatement) → create_fault tables def.name ≡ None → new ≡ tables ++ def ∷ [] → def ≡ created c
    → new ≡ with_created tables c
created_behind tables new def c none made is =
    let none_of : create_fault tables c.name ≡ None = ap (λ (d : Definition). create_fault tables d.name) (sym is) ∙ none in
    made ∙ ap (λ (d : Definition). tables ++ d ∷ []) is ∙ ap (λ o. cond (is_none o) (tables ++ created c ∷ []) tables) (sym none_of)
