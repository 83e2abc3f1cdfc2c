use Rattle.std.proofs.Common.{◌∙◌, sym, ap}
use Rattle.std.proofs.lemmas.List.Elements.{recursion_from_All}
use Rattle.hq_value.specs.declared.value.Value.{Value}
use Rattle.std.proofs.Common.{List}
use Rattle.hq_value.specs.Kinds.{IsOfKind}
use Rattle.hq_block.specs.Bounds.{bound_size, value_at}
use Rattle.hq_block.proofs.Sizes.{length-column}
use Rattle.hq_block.proofs.bounds.bound_length.Goals as goal

pub returns-clause-length : goal.returns-clause-length
returns-clause-length c =
    c.bound_size.ensures.size ∙ ap (bound_size c.args.kind) c.has_value.ensures
    ∙ sym (length-column c.args.kind c.args.place c.args.rows.now (recursion_from_All (λ (row : List Value). IsOfKind c.args.kind (value_at row c.args.place)) c.args.rows.now c.requires))
