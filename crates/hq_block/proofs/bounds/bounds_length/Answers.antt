use Rattle.std.proofs.Common.{List}
use Rattle.std.proofs.lemmas.List.Elements.{recursion_from_All, All-from_recursion}
use Rattle.hq_value.specs.declared.value.Value.{Value}
use Rattle.hq_value.specs.declared.kind.Kind.TheVariants as kind
use Rattle.hq_value.specs.Kinds.{IsOfKind, Fits}
use Rattle.hq_block.specs.Bounds.{value_at}
use Rattle.std.proofs.Common.{get_or}
use Rattle.hq_block.proofs.Sizes.{rows-of_kind}
use Rattle.hq_block.proofs.bounds.bounds_length.Goals as goal

pub bound_length-total-requires : goal.bound_length-total-requires
bound_length-total-requires c =
    All-from_recursion (λ (row : List Value). IsOfKind (get_or c.args.kinds.now c.loop-place.place kind.Bool) (value_at row c.loop-place.place)) c.args.rows.now
    (rows-of_kind c.args.kinds.now c.args.rows.now c.loop-place.place kind.Bool (recursion_from_All (Fits c.args.kinds.now) c.args.rows.now c.requires.fit) c.loop-place-test.true)
