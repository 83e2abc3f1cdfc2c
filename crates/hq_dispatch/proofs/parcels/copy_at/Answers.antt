-- The list that stands there.
use Rattle.std.proofs.Common.{◌∙◌, sym, arith}
use Rattle.hq_dispatch.proofs.Parceling.{none_there, read_at}
use Rattle.hq_dispatch.proofs.parcels.copy_at.Goals as goal

pub returns-then-lists-place : goal.returns-then-lists-place
returns-then-lists-place c = c.new.ensures.items ∙ sym (none_there c.args.lists.now c.args.place (omega arith))

pub returns : goal.returns
returns c = c.in_ok-from_slice.ensures.items ∙ c.as_slice.ensures.value ∙ read_at c.args.lists.now c.args.place c.index-lists-place.result (omega arith) c.index-lists-place.is
