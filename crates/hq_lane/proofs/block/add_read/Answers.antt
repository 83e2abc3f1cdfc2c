-- The bytes that were there stay, and the others are those behind them.
use Rattle.std.proofs.Common.{rules, ◌≡◌, ◌∙◌, ◌+◌, ◌++◌, List, ℕ, length, take, vec_len, slice_range, refl, ap, arith}
use Rattle.std.proofs.lemmas.List.{take_at}
use Rattle.hq_lane.proofs.block.add_read.Goals as goal

pub returns-clause-front : goal.returns-clause-front
returns-clause-front g c =
    ap (λ (l : List ℕ). take (length c.args.bytes.now.items) l) c.in-Ok-extend_from_slice.ensures.items
    ∙ take_at c.args.bytes.now.items c.read.new.into (length c.args.bytes.now.items) refl

pub returns-clause-told : goal.returns-clause-told
returns-clause-told g c = λ t.
    c.in-Ok-extend_from_slice.ensures.items
    ∙ ap (λ (l : List ℕ). c.args.bytes.now.items ++ l) (c.in-Ok.ensures.bytes t)
