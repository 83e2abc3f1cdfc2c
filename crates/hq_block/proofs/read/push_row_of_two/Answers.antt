use Rattle.std.proofs.Common.{Bor, List, ℕ, subst}
use Rattle.hq_value.specs.declared.kind.Kind.{Kind}
use Rattle.hq_block.specs.Reading.{Gives, byte_row_at, with_front, alone}
use Rattle.hq_block.proofs.Narrow.{pair}
use Rattle.hq_block.proofs.read.push_row_of_two.Goals as goal

pub returns-clause-read : goal.returns-clause-read
returns-clause-read c =
    subst (λ (kinds : List Kind). Gives (λ (rest : Bor (List ℕ)). (c.push_two.new.rows.items, rest.now)) c.push_two.result (with_front c.args.rows.now.items (alone (byte_row_at kinds c.args.bytes.now))))
    (pair c.args.kinds.now c.requires) c.push_two.ensures.read
