use Rattle.std.proofs.Common.{ℕ, nat_eq, ap, sym, arith}
use Rattle.hq_block.proofs.Flags.{flag_is}
use Rattle.hq_block.proofs.nulls.is_null.Goals as goal

pub returns : goal.returns
returns c = ap (λ (bit : ℕ). nat_eq bit 1) (sym (flag_is c.args.nulls.now c.args.column (λ i. omega (arith, c.type_inv.nulls i))))
