use Rattle.std.proofs.Common.{ℕ, nat_eq, ap, sym, ◌∙◌, arith}
use Rattle.hq_block.proofs.Flags.{rest_is, ends_is}
use Rattle.hq_block.proofs.nulls.ends_after.Goals as goal

pub returns-then-columns-eq0 : goal.returns-then-columns-eq0
returns-then-columns-eq0 c =
    ap (λ (n : ℕ). nat_eq n 0) (c.if-columns-eq0.true ∙ sym (ends_is c.args.nulls.now c.args.columns c.requires (λ i. omega (arith, c.type_inv.nulls i)) c.if-columns-eq0.true))

pub returns-else-columns-eq0 : goal.returns-else-columns-eq0
returns-else-columns-eq0 c = ap (λ (n : ℕ). nat_eq n 0) (sym (rest_is c.args.nulls.now c.args.columns c.requires (λ i. omega (arith, c.type_inv.nulls i))))
