use Rattle.std.proofs.Common.{◌∙◌, sym, ap, arith, ℕ}
use Rattle.rand_pcg.specs.Lcg.{Lcg, started, increment_of}
use Rattle.rand_pcg.specs.Pcg.{multiplier_64}
use Rattle.hq_load.proofs.Scripts.{draws_at-none}
use Rattle.hq_load.proofs.rows.Rows.new.Goals as goal

pub invariant_of-result : goal.invariant_of-result
invariant_of-result c =
    let begun : ℕ → Lcg = λ stream. started 64 multiplier_64 c.args.seed (increment_of 64 stream) in
    (c.new.ensures ∙ ap begun c.from.ensures ∙ sym (draws_at-none c.args.seed c.args.session), c.requires, omega arith)
