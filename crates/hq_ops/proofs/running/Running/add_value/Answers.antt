use Rattle.std.proofs.Common.{◌≡◌, ℤ, Some, ap, ◌∙◌, rules, arith, w64, FitsSigned, to_z, of_z}
use Rattle.std.proofs.lemmas.Int.{ints}
use Rattle.hq_meaning.specs.Aggregates.{number, sum_of}
use Rattle.hq_ops.specs.Runnings.{sum_in}
use Rattle.hq_ops.proofs.Steps.{ok-on}
use Rattle.hq_ops.proofs.Folds.{plus-some}
use Rattle.hq_ops.proofs.running.Running.add_value.Goals as goal

exact : (n : ℤ) → FitsSigned w64 n → to_z w64 (of_z w64 n) ≡ n
exact n fits = omega (arith, ints)

pub returns-in-Int : goal.returns-in-Int
returns-in-Int c =
    let fits : FitsSigned w64 c.in-Int.n = search rules in
    ok-on c.add_number.result c.add_number.ensures
    (λ e. plus-some (sum_in c.args.self.now) (sum_in c.add_number.new.self) c.args.value.now c.in-Int.n (ap number c.in-Int.is) (e ∙ ap (λ k. sum_of (sum_in c.args.self.now) (Some k)) (exact c.in-Int.n fits)))
