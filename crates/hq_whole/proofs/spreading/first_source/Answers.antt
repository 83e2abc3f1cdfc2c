use Rattle.std.proofs.Common.{List, length, arith, ap}
use Rattle.hq_value.specs.declared.kind.Kind.{Kind}
use Rattle.hq_whole.proofs.spreading.first_source.Goals as goal

pub returns-clause-built : goal.returns-clause-built
returns-clause-built c = λ i. record { slices = c.new.ensures i; root = c.in_ok-root.ensures i; kinds = c.in_ok-kinds.ensures i }

pub returns-clause-few : goal.returns-clause-few
returns-clause-few c = omega (arith, ap (λ (l : List Kind). length l) c.in_ok-kinds.ensures, c.few_columns.ensures)
