-- Rows that fit kinds, and rows that do not.
use Rattle.std.proofs.Common.{◌≡◌, true, false, List, [], ◌∷◌, pos, refl}
use Rattle.hq_value.specs.declared.value.Value.TheVariants as value
use Rattle.hq_value.specs.declared.kind.Kind.TheVariants as kind
use Rattle.hq_algebra.specs.declared.expr.Expr.{Expr}
use Rattle.hq_algebra.specs.declared.expr.Expr.TheVariants as expr
use Rattle.hq_algebra.specs.declared.expr.Expr.TheBlock.{hidden-the_row-Expr-0}
use Rattle.hq_algebra.specs.declared.op.Op.TheVariants as op
use Rattle.hq_algebra.specs.declared.op.Op.TheBlock.{hidden-the_row-Op-0}
use denote.Hole.Carrier.{hidden}
use Rattle.hq_meaning.specs.Rows.{Row}
use Rattle.hq_meaning.specs.Slices.{Here}
use Rattle.hq_fits.specs.Supplied.{AreFit, IsSupplied}
use Rattle.hq_fits.specs.Taken.{are_taken}

-- (1), (NULL)
ones : List Row
ones = (value.Int (pos 1) ∷ []) ∷ (value.Null ∷ []) ∷ []

ones-fit : AreFit (kind.Int ∷ []) ones
unfolding ones
ones-fit = ((tt, tt), ((tt, tt), tt))

ones-no_texts : AreFit (kind.Text ∷ []) ones → ⊥
unfolding ones
ones-no_texts h = h.0.0

ones-not_wider : AreFit (kind.Int ∷ kind.Int ∷ []) ones → ⊥
unfolding ones
ones-not_wider h = h.0.1

here : Here
here = record { tables = λ t. ones; sent = λ slice. [] }

scan-supplied : IsSupplied here (op.Distinct (op.Scan 0 (kind.Int ∷ [])))
unfolding here ones hidden-the_row-Op-0 hidden
scan-supplied = (tt, (((tt, tt), ((tt, tt), tt)), tt))

scan-not_supplied : IsSupplied here (op.Distinct (op.Scan 0 (kind.Bool ∷ []))) → ⊥
unfolding here ones hidden-the_row-Op-0 hidden
scan-not_supplied h = h.1.0.0.0

-- the items g and NULL go into an Int and a Bool, and not into a Bool and a Bool
items : List Expr
unfolding hidden-the_row-Expr-0 hidden
items = expr.Column 0 ∷ expr.Literal value.Null ∷ []

items-taken : are_taken (kind.Int ∷ []) items (kind.Int ∷ kind.Bool ∷ []) ≡ true
unfolding items hidden-the_row-Expr-0 hidden
items-taken = refl

items-not_taken : are_taken (kind.Int ∷ []) items (kind.Bool ∷ kind.Bool ∷ []) ≡ false
unfolding items hidden-the_row-Expr-0 hidden
items-not_taken = refl
