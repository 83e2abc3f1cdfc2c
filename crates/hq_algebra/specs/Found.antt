-- What a call that seeks kinds answers.
--     Gives result o        the call answers what there is, or Wrong where there is none, unless memory ran out
use Rattle.std.specs.Prelude.{◌≡◌, List, Option, Some, None, Result, Ok, Err}
use Rattle.hq_value.specs.declared.kind.Kind.{Kind}
use Rattle.hq_algebra.specs.declared.misfit.Misfit.{Misfit}
use Rattle.hq_algebra.specs.declared.misfit.Misfit.TheVariants as misfit

-- the call answers what there is, or Wrong where there is none, unless memory ran out
abbrev pub Gives : Result (List Kind) Misfit → Option (List Kind) → Type 0
Gives (Ok kinds) found = found ≡ Some kinds
Gives (Err misfit.Wrong) found = found ≡ None
Gives (Err misfit.NoMemory) found = Unit {0}
