-- How the answers of calls speak of what an expression means.
--     Agrees answer o           the call answers what the evaluation comes to, unless memory ran out
--     value_of, seen_outcome    what a value that was looked at is
use Rattle.std.specs.Prelude.{◌≡◌, Option, Some, None}
use Rattle.hq_value.specs.declared.value.Value.{Value}
use Rattle.hq_value.specs.declared.value.Value.TheVariants as value
use Rattle.hq_algebra.specs.declared.evaluate.Evaluated.{Evaluated}
use Rattle.hq_algebra.specs.declared.evaluate.Evaluated.TheVariants as evaluated
use Rattle.hq_algebra.specs.declared.evaluate.Seen.{Seen}
use Rattle.hq_algebra.specs.declared.evaluate.Seen.TheVariants as seen
use Rattle.hq_algebra.specs.Outcome.{Outcome, Is, Fault}

-- the call answers what the evaluation comes to, unless memory ran out
abbrev pub Agrees : Evaluated → Outcome → Type 0
Agrees (evaluated.Is v) o = o ≡ Is v
Agrees evaluated.Fault o = o ≡ Fault
Agrees evaluated.NoMemory o = Unit {0}

-- it comes to a text
abbrev pub IsOfText : Outcome → Type 0
IsOfText (Is (value.Text bytes)) = Unit {0}
IsOfText _ = ⊥

abbrev pub value_of : Seen → Value
value_of (seen.Made v) = v
value_of (seen.Kept v) = v.now

abbrev pub seen_outcome : Option Seen → Outcome
seen_outcome (Some s) = Is (value_of s)
seen_outcome None = Fault
