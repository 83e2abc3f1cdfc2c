-- How operators end.
--     Gives end rows            the rows, unless there was a fault or no memory
--     IsNumericAt end faults    Numeric comes where an evaluation faults, and nowhere else
--     IsGiven end               rows are given, whatever memory there is
--     StopsAt result faults     the same of a step of an operator
--     end_of stop, ended result    an end without rows, and that of a step
use Rattle.std.specs.Prelude.{◌≡◌, Bool, true, false, List, Result, Ok, Err}
use Rattle.std.specs.Global.{Vec}
use Rattle.hq_value.specs.declared.value.Value.{Value}
use Rattle.hq_ops.specs.declared.end.OpEnd.{OpEnd}
use Rattle.hq_ops.specs.declared.end.OpEnd.TheVariants as end
use Rattle.hq_ops.specs.declared.end.Stop.{Stop}
use Rattle.hq_ops.specs.declared.end.Stop.TheVariants as stop

-- the rows, unless there was a fault or no memory
abbrev pub Gives : OpEnd → List (List Value) → Type 0
Gives (end.Rows found) rows = found.items ≡ rows
Gives end.Numeric rows = Unit {0}
Gives end.NoMemory rows = Unit {0}

-- Numeric comes where an evaluation faults, and nowhere else
abbrev pub IsNumericAt : OpEnd → Bool → Type 0
IsNumericAt (end.Rows found) faults = faults ≡ false
IsNumericAt end.Numeric faults = faults ≡ true
IsNumericAt end.NoMemory faults = Unit {0}

-- rows are given, whatever memory there is
abbrev pub IsGiven : OpEnd → Type 0
IsGiven (end.Rows found) = Unit {0}
IsGiven _ = ⊥

-- the same of a step of an operator
abbrev pub StopsAt : {T : Type 0} → Result T Stop → Bool → Type 0
StopsAt (Ok x) faults = faults ≡ false
StopsAt (Err stop.Numeric) faults = faults ≡ true
StopsAt (Err stop.NoMemory) faults = Unit {0}

-- an end without rows
abbrev pub end_of : Stop → OpEnd
end_of stop.Numeric = end.Numeric
end_of stop.NoMemory = end.NoMemory

-- the end of a step that gave rows, or of one that stopped
abbrev pub ended : Result (Vec (List Value)) Stop → OpEnd
ended (Ok found) = end.Rows found
ended (Err why) = end_of why
