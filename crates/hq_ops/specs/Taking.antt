-- What a pipe has taken and given.
--     HasTaken op build pushed given pipe       these rows were pushed, those were given, and no evaluation has faulted
--     HasTakenAfter op build pushed given end   the same after the rows that a push gives
--     GivesRest end given rows                  the rows that it gives are what is left of all
--     FailsFor end fault                        Numeric comes only where there is a fault
--     IsFirstOf given all                       rows are the first of all
--     EndsAs end pipe                           after an end without rows the pipe has ended so
--     HasEnded why pipe                         a pipe has ended: each later call ends so again
use Rattle.std.specs.Prelude.{◌≡◌, Bool, true, List, ◌++◌}
use Rattle.hq_algebra.specs.declared.op.Op.{Op}
use Rattle.hq_meaning.specs.Rows.{Row}
use Rattle.hq_ops.specs.declared.end.OpEnd.{OpEnd}
use Rattle.hq_ops.specs.declared.end.OpEnd.TheVariants as end
use Rattle.hq_ops.specs.declared.end.Stop.{Stop}
use Rattle.hq_ops.specs.declared.end.Stop.TheVariants as stop
use Rattle.hq_ops.specs.declared.pipe.Pipe.{Pipe}
use Rattle.hq_ops.specs.declared.work.Work.TheVariants as work
use Rattle.hq_ops.specs.Works.{Holds}

-- these rows were pushed, those were given, and no evaluation has faulted
abbrev pub HasTaken : Op → List Row → List Row → List Row → Pipe → Type 0
HasTaken op build pushed given pipe = Holds op build pushed given pipe.work

-- the same after the rows that a push gives
abbrev pub HasTakenAfter : Op → List Row → List Row → List Row → OpEnd → Pipe → Type 0
HasTakenAfter op build pushed given (end.Rows found) pipe = HasTaken op build pushed (given ++ found.items) pipe
HasTakenAfter op build pushed given _ pipe = Unit {0}

-- the rows that it gives are what is left of all
abbrev pub GivesRest : OpEnd → List Row → List Row → Type 0
GivesRest (end.Rows found) given rows = given ++ found.items ≡ rows
GivesRest _ given rows = Unit {0}

-- Numeric comes only where there is a fault
abbrev pub FailsFor : OpEnd → Bool → Type 0
FailsFor end.Numeric fault = fault ≡ true
FailsFor _ fault = Unit {0}

-- rows are the first of all
abbrev pub IsFirstOf : List Row → List Row → Type 0
IsFirstOf given all = (others : List Row) × (all ≡ given ++ others)

-- a pipe has ended: each later call ends so again
abbrev pub HasEnded : Stop → Pipe → Type 0
HasEnded why pipe = pipe.work ≡ work.Ended why

-- after an end without rows the pipe has ended so
abbrev pub EndsAs : OpEnd → Pipe → Type 0
EndsAs (end.Rows found) pipe = Unit {0}
EndsAs end.Numeric pipe = HasEnded stop.Numeric pipe
EndsAs end.NoMemory pipe = HasEnded stop.NoMemory pipe
