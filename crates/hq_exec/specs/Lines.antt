-- The pipes of a slice, from the leaf's to the root's.
--     HasFlowed stages pipes pushed put       these rows were pushed to the first, and those came out of the last
--     HasPassed n stages pipes pushed rows put    the same, but that these rows are still to be pushed to pipe n
--     Carries kinds stages out                rows of these kinds become rows of those kinds
--     LineState                               whether an evaluation has faulted, the pipes, and what takes the rows
--     HasRun kinds out stages pushed put line     rows of these kinds were pushed, and those came out, or an evaluation faults
--     CanTake kinds line                      rows of these kinds can be pushed
--     Takes kinds rows before after           these rows were pushed
--     Finishes ..                             all came out, or an evaluation faults
--     CanPush, CanPass, Pushed, WasPassed     a push, and what it leaves
--     Drained                                 what finished pipes have given
use Rattle.std.specs.Prelude.{◌≡◌, ℕ, zero, suc, Bool, true, false, List, [], ◌∷◌, ◌++◌, Option, Result, Ok, Err}
use Rattle.hq_value.specs.declared.value.Value.{Value}
use Rattle.hq_value.specs.declared.kind.Kind.{Kind}
use Rattle.hq_fits.specs.Supplied.{AreFit}
use Rattle.hq_meaning.specs.Rows.{Row}
use Rattle.hq_ops.specs.declared.pipe.Pipe.{Pipe}
use Rattle.hq_ops.specs.Pipes.{gives}
use Rattle.hq_ops.specs.Taking.{HasTaken}
use Rattle.hq_exec.specs.declared.line.Line.{Line}
use Rattle.hq_exec.specs.declared.end.Halt.{Halt}
use Rattle.hq_exec.specs.declared.end.Halt.TheVariants as halt
use Rattle.hq_exec.specs.Outs.{OutState, Accepts, Adds}
use Rattle.hq_exec.specs.Stages.{Stage, flowed, faulted}

-- these rows were pushed to the first pipe, and those came out of the last one
abbrev pub HasFlowed : List Stage → List Pipe → List Row → List Row → Type 0
HasFlowed [] [] pushed put = put ≡ pushed
HasFlowed (s ∷ ss) (p ∷ ps) pushed put = (between : List Row) × HasTaken s.op s.build pushed between p × HasFlowed ss ps between put
HasFlowed _ _ pushed put = ⊥

-- the same, but that these rows, which come last, are still to be pushed to pipe n
abbrev pub HasPassed : ℕ → List Stage → List Pipe → List Row → List Row → List Row → Type 0
HasPassed zero ss ps pushed rows put = (before : List Row) × (pushed ≡ before ++ rows) × HasFlowed ss ps before put
HasPassed (suc n) (s ∷ ss) (p ∷ ps) pushed rows put = (between : List Row) × HasTaken s.op s.build pushed between p × HasPassed n ss ps between rows put
HasPassed (suc n) _ _ pushed rows put = ⊥

-- rows of these kinds become rows of those kinds
abbrev pub Carries : List Kind → List Stage → List Kind → Type 0
Carries kinds [] out = kinds ≡ out
Carries kinds (s ∷ ss) out = (between : List Kind) × ((rows : List Row) → AreFit kinds rows → AreFit between (gives s.op s.build rows)) × Carries between ss out

-- whether an evaluation has faulted, the pipes, and what takes the rows
pub record LineState : Type 1 where
  pub failed : Bool
  pub pipes : List Pipe
  pub out : OutState

-- where an evaluation has faulted, some evaluation faults whatever rows follow
abbrev pub RunsBy : Bool → List Stage → List Pipe → List Row → List Row → Type 0
RunsBy false stages pipes pushed put = HasFlowed stages pipes pushed put
RunsBy true stages pipes pushed put = (more : List Row) → faulted stages (pushed ++ more) ≡ true

-- rows of these kinds were pushed, and those came out, or an evaluation faults
pub record HasRun (kinds out : List Kind) (stages : List Stage) (pushed put : List Row) (failed : Bool) (pipes : List Pipe) : Type 0 where
  pub carries : Carries kinds stages out
  pub fit : AreFit kinds pushed
  pub runs : RunsBy failed stages pipes pushed put

-- a line that can take rows of these kinds
pub record IsReady (kinds : List Kind) (line : LineState) : Type 0 where
  pub out : List Kind
  pub stages : List Stage
  pub pushed : List Row
  pub put : List Row
  pub run : HasRun kinds out stages pushed put line.failed line.pipes
  pub accepts : Accepts line.out.kinds out

abbrev pub CanTake : List Kind → LineState → Type 0
CanTake kinds line = line.failed ≡ false → IsReady kinds line

-- more rows came out
pub record HasGiven (kinds out : List Kind) (stages : List Stage) (pushed put : List Row) (before after : LineState) : Type 0 where
  pub added : List Row
  pub run : HasRun kinds out stages pushed (put ++ added) after.failed after.pipes
  pub given : Adds added before.out after.out

-- these rows were pushed
abbrev pub Takes : List Kind → List Row → LineState → LineState → Type 0
Takes kinds rows before after = (out : List Kind) (stages : List Stage) (pushed put : List Row) → HasRun kinds out stages pushed put before.failed before.pipes → HasGiven kinds out stages (pushed ++ rows) put before after

-- all came out, or an evaluation faults
pub record HasEnded (out : List Kind) (stages : List Stage) (pushed put : List Row) (before after : OutState) : Type 0 where
  pub added : List Row
  pub all : put ++ added ≡ flowed stages pushed
  pub fine : faulted stages pushed ≡ false
  pub fit : AreFit out (put ++ added)
  pub given : Adds added before after

abbrev pub Finishes : Bool → List Kind → List Stage → List Row → List Row → OutState → OutState → Type 0
Finishes true out stages pushed put before after = faulted stages pushed ≡ true
Finishes false out stages pushed put before after = HasEnded out stages pushed put before after

-- rows can be pushed to the first pipe: what comes out of the last one may be put
pub record CanPush (pipes : List Pipe) (rows : List Row) (wanted : Option (List Kind)) : Type 0 where
  pub kinds : List Kind
  pub out : List Kind
  pub stages : List Stage
  pub pushed : List Row
  pub put : List Row
  pub flowed : HasFlowed stages pipes pushed put
  pub carries : Carries kinds stages out
  pub fit : AreFit kinds pushed
  pub more : AreFit kinds rows
  pub accepts : Accepts wanted out

-- the same of pipe n, where those before it have given the rows
pub record CanPass (n : ℕ) (pipes : List Pipe) (rows : List Row) (wanted : Option (List Kind)) : Type 0 where
  pub kinds : List Kind
  pub out : List Kind
  pub stages : List Stage
  pub pushed : List Row
  pub put : List Row
  pub passed : HasPassed n stages pipes pushed rows put
  pub carries : Carries kinds stages out
  pub fit : AreFit kinds pushed
  pub accepts : Accepts wanted out

-- these rows were pushed, and more came out
pub record HasGivenMore (stages : List Stage) (pipes : List Pipe) (pushed put : List Row) (before after : OutState) : Type 0 where
  pub added : List Row
  pub flowed : HasFlowed stages pipes pushed (put ++ added)
  pub given : Adds added before after

-- what is left of pipes that were pushed to: more came out, or an evaluation faults
abbrev pub Pushed : Result Unit Halt → List Row → List Pipe → List Pipe → OutState → OutState → Type 0
Pushed (Ok x) rows old new before after = (stages : List Stage) (pushed put : List Row) → HasFlowed stages old pushed put → HasGivenMore stages new (pushed ++ rows) put before after
Pushed (Err halt.Numeric) rows old new before after = Adds [] before after × ((stages : List Stage) (pushed put : List Row) → HasFlowed stages old pushed put → (more : List Row) → faulted stages (pushed ++ rows ++ more) ≡ true)
Pushed (Err halt.NoMemory) rows old new before after = Unit {0}

-- the same where pipe n is pushed to
abbrev pub WasPassed : Result Unit Halt → ℕ → List Row → List Pipe → List Pipe → OutState → OutState → Type 0
WasPassed (Ok x) n rows old new before after = (stages : List Stage) (pushed put : List Row) → HasPassed n stages old pushed rows put → HasGivenMore stages new pushed put before after
WasPassed (Err halt.Numeric) n rows old new before after = Adds [] before after × ((stages : List Stage) (pushed put : List Row) → HasPassed n stages old pushed rows put → (more : List Row) → faulted stages (pushed ++ more) ≡ true)
WasPassed (Err halt.NoMemory) n rows old new before after = Unit {0}

-- what finished pipes have given, or that an evaluation faulted
abbrev pub DrainedBy : Result Unit Halt → List Kind → List Stage → List Row → List Row → OutState → OutState → Type 0
DrainedBy (Ok x) out stages pushed put before after = HasEnded out stages pushed put before after
DrainedBy (Err halt.Numeric) out stages pushed put before after = faulted stages pushed ≡ true
DrainedBy (Err halt.NoMemory) out stages pushed put before after = Unit {0}

abbrev pub Drained : Result Unit Halt → List Pipe → OutState → OutState → Type 0
Drained result pipes before after = (kinds out : List Kind) (stages : List Stage) (pushed put : List Row) → Carries kinds stages out → AreFit kinds pushed → HasFlowed stages pipes pushed put → DrainedBy result out stages pushed put before after

-- a line, and what takes its rows
abbrev pub line_state : Line → OutState → LineState
line_state line out = record { failed = line.failed; pipes = line.pipes.items; out = out }
