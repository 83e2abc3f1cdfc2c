-- What an operator keeps between its rows.
--     Stands gives fails streams op build     the operator gives and fails so, and streams or not
--     Holds op build pushed given work        these rows were pushed, those were given, and no evaluation has faulted
--     Took op build pushed given rows result  rows were taken
--     HasEnded stop work                      it has ended so
use Rattle.std.specs.Prelude.{◌≡◌, ℕ, Bool, true, false, List, [], ◌++◌, Result, Ok, Err}
use Rattle.std.specs.Global.{Vec}
use Rattle.hq_value.specs.declared.value.Value.{Value}
use Rattle.hq_algebra.specs.declared.op.Op.{Op}
use Rattle.hq_meaning.specs.Rows.{Row}
use Rattle.hq_meaning.specs.Operators.{filtered, projected, project_faults, joined, distinct, sorted}
use Rattle.hq_ops.specs.declared.chains.Chains.{Chains}
use Rattle.hq_ops.specs.declared.column.Column.{Column}
use Rattle.hq_ops.specs.declared.end.Stop.{Stop}
use Rattle.hq_ops.specs.declared.end.Stop.TheVariants as stop
use Rattle.hq_ops.specs.declared.work.Work.{Work}
use Rattle.hq_ops.specs.declared.work.Work.TheVariants as work
use Rattle.hq_ops.specs.Gathering.{HasGathered, group_rows, some_fault}
use Rattle.hq_ops.specs.Sorts.{StandFor}
use Rattle.hq_ops.specs.Pipes.{gives, fails, is_streamed}

-- the operator gives and fails so, and streams or not
pub record Stands (given_by : List Row → List Row) (failing : List Row → Bool) (streams : Bool) (op : Op) (build : List Row) : Type 0 where
  pub gives_are : (rows : List Row) → gives op build rows ≡ given_by rows
  pub fails_are : (rows : List Row) → fails op rows ≡ failing rows
  pub streams_are : is_streamed op ≡ streams

abbrev pub never : List Row → Bool
never rows = false

-- the right rows of a Join, chained by their keys, and the pairs so far
pub record HasJoined (op : Op) (build pushed given : List Row) (lk rk : List ℕ) (right : Chains) : Type 0 where
  pub stands : Stands (λ rows. joined lk rk rows build) never true op build
  pub keys_are : right.keys.now ≡ rk
  pub rows_are : right.rows.now ≡ build
  pub given_are : given ≡ joined lk rk pushed build

-- these rows were pushed, those were given, and no evaluation has faulted
abbrev pub Holds : Op → List Row → List Row → List Row → Work → Type 0
Holds op build pushed given (work.Filter cond) = Stands (filtered cond.now) never true op build × (given ≡ filtered cond.now pushed)
Holds op build pushed given (work.Project items) =
    Stands (projected items.now) (project_faults items.now) true op build × (given ≡ projected items.now pushed) × (project_faults items.now pushed ≡ false)
Holds op build pushed given (work.Join lk rk right) = HasJoined op build pushed given lk.now rk.now right
Holds op build pushed given (work.Group by g) =
    (columns : List Column) × Stands (group_rows by columns) (some_fault by columns) false op build × HasGathered by columns pushed g.keys.keys g.tallies.items × (given ≡ [])
Holds op build pushed given (work.Distinct seen) = Stands distinct never false op build × (seen.keys ≡ distinct pushed) × (given ≡ [])
Holds op build pushed given (work.Sort order limit rows) = Stands (sorted order.now limit) never false op build × StandFor order.now limit rows.items pushed × (given ≡ [])
Holds op build pushed given (work.Ended stop) = ⊥

-- rows were taken: what they give is given at once where the operator streams
pub record TookRows (op : Op) (build pushed given rows found : List Row) (work : Work) : Type 0 where
  pub holds : Holds op build (pushed ++ rows) (given ++ found) work
  pub streams : is_streamed op ≡ true → (found ≡ gives op build rows) × (fails op rows ≡ false)

-- some evaluation faults, whatever rows follow
pub record TookFault (op : Op) (pushed rows : List Row) : Type 0 where
  pub faults : (more : List Row) → fails op (pushed ++ rows ++ more) ≡ true
  pub streams : is_streamed op ≡ true → fails op rows ≡ true

abbrev pub Took : Op → List Row → List Row → List Row → List Row → Result (Work × Vec (List Value)) Stop → Type 0
Took op build pushed given rows (Ok r) = TookRows op build pushed given rows r.1.items r.0
Took op build pushed given rows (Err stop.Numeric) = TookFault op pushed rows
Took op build pushed given rows (Err stop.NoMemory) = Unit {0}

-- it has ended so
abbrev pub HasEnded : Stop → Work → Type 0
HasEnded stop w = w ≡ work.Ended stop
