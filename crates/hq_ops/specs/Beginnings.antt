-- Which operator it is.
--     IsJoinOf lk rk op, IsPartialOf keys as op, IsFinalOf n as op     it is a Join, a Partial or a Final of these
use Rattle.std.specs.Prelude.{◌≡◌, ℕ, true, false, List}
use Rattle.hq_algebra.specs.declared.aggregate.Aggregate.{Aggregate}
use Rattle.hq_algebra.specs.declared.op.Op.{Op}
use Rattle.hq_meaning.specs.Rows.{Row}
use Rattle.hq_meaning.specs.Operators.{joined, partial, partial_faults, final, final_faults}
use Rattle.hq_ops.specs.Pipes.{gives, fails, is_streamed}

-- it is a Join by these keys
pub record IsJoinOf (lk rk : List ℕ) (op : Op) : Type 0 where
  pub gives_are : (build rows : List Row) → gives op build rows ≡ joined lk rk rows build
  pub fails_are : (rows : List Row) → fails op rows ≡ false
  pub streams : is_streamed op ≡ true

-- it is a Partial by these keys and aggregates
pub record IsPartialOf (keys : List ℕ) (aggs : List Aggregate) (op : Op) : Type 0 where
  pub gives_are : (build rows : List Row) → gives op build rows ≡ partial keys aggs rows
  pub fails_are : (rows : List Row) → fails op rows ≡ partial_faults aggs rows
  pub streams : is_streamed op ≡ false

-- it is a Final by so many keys and these aggregates
pub record IsFinalOf (n : ℕ) (aggs : List Aggregate) (op : Op) : Type 0 where
  pub gives_are : (build rows : List Row) → gives op build rows ≡ final n aggs rows
  pub fails_are : (rows : List Row) → fails op rows ≡ final_faults n aggs rows
  pub streams : is_streamed op ≡ false
