-- What pass 0 knows of the history that it closes with.
use Rattle.std.specs.Prelude.{◌≡◌, ◌≤◌, ◌<◌, ℕ, List, [], length}
use lib.ListN.{get_elem?}
use mathlib.Core.Option.{some}
use Rattle.hq_history.specs.declared.noted.Noted.{Noted}
use Rattle.hq_history.specs.History.{by, StartsWith}
use Rattle.hq_histlock.specs.declared.view.View.{View}
use Rattle.hq_histlock.specs.declared.view.Ended.{Ended}

-- It begins with what was seen and with what the lock was opened on. Pass 0's own entries are its own, those of each number that was given back are those that its pass knew, those of numbers below the first are the opened history's, and there are no others
pub record IsClosed (v : View) (log : List Noted) : Type 0 where
  pub begins : StartsWith log v.seen
  pub opened : StartsWith log v.opened
  pub own : by 0 log ≡ v.mine
  pub each : (k : ℕ) (x : Ended) → get_elem? v.ended k ≡ some x → (v.first ≤ x.number) × (by x.number log ≡ x.entries) × StartsWith log x.seen
  pub joined : (n : ℕ) → v.first ≤ n → n < v.next → (k : ℕ) × (x : Ended) × (get_elem? v.ended k ≡ some x) × (x.number ≡ n)
  pub apart : (i j : ℕ) (x y : Ended) → get_elem? v.ended i ≡ some x → get_elem? v.ended j ≡ some y → x.number ≡ y.number → i ≡ j
  pub early : (n : ℕ) → 0 < n → n < v.first → by n log ≡ by n v.opened
  pub others : (n : ℕ) → v.next ≤ n → by n log ≡ []
