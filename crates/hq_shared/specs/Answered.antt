-- What one ask through the desk says of the pass.
use Rattle.std.specs.Prelude.{◌≡◌, ℕ, List}
use Rattle.hq_history.specs.declared.noted.Noted.{Noted}
use Rattle.hq_history.specs.History.{GrewByOthers}
use Rattle.hq_histlock.specs.declared.view.View.{View}
use Rattle.hq_histlock.specs.Views.{entered, left_by}

-- There was one step, from a value whose history is what the pass had seen and what others had added since, to one whose history the pass has then seen
pub record Answered {V Ask Answer : Type 0} (history : V → List Noted) (steps : ℕ → ℕ → V → Ask → V → Answer → Type 0) (v : View) (statement : ℕ) (ask : Ask) (w : View) (answer : Answer) : Type 0 where
  pub before : V
  pub after : V
  pub grown : GrewByOthers v.number v.seen (history before)
  pub step : steps v.number statement before ask after answer
  pub left : w ≡ left_by (entered v (history before)) (history after)
