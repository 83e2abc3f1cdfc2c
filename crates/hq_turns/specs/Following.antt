-- From one statement to the next.
--     Follows .. p next     `next` is the record of the next piece p, behind a reply
--     IsQuiet c d           no count rose from c to d, and none stands at its type's end
use Rattle.std.specs.Prelude.{◌≡◌, ℕ, suc, ◌+◌, ◌-◌, ◌^◌, ◌<◌, List, [], ◌++◌, Option, Some, None}
use Rattle.hq_reply.specs.declared.reply.Reply.{Reply}
use Rattle.hq_transcript.specs.Pieces.{Piece}
use Rattle.hq_transcript.specs.Binding.{Binder}
use Rattle.hq_transcript.specs.Step.{Idle, Open, lanes_after}
use Rattle.hq_turns.specs.Counts.{Counts}
use Rattle.hq_turns.specs.Now.{Now}
use Rattle.hq_turns.specs.Ends.{state_behind, put_by_piece}

-- what it begins with is what the last one left, at these counts; its transaction's own rows are those so far
pub record Follows (binds : Binder) (now : Now) (r : Option Reply) (c : Counts) (p : Piece) (next : Now) : Type 0 where
  pub piece : next.piece ≡ Some p
  pub number : next.number ≡ suc now.number
  pub entries : next.entries ≡ []
  pub change : next.found.change ≡ None
  pub state : next.state ≡ state_behind now r
  pub lanes : next.lanes ≡ lanes_after now.lanes now.entries
  pub own_open : (b : ℕ) → next.state ≡ Open b → next.found.own ≡ now.found.own ++ put_by_piece binds now.found now.piece
  pub own_idle : next.state ≡ Idle → next.found.own ≡ []
  pub counts : next.counts ≡ c
  pub history : next.history ≡ now.history

-- a count did not rise, and is not at its type's end
pub record IsSame (a b : ℕ) : Type 0 where
  pub same : b ≡ a
  pub below : a < 2 ^ 64 - 1

pub record IsQuiet (c d : Counts) : Type 0 where
  pub some : 0 < c.nodes
  pub stores : (n : ℕ) → IsSame (c.stores n) (d.stores n)
  pub hosts : (n : ℕ) → IsSame (c.hosts n) (d.hosts n)
  pub links : (n : ℕ) → IsSame (c.links n) (d.links n)
  pub troubles : (n : ℕ) → IsSame (c.troubles n) (d.troubles n)
