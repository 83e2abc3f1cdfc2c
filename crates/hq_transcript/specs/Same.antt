-- What is the same but for the order of rows: what a session sees as files is what the log says as rows.
--     SameRows tables xs ys     what was put comes to the same rows in each table
--     SameFound f g             a statement finds the same
use Rattle.std.specs.Prelude.{◌≡◌, ◌≤◌, ℕ, List, Option, Some, None}
use Rattle.hq_value.specs.Order.{SameBag}
use Rattle.hq_value.specs.Tables.{Definition}
use Rattle.hq_transcript.specs.Tables.{Put, width, rows_in}
use Rattle.hq_transcript.specs.Sights.{Sight, Found}

-- in each table, at every width from the tables' own on
abbrev pub SameRows : List Definition → List Put → List Put → Type 0
SameRows tables xs ys = (t w : ℕ) → width tables t ≤ w → SameBag (rows_in w xs t) (rows_in w ys t)

-- the same look, but for the order of rows
pub record SameSight (s o : Sight) : Type 0 where
  pub session : s.session ≡ o.session
  pub statement : s.statement ≡ o.statement
  pub tables : s.tables ≡ o.tables
  pub up : s.up ≡ o.up
  pub puts : SameRows s.tables s.puts o.puts

abbrev pub SameLook : Option Sight → Option Sight → Type 0
SameLook None None = Unit {0}
SameLook (Some s) (Some o) = SameSight s o
SameLook _ _ = ⊥

-- a statement finds the same
pub record SameFound (f g : Found) : Type 0 where
  pub look : SameLook f.look g.look
  pub stands : f.stands ≡ g.stands
  pub change : SameLook f.change g.change
  pub own : f.own ≡ g.own
