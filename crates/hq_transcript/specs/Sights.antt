-- What each Look of a log sees, and which rows are committed.
--     replay nodes log         the tables, the committed rows and the marks at the end of the log, and what its Looks saw
--     defined, committed       the tables before place p of the log, and the rows that are committed there
--     look_of k b snapshot m   the look of statement m of session k, in the transaction that statement b began
--     visible sight own        the rows that a statement sees: those committed at its look, and its transaction's own
--     rows_put, own_puts       what an INSERT puts; what its transaction's earlier ones put
--     found_by                 all that a statement finds
use Rattle.std.specs.Prelude.{ℕ, zero, suc, ◌-◌, Bool, true, false, List, [], ◌∷◌, ◌++◌, Option, Some, None, is_none, take, drop, fold, find, replicate, nat_lt, nat_le, ◌==◌, ◌&&◌, if◌then◌else◌}
use Rattle.hq_value.specs.declared.entry.Entry.{Entry}
use Rattle.hq_value.specs.declared.entry.EntryKind.{EntryKind}
use Rattle.hq_value.specs.declared.entry.EntryKind.TheVariants as entry
use Rattle.hq_value.specs.Tables.{Definition}
use Rattle.hq_log.specs.Marks.{marks_after}
use Rattle.hq_sql.specs.declared.tree.Statement.TheVariants as statement
use Rattle.hq_bind.specs.Tables.{create_fault, with_added}
use Rattle.hq_meaning.specs.Mean.{Answer, Database, Rows, Numeric}
use Rattle.hq_transcript.specs.Pieces.{Piece, Reads, piece_at, last_begin, is_snapshot}
use Rattle.hq_transcript.specs.Tables.{Put, keys_of, database}
use Rattle.hq_transcript.specs.Binding.{Binding, Refused, Bound, Binder, Insertion, table_of, inserted}

-- what one Look, Create or Alter found: who made it, and the tables, the rows and the marks that were there
pub record Sight : Type 0 where
  pub session : ℕ
  pub statement : ℕ
  pub tables : List Definition
  pub puts : List Put
  pub up : List Bool

-- where a log has come: the tables, what was committed, the marks, and what was found on the way
pub record Replay : Type 0 where
  pub tables : List Definition
  pub puts : List Put
  pub up : List Bool
  -- by the Looks, and by the Creates and Alters
  pub looks : List Sight
  pub changes : List Sight

-- ---- the look of a statement

-- the Look for statement m of session k, in the transaction that statement b began, 0 for none. In a snapshot it is the first one
-- behind b that isn't behind m
abbrev pub is_look_for : ℕ → ℕ → Bool → ℕ → Sight → Bool
is_look_for k b snapshot m sight = (sight.session == k) && (if snapshot then nat_lt b sight.statement && nat_le sight.statement m else sight.statement == m)

abbrev pub look_of : ℕ → ℕ → Bool → ℕ → List Sight → Option Sight
look_of k b snapshot m looks = find (is_look_for k b snapshot m) looks

abbrev pub is_of_statement : ℕ → ℕ → Sight → Bool
is_of_statement k m sight = (sight.session == k) && (sight.statement == m)

-- the look was there before statement m
abbrev pub stands_before : ℕ → Option Sight → Bool
stands_before m None = false
stands_before m (Some sight) = nat_lt sight.statement m

-- the rows of each table that a statement sees at its look: those committed there, and its transaction's own earlier ones
abbrev pub visible : Sight → List Put → Database
visible sight own = database sight.tables (sight.puts ++ own)

-- ---- rows that are put

-- the rows that an answer puts, none at Numeric
abbrev pub put_by : ℕ → List ℕ → Answer → List Put
put_by t keys Numeric = []
put_by t keys (Rows rows) = record { table = t; keys = keys; rows = rows } ∷ []

-- what an INSERT puts over what it sees, none where it is refused
abbrev pub put_of : List Definition → Binding Insertion → Database → List Put
put_of tables (Refused why) db = []
put_of tables (Bound insertion) db = put_by (table_of insertion) (keys_of tables (table_of insertion)) (inserted insertion db)

-- ---- one entry more

-- what an entry finds
abbrev pub sight_at : Replay → Entry → Sight
sight_at r e = record { session = e.session; statement = e.statement; tables = r.tables; puts = r.puts; up = r.up }

-- behind an entry of this kind: what it found, the tables that a Create or an Alter leaves, and what a Commit publishes
abbrev pub after_kind : List Definition → List Put → Sight → Replay → EntryKind → Replay
after_kind tables puts sight r entry.Look = record r { looks = r.looks ++ sight ∷ [] }
after_kind tables puts sight r entry.Create = record r { tables = tables; changes = r.changes ++ sight ∷ [] }
after_kind tables puts sight r entry.Alter = record r { tables = tables; changes = r.changes ++ sight ∷ [] }
after_kind tables puts sight r entry.Commit = record r { puts = r.puts ++ puts }
after_kind tables puts sight r kind = record r { up = marks_after r.up kind }

-- behind an entry that leaves these tables, where it is a Create or an Alter, and publishes this, where it is a Commit
abbrev pub with_entry : List Definition → List Put → Replay → Entry → Replay
with_entry tables puts r e = after_kind tables puts (sight_at r e) r e.kind

-- no table, no row, and every node up
abbrev pub start : ℕ → Replay
start nodes = record { tables = []; puts = []; up = replicate nodes true; looks = []; changes = [] }

-- the tables behind a CREATE TABLE: the new one is the last, unless its text is refused, its name is there or 64 tables are
abbrev pub created : List Definition → Binding Definition → List Definition
created tables (Refused why) = tables
created tables (Bound table) = if is_none (create_fault tables table.name) then tables ++ table ∷ [] else tables

-- all that a statement finds
pub record Found : Type 0 where
  -- its look, and whether an earlier statement made it
  pub look : Option Sight
  pub stands : Bool
  -- its Create or Alter entry
  pub change : Option Sight
  -- its transaction's own earlier puts
  pub own : List Put

module _ (binds : Binder) where
  -- what a piece puts, where its look is this and `own` are its transaction's earlier puts. Only an INSERT puts anything, and a look
  -- that isn't there yet counts as none
  abbrev pub rows_put : Option Sight → List Put → Piece → List Put
  rows_put (Some sight) own (Reads (statement.Insert insert)) = put_of sight.tables (binds.insert sight.tables insert) (visible sight own)
  rows_put _ own _ = []

  -- the puts of session k's pieces, of which the first has the number m, behind `own`
  abbrev pub own_from : ℕ → ℕ → Bool → List Sight → ℕ → List Piece → List Put → List Put
  own_from k b snapshot looks m [] own = own
  own_from k b snapshot looks m (piece ∷ pieces) own =
      own_from k b snapshot looks (suc m) pieces (own ++ rows_put (look_of k b snapshot m looks) own piece)

  -- the puts of the INSERTs between statements b and m, and none where b is 0
  abbrev pub own_puts : ℕ → List Piece → List Sight → ℕ → ℕ → List Put
  own_puts k pieces looks zero m = []
  own_puts k pieces looks (suc b) m = own_from k (suc b) (is_snapshot (suc b) pieces) looks (suc (suc b)) (take (m - suc (suc b)) (drop (suc b) pieces)) []

  -- what a Commit entry of statement m publishes: an INSERT's rows, or those of its transaction
  abbrev pub published : ℕ → List Piece → List Sight → ℕ → Option Piece → List Put
  published k pieces looks m (Some (Reads statement.Commit)) = own_puts k pieces looks (last_begin m pieces) m
  published k pieces looks m (Some piece) = rows_put (look_of k 0 false m looks) [] piece
  published k pieces looks m None = []

  -- the tables behind a piece's Create or Alter entry
  abbrev pub changed : List Definition → Option Piece → List Definition
  changed tables (Some (Reads (statement.Create create))) = created tables (binds.create create)
  changed tables (Some (Reads (statement.Alter name column))) = with_added tables name column
  changed tables _ = tables

  -- what statement m of session k finds, in the transaction of statement b
  abbrev pub found_by : ℕ → List Piece → Replay → ℕ → ℕ → Found
  found_by k pieces r b m =
      let look : Option Sight = look_of k b (is_snapshot b pieces) m r.looks in
      record { look = look; stands = stands_before m look; change = find (is_of_statement k m) r.changes; own = own_puts k pieces r.looks b m }

  module _ (inputs : ℕ → List Piece) where
    -- behind an entry of the log, by the pieces of its session
    abbrev pub after : Replay → Entry → Replay
    after r e =
        let piece : Option Piece = piece_at e.statement (inputs e.session) in
        with_entry (changed r.tables piece) (published e.session (inputs e.session) r.looks e.statement piece) r e

    abbrev pub replay : ℕ → List Entry → Replay
    replay nodes log = fold after (start nodes) log

    -- the tables before place p of the log
    abbrev pub defined : ℕ → List Entry → ℕ → List Definition
    defined nodes log p = (replay nodes (take p log)).tables

    -- what was put and committed before place p of the log, in the order of the Commits
    abbrev pub committed_puts : ℕ → List Entry → ℕ → List Put
    committed_puts nodes log p = (replay nodes (take p log)).puts

    -- the rows of each table that are committed before place p of the log, each with NULLs up to the table's columns there
    abbrev pub committed : ℕ → List Entry → ℕ → Database
    committed nodes log p = database (defined nodes log p) (committed_puts nodes log p)
