-- The pieces of a session's input, as they are read. A piece's number is the number of its statement.
--     piece_at m pieces       piece m, counted from 1
--     last_begin m pieces     the number of the last BEGIN of either form before piece m, or 0
--     is_snapshot b pieces    piece b is BEGIN SNAPSHOT
use Rattle.std.specs.Prelude.{ℕ, zero, suc, ◌-◌, Bool, true, false, List, [], ◌∷◌, Option, Some, None, slice_get, take, if◌then◌else◌}
use Rattle.hq_sql.specs.declared.tree.Statement.{Statement}
use Rattle.hq_sql.specs.declared.tree.Statement.TheVariants as statement

-- a piece: blank, too long, unended or no statement, or a statement
pub data Piece : Type 0 where
  Blank : Piece
  Too_long : Piece
  No_statement : Piece
  Reads : (s : Statement) → Piece

abbrev pub piece_at : ℕ → List Piece → Option Piece
piece_at zero pieces = None
piece_at (suc m) pieces = slice_get pieces m

abbrev pub is_begin : Piece → Bool
is_begin (Reads (statement.Begin snapshot)) = true
is_begin _ = false

abbrev pub begins_snapshot : Option Piece → Bool
begins_snapshot (Some (Reads (statement.Begin snapshot))) = snapshot
begins_snapshot _ = false

abbrev pub is_snapshot : ℕ → List Piece → Bool
is_snapshot b pieces = begins_snapshot (piece_at b pieces)

-- the number of the last BEGIN among pieces, of which the first has the number n, or else b
abbrev pub last_begin_from : ℕ → ℕ → List Piece → ℕ
last_begin_from b n [] = b
last_begin_from b n (piece ∷ pieces) = last_begin_from (if is_begin piece then n else b) (suc n) pieces

abbrev pub last_begin : ℕ → List Piece → ℕ
last_begin m pieces = last_begin_from 0 1 (take (m - 1) pieces)
