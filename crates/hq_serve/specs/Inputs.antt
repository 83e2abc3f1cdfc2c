-- The pieces that a session is handed, and how far it has come in its input.
--     piece_in p                 the piece of its input, none at the end
--     text_of reply              the text that a reply is written as
--     HasAnswered ..             it has answered these pieces, with these replies
--     IsCut ios reader whole rest    the reader has cut these pieces off the input
--     SoFar ..                   it has answered the pieces that the reader has cut, and its replies are written
--     IsLast why ..              so it goes no further
use Rattle.std.specs.Prelude.{◌≡◌, ℕ, ◌+◌, Bool, true, false, List, [], ◌∷◌, ◌++◌, length, map, Option, Some, None, IfSome}
use Rattle.std.specs.Io.KnownBytes.{IsAtEnd, append_known}
use Rattle.hq_history.specs.declared.noted.Noted.{Noted}
use Rattle.hq_io.specs.declared.piece.Piece as given
use Rattle.hq_io.specs.declared.piece.Piece.TheVariants as piece
use Rattle.hq_io.specs.Pieces as io
use Rattle.hq_io.specs.Pieces.{pieces_of}
use Rattle.hq_io.specs.Reading.{Reading, Ends, ahead}
use Rattle.hq_io.specs.Told.{IfTold}
use Rattle.hq_reply.specs.declared.reply.Reply.{Reply}
use Rattle.hq_reply.specs.Texts.{reply_text, replies_text}
use Rattle.hq_transcript.specs.declared.why.EndWhy.{EndWhy}
use Rattle.hq_transcript.specs.Pieces.{Piece, Too_long, No_statement}
use Rattle.hq_transcript.specs.Reading.{piece_of}
use Rattle.hq_transcript.specs.Reaching.{Reaches}
use Rattle.hq_turns.specs.Counts.{Counts}
use Rattle.hq_session.specs.declared.session.Session.{Session}
use Rattle.hq_session.specs.Waits.{RowsOfBytes}
use Rattle.hq_serve.specs.Causes.{HaveCauses}
use Rattle.hq_serve.specs.Running.{Spot, IsWaiting}
use Rattle.hq_serve.specs.Served.{kinds_by, WroteOnto}

-- the piece of the input, none at its end
abbrev pub piece_in : given.Piece → Option Piece
piece_in (piece.Statement text) = Some (piece_of (io.statement text.now))
piece_in piece.TooLong = Some Too_long
piece_in piece.Unended = Some No_statement
piece_in piece.End = None
piece_in piece.Limit = None

abbrev pub text_of : Option Reply → List ℕ
text_of None = []
text_of (Some reply) = reply_text reply

-- session k of a catalogue of so many nodes
module _ (file_rows : RowsOfBytes) (nodes k : ℕ) (files seals : Bool) where
  -- from the counts b on it has answered these pieces with these replies, and waits for piece m
  pub record HasAnswered {F Z : Type 0} (history : List Noted) (s : Session F Z) (b c : Counts) (m : ℕ) (ios : List io.Piece) (replies : List (Option Reply)) : Type 0 where
    pub spot : Spot
    pub pieces_are : spot.pieces ≡ map piece_of ios
    pub replies_are : spot.replies ≡ replies
    pub counts_are : spot.counts ≡ c
    pub next : m ≡ spot.end.next
    pub waiting : IsWaiting file_rows nodes k files seals spot history s c
    pub causes : HaveCauses replies (kinds_by k history) b c

-- the reader has cut these pieces off the input, and this is the rest
pub record IsCut (ios : List io.Piece) (reader : Reading) (whole rest : List ℕ) : Type 0 where
  pub pieces : pieces_of whole ≡ ios ++ pieces_of rest
  pub bytes : reader.taken + length rest ≡ length whole
  pub ends : reader.ended ≡ false → Ends ios whole rest

module _ (file_rows : RowsOfBytes) (nodes k : ℕ) (files seals : Bool) where
  -- it has answered the pieces that the reader has cut off, and the replies are written
  pub record SoFar {F Z : Type 0} (history : List Noted) (s : Session F Z) (b c : Counts) (m : ℕ) (reader : Reading) (whole left first now : Option (List ℕ)) : Type 0 where
    pub ios : List io.Piece
    pub replies : List (Option Reply)
    pub answered : HasAnswered file_rows nodes k files seals history s b c m ios replies
    pub written : now ≡ append_known first (replies_text replies)
    pub count : length ios ≡ reader.pieces
    pub cut : IfTold whole (ahead reader left) (IsCut ios reader)
    pub over : reader.ended ≡ true → IsAtEnd left

  -- for this reason it goes no further than these pieces
  pub record IsLast {F Z : Type 0} (history : List Noted) (s : Session F Z) (b c : Counts) (m : ℕ) (why : EndWhy) (whole left first now : Option (List ℕ)) : Type 0 where
    pub ios : List io.Piece
    pub replies : List (Option Reply)
    pub answered : HasAnswered file_rows nodes k files seals history s b c m ios replies
    pub written : WroteOnto why replies first now
    pub reached : IfSome whole (λ input. Reaches why input left (length ios) × ((more : List io.Piece) × (pieces_of input ≡ ios ++ more)))
