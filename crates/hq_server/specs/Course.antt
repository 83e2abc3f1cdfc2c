-- What a session answers: the pieces of its input, one after another, over tables that begin with none.
--     reply_to missed tables piece      the reply to a piece, or none to a blank one
--     course moments                    what was written, and the tables, after these pieces
--     Transcript pieces bytes           the bytes are the texts of the replies to the pieces, in order
-- A piece is missed where there was no memory for its statement: its reply says so, and nothing changes.
use Rattle.std.specs.Prelude.{◌≡◌, ℕ, Bool, List, [], ◌∷◌, ◌++◌, map, fold, Option, Some, None, Result, if◌then◌else◌}
use Rattle.hq_io.specs.Told.{WritesPrefix}
use Rattle.hq_io.specs.Pieces.{Piece, statement, too_long, unended, is_blank}
use Rattle.hq_forms.specs.Forms.{form_in}
use Rattle.hq_reply.specs.declared.reply.Reply.{Reply}
use Rattle.hq_reply.specs.declared.reply.Reply.TheVariants.{Error}
use Rattle.hq_reply.specs.declared.fault.Fault.TheVariants as fault
use Rattle.hq_reply.specs.Texts.{reply_text}
use Rattle.hq_table.specs.Kept.{TableState}
use Rattle.hq_server.specs.Tables.{Table, reply_of, after}
use Rattle.hq_server.specs.Stands.{Stands}

abbrev pub reply_to : Bool → List Table → Piece → Option Reply
reply_to missed tables (statement text) =
    if is_blank text then None
    else (if missed then Some (Error fault.NoMemory)
    else Some (reply_of tables (form_in text)))
reply_to missed tables too_long = Some (Error fault.TooLong)
reply_to missed tables unended = Some (Error fault.Syntax)

abbrev pub tables_after : Bool → List Table → Piece → List Table
tables_after missed tables (statement text) =
    if is_blank text then tables
    else (if missed then tables
    else after tables (form_in text))
tables_after missed tables too_long = tables
tables_after missed tables unended = tables

abbrev pub text_of : Option Reply → List ℕ
text_of None = []
text_of (Some reply) = reply_text reply

-- a piece, and whether it was missed
abbrev pub Moment : Type 0
Moment = Piece × Bool

-- what was written so far, and the tables
pub record Course : Type 0 where
  pub written : List ℕ
  pub tables : List Table

abbrev pub reply_at : Course → Moment → Option Reply
reply_at so_far moment = reply_to moment.1 so_far.tables moment.0

abbrev pub going_on : Course → Moment → Course
going_on so_far moment = record { written = so_far.written ++ text_of (reply_at so_far moment); tables = tables_after moment.1 so_far.tables moment.0 }

abbrev pub course : List Moment → Course
course moments = fold going_on (record { written = []; tables = [] }) moments

abbrev pub pieces_in : List Moment → List Piece
pieces_in moments = map (λ moment. moment.0) moments

-- the bytes are the texts of the replies to these pieces, in order
abbrev pub Transcript : List Piece → List ℕ → Type 0
Transcript pieces bytes = (moments : List Moment) × (pieces_in moments ≡ pieces) × (bytes ≡ (course moments).written)

-- A piece was answered.
abbrev pub Answered : Piece → List Table → Option Reply → List Table → Type 0
Answered piece old reply new = (missed : Bool) × (reply ≡ reply_to missed old piece) × (new ≡ tables_after missed old piece)

-- the piece that was given was answered, if there was one
abbrev pub Answers : List Piece → List Table → Option Reply → List Table → Type 0
Answers [] old reply new = (reply ≡ None) × (new ≡ old)
Answers (piece ∷ pieces) old reply new = Answered piece old reply new

-- the piece was answered over the tables that what is kept stands for, and what is kept then stands for those after
abbrev pub AnswersKept : List Piece → List TableState → Option Reply → List TableState → Type 0
AnswersKept pieces old reply new = (tables : List Table) → Stands old tables → (left : List Table) × Answers pieces tables reply left × Stands new left

-- the piece was answered, and a prefix of the reply's text was written, all of it at Ok
abbrev pub AnswersInto : {E : Type 0} → Result Unit E → List Piece → List TableState → List TableState → Option (List ℕ) → Option (List ℕ) → Type 0
AnswersInto result pieces old new given given' = (reply : Option Reply) × AnswersKept pieces old reply new × WritesPrefix given given' result (text_of reply)
