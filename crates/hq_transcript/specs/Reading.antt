-- The pieces of an input, from its bytes.
--     pieces_in input       the pieces, each as it is read
use Rattle.std.specs.Prelude.{ℕ, List, map, Option, Some, None, if◌then◌else◌}
use Rattle.hq_io.specs.Pieces as io
use Rattle.hq_io.specs.Pieces.{is_blank, pieces_of}
use Rattle.hq_sql.specs.Texts.{statement_in}
use Rattle.hq_sql.specs.declared.tree.Statement.{Statement}
use Rattle.hq_transcript.specs.Pieces.{Piece, Blank, Too_long, No_statement, Reads}

abbrev pub piece_read : Option Statement → Piece
piece_read (Some s) = Reads s
piece_read None = No_statement

-- a piece as it is read. It is blank by its bytes, before it is read
abbrev pub piece_of : io.Piece → Piece
piece_of (io.statement text) = if is_blank text then Blank else piece_read (statement_in text)
piece_of io.too_long = Too_long
piece_of io.unended = No_statement

abbrev pub pieces_in : List ℕ → List Piece
pieces_in input = map piece_of (pieces_of input)
