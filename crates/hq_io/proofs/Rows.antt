-- The pieces of small inputs.
use Rattle.std.proofs.Common.{◌≡◌, ◌≢◌, [], ◌∷◌, codes, true, false, refl}
use Rattle.hq_io.specs.Pieces.{pieces_of, ended_pieces, is_blank, statement, unended}

-- nothing, and a blank rest
nothing : pieces_of [] ≡ []
nothing = refl

blank_rest : pieces_of (codes "a; \t\n\r") ≡ statement (codes "a") ∷ []
blank_rest = refl

-- a blank piece is a piece
blank_piece : pieces_of (codes "; ;") ≡ statement [] ∷ statement (codes " ") ∷ []
blank_piece = refl

-- a rest that isn't blank is unended, and its `;` does not stand in the input
rest : pieces_of (codes "a;b") ≡ statement (codes "a") ∷ unended ∷ []
rest = refl

rest_ended : ended_pieces (codes "a;b") ≡ statement (codes "a") ∷ []
rest_ended = refl

-- a comma cuts nothing
comma : pieces_of (codes "a,;") ≢ statement (codes "a") ∷ []
comma e = cc

-- a `;` in a text cuts nothing, also behind a quote that is doubled
in_a_text : pieces_of (codes "'a;b';'it''s;';") ≡ statement (codes "'a;b'") ∷ statement (codes "'it''s;'") ∷ []
in_a_text = refl

-- nor does one in a comment, where a quote begins no text
in_a_comment : pieces_of (codes ";-- x;y' \n ;") ≡ statement [] ∷ statement (codes "-- x;y' \n ") ∷ []
in_a_comment = refl

-- two dashes in a text begin no comment, and a dash alone none anywhere
dashes : pieces_of (codes "'--';1 - - 1;") ≡ statement (codes "'--'") ∷ statement (codes "1 - - 1") ∷ []
dashes = refl

-- a comment says nothing; a text does, and a dash
blank_comment : is_blank (codes " -- a;'\n --") ≡ true
blank_comment = refl

text_is_not_blank : is_blank (codes " '' ") ≡ false
text_is_not_blank = refl

dash_is_not_blank : is_blank (codes " - ") ≡ false
dash_is_not_blank = refl

-- a text that is never closed is unended
open_text : pieces_of (codes "'a;b") ≡ unended ∷ []
open_text = refl
