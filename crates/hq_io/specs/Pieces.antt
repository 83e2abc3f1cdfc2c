-- An input is cut into pieces at every `;` that stands outside texts and comments.
--     pieces_of input        its pieces, in order
--     ended_pieces input     those among them whose `;` stands in the input
-- A text begins and ends with `'`. In it `''` is one quote: the text ends there and goes on at once. A comment begins
-- with `--` outside texts, and ends with the line feed or the input.
use Rattle.std.specs.Prelude.{◌==◌, ◌||◌, ◌&&◌, not, ℕ, Bool, true, false, List, [], ◌∷◌, ◌++◌, length, flat_map, nat_le, if◌then◌else◌}
use Rattle.std.specs.List.{list_all}
use Rattle.hq_io.specs.declared.place.Place.{Place}
use Rattle.hq_io.specs.declared.place.Place.TheVariants as place

-- a piece: the bytes before a `;`, or what is wrong with it
pub data Piece : Type 0 where
  statement : List ℕ → Piece
  too_long : Piece
  unended : Piece

-- the bytes of a piece are at most these
abbrev pub MOST : ℕ
MOST = 65536

-- the next byte is this one
abbrev pub begins : ℕ → List ℕ → Bool
begins b [] = false
begins b (c ∷ cs) = c == b

-- where the byte behind this one stands, by what follows
abbrev pub behind : Place → ℕ → List ℕ → Place
behind place.Outside b bs = if b == 39 then place.Text else (if (b == 45) && begins 45 bs then place.Comment else place.Outside)
behind place.Text b bs = if b == 39 then place.Outside else place.Text
behind place.Comment b bs = if b == 10 then place.Outside else place.Comment

-- the byte is a `;` that ends a piece
abbrev pub ends_piece : Place → ℕ → Bool
ends_piece place.Outside b = b == 59
ends_piece place.Text b = false
ends_piece place.Comment b = false

-- a byte in front of the first text
abbrev pub onto_first : ℕ → List (List ℕ) → List (List ℕ)
onto_first b [] = (b ∷ []) ∷ []
onto_first b (text ∷ texts) = (b ∷ text) ∷ texts

-- the texts between the semicolons that end pieces, and the rest behind the last one; the first byte stands at this place
abbrev pub texts_from : Place → List ℕ → List (List ℕ)
texts_from at [] = [] ∷ []
texts_from at (b ∷ bs) = if ends_piece at b then [] ∷ texts_from place.Outside bs else onto_first b (texts_from (behind at b bs) bs)

abbrev pub texts : List ℕ → List (List ℕ)
texts = texts_from place.Outside

-- a space, a tab, a line feed, a carriage return
abbrev pub is_space : ℕ → Bool
is_space b = (b == 32) || (b == 9) || (b == 10) || (b == 13)

-- the byte is a space, or one of a comment
abbrev pub says_nothing : Place → ℕ → List ℕ → Bool
says_nothing place.Outside b bs = is_space b || ((b == 45) && begins 45 bs)
says_nothing place.Text b bs = false
says_nothing place.Comment b bs = true

abbrev pub is_blank_from : Place → List ℕ → Bool
is_blank_from at [] = true
is_blank_from at (b ∷ bs) = says_nothing at b bs && is_blank_from (behind at b bs) bs

-- only spaces, tabs, line feeds, carriage returns and comments
abbrev pub is_blank : List ℕ → Bool
is_blank = is_blank_from place.Outside

-- a text that a `;` ended
abbrev pub ended_piece : List ℕ → Piece
ended_piece text = if nat_le (length text) MOST then statement text else too_long

-- the rest: too long, the end, or an unended piece
abbrev pub rest_pieces : List ℕ → List Piece
rest_pieces text = if nat_le (length text) MOST then (if is_blank text then [] else unended ∷ []) else too_long ∷ []

-- each text but the last is ended, and the last is the rest
abbrev pub pieces_of_texts : List (List ℕ) → List Piece
pieces_of_texts [] = []
pieces_of_texts (rest ∷ []) = rest_pieces rest
pieces_of_texts (text ∷ next ∷ more) = ended_piece text ∷ pieces_of_texts (next ∷ more)

-- the pieces of an input, in order
abbrev pub pieces_of : List ℕ → List Piece
pieces_of input = pieces_of_texts (texts input)

-- each text but the last
abbrev pub ended_of_texts : List (List ℕ) → List Piece
ended_of_texts [] = []
ended_of_texts (rest ∷ []) = []
ended_of_texts (text ∷ next ∷ more) = ended_piece text ∷ ended_of_texts (next ∷ more)

-- the pieces of an input whose `;` stands in it, in order
abbrev pub ended_pieces : List ℕ → List Piece
ended_pieces input = ended_of_texts (texts input)

-- bytes in front of the first text
abbrev pub lead : List ℕ → List (List ℕ) → List (List ℕ)
lead [] ts = ts
lead (b ∷ bs) ts = onto_first b (lead bs ts)

-- a text as it is written, each quote doubled
abbrev pub quoted : List ℕ → List ℕ
quoted text = 39 ∷ (flat_map (λ b. if b == 39 then 39 ∷ 39 ∷ [] else b ∷ []) text ++ 39 ∷ [])

-- no line feed
abbrev pub is_one_line : List ℕ → Bool
is_one_line text = list_all (λ b. not (b == 10)) text

-- a comment as it is written, up to its line feed
abbrev pub commented : List ℕ → List ℕ
commented text = 45 ∷ 45 ∷ (text ++ 10 ∷ [])
