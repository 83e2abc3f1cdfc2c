-- The answers to small inputs, computed.
use Rattle.std.proofs.Common.{◌≡◌, List, [], codes, map, true, false, refl, ℕ, ap, true≢false}
use Rattle.std.specs.Fmt.{digits}
use lib.Utf8.{encode}
use Rattle.std.specs.Str.{bytes_eq, is_utf8, chars}
use Rattle.hq_lex.specs.Front.{front, gap}
use Rattle.hq_lex.specs.Step.{step_at}
use Rattle.hq_expr.specs.Lexemes.{reserved}
use Rattle.hq_expr.specs.Lists.{list_from}
use Rattle.hq_expr.specs.Parts.{value}
use Rattle.hq_expr.specs.Reader as r
use Rattle.hq_expr.specs.Reading as e
use Rattle.hq_sql.specs.Reading.{repeat_from}
use Rattle.hq_sql.specs.Grammar as g
use Rattle.hq_io.specs.Pieces.{Piece, pieces_of}
use Rattle.hq_server.specs.Course.{Moment, Transcript}

-- each piece met with memory
abbrev answered : List Piece → List Moment
answered pieces = map (λ piece. (piece, false)) pieces

abbrev worked : List ℕ
worked = codes "CREATE TABLE t (a INT);INSERT INTO t VALUES (2),(1),(2);SELECT * FROM t;"

abbrev refused : List ℕ
refused = codes "SELECT * FROM nope;"

abbrev worked_replies : List ℕ
worked_replies = codes "CREATE TABLE\nINSERT 3\n1\n2\n2\nSELECT 3\n"

worked_row : Transcript (pieces_of worked) worked_replies
unfolding is_utf8 chars encode front gap step_at reserved list_from repeat_from value r.expect r.name r.digits r.text e.literal e.negated g.statement_rule g.create g.alter g.addition g.new_column g.nullable g.insert g.select g.transaction g.snapshot g.column g.nullity g.distribution g.names g.insert_columns g.insert_input g.tuple g.head g.middle g.tail g.distinct g.items g.item g.alias g.from g.source g.more_source g.join g.filter g.groups g.having g.keys g.key g.order g.direction g.limit digits
worked_row = (answered (pieces_of worked), refl, refl)

empty_input : Transcript (pieces_of []) []
empty_input = ([], refl, refl)

refusal : Transcript (pieces_of refused) (codes "ERROR 42P01 no such table\n")
unfolding is_utf8 chars encode front gap step_at reserved list_from repeat_from value r.expect r.name r.digits r.text e.literal e.negated g.statement_rule g.create g.alter g.addition g.new_column g.nullable g.insert g.select g.transaction g.snapshot g.column g.nullity g.distribution g.names g.insert_columns g.insert_input g.tuple g.head g.middle g.tail g.distinct g.items g.item g.alias g.from g.source g.more_source g.join g.filter g.groups g.having g.keys g.key g.order g.direction g.limit
refusal = (answered (pieces_of refused), refl, refl)

-- the rows in the order in which they were inserted are no answer
not_as_inserted : worked_replies ≡ codes "CREATE TABLE\nINSERT 3\n2\n1\n2\nSELECT 3\n" → ⊥
not_as_inserted same =
    let found : true ≡ false = ap (bytes_eq worked_replies) same in
    true≢false found
