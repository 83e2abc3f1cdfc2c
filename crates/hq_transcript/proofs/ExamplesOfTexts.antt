-- Worked scripts from their bytes.
use Rattle.std.proofs.Common.{◌≡◌, [], ◌∷◌, codes, refl}
use lib.Utf8.{encode}
use Rattle.std.specs.Str.{is_utf8, chars}
use Rattle.hq_lex.specs.Front.{front, gap}
use Rattle.hq_lex.specs.Step.{step_at}
use Rattle.hq_expr.specs.Lexemes.{reserved}
use Rattle.hq_expr.specs.Lists.{list_from}
use Rattle.hq_expr.specs.Parts.{value}
use Rattle.hq_expr.specs.Reader as r
use Rattle.hq_expr.specs.Reading as e
use Rattle.hq_sql.specs.Reading.{repeat_from}
use Rattle.hq_sql.specs.Grammar as g
use Rattle.hq_transcript.specs.Pieces.{Blank}
use Rattle.hq_transcript.specs.Reading.{pieces_in}
use Rattle.hq_transcript.specs.Scripts.{text_filled, input_filled}

pub read_blanks : pieces_in (codes ";-- x;y'\n;") ≡ Blank ∷ Blank ∷ []
read_blanks = refl

pub read_filled : pieces_in text_filled ≡ input_filled
unfolding is_utf8 chars encode front gap step_at reserved list_from repeat_from value r.expect r.name r.digits r.text e.literal e.negated g.statement_rule g.create g.alter g.addition g.new_column g.nullable g.insert g.select g.transaction g.snapshot g.column g.nullity g.distribution g.names g.insert_columns g.insert_input g.tuple g.head g.middle g.tail g.distinct g.items g.item g.alias g.from g.source g.more_source g.join g.filter g.groups g.having g.keys g.key g.order g.direction g.limit
read_filled = refl
