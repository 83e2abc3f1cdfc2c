-- The texts of replies, in bytes.
--     value_text value        how a value is printed
--     row_text row            the values, joined by `|`
--     fault_text fault        the code and the text of a refusal
--     reply_text reply        the lines of a reply
--     replies_text replies    the texts, one behind another
use Rattle.std.specs.Prelude.{◌≡◌, ◌⊎◌, ℕ, true, false, List, [], ◌∷◌, ◌++◌, length, Option, Some, None, codes, decimal, flat_map, if◌then◌else◌, ◌==◌}
use Rattle.std.specs.Fmt.{signed_decimal}
use Rattle.hq_value.specs.declared.value.Value.{Value}
use Rattle.hq_value.specs.declared.value.Value.TheVariants as variant
use Rattle.hq_reply.specs.declared.fault.Fault.{Fault}
use Rattle.hq_reply.specs.declared.fault.Fault.TheVariants as fault
use Rattle.hq_reply.specs.declared.reply.Reply.{Reply}
use Rattle.hq_reply.specs.declared.reply.Reply.TheVariants as reply

-- a byte of a text: `\`, `|`, a line feed and a carriage return have a `\` in front, others stand as they are
abbrev pub printed_byte : ℕ → List ℕ
printed_byte byte =
    if byte == 92 then codes "\\\\"
    else (if byte == 124 then codes "\\|"
    else (if byte == 10 then codes "\\n"
    else (if byte == 13 then codes "\\r"
    else byte ∷ [])))

-- a byte alone, or bytes that are printed as they stand
abbrev pub IsPart : List ℕ → Type 0
IsPart part = (length part ≡ 1) ⊎ (flat_map printed_byte part ≡ part)

-- NULL is `\N`, FALSE `f`, TRUE `t`, an integer decimal
abbrev pub value_text : Value → List ℕ
value_text variant.Null = codes "\\N"
value_text (variant.Bool false) = codes "f"
value_text (variant.Bool true) = codes "t"
value_text (variant.Int number) = signed_decimal number
value_text (variant.Text text) = flat_map printed_byte text

-- a `|` and the value
abbrev pub behind_bar : Value → List ℕ
behind_bar value = codes "|" ++ value_text value

-- the values, joined by `|`
abbrev pub row_text : List Value → List ℕ
row_text [] = []
row_text (first ∷ further) = value_text first ++ flat_map behind_bar further

-- a line feed behind the text
abbrev pub line : List ℕ → List ℕ
line text = text ++ 10 ∷ []

-- a row in a line
abbrev pub row_line : List Value → List ℕ
row_line row = line (row_text row)

-- a line for each row, and one with their number
abbrev pub rows_text : List (List Value) → List ℕ
rows_text rows = flat_map row_line rows ++ line (codes "SELECT " ++ decimal (length rows))

-- the number of a node, where there is one
abbrev pub node_text : Option ℕ → List ℕ
node_text None = []
node_text (Some node) = decimal node

-- the code and the text of a refusal
abbrev pub fault_text : Fault → List ℕ
fault_text fault.TooLong = codes "54000 statement too long"
fault_text fault.Syntax = codes "42601 syntax error"
fault_text fault.TransactionFailed = codes "25P02 transaction has failed"
fault_text fault.TransactionOpen = codes "25001 transaction is open"
fault_text fault.NoTransaction = codes "25P01 no transaction"
fault_text fault.Limit = codes "54000 limit passed"
fault_text fault.DuplicateColumn = codes "42701 column named twice"
fault_text fault.UndefinedColumn = codes "42703 no such column"
fault_text fault.TableExists = codes "42P07 table exists"
fault_text fault.TooManyTables = codes "54000 too many tables"
fault_text fault.UndefinedTable = codes "42P01 no such table"
fault_text fault.DuplicateSource = codes "42712 source name used twice"
fault_text fault.AmbiguousColumn = codes "42702 column is ambiguous"
fault_text fault.TypeMismatch = codes "42804 kinds do not fit"
fault_text fault.NotGrouped = codes "42803 column is not grouped"
fault_text fault.NoSegment = codes "HQ004 no segment"
fault_text fault.NumericRange = codes "22003 number out of range"
fault_text fault.NullNotAllowed = codes "23502 null not allowed"
fault_text fault.TooManyWriters = codes "HQ005 too many writers"
fault_text fault.Store = codes "58030 store failed"
fault_text (fault.Host node) = codes "HQ001 segment " ++ decimal node ++ codes " failed"
fault_text (fault.LinkLost node) = codes "HQ002 link " ++ decimal node ++ codes " lost"
fault_text (fault.LinkFailed node) = codes "HQ003 link " ++ decimal node ++ codes " failed"
fault_text fault.BadBlock = codes "HQ006 bad block"
fault_text fault.NoMemory = codes "53200 out of memory"

-- each line ends with a line feed
abbrev pub reply_text : Reply → List ℕ
reply_text (reply.Rows rows) = rows_text rows
reply_text (reply.Inserted count) = line (codes "INSERT " ++ decimal count)
reply_text reply.Created = line (codes "CREATE TABLE")
reply_text reply.Altered = line (codes "ALTER TABLE")
reply_text reply.Begun = line (codes "BEGIN")
reply_text reply.Committed = line (codes "COMMIT")
reply_text reply.RolledBack = line (codes "ROLLBACK")
reply_text (reply.Error fault) = line (codes "ERROR " ++ fault_text fault)

-- the texts, one behind another; a blank piece has no reply
abbrev pub replies_text : List (Option Reply) → List ℕ
replies_text [] = []
replies_text (None ∷ replies) = replies_text replies
replies_text (Some reply ∷ replies) = reply_text reply ++ replies_text replies
