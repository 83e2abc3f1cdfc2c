-- The texts of some replies, computed.
use Rattle.std.proofs.Common.{◌≡◌, ℕ, pos, negsuc, true, false, List, [], ◌∷◌, Option, None, Some, codes, refl}
use Rattle.std.specs.Fmt.{digits}
use Rattle.hq_value.specs.declared.value.Value.{Value}
use Rattle.hq_value.specs.declared.value.Value.TheVariants as value
use Rattle.hq_reply.specs.declared.fault.Fault.{Fault}
use Rattle.hq_reply.specs.declared.fault.Fault.TheVariants as fault
use Rattle.hq_reply.specs.declared.reply.Reply.{Reply}
use Rattle.hq_reply.specs.declared.reply.Reply.TheVariants as reply
use Rattle.hq_reply.specs.Texts.{value_text, reply_text, replies_text}

-- rows of one integer
ints : List ℕ → List (List Value)
ints [] = []
ints (n ∷ ns) = (value.Int (pos n) ∷ []) ∷ ints ns

rows_in_lines : reply_text (reply.Rows (ints (1 ∷ 2 ∷ 2 ∷ []))) ≡ codes "1\n2\n2\nSELECT 3\n"
unfolding digits ints
rows_in_lines = refl

no_rows : reply_text (reply.Rows []) ≡ codes "SELECT 0\n"
unfolding digits
no_rows = refl

-- `a`, `|`, `\`, a line feed and `b` in one line
escapes_in_a_text : value_text (value.Text (97 ∷ 124 ∷ 92 ∷ 10 ∷ 98 ∷ [])) ≡ codes "a\\|\\\\\\nb"
escapes_in_a_text = refl

a_carriage_return : value_text (value.Text (13 ∷ [])) ≡ codes "\\r"
a_carriage_return = refl

truth_values_and_null : reply_text (reply.Rows ((value.Bool false ∷ []) ∷ (value.Bool true ∷ []) ∷ (value.Null ∷ []) ∷ [])) ≡ codes "f\nt\n\\N\nSELECT 3\n"
unfolding digits
truth_values_and_null = refl

values_joined : reply_text (reply.Rows ((value.Int (pos 1) ∷ value.Int (negsuc 9) ∷ []) ∷ (value.Null ∷ value.Text [] ∷ value.Int (pos 60) ∷ []) ∷ [])) ≡ codes "1|-10\n\\N||60\nSELECT 2\n"
unfolding digits
values_joined = refl

inserted : reply_text (reply.Inserted 3) ≡ codes "INSERT 3\n"
unfolding digits
inserted = refl

-- a script's replies; the blank piece has none
a_transaction : replies_text (Some reply.Created ∷ Some reply.Altered ∷ None ∷ Some reply.Begun ∷ Some reply.Committed ∷ Some reply.RolledBack ∷ []) ≡ codes "CREATE TABLE\nALTER TABLE\nBEGIN\nCOMMIT\nROLLBACK\n"
a_transaction = refl

-- replies that are refusals
refused : List Fault → List (Option Reply)
refused [] = []
refused (fault ∷ faults) = Some (reply.Error fault) ∷ refused faults

refused_by_its_text : replies_text (refused (fault.TooLong ∷ fault.Syntax ∷ fault.TransactionFailed ∷ fault.TransactionOpen ∷ fault.NoTransaction ∷ fault.Limit ∷ fault.DuplicateColumn ∷ fault.UndefinedColumn ∷ [])) ≡ codes "ERROR 54000 statement too long\nERROR 42601 syntax error\nERROR 25P02 transaction has failed\nERROR 25001 transaction is open\nERROR 25P01 no transaction\nERROR 54000 limit passed\nERROR 42701 column named twice\nERROR 42703 no such column\n"
unfolding refused
refused_by_its_text = refl

refused_over_tables : replies_text (refused (fault.TableExists ∷ fault.TooManyTables ∷ fault.UndefinedTable ∷ fault.DuplicateSource ∷ fault.AmbiguousColumn ∷ fault.TypeMismatch ∷ fault.NotGrouped ∷ [])) ≡ codes "ERROR 42P07 table exists\nERROR 54000 too many tables\nERROR 42P01 no such table\nERROR 42712 source name used twice\nERROR 42702 column is ambiguous\nERROR 42804 kinds do not fit\nERROR 42803 column is not grouped\n"
unfolding refused
refused_over_tables = refl

refused_at_work : replies_text (refused (fault.NoSegment ∷ fault.NumericRange ∷ fault.NullNotAllowed ∷ fault.TooManyWriters ∷ fault.Store ∷ fault.Host 1 ∷ fault.LinkLost 0 ∷ fault.LinkFailed 15 ∷ fault.BadBlock ∷ fault.NoMemory ∷ [])) ≡ codes "ERROR HQ004 no segment\nERROR 22003 number out of range\nERROR 23502 null not allowed\nERROR HQ005 too many writers\nERROR 58030 store failed\nERROR HQ001 segment 1 failed\nERROR HQ002 link 0 lost\nERROR HQ003 link 15 failed\nERROR HQ006 bad block\nERROR 53200 out of memory\n"
unfolding digits refused
refused_at_work = refl

-- texts that are not given: NULL isn't an empty text, a line isn't without its line feed, and a `|` in a text isn't bare
null_is_not_empty : value_text value.Null ≡ [] → ⊥
null_is_not_empty h = cc

no_line_without_end : reply_text reply.Created ≡ codes "CREATE TABLE" → ⊥
no_line_without_end h = cc

no_bare_bar : value_text (value.Text (124 ∷ [])) ≡ codes "|" → ⊥
no_bare_bar h = cc
