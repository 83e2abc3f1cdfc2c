-- A history of files, and what its catalogue left. In place of blocks the rows of a file are here one for each byte.
use Rattle.std.proofs.Common.{◌≡◌, ℕ, zero, suc, Bool, true, false, List, [], ◌∷◌, ◌++◌, length, map, ◌==◌, ◌&&◌, flat_map, if◌then◌else◌, true≢false, refl, arith}
use Rattle.hq_value.specs.declared.entry.Entry.{Entry}
use Rattle.hq_value.specs.declared.entry.EntryKind.TheVariants as entry
use Rattle.hq_value.specs.declared.kind.Kind.{Kind}
use Rattle.hq_value.specs.declared.value.Value.{Value}
use Rattle.hq_value.specs.Order.{row_cmp, SameBag}
use Rattle.hq_value.specs.Sorting.{times}
use Rattle.hq_value.specs.Tables.{Definition}
use Rattle.hq_block.specs.Block.{padded}
use Rattle.hq_history.specs.declared.noted.Noted.{Noted}
use Rattle.hq_history.specs.declared.noted.Growth.{Growth}
use Rattle.hq_history.specs.declared.noted.Deposit.{Deposit}
use Rattle.hq_history.specs.declared.noted.Deposit.TheVariants.{Nothing, Made, Published}
use Rattle.hq_history.specs.History.{entries_of}
use Rattle.hq_transcript.specs.Tables.{Put, database, width}
use Rattle.hq_transcript.specs.Binds.{binds}
use Rattle.hq_transcript.specs.Sights.{Replay, start}
use Rattle.hq_transcript.specs.History.{replay_history, bucket_rows, grown_rows, rows_left, HasRows, AreOwn}
use Rattle.hq_transcript.specs.Examples.{at, int_column, row, t, a}
use Rattle.hq_transcript.specs.Scripts.{input_filled, log_filled}

-- in place of blocks a row for each byte
abbrev pub rows_of_bytes : List Kind → List ℕ → List (List Value)
rows_of_bytes kinds bytes = map row bytes

abbrev pub noted : Entry → Deposit → Noted
noted e deposit = record { entry = e; deposit = deposit }

abbrev pub grown : ℕ → List ℕ → Growth
grown bucket bytes = record { file = record { table = 0; lane = 0; bucket = bucket }; before = 0; after = length bytes; bytes = bytes }

abbrev pub table_t : Definition
table_t = record { name = t; columns = int_column a ∷ []; keys = 0 ∷ [] }

-- what the INSERT of 2, 1 and 2 leaves: 1 in bucket 15, and the others in bucket 2
abbrev pub left_filled : Deposit
left_filled = Published (grown 15 (1 ∷ []) ∷ grown 2 (2 ∷ 2 ∷ []) ∷ [])

abbrev pub history_filled : List Noted
history_filled =
    noted (at 1 1 entry.Create) (Made table_t) ∷ noted (at 1 2 entry.Look) Nothing ∷ noted (at 1 2 (entry.Lend 0 0)) Nothing
    ∷ noted (at 1 2 entry.Commit) left_filled ∷ noted (at 1 3 entry.Look) Nothing ∷ []

pub shows_history_log : entries_of history_filled ≡ log_filled
shows_history_log = refl

abbrev after_filled : Replay
after_filled = replay_history rows_of_bytes 1 history_filled

pub shows_history_rows : database after_filled.tables after_filled.puts 0 ≡ row 1 ∷ row 2 ∷ row 2 ∷ []
shows_history_rows = refl

pub shows_history_bucket : rows_left rows_of_bytes 1 (start 1) history_filled 0 15 ≡ row 1 ∷ []
shows_history_bucket = refl

-- the rows of the two files are those of the tuples, bucket by bucket
in_the_table : (c d : Bool) (x : List Value)
    → times row_cmp x (flat_map (map row) (if d then ((1 ∷ []) ∷ (if c then ((2 ∷ 2 ∷ []) ∷ []) else [])) else (if c then ((2 ∷ 2 ∷ []) ∷ []) else [])))
    ≡ times row_cmp x (map (padded 1) (if c then (row 2 ∷ (if d then (row 1 ∷ (if c then (row 2 ∷ []) else [])) else (if c then (row 2 ∷ []) else []))) else (if d then (row 1 ∷ (if c then (row 2 ∷ []) else [])) else (if c then (row 2 ∷ []) else []))) ++ [])
in_the_table true true x = omega arith
in_the_table true false x = omega arith
in_the_table false true x = omega arith
in_the_table false false x = omega arith

abbrev put_filled : List Put
put_filled = record { table = 0; keys = 0 ∷ []; rows = row 2 ∷ row 1 ∷ row 2 ∷ [] } ∷ []

in_no_other : (same c d : Bool) (w : ℕ) (x : List Value) → same ≡ false
    → times row_cmp x (flat_map (map row) (if same && d then ((1 ∷ []) ∷ (if same && c then ((2 ∷ 2 ∷ []) ∷ []) else [])) else (if same && c then ((2 ∷ 2 ∷ []) ∷ []) else [])))
    ≡ times row_cmp x (if same
    then map (padded w) (if c then (row 2 ∷ (if d then (row 1 ∷ (if c then (row 2 ∷ []) else [])) else (if c then (row 2 ∷ []) else []))) else (if d then (row 1 ∷ (if c then (row 2 ∷ []) else [])) else (if c then (row 2 ∷ []) else []))) ++ []
    else [])
in_no_other false c d w x e = refl
in_no_other true c d w x e = absurd (true≢false e)

has_rows : (u b : ℕ) → SameBag (grown_rows rows_of_bytes (table_t ∷ []) left_filled u b) (bucket_rows (width (table_t ∷ []) u) put_filled u b)
has_rows zero b x = in_the_table (2 == b) (15 == b) x
has_rows (suc n) b x = in_no_other (0 == suc n) (2 == b) (15 == b) (width (table_t ∷ []) (suc n)) x (grind arith)

pub shows_own : AreOwn rows_of_bytes binds 1 input_filled (start 1) history_filled
shows_own = (λ s. refl, (λ s. tt, (λ s. tt, (λ s. record { buckets = refl; rows = has_rows }, (λ s. tt, tt)))))

-- a row in another bucket, and one row less, are none of the statement's
pub not_own_bucket : HasRows rows_of_bytes (table_t ∷ []) (Published (grown 3 (1 ∷ []) ∷ grown 2 (2 ∷ 2 ∷ []) ∷ [])) put_filled → ⊥
not_own_bucket h = let none : ◌≡◌ {A = ℕ} 0 1 = h.rows 0 15 (row 1) in cc

pub not_own_count : HasRows rows_of_bytes (table_t ∷ []) (Published (grown 15 (1 ∷ []) ∷ grown 2 (2 ∷ []) ∷ [])) put_filled → ⊥
not_own_count h = let one : ◌≡◌ {A = ℕ} 1 2 = h.rows 0 2 (row 2) in cc
