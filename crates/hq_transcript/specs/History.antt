-- The replay of a catalogue's log by its history alone: what each entry left there takes the place of what the inputs say.
-- `file_rows` gives the rows of a file's bytes.
--     replay_history nodes history   the replay of the log by the deposits
--     AreOwn ..                      the deposits of session k's Creates, Alters and Commits are what its pieces say
use Rattle.std.specs.Prelude.{◌≡◌, ℕ, Bool, true, false, List, [], ◌∷◌, ◌++◌, map, flat_map, fold, nat_lt, nat_le, not, ◌==◌, ◌||◌, if◌then◌else◌}
use Rattle.std.specs.List.{list_all}
use Rattle.hq_value.specs.declared.entry.EntryKind.{EntryKind}
use Rattle.hq_value.specs.declared.entry.EntryKind.TheVariants as entry
use Rattle.hq_value.specs.declared.value.Value.{Value}
use Rattle.hq_value.specs.declared.kind.Kind.{Kind}
use Rattle.hq_value.specs.Bucket.{share}
use Rattle.hq_value.specs.Order.{SameBag}
use Rattle.hq_value.specs.Tables.{Definition}
use Rattle.hq_block.specs.Block.{padded}
use Rattle.hq_history.specs.declared.noted.Noted.{Noted}
use Rattle.hq_history.specs.declared.noted.Growth.{Growth}
use Rattle.hq_history.specs.declared.noted.Deposit.{Deposit}
use Rattle.hq_history.specs.Deposits.{tables_after, growths_in, bytes_added}
use Rattle.hq_transcript.specs.Pieces.{Piece, piece_at}
use Rattle.hq_transcript.specs.Tables.{Put, kinds_in, keys_of, width}
use Rattle.hq_transcript.specs.Binding.{Binder}
use Rattle.hq_transcript.specs.Sights.{Replay, start, with_entry, changed, published}

-- the entry leaves something of its statement's
abbrev pub leaves : EntryKind → Bool
leaves entry.Commit = true
leaves entry.Create = true
leaves entry.Alter = true
leaves _ = false

-- what session k left is of its first j statements
abbrev pub is_within : ℕ → ℕ → Noted → Bool
is_within k j n = not (n.entry.session == k) || (nat_le n.entry.statement j || not (leaves n.entry.kind))

-- the rows of bucket b of table t among what was put, each with NULLs up to so many columns
abbrev pub bucket_rows : ℕ → List Put → ℕ → ℕ → List (List Value)
bucket_rows columns [] t b = []
bucket_rows columns (put ∷ puts) t b =
    if put.table == t then map (padded columns) (share put.keys put.rows b) ++ bucket_rows columns puts t b else bucket_rows columns puts t b

module _ (file_rows : List Kind → List ℕ → List (List Value)) where
  -- what a file's growth adds to its table, read as an INSERT's rows
  abbrev pub put_in : List Definition → Growth → Put
  put_in tables g = record { table = g.file.table; keys = keys_of tables g.file.table; rows = file_rows (kinds_in tables g.file.table) g.bytes }

  abbrev pub puts_in : List Definition → Deposit → List Put
  puts_in tables deposit = map (put_in tables) (growths_in deposit)

  -- behind an entry, by its deposit
  abbrev pub after_noted : Replay → Noted → Replay
  after_noted r n = with_entry (tables_after r.tables n.deposit) (puts_in r.tables n.deposit) r n.entry

  abbrev pub replay_history : ℕ → List Noted → Replay
  replay_history nodes history = fold after_noted (start nodes) history

  -- the rows that a deposit adds to bucket b of table t: those of its files' bytes, over the table's kinds
  abbrev pub grown_rows : List Definition → Deposit → ℕ → ℕ → List (List Value)
  grown_rows tables deposit t b = flat_map (file_rows (kinds_in tables t)) (bytes_added deposit t b)

  -- in each bucket of each table the deposit has just the rows put, with NULLs up to the table's columns
  pub record HasRows (tables : List Definition) (deposit : Deposit) (puts : List Put) : Type 0 where
    pub buckets : list_all (λ (g : Growth). nat_lt g.file.bucket 16) (growths_in deposit) ≡ true
    pub rows : (t b : ℕ) → SameBag (grown_rows tables deposit t b) (bucket_rows (width tables t) puts t b)

  -- the rows that an entry adds to bucket b of table t, over these tables; only a Commit does
  abbrev pub rows_added : List Definition → EntryKind → Deposit → ℕ → ℕ → List (List Value)
  rows_added tables entry.Commit deposit t b = grown_rows tables deposit t b
  rows_added tables _ deposit t b = []

  -- those of all entries of a history behind r, each over the tables of its place, with NULLs up to so many columns
  abbrev pub rows_left : ℕ → Replay → List Noted → ℕ → ℕ → List (List Value)
  rows_left columns r [] t b = []
  rows_left columns r (n ∷ history) t b =
      map (padded columns) (rows_added r.tables n.entry.kind n.deposit t b) ++ rows_left columns (after_noted r n) history t b

  module _ (binds : Binder) where
    -- an entry of session k leaves what its pieces say, behind r
    abbrev pub IsOwn : ℕ → List Piece → Replay → Noted → EntryKind → Type 0
    IsOwn k pieces r n entry.Commit = HasRows r.tables n.deposit (published binds k pieces r.looks n.entry.statement (piece_at n.entry.statement pieces))
    IsOwn k pieces r n entry.Create = tables_after r.tables n.deposit ≡ changed binds r.tables (piece_at n.entry.statement pieces)
    IsOwn k pieces r n entry.Alter = tables_after r.tables n.deposit ≡ changed binds r.tables (piece_at n.entry.statement pieces)
    IsOwn k pieces r n _ = Unit {0}

    -- each entry of session k leaves what its pieces say
    abbrev pub AreOwn : ℕ → List Piece → Replay → List Noted → Type 0
    AreOwn k pieces r [] = Unit {0}
    AreOwn k pieces r (n ∷ history) = (n.entry.session ≡ k → IsOwn k pieces r n n.entry.kind) × AreOwn k pieces (after_noted r n) history
