-- What a slice has on its node.
--     HeldState                      the tables as a look saw them, the own lanes, the buckets, and what each slice sent
--     table_in tables t         the table of this number
--     kinds_in h t              the kinds of its columns
--     bucket_files lanes h t b  the bytes of bucket b of a table: the committed ones lane by lane, then the own ones
--     files_of h t              those of all given buckets, ascending
--     table_rows h t            the rows of the given buckets of a table
--     kept_in tests h t         those of the blocks that the tests do not skip
--     reads_in tests h t        how many bytes are read of the blocks
--     sent_rows h s             the rows that slice s sent
--     here h                    all of this, as a node has it
use Rattle.std.specs.Prelude.{ℕ, Bool, ◌==◌, ◌-◌, List, [], ◌∷◌, ◌++◌, map, flat_map, sum_by, Option, Some, None, if◌then◌else◌}
use Rattle.std.specs.List.{list_any, range_with_len}
use Rattle.std.specs.Option.{option_map_or}
use Rattle.std.specs.Global.{Vec}
use Rattle.hq_value.specs.declared.value.Value.{Value}
use Rattle.hq_value.specs.declared.kind.Kind.{Kind}
use Rattle.hq_value.specs.Kinds.{kinds_of}
use Rattle.hq_block.specs.declared.skip.ColumnTest.{ColumnTest}
use Rattle.hq_store.specs.FileStep.{SealState}
use Rattle.hq_lane.specs.BucketFiles.{own_bytes}
use Rattle.hq_lane.specs.FileBlocks.{blocks_in, joined_rows, kept_rows, read_sum}
use Rattle.hq_lane.specs.Lanes.{LaneState, file_of}
use Rattle.hq_snap.specs.Snaps.{TableSnapState, seal_at, seal_bytes}
use Rattle.hq_meaning.specs.Slices.{Here}

-- the tables as a look saw them, the own lanes, the buckets, and what each slice sent
pub record HeldState : Type 0 where
  pub tables : List TableSnapState
  pub own : List LaneState
  pub buckets : List ℕ
  pub incoming : List (ℕ × Vec (List Value))

abbrev pub held : List TableSnapState → List LaneState → List ℕ → List (ℕ × Vec (List Value)) → HeldState
held tables own buckets incoming = record { tables = tables; own = own; buckets = buckets; incoming = incoming }

abbrev pub has_bucket : List ℕ → ℕ → Bool
has_bucket buckets b = list_any (λ c. c == b) buckets

-- the table of this number
abbrev pub table_in : List TableSnapState → ℕ → Option TableSnapState
table_in [] t = None
table_in (snap ∷ snaps) t = if snap.table == t then Some snap else table_in snaps t

-- the kinds of its columns
abbrev pub kinds_in : HeldState → ℕ → List Kind
kinds_in h t = option_map_or (λ (snap : TableSnapState). kinds_of snap.def.columns) (table_in h.tables t) []

-- the committed bytes of bucket b of a table, lane by lane
abbrev pub lanes_bytes : List (List (Option SealState)) → ℕ → List (List ℕ)
lanes_bytes lanes b = map (λ seals. seal_bytes (seal_at seals b)) lanes

abbrev pub lanes_in : HeldState → ℕ → List (List (Option SealState))
lanes_in h t = option_map_or (λ (snap : TableSnapState). snap.lanes) (table_in h.tables t) []

abbrev pub sealed_files : HeldState → ℕ → ℕ → List (List ℕ)
sealed_files h t b = lanes_bytes (lanes_in h t) b

-- the bytes behind those in the table's own lanes
abbrev pub own_file : ℕ → ℕ → LaneState → List (List ℕ)
own_file t b lane = if lane.table == t then own_bytes (file_of lane.files b) ∷ [] else []

abbrev pub own_files : List LaneState → ℕ → ℕ → List (List ℕ)
own_files own t b = flat_map (own_file t b) own

-- the committed ones lane by lane, then the own ones
abbrev pub bucket_files : List (List (Option SealState)) → HeldState → ℕ → ℕ → List (List ℕ)
bucket_files lanes h t b = lanes_bytes lanes b ++ own_files h.own t b

-- those of a bucket, if it is given
abbrev pub given_files : List (List (Option SealState)) → HeldState → ℕ → ℕ → List (List ℕ)
given_files lanes h t b = if has_bucket h.buckets b then bucket_files lanes h t b else []

-- those of the given buckets from one on
abbrev pub buckets_files : List (List (Option SealState)) → HeldState → ℕ → ℕ → List (List ℕ)
buckets_files lanes h t first = flat_map (given_files lanes h t) (range_with_len first (16 - first))

-- those of all given buckets, ascending
abbrev pub files_of : HeldState → ℕ → List (List ℕ)
files_of h t = buckets_files (lanes_in h t) h t 0

-- the rows of a file
abbrev pub file_rows : List Kind → List ℕ → List (List Value)
file_rows kinds bytes = joined_rows (blocks_in kinds bytes)

-- the rows of the given buckets of a table
abbrev pub table_rows : HeldState → ℕ → List (List Value)
table_rows h t = flat_map (file_rows (kinds_in h t)) (files_of h t)

-- those of the blocks that the tests do not skip
abbrev pub kept_in : List ColumnTest → HeldState → ℕ → List (List Value)
kept_in tests h t = flat_map (kept_rows tests (kinds_in h t)) (files_of h t)

-- how many bytes are read of the blocks
abbrev pub reads_in : List ColumnTest → HeldState → ℕ → ℕ
reads_in tests h t = sum_by (read_sum tests (kinds_in h t)) (files_of h t)

-- the rows that a slice sent
abbrev pub rows_sent : List (ℕ × Vec (List Value)) → ℕ → List (List Value)
rows_sent [] s = []
rows_sent (sent ∷ others) s = if sent.0 == s then sent.1.items else rows_sent others s

abbrev pub sent_rows : HeldState → ℕ → List (List Value)
sent_rows h s = rows_sent h.incoming s

-- all of this, as a node has it
abbrev pub here : HeldState → Here
here h = record { tables = table_rows h; sent = sent_rows h }
