-- Worked scripts of several sessions, and of stores and hosts that fail.
use Rattle.std.proofs.Common.{◌≡◌, ℕ, ◌-◌, Bool, true, false, List, [], ◌∷◌, ◌++◌, refl, inl, inr, codes, ◌==◌, if◌then◌else◌}
use Rattle.std.specs.Fmt.{digits}
use Rattle.std.specs.Prelude.{flat_map, replicate}
use Rattle.std.specs.List.{range_with_len}
use denote.Hole.Carrier.{hidden}
use Rattle.hq_algebra.specs.declared.expr.Expr.TheBlock.{hidden-the_row-Expr-0}
use Rattle.hq_expr.specs.declared.tree.SqlExpr.TheBlock.{hidden-the_row-SqlExpr-0}
use Rattle.hq_reply.specs.declared.fault.Fault.TheVariants as fault
use Rattle.hq_value.specs.declared.entry.Entry.{Entry}
use Rattle.hq_value.specs.declared.entry.EntryKind.TheVariants as entry
use Rattle.hq_reply.specs.declared.reply.Reply.TheVariants as reply
use Rattle.hq_bind.specs.Findings.{of_aggregate, of_two, of_compared, of_not, of_null_test}
use Rattle.hq_transcript.specs.Pieces.{Piece}
use Rattle.hq_transcript.specs.Binds.{binds}
use Rattle.hq_transcript.specs.Sights.{committed, committed_puts}
use Rattle.hq_transcript.specs.Step.{Swept, All_out}
use Rattle.hq_transcript.specs.Transcript.{Transcript}
use Rattle.hq_transcript.specs.Examples.{at, alone, row, begin, commit, rollback, make_t, one, all_t}
use Rattle.hq_log.specs.declared.place.Place.{Place}
use Rattle.hq_log.specs.declared.place.Place.TheVariants.{Unborn, Clean, Out}
use Rattle.hq_log.specs.declared.place.Next.TheVariants as which
use Rattle.hq_log.specs.Places.{next_place, is_swept_by}
use Rattle.hq_log.specs.Pools.{pool}
use Rattle.hq_log.specs.Legal.{IsLegal}
use Rattle.std.specs.Prelude.{slice_set}
use Rattle.std.specs.List.{list_any}
use Rattle.hq_transcript.specs.History.{bucket_rows}
use Rattle.hq_transcript.proofs.ExampleWords.{lent, told, idle_at, counted}
use Rattle.hq_transcript.specs.Scripts.{log_filled, inputs_snapshot, log_snapshot}

-- ---- a torn append whose cut fails, and then a sweep
abbrev pub inputs_torn : ℕ → List Piece
inputs_torn k = if k == 1 then make_t ∷ [] else (if k == 2 then one 1 ∷ [] else (if k == 3 then all_t ∷ one 2 ∷ all_t ∷ [] else []))

abbrev pub log_torn : List Entry
log_torn =
    at 1 1 entry.Create ∷ at 2 1 entry.Look ∷ at 2 1 (entry.Lend 0 0) ∷ at 2 1 (entry.Back 0 0 false)
    ∷ at 3 1 entry.Look ∷ at 3 2 entry.Look ∷ at 3 2 (entry.Sweep 0 0) ∷ at 3 2 (entry.Adopt 0 0) ∷ at 3 2 entry.Commit ∷ at 3 3 entry.Look ∷ []

pub shows_torn_second : Transcript binds true 1 inputs_torn log_torn 2 (inputs_torn 2) (codes "ERROR 58030 store failed\n")
shows_torn_second = (
  told (reply.Error fault.Store ∷ []),
  (
    idle_at 2,
    (
      (
        (lent 0, refl, inr (record { why = fault.Store; front = entry.Look ∷ entry.Lend 0 0 ∷ []; rest = entry.Commit ∷ []; back = entry.Back 0 0 false ∷ []; answer = refl; outside = tt; begins = refl; unfinished = refl; ends = refl; given_back = (false, refl) })),
        refl,
      ),
      refl,
    ),
    tt,
  ),
  refl,
)

pub shows_torn_third : Transcript binds true 1 inputs_torn log_torn 3 (inputs_torn 3) (codes "SELECT 0\nINSERT 1\n2\nSELECT 1\n")
unfolding digits
shows_torn_third = (
  told (reply.Rows [] ∷ reply.Inserted 1 ∷ reply.Rows (row 2 ∷ []) ∷ []),
  (
    idle_at 4,
    (((lent 0, refl, inl (refl, refl)), ((record { answered = []; way = Swept 0 }, refl, inl (refl, refl)), ((lent 0, refl, inl (refl, refl)), refl))), refl),
    tt,
  ),
  refl,
)

-- ---- two writers at once, of which one commits
abbrev pub inputs_writers : ℕ → List Piece
inputs_writers k = if k == 1 then begin ∷ one 1 ∷ commit ∷ [] else (if k == 2 then begin ∷ one 2 ∷ rollback ∷ [] else (if k == 3 then make_t ∷ [] else []))

abbrev pub log_writers : List Entry
log_writers =
    at 3 1 entry.Create ∷ at 1 2 entry.Look ∷ at 1 2 (entry.Lend 0 0) ∷ at 2 2 entry.Look ∷ at 2 2 (entry.Lend 0 1)
    ∷ at 1 3 entry.Commit ∷ at 2 3 (entry.Back 0 1 true) ∷ []

pub shows_writers_first : Transcript binds true 1 inputs_writers log_writers 1 (inputs_writers 1) (codes "BEGIN\nINSERT 1\nCOMMIT\n")
unfolding digits
shows_writers_first = (
  told (reply.Begun ∷ reply.Inserted 1 ∷ reply.Committed ∷ []),
  (idle_at 4, (((refl, refl), ((lent 0, refl, inl (refl, refl)), (inl (refl, refl), refl))), refl), tt),
  refl,
)

pub shows_writers_second : Transcript binds true 1 inputs_writers log_writers 2 (inputs_writers 2) (codes "BEGIN\nINSERT 1\nROLLBACK\n")
unfolding digits
shows_writers_second = (
  told (reply.Begun ∷ reply.Inserted 1 ∷ reply.RolledBack ∷ []),
  (idle_at 4, (((refl, refl), ((lent 1, refl, inl (refl, refl)), (((refl, refl, tt), refl), refl))), refl), tt),
  refl,
)

pub shows_writers_puts : committed_puts binds inputs_writers 1 log_writers 7 ≡ record { table = 0; keys = 0 ∷ []; rows = row 1 ∷ [] } ∷ []
shows_writers_puts = refl

pub shows_writers_rows : committed binds inputs_writers 1 log_writers 7 0 ≡ row 1 ∷ []
shows_writers_rows = refl

-- ---- sixty-five writers
abbrev pub inputs_full : ℕ → List Piece
inputs_full k = if k == 66 then make_t ∷ [] else (if k == 65 then one 1 ∷ one 1 ∷ [] else begin ∷ one 1 ∷ rollback ∷ [])

abbrev pub writers : List Entry
writers = at 66 1 entry.Create ∷ flat_map (λ k. at k 2 entry.Look ∷ at k 2 (entry.Lend 0 (k - 1)) ∷ []) (range_with_len 1 64)

abbrev pub log_full : List Entry
log_full = writers ++ at 65 1 entry.Look ∷ at 65 1 (entry.Full 0) ∷ at 1 3 (entry.Back 0 0 true) ∷ at 65 2 entry.Look ∷ at 65 2 (entry.Lend 0 0) ∷ at 65 2 entry.Commit ∷ []

pub shows_full_full : next_place (pool writers 0) ≡ which.AllOut
shows_full_full = refl

pub shows_full : Transcript binds true 1 inputs_full log_full 65 (inputs_full 65) (codes "ERROR HQ005 too many writers\nINSERT 1\n")
unfolding digits
shows_full = (
  told (reply.Error fault.TooManyWriters ∷ reply.Inserted 1 ∷ []),
  (idle_at 3, (((record { answered = []; way = All_out }, refl, inl (refl, refl)), ((lent 0, refl, inl (refl, refl)), refl)), refl), tt),
  refl,
)

-- ---- a snapshot stays as it is
pub shows_snapshot : Transcript binds true 1 inputs_snapshot log_snapshot 1 (inputs_snapshot 1) (codes "BEGIN\n1\nSELECT 1\n1\nSELECT 1\nCOMMIT\n2\nSELECT 1\n")
unfolding digits hidden-the_row-Expr-0 hidden-the_row-SqlExpr-0 hidden of_aggregate of_two of_compared of_not of_null_test
shows_snapshot = (
  told (reply.Begun ∷ counted 1 ∷ counted 1 ∷ reply.Committed ∷ counted 2 ∷ []),
  (
    idle_at 6,
    (((refl, refl), ((lent 0, refl, inl (refl, refl)), ((lent 0, refl, inl (refl, refl)), ((refl, refl), ((lent 0, refl, inl (refl, refl)), refl))))), refl),
    tt,
  ),
  refl,
)

-- ---- a failing segment is marked down, and in the end none is left
abbrev pub input_segments : List Piece
input_segments = make_t ∷ all_t ∷ all_t ∷ all_t ∷ all_t ∷ all_t ∷ []

abbrev pub log_segments : List Entry
log_segments =
    at 1 1 entry.Create ∷ at 1 2 entry.Look ∷ at 1 2 (entry.Mark 1 false) ∷ at 1 3 entry.Look ∷ at 1 4 entry.Look ∷ at 1 4 (entry.Mark 0 false)
    ∷ at 1 5 entry.Look ∷ at 1 5 (entry.Mark 2 false) ∷ at 1 6 entry.Look ∷ []

pub shows_segments : Transcript binds true 3 (alone input_segments) log_segments 1 input_segments (codes "CREATE TABLE\nERROR HQ001 segment 1 failed\nSELECT 0\nERROR HQ001 segment 0 failed\nERROR HQ001 segment 2 failed\nERROR HQ004 no segment\n")
unfolding digits
shows_segments = (
  told (reply.Created ∷ reply.Error (fault.Host 1) ∷ reply.Rows [] ∷ reply.Error (fault.Host 0) ∷ reply.Error (fault.Host 2) ∷ reply.Error fault.NoSegment ∷ []),
  (
    idle_at 7,
    (
      (
        (refl, refl),
        (
          (lent 0, refl, inr (record { why = fault.Host 1; front = entry.Look ∷ []; rest = []; back = []; answer = refl; outside = refl; begins = refl; unfinished = refl; ends = refl; given_back = refl })),
          (
            (lent 0, refl, inl (refl, refl)),
            (
              (lent 0, refl, inr (record { why = fault.Host 0; front = entry.Look ∷ []; rest = []; back = []; answer = refl; outside = refl; begins = refl; unfinished = refl; ends = refl; given_back = refl })),
              (
                (lent 0, refl, inr (record { why = fault.Host 2; front = entry.Look ∷ []; rest = []; back = []; answer = refl; outside = refl; begins = refl; unfinished = refl; ends = refl; given_back = refl })),
                ((lent 0, refl, inl (refl, refl)), refl),
              ),
            ),
          ),
        ),
      ),
      refl,
    ),
    tt,
  ),
  refl,
)

-- ---- the logs are legal
abbrev fresh : List Place
fresh = replicate 64 Unborn

legal_filled_swept : (b : Bool) → list_any (is_swept_by 1) (if b then slice_set fresh 0 (Out 1) else fresh) ≡ false
legal_filled_swept true = refl
legal_filled_swept false = refl

pub legal_filled : IsLegal 1 log_filled
legal_filled = (tt, (tt, ((refl, inr refl), (((0, refl), λ n. legal_filled_swept (n == 0)), (tt, tt)))))

legal_writers_swept : (b : Bool)
    → list_any (is_swept_by 1) (if b then slice_set (if b then slice_set fresh 0 (Out 1) else fresh) 1 (Out 2) else (if b then slice_set fresh 0 (Out 1) else fresh)) ≡ false
legal_writers_swept true = refl
legal_writers_swept false = refl

pub legal_writers : IsLegal 1 log_writers
legal_writers = (tt, (tt, ((refl, inr refl), (tt, ((refl, inr refl), (((0, refl), λ n. legal_writers_swept (n == 0)), (inl refl, tt)))))))

pub pool_writers : pool log_writers 0 ≡ Clean ∷ Clean ∷ replicate 62 Unborn
pool_writers = refl

-- a restart finds each lane cut and each node up
pub pool_restart : pool (log_torn ++ at 0 0 entry.Restart ∷ []) 0 ≡ Clean ∷ replicate 63 Unborn
pool_restart = refl

-- the committed row stands in its bucket, and the other's nowhere
pub shows_writers_bucket : bucket_rows 1 (committed_puts binds inputs_writers 1 log_writers 7) 0 15 ≡ row 1 ∷ []
shows_writers_bucket = refl

pub shows_writers_no_bucket : bucket_rows 1 (committed_puts binds inputs_writers 1 log_writers 7) 0 2 ≡ []
shows_writers_no_bucket = refl
