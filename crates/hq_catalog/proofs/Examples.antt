-- The definitions on a small history, and on wrong answers.
use Rattle.std.proofs.Common.{◌≡◌, ℕ, Bool, true, false, Some, None, List, [], ◌∷◌, ◌++◌, length, map, refl, ap, arith}
use Rattle.hq_value.specs.declared.entry.FileId.{FileId}
use Rattle.hq_value.specs.declared.entry.EntryKind.{EntryKind}
use Rattle.hq_value.specs.declared.entry.EntryKind.TheVariants as entry
use Rattle.hq_value.specs.declared.table.Column.{Column}
use Rattle.hq_value.specs.declared.kind.Kind.TheVariants as kind
use Rattle.hq_value.specs.Tables.{Definition}
use Rattle.hq_store.specs.FileStep.{SealState}
use Rattle.hq_lane.specs.BucketFiles.{BucketState, no_file}
use Rattle.hq_lane.specs.Lanes.{LaneState}
use Rattle.hq_log.specs.declared.place.Next.TheVariants as which
use Rattle.hq_log.specs.Places.{next_place}
use Rattle.hq_history.specs.declared.noted.Noted.{Noted}
use Rattle.hq_history.specs.declared.noted.Growth.{Growth}
use Rattle.hq_history.specs.declared.noted.Deposit.{Deposit}
use Rattle.hq_history.specs.declared.noted.Deposit.TheVariants.{Nothing, Made, Published}
use Rattle.hq_history.specs.Deposits.{tables_left}
use Rattle.hq_snap.specs.declared.scope.Scope.TheVariants.{All}
use Rattle.hq_catalog.specs.declared.ask.Answer.TheVariants as answer
use Rattle.hq_catalog.specs.Files.{last_change, table_named}
use Rattle.hq_catalog.specs.Lanes.{growths_of}
use Rattle.hq_catalog.specs.Looks.{numbers_in, IsSeenSeal}
use Rattle.hq_catalog.specs.CatStep.{noted, places_of, CreateStep, CommitStep, BackStep}

-- t (a INT)
abbrev column : Column
column = record { name = 97 ∷ []; kind = kind.Int; not_null = false }

abbrev table : ℕ → Definition
table letter = record { name = letter ∷ []; columns = column ∷ []; keys = [] }

abbrev file : ℕ → FileId
file bucket = record { table = 0; lane = 0; bucket = bucket }

abbrev grown : ℕ → ℕ → ℕ → List ℕ → Growth
grown bucket before after bytes = record { file = file bucket; before = before; after = after; bytes = bytes }

-- session 1 makes the table and inserts a row; session 2 looks and has lane 0
abbrev an_insert : List Noted
an_insert =
    noted 1 1 entry.Create (Made (table 116))
    ∷ noted 1 2 entry.Look Nothing
    ∷ noted 1 2 (entry.Lend 0 0) Nothing
    ∷ noted 1 2 entry.Commit (Published (grown 0 0 2 (10 ∷ 11 ∷ []) ∷ []))
    ∷ noted 2 1 entry.Look Nothing
    ∷ noted 2 1 (entry.Lend 0 0) Nothing
    ∷ []

-- the Commit at place 3 changed the file of bucket 0 alone
changed-by_an_insert : map (last_change an_insert) (file 0 ∷ file 1 ∷ []) ≡ 4 ∷ 0 ∷ []
changed-by_an_insert = refl

named-after_an_insert : map (λ (letter : ℕ). table_named (letter ∷ []) (tables_left an_insert)) (116 ∷ 117 ∷ []) ≡ Some 0 ∷ None ∷ []
named-after_an_insert = refl

all_tables : numbers_in All 0 (table 116 ∷ table 117 ∷ []) ≡ 0 ∷ 1 ∷ []
all_tables = refl

next-after_an_insert : next_place (places_of an_insert 0) ≡ which.Unborn 1
next-after_an_insert = refl

abbrev sealed : SealState
sealed = record { id = file 0; bytes = 10 ∷ 11 ∷ []; len = 2 }

-- a look of a session that has nothing gets the seal of the file that changed
seen-first : IsSeenSeal true an_insert 0 (file 0) (Some sealed)
seen-first = record { id = refl; len = refl; bytes = λ t. refl }

-- one that has the table as it was behind that Commit gets none
seen-later : IsSeenSeal true an_insert 4 (file 0) None
seen-later = refl

-- a look may not leave out a file that changed
left_out : IsSeenSeal true an_insert 3 (file 0) None → ⊥
left_out h = h

-- nor give the seal before the last Commit
seal_before : IsSeenSeal true an_insert 0 (file 0) (Some (record { id = file 0; bytes = 10 ∷ []; len = 1 })) → ⊥
seal_before h = absurd (let e : 1 ≡ 2 = h.len in omega (arith, e))

-- a file with two committed bytes and one behind them
abbrev longer : ℕ → BucketState
longer bucket = record {
  id = file bucket;
  file = Some (record { id = file bucket; bytes = 10 ∷ 11 ∷ 12 ∷ []; sure = 3; sealed = 2; flushed = true });
  base = 2;
  good = 3;
  torn = false;
  fresh = Some (record { id = file bucket; bytes = 10 ∷ 11 ∷ 12 ∷ []; len = 3 });
}

abbrev lane : ℕ → LaneState
lane n = record { table = 0; number = n; files = longer 0 ∷ no_file (file 1) ∷ longer 2 ∷ [] }

-- what a Commit adds: of each file that has grown the bytes behind the committed ones
growths-of_a_lane : growths_of true (lane 0 ∷ []) ≡ grown 0 2 3 (12 ∷ []) ∷ grown 2 2 3 (12 ∷ []) ∷ []
growths-of_a_lane = refl

-- and no bytes where they aren't told
growths-untold : growths_of false (lane 0 ∷ []) ≡ grown 0 2 3 [] ∷ grown 2 2 3 [] ∷ []
growths-untold = refl

-- of the only new entry: how many growths it has, its session, and whether it is a clean Back
abbrev growths_in_last : List Noted → ℕ
growths_in_last [] = 0
growths_in_last (n ∷ ns) = count n.deposit
  where
    count : Deposit → ℕ
    count (Published gs) = length gs
    count _ = 0

abbrev session_of_first : List Noted → ℕ
session_of_first [] = 0
session_of_first (n ∷ ns) = n.entry.session

abbrev is_clean_back : EntryKind → Bool
is_clean_back (entry.Back t n clean) = clean
is_clean_back _ = false

abbrev first_is_clean_back : List Noted → Bool
first_is_clean_back [] = false
first_is_clean_back (n ∷ ns) = is_clean_back n.entry.kind

-- a Commit may not publish one lane of two
one_of_two : CommitStep {F = Unit {0}} {Z = Unit {0}} true 1 1 2 [] (noted 1 2 entry.Commit (Published (growths_of true (lane 0 ∷ []))) ∷ []) (lane 0 ∷ lane 1 ∷ []) answer.Done → ⊥
one_of_two h = absurd (let e : 2 ≡ 4 = ap growths_in_last h in omega (arith, e))

-- an entry may not have another session's number
another_session : CommitStep {F = Unit {0}} {Z = Unit {0}} true 1 1 2 [] (noted 2 2 entry.Commit (Published (growths_of true (lane 0 ∷ []))) ∷ []) (lane 0 ∷ []) answer.Done → ⊥
another_session h = absurd (let e : 2 ≡ 1 = ap session_of_first h in omega (arith, e))

-- one ask may not leave two entries
two_entries : CommitStep {F = Unit {0}} {Z = Unit {0}} true 1 1 2 [] (noted 1 2 entry.Commit (Published []) ∷ noted 1 2 entry.Look Nothing ∷ []) [] answer.Done → ⊥
two_entries h = absurd (let e : 2 ≡ 1 = ap (λ (ns : List Noted). length ns) h in omega (arith, e))

-- a lane that is not cut may not come home as clean
uncut : BackStep {F = Unit {0}} {Z = Unit {0}} true 1 1 2 [] (noted 1 2 (entry.Back 0 0 true) Nothing ∷ []) (lane 0) answer.Done → ⊥
uncut h = absurd (let e : true ≡ false = ap first_is_clean_back h in cc)

-- a new name doesn't exist
exists_for_a_new_name : CreateStep {F = Unit {0}} {Z = Unit {0}} true 1 1 7 an_insert (an_insert ++ noted 1 7 entry.Create Nothing ∷ []) (table 117) answer.Exists → ⊥
exists_for_a_new_name h = absurd (let e : true ≡ false = h.1 in cc)

-- one table is not 64
too_many_at_one : CreateStep {F = Unit {0}} {Z = Unit {0}} true 1 1 7 an_insert (an_insert ++ noted 1 7 entry.Create Nothing ∷ []) (table 117) (answer.TooManyTables 64) → ⊥
too_many_at_one h = absurd (let e : 1 ≡ 64 = h.2 in omega (arith, e))
