-- The definitions on small histories, and on wrong ones.
use Rattle.std.proofs.Common.{◌≡◌, ℕ, true, false, Some, None, List, [], ◌∷◌, ◌++◌, length, map, refl, arith}
use Rattle.hq_value.specs.declared.entry.FileId.{FileId}
use Rattle.hq_value.specs.declared.entry.EntryKind.{EntryKind}
use Rattle.hq_value.specs.declared.entry.EntryKind.TheVariants.{Look, Create, Lend, Commit, Alter}
use Rattle.hq_value.specs.declared.table.Column.{Column}
use Rattle.hq_value.specs.declared.kind.Kind.TheVariants as kind
use Rattle.hq_value.specs.Tables.{Definition}
use Rattle.hq_history.specs.declared.noted.Noted.{Noted}
use Rattle.hq_history.specs.declared.noted.Growth.{Growth}
use Rattle.hq_history.specs.declared.noted.Deposit.{Deposit}
use Rattle.hq_history.specs.declared.noted.Deposit.TheVariants.{Nothing, Made, Added, Published}
use Rattle.hq_history.specs.History.{by, AllBelow}
use Rattle.hq_history.specs.Deposits.{tables_left, length_left, bytes_left, bytes_added, IsDeposit}

abbrev noted : ℕ → ℕ → EntryKind → Deposit → Noted
noted k m kind deposit = record { entry = record { session = k; statement = m; kind = kind }; deposit = deposit }

-- t (a INT)
abbrev column : ℕ → Column
column letter = record { name = letter ∷ []; kind = kind.Int; not_null = false }

abbrev table : Definition
table = record { name = 116 ∷ []; columns = column 97 ∷ []; keys = [] }

abbrev file : ℕ → FileId
file bucket = record { table = 0; lane = 0; bucket = bucket }

abbrev grown : ℕ → ℕ → ℕ → List ℕ → Growth
grown bucket before after bytes = record { file = file bucket; before = before; after = after; bytes = bytes }

-- session 1 makes the table and inserts two rows; session 2 looks, and inserts one
abbrev two_inserts : List Noted
two_inserts =
    noted 1 1 Create (Made table)
    ∷ noted 1 2 Look Nothing
    ∷ noted 1 2 (Lend 0 0) Nothing
    ∷ noted 1 2 Commit (Published (grown 0 0 2 (10 ∷ 11 ∷ []) ∷ grown 1 0 1 (20 ∷ []) ∷ []))
    ∷ noted 2 1 Look Nothing
    ∷ noted 2 1 (Lend 0 0) Nothing
    ∷ noted 2 1 Commit (Published (grown 0 2 3 (12 ∷ []) ∷ []))
    ∷ []

tables-of_two_inserts : tables_left two_inserts ≡ table ∷ []
tables-of_two_inserts = refl

length-of_two_inserts : map (length_left two_inserts) (file 0 ∷ file 1 ∷ file 2 ∷ []) ≡ 3 ∷ 1 ∷ 0 ∷ []
length-of_two_inserts = refl

bytes-of_two_inserts : map (bytes_left two_inserts) (file 0 ∷ file 1 ∷ file 2 ∷ []) ≡ (10 ∷ 11 ∷ 12 ∷ []) ∷ (20 ∷ []) ∷ [] ∷ []
bytes-of_two_inserts = refl

added-by_one : bytes_added (Published (grown 0 0 2 (10 ∷ 11 ∷ []) ∷ grown 1 0 1 (20 ∷ []) ∷ [])) 0 0 ≡ (10 ∷ 11 ∷ []) ∷ []
added-by_one = refl

own-of_two_inserts : map (λ (k : ℕ). length (by k two_inserts)) (0 ∷ 1 ∷ 2 ∷ 3 ∷ []) ≡ 0 ∷ 4 ∷ 3 ∷ 0 ∷ []
own-of_two_inserts = refl

below-of_two_inserts : AllBelow 3 two_inserts
below-of_two_inserts = (omega arith, (omega arith, (omega arith, (omega arith, (omega arith, (omega arith, (omega arith, tt)))))))

-- an added column is the table's last
altered-of_two_inserts : tables_left (two_inserts ++ noted 2 2 Alter (Added 0 (column 98)) ∷ []) ≡ record table { columns = column 97 ∷ column 98 ∷ [] } ∷ []
altered-of_two_inserts = refl

-- a table of that name can't be made again, nor a column of that name added
not_made_twice : ¬ (IsDeposit true two_inserts (noted 2 2 Create (Made table)))
not_made_twice h = let may = h.1 in let new = may.new_name in absurd (false_is_not_true new)
  where
    false_is_not_true : ¬ (false ≡ true)
    false_is_not_true e = cc

not_added_twice : ¬ (IsDeposit true two_inserts (noted 2 2 Alter (Added 0 (column 97))))
not_added_twice h = cc_none h.1
  where
    cc_none : ¬ (Some Rattle.hq_value.specs.declared.table.ColumnFault.TheVariants.ColumnThere ≡ None)
    cc_none e = cc

-- a Commit has a deposit, also where nothing grew
not_nothing : ¬ (IsDeposit true two_inserts (noted 2 2 Commit Nothing))
not_nothing h = h refl

nothing_grew : IsDeposit true two_inserts (noted 2 2 Commit (Published []))
nothing_grew = (refl, record { each = λ k d below. absurd (omega arith); once = refl })

-- a growth that begins anew, where the file has three bytes
not_anew : ¬ (IsDeposit true two_inserts (noted 2 2 Commit (Published (grown 0 0 4 (10 ∷ 11 ∷ 12 ∷ 13 ∷ []) ∷ []))))
not_anew h = let a = h.1 in let one = a.each 0 (grown 0 0 4 []) (omega arith) in let b = one.begins in absurd (omega (arith, b))
