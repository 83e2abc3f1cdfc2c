-- Bytes kept in parts: pages of one size, in finished groups and behind them, then runs of any length, then unshared bytes.
--     flat parts                          the members of the parts in order
--     joined parts rest                   those, and then the rest
--     bytes_in groups pages runs unshared    all bytes in order
--     AreWhole size parts                 each part has `size` members
--     AreGroups size count groups         each group has `count` pages of `size` bytes
--     IsRunAt bytes at run                the run lies in the bytes from `at` on
--     Grown                               what a file has grown to
--     Shared                              what a seal shares
use Rattle.std.specs.Prelude.{◌≡◌, ℕ, List, ◌++◌, length, take, drop, All}
use Rattle.std.specs.List.{flat_map}
use Rattle.hq_value.specs.declared.entry.FileId.{FileId}

-- the members of the parts in order
abbrev pub flat : {A : Type 0} → List (List A) → List A
flat parts = flat_map (λ part. part) parts

-- the members of the parts, and then the rest
abbrev pub joined : {A : Type 0} → List (List A) → List A → List A
joined parts rest = flat parts ++ rest

-- the bytes of the groups' pages, of the pages behind them, of the runs, and then the unshared ones
abbrev pub bytes_in : List (List (List ℕ)) → List (List ℕ) → List (List ℕ) → List ℕ → List ℕ
bytes_in groups pages runs unshared = joined (flat groups) (joined pages (joined runs unshared))

-- each part has `size` members
abbrev pub AreWhole : {A : Type 0} → ℕ → List (List A) → Type 0
AreWhole size parts = All (λ part. length part ≡ size) parts

-- each group has `count` pages of `size` bytes
abbrev pub AreGroups : ℕ → ℕ → List (List (List ℕ)) → Type 0
AreGroups size count groups = AreWhole count groups × AreWhole size (flat groups)

-- the run lies in the bytes from `at` on
abbrev pub IsRunAt : List ℕ → ℕ → List ℕ → Type 0
IsRunAt bytes at run = take (length run) (drop at bytes) ≡ run

-- the bytes of a file, and how many of them lie in finished groups, which no cut reaches
pub record Grown : Type 0 where
  pub bytes : List ℕ
  pub fixed : ℕ

-- the id of a seal's file, and the bytes under the seal
pub record Shared : Type 0 where
  pub id : FileId
  pub bytes : List ℕ
