-- A file is cut into its blocks, and what is read of them.
use Rattle.std.proofs.Common.{◌≡◌, ◌∙◌, ℕ, zero, suc, ◌+◌, ◌<◌, ◌≤◌, Bool, true, false, cond, nat_eq, List, [], ◌∷◌, ◌++◌, length, take, drop, Option, Some, None, refl, sym, ap, subst, arith, length-append}
use Rattle.std.specs.Prelude.{flat_map, sum_by}
use Rattle.std.specs.List.{AllByRecursion}
use Rattle.std.proofs.lemmas.List.{drop-take, take-append-le, take-append-drop}
use Rattle.std.proofs.lemmas.List.Elements.{filter-append, recursion_from_All}
use Rattle.std.proofs.lemmas.List.Sums.{sum_by-cons}
use Rattle.hq_value.specs.declared.value.Value.{Value}
use Rattle.hq_value.specs.declared.kind.Kind.{Kind}
use Rattle.hq_block.specs.declared.bounds.Bounds.{Bounds}
use Rattle.hq_block.specs.declared.head.BlockHead.{BlockHead}
use Rattle.hq_block.specs.declared.skip.ColumnTest.{ColumnTest}
use Rattle.hq_block.specs.Block.{IsBlock, FileRows}
use Rattle.hq_block.specs.Bounds.{bounds_bytes}
use Rattle.hq_block.specs.Heads.{IsHead, HeadLength, HeadIs, BoundsFollow}
use Rattle.hq_block.specs.Reading.{◌>>=◌, head_at, fields_at, all_bounds_at, head_bounds_at, block_at}
use Rattle.hq_block.specs.Skipping.{skips, read_length}
use Rattle.hq_block.proofs.Begins.{block-begins}
use Rattle.hq_block.proofs.BlockLaws.{block_again}
use Rattle.hq_block.proofs.Bounding.{all_bounds_again}
use Rattle.hq_block.proofs.Heads.{head_found, head_in_front, head_same}
use Rattle.hq_block.proofs.Skipped.{skipped}
use Rattle.hq_lane.specs.FileBlocks.{FileBlock, head_in, in_front, behind, first_blocks, blocks_in, rows_kept, kept_rows, bytes_read, read_sum, passes_all, passing}
use Rattle.hq_lane.specs.Scans.{IsFile}
use Rattle.hq_lane.proofs.Fronts.{block_some}

-- a block's rows and bytes
abbrev Block : Type 0
Block = List (List Value) × List ℕ

abbrev AreBlocks : List Kind → List Block → Type 0
AreBlocks kinds = AllByRecursion (λ (block : Block). IsBlock kinds block.0 block.1)

abbrev bytes_of : List Block → List ℕ
bytes_of = flat_map (λ (block : Block). block.1)

abbrev rows_of : List Block → List (List Value)
rows_of = flat_map (λ (block : Block). block.0)

-- a block by its head and rows
abbrev pub made : BlockHead → List (List Value) → FileBlock
made head rows = record { head = head; rows = rows }

-- bounds that follow a head are read
bounds_found : (version : ℕ) (kinds : List Kind) (found : List Bounds) (bytes : List ℕ) → BoundsFollow (nat_eq version 2) kinds found bytes → head_bounds_at version kinds bytes ≡ Some found
bounds_found version kinds found bytes follow = by (nat_eq version 2) follow
  where
    by : (two : Bool) → BoundsFollow two kinds found bytes → cond two (all_bounds_at kinds bytes) (Some []) ≡ Some found
    by true follow = ap (all_bounds_at kinds) follow.1 ∙ all_bounds_again kinds found follow.0
    by false follow = ap (λ (l : List Bounds). Some l) (sym follow)

-- what is made of a head's fields and of bounds that were read
abbrev with_bounds : ℕ → ℕ → List Bounds → Option BlockHead
with_bounds columns size bounds = Some (record { columns = columns; length = 16 + size; bounds = bounds })

-- what the bytes say before their rows
pub head_said : (kinds : List Kind) (bytes : List ℕ) (n : ℕ) (found : BlockHead) → HeadLength bytes n → HeadIs kinds found (take n bytes) → head_in kinds bytes ≡ Some found
head_said kinds bytes n found long is =
    let head = is.head in
    let kinds' : List Kind = take head.columns kinds in
    let begun : IsHead head bytes = subst (IsHead head) (take-append-drop n bytes) (head_in_front (take n bytes) (drop n bytes) head is.is).1 in
    let read : head_at bytes ≡ Some (head, drop 16 bytes) = head_found bytes head begun in
    let size : n ≡ 16 + head.bounds = long.length_is ∙ (λ i. 16 + (head_same long.head head bytes long.is begun i).bounds) in
    let bounds : take head.bounds (drop 16 bytes) ≡ drop 16 (take n bytes) = sym (drop-take 16 head.bounds bytes) ∙ ap (λ (m : ℕ). drop 16 (take m bytes)) (sym size) in
    let found_bounds : head_bounds_at head.version kinds' (take head.bounds (drop 16 bytes)) ≡ Some found.bounds =
    ap (head_bounds_at head.version kinds') bounds ∙ bounds_found head.version kinds' found.bounds (drop 16 (take n bytes)) is.bounds in
    (λ i. read i >>= λ h. head_bounds_at h.0.version (take h.0.columns kinds) (take h.0.bounds h.1) >>= with_bounds h.0.columns h.0.size)
    ∙ ap (λ (r : Option (List Bounds)). r >>= with_bounds head.columns head.size) found_bounds
    ∙ (λ i. Some (record { columns = sym is.columns i; length = sym is.length_is i; bounds = found.bounds }))

-- no bytes have no head
nothing_said : (kinds : List Kind) → head_in kinds [] ≡ None
unfolding head_at fields_at
nothing_said kinds = refl

none_first : (n : ℕ) (kinds : List Kind) → first_blocks n kinds [] ≡ []
none_first zero kinds = refl
none_first (suc n) kinds = ap (λ (h : Option BlockHead). in_front h (block_at kinds []) (first_blocks n kinds (behind (block_at kinds [])))) (nothing_said kinds)

-- blocks have bytes
some_bytes : (kinds : List Kind) (x : Block) (xs : List Block) → AreBlocks kinds (x ∷ xs) → length (x.1 ++ bytes_of xs) ≤ 0 → ⊥
some_bytes kinds x xs are less = omega (arith, less, length-append x.1 (bytes_of xs), block_some kinds x.0 x.1 are.0)

-- blocks are cut alike whatever is the most
enough : (kinds : List Kind) (m n : ℕ) (blocks : List Block) → AreBlocks kinds blocks → length (bytes_of blocks) ≤ m → length (bytes_of blocks) ≤ n → first_blocks m kinds (bytes_of blocks) ≡ first_blocks n kinds (bytes_of blocks)
enough kinds m n [] are less also = none_first m kinds ∙ sym (none_first n kinds)
enough kinds zero n (x ∷ xs) are less also = absurd (some_bytes kinds x xs are less)
enough kinds (suc m) zero (x ∷ xs) are less also = absurd (some_bytes kinds x xs are also)
enough kinds (suc m) (suc n) (x ∷ xs) are less also =
    let all : List ℕ = x.1 ++ bytes_of xs in
    let shorter : length (bytes_of xs) < length all = omega (arith, length-append x.1 (bytes_of xs), block_some kinds x.0 x.1 are.0) in
    let first : length all ≤ suc m = less in
    let second : length all ≤ suc n = also in
    let rest : behind (block_at kinds all) ≡ bytes_of xs = ap behind (block_again kinds x.0 x.1 (bytes_of xs) are.0) in
    let same : first_blocks m kinds (behind (block_at kinds all)) ≡ first_blocks n kinds (behind (block_at kinds all)) =
    ap (first_blocks m kinds) rest ∙ enough kinds m n xs are.1 (omega (arith, first, shorter)) (omega (arith, second, shorter)) ∙ ap (first_blocks n kinds) (sym rest) in
    ap (in_front (head_in kinds all) (block_at kinds all)) same

-- a block and the blocks behind it
first_of : (kinds : List Kind) (most : ℕ) (first : List (List Value)) (block rest : List ℕ) (head : BlockHead) → IsBlock kinds first block → IsFile kinds rest → head_in kinds (block ++ rest) ≡ Some head → most ≡ length (block ++ rest)
    → first_blocks most kinds (block ++ rest) ≡ made head first ∷ blocks_in kinds rest
first_of kinds zero first block rest head is file says most = absurd (omega (arith, most, length-append block rest, block_some kinds first block is))
first_of kinds (suc m) first block rest head is file says most =
    let all : List ℕ = block ++ rest in
    let f = file.1 in
    let shorter : length rest ≤ m = omega (arith, most, length-append block rest, block_some kinds first block is) in
    let cut : first_blocks m kinds rest ≡ blocks_in kinds rest = fuel f.0 f.1 f.2 shorter in
    ap (λ (h : Option BlockHead). in_front h (block_at kinds all) (first_blocks m kinds (behind (block_at kinds all)))) says
    ∙ ap (λ (b : Option (List (List Value) × List ℕ)). in_front (Some head) b (first_blocks m kinds (behind b))) (block_again kinds first block rest is)
    ∙ ap (λ (l : List FileBlock). made head first ∷ l) cut
  where
    fuel : (blocks : List Block) → AreBlocks kinds blocks → rest ≡ bytes_of blocks → length rest ≤ m → first_blocks m kinds rest ≡ first_blocks (length rest) kinds rest
    fuel blocks are e less =
        ap (first_blocks m kinds) e ∙ enough kinds m (length rest) blocks are (omega (arith, ap length e, less)) (omega (arith, ap length e)) ∙ ap (first_blocks (length rest) kinds) (sym e)

pub first_of_file : (kinds : List Kind) (first : List (List Value)) (block rest : List ℕ) (head : BlockHead) → IsBlock kinds first block → IsFile kinds rest → head_in kinds (block ++ rest) ≡ Some head
    → blocks_in kinds (block ++ rest) ≡ made head first ∷ blocks_in kinds rest
first_of_file kinds first block rest head is file says = first_of kinds (length (block ++ rest)) first block rest head is file says refl

-- a block of a file, with what its first bytes say
pub record IsCut (kinds : List Kind) (first : List (List Value)) (block : List ℕ) (head : BlockHead) : Type 0 where
  pub is : IsBlock kinds first block
  pub front : ℕ
  pub says : HeadIs kinds head (take front block)
  pub length_is : head.length ≡ length block

-- a fact of a file, block by block
abbrev Fact : Type 1
Fact = List ℕ → List FileBlock → List (List Value) → Type 0

by_blocks : (kinds : List Kind) (P : Fact) → P [] [] []
    → ((first rows : List (List Value)) (block rest : List ℕ) (head : BlockHead) (blocks : List FileBlock) → IsCut kinds first block head → P rest blocks rows → P (block ++ rest) (made head first ∷ blocks) (first ++ rows))
    → (blocks : List Block) → AreBlocks kinds blocks → P (bytes_of blocks) (blocks_in kinds (bytes_of blocks)) (rows_of blocks)
by_blocks kinds P none more [] are = none
by_blocks kinds P none more (x ∷ xs) are =
    let b = block-begins kinds x.0 x.1 (bytes_of xs) are.0 in
    let front : take b.n (x.1 ++ bytes_of xs) ≡ take b.n x.1 = take-append-le b.n x.1 (bytes_of xs) b.within in
    let says : head_in kinds (x.1 ++ bytes_of xs) ≡ Some b.head = head_said kinds (x.1 ++ bytes_of xs) b.n b.head b.is (subst (HeadIs kinds b.head) (sym front) b.says) in
    let cut : blocks_in kinds (x.1 ++ bytes_of xs) ≡ made b.head x.0 ∷ blocks_in kinds (bytes_of xs) =
    first_of_file kinds x.0 x.1 (bytes_of xs) b.head are.0 (rows_of xs, (xs, are.1, refl, refl)) says in
    subst (λ (l : List FileBlock). P (x.1 ++ bytes_of xs) l (x.0 ++ rows_of xs)) (sym cut)
    (more x.0 (rows_of xs) x.1 (bytes_of xs) b.head (blocks_in kinds (bytes_of xs)) (record { is = are.0; front = b.n; says = b.says; length_is = b.length_is }) (by_blocks kinds P none more xs are.1))

of_file : (kinds : List Kind) (P : Fact) → P [] [] []
    → ((first rows : List (List Value)) (block rest : List ℕ) (head : BlockHead) (blocks : List FileBlock) → IsCut kinds first block head → P rest blocks rows → P (block ++ rest) (made head first ∷ blocks) (first ++ rows))
    → (bytes : List ℕ) (rows : List (List Value)) → FileRows kinds bytes rows → P bytes (blocks_in kinds bytes) rows
of_file kinds P none more bytes rows file =
    subst (λ (l : List (List Value)). P bytes (blocks_in kinds bytes) l) (sym file.3)
    (subst (λ (b : List ℕ). P b (blocks_in kinds b) (rows_of file.0)) (sym file.2) (by_blocks kinds P none more file.0 file.1))

-- the rows of the blocks are the rows
pub their_rows : (kinds : List Kind) (bytes : List ℕ) (rows : List (List Value)) → FileRows kinds bytes rows → flat_map (λ (block : FileBlock). block.rows) (blocks_in kinds bytes) ≡ rows
their_rows kinds = of_file kinds (λ bytes blocks rows. flat_map (λ (block : FileBlock). block.rows) blocks ≡ rows) refl
    (λ first rows block rest head blocks cut so_far. ap (λ (l : List (List Value)). first ++ l) so_far)

-- and they are as long
pub their_lengths : (kinds : List Kind) (bytes : List ℕ) (rows : List (List Value)) → FileRows kinds bytes rows → sum_by (λ (block : FileBlock). block.head.length) (blocks_in kinds bytes) ≡ length bytes
their_lengths kinds = of_file kinds (λ bytes blocks rows. sum_by (λ (block : FileBlock). block.head.length) blocks ≡ length bytes) refl
    (λ first rows block rest head blocks cut so_far.
    sum_by-cons (λ (b : FileBlock). b.head.length) (made head first) blocks ∙ ap (λ (n : ℕ). head.length + n) so_far
    ∙ ap (λ (n : ℕ). n + length rest) cut.length_is ∙ sym (length-append block rest))

-- without tests no block is skipped
pub no_tests : (bounds : List Bounds) → skips [] bounds ≡ false
no_tests [] = refl
no_tests (b ∷ bounds) = refl

pub no_tests-length : (head : BlockHead) → read_length [] head ≡ head.length
no_tests-length head = ap (λ (b : Bool). cond b (16 + length (bounds_bytes head.bounds)) head.length) (no_tests head.bounds)

pub all_rows : (kinds : List Kind) (bytes : List ℕ) (rows : List (List Value)) → FileRows kinds bytes rows → kept_rows [] kinds bytes ≡ rows
all_rows kinds = of_file kinds (λ bytes blocks rows. flat_map (rows_kept []) blocks ≡ rows) refl
    (λ first rows block rest head blocks cut so_far. λ i. cond (no_tests head.bounds i) [] first ++ so_far i)

pub all_bytes : (kinds : List Kind) (bytes : List ℕ) (rows : List (List Value)) → FileRows kinds bytes rows → read_sum [] kinds bytes ≡ length bytes
all_bytes kinds = of_file kinds (λ bytes blocks rows. sum_by (bytes_read []) blocks ≡ length bytes) refl
    (λ first rows block rest head blocks cut so_far.
    sum_by-cons (bytes_read []) (made head first) blocks ∙ ap (λ (n : ℕ). read_length [] head + n) so_far
    ∙ ap (λ (n : ℕ). n + length rest) (no_tests-length head ∙ cut.length_is) ∙ sym (length-append block rest))

-- rows that fail are not among those that pass
none_passing : (tests : List ColumnTest) (rows : List (List Value)) → AllByRecursion (λ row. passes_all tests row ≡ false) rows → passing tests rows ≡ []
none_passing tests [] fail = refl
none_passing tests (row ∷ rows) fail = ap (λ (b : Bool). cond b (row ∷ passing tests rows) (passing tests rows)) fail.0 ∙ none_passing tests rows fail.1

pub all_passing : (tests : List ColumnTest) (kinds : List Kind) (bytes : List ℕ) (rows : List (List Value)) → FileRows kinds bytes rows → passing tests (kept_rows tests kinds bytes) ≡ passing tests rows
all_passing tests kinds = of_file kinds (λ bytes blocks rows. passing tests (flat_map (rows_kept tests) blocks) ≡ passing tests rows) refl
    (λ first rows block rest head blocks cut so_far. step first rows block head blocks cut so_far (skips tests head.bounds) refl)
  where
    step : (first rows : List (List Value)) (block : List ℕ) (head : BlockHead) (blocks : List FileBlock) → IsCut kinds first block head → passing tests (flat_map (rows_kept tests) blocks) ≡ passing tests rows
        → (skip : Bool) → skips tests head.bounds ≡ skip → passing tests (cond skip [] first ++ flat_map (rows_kept tests) blocks) ≡ passing tests (first ++ rows)
    step first rows block head blocks cut so_far true e =
        let none : passing tests first ≡ [] = none_passing tests first (recursion_from_All (λ (row : List Value). passes_all tests row ≡ false) first (skipped kinds first block cut.front head tests cut.is cut.says e)) in
        so_far ∙ sym (filter-append (passes_all tests) first rows ∙ ap (λ (l : List (List Value)). l ++ passing tests rows) none)
    step first rows block head blocks cut so_far false e =
        filter-append (passes_all tests) first (flat_map (rows_kept tests) blocks) ∙ ap (λ (l : List (List Value)). passing tests first ++ l) so_far ∙ sym (filter-append (passes_all tests) first rows)

-- what is found of a block that is passed: nothing where it is skipped
pub kept_first : (tests : List ColumnTest) (kinds : List Kind) (bytes rest : List ℕ) (first found : List (List Value)) (head : BlockHead) → blocks_in kinds bytes ≡ made head first ∷ blocks_in kinds rest
    → cond (skips tests head.bounds) [] first ≡ found → kept_rows tests kinds bytes ≡ found ++ kept_rows tests kinds rest
kept_first tests kinds bytes rest first found head cut is = ap (flat_map (rows_kept tests)) cut ∙ ap (λ (l : List (List Value)). l ++ kept_rows tests kinds rest) is

pub sum_first : (tests : List ColumnTest) (kinds : List Kind) (bytes rest : List ℕ) (first : List (List Value)) (head : BlockHead) → blocks_in kinds bytes ≡ made head first ∷ blocks_in kinds rest
    → read_sum tests kinds bytes ≡ read_length tests head + read_sum tests kinds rest
sum_first tests kinds bytes rest first head cut = ap (sum_by (bytes_read tests)) cut ∙ sum_by-cons (bytes_read tests) (made head first) (blocks_in kinds rest)
