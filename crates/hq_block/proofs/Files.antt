-- A file is its blocks, and its rows are determined.
use Rattle.std.proofs.Common.{◌≡◌, ℕ, List, [], ◌∷◌, ◌++◌, length, take, drop, ◌<◌, refl, sym, ap, subst, ◌∙◌, append-nil, arith}
use Rattle.std.specs.Prelude.{flat_map}
use Rattle.std.specs.List.{AllByRecursion}
use Rattle.std.proofs.lemmas.List.{take_at, drop_at, take-append-drop}
use Rattle.std.proofs.lemmas.List.Concat.{flat_map-append}
use Rattle.hq_value.specs.declared.value.Value.{Value}
use Rattle.hq_value.specs.declared.kind.Kind.{Kind}
use Rattle.hq_block.specs.Block.{IsBlock, FileRows}
use Rattle.hq_block.proofs.BlockLaws.{blocks_are_apart}

-- a block's rows and bytes
abbrev Block : Type 0
Block = List (List Value) × List ℕ

abbrev AreBlocks : List Kind → List Block → Type 0
AreBlocks kinds = AllByRecursion (λ (block : Block). IsBlock kinds block.0 block.1)

abbrev bytes_of : List Block → List ℕ
bytes_of = flat_map (λ (block : Block). block.1)

abbrev rows_of : List Block → List (List Value)
rows_of = flat_map (λ (block : Block). block.0)

some_bytes : (kinds : List Kind) (rows : List (List Value)) (bytes : List ℕ) → IsBlock kinds rows bytes → (rest : List ℕ) → [] ≡ bytes ++ rest → ⊥
some_bytes kinds rows bytes is rest e = let begun = e ∙ ap (λ (l : List ℕ). l ++ rest) is.is.spelled in cc

same_rows : (kinds : List Kind) (xs ys : List Block) → AreBlocks kinds xs → AreBlocks kinds ys → bytes_of xs ≡ bytes_of ys → rows_of xs ≡ rows_of ys
same_rows kinds [] [] ok also same = refl
same_rows kinds [] (y ∷ ys) ok also same = absurd (some_bytes kinds y.0 y.1 also.0 (bytes_of ys) same)
same_rows kinds (x ∷ xs) [] ok also same = absurd (some_bytes kinds x.0 x.1 ok.0 (bytes_of xs) (sym same))
same_rows kinds (x ∷ xs) (y ∷ ys) ok also same =
    let first = blocks_are_apart kinds x.0 y.0 x.1 y.1 (bytes_of xs) (bytes_of ys) ok.0 also.0 same in
    λ i. first.1 i ++ same_rows kinds xs ys ok.1 also.1 first.2 i

pub rows_determined : (kinds : List Kind) (bytes : List ℕ) (rows others : List (List Value)) → FileRows kinds bytes rows → FileRows kinds bytes others → rows ≡ others
rows_determined kinds bytes rows others file also =
    file.3 ∙ same_rows kinds file.0 also.0 file.1 also.1 (sym file.2 ∙ also.2) ∙ sym also.3

pub one_block : (kinds : List Kind) (bytes : List ℕ) (rows : List (List Value)) → IsBlock kinds rows bytes → FileRows kinds bytes rows
one_block kinds bytes rows is = ((rows, bytes) ∷ [], (is, tt), sym (append-nil bytes), sym (append-nil rows))

both_are : (kinds : List Kind) (xs ys : List Block) → AreBlocks kinds xs → AreBlocks kinds ys → AreBlocks kinds (xs ++ ys)
both_are kinds [] ys ok also = also
both_are kinds (x ∷ xs) ys ok also = (ok.0, both_are kinds xs ys ok.1 also)

pub files_joined : (kinds : List Kind) (a b : List ℕ) (rows others : List (List Value)) → FileRows kinds a rows → FileRows kinds b others → FileRows kinds (a ++ b) (rows ++ others)
files_joined kinds a b rows others file also = (
  file.0 ++ also.0,
  both_are kinds file.0 also.0 file.1 also.1,
  (λ i. file.2 i ++ also.2 i) ∙ sym (flat_map-append (λ (block : Block). block.1) file.0 also.0),
  (λ i. file.3 i ++ also.3 i) ∙ sym (flat_map-append (λ (block : Block). block.0) file.0 also.0),
)

pub first_block : (kinds : List Kind) (bytes : List ℕ) (rows : List (List Value)) → FileRows kinds bytes rows → 0 < length bytes → (first : List (List Value)) × ((len : ℕ) × IsBlock kinds first (take len bytes))
first_block kinds bytes rows file some = by file.0 file.1 file.2
  where
    by : (blocks : List Block) → AreBlocks kinds blocks → bytes ≡ bytes_of blocks → (first : List (List Value)) × ((len : ℕ) × IsBlock kinds first (take len bytes))
    by [] are e = absurd (omega (arith, ap length e))
    by (x ∷ xs) are e = (x.0, (length x.1, subst (IsBlock kinds x.0) (sym (ap (take (length x.1)) e ∙ take_at x.1 (bytes_of xs) (length x.1) refl)) are.0))

pub other_blocks : (kinds : List Kind) (bytes : List ℕ) (rows first : List (List Value)) (len : ℕ) → FileRows kinds bytes rows → IsBlock kinds first (take len bytes)
    → (rows ≡ first ++ drop (length first) rows) × FileRows kinds (drop len bytes) (drop (length first) rows)
other_blocks kinds bytes rows first len file is = by file.0 file.1 file.2 file.3
  where
    by : (blocks : List Block) → AreBlocks kinds blocks → bytes ≡ bytes_of blocks → rows ≡ rows_of blocks → (rows ≡ first ++ drop (length first) rows) × FileRows kinds (drop len bytes) (drop (length first) rows)
    by [] are e r = absurd (some_bytes kinds first (take len bytes) is (drop len bytes) (sym (take-append-drop len bytes ∙ e)))
    by (x ∷ xs) are e r =
        let apart = blocks_are_apart kinds first x.0 (take len bytes) x.1 (drop len bytes) (bytes_of xs) is are.0 (take-append-drop len bytes ∙ e) in
        let whole : rows ≡ first ++ rows_of xs = r ∙ ap (λ (l : List (List Value)). l ++ rows_of xs) (sym apart.1) in
        let others : drop (length first) rows ≡ rows_of xs = ap (drop (length first)) whole ∙ drop_at first (rows_of xs) (length first) refl in
        (whole ∙ ap (λ (l : List (List Value)). first ++ l) (sym others), (xs, are.1, apart.2, others))
