-- How bytes that begin with no block, or with one, go on.
use Rattle.std.proofs.Common.{◌≡◌, ◌∙◌, ℕ, ◌+◌, ◌<◌, ◌≤◌, List, ◌++◌, length, take, drop, refl, sym, ap, subst, arith, length-take}
use Rattle.std.specs.Int.{w32, from_be_bytes}
use Rattle.std.proofs.lemmas.List.{drop-take, take-take, take-append-le, take_all, take_at, take-append-drop}
use Rattle.hq_value.specs.declared.value.Value.{Value}
use Rattle.hq_value.specs.declared.kind.Kind.{Kind}
use Rattle.hq_block.specs.Block.{IsBlock}
use Rattle.hq_lane.specs.Scans.{BeginsNoBlock}
use Rattle.hq_lane.specs.Sizes.{size_at}
use Rattle.hq_lane.proofs.Sized.{IsSized, sized}

-- the size lies in the first eight bytes
same_size : (xs ys : List ℕ) → take 8 xs ≡ take 8 ys → size_at xs ≡ size_at ys
same_size xs ys same =
    ap (from_be_bytes w32) (sym (drop-take 4 4 xs) ∙ ap (λ (bytes : List ℕ). drop 4 bytes) same ∙ drop-take 4 4 ys)

-- a front has the size of the whole
pub size_of_front : (len : ℕ) (bytes : List ℕ) → 8 ≤ len → size_at (take len bytes) ≡ size_at bytes
size_of_front len bytes enough = same_size (take len bytes) bytes (take-take 8 len bytes enough)

-- and the whole that of a front
pub size_of_more : (bytes more : List ℕ) → 8 ≤ length bytes → size_at (bytes ++ more) ≡ size_at bytes
size_of_more bytes more enough = same_size (bytes ++ more) bytes (take-append-le 8 bytes more enough)

-- how long a block is that begins bytes
pub block_is : (kinds : List Kind) (rows : List (List Value)) (len : ℕ) (bytes : List ℕ) → IsBlock kinds rows (take len bytes)
    → (length (take len bytes) ≡ 16 + size_at bytes) × (0 < size_at bytes)
block_is kinds rows len bytes is =
    let it : IsSized (take len bytes) = sized kinds rows (take len bytes) is in
    let same : size_at (take len bytes) ≡ size_at bytes = size_of_front len bytes (omega (arith, it.says, length-take len bytes)) in
    (omega (arith, it.says, same), omega (arith, it.some, same))

-- a block has bytes
pub block_some : (kinds : List Kind) (rows : List (List Value)) (block : List ℕ) → IsBlock kinds rows block → 0 < length block
block_some kinds rows block is = omega (arith, (sized kinds rows block is).says)

-- fewer than 17 bytes begin with no block
pub few_begin_none : (kinds : List Kind) (bytes more : List ℕ) (left : ℕ) → left < 16 → length (bytes ++ more) ≤ left → BeginsNoBlock kinds (bytes ++ more)
few_begin_none kinds bytes more left few within rows len is =
    let long = block_is kinds rows len (bytes ++ more) is in
    omega (arith, long.0, length-take len (bytes ++ more))

-- bytes that are fewer than they say begin with no block
pub cut_off_begin_none : (kinds : List Kind) (bytes more : List ℕ) (left : ℕ) → 16 ≤ length bytes → left < 16 + size_at bytes → length (bytes ++ more) ≤ left → BeginsNoBlock kinds (bytes ++ more)
cut_off_begin_none kinds bytes more left enough short within rows len is =
    let long = block_is kinds rows len (bytes ++ more) is in
    omega (arith, long.0, size_of_more bytes more (omega arith), length-take len (bytes ++ more))

-- no block has an empty body
pub empty_begin_none : (kinds : List Kind) (bytes more : List ℕ) → 16 ≤ length bytes → size_at bytes ≡ 0 → BeginsNoBlock kinds (bytes ++ more)
empty_begin_none kinds bytes more enough none rows len is =
    let long = block_is kinds rows len (bytes ++ more) is in
    omega (arith, long.1, size_of_more bytes more (omega arith))

-- taking as many again
pub take-length : (n : ℕ) (xs : List ℕ) → take (length (take n xs)) xs ≡ take n xs
take-length n xs = ap (take (length (take n xs))) (sym (take-append-drop n xs)) ∙ take_at (take n xs) (drop n xs) (length (take n xs)) refl

-- bytes that are as many as they say and begin with a block are one
pub whole_block : (kinds : List Kind) (rows : List (List Value)) (n : ℕ) (block : List ℕ) → length block ≡ 16 + size_at block → IsBlock kinds rows (take n block) → IsBlock kinds rows block
whole_block kinds rows n block says is =
    let long = block_is kinds rows n block is in
    subst (IsBlock kinds rows) (take_all n block (omega (arith, long.0, length-take n block))) is

-- where they begin with none, nor does anything that goes on from them
pub whole_begin_none : (kinds : List Kind) (block more : List ℕ) → 16 ≤ length block → length block ≡ 16 + size_at block → BeginsNoBlock kinds block → BeginsNoBlock kinds (block ++ more)
whole_begin_none kinds block more enough says no_block rows len is =
    let all : List ℕ = block ++ more in
    let long = block_is kinds rows len all is in
    let as_long : length (take len all) ≡ length block = omega (arith, long.0, size_of_more block more (omega arith)) in
    let front : take len all ≡ block = sym (take-length len all) ∙ ap (λ (n : ℕ). take n all) as_long ∙ take_at block more (length block) refl in
    no_block rows (length block) (subst (IsBlock kinds rows) (front ∙ sym (take_all (length block) block (omega arith))) is)
