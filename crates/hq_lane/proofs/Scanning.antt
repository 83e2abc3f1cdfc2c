-- Blocks read one after another.
use Rattle.std.proofs.Common.{◌≡◌, ℕ, ◌+◌, ◌-◌, ◌^◌, ◌<◌, ◌≤◌, min, All, Bool, List, [], ◌∷◌, ◌++◌, length, take, drop, refl, sym, ap, subst, ◌∙◌, append_assoc, length-append, length-take, length-drop, arith, slice_range}
use Rattle.std.specs.Prelude.{flat_map}
use Rattle.std.specs.List.{AllByRecursion}
use Rattle.std.proofs.Math.Seq.{take-add}
use Rattle.std.proofs.lemmas.List.{drop-drop, take-take, take_all, take_at, take-append-drop, drop_at}
use Rattle.std.proofs.lemmas.List.Elements.{All-nil, All-append}
use Rattle.hq_value.specs.declared.value.Value.{Value}
use Rattle.hq_value.specs.declared.kind.Kind.{Kind}
use Rattle.hq_value.specs.Causes.{GoesOnGiving}
use Rattle.hq_value.specs.Kinds.{Fits}
use Rattle.hq_value.proofs.Counting.{giving_more}
use Rattle.hq_block.specs.Block.{IsBlock, FileRows}
use Rattle.hq_block.proofs.Files.{one_block, files_joined, first_block, other_blocks}
use Rattle.hq_lane.specs.Scans.{IsFile, HasRead, HasReadBlock, IsBadAt}
use Rattle.hq_lane.proofs.Sized.{rows_fit}

-- nothing is read yet
pub read_none : (told : Bool) (bytes : List ℕ) (from : ℕ) (kinds : List Kind) → HasRead told (slice_range bytes from from) (from - from) kinds []
read_none told bytes from kinds =
    let none : from - from ≡ 0 = omega arith in
    record { bytes = []; long = sym none; are_told = λ t. sym (ap (λ (n : ℕ). take n (drop from bytes)) none); file = ([], tt, refl, refl) }

-- a range and the next one
pub slice_range-append : (bytes : List ℕ) (from at len : ℕ) → from ≤ at → slice_range bytes from at ++ slice_range bytes at (at + len) ≡ slice_range bytes from (at + len)
slice_range-append bytes from at len le =
    let d : ℕ = at - from in
    let there : drop at bytes ≡ drop d (drop from bytes) = ap (λ (n : ℕ). drop n bytes) (omega arith) ∙ sym (drop-drop d from bytes) in
    let next : at + len - at ≡ len = omega arith in
    let both : at + len - from ≡ d + len = omega arith in
    ap (λ (l : List ℕ). take d (drop from bytes) ++ l) ((λ i. take (next i) (there i)))
    ∙ sym (take-add d len (drop from bytes)) ∙ ap (λ (n : ℕ). take n (drop from bytes)) (sym both)

-- bytes of a range, and those behind them
pub bytes_behind : (all bytes now : List ℕ) (at have len : ℕ) → have ≤ len → bytes ≡ slice_range all at (at + have) → now ≡ bytes ++ slice_range all (at + have) (at + have + (len - have)) → now ≡ slice_range all at (at + len)
bytes_behind all bytes now at have len within first next =
    let end : at + have + (len - have) ≡ at + len = omega (arith, within) in
    next ∙ ap (λ (l : List ℕ). l ++ slice_range all (at + have) (at + have + (len - have))) first ∙ slice_range-append all at (at + have) (len - have) (omega arith) ∙ ap (slice_range all at) end

-- a block more is read
pub read_more : (told : Bool) (bytes : List ℕ) (from at len : ℕ) (kinds : List Kind) (now new : List (List Value)) → from ≤ at → HasRead told (slice_range bytes from at) (at - from) kinds now
    → HasReadBlock told bytes at len kinds now new → HasRead told (slice_range bytes from (at + len)) (at + len - from) kinds new
read_more told bytes from at len kinds now new le so_far next = record {
  bytes = so_far.bytes ++ next.bytes;
  long = omega (arith, length-append so_far.bytes next.bytes, so_far.long, next.long);
  are_told = λ t. (λ i. so_far.are_told t i ++ next.are_told t i) ∙ slice_range-append bytes from at len le;
  file = subst (FileRows kinds (so_far.bytes ++ next.bytes)) (sym next.taken.added) (files_joined kinds so_far.bytes next.bytes now next.taken.found so_far.file (one_block kinds next.bytes next.taken.found next.taken.block));
}

-- a block's rows and bytes
abbrev Block : Type 0
Block = List (List Value) × List ℕ

rest_by : (kinds : List Kind) (blocks : List Block) (rest : List ℕ) (all : List (List Value)) → AllByRecursion (λ (block : Block). IsBlock kinds block.0 block.1) blocks
    → FileRows kinds (flat_map (λ (block : Block). block.1) blocks ++ rest) all → IsFile kinds rest
rest_by kinds [] rest all ok file = (all, file)
rest_by kinds (x ∷ xs) rest all ok file =
    let behind : List ℕ = flat_map (λ (block : Block). block.1) xs ++ rest in
    let whole : FileRows kinds (x.1 ++ behind) all = subst (λ (l : List ℕ). FileRows kinds l all) (append_assoc x.1 (flat_map (λ (block : Block). block.1) xs) rest) file in
    let is : IsBlock kinds x.0 (take (length x.1) (x.1 ++ behind)) = subst (IsBlock kinds x.0) (sym (take_at x.1 behind (length x.1) refl)) ok.0 in
    rest_by kinds xs rest (drop (length x.0) all) ok.1 (subst (λ (l : List ℕ). FileRows kinds l (drop (length x.0) all)) (drop_at x.1 behind (length x.1) refl) (other_blocks kinds (x.1 ++ behind) all x.0 (length x.1) whole is).1)

-- what follows a file within a file is one
rest_is_file : (kinds : List Kind) (front rest : List ℕ) (rows all : List (List Value)) → FileRows kinds front rows → FileRows kinds (front ++ rest) all → IsFile kinds rest
rest_is_file kinds front rest rows all first file = rest_by kinds first.0 rest all first.1 (subst (λ (l : List ℕ). FileRows kinds (l ++ rest) all) first.2 file)

-- within a file, what goes on from bytes behind its first blocks begins with a block
pub never_bad : (kinds : List Kind) (all bytes : List ℕ) (from at to : ℕ) (rows : List (List Value)) → from ≤ at → 0 < length bytes
    → IsFile kinds (slice_range all from to) → FileRows kinds (slice_range all from at) rows → bytes ≡ slice_range all at (at + length bytes) → IsBadAt kinds at to at bytes → ⊥
never_bad kinds all bytes from at to rows behind some file so_far is bad =
    let rest : List ℕ = slice_range all at to in
    let end : at + (to - at) ≡ to = omega (arith, bad.before) in
    let whole : slice_range all from to ≡ slice_range all from at ++ rest =
    ap (slice_range all from) (sym end) ∙ sym (slice_range-append all from at (to - at) behind) ∙ ap (λ (n : ℕ). slice_range all from at ++ slice_range all at n) end in
    let size : at + length bytes - at ≡ length bytes = omega arith in
    let front : bytes ≡ take (length bytes) rest = is ∙ ap (λ (n : ℕ). take n (drop at all)) size ∙ sym (take-take (length bytes) (to - at) (drop at all) (omega (arith, bad.within))) in
    let there : 0 < length rest = omega (arith, ap length front, length-take (length bytes) rest) in
    let left : IsFile kinds rest = rest_is_file kinds (slice_range all from at) rest rows file.0 so_far (subst (λ (l : List ℕ). FileRows kinds l file.0) whole file.1) in
    let first = first_block kinds rest left.0 left.1 there in
    let more : List ℕ = drop (length bytes) rest in
    let joined : bytes ++ more ≡ rest = ap (λ (l : List ℕ). l ++ more) front ∙ take-append-drop (length bytes) rest in
    let fits : length (bytes ++ more) ≤ to - at = omega (arith, ap length joined, length-take (to - at) (drop at all)) in
    bad.no_block more fits first.0 first.1.0 (subst (λ (l : List ℕ). IsBlock kinds first.0 (take first.1.0 l)) (sym joined) first.1.1)

-- a bad place of a part of a range is one of the range
pub bad_in : (kinds : List Kind) (from to at : ℕ) (bytes : List ℕ) → from ≤ at → IsBadAt kinds at to at bytes → IsBadAt kinds from to at bytes
bad_in kinds from to at bytes behind bad = record { behind = behind; before = bad.before; within = bad.within; no_block = bad.no_block }

-- a range of what is behind it
pub slice_range-own : (bytes : List ℕ) (base good : ℕ) → slice_range (take good bytes) base good ≡ drop base (take good bytes)
slice_range-own bytes base good = take_all (good - base) (drop base (take good bytes)) (omega (arith, length-drop base (take good bytes), length-take good bytes))

-- all that is there
pub slice_range-all : (bytes : List ℕ) (len : ℕ) → len ≡ length bytes → slice_range bytes 0 len ≡ bytes
slice_range-all bytes len is = take_all (len - 0) bytes (omega (arith, is))

-- rows of blocks fit
blocks_fit : (kinds : List Kind) (blocks : List Block) → AllByRecursion (λ (block : Block). IsBlock kinds block.0 block.1) blocks → All (Fits kinds) (flat_map (λ (block : Block). block.0) blocks)
blocks_fit kinds [] ok = All-nil (Fits kinds)
blocks_fit kinds (x ∷ xs) ok = All-append (Fits kinds) x.0 (flat_map (λ (block : Block). block.0) xs) (rows_fit kinds x.0 x.1 ok.0) (blocks_fit kinds xs ok.1)

-- rows of a file fit
pub file_fits : (kinds : List Kind) (bytes : List ℕ) (rows : List (List Value)) → FileRows kinds bytes rows → All (Fits kinds) rows
file_fits kinds bytes rows file = subst (All (Fits kinds)) (sym file.3) (blocks_fit kinds file.0 file.1)

-- nothing is given yet, by a count that is within its type
pub gave_none : {S : Type 0} (faults given : S → ℕ) (sound : S → Type 0) (n : ℕ) (a : S) → n ≡ 0 → given a < 2 ^ 64 → GoesOnGiving faults given sound n a a
gave_none faults given sound n a none within = record {
  later = omega arith;
  steady = λ s. refl;
  stays_sound = λ s. s;
  gave = still (2 ^ 64 - 1) (given a) n none (omega (arith, within));
}
  where
    still : (end count n : ℕ) → n ≡ 0 → count ≤ end → count ≡ min (count + n) end
    still end count n none within = omega arith

-- what is given by two calls, added up
pub gave_more : {S : Type 0} (faults given : S → ℕ) (sound : S → Type 0) (m n sum : ℕ) (a b c : S) → m + n ≡ sum → GoesOnGiving faults given sound m a b → GoesOnGiving faults given sound n b c → GoesOnGiving faults given sound sum a c
gave_more faults given sound m n sum a b c is first next =
    subst (λ (k : ℕ). GoesOnGiving faults given sound k a c) is (giving_more faults given sound m n a b c first next)
