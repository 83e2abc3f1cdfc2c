-- Blocks that are passed one after another.
use Rattle.std.proofs.Common.{◌≡◌, ◌∙◌, ℕ, ◌+◌, ◌-◌, ◌<◌, ◌≤◌, Bool, true, false, cond, nat_eq, leb, All, List, [], ◌∷◌, ◌++◌, length, take, drop, Some, refl, sym, ap, subst, arith, append-nil, length-take, length-drop, slice_range, IsTrue, lit≤}
use Rattle.std.specs.Prelude.{◌&&◌, Result, Ok, Err, OnOk}
use Rattle.std.specs.Int.{w16, w32, to_be_bytes}
use Rattle.std.proofs.lemmas.Bool.{false≢true, eqb-true}
use Rattle.std.proofs.lemmas.List.{drop-drop, drop-take, take-take, take_at, drop_at, take-append-le, take-append-drop}
use Rattle.std.proofs.lemmas.List.Elements.{All-nil}
use Rattle.hq_value.specs.declared.value.Value.{Value}
use Rattle.hq_value.specs.declared.kind.Kind.{Kind}
use Rattle.hq_value.specs.Kinds.{Fits}
use Rattle.hq_block.specs.declared.bounds.Bounds.{Bounds}
use Rattle.hq_block.specs.declared.head.BlockHead.{BlockHead}
use Rattle.hq_block.specs.declared.skip.ColumnTest.{ColumnTest}
use Rattle.hq_block.specs.Block.{IsBlock, FileRows}
use Rattle.hq_block.specs.Bounds.{bounds_bytes}
use Rattle.hq_block.specs.Heads.{HeadLength, HeadIs, BoundsFollow}
use Rattle.hq_block.specs.Skipping.{skips, read_length}
use Rattle.hq_block.proofs.Begins.{block-begins, first_16, onward}
use Rattle.hq_block.proofs.BlockLaws.{blocks_are_apart}
use Rattle.hq_block.proofs.Bools.{both_true}
use Rattle.hq_block.proofs.Files.{first_block, other_blocks}
use Rattle.hq_block.proofs.Heads.{head_in_front, head_same, one_length, rules_of}
use Rattle.hq_block.proofs.Numbers.{some_is}
use Rattle.hq_lane.specs.Cursors.{CursorState, HasPassed}
use Rattle.hq_lane.specs.FileBlocks.{head_in, blocks_in, kept_rows, read_sum}
use Rattle.hq_lane.specs.Scans.{IsFile, BeginsNoBlock, TakesBlock, HasReadBlock, PassesBlock, IsBadAt}
use Rattle.hq_lane.specs.Sizes.{size_at}
use Rattle.hq_lane.proofs.FileBlocks.{made, head_said, first_of_file, kept_first, sum_first, no_tests, no_tests-length}
use Rattle.hq_lane.proofs.Fronts.{size_of_front}
use Rattle.hq_lane.proofs.Scanning.{never_bad}
use Rattle.hq_lane.proofs.Sized.{number_in_front, rows_fit}

-- a head's size is the number that stands in the bytes
pub size_begun : (bytes : List ℕ) (n : ℕ) (begun : HeadLength bytes n) → size_at bytes ≡ begun.head.size
size_begun bytes n begun =
    let head = begun.head in
    sym (size_of_front 16 bytes (lit≤ tt)) ∙ ap size_at begun.is.spelled
    ∙ number_in_front head.size (to_be_bytes w32 head.rows ++ (to_be_bytes w16 head.bounds ++ 0 ∷ 0 ∷ [])) (omega (arith, (rules_of head begun.is.rules).short))

-- what a head's length is made of
pub record IsFront (kinds : List Kind) (head : BlockHead) (bytes : List ℕ) : Type 0 where
  pub enough : 16 ≤ length bytes
  pub long : length bytes ≡ 16 + length (bounds_bytes head.bounds)
  pub size : head.length ≡ 16 + size_at bytes
  pub within : length bytes ≤ head.length

pub front_is : (kinds : List Kind) (head : BlockHead) (bytes : List ℕ) → HeadLength bytes (length bytes) → HeadIs kinds head bytes → IsFront kinds head bytes
front_is kinds head bytes begun is =
    let h = is.head in
    let rules = rules_of h is.is.rules in
    let one = head_same begun.head h bytes begun.is is.is in
    let same : length bytes ≡ 16 + h.bounds = begun.length_is ∙ (λ i. 16 + (one i).bounds) in
    let size : size_at bytes ≡ h.size = size_begun bytes (length bytes) begun ∙ (λ i. (one i).size) in
    let enough : 16 ≤ length bytes = (head_in_front bytes [] h is.is).0 in
    record {
      enough = enough;
      long = by same enough (nat_eq h.version 2) is.bounds rules.version;
      size = is.length_is ∙ ap (λ (n : ℕ). 16 + n) (sym size);
      within = omega (arith, same, is.length_is, rules.within);
    }
  where
    by : length bytes ≡ 16 + is.head.bounds → 16 ≤ length bytes → (two : Bool) → BoundsFollow two (take is.head.columns kinds) head.bounds (drop 16 bytes)
        → cond two (leb 16 is.head.rows) (nat_eq is.head.version 1 && (leb 1 is.head.rows && nat_eq is.head.bounds 0)) ≡ true → length bytes ≡ 16 + length (bounds_bytes head.bounds)
    by same enough true follow rules = omega (arith, ap length follow.1, length-drop 16 bytes, enough)
    by same enough false follow rules =
        let a = both_true (nat_eq is.head.version 1) (leb 1 is.head.rows && nat_eq is.head.bounds 0) rules in
        let zero_bounds : is.head.bounds ≡ 0 = eqb-true is.head.bounds 0 (both_true (leb 1 is.head.rows) (nat_eq is.head.bounds 0) a.1).1 in
        let none : length (bounds_bytes head.bounds) ≡ 0 = ap (λ (bounds : List Bounds). length (bounds_bytes bounds)) follow in
        omega (arith, same, zero_bounds, none)

-- how long a head is with its bounds: no longer than its block
pub length_within : (bytes : List ℕ) (n : ℕ) → HeadLength bytes n → (16 ≤ n) × (n ≤ 16 + size_at bytes)
length_within bytes n begun =
    let rules = rules_of begun.head begun.is.rules in
    let size : size_at bytes ≡ begun.head.size = size_begun bytes n begun in
    (omega (arith, begun.length_is), omega (arith, begun.length_is, size, rules.within))

-- bytes without a head begin with no block, however they go on
pub no_head_begins_none : (kinds : List Kind) (bytes more : List ℕ) → 16 ≤ length bytes → ((n : ℕ) → HeadLength bytes n → ⊥) → BeginsNoBlock kinds (bytes ++ more)
no_head_begins_none kinds bytes more enough none rows len is =
    let all : List ℕ = bytes ++ more in
    let b = block-begins kinds rows (take len all) (drop len all) is in
    let begun : HeadLength all b.n = subst (λ (l : List ℕ). HeadLength l b.n) (take-append-drop len all) b.is in
    let front : take 16 all ≡ take 16 bytes = take-append-le 16 bytes more enough in
    let first : HeadLength (take 16 bytes) b.n = subst (λ (l : List ℕ). HeadLength l b.n) front (first_16 all b.n begun).1 in
    none b.n (subst (λ (l : List ℕ). HeadLength l b.n) (take-append-drop 16 bytes) (onward (take 16 bytes) (drop 16 bytes) b.n first))

-- nor do a head and bytes that are no bounds
pub no_bounds_begin_none : (kinds : List Kind) (bytes more : List ℕ) → HeadLength bytes (length bytes) → ((head : BlockHead) → HeadIs kinds head bytes → ⊥) → BeginsNoBlock kinds (bytes ++ more)
no_bounds_begin_none kinds bytes more begun none rows len is =
    let all : List ℕ = bytes ++ more in
    let b = block-begins kinds rows (take len all) (drop len all) is in
    let also : HeadLength all b.n = subst (λ (l : List ℕ). HeadLength l b.n) (take-append-drop len all) b.is in
    let same : length bytes ≡ b.n = one_length all (length bytes) b.n (onward bytes more (length bytes) begun) also in
    let whole : take b.n all ≡ take b.n (take len all) = ap (take b.n) (sym (take-append-drop len all)) ∙ take-append-le b.n (take len all) (drop len all) b.within in
    let front : take b.n (take len all) ≡ bytes = sym whole ∙ take_at bytes more b.n same in
    none b.head (subst (HeadIs kinds b.head) front b.says)

-- a block that was read without tests is passed
pub record Passed (told : Bool) (all : List ℕ) (at len : ℕ) (kinds : List Kind) (old new : List (List Value)) : Type 0 where
  pub head : BlockHead
  pub length_is : head.length ≡ len
  pub passes : PassesBlock told all at kinds [] head old new
  pub read : read_length [] head ≡ len

pub passed_untested : (told : Bool) (all : List ℕ) (at len : ℕ) (kinds : List Kind) (old new : List (List Value)) → HasReadBlock told all at len kinds old new → Passed told all at len kinds old new
passed_untested told all at len kinds old new read =
    let t = read.taken in
    let b = block-begins kinds t.found read.bytes [] t.block in
    let length_is : b.head.length ≡ len = b.length_is ∙ read.long in
    record {
      head = b.head;
      length_is = length_is;
      passes = record {
        bytes = read.bytes;
        are_told = λ told. read.are_told told ∙ ap (λ (n : ℕ). slice_range all at (at + n)) (sym read.long);
        long = sym (no_tests-length b.head ∙ b.length_is);
        short = omega (arith, b.length_is);
        front = b.n;
        within = b.within;
        begun = subst (λ (l : List ℕ). HeadLength l b.n) (append-nil read.bytes) b.is;
        says = b.says;
        skipped = λ e. absurd (false≢true (sym (no_tests b.head.bounds) ∙ e));
        taken = λ e. t;
      };
      read = no_tests-length b.head ∙ length_is;
    }

-- how many bytes are read
pub skipped_length : (tests : List ColumnTest) (head : BlockHead) → skips tests head.bounds ≡ true → read_length tests head ≡ 16 + length (bounds_bytes head.bounds)
skipped_length tests head e = ap (λ (b : Bool). cond b (16 + length (bounds_bytes head.bounds)) head.length) e

pub whole_length : (tests : List ColumnTest) (head : BlockHead) → skips tests head.bounds ≡ false → read_length tests head ≡ head.length
whole_length tests head e = ap (λ (b : Bool). cond b (16 + length (bounds_bytes head.bounds)) head.length) e

-- a block that is skipped
pub passed_over : (told : Bool) (all : List ℕ) (at : ℕ) (kinds : List Kind) (tests : List ColumnTest) (head : BlockHead) (bytes : List ℕ) (rows : List (List Value)) → skips tests head.bounds ≡ true
    → HeadLength bytes (length bytes) → HeadIs kinds head bytes → (IsTrue told → bytes ≡ slice_range all at (at + length bytes)) → PassesBlock told all at kinds tests head rows rows
passed_over told all at kinds tests head bytes rows skip begun is are_told =
    let f = front_is kinds head bytes begun is in
    record {
      bytes = bytes;
      are_told = are_told;
      long = f.long ∙ sym (skipped_length tests head skip);
      short = f.within;
      front = length bytes;
      within = omega arith;
      begun = begun;
      says = subst (HeadIs kinds head) (sym (ap (take (length bytes)) (sym (append-nil bytes)) ∙ take_at bytes [] (length bytes) refl)) is;
      skipped = λ _. refl;
      taken = λ e. absurd (false≢true (sym e ∙ skip));
    }

-- a block whose head and bounds are read, and then the rest
pub passed_whole : (told : Bool) (all : List ℕ) (at : ℕ) (kinds : List Kind) (tests : List ColumnTest) (head : BlockHead) (front bytes : List ℕ) (old new : List (List Value)) → skips tests head.bounds ≡ false
    → HeadLength front (length front) → HeadIs kinds head front → take (length front) bytes ≡ front → length bytes ≡ head.length → (IsTrue told → bytes ≡ slice_range all at (at + length bytes)) → TakesBlock kinds bytes old new
    → PassesBlock told all at kinds tests head old new
passed_whole told all at kinds tests head front bytes old new keep begun is first long are_told taken =
    let f = front_is kinds head front begun is in
    let n : ℕ = length front in
    record {
      bytes = bytes;
      are_told = are_told;
      long = long ∙ sym (whole_length tests head keep);
      short = omega (arith, long);
      front = n;
      within = omega (arith, f.within, long);
      begun = subst (λ (l : List ℕ). HeadLength l n) (ap (λ (l : List ℕ). l ++ drop n bytes) (sym first) ∙ take-append-drop n bytes) (onward front (drop n bytes) n begun);
      says = subst (HeadIs kinds head) (sym first) is;
      skipped = λ e. absurd (false≢true (sym keep ∙ e));
      taken = λ _. taken;
    }

-- what was found of a block that was passed
pub record Found (kinds : List Kind) (tests : List ColumnTest) (head : BlockHead) (bytes : List ℕ) (old new : List (List Value)) : Type 0 where
  pub found : List (List Value)
  pub added : new ≡ old ++ found
  pub fit : All (Fits kinds) found
  pub skipped : skips tests head.bounds ≡ true → found ≡ []
  pub taken : skips tests head.bounds ≡ false → IsBlock kinds found bytes

pub found_in : (told : Bool) (all : List ℕ) (at : ℕ) (kinds : List Kind) (tests : List ColumnTest) (head : BlockHead) (old new : List (List Value)) (p : PassesBlock told all at kinds tests head old new)
    → Found kinds tests head p.bytes old new
found_in told all at kinds tests head old new p = by (skips tests head.bounds) refl
  where
    by : (skip : Bool) → skips tests head.bounds ≡ skip → Found kinds tests head p.bytes old new
    by true e = record {
      found = [];
      added = p.skipped e ∙ sym (append-nil old);
      fit = All-nil (Fits kinds);
      skipped = λ _. refl;
      taken = λ f. absurd (false≢true (sym f ∙ e));
    }
    by false e =
        let t = p.taken e in
        record {
          found = t.found;
          added = t.added;
          fit = rows_fit kinds t.found p.bytes t.block;
          skipped = λ f. absurd (false≢true (sym e ∙ f));
          taken = λ _. t.block;
        }

-- what is left behind a block of a file is one, and what is kept and read of both is that of the block and of what is left
pub record GoesBy (kinds : List Kind) (tests : List ColumnTest) (left rest : List ℕ) (head : BlockHead) (found : List (List Value)) : Type 0 where
  pub file : IsFile kinds rest
  pub rows : kept_rows tests kinds left ≡ found ++ kept_rows tests kinds rest
  pub reads : read_sum tests kinds left ≡ read_length tests head + read_sum tests kinds rest

goes_by : (kinds : List Kind) (tests : List ColumnTest) (left bytes : List ℕ) (front : ℕ) (head : BlockHead) (found : List (List Value)) → IsFile kinds left → 0 < length bytes → bytes ≡ take (length bytes) left
    → front ≤ length bytes → HeadLength bytes front → HeadIs kinds head (take front bytes) → (skips tests head.bounds ≡ true → found ≡ []) → (skips tests head.bounds ≡ false → IsBlock kinds found bytes)
    → GoesBy kinds tests left (drop head.length left) head found
goes_by kinds tests left bytes front head found file some is within begun says skip taken =
    let k : ℕ = length bytes in
    let more : List ℕ = drop k left in
    let whole : bytes ++ more ≡ left = ap (λ (l : List ℕ). l ++ more) is ∙ take-append-drop k left in
    let there : 0 < length left = omega (arith, some, ap length is, length-take k left) in
    let f = first_block kinds left file.0 file.1 there in
    let first : List (List Value) = f.0 in
    let len : ℕ = f.1.0 in
    let a : List ℕ = take len left in
    let x : List ℕ = drop len left in
    let block : IsBlock kinds first a = f.1.1 in
    let parts : a ++ x ≡ left = take-append-drop len left in
    let others = other_blocks kinds left file.0 first len file.1 block in
    let rest_file : IsFile kinds x = (drop (length first) file.0, others.1) in
    let here : HeadLength left front = subst (λ (l : List ℕ). HeadLength l front) whole (onward bytes more front begun) in
    let first_bytes : take front left ≡ take front bytes = ap (take front) (sym whole) ∙ take-append-le front bytes more within in
    let said : head_in kinds left ≡ Some head = head_said kinds left front head here (subst (HeadIs kinds head) (sym first_bytes) says) in
    let b = block-begins kinds first a x block in
    let block_here : HeadLength left b.n = subst (λ (l : List ℕ). HeadLength l b.n) parts b.is in
    let block_bytes : take b.n left ≡ take b.n a = ap (take b.n) (sym parts) ∙ take-append-le b.n a x b.within in
    let also : head_in kinds left ≡ Some b.head = head_said kinds left b.n b.head block_here (subst (HeadIs kinds b.head) (sym block_bytes) b.says) in
    let same : head ≡ b.head = some_is head b.head (sym said ∙ also) in
    let size : head.length ≡ length a = ap (λ (h : BlockHead). h.length) same ∙ b.length_is in
    let rest : x ≡ drop head.length left = sym (ap (drop head.length) (sym parts) ∙ drop_at a x head.length (sym size)) in
    let cut = subst (λ (l : List ℕ). blocks_in kinds l ≡ made head first ∷ blocks_in kinds x) parts (first_of_file kinds first a x head block rest_file (subst (λ (l : List ℕ). head_in kinds l ≡ Some head) (sym parts) said)) in
    let kept : cond (skips tests head.bounds) [] first ≡ found = by first a x more block (parts ∙ sym whole) (skips tests head.bounds) refl in
    subst (λ (l : List ℕ). GoesBy kinds tests left l head found) rest
    (record { file = rest_file; rows = kept_first tests kinds left x first found head cut kept; reads = sum_first tests kinds left x first head cut })
  where
    by : (first : List (List Value)) (a x more : List ℕ) → IsBlock kinds first a → a ++ x ≡ bytes ++ more → (skipping : Bool) → skips tests head.bounds ≡ skipping → cond skipping [] first ≡ found
    by first a x more block same true e = sym (skip e)
    by first a x more block same false e = (blocks_are_apart kinds first found a bytes x more block (taken e) same).1

-- what is behind the first bytes of a range
pub slice_behind : (all : List ℕ) (at len to : ℕ) → at + len ≤ to → drop len (slice_range all at to) ≡ slice_range all (at + len) to
slice_behind all at len to within =
    let size : to - at ≡ len + (to - (at + len)) = omega (arith, within) in
    ap (λ (m : ℕ). drop len (take m (drop at all))) size ∙ drop-take len (to - (at + len)) (drop at all) ∙ ap (take (to - (at + len))) (drop-drop len at all)

-- the same of a range
pub goes_by_range : (all : List ℕ) (at to : ℕ) (kinds : List Kind) (tests : List ColumnTest) (head : BlockHead) (told : Bool) (old new : List (List Value)) (p : PassesBlock told all at kinds tests head old new) (f : Found kinds tests head p.bytes old new)
    → IsTrue told → IsFile kinds (slice_range all at to) → at + head.length ≤ to → GoesBy kinds tests (slice_range all at to) (slice_range all (at + head.length) to) head f.found
goes_by_range all at to kinds tests head told old new p f tells file within =
    let k : ℕ = length p.bytes in
    let some : 16 ≤ k = omega (arith, (head_in_front p.bytes [] p.begun.head p.begun.is).0) in
    let size : at + k - at ≡ k = omega arith in
    let is : p.bytes ≡ take k (slice_range all at to) =
    p.are_told tells ∙ ap (λ (n : ℕ). take n (drop at all)) size ∙ sym (take-take k (to - at) (drop at all) (omega (arith, p.short, within))) in
    subst (λ (l : List ℕ). GoesBy kinds tests (slice_range all at to) l head f.found) (slice_behind all at head.length to within)
    (goes_by kinds tests (slice_range all at to) p.bytes p.front head f.found file (omega (arith, some)) is p.within p.begun p.says f.skipped f.taken)

-- within a file no place is bad
pub never_bad_here : (kinds : List Kind) (all bytes : List ℕ) (at to : ℕ) → 0 < length bytes → IsFile kinds (slice_range all at to) → bytes ≡ slice_range all at (at + length bytes) → IsBadAt kinds at to at bytes → ⊥
never_bad_here kinds all bytes at to some file is bad =
    let none : at - at ≡ 0 = omega arith in
    let no_bytes : slice_range all at at ≡ [] = ap (λ (n : ℕ). take n (drop at all)) none in
    never_bad kinds all bytes at at to [] (omega arith) some file (subst (λ (l : List ℕ). FileRows kinds l []) (sym no_bytes) ([], tt, refl, refl)) is bad

-- a head at least is read
pub read_some : (told : Bool) (all : List ℕ) (at : ℕ) (kinds : List Kind) (tests : List ColumnTest) (head : BlockHead) (old new : List (List Value)) → PassesBlock told all at kinds tests head old new → 16 ≤ read_length tests head
read_some told all at kinds tests head old new p = omega (arith, p.long, p.within, (length_within p.bytes p.front p.begun).0)

-- a fact for what is Ok from another
pub on_ok : {T E X Y : Type 0} (r : Result T E) → (X → Y) → OnOk r X → OnOk r Y
on_ok (Ok x) f h = f h
on_ok (Err e) f h = h

-- a head's first bytes, and then those up to its length
pub begun_whole : (old new : List ℕ) (front : ℕ) → HeadLength old front → take (length old) new ≡ old → front ≡ length new → HeadLength new (length new)
begun_whole old new front here first long =
    let whole : old ++ drop (length old) new ≡ new = ap (λ (l : List ℕ). l ++ drop (length old) new) (sym first) ∙ take-append-drop (length old) new in
    subst (HeadLength new) long (subst (λ (l : List ℕ). HeadLength l front) whole (onward old (drop (length old) new) front here))

-- the same, by the length of the block
pub next_goes : (all : List ℕ) (at len to : ℕ) (kinds : List Kind) (tests : List ColumnTest) (head : BlockHead) (told : Bool) (old new : List (List Value)) (p : PassesBlock told all at kinds tests head old new)
    → head.length ≡ len → at + len ≤ to → IsTrue told → IsFile kinds (slice_range all at to) → GoesBy kinds tests (slice_range all at to) (slice_range all (at + len) to) head (found_in told all at kinds tests head old new p).found
next_goes all at len to kinds tests head told old new p is within tells file =
    let f = found_in told all at kinds tests head old new p in
    subst (λ (n : ℕ). GoesBy kinds tests (slice_range all at to) (slice_range all (at + n) to) head f.found) is
    (goes_by_range all at to kinds tests head told old new p f tells file (omega (arith, is, within)))

passed_now : (now : CursorState) (all : List ℕ) (len : ℕ) (head : BlockHead) (before after : List (List Value)) (p : PassesBlock now.told all now.at now.kinds now.tests head before after)
    → head.length ≡ len → 0 < len → now.at + len ≤ now.to → now.left ≡ slice_range all now.at now.to → (IsTrue now.told → IsFile now.kinds now.left)
    → HasPassed now (record now { at = now.at + len; left = slice_range all (now.at + len) now.to }) head before after
passed_now now all len head before after p is some within left file =
    let f = found_in now.told all now.at now.kinds now.tests head before after p in
    let goes : IsTrue now.told → GoesBy now.kinds now.tests (slice_range all now.at now.to) (slice_range all (now.at + len) now.to) head f.found =
    λ t. next_goes all now.at len now.to now.kinds now.tests head now.told before after p is within t (subst (IsFile now.kinds) left (file t)) in
    record {
      found = f.found;
      added = f.added;
      fit = f.fit;
      skipped = f.skipped;
      some = omega (arith, is, some);
      on = ap (λ (n : ℕ). now.at + n) (sym is);
      within = within;
      rows = λ t. ap (kept_rows now.tests now.kinds) left ∙ (goes t).rows;
      reads = λ t. ap (read_sum now.tests now.kinds) left ∙ (goes t).reads;
    }

-- what a cursor leaves that has passed a block
pub has_passed : (old now new : CursorState) (all : List ℕ) (len : ℕ) (head : BlockHead) (before after : List (List Value)) → now ≡ old → (p : PassesBlock now.told all now.at now.kinds now.tests head before after)
    → head.length ≡ len → 0 < len → now.at + len ≤ now.to → now.left ≡ slice_range all now.at now.to → (IsTrue now.told → IsFile now.kinds now.left)
    → new ≡ record now { at = now.at + len; left = slice_range all (now.at + len) now.to } → HasPassed old new head before after
has_passed old now new all len head before after same p is some within left file moved =
    subst (λ (s : CursorState). HasPassed s new head before after) same
    (subst (λ (s : CursorState). HasPassed now s head before after) (sym moved) (passed_now now all len head before after p is some within left file))
