-- What a block begins with.
use Rattle.std.proofs.Common.{◌≡◌, ℕ, zero, suc, ◌+◌, ◌≤◌, Bool, true, false, cond, nat_eq, List, [], ◌∷◌, ◌++◌, length, take, drop, refl, sym, ap, ◌∙◌, append_assoc, arith}
use Rattle.std.proofs.lemmas.List.{take_at, length-append}
use Rattle.hq_value.specs.declared.value.Value.{Value}
use Rattle.hq_value.specs.declared.kind.Kind.{Kind}
use Rattle.hq_block.specs.declared.bounds.Bounds.{Bounds}
use Rattle.hq_block.specs.declared.head.Head.{Head}
use Rattle.hq_block.specs.declared.head.BlockHead.{BlockHead}
use Rattle.hq_block.specs.Block.{head_bytes, body_bytes, bounds_in, IsBlock}
use Rattle.hq_block.specs.Bounds.{AreBounds, bounds_of, bounds_bytes}
use Rattle.hq_block.specs.Heads.{IsHead, HeadLength, HeadIs, BoundsFollow}
use Rattle.hq_block.proofs.Heads.{head_same, head_in_front, rules_of}
use Rattle.hq_block.proofs.Skipped.{block-head, bounds-are}

-- the bounds that a block's head says
abbrev said : Bool → List Kind → List (List Value) → List Bounds
said true kinds rows = bounds_of kinds rows
said false kinds rows = []

-- the bytes begin with a head and bounds, which say how long the block is
pub record Begins (kinds : List Kind) (bytes all : List ℕ) : Type 0 where
  pub n : ℕ
  pub is : HeadLength all n
  pub within : n ≤ length bytes
  pub head : BlockHead
  pub says : HeadIs kinds head (take n bytes)
  pub length_is : head.length ≡ length bytes

pub block-begins : (kinds : List Kind) (rows : List (List Value)) (bytes more : List ℕ) → IsBlock kinds rows bytes → Begins kinds bytes (bytes ++ more)
block-begins kinds rows bytes more is =
    let head : Head = is.head in
    let kinds' : List Kind = take head.columns kinds in
    let bounds : List ℕ = bounds_in head.version kinds' is.own in
    let body : List ℕ = body_bytes is.own in
    let n : ℕ = 16 + head.bounds in
    let begun : IsHead head bytes = block-head kinds rows bytes is in
    let long : length bytes ≡ 16 + head.size = omega (arith, ap length is.is.spelled, length-append bounds body, is.is.bounds_length, is.is.size) in
    let front : take n bytes ≡ head_bytes head ++ bounds =
    ap (take n) (is.is.spelled ∙ sym (append_assoc (head_bytes head) bounds body)) ∙ take_at (head_bytes head ++ bounds) body n (let e : length (head_bytes head ++ bounds) ≡ 16 + head.bounds = omega (arith, is.is.bounds_length) in e) in
    let first : take 16 (take n bytes) ≡ head_bytes head = ap (take 16) front ∙ take_at (head_bytes head) bounds 16 refl in
    let rest : drop 16 (take n bytes) ≡ bounds = ap (drop 16) front in
    record {
      n = n;
      is = record { head = head; is = (head_in_front bytes more head begun).1; length_is = refl };
      within = omega (arith, long, (rules_of head is.is.rules).within);
      head = record { columns = head.columns; length = 16 + head.size; bounds = said (nat_eq head.version 2) kinds' is.own };
      says = record {
        head = head;
        is = record { rules = begun.rules; row_count = begun.row_count; spelled = first };
        columns = refl;
        within = is.within;
        length_is = refl;
        bounds = follow (nat_eq head.version 2) kinds' is.own (drop 16 (take n bytes)) rest (bounds-are kinds' is.own is.is.storable);
      };
      length_is = sym long;
    }
  where
    follow : (two : Bool) (kinds' : List Kind) (own : List (List Value)) (found : List ℕ) → found ≡ cond two (bounds_bytes (bounds_of kinds' own)) [] → AreBounds kinds' (bounds_of kinds' own) → BoundsFollow two kinds' (said two kinds' own) found
    follow true kinds' own found e are = (are, e)
    follow false kinds' own found e are = refl

pub first_16 : (bytes : List ℕ) (n : ℕ) → HeadLength bytes n → (16 ≤ length bytes) × HeadLength (take 16 bytes) n
first_16 bytes n is =
    let long = (head_in_front bytes [] is.head is.is).0 in
    (long, record { head = is.head; is = record { rules = is.is.rules; row_count = is.is.row_count; spelled = twice 16 bytes ∙ is.is.spelled }; length_is = is.length_is })
  where
    twice : (m : ℕ) (xs : List ℕ) → take m (take m xs) ≡ take m xs
    twice zero xs = refl
    twice (suc m) [] = refl
    twice (suc m) (x ∷ xs) = ap (λ (l : List ℕ). x ∷ l) (twice m xs)

pub onward : (bytes more : List ℕ) (n : ℕ) → HeadLength bytes n → HeadLength (bytes ++ more) n
onward bytes more n is = record { head = is.head; is = (head_in_front bytes more is.head is.is).1; length_is = is.length_is }

pub one_head : (kinds : List Kind) (a b : BlockHead) (bytes : List ℕ) → HeadIs kinds a bytes → HeadIs kinds b bytes → a.length ≡ b.length
one_head kinds a b bytes is also = is.length_is ∙ ap (λ (h : Head). 16 + h.size) (head_same is.head also.head bytes is.is also.is) ∙ sym also.length_is
