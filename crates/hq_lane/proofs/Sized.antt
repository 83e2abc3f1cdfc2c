-- A block's first bytes say how long it is.
use Rattle.std.proofs.Common.{◌≡◌, ◌∙◌, ℕ, zero, suc, ◌+◌, ◌-◌, ◌<◌, ◌≤◌, ◌^◌, ◌&&◌, Bool, true, false, cond, leb, nat_eq, All, List, [], ◌∷◌, ◌++◌, length, take, map, replicate, sym, ap, subst, arith, append_assoc, length-append}
use Rattle.std.specs.List.{AllByRecursion}
use Rattle.std.proofs.lemmas.List.Elements.{All-nil, All-cons}
use Rattle.std.specs.Int.{w16, w32, to_be_bytes, from_be_bytes}
use Rattle.hq_value.specs.declared.value.Value.{Value}
use Rattle.hq_value.specs.declared.value.Value.TheVariants as variant
use Rattle.hq_value.specs.declared.kind.Kind.{Kind}
use Rattle.hq_value.specs.Kinds.{Fits, IsOfKind}
use Rattle.hq_block.specs.Row.{IsStorable}
use Rattle.hq_block.specs.Block.{IsBlock, body_bytes, bounds_in, head_bytes, is_version, padded}
use Rattle.hq_block.proofs.Bools.{both_true, le-true}
use Rattle.hq_block.proofs.Heads.{rules_of, length-head_bytes}
use Rattle.hq_block.proofs.Numbers.{number_again, wide32, guard_none, some_is}
use Rattle.hq_block.proofs.Lengths.{rows_below, length-take_kinds, length-Fits}
use Rattle.hq_lane.specs.Sizes.{size_at}

-- the length that the first bytes say, which is more than that of a head
pub record IsSized (block : List ℕ) : Type 0 where
  pub says : length block ≡ 16 + size_at block
  pub some : 0 < size_at block

-- a number that stands in front
pub number_in_front : (n : ℕ) (rest : List ℕ) → n < 2 ^ 32 → from_be_bytes w32 (take 4 (to_be_bytes w32 n ++ rest)) ≡ n
number_in_front n rest below =
    ap (λ (p : ℕ × List ℕ). p.0) (some_is _ _ (guard_none _ _ _ (number_again w32 (2 ^ 32) wide32 n rest below)).1)

-- the number in a block's head
said : (kinds : List Kind) (rows : List (List Value)) (block : List ℕ) (is : IsBlock kinds rows block) (body : List ℕ) → is.head.size < 2 ^ 32 → size_at (head_bytes is.head ++ body) ≡ is.head.size
said kinds rows block is body below =
    let behind : List ℕ = to_be_bytes w32 is.head.rows ++ (to_be_bytes w16 is.head.bounds ++ 0 ∷ 0 ∷ []) in
    ap (λ (bytes : List ℕ). from_be_bytes w32 (take 4 bytes)) (append_assoc (to_be_bytes w32 is.head.size) behind body)
    ∙ number_in_front is.head.size (behind ++ body) below

are_fit : (kinds : List Kind) (rows : List (List Value)) → AllByRecursion (IsStorable kinds) rows → AllByRecursion (Fits kinds) rows
are_fit kinds [] ok = tt
are_fit kinds (row ∷ rows) ok = (ok.0.fits, are_fit kinds rows ok.1)

rows_by : (second first : Bool) (rows : ℕ) (none : Bool) → cond second (leb 16 rows) (first && (leb 1 rows && none)) ≡ true → 1 ≤ rows
rows_by true first rows none e = omega (arith, le-true 16 rows e)
rows_by false first rows none e = le-true 1 rows (both_true (leb 1 rows) none (both_true first (leb 1 rows && none) e).1).0

some_rows : (version rows bounds : ℕ) → is_version version rows bounds ≡ true → 1 ≤ rows
some_rows version rows bounds e = rows_by (nat_eq version 2) (nat_eq version 1) rows (nat_eq bounds 0) e

pub sized : (kinds : List Kind) (rows : List (List Value)) (block : List ℕ) → IsBlock kinds rows block → IsSized block
sized kinds rows block is =
    let of = is.is in
    let head = is.head in
    let own : List Kind = take head.columns kinds in
    let behind : List ℕ = bounds_in head.version own is.own ++ body_bytes is.own in
    let rules = rules_of head of.rules in
    let size : size_at block ≡ head.size = ap size_at of.spelled ∙ said kinds rows block is behind (omega (arith, rules.short)) in
    let long : length block ≡ 16 + head.size =
    ap length of.spelled ∙ omega (arith, length-append (head_bytes head) behind, length-head_bytes head, length-append (bounds_in head.version own is.own) (body_bytes is.own), of.bounds_length, of.size) in
    let columns : length own ≡ head.columns = length-take_kinds head.columns kinds is.within in
    let least : length is.own ≤ length (body_bytes is.own) = rows_below own is.own (omega (arith, columns, rules.some_columns)) (are_fit own is.own of.storable) in
    record { says = omega (arith, size, long); some = omega (arith, size, least, of.size, of.row_count, some_rows head.version head.rows head.bounds rules.version) }

null_of : (k : Kind) → IsOfKind k variant.Null
null_of k = tt

nulls_fit : (kinds : List Kind) (n : ℕ) → length kinds ≡ n → Fits kinds (replicate n variant.Null)
nulls_fit [] zero e = tt
nulls_fit [] (suc n) e = absurd (omega arith)
nulls_fit (k ∷ kinds) zero e = absurd (omega arith)
nulls_fit (k ∷ kinds) (suc n) e = (null_of k, nulls_fit kinds n (omega arith))

-- a row of the first columns, with NULLs for the others
with_nulls : (kinds : List Kind) (k : ℕ) (row : List Value) (n : ℕ) → Fits (take k kinds) row → length kinds ≡ length row + n → Fits kinds (row ++ replicate n variant.Null)
with_nulls kinds k [] n ok e = nulls_fit kinds n (omega arith)
with_nulls [] k (value ∷ row) n ok e = absurd (omega arith)
with_nulls (x ∷ kinds) zero (value ∷ row) n ok e = absurd ok
with_nulls (x ∷ kinds) (suc k) (value ∷ row) n ok e = (ok.0, with_nulls kinds k row n ok.1 (omega arith))

each_fits : (kinds : List Kind) (k : ℕ) (own : List (List Value)) → k ≤ length kinds → AllByRecursion (IsStorable (take k kinds)) own → All (Fits kinds) (map (padded (length kinds)) own)
each_fits kinds k [] few ok = All-nil (Fits kinds)
each_fits kinds k (row ∷ rows) few ok =
    let long : length row ≡ k = length-Fits (take k kinds) row ok.0.fits ∙ length-take_kinds k kinds few in
    All-cons (Fits kinds) (padded (length kinds) row) (map (padded (length kinds)) rows)
    (with_nulls kinds k row (length kinds - length row) ok.0.fits (omega (arith, long)))
    (each_fits kinds k rows few ok.1)

-- the rows of a block fit its kinds
pub rows_fit : (kinds : List Kind) (rows : List (List Value)) (block : List ℕ) → IsBlock kinds rows block → All (Fits kinds) rows
rows_fit kinds rows block is = subst (All (Fits kinds)) (sym is.filled) (each_fits kinds is.head.columns is.own is.within is.is.storable)
