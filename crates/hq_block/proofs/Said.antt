-- What a head and its bounds say.
use Rattle.std.proofs.Common.{◌≡◌, ℕ, ◌<◌, Bool, true, false, cond, nat_eq, List, [], length, take, drop, Some, None, sym, ap, subst, ◌∙◌, arith}
use Rattle.hq_value.specs.declared.kind.Kind.{Kind}
use Rattle.hq_block.specs.declared.bounds.Bounds.{Bounds}
use Rattle.hq_block.specs.declared.head.Head.{Head}
use Rattle.hq_block.specs.declared.head.BlockHead.{BlockHead}
use Rattle.hq_block.specs.Heads.{IsHead, HeadIs, BoundsFollow}
use Rattle.hq_block.specs.Reading.{head_bounds_at, all_bounds_at}
use Rattle.hq_block.proofs.Bounding.{all_bounds_takes, all_bounds_again}
use Rattle.hq_block.proofs.Flags.{IsBytes}
use Rattle.hq_block.proofs.Heads.{head_same}
use Rattle.hq_block.proofs.Numbers.{some_is, IsBytes-drop}

-- bounds that follow are read, and bounds that are read follow
bounds_found : (version : ℕ) (kinds : List Kind) (found : List Bounds) (bytes : List ℕ) → BoundsFollow (nat_eq version 2) kinds found bytes → head_bounds_at version kinds bytes ≡ Some found
bounds_found version kinds found bytes follow = by (nat_eq version 2) follow
  where
    by : (two : Bool) → BoundsFollow two kinds found bytes → cond two (all_bounds_at kinds bytes) (Some []) ≡ Some found
    by true follow = ap (all_bounds_at kinds) follow.1 ∙ all_bounds_again kinds found follow.0
    by false follow = ap (λ (l : List Bounds). Some l) (sym follow)

pub bounds_say : (version : ℕ) (kinds : List Kind) (found : List Bounds) (bytes rest : List ℕ) → IsBytes bytes → rest ≡ drop 16 bytes → head_bounds_at version kinds rest ≡ Some found → BoundsFollow (nat_eq version 2) kinds found (drop 16 bytes)
bounds_say version kinds found bytes rest fits is read = by (nat_eq version 2) (ap (head_bounds_at version kinds) (sym is) ∙ read)
  where
    by : (two : Bool) → cond two (all_bounds_at kinds (drop 16 bytes)) (Some []) ≡ Some found → BoundsFollow two kinds found (drop 16 bytes)
    by true e = all_bounds_takes kinds (drop 16 bytes) found (IsBytes-drop 16 bytes fits) e
    by false e = sym (some_is [] found e)

-- where no bounds are read, the bytes say nothing
pub bounds_refused : (kinds : List Kind) (head : Head) (bytes rest : List ℕ) → IsHead head bytes → rest ≡ drop 16 bytes → head_bounds_at head.version (take head.columns kinds) rest ≡ None → (found : BlockHead) → HeadIs kinds found bytes → ⊥
bounds_refused kinds head bytes rest is rest_is none found says =
    let same : says.head ≡ head = head_same says.head head bytes says.is is in
    let some : head_bounds_at says.head.version (take says.head.columns kinds) (drop 16 bytes) ≡ Some found.bounds = bounds_found says.head.version (take says.head.columns kinds) found.bounds (drop 16 bytes) says.bounds in
    let here : head_bounds_at head.version (take head.columns kinds) (drop 16 bytes) ≡ Some found.bounds = subst (λ (h : Head). head_bounds_at h.version (take h.columns kinds) (drop 16 bytes) ≡ Some found.bounds) same some in
    let nothing : head_bounds_at head.version (take head.columns kinds) (drop 16 bytes) ≡ None = ap (head_bounds_at head.version (take head.columns kinds)) (sym rest_is) ∙ none in
    cc

-- nor where there are more columns than kinds
pub too_wide : (kinds : List Kind) (head : Head) (bytes : List ℕ) → IsHead head bytes → length kinds < head.columns → (found : BlockHead) → HeadIs kinds found bytes → ⊥
too_wide kinds head bytes is wide found says =
    let same : says.head.columns ≡ head.columns = ap (λ (h : Head). h.columns) (head_same says.head head bytes says.is is) in
    omega (arith, same, says.within, wide)
