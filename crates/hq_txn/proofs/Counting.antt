-- Buckets are owned by nodes that there are.
use Rattle.std.proofs.Common.{◌≡◌, ℕ, zero, suc, ◌+◌, ◌%◌, ◌<◌, Bool, true, false, List, [], ◌∷◌, length, slice_index_or, arith, subst, IsTrue}
use Rattle.std.specs.List.{list_any}
use Rattle.std.proofs.Math.Nat.{mod-lt}
use Rattle.hq_value.specs.Marks.{some_up}
use Rattle.hq_detect.specs.Assign.{ups_from, nodes_up, owner_of}
use Rattle.hq_txn.specs.InUse.{IsInUse}

ups-some : (i : ℕ) (marks : List Bool) → list_any (λ up. up) marks ≡ true → 0 < length (ups_from i marks)
ups-some i [] h = cc
ups-some i (true ∷ marks) h = omega arith
ups-some i (false ∷ marks) h = ups-some (i + 1) marks h

ups-below : (marks : List Bool) (i k : ℕ) → k < length (ups_from i marks) → slice_index_or (ups_from i marks) k 0 < i + length marks
ups-below [] i k h = absurd (omega (arith, h))
ups-below (true ∷ marks) i zero h = omega arith
ups-below (true ∷ marks) i (suc k) h = omega (arith, ups-below marks (i + 1) k (omega (arith, h)))
ups-below (false ∷ marks) i k h = omega (arith, ups-below marks (i + 1) k h)

-- the owner of a bucket is a node that there is
pub owner-below : (marks : List Bool) (b : ℕ) → IsTrue (some_up marks) → owner_of marks b < length marks
owner-below marks b some =
    let place : b % length (nodes_up marks) < length (nodes_up marks) = mod-lt b (ups-some 0 marks some) in
    omega (arith, ups-below marks 0 (b % length (nodes_up marks)) place)

-- a node in use is one that there is
pub in_use-below : (marks : List Bool) (n : ℕ) → IsTrue (some_up marks) → IsInUse marks n → n < length marks
in_use-below marks n some used = subst (λ (k : ℕ). k < length marks) used.owner (owner-below marks used.bucket some)
