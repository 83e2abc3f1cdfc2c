-- What a plan means, slice by slice.
use Rattle.std.proofs.Common.{◌≡◌, ℕ, Bool, true, false, ◌||◌, List, [], ◌∷◌, ◌++◌, flat_map, refl, ap, sym, ◌∙◌, append_assoc, append-nil}
use Rattle.std.specs.List.{list_any}
use Rattle.hq_algebra.specs.declared.plan.Motion.{Motion}
use Rattle.hq_algebra.specs.declared.plan.Slice.{Slice}
use Rattle.hq_laws.proofs.Moving.{moved-over}
use Rattle.hq_meaning.specs.Rows.{Row}
use Rattle.hq_meaning.specs.Mean.{Numeric, answer_of}
use Rattle.hq_meaning.specs.Nodes.{moved}
use Rattle.hq_meaning.specs.Plans.{Parts, Sent, run_slice, run_slices, last_rows, answer_after}

-- the rows of the last slice
pub last-behind : (sents : List Sent) (x : Sent) → last_rows (sents ++ x ∷ []) ≡ x.rows
last-behind [] x = refl
last-behind (s ∷ []) x = refl
last-behind (s ∷ t ∷ sents) x = last-behind (t ∷ sents) x

pub or-false : (b : Bool) → (b || false) ≡ b
or-false true = refl
or-false false = refl

pub or-or : (a b c : Bool) → (a || (b || c)) ≡ ((a || b) || c)
or-or true b c = refl
or-or false b c = refl

-- some evaluation faults in one of the slices
abbrev pub some_fault : List Sent → Bool
some_fault sents = list_any (λ (s : Sent). s.fault) sents

pub fault-behind : (sents more : List Sent) → some_fault (sents ++ more) ≡ (some_fault sents || some_fault more)
fault-behind [] more = refl
fault-behind (s ∷ sents) more = ap (λ (b : Bool). s.fault || b) (fault-behind sents more) ∙ or-or s.fault (some_fault sents) (some_fault more)

-- the slices before stay
pub goes-on : (parts : Parts) (owner : List ℕ) (sents : List Sent) (slices : List Slice) → (more : List Sent) × (run_slices parts owner sents slices ≡ sents ++ more)
goes-on parts owner sents [] = ([], sym (append-nil sents))
goes-on parts owner sents (slice ∷ slices) =
    let x : Sent = run_slice parts owner sents slice in
    let r = goes-on parts owner (sents ++ x ∷ []) slices in
    (x ∷ r.0, r.1 ∙ append_assoc sents (x ∷ []) r.0)

-- where an evaluation has faulted, the plan means that, whatever slices follow
pub numeric-after : (parts : Parts) (owner : List ℕ) (sents : List Sent) (slices : List Slice) → some_fault sents ≡ true → answer_after (run_slices parts owner sents slices) ≡ Numeric
numeric-after parts owner sents slices fault =
    let r = goes-on parts owner sents slices in
    let all : some_fault (sents ++ r.0) ≡ true = fault-behind sents r.0 ∙ ap (λ (b : Bool). b || some_fault r.0) fault in
    ap answer_after r.1 ∙ ap (λ (b : Bool). answer_of b (last_rows (sents ++ r.0))) all

-- where none has, it means the rows of the last slice
pub rows-after : (sents : List Sent) (x : Sent) → some_fault sents ≡ false → x.fault ≡ false → answer_after (sents ++ x ∷ []) ≡ answer_of false x.rows
rows-after sents x before now =
    let none : some_fault (sents ++ x ∷ []) ≡ false = fault-behind sents (x ∷ []) ∙ (λ i. before i || (now i || false)) in
    (λ i. answer_of (none i) (last-behind sents x i))

-- what a node gets of each sender is what the motion gives it of all their rows
pub gets-all : (out : Motion) (owner : List ℕ) (rows : ℕ → List Row) (senders : List ℕ) (n : ℕ) → flat_map (λ m. moved out owner (rows m) n) senders ≡ moved out owner (flat_map rows senders) n
gets-all out owner rows senders n = sym (moved-over out owner rows senders n)
