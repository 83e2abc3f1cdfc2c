-- A plan whose calls have all been made fails no later call.
use Rattle.std.proofs.Common.{◌≡◌, ℕ, ◌<◌, List, [], ◌∷◌, All, None, false, suc, refl, arith}
use Rattle.std.specs.Prelude.{nat_eq}
use Rattle.std.proofs.lemmas.Bool.{ne_eqb}
use Rattle.hq_store.specs.declared.mem_store.Planned.{Planned}
use Rattle.hq_store.specs.MemPlan.{MemState, planned_tail, next_tail, NoFailureLeft}

-- no call of that number is planned where all planned ones come before it
none_planned : (plan : List Planned) (call : ℕ) → All (λ p. p.call < call) plan → planned_tail plan call ≡ None
none_planned [] call before = refl
none_planned (p ∷ plan) call before =
    let here : p.call < call = before 0 p (omega arith) in
    let apart : nat_eq p.call call ≡ false = ne_eqb p.call call (λ e. omega arith) in
    rw apart (none_planned plan call (λ k d within. before (suc k) d (omega arith)))

-- the next call is not planned to fail
pub no_next_tail : (store : MemState) → NoFailureLeft store → next_tail store ≡ None
no_next_tail store left = none_planned store.plan _ left
