-- One turn of a loop over what is repeated.
use Rattle.std.proofs.Common.{◌≡◌, ℕ, suc, ◌+◌, ◌-◌, ◌<◌, Bool, true, List, [], ◌∷◌, ◌++◌, Option, Some, refl, ◌∙◌, arith}
use Rattle.hq_expr.specs.State.{State}
use Rattle.hq_expr.specs.Reader.{Parser, peek}
use Rattle.hq_expr.specs.declared.cursor.Peek.{Peek}
use Rattle.hq_sql.specs.Reading.{repeat_from}

pub one_repeat : {X : Type 0} (starts : Peek → Bool) (P : Parser X) (end at : ℕ) (found new : List X) (x : X) (s t : State) (all : Option (List X × State))
    → at < end → starts (peek s.rest) ≡ true → P s ≡ Some (x, t) → new ≡ found ++ x ∷ []
    → all ≡ repeat_from starts P (end - at) found s → all ≡ repeat_from starts P (end - (at + 1)) new t
unfolding repeat_from
one_repeat starts P end at found new x s t all below begins member made e =
    let turn : end - at ≡ suc (end - (at + 1)) = omega arith in
    e ∙ rw (turn, begins, member, made) refl
