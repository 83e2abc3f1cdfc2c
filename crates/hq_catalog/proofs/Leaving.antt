-- What an answer leaves under a lock.
use Rattle.std.proofs.Common.{◌≡◌, ℕ, List, [], ◌∷◌, refl, ◌∙◌, sym, arith}
use Rattle.std.proofs.lemmas.List.{append-nil}
use Rattle.hq_history.specs.declared.noted.Noted.{Noted}
use Rattle.hq_histlock.specs.Passes.{MayLeave}
use Rattle.hq_catalog.specs.declared.ask.Answer.{Answer}
use Rattle.hq_catalog.specs.declared.ask.Answer.TheVariants as answer
use Rattle.hq_catalog.specs.CatStep.{noted}
use Rattle.hq_catalog.specs.Causes.{IsOneMore}

-- what a session may leave: no entry, or one of its own
pub left : {F Z : Type 0} (k m : ℕ) (old new : List Noted) (r : Answer F Z) → IsOneMore {F = F} {Z = Z} k m old new r → MayLeave k old new
left {F} {Z} k m old new r s = by r s
  where
    none : new ≡ old → MayLeave k old new
    none e = ([], e ∙ sym (append-nil old), tt, omega arith)

    by : (r : Answer F Z) → IsOneMore {F = F} {Z = Z} k m old new r → MayLeave k old new
    by answer.NoMemory s = none s
    by _ s = (noted k m s.0 s.1 ∷ [], s.2, (refl, tt), omega arith)
