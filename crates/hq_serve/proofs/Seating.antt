-- The number and the nodes of a session at a desk are the desk's.
use Rattle.std.proofs.Common.{◌≡◌, ℕ, List, length, sym, subst, ◌∙◌}
use Rattle.hq_session.specs.declared.session.Session.{Session}
use Rattle.hq_session.specs.Keeps.{IsSound, Keeps, number_of, nodes_of, txn_of}
use Rattle.hq_serve.specs.Seats.{IsSeated}

module _ {F Z B : Type 0} (nodes k : ℕ) (s : Session F Z) (benches : List B) (at : IsSeated nodes k s benches) (P : ℕ → ℕ → Type 0) where
  pub seated : P (nodes_of s) (number_of s) → P nodes k
  seated h = subst (λ n. P n k) at.nodes_are (subst (λ j. P (nodes_of s) j) at.number h)

  pub unseated : P nodes k → P (nodes_of s) (number_of s)
  unseated h = subst (λ n. P n (number_of s)) (sym at.nodes_are) (subst (λ j. P nodes j) (sym at.number) h)

-- a turn leaves it so
pub seated-on : {F Z B : Type 0} (nodes k : ℕ) (s after : Session F Z) (benches more : List B) → IsSeated nodes k s benches → Keeps s after → length benches ≡ length more
    → IsSound (txn_of after) → IsSeated nodes k after more
seated-on nodes k s after benches more at kept same sound =
    record { number = kept.number ∙ at.number; nodes_are = kept.nodes ∙ at.nodes_are; some = at.some; benches_are = sym same ∙ at.benches_are; sound = sound }
