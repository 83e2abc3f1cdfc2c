-- Histories that go on.
use Rattle.std.proofs.Common.{◌≡◌, ◌⊎◌, inl, inr, ℕ, Bool, List, [], ◌∷◌, ◌++◌, refl, sym, ◌∙◌, ap, append_assoc, arith, ◌≤◌}
use Rattle.std.proofs.lemmas.List.{append-nil}
use Rattle.hq_history.specs.declared.noted.Noted.{Noted}
use Rattle.hq_history.specs.History.{StartsWith, AllBy}
use Rattle.hq_catalog.specs.declared.ask.Ask.{Ask}
use Rattle.hq_catalog.specs.declared.ask.Answer.{Answer}
use Rattle.hq_catalog.specs.CatStep.{noted}
use Rattle.hq_serve.specs.Asking.{IsAnswered}
use Rattle.hq_serve.specs.Served.{GrewBy}
use Rattle.hq_serve.proofs.Answering.{AddsOne, adds-one}

pub starts-same : (a : List Noted) → StartsWith a a
starts-same a = ([], sym (append-nil a))

pub starts-then : (a b c : List Noted) → StartsWith b a → StartsWith c b → StartsWith c a
starts-then a b c h k = (h.0 ++ k.0, k.1 ∙ ap (λ xs. xs ++ k.0) h.1 ∙ append_assoc a h.0 k.0)

all-append : (k : ℕ) (xs ys : List Noted) → AllBy k xs → AllBy k ys → AllBy k (xs ++ ys)
all-append k [] ys h g = g
all-append k (x ∷ xs) ys h g = (h.0, all-append k xs ys h.1 g)

pub grew-same : (k : ℕ) (a : List Noted) → GrewBy k a a
grew-same k a = ([], sym (append-nil a), tt)

pub grew-then : (k : ℕ) (a b c : List Noted) → GrewBy k a b → GrewBy k b c → GrewBy k a c
grew-then k a b c h g = (h.0 ++ g.0, g.1 ∙ ap (λ xs. xs ++ g.0) h.1 ∙ append_assoc a h.0 g.0, all-append k h.0 g.0 h.2 g.2)

-- an answer comes behind what was shown
pub starts-answered : {F Z : Type 0} (told : Bool) (nodes k m : ℕ) (seen after : List Noted) (a : Ask F Z) (x : Answer F Z) → IsAnswered told nodes k m seen a after x
    → StartsWith after seen
starts-answered told nodes k m seen after a x h = starts-then seen h.before after (h.others.0, h.others.1) (at (adds-one told nodes k m h.before after a x h.step))
  where
    at : AddsOne k m a h.before after → StartsWith after h.before
    at (inl same) = ([], same ∙ sym (append-nil h.before))
    at (inr one) = (noted k m one.0 one.1 ∷ [], one.2)

pub le-then : (a b c : ℕ) → a ≤ b → b ≤ c → a ≤ c
le-then a b c h g = omega (arith, h, g)
