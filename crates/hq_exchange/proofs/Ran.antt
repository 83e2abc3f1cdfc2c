-- An exchange that gives lists ran as the one below it did.
use Rattle.std.proofs.Common.{◌≡◌, ◌⊎◌, ℕ, List, [], ◌∷◌, map, Option, Some, None, Result, Ok, Err, refl, sym, ap, subst, ◌∙◌, inl, inr}
use Rattle.std.specs.Prelude.{Vec}
use Rattle.hq_link.specs.Link.{LinkState}
use Rattle.hq_pump.specs.declared.end.ExchangeEnd.{ExchangeEnd}
use Rattle.hq_pump.specs.declared.end.ExchangeEnd.TheVariants as end_variant
use Rattle.hq_pump.specs.Exchange.{Exchange}
use Rattle.hq_pump.specs.Pumping.{HasRun, HasRunOr, begun}
use Rattle.hq_pump.specs.Promise.{IsOkOrNoMemory}
use Rattle.hq_pump.specs.Seen.{seen}
use Rattle.hq_exchange.specs.Ends.{HasEnded, HasGiven, HasExchanged, LackedMemory, nothing}

ok_ran : (start : Exchange) (link : LinkState) (taken : ℕ → List ℕ) → HasRunOr start link taken (Ok tt) → HasRun start link taken (Ok tt)
ok_ran start link taken (inl ran) = ran
ok_ran start link taken (inr none) = absurd cc

from_nothing : (query motion to : ℕ) (streams : List (ℕ × List ℕ)) (old new : LinkState) (first taken : ℕ → List ℕ) (result : Result Unit ExchangeEnd) → ((n : ℕ) → first n ≡ []) → HasRunOr (begun query motion to streams old first) new taken result → HasRunOr (begun query motion to streams old nothing) new taken result
from_nothing query motion to streams old new first taken result none ran =
    let same : first ≡ nothing = λ k n. none n k in
    elim ran [
      | inl h ↦ inl (subst (λ (f : ℕ → List ℕ). HasRun (begun query motion to streams old f) new taken result) same h)
      | inr h ↦ inr (h.0, h.1, h.2 ∙ same)
    ]

taken_of : (streams : List (ℕ × List ℕ)) (senders : List ℕ) (taken : ℕ → List ℕ) → senders ≡ map (λ stream. stream.0) streams → map {B = ℕ × List ℕ} (λ n. (n, taken n)) senders ≡ map (λ stream. (stream.0, taken stream.0)) streams
taken_of streams senders taken from = ap (map {B = ℕ × List ℕ} (λ (n : ℕ). (n, taken n))) from ∙ again streams
  where
    again : (xs : List (ℕ × List ℕ)) → map {B = ℕ × List ℕ} (λ n. (n, taken n)) (map (λ stream. stream.0) xs) ≡ map (λ stream. (stream.0, taken stream.0)) xs
    again [] = refl
    again (x ∷ xs) = ap (λ (l : List (ℕ × List ℕ)). (x.0, taken x.0) ∷ l) (again xs)

-- all was done, and the lists were made
pub given_ran : {A B : Type 0} (query motion to : ℕ) (streams : List (ℕ × List ℕ)) (old new : LinkState) (first taken : ℕ → List ℕ) (got : Vec (ℕ × Vec ℕ A) B) (senders : List ℕ) → ((n : ℕ) → first n ≡ []) → senders ≡ map (λ stream. stream.0) streams → seen got.items ≡ map (λ n. (n, taken n)) senders → HasRunOr (begun query motion to streams old first) new taken (Ok tt) → HasGiven (begun query motion to streams old nothing) new streams (seen got.items)
given_ran query motion to streams old new first taken got senders none from is ran = record {
  taken = taken;
  ran = ok_ran (begun query motion to streams old nothing) new taken (from_nothing query motion to streams old new first taken (Ok tt) none ran);
  gave = is ∙ taken_of streams senders taken from;
}

-- all was done, and no memory was left for the lists
pub listless_ran : (query motion to : ℕ) (streams : List (ℕ × List ℕ)) (old new : LinkState) (first taken : ℕ → List ℕ) → ((n : ℕ) → first n ≡ []) → HasRunOr (begun query motion to streams old first) new taken (Ok tt) → LackedMemory (begun query motion to streams old nothing) new
listless_ran query motion to streams old new first taken none ran =
    inr (inr (record { taken = taken; ran = ok_ran (begun query motion to streams old nothing) new taken (from_nothing query motion to streams old new first taken (Ok tt) none ran) }))

-- it ended without them
pub ended_ran : (A B : Type 0) (query motion to : ℕ) (streams : List (ℕ × List ℕ)) (old new : LinkState) (first taken : ℕ → List ℕ) (e : ExchangeEnd) → ((n : ℕ) → first n ≡ []) → HasRunOr (begun query motion to streams old first) new taken (Err e) → HasExchanged {A = A} {B = B} (begun query motion to streams old nothing) new streams (Err e)
ended_ran A B query motion to streams old new first taken e none ran = by e (from_nothing query motion to streams old new first taken (Err e) none ran)
  where
    by : (e : ExchangeEnd) → HasRunOr (begun query motion to streams old nothing) new taken (Err e) → HasExchanged {A = A} {B = B} (begun query motion to streams old nothing) new streams (Err e)
    by end_variant.NoMemory (inl h) = inr (inl (record { taken = taken; ran = h }))
    by end_variant.NoMemory (inr h) = inl h.1
    by end_variant.LinkFailed (inl h) = record { taken = taken; ran = h }
    by end_variant.LinkFailed (inr h) = absurd cc
    by (end_variant.LinkLost seq troubles) (inl h) = record { taken = taken; ran = h }
    by (end_variant.LinkLost seq troubles) (inr h) = absurd cc
