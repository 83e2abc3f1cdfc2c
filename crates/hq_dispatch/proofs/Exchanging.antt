-- How an exchange ended, told of another result.
use Rattle.std.proofs.Common.{◌≡◌, ◌∙◌, ◌⊎◌, inl, inr, ℕ, ◌-◌, ◌^◌, ◌<◌, true, Result, Ok, Err, refl, sym, subst}
use Rattle.hq_link.specs.Link.{LinkState, StaysSound, IsLowered}
use Rattle.hq_pump.specs.declared.end.ExchangeEnd.{ExchangeEnd}
use Rattle.hq_pump.specs.declared.end.ExchangeEnd.TheVariants as exchange
use Rattle.hq_pump.specs.Promise.{IsRoughAtMost, IsOkOrNoMemory}
use Rattle.hq_pump.specs.Pumping.{HasItsCause}
use Rattle.hq_pump.specs.Safe.{Grows, IsOwn}
use Rattle.hq_dispatch.specs.Received.{IsLater, HasExchanged}
use Rattle.hq_dispatch.proofs.Lasting.{later_same}
use Rattle.hq_dispatch.proofs.Receiving.{grows-same, lowered-same}

module _ (query motion : ℕ) (old new : LinkState) where
  -- what is said of the link alone
  pub record Left : Type 0 where
    pub later : IsLater old new
    pub own : Grows old.may new.may (IsOwn query motion)
    pub stays_sound : old.sound ≡ true → StaysSound old new
    pub steady : IsRoughAtMost 0 old → new.troubles ≡ old.troubles
    pub lowered : IsLowered old.rough new.rough

  -- a result that is none of the link
  pub went-well : {A : Type 0} → Left → (x : A) → HasExchanged {A = A} query motion old new (Ok x)
  went-well {A} left x = record {
    later = left.later;
    own = left.own;
    stays_sound = left.stays_sound;
    steady = left.steady;
    lowered = left.lowered;
    cause = record { failed = λ e. (let same : Ok x ≡ Err exchange.LinkFailed = e in cc); lost = λ seq troubles e. (let same : Ok x ≡ Err (exchange.LinkLost seq troubles) = e in cc) };
    complete = λ rough few. tt;
  }

  pub found-none : {A : Type 0} → Left → HasExchanged {A = A} query motion old new (Err exchange.NoMemory)
  found-none {A} left = record {
    later = left.later;
    own = left.own;
    stays_sound = left.stays_sound;
    steady = left.steady;
    lowered = left.lowered;
    cause = record { failed = λ e. (let same : exchange.NoMemory ≡ exchange.LinkFailed = cc in cc); lost = λ seq troubles e. (let same : exchange.NoMemory ≡ exchange.LinkLost seq troubles = cc in cc) };
    complete = λ rough few. tt;
  }

  -- an end of the exchange
  pub ended-so : {A : Type 0} → Left → (result : Result Unit ExchangeEnd) (e : ExchangeEnd) → result ≡ Err e → HasItsCause old new result → (IsRoughAtMost 15 old → new.troubles < 2 ^ 64 - 1 → IsOkOrNoMemory result)
      → HasExchanged {A = A} query motion old new (Err e)
  ended-so {A} left result e is cause complete = record {
    later = left.later;
    own = left.own;
    stays_sound = left.stays_sound;
    steady = left.steady;
    lowered = left.lowered;
    cause = record { failed = λ f. cause.failed (is ∙ other e exchange.LinkFailed f); lost = λ seq troubles f. cause.lost seq troubles (is ∙ other e (exchange.LinkLost seq troubles) f) };
    complete = λ rough few. by e (subst (λ (r : Result Unit ExchangeEnd). IsOkOrNoMemory r) is (complete rough few));
  }
    where
      other : (a b : ExchangeEnd) → (let r : Result A ExchangeEnd = Err a in r) ≡ (let r : Result A ExchangeEnd = Err b in r) → (let r : Result Unit ExchangeEnd = Err a in r) ≡ (let r : Result Unit ExchangeEnd = Err b in r)
      other a b h = let same : a ≡ b = cc in λ i. let r : Result Unit ExchangeEnd = Err (same i) in r

      by : (e : ExchangeEnd) → IsOkOrNoMemory (let r : Result Unit ExchangeEnd = Err e in r) → IsOkOrNoMemory (let r : Result A ExchangeEnd = Err e in r)
      by (exchange.LinkLost seq troubles) h = h
      by exchange.LinkFailed h = h
      by exchange.NoMemory h = h

  left-of : {A : Type 0} (result : Result A ExchangeEnd) → HasExchanged query motion old new result → Left
  left-of result h = record { later = h.later; own = h.own; stays_sound = h.stays_sound; steady = h.steady; lowered = h.lowered }

  -- the same of what was made of the rows
  pub kept-so : {A : Type 0} (x : A) (result : Result Unit ExchangeEnd) → HasExchanged query motion old new (let r : Result A ExchangeEnd = Ok x in r) → (result ≡ Ok tt) ⊎ (result ≡ Err exchange.NoMemory) → HasExchanged query motion old new result
  kept-so x result h (inl is) = subst (λ (r : Result Unit ExchangeEnd). HasExchanged query motion old new r) (sym is) (went-well (left-of (Ok x) h) tt)
  kept-so x result h (inr is) = subst (λ (r : Result Unit ExchangeEnd). HasExchanged query motion old new r) (sym is) (found-none (left-of (Ok x) h))

  pub failed-so : {A : Type 0} (e : ExchangeEnd) → HasExchanged query motion old new (let r : Result A ExchangeEnd = Err e in r) → HasExchanged query motion old new (let r : Result Unit ExchangeEnd = Err e in r)
  failed-so {A} e h = record {
    later = h.later;
    own = h.own;
    stays_sound = h.stays_sound;
    steady = h.steady;
    lowered = h.lowered;
    cause = record { failed = λ f. h.cause.failed (other e exchange.LinkFailed f); lost = λ seq troubles f. h.cause.lost seq troubles (other e (exchange.LinkLost seq troubles) f) };
    complete = λ rough few. by e (h.complete rough few);
  }
    where
      other : (a b : ExchangeEnd) → (let r : Result Unit ExchangeEnd = Err a in r) ≡ (let r : Result Unit ExchangeEnd = Err b in r) → (let r : Result A ExchangeEnd = Err a in r) ≡ (let r : Result A ExchangeEnd = Err b in r)
      other a b g = let same : a ≡ b = cc in λ i. let r : Result A ExchangeEnd = Err (same i) in r

      by : (e : ExchangeEnd) → IsOkOrNoMemory (let r : Result A ExchangeEnd = Err e in r) → IsOkOrNoMemory (let r : Result Unit ExchangeEnd = Err e in r)
      by (exchange.LinkLost seq troubles) h = h
      by exchange.LinkFailed h = h
      by exchange.NoMemory h = h

-- a link that was not used
pub left-still : (query motion : ℕ) (link : LinkState) → Left query motion link link
left-still query motion link = record {
  later = later_same link;
  own = grows-same link.may (IsOwn query motion);
  stays_sound = λ s. record { faults = refl; sound = s };
  steady = λ r. refl;
  lowered = lowered-same link.rough;
}
