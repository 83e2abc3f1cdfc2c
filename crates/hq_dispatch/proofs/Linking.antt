-- A link over several exchanges.
use Rattle.std.proofs.Common.{◌∙◌, ◌⊎◌, inl, inr, ℕ, ◌+◌, ◌≤◌, List, Option, Some, None, Result, refl, arith}
use Rattle.hq_value.specs.Causes.{Rose}
use Rattle.hq_link.specs.Link.{LinkState, Told, IsIn, AreTold, IsLowered}
use Rattle.hq_pump.specs.declared.end.ExchangeEnd.{ExchangeEnd}
use Rattle.hq_pump.specs.Promise.{IsToldAtMost, IsRoughAtMost}
use Rattle.hq_pump.specs.Pumping.{IsLost}
use Rattle.hq_pump.specs.Safe.{AreEarlier, Grows, IsOwn, WhereKnown}
use Rattle.hq_dispatch.specs.Received.{IsOf, GoesOnFor, HasExchanged}
use Rattle.hq_dispatch.proofs.Earlier.{next-motion}
use Rattle.hq_dispatch.proofs.Lasting.{later_same}
use Rattle.hq_dispatch.proofs.Receiving.{grows-same, lowered-same}

-- a link that no one used
pub goes-on-still : (query : ℕ) (link : LinkState) → GoesOnFor query link link
goes-on-still query link = record {
  later = later_same link;
  own = grows-same link.may (IsOf query);
  stays_sound = λ s. record { faults = refl; sound = s };
  steady = λ r. refl;
  lowered = lowered-same link.rough;
}

grows-more : (a b c : Told) (P Q R : List ℕ → Type 0) → ((x : List ℕ) → P x → R x) → ((x : List ℕ) → Q x → R x) → Grows a b P → Grows b c Q → Grows a c R
grows-more None None None P Q R f g h k = tt
grows-more None None (Some zs) P Q R f g h k = absurd k
grows-more None (Some ys) c P Q R f g h k = absurd h
grows-more (Some xs) None c P Q R f g h k = absurd h
grows-more (Some xs) (Some ys) None P Q R f g h k = absurd k
grows-more (Some xs) (Some ys) (Some zs) P Q R f g h k = λ x is. by x (k x is)
  where
    old : (x : List ℕ) → IsIn x xs ⊎ P x → IsIn x xs ⊎ R x
    old x (inl before) = inl before
    old x (inr new) = inr (f x new)

    by : (x : List ℕ) → IsIn x ys ⊎ Q x → IsIn x xs ⊎ R x
    by x (inl before) = old x (h x before)
    by x (inr new) = inr (g x new)

lowered-more : (a b c : Option ℕ) → IsLowered a b → IsLowered b c → IsLowered a c
lowered-more None b c h k = tt
lowered-more (Some r) None c h k = absurd h
lowered-more (Some r) (Some s) None h k = absurd k
lowered-more (Some r) (Some s) (Some t) h k = omega (arith, h, k)

-- how rough it is at most
rough-kept : (most : ℕ) (a b : Option ℕ) → IsLowered a b → IsToldAtMost most a → IsToldAtMost most b
rough-kept most None b h r = absurd r
rough-kept most (Some m) None h r = absurd h
rough-kept most (Some m) (Some n) h r = omega (arith, h, r)

pub stays-rough : (query most : ℕ) (old new : LinkState) → GoesOnFor query old new → IsRoughAtMost most old → IsRoughAtMost most new
stays-rough query most old new goes r = record { sound = (goes.stays_sound r.sound).sound; rough = rough-kept most old.rough new.rough goes.lowered r.rough }

own-is-of : (query motion : ℕ) (x : List ℕ) → IsOwn query motion x → IsOf query x
own-is-of query motion x own = record { datagram = own.datagram; spelled = own.spelled; query_is = own.query }

-- one exchange more
pub goes-on-more : {A : Type 0} (query motion : ℕ) (first old new : LinkState) (result : Result A ExchangeEnd) → GoesOnFor query first old → HasExchanged query motion old new result → GoesOnFor query first new
goes-on-more query motion first old new result before ran = record {
  later = record { troubles = omega (arith, before.later.troubles, ran.later.troubles); faults = omega (arith, before.later.faults, ran.later.faults) };
  own = grows-more first.may old.may new.may (IsOf query) (IsOwn query motion) (IsOf query) (λ x is. is) (own-is-of query motion) before.own ran.own;
  stays_sound = λ s.
      let a = before.stays_sound s in
      let b = ran.stays_sound a.sound in
      record { faults = b.faults ∙ a.faults; sound = b.sound };
  steady = λ r. ran.steady (stays-rough query 0 first old before r) ∙ before.steady r;
  lowered = lowered-more first.rough old.rough new.rough before.lowered ran.lowered;
}

-- what it carries then is earlier than the next motion
earlier-as : (query motion : ℕ) (may : Told) → AreEarlier query motion may → AreEarlier query (motion + 1) may
earlier-as query motion may h = next-motion query motion may may h (grows-same may (IsOwn query motion))

pub earlier-still : (query motion : ℕ) (link : LinkState) → AreEarlier query motion link.may → AreEarlier query (motion + 1) link.may
earlier-still query motion link h = earlier-as query motion link.may h

pub earlier-more : {A : Type 0} (query motion : ℕ) (old new : LinkState) (result : Result A ExchangeEnd) → HasExchanged query motion old new result → AreEarlier query motion old.may → AreEarlier query (motion + 1) new.may
earlier-more query motion old new result ran h = next-motion query motion old.may new.may h ran.own

-- a link that told what it carries still does
pub still-told : (old new : Told) (P : List ℕ → Type 0) → Grows old new P → AreTold old → AreTold new
still-told None new P h t = absurd t
still-told (Some xs) None P h t = absurd h
still-told (Some xs) (Some ys) P h t = tt

pub where-told : (may : Told) (P : Type 0) → AreTold may → WhereKnown may P → P
where-told None P t h = absurd t
where-told (Some xs) P t h = h

-- a cause in one exchange is one in all of them
pub rose-since : (first old new : ℕ) → first ≤ old → Rose old new → Rose first new
rose-since first old new le rose = omega (arith, le, rose)

pub lost-since : (first old new : ℕ) → first ≤ old → IsLost old new → IsLost first new
lost-since first old new le lost = omega (arith, le, lost)
