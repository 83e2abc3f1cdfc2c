-- The counts of a link never fall in an exchange.
use Rattle.std.proofs.Common.{ℕ, List, Result, inl, inr, sym, subst, arith}
use Rattle.hq_link.specs.Link.{LinkState}
use Rattle.hq_pump.specs.declared.end.ExchangeEnd.{ExchangeEnd}
use Rattle.hq_pump.specs.Exchange.{Exchange, Step, sends, answers_it, is_told, hears, misses, rests, fails, hands_over, gives_up, Run, still, more}
use Rattle.hq_pump.specs.Pumping.{HasRunOr}
use Rattle.hq_dispatch.specs.Received.{IsLater}

pub later_same : (link : LinkState) → IsLater link link
later_same link = record { troubles = omega arith; faults = omega arith }

-- one step more
later-step : (start : LinkState) (s t : Exchange) → Step s t → IsLater start s.link → IsLater start t.link
later-step start s t (sends h) is = subst (λ (u : Exchange). IsLater start u.link) (sym h.is) (record { troubles = omega (arith, is.troubles, h.sent.troubles); faults = omega (arith, is.faults, h.sent.faults) })
later-step start s t (answers_it h) is = subst (λ (u : Exchange). IsLater start u.link) (sym h.is) (record { troubles = omega (arith, is.troubles, h.sent.troubles); faults = omega (arith, is.faults, h.sent.faults) })
later-step start s t (is_told h) is = subst (λ (u : Exchange). IsLater start u.link) (sym h.is) (record { troubles = omega (arith, is.troubles, h.next.troubles); faults = omega (arith, is.faults, h.next.faults) })
later-step start s t (hears h) is = subst (λ (u : Exchange). IsLater start u.link) (sym h.is) (record { troubles = omega (arith, is.troubles, h.next.troubles); faults = omega (arith, is.faults, h.next.faults) })
later-step start s t (misses h) is = subst (λ (u : Exchange). IsLater start u.link) (sym h.is) (record { troubles = omega (arith, is.troubles, h.next.troubles); faults = omega (arith, is.faults, h.next.faults) })
later-step start s t (rests h) is = subst (λ (u : Exchange). IsLater start u.link) (sym h.is) (record { troubles = omega (arith, is.troubles, h.next.troubles); faults = omega (arith, is.faults, h.next.faults) })
later-step start s t (fails h) is = subst (λ (u : Exchange). IsLater start u.link) (sym h.is) (record { troubles = omega (arith, is.troubles, h.next.troubles); faults = omega (arith, is.faults, h.next.faults) })
later-step start s t (hands_over h) is = subst (λ (u : Exchange). IsLater start u.link) (sym h.is) is
later-step start s t (gives_up same) is = subst (λ (u : Exchange). IsLater start u.link) (sym same) is

later-run : (start : LinkState) (s t : Exchange) → Run s t → IsLater start s.link → IsLater start t.link
later-run start s t still is = is
later-run start s t (more u w run step) is = later-step start u w step (later-run start s u run is)

-- and so over a whole exchange
pub later : (start : Exchange) (link : LinkState) (taken : ℕ → List ℕ) (result : Result Unit ExchangeEnd) → HasRunOr start link taken result → IsLater start.link link
later start link taken result (inl ran) = subst (IsLater start.link) ran.link_is (later-run start.link start ran.over ran.run (later_same start.link))
later start link taken result (inr none) = subst (IsLater start.link) (sym none.1) (later_same start.link)
