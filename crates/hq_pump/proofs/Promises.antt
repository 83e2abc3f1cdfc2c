-- What a link promises stays promised throughout an exchange.
use Rattle.std.proofs.Common.{◌≡◌, ℕ, true, List, Option, Some, None, Result, refl, sym, subst, ◌∙◌, arith, inl, inr}
use Rattle.hq_link.specs.Link.{LinkState, StaysSound, IsLowered}
use Rattle.hq_pump.specs.declared.end.ExchangeEnd.{ExchangeEnd}
use Rattle.hq_pump.specs.declared.lane.Lane.{Lane}
use Rattle.hq_pump.specs.Exchange.{Exchange, Step, sends, answers_it, is_told, hears, misses, rests, fails, hands_over, gives_up, Run, still, more}
use Rattle.hq_pump.specs.Pumping.{at, HasRunOr}

sound_step : (s t : Exchange) → Step s t → s.link.sound ≡ true → StaysSound s.link t.link
sound_step s t (sends h) on = subst (λ (u : Exchange). StaysSound s.link u.link) (sym h.is) (h.sent.sound on)
sound_step s t (answers_it h) on = subst (λ (u : Exchange). StaysSound s.link u.link) (sym h.is) (h.sent.sound on)
sound_step s t (is_told h) on = subst (λ (u : Exchange). StaysSound s.link u.link) (sym h.is) (h.next.sound on)
sound_step s t (hears h) on = subst (λ (u : Exchange). StaysSound s.link u.link) (sym h.is) (h.next.sound on)
sound_step s t (misses h) on = subst (λ (u : Exchange). StaysSound s.link u.link) (sym h.is) (h.next.sound on)
sound_step s t (rests h) on = subst (λ (u : Exchange). StaysSound s.link u.link) (sym h.is) (h.next.sound on)
sound_step s t (fails h) on = subst (λ (u : Exchange). StaysSound s.link u.link) (sym h.is) (h.next.sound on)
sound_step s t (hands_over h) on = subst (λ (u : Exchange). StaysSound s.link u.link) (sym h.is) (record { faults = refl; sound = on })
sound_step s t (gives_up same) on = subst (λ (u : Exchange). StaysSound s.link u.link) (sym same) (record { faults = refl; sound = on })

sound_run : (s t : Exchange) → Run s t → s.link.sound ≡ true → StaysSound s.link t.link
sound_run s t still on = record { faults = refl; sound = on }
sound_run s t (more u w run step) on =
    let a = sound_run s u run on in
    let b = sound_step u w step a.sound in
    record { faults = b.faults ∙ a.faults; sound = b.sound }

-- a sound link stays sound
pub end_sound : (lanes : List Lane) (old new : LinkState) (base : ℕ) (first now : ℕ → List ℕ) (result : Result Unit ExchangeEnd) → HasRunOr (at lanes old base first None) new now result → old.sound ≡ true → StaysSound old new
end_sound lanes old new base first now result (inr none) on = subst (λ (l : LinkState). StaysSound old l) (sym none.1) (record { faults = refl; sound = on })
end_sound lanes old new base first now result (inl ran) on = subst (λ (l : LinkState). StaysSound old l) ran.link_is (sound_run (at lanes old base first None) ran.over ran.run on)

lower_same : (a : Option ℕ) → IsLowered a a
lower_same None = tt
lower_same (Some r) = omega arith

lower_on : (a b c : Option ℕ) → IsLowered a b → IsLowered b c → IsLowered a c
lower_on None b c f g = tt
lower_on (Some r) None c f g = absurd f
lower_on (Some r) (Some s) None f g = absurd g
lower_on (Some r) (Some s) (Some t) f g = omega (arith, f, g)

rough_step : (s t : Exchange) → Step s t → IsLowered s.link.rough t.link.rough
rough_step s t (sends h) = subst (λ (u : Exchange). IsLowered s.link.rough u.link.rough) (sym h.is) h.sent.rough
rough_step s t (answers_it h) = subst (λ (u : Exchange). IsLowered s.link.rough u.link.rough) (sym h.is) h.sent.rough
rough_step s t (is_told h) = subst (λ (u : Exchange). IsLowered s.link.rough u.link.rough) (sym h.is) h.next.rough
rough_step s t (hears h) = subst (λ (u : Exchange). IsLowered s.link.rough u.link.rough) (sym h.is) h.next.rough
rough_step s t (misses h) = subst (λ (u : Exchange). IsLowered s.link.rough u.link.rough) (sym h.is) h.next.rough
rough_step s t (rests h) = subst (λ (u : Exchange). IsLowered s.link.rough u.link.rough) (sym h.is) h.next.rough
rough_step s t (fails h) = subst (λ (u : Exchange). IsLowered s.link.rough u.link.rough) (sym h.is) h.next.rough
rough_step s t (hands_over h) = subst (λ (u : Exchange). IsLowered s.link.rough u.link.rough) (sym h.is) (lower_same s.link.rough)
rough_step s t (gives_up same) = subst (λ (u : Exchange). IsLowered s.link.rough u.link.rough) (sym same) (lower_same s.link.rough)

rough_run : (s t : Exchange) → Run s t → IsLowered s.link.rough t.link.rough
rough_run s t still = lower_same s.link.rough
rough_run s t (more u w run step) = lower_on s.link.rough u.link.rough w.link.rough (rough_run s u run) (rough_step u w step)

-- what it promises of how rough it is never grows
pub end_rough : (lanes : List Lane) (old new : LinkState) (base : ℕ) (first now : ℕ → List ℕ) (result : Result Unit ExchangeEnd) → HasRunOr (at lanes old base first None) new now result → IsLowered old.rough new.rough
end_rough lanes old new base first now result (inr none) = subst (λ (l : LinkState). IsLowered old.rough l.rough) (sym none.1) (lower_same old.rough)
end_rough lanes old new base first now result (inl ran) = subst (λ (l : LinkState). IsLowered old.rough l.rough) ran.link_is (rough_run (at lanes old base first None) ran.over ran.run)
