-- Each turn leaves less work.
use Rattle.std.proofs.Common.{◌≡◌, ℕ, suc, ◌+◌, ◌-◌, ◌*◌, ◌^◌, ◌<◌, ◌≤◌, Bool, true, false, cond, ltb, leb, List, min, max, take, Result, Ok, Err, refl, ap, arith, inl, inr}
use Rattle.std.specs.Prelude.{OnOk, IfOk}
use Rattle.std.proofs.lemmas.Bool.{ltb-true, leb-true, and_parts}
use Rattle.hq_stream.specs.Piece.{eos}
use Rattle.hq_link.specs.declared.link.Got.TheVariants.{Bytes, Quiet}
use Rattle.hq_link.specs.declared.link.LinkFault.{LinkFault}
use Rattle.hq_link.specs.Link.{LinkState, IsNext, is_ack, one_if, ack_count, other_count}
use Rattle.hq_send.specs.Sending.{is_new}
use Rattle.hq_pump.specs.declared.lane.Lane.{Lane}
use Rattle.hq_pump.specs.Exchange.{acknowledged}
use Rattle.hq_pump.specs.Pumping.{lost_at, again_weight, stream_left, link_left, work_left}

counts : (bytes : List ℕ) → ack_count bytes + other_count bytes ≡ 1
counts bytes = by (is_ack bytes)
  where
    by : (b : Bool) → one_if b + (1 - one_if b) ≡ 1
    by true = omega arith
    by false = omega arith

turn_plain : (l t t' a o a' o' ac oc : ℕ) → a' + ac ≡ a → o' + oc ≡ o → ac + oc ≡ 1 → t ≤ t' → 200 * (l - t') + 2 * o' + a' + oc + 1 ≤ 200 * (l - t) + 2 * o + a
turn_plain l t t' a o a' o' ac oc ea eo one le = omega (arith, ea, eo, one, le)

trouble_plain : (l t t' a o a' o' oc : ℕ) → l ≤ 2 ^ 64 - 1 → t < l → min (t + 1) (2 ^ 64 - 1) ≤ t' → a' ≤ a → o' ≤ o → oc ≤ 1 → 200 * (l - t') + 2 * o' + a' + oc + 1 ≤ 200 * (l - t) + 2 * o + a
trouble_plain l t t' a o a' o' oc most lt rose la lo one = omega (arith, most, lt, rose, la, lo, one)

pub bytes_less : (old new : LinkState) (n : ℕ) (into : List ℕ) (base : ℕ) → IsNext old (Ok (Bytes n)) into new → old.troubles < lost_at base → link_left new base + other_count (take n into) + 1 ≤ link_left old base
bytes_less old new n into base next lt = elim next.came.1.turn [
  | inl turn ↦ turn_plain (lost_at base) old.troubles new.troubles old.acks old.others new.acks new.others (ack_count (take n into)) (other_count (take n into)) turn.acks turn.others (counts (take n into)) next.troubles
  | inr rose ↦ trouble_plain (lost_at base) old.troubles new.troubles old.acks old.others new.acks new.others (other_count (take n into)) (omega arith) lt rose next.acks next.others (omega (arith, counts (take n into)))
]

quiet_plain : (l t t' a o a' o' : ℕ) → l ≤ 2 ^ 64 - 1 → t < l → min (t + 1) (2 ^ 64 - 1) ≤ t' → a' ≤ a → o' ≤ o → 200 * (l - t') + 2 * o' + a' + 200 ≤ 200 * (l - t) + 2 * o + a
quiet_plain l t t' a o a' o' most lt rose la lo = omega (arith, most, lt, rose, la, lo)

pub quiet_less : (old new : LinkState) (into : List ℕ) (base : ℕ) → IsNext old (Ok Quiet) into new → old.troubles < lost_at base → link_left new base + 200 ≤ link_left old base
quiet_less old new into base next lt = quiet_plain (lost_at base) old.troubles new.troubles old.acks old.others new.acks new.others (omega arith) lt next.came.0 next.acks next.others

acked_plain : (e acked next n w t1 t2 : ℕ) → acked < n → n ≤ suc e → t1 ≤ 32 → 8000 * (suc e - n) + 3 * (suc e - max next n) + 0 + 200 * t1 ≤ 8000 * (suc e - acked) + 3 * (suc e - next) + w + 200 * t2
acked_plain e acked next n w t1 t2 above within few = omega (arith, above, within, few)

-- a new acknowledgement pays for 32 troubles more, another costs nothing
pub acked_less : (lane : Lane) (n : ℕ) (link : LinkState) (base now : ℕ) (new : Bool) → new ≡ is_new lane.sender n → now ≡ link.troubles → stream_left (acknowledged lane n).sender + link_left link (cond new now base) ≤ stream_left lane.sender + link_left link base
acked_less lane n link base now new is same = by (is_new lane.sender n) refl new is
  where
    by : (b : Bool) → is_new lane.sender n ≡ b → (new : Bool) → new ≡ b → stream_left (cond b (record lane.sender { acked = n; next = max lane.sender.next n; again = false }) lane.sender) + link_left link (cond new now base) ≤ stream_left lane.sender + link_left link base
    by true e true h =
        let parts = and_parts (ltb lane.sender.acked n) (leb n (suc (eos lane.sender.stream))) e in
        let few : lost_at now - link.troubles ≤ 32 = omega (arith, same) in
        let plain = acked_plain (eos lane.sender.stream) lane.sender.acked lane.sender.next n (again_weight lane.sender.again) (lost_at now - link.troubles) (lost_at base - link.troubles) (ltb-true lane.sender.acked n parts.0) (leb-true n (suc (eos lane.sender.stream)) parts.1) few in
        omega (arith, plain)
    by true e false h = absurd cc
    by false e true h = absurd cc
    by false e false h = omega arith

-- an answer has the room of what it answers
pub answer_less : (owed : Bool) (r : Result Unit LinkFault) (old new : LinkState) (most : ℕ) → (owed ≡ true → 1 ≤ most) → (owed ≡ false → new ≡ old) → OnOk r ((base : ℕ) → link_left new base ≤ link_left old base + 1) → OnOk r ((base : ℕ) → link_left new base ≤ link_left old base + most)
answer_less owed (Err e) old new most some none less = tt
answer_less true (Ok done) old new most some none less = λ base. omega (arith, less base, some refl)
answer_less false (Ok done) old new most some none less = λ base. omega (arith, ap (λ (l : LinkState). link_left l base) (none refl))

-- what was heard leaves less
pub ok_less : (r : Result ℕ LinkFault) (new : List Lane) (l : LinkState) (lanes : List Lane) (k old : LinkState) (base most : ℕ) → IfOk r (λ b. work_left new l b ≤ work_left lanes k base + most) → link_left k base + most + 1 ≤ link_left old base → IfOk r (λ b. work_left new l b < work_left lanes old base)
ok_less (Err e) new l lanes k old base most le lt = tt
ok_less (Ok b) new l lanes k old base most le lt = omega (arith, le, lt)
