-- What an exchange leaves of its link.
use Rattle.std.proofs.Common.{◌≡◌, ℕ, ◌^◌, ◌<◌, ◌≤◌, Bool, true, false, cond, List, [], length, map, Option, Some, None, Result, Ok, Err, refl, sym, ap, subst, ◌∙◌, arith, inl, inr}
use Rattle.std.specs.Prelude.{All, Vec}
use Rattle.hq_value.specs.Causes.{Rose}
use Rattle.hq_stream.specs.Piece.{Bytes, End}
use Rattle.hq_link.specs.declared.datagram.Packet.{Packet}
use Rattle.hq_link.specs.declared.datagram.Packet.TheVariants.{Data, Eos, Ack, Probe}
use Rattle.hq_link.specs.declared.link.LinkFault.{LinkFault}
use Rattle.hq_link.specs.declared.link.LinkFault.TheVariants as link_fault
use Rattle.hq_link.specs.Gram.{gram_bytes, may_bring}
use Rattle.hq_link.specs.Link.{LinkState, Told}
use Rattle.hq_link.specs.Streams.{gram, ack_of}
use Rattle.hq_link.proofs.GramLaws.{gram_again}
use Rattle.hq_send.specs.Sending.{is_new}
use Rattle.hq_pump.specs.declared.end.ExchangeEnd.{ExchangeEnd}
use Rattle.hq_pump.specs.declared.end.ExchangeEnd.TheVariants as end_variant
use Rattle.hq_pump.specs.declared.lane.Lane.{Lane}
use Rattle.hq_pump.specs.Exchange.{Exchange, Says, piece, probe, Step, sends, answers_it, is_told, hears, misses, rests, fails, hands_over, gives_up, Run, still, more, fault_of}
use Rattle.hq_pump.specs.Safe.{IsRouted, IsSafe, IsWithin, AreEarlier, AreAlone, IsOwn, Grows}
use Rattle.hq_pump.specs.Seen.{seen}
use Rattle.hq_pump.specs.Pumping.{at, new_lane, HasRunOr, HasItsCause, IsOver, IsLost}
use Rattle.hq_pump.proofs.Safety.{fits, brings, grows_same, grows_less, grows_sent, safe_run}
use Rattle.hq_pump.proofs.Start.{new_safe}

-- the counts never fall, and Failed comes only where that of faults rose
pub record Later (s t : Exchange) : Type 0 where
  pub faults : s.link.faults ≤ t.link.faults
  pub failed : t.fault ≡ Some link_fault.Failed → Rose s.link.faults t.link.faults
  pub base : s.base ≤ t.base
  pub troubles : t.base ≤ t.link.troubles

clash : (o : Option LinkFault) → o ≡ None → o ≡ Some link_fault.Failed → ⊥
clash o none some = let no : None ≡ Some link_fault.Failed = sym none ∙ some in absurd cc

fault_is : (r : Result Unit LinkFault) → fault_of r ≡ Some link_fault.Failed → r ≡ Err link_fault.Failed
fault_is (Ok done) e = absurd cc
fault_is (Err f) e = ap Err (let same : f ≡ link_fault.Failed = cc in same)

no_memory : Some link_fault.NoMemory ≡ Some link_fault.Failed → ⊥
no_memory e = absurd cc

new_base : (b : Bool) (old base now then : ℕ) → old ≤ base → base ≤ now → now ≤ then → (old ≤ cond b then base) × (cond b then base ≤ then)
new_base true old base now then a c d = (omega (arith, a, c, d), omega arith)
new_base false old base now then a c d = (a, omega (arith, c, d))

later_step : (s t u : Exchange) → Step t u → Later s t → Later s u
later_step s t u (sends h) is = subst (Later s) (sym h.is) (record {
  faults = omega (arith, is.faults, h.sent.faults);
  failed = λ e. (let rose = h.sent.failed (fault_is h.result e) in omega (arith, rose, is.faults));
  base = is.base;
  troubles = omega (arith, is.troubles, h.sent.troubles);
})
later_step s t u (answers_it h) is = subst (Later s) (sym h.is) (record {
  faults = omega (arith, is.faults, h.sent.faults);
  failed = λ e. (let rose = h.sent.failed (fault_is h.result e) in omega (arith, rose, is.faults));
  base = is.base;
  troubles = omega (arith, is.troubles, h.sent.troubles);
})
later_step s t u (is_told h) is =
    let b = new_base (is_new h.lane.sender h.n) s.base t.base t.link.troubles h.link.troubles is.base is.troubles h.next.troubles in
    subst (Later s) (sym h.is) (record {
      faults = omega (arith, is.faults, h.next.faults);
      failed = λ e. absurd (clash t.fault h.ready.whole e);
      base = b.0;
      troubles = b.1;
    })
later_step s t u (hears h) is = subst (Later s) (sym h.is) (record {
  faults = omega (arith, is.faults, h.next.faults);
  failed = λ e. absurd (clash t.fault h.ready.whole e);
  base = is.base;
  troubles = omega (arith, is.troubles, h.next.troubles);
})
later_step s t u (misses h) is = subst (Later s) (sym h.is) (record {
  faults = omega (arith, is.faults, h.next.faults);
  failed = λ e. absurd (h.memory e);
  base = is.base;
  troubles = omega (arith, is.troubles, h.next.troubles);
})
later_step s t u (rests h) is = subst (Later s) (sym h.is) (record {
  faults = omega (arith, is.faults, h.next.faults);
  failed = λ e. absurd (clash t.fault h.ready.whole e);
  base = is.base;
  troubles = omega (arith, is.troubles, h.next.troubles);
})
later_step s t u (fails h) is = subst (Later s) (sym h.is) (record {
  faults = omega (arith, is.faults, h.next.faults);
  failed = λ e. (let rose = h.next.came.0 in omega (arith, rose, is.faults));
  base = is.base;
  troubles = omega (arith, is.troubles, h.next.troubles);
})
later_step s t u (hands_over h) is = subst (Later s) (sym h.is) (record {
  faults = is.faults;
  failed = λ e. absurd (clash t.fault h.whole e);
  base = is.base;
  troubles = is.troubles;
})
later_step s t u (gives_up same) is = subst (Later s) (sym same) (record {
  faults = is.faults;
  failed = λ e. absurd (no_memory e);
  base = is.base;
  troubles = is.troubles;
})

later_run : (s t : Exchange) → Run s t → Later s s → Later s t
later_run s t still is = is
later_run s t (more u w run step) is = later_step s u w step (later_run s u run is)

cause_by : (over : Exchange) (result : Result Unit ExchangeEnd) → IsOver over result → (result ≡ Err end_variant.LinkFailed → over.fault ≡ Some link_fault.Failed) × ((seq troubles : ℕ) → result ≡ Err (end_variant.LinkLost seq troubles) → IsLost over.base over.link.troubles)
cause_by over (Ok done) how = (λ e. absurd cc, λ a b e. absurd cc)
cause_by over (Err (end_variant.LinkLost seq troubles)) how = (λ e. absurd cc, λ a b e. how.0)
cause_by over (Err end_variant.LinkFailed) how = (λ e. how.1, λ a b e. absurd cc)
cause_by over (Err end_variant.NoMemory) how = (λ e. absurd cc, λ a b e. absurd cc)

no_fault : None ≡ Some link_fault.Failed → ⊥
no_fault e = absurd cc

-- each answer has its cause in the counts
pub end_causes : (lanes : List Lane) (old new : LinkState) (first now : ℕ → List ℕ) (result : Result Unit ExchangeEnd) → HasRunOr (at lanes old old.troubles first None) new now result → HasItsCause old new result
end_causes lanes old new first now result (inr none) = record {
  failed = λ e. (let no : end_variant.NoMemory ≡ end_variant.LinkFailed = cc in absurd cc);
  lost = λ seq troubles e. (let no : ◌≡◌ {A = Result Unit ExchangeEnd} (Err end_variant.NoMemory) (Err (end_variant.LinkLost seq troubles)) = sym none.0 ∙ e in absurd cc);
}
end_causes lanes old new first now result (inl ran) =
    let start : Exchange = at lanes old old.troubles first None in
    let later = later_run start ran.over ran.run (record { faults = omega arith; failed = λ e. absurd (no_fault e); base = omega arith; troubles = omega arith }) in
    let by = cause_by ran.over result ran.how in
    subst (λ (l : LinkState). HasItsCause old l result) ran.link_is (record {
      failed = λ e. later.failed (by.0 e);
      lost = λ seq troubles e. (let lost = by.1 seq troubles e in omega (arith, lost, later.base));
    })

grows_map : (a b : Told) (P Q : List ℕ → Type 0) → ((x : List ℕ) → P x → Q x) → Grows a b P → Grows a b Q
grows_map None None P Q f grows = tt
grows_map None (Some ys) P Q f grows = grows
grows_map (Some xs) None P Q f grows = grows
grows_map (Some xs) (Some ys) P Q f grows = λ x h. elim (grows x h) [ inl i ↦ inl i | inr p ↦ inr (f x p) ]

grows_on : (a b c : Told) (P : List ℕ → Type 0) → Grows a b P → Grows b c P → Grows a c P
grows_on None None None P f g = tt
grows_on None None (Some zs) P f g = g
grows_on None (Some ys) c P f g = absurd f
grows_on (Some xs) None c P f g = absurd f
grows_on (Some xs) (Some ys) None P f g = g
grows_on (Some xs) (Some ys) (Some zs) P f g = λ x h. elim (g x h) [ inl i ↦ f x i | inr p ↦ inr p ]

own : (q m to : ℕ) (kind : Packet) (lane : Lane) (n : ℕ) (payload : List ℕ) → IsWithin q m to → IsRouted q m to lane → n < 2 ^ 64 → may_bring kind (length payload) ≡ true → IsOwn q m (gram_bytes (gram kind lane.sender.route n payload))
own q m to kind lane n payload within routed small good = record {
  datagram = gram kind lane.sender.route n payload;
  spelled = gram_again (gram kind lane.sender.route n payload) (fits q m to kind lane n payload within routed small good);
  query = routed.query;
  motion = routed.motion;
}

own_said : (q m to : ℕ) (lane left : Lane) (bytes : List ℕ) → IsWithin q m to → IsRouted q m to lane → Says lane bytes left → IsOwn q m bytes
own_said q m to lane left bytes within routed (piece n (Bytes b) small due there) = own q m to Data lane n b within routed small (brings lane.sender.stream n b there)
own_said q m to lane left bytes within routed (piece n End small due there) = own q m to Eos lane n [] within routed small refl
own_said q m to lane left bytes within routed (probe small) = own q m to Probe lane lane.sender.acked [] within routed small refl

own_step : (q m to : ℕ) (first : ℕ → List ℕ) (s t : Exchange) → IsWithin q m to → IsSafe q m to first s → Step s t → Grows s.link.may t.link.may (IsOwn q m)
own_step q m to first s t within safe (sends h) = subst (λ (u : Exchange). Grows s.link.may u.link.may (IsOwn q m)) (sym h.is)
    (grows_map s.link.may h.link.may (λ x. h.bytes ≡ x) (IsOwn q m) (λ x e. subst (IsOwn q m) e (own_said q m to h.lane h.left h.bytes within (safe.routed h.place h.lane h.at) h.says)) (grows_sent s.link h.link h.bytes h.result h.sent))
own_step q m to first s t within safe (answers_it h) = subst (λ (u : Exchange). Grows s.link.may u.link.may (IsOwn q m)) (sym h.is)
    (let bytes = gram_bytes (ack_of h.lane.receiver.route h.lane.receiver.state.wanted) in
    let routed = safe.routed h.place h.lane h.at in
    let mine = subst (λ r. IsOwn q m (gram_bytes (ack_of r h.lane.receiver.state.wanted))) (sym routed.same) (own q m to Ack h.lane h.lane.receiver.state.wanted [] within routed h.seq refl) in
    grows_map s.link.may h.link.may (λ x. bytes ≡ x) (IsOwn q m) (λ x e. subst (IsOwn q m) e mine) (grows_sent s.link h.link bytes h.result h.sent))
own_step q m to first s t within safe (is_told h) = subst (λ (u : Exchange). Grows s.link.may u.link.may (IsOwn q m)) (sym h.is) (grows_less s.link.may h.link.may (IsOwn q m) h.next.may)
own_step q m to first s t within safe (hears h) = subst (λ (u : Exchange). Grows s.link.may u.link.may (IsOwn q m)) (sym h.is) (grows_less s.link.may h.link.may (IsOwn q m) h.next.may)
own_step q m to first s t within safe (misses h) = subst (λ (u : Exchange). Grows s.link.may u.link.may (IsOwn q m)) (sym h.is) (grows_less s.link.may h.link.may (IsOwn q m) h.next.may)
own_step q m to first s t within safe (rests h) = subst (λ (u : Exchange). Grows s.link.may u.link.may (IsOwn q m)) (sym h.is) (grows_less s.link.may h.link.may (IsOwn q m) h.next.may)
own_step q m to first s t within safe (fails h) = subst (λ (u : Exchange). Grows s.link.may u.link.may (IsOwn q m)) (sym h.is) (grows_less s.link.may h.link.may (IsOwn q m) h.next.may)
own_step q m to first s t within safe (hands_over h) = subst (λ (u : Exchange). Grows s.link.may u.link.may (IsOwn q m)) (sym h.is) (grows_same s.link.may s.link.may (IsOwn q m) refl)
own_step q m to first s t within safe (gives_up same) = subst (λ (u : Exchange). Grows s.link.may u.link.may (IsOwn q m)) (sym same) (grows_same s.link.may s.link.may (IsOwn q m) refl)

own_run : (q m to : ℕ) (first : ℕ → List ℕ) (s t : Exchange) → IsWithin q m to → IsSafe q m to first s → Run s t → Grows s.link.may t.link.may (IsOwn q m)
own_run q m to first s t within safe still = grows_same s.link.may s.link.may (IsOwn q m) refl
own_run q m to first s t within safe (more u w run step) =
    grows_on s.link.may u.link.may w.link.may (IsOwn q m) (own_run q m to first s u within safe run) (own_step q m to first u w within (safe_run q m to first s u within run safe) step)

-- each new member of what can arrive is of this exchange
pub end_own : {A : Type 0} (q m t : ℕ) (streams : List (ℕ × Vec ℕ A)) (old new : LinkState) (base : ℕ) (first now : ℕ → List ℕ) (result : Result Unit ExchangeEnd) → IsWithin q m t → All (λ stream. stream.0 < 16) streams → AreAlone (seen streams) → AreEarlier q m old.may → HasRunOr (at (map (new_lane q m t) (seen streams)) old base first None) new now result → Grows old.may new.may (IsOwn q m)
end_own q m t streams old new base first now result within below alone earlier (inr none) = grows_same old.may new.may (IsOwn q m) (ap (λ (l : LinkState). l.may) none.1)
end_own q m t streams old new base first now result within below alone earlier (inl ran) =
    let start : Exchange = at (map (new_lane q m t) (seen streams)) old base first None in
    subst (λ (l : LinkState). Grows old.may l.may (IsOwn q m)) ran.link_is
    (own_run q m t first start ran.over within (new_safe q m t streams old base first below alone earlier) ran.run)
