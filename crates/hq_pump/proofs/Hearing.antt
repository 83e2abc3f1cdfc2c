-- What is done once a datagram came.
use Rattle.std.proofs.Common.{◌≡◌, ℕ, ◌-◌, ◌^◌, ◌<◌, ◌≤◌, Bool, true, false, ◌&&◌, ◌||◌, cond, nat_eq, List, [], take, Option, Some, None, Result, refl, sym, ap, subst, ◌∙◌, arith}
use Rattle.std.specs.Prelude.{slice_set}
use Rattle.hq_link.specs.declared.datagram.Datagram.{Datagram}
use Rattle.hq_link.specs.declared.datagram.Packet.{Packet}
use Rattle.hq_link.specs.declared.datagram.Packet.TheVariants.{Data, Eos, Ack, Probe}
use Rattle.hq_link.specs.declared.link.LinkFault.{LinkFault}
use Rattle.hq_link.specs.declared.link.LinkFault.TheVariants as link_fault
use Rattle.hq_link.specs.declared.route.Route.{Route}
use Rattle.hq_link.specs.Gram.{gram_bytes, code}
use Rattle.hq_link.specs.Reading.{gram_at}
use Rattle.hq_link.specs.Link.{LinkState, IsSent, is_ack, one_if, other_count}
use Rattle.hq_link.specs.Streams.{ack_of, ack_in, piece_in, piece_of, piece_for, probe_for, asks, is_of, is_probe_of}
use Rattle.hq_link.proofs.Numbers.{IsBytes}
use Rattle.hq_link.proofs.GramLaws.{gram_takes}
use Rattle.hq_recv.specs.Taking.{Taker, took, drained, with_more}
use Rattle.hq_pump.specs.declared.lane.Lane.{Lane}
use Rattle.hq_pump.specs.Exchange.{Exchange, IsItsOwn, answers_it, hears, misses, hands_over, gives_up, Run, still, fault_of, owes, answers, received}
use Rattle.hq_pump.specs.Pumping.{StandsOwing, Arrives, heard}
use Rattle.hq_pump.proofs.Steps.{joined, one_step, get_set, set_same, set_set}

-- the answer that was owed, or none
pub answered : (s : Exchange) (i : ℕ) (lane : Lane) (old new : LinkState) (taken : ℕ → List ℕ) (result : Result Unit LinkFault) → lane.receiver.state.wanted < 2 ^ 64 → lane.receiver.state.got ≡ [] → StandsOwing s i lane old taken true → IsSent old (gram_bytes (ack_of lane.receiver.route lane.receiver.state.wanted)) result new → Run s (heard s i lane new taken (fault_of result))
answered s i lane old new taken result small handed at sent =
    subst (Run s) (λ k. record { lanes = sym (set_same s.lanes i lane at.lane_is) k; link = new; base = s.base; taken = at.taken_is k; owed = None; fault = fault_of result })
    (one_step s (record s { link = new; owed = None; fault = fault_of result }) (answers_it (record {
      place = i;
      lane = lane;
      result = result;
      link = new;
      at = at.lane_is;
      owed = at.owed;
      seq = small;
      handed = handed;
      whole = at.whole;
      sent = subst (λ l. IsSent l (gram_bytes (ack_of lane.receiver.route lane.receiver.state.wanted)) result new) (sym at.link_is) sent;
      is = refl;
    })))

pub none_owed : (s : Exchange) (i : ℕ) (lane : Lane) (link : LinkState) (taken : ℕ → List ℕ) → StandsOwing s i lane link taken false → Run s (heard s i lane link taken None)
none_owed s i lane link taken at =
    subst (Run s) (λ k. record { lanes = sym (set_same s.lanes i lane at.lane_is) k; link = at.link_is k; base = s.base; taken = at.taken_is k; owed = at.owed k; fault = at.whole k }) still

-- what was accepted is handed over, and then answered
pub handed : (s : Exchange) (i : ℕ) (lane left : Lane) (old new : LinkState) (before taken : ℕ → List ℕ) (owing : Bool) (fault : Option LinkFault) → StandsOwing s i lane old before owing → left ≡ record lane { receiver = drained lane.receiver } → ((n : ℕ) → taken n ≡ with_more before lane.receiver.route.from lane.receiver.state.got n) → ((t : Exchange) (j : ℕ) (then : ℕ → List ℕ) → StandsOwing t j left old then owing → Run t (heard t j left new then fault)) → Run s (heard s i left new taken fault)
handed s i lane left old new before taken owing fault at is more_is then_is =
    let t : Exchange = record s { lanes = slice_set s.lanes i (record lane { receiver = drained lane.receiver }); taken = taken } in
    let step : Run s t = one_step s t (hands_over (record {
      place = i;
      lane = lane;
      at = at.lane_is;
      whole = at.whole;
      taken = taken;
      more = λ n. more_is n ∙ ap (λ (f : ℕ → List ℕ). with_more f lane.receiver.route.from lane.receiver.state.got n) (sym at.taken_is);
      is = refl;
    })) in
    let stands : StandsOwing t i left old taken owing = record { lane_is = get_set s.lanes i lane (record lane { receiver = drained lane.receiver }) at.lane_is ∙ ap Some (sym is); link_is = at.link_is; taken_is = refl; owed = at.owed; whole = at.whole } in
    joined s t (heard s i left new taken fault) step
    (subst (Run t) (λ k. record { lanes = set_set s.lanes i (record lane { receiver = drained lane.receiver }) left k; link = new; base = s.base; taken = taken; owed = None; fault = fault }) (then_is t i taken stands))

-- want of memory ends it
pub gave_up : (s : Exchange) (i : ℕ) (lane : Lane) (link : LinkState) (before taken : ℕ → List ℕ) (owing : Bool) → StandsOwing s i lane link before owing → ((n : ℕ) → taken n ≡ before n) → Run s (heard s i lane link taken (Some link_fault.NoMemory))
gave_up s i lane link before taken owing at same =
    subst (Run s) (λ k. record { lanes = sym (set_same s.lanes i lane at.lane_is) k; link = at.link_is k; base = s.base; taken = (at.taken_is ∙ (λ m n. sym (same n) m)) k; owed = None; fault = Some link_fault.NoMemory })
    (one_step s (record s { owed = None; fault = Some link_fault.NoMemory }) (gives_up refl))

-- a piece or a question was heard
pub heard_run : (s : Exchange) (i count : ℕ) (into bytes : List ℕ) (lane left : Lane) (link new : LinkState) (before taken : ℕ → List ℕ) (owing : Bool) (fault : Option LinkFault) → Arrives s i lane count into link bytes before → ack_in lane.sender.route bytes ≡ None → left ≡ record lane { receiver = received lane.receiver bytes } → owing ≡ owes lane.receiver bytes → (now : Lane) → ((t : Exchange) (j : ℕ) → StandsOwing t j left link before owing → Run t (heard t j now new taken fault)) → Run s (heard s i now new taken fault)
heard_run s i count into bytes lane left link new before taken owing fault arrives no_ack is owing_is now then_is =
    let raw = take count into in
    let t : Exchange = record s { lanes = slice_set s.lanes i (record lane { receiver = received lane.receiver raw }); link = link; owed = cond (owes lane.receiver raw) (Some i) None } in
    let step : Run s t = one_step s t (hears (record {
      ready = arrives.ready;
      place = i;
      lane = lane;
      count = count;
      into = into;
      link = link;
      next = arrives.next;
      at = arrives.lane_is;
      own = subst (λ b. IsItsOwn lane (gram_at b)) (sym arrives.bytes_are) arrives.own;
      no_ack = ap (ack_in lane.sender.route) arrives.bytes_are ∙ no_ack;
      is = refl;
    })) in
    let stands : StandsOwing t i left link before owing = record {
      lane_is = get_set s.lanes i lane (record lane { receiver = received lane.receiver raw }) arrives.lane_is ∙ ap (λ b. Some (record lane { receiver = received lane.receiver b })) arrives.bytes_are ∙ ap Some (sym is);
      link_is = refl;
      taken_is = arrives.taken_is;
      owed = ap (λ b. cond b (Some i) None) (ap (owes lane.receiver) arrives.bytes_are ∙ sym owing_is);
      whole = arrives.ready.whole;
    } in
    joined s t (heard s i now new taken fault) step
    (subst (Run t) (λ k. record { lanes = set_set s.lanes i (record lane { receiver = received lane.receiver raw }) now k; link = new; base = s.base; taken = taken; owed = None; fault = fault }) (then_is t i stands))

-- a piece that could not be kept
pub missed_run : (s : Exchange) (i count : ℕ) (into bytes : List ℕ) (lane left : Lane) (link : LinkState) (before : ℕ → List ℕ) → Arrives s i lane count into link bytes before → left ≡ lane → Run s (heard s i left link before (Some link_fault.NoMemory))
missed_run s i count into bytes lane left link before arrives is =
    subst (Run s) (λ k. record { lanes = (sym (set_same s.lanes i lane arrives.lane_is) ∙ ap (slice_set s.lanes i) (sym is)) k; link = link; base = s.base; taken = arrives.taken_is k; owed = arrives.ready.owes_none k; fault = Some link_fault.NoMemory })
    (one_step s (record s { link = link; fault = Some link_fault.NoMemory }) (misses (record {
      ready = arrives.ready;
      count = count;
      into = into;
      link = link;
      fault = Some link_fault.NoMemory;
      next = arrives.next;
      nobodys = λ e. absurd cc;
      memory = λ e. absurd cc;
      is = refl;
    })))

-- an Ack brings a receiver nothing
pub ack_is_foreign : (route : Route) (bytes : List ℕ) → IsBytes bytes → is_ack bytes ≡ true → (piece_in route bytes ≡ None) × (is_probe_of route bytes ≡ false)
ack_is_foreign route bytes fit is = by (gram_at bytes) refl
  where
    no : (b : Bool) (kind : Packet) (n : ℕ) (payload : List ℕ) → nat_eq (code kind) 3 ≡ true → (cond b (piece_of kind n payload) None ≡ None) × ((b && asks kind) ≡ false)
    no true Data n payload e = absurd cc
    no true Eos n payload e = absurd cc
    no true Probe n payload e = absurd cc
    no true Ack n payload e = (refl, refl)
    no false kind n payload e = (refl, refl)

    by : (o : Option Datagram) → gram_at bytes ≡ o → (piece_for route o ≡ None) × (probe_for route o ≡ false)
    by None e = (refl, refl)
    by (Some d) e = no (is_of route d) d.kind d.seq d.payload (ap is_ack (sym (gram_takes bytes d fit e).spelled) ∙ is)

-- so no answer is owed to one
pub owes_no_ack : (r : Taker) (bytes : List ℕ) → IsBytes bytes → owes r bytes ≡ true → 1 ≤ other_count bytes
owes_no_ack r bytes fit owing = by (is_ack bytes) refl
  where
    by : (b : Bool) → is_ack bytes ≡ b → 1 ≤ 1 - one_if b
    by false e = omega arith
    by true e =
        let f = ack_is_foreign r.route bytes fit e in
        let off : owes r bytes ≡ false = (λ k. answers (took r.state (f.0 k)) || f.1 k) in
        let no : true ≡ false = sym owing ∙ off in absurd cc
