-- What a link in memory does is what a link may do.
use Rattle.std.proofs.Common.{◌≡◌, ◌⊎◌, ℕ, zero, suc, ◌+◌, ◌-◌, ◌%◌, ◌^◌, ◌<◌, ◌≤◌, Bool, true, false, ◌&&◌, cond, ltb, nat_eq, List, [], ◌∷◌, ◌++◌, length, take, drop, min, Option, Some, None, Result, Ok, Err, refl, sym, ap, subst, ◌∙◌, arith, inl, inr}
use Rattle.std.specs.Prelude.{slice_get, remove, OnOk, OnErr}
use Rattle.std.proofs.lemmas.Bool.{ltb-true, eqb-true, and_parts}
use Rattle.hq_value.specs.Causes.{Rose, raised}
use Rattle.hq_value.specs.declared.fault.Failed.{Failed}
use Rattle.hq_link.specs.declared.link.Got.{Got}
use Rattle.hq_link.specs.declared.link.Got.TheVariants.{Bytes, Quiet}
use Rattle.hq_link.specs.declared.link.LinkFault.{LinkFault}
use Rattle.hq_link.specs.declared.link.LinkFault.TheVariants as fault
use Rattle.hq_link.specs.Link.{LinkState, IsIn, IsLowered, HasFallen, WhereTold, StaysSound, IsSent, IsNext, IsInTurn, HasCome, Came, KeepsPromise, IsThinned, ack_count, other_count, acks_in, others_in}
use Rattle.hq_sim.specs.declared.act.Act.{Act}
use Rattle.hq_sim.specs.declared.act.Act.TheVariants.{Give, Lose, Repeat, Late, Stale, FailSend, FailNext}
use Rattle.hq_sim.specs.declared.script.Script.{Script}
use Rattle.hq_sim.specs.declared.script.Script.TheVariants.{Acts, Dropping, Drawn}
use Rattle.hq_sim.specs.Acting.{SimState, state_of, is_sound, roughness, all_work, fails_first, fails_now, send_left, next_of, next_left, act_now, script_left, is_dropped, is_data_first, is_rough, drawn_act, draws_left, picked, gave, acted, counted, gave_first, troubled, has_given, has_failed, has_sent, turned, place_in, is_failing, HasActed, HasSent, AreSent, AreCounts}
use Rattle.hq_sim.proofs.Lists.{acks_more, others_more, member, member_sent, thinned_same, thinned_remove, thinned_drop, thinned_acks, thinned_others}
use Rattle.rand_pcg.specs.Lcg.{Lcg}
use Rattle.rand_pcg.specs.Pcg.{pcg32}

lowered_same : (o : Option ℕ) → IsLowered o o
lowered_same None = tt
lowered_same (Some r) = omega arith

where_told : (o : Option ℕ) (P : Type 0) → P → WhereTold o P
where_told None P p = tt
where_told (Some r) P p = p

-- a script whose next send fails promises nothing
no_promise : (script : Script) → fails_now script ≡ true → (is_sound script ≡ false) × (roughness script ≡ None)
no_promise (Acts []) e = absurd cc
no_promise (Acts (Give ∷ acts)) e = absurd cc
no_promise (Acts (Lose ∷ acts)) e = absurd cc
no_promise (Acts (Repeat ∷ acts)) e = absurd cc
no_promise (Acts (Late i ∷ acts)) e = absurd cc
no_promise (Acts (Stale i ∷ acts)) e = absurd cc
no_promise (Acts (FailSend ∷ acts)) e = (refl, refl)
no_promise (Acts (FailNext ∷ acts)) e = absurd cc
no_promise (Dropping seq left) e = absurd cc
no_promise (Drawn draws per_mille) e = absurd cc

pub sent_is : (s : SimState) (bytes : List ℕ) (result : Result Unit LinkFault) (new : SimState) → AreCounts s → HasSent s bytes result new → IsSent (state_of s) bytes result (state_of new)
sent_is s bytes (Ok done) new counts has = subst (λ (t : SimState). IsSent (state_of s) bytes (Ok done) (state_of t)) (sym has.1) (record {
  sent = record { may = refl; flying = refl; acks = acks_more s.flying bytes; others = others_more s.flying bytes };
  refused = tt;
  troubles = omega arith;
  given = refl;
  faults = omega arith;
  failed = λ e. absurd cc;
  sound = λ e. record { faults = refl; sound = e };
  works = λ e f. absurd cc;
  rough = lowered_same (roughness s.script);
  smooth = where_told (roughness s.script) (s.troubles ≡ s.troubles) refl;
})
sent_is s bytes (Err fault.Failed) new counts has =
    let none = no_promise s.script has.0 in
    let unsound : is_sound s.script ≡ true → ⊥ = λ e. (let no : false ≡ true = sym none.0 ∙ e in absurd cc) in
    subst (λ (t : SimState). IsSent (state_of s) bytes (Err fault.Failed) (state_of t)) (sym has.1) (record {
      sent = tt;
      refused = record { may = refl; flying = refl; acks = refl; others = refl };
      troubles = omega (arith, counts.troubles);
      given = refl;
      faults = omega (arith, counts.faults);
      failed = λ e. omega arith;
      sound = λ e. absurd (unsound e);
      works = λ e f. unsound e;
      rough = subst (λ o. IsLowered o (roughness (send_left s.script))) (sym none.1) tt;
      smooth = subst (λ o. WhereTold o (raised s.troubles 1 ≡ s.troubles)) (sym none.1) tt;
    })
sent_is s bytes (Err fault.NoMemory) new counts has = subst (λ (t : SimState). IsSent (state_of s) bytes (Err fault.NoMemory) (state_of t)) (sym has.1) (record {
  sent = tt;
  refused = record { may = refl; flying = refl; acks = refl; others = refl };
  troubles = omega arith;
  given = refl;
  faults = omega arith;
  failed = λ e. absurd cc;
  sound = λ e. record { faults = refl; sound = e };
  works = λ e f. absurd cc;
  rough = lowered_same (roughness s.script);
  smooth = where_told (roughness s.script) (s.troubles ≡ s.troubles) refl;
})

-- what a script promises of the act that it gives
record Promises (script left : Script) (act : Act) : Type 0 where
  sound : is_sound script ≡ true → (is_sound left ≡ true) × (is_failing act ≡ false)
  lowered : IsLowered (roughness script) (roughness left)
  fallen : (act ≡ Give) ⊎ HasFallen (roughness script) (roughness left)

same_sound : (left : Script) (act : Act) → is_failing act ≡ false → is_sound left ≡ true → (is_sound left ≡ true) × (is_failing act ≡ false)
same_sound left act works e = (e, works)

one_act : (b : Bool) (n : ℕ) → IsLowered (cond b (Some (suc n)) None) (cond b (Some n) None) × HasFallen (cond b (Some (suc n)) None) (cond b (Some n) None)
one_act true n = (omega arith, omega arith)
one_act false n = (tt, tt)

acts_promise : (acts : List Act) → Promises (Acts acts) (Acts (next_left acts)) (next_of acts)
acts_promise [] = record { sound = λ e. (e, refl); lowered = omega arith; fallen = inl refl }
acts_promise (Give ∷ acts) = record { sound = λ e. (e, refl); lowered = (one_act (all_work acts) (length acts)).0; fallen = inl refl }
acts_promise (Lose ∷ acts) = record { sound = λ e. (e, refl); lowered = (one_act (all_work acts) (length acts)).0; fallen = inr (one_act (all_work acts) (length acts)).1 }
acts_promise (Repeat ∷ acts) = record { sound = λ e. (e, refl); lowered = (one_act (all_work acts) (length acts)).0; fallen = inr (one_act (all_work acts) (length acts)).1 }
acts_promise (Late i ∷ acts) = record { sound = λ e. (e, refl); lowered = (one_act (all_work acts) (length acts)).0; fallen = inr (one_act (all_work acts) (length acts)).1 }
acts_promise (Stale i ∷ acts) = record { sound = λ e. (e, refl); lowered = (one_act (all_work acts) (length acts)).0; fallen = inr (one_act (all_work acts) (length acts)).1 }
acts_promise (FailSend ∷ acts) = record { sound = λ e. absurd cc; lowered = tt; fallen = inl refl }
acts_promise (FailNext ∷ acts) = record { sound = λ e. absurd cc; lowered = tt; fallen = inr tt }

drop_promise : (b : Bool) (seq left : ℕ) → (b ≡ true → 0 < left) → Promises (Dropping seq left) (cond b (Dropping seq (left - 1)) (Dropping seq left)) (cond b Lose Give)
drop_promise true seq left some = let more : 0 < left = some refl in record { sound = λ e. (refl, refl); lowered = omega arith; fallen = inr (omega (arith, more)) }
drop_promise false seq left some = record { sound = λ e. (refl, refl); lowered = omega arith; fallen = inl refl }

no_picked_fails : (word : ℕ) → is_failing (picked word) ≡ false
no_picked_fails word = by (nat_eq (word % 3) 0) (nat_eq (word % 3) 1)
  where
    by : (a b : Bool) → is_failing (cond a Lose (cond b Repeat (Late 1))) ≡ false
    by true b = refl
    by false true = refl
    by false false = refl

no_drawn_fails : (draws : Lcg) (per_mille : ℕ) → is_failing (drawn_act draws per_mille) ≡ false
no_drawn_fails draws per_mille = by (is_rough draws per_mille)
  where
    by : (a : Bool) → is_failing (cond a (picked (pcg32 (pcg32 draws).1).0) Give) ≡ false
    by true = no_picked_fails (pcg32 (pcg32 draws).1).0
    by false = refl

never_below_zero : (n m : ℕ) → m ≡ 0 → ltb n m ≡ true → ⊥
never_below_zero n m zero_is e = let lt : n < m = ltb-true n m e in absurd (omega (arith, lt, zero_is))

drawn_promise : (draws : Lcg) (per_mille : ℕ) → Promises (Drawn draws per_mille) (Drawn (draws_left draws per_mille) per_mille) (drawn_act draws per_mille)
drawn_promise draws per_mille = record {
  sound = λ e. (refl, no_drawn_fails draws per_mille);
  lowered = lowered_same (roughness (Drawn draws per_mille));
  fallen = by (nat_eq per_mille 0) (is_rough draws per_mille) (eqb-true per_mille 0) (never_below_zero ((pcg32 draws).0 % 1000) per_mille);
}
  where
    by : (a b : Bool) → (a ≡ true → per_mille ≡ 0) → (per_mille ≡ 0 → b ≡ true → ⊥) → (cond b (picked (pcg32 (pcg32 draws).1).0) Give ≡ Give) ⊎ HasFallen (cond a (Some 0) None) (cond a (Some 0) None)
    by false b is never = inr tt
    by true false is never = inl refl
    by true true is never = absurd (never (is refl) refl)

promise : (script : Script) (flying : List (List ℕ)) → Promises script (script_left script flying) (act_now script flying)
promise (Acts acts) flying = acts_promise acts
promise (Dropping seq left) flying = drop_promise (is_dropped seq left flying) seq left (λ e. ltb-true 0 left (and_parts (ltb 0 left) (is_data_first seq flying) e).0)
promise (Drawn draws per_mille) flying = drawn_promise draws per_mille

-- what an act leaves of the counts and of what is flying
record Leaves (s : SimState) (left : Script) (result : Result Got Failed) (into : List ℕ) (new : SimState) : Type 0 where
  sent : new.sent ≡ s.sent
  script : new.script ≡ left
  thinned : IsThinned s.flying new.flying
  troubles : s.troubles ≤ new.troubles
  one : new.troubles ≤ s.troubles + 1
  faults : s.faults ≤ new.faults
  came : Came (state_of s) result into (state_of new)
  works : (is_sound s.script ≡ true → OnErr result ⊥ × (new.faults ≡ s.faults))
  promise : WhereTold (roughness s.script) (KeepsPromise (state_of s) result into (state_of new))

meets : (s : SimState) (left : Script) (act : Act) (result : Result Got Failed) (into : List ℕ) (new : SimState) → Promises s.script left act → Leaves s left result into new → IsNext (state_of s) result into (state_of new)
meets s left act result into new promises leaves = record {
  came = leaves.came;
  may = λ x h. subst (IsIn x) leaves.sent h;
  flying = leaves.thinned;
  acks = thinned_acks s.flying new.flying leaves.thinned;
  others = thinned_others s.flying new.flying leaves.thinned;
  troubles = leaves.troubles;
  faults = leaves.faults;
  sound = λ e. record { faults = (leaves.works e).1; sound = subst (λ (l : Script). is_sound l ≡ true) (sym leaves.script) (promises.sound e).0 };
  works = λ e. (leaves.works e).0;
  rough = subst (λ (l : Script). IsLowered (roughness s.script) (roughness l)) (sym leaves.script) promises.lowered;
  one = where_told (roughness s.script) (new.troubles ≤ s.troubles + 1) leaves.one;
  promise = leaves.promise;
}

-- an act with a trouble that gives nothing
quiet_leaves : (s : SimState) (left : Script) (flying : List (List ℕ)) (into : List ℕ) (new : SimState) → AreCounts s → IsThinned s.flying flying → HasFallen (roughness s.script) (roughness left) → new ≡ troubled (record s { script = left; flying = flying }) → Leaves s left (Ok Quiet) into new
quiet_leaves s left flying into new counts thinned fallen is = subst (λ (t : SimState). Leaves s left (Ok Quiet) into t) (sym is) (record {
  sent = refl;
  script = refl;
  thinned = thinned;
  troubles = omega (arith, counts.troubles);
  one = omega arith;
  faults = omega arith;
  came = (omega arith, refl);
  works = λ e. (tt, refl);
  promise = where_told (roughness s.script) (KeepsPromise (state_of s) (Ok Quiet) into (state_of (troubled (record s { script = left; flying = flying })))) (inr fallen);
})

-- an act with a trouble that gives a datagram
bytes_leaves : (s : SimState) (left : Script) (flying : List (List ℕ)) (n : ℕ) (into : List ℕ) (new : SimState) → AreCounts s → IsThinned s.flying flying → IsIn (take n into) s.sent → n ≤ 1224 → HasFallen (roughness s.script) (roughness left) → new ≡ troubled (has_given (record s { script = left; flying = flying })) → Leaves s left (Ok (Bytes n)) into new
bytes_leaves s left flying n into new counts thinned there short fallen is = subst (λ (t : SimState). Leaves s left (Ok (Bytes n)) into t) (sym is) (record {
  sent = refl;
  script = refl;
  thinned = thinned;
  troubles = omega (arith, counts.troubles);
  one = omega arith;
  faults = omega arith;
  came = (short, record { may = there; turn = inr (omega arith); given = refl });
  works = λ e. (tt, refl);
  promise = where_told (roughness s.script) (KeepsPromise (state_of s) (Ok (Bytes n)) into (state_of (troubled (has_given (record s { script = left; flying = flying }))))) (inr fallen);
})

-- an act that fails
fail_leaves : (s : SimState) (left : Script) (failed : Failed) (into : List ℕ) (new : SimState) → AreCounts s → (is_sound s.script ≡ true → ⊥) → roughness s.script ≡ None → new ≡ has_failed (record s { script = left }) → Leaves s left (Err failed) into new
fail_leaves s left failed into new counts unsound none is = subst (λ (t : SimState). Leaves s left (Err failed) into t) (sym is) (record {
  sent = refl;
  script = refl;
  thinned = thinned_same s.flying;
  troubles = omega (arith, counts.troubles);
  one = omega arith;
  faults = omega (arith, counts.faults);
  came = (omega arith, refl, inl refl);
  works = λ e. absurd (unsound e);
  promise = subst (λ o. WhereTold o ⊥) (sym none) tt;
})

give_leaves : (s : SimState) (left : Script) (flying : List (List ℕ)) (result : Result Got Failed) (into : List ℕ) (new : SimState) → AreCounts s → AreSent flying s.sent → HasActed Give (record s { script = left; flying = flying }) result into new → Leaves (record s { flying = flying }) left result into new
give_leaves s left flying (Err e) into new counts within has = absurd cc
give_leaves s left [] (Ok (Bytes n)) into new counts within has = absurd cc
give_leaves s left [] (Ok Quiet) into new counts within has = subst (λ (t : SimState). Leaves (record s { flying = [] }) left (Ok Quiet) into t) (sym has.2) (record {
  sent = refl;
  script = refl;
  thinned = tt;
  troubles = omega (arith, counts.troubles);
  one = omega arith;
  faults = omega arith;
  came = (omega arith, refl);
  works = λ e. (tt, refl);
  promise = where_told (roughness s.script) (KeepsPromise (state_of (record s { flying = [] })) (Ok Quiet) into (state_of (troubled (record s { script = left; flying = [] })))) (inl refl);
})
give_leaves s left (x ∷ xs) (Ok Quiet) into new counts within has = absurd cc
give_leaves s left (x ∷ xs) (Ok (Bytes n)) into new counts within has =
    let same : x ≡ take n into = cc in
    let turn : IsInTurn (state_of (record s { flying = x ∷ xs })) (take n into) (state_of (record s { script = left; flying = xs; given = raised s.given 1 })) =
    record { head = (same, refl); acks = omega (arith, ap ack_count same); others = omega (arith, ap other_count same) } in
    subst (λ (t : SimState). Leaves (record s { flying = x ∷ xs }) left (Ok (Bytes n)) into t) (sym has.2) (record {
      sent = refl;
      script = refl;
      thinned = thinned_drop (x ∷ xs);
      troubles = omega arith;
      one = omega arith;
      faults = omega arith;
      came = (has.3, record { may = subst (λ y. IsIn y s.sent) same within.0; turn = inl turn; given = refl });
      works = λ e. (tt, refl);
      promise = where_told (roughness s.script) (KeepsPromise (state_of (record s { flying = x ∷ xs })) (Ok (Bytes n)) into (state_of (record s { script = left; flying = xs; given = raised s.given 1 }))) (inl (turn, refl));
    })

-- an act that gives the datagram at a place of a list, or is quiet, with a trouble in both cases
placed_leaves : (s : SimState) (left : Script) (flying : List (List ℕ)) (o : Option (List ℕ)) (act : Act) (result : Result Got Failed) (into : List ℕ) (new : SimState) → AreCounts s → IsThinned s.flying flying → HasFallen (roughness s.script) (roughness left) → ((x : List ℕ) → o ≡ Some x → IsIn x s.sent) → is_failing act ≡ false → gave act (record s { script = left }) ≡ o → acted act (record s { script = left }) ≡ troubled (counted o (record s { script = left; flying = flying })) → HasActed act (record s { script = left }) result into new → Leaves s left result into new
placed_leaves s left flying o act (Err e) into new counts thinned fallen there works gives leaves has = let no : false ≡ true = sym works ∙ has.0 in absurd cc
placed_leaves s left flying None act (Ok Quiet) into new counts thinned fallen there works gives leaves has = quiet_leaves s left flying into new counts thinned fallen (has.2 ∙ leaves)
placed_leaves s left flying (Some x) act (Ok Quiet) into new counts thinned fallen there works gives leaves has = let no : None ≡ Some x = sym has.1 ∙ gives in absurd cc
placed_leaves s left flying None act (Ok (Bytes n)) into new counts thinned fallen there works gives leaves has = let no : Some (take n into) ≡ None = sym has.1 ∙ gives in absurd cc
placed_leaves s left flying (Some x) act (Ok (Bytes n)) into new counts thinned fallen there works gives leaves has =
    let same : Some x ≡ Some (take n into) = sym gives ∙ has.1 in
    bytes_leaves s left flying n into new counts thinned (there (take n into) same) has.3 fallen (has.2 ∙ leaves)

-- a promise is made only by a script whose acts don't fail
no_rough : (script : Script) → (is_sound script ≡ true → ⊥) → roughness script ≡ None
no_rough (Acts acts) unsound = by (all_work acts) unsound
  where
    by : (b : Bool) → (b ≡ true → ⊥) → cond b (Some (length acts)) None ≡ None
    by true never = absurd (never refl)
    by false never = refl
no_rough (Dropping seq left) unsound = absurd (unsound refl)
no_rough (Drawn draws per_mille) unsound = absurd (unsound refl)

no_give : (act : Act) (P : Type 0) → (act ≡ Give → ⊥) → (act ≡ Give) ⊎ P → P
no_give act P never (inl e) = absurd (never e)
no_give act P never (inr p) = p

acted_leaves : (s : SimState) (left : Script) (act : Act) (result : Result Got Failed) (into : List ℕ) (new : SimState) → AreCounts s → AreSent s.flying s.sent → Promises s.script left act → HasActed act (record s { script = left }) result into new → Leaves s left result into new
acted_leaves s left Give result into new counts within promises has = give_leaves s left s.flying result into new counts within has
acted_leaves s left Lose result into new counts within promises has =
    placed_leaves s left (drop 1 s.flying) None Lose result into new counts (thinned_drop s.flying) (no_give Lose _ (λ e. absurd cc) promises.fallen) (λ x e. absurd cc) refl refl refl has
acted_leaves s left Repeat result into new counts within promises has =
    placed_leaves s left s.flying (slice_get s.flying 0) Repeat result into new counts (thinned_same s.flying) (no_give Repeat _ (λ e. absurd cc) promises.fallen) (λ x e. member_sent s.flying s.sent 0 x within e) refl refl refl has
acted_leaves s left (Late i) result into new counts within promises has =
    let place = place_in i s.flying in
    placed_leaves s left (remove s.flying place) (slice_get s.flying place) (Late i) result into new counts (thinned_remove s.flying place) (no_give (Late i) _ (λ e. absurd cc) promises.fallen) (λ x e. member_sent s.flying s.sent place x within e) refl refl refl has
acted_leaves s left (Stale i) result into new counts within promises has =
    let place = place_in i s.sent in
    placed_leaves s left s.flying (slice_get s.sent place) (Stale i) result into new counts (thinned_same s.flying) (no_give (Stale i) _ (λ e. absurd cc) promises.fallen) (λ x e. member s.sent place x e) refl refl refl has
acted_leaves s left FailSend (Err e) into new counts within promises has = fail_leaves s left e into new counts (λ sound. absurd (clash (promises.sound sound).1)) (no_rough s.script (λ sound. absurd (clash (promises.sound sound).1))) has.1
  where
    clash : true ≡ false → ⊥
    clash e = cc
acted_leaves s left FailSend (Ok (Bytes n)) into new counts within promises has = absurd cc
acted_leaves s left FailSend (Ok Quiet) into new counts within promises has = absurd cc
acted_leaves s left FailNext (Err e) into new counts within promises has = fail_leaves s left e into new counts (λ sound. absurd (clash (promises.sound sound).1)) (no_rough s.script (λ sound. absurd (clash (promises.sound sound).1))) has.1
  where
    clash : true ≡ false → ⊥
    clash e = cc
acted_leaves s left FailNext (Ok (Bytes n)) into new counts within promises has = absurd cc
acted_leaves s left FailNext (Ok Quiet) into new counts within promises has = absurd cc

pub next_is : (s : SimState) (result : Result Got Failed) (into : List ℕ) (new : SimState) → AreCounts s → AreSent s.flying s.sent → HasActed (act_now s.script s.flying) (turned s) result into new → IsNext (state_of s) result into (state_of new)
next_is s result into new counts within has =
    let promises = promise s.script s.flying in
    meets s (script_left s.script s.flying) (act_now s.script s.flying) result into new promises (acted_leaves s (script_left s.script s.flying) (act_now s.script s.flying) result into new counts within promises has)

if_unfailing : (b : Bool) (acts : List Act) → b ≡ false → cond b (drop 1 acts) acts ≡ acts
if_unfailing true acts e = absurd cc
if_unfailing false acts e = refl

-- a `send` that doesn't fail leaves the script
pub unfailing : (s : SimState) → fails_now s.script ≡ false → ◌≡◌ {A = SimState} (record s { script = send_left s.script }) s
unfailing s works = ap (λ (script : Script). record s { script = script }) (by s.script works)
  where
    by : (script : Script) → fails_now script ≡ false → send_left script ≡ script
    by (Acts acts) e = ap Acts (if_unfailing (fails_first acts) acts e)
    by (Dropping seq left) e = refl
    by (Drawn draws per_mille) e = refl
