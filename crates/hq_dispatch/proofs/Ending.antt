-- How a query ends, from how a slice of it ended.
use Rattle.std.proofs.Common.{◌≡◌, ◌∙◌, ◌⊎◌, inl, inr, ℕ, ◌+◌, ◌-◌, ◌^◌, ◌<◌, ◌≤◌, ◌||◌, Bool, true, false, cond, List, [], ◌∷◌, length, take, drop, slice_index_or, Some, IsTrue, refl, sym, ap, subst, take-append-drop, arith}
use Rattle.std.specs.Global.{Vec}
use Rattle.std.specs.Prelude.{slice_get, option_map}
use Rattle.std.specs.List.{list_any}
use Rattle.std.proofs.lemmas.Bool.{cases_lt}
use Rattle.std.proofs.lemmas.List.{length-map}
use Rattle.hq_value.specs.Causes.{Rose, RoseBy, GoesOnGiving}
use Rattle.hq_value.specs.declared.entry.FileId.{FileId}
use Rattle.hq_value.specs.declared.value.Value.{Value}
use Rattle.hq_algebra.specs.declared.plan.Slice.{Slice}
use Rattle.hq_algebra.specs.Plans.{gathers}
use Rattle.hq_detect.specs.declared.bench.Bench.{Bench}
use Rattle.hq_exec.specs.declared.end.FlowEnd.{FlowEnd}
use Rattle.hq_exec.specs.declared.end.FlowEnd.TheVariants as flow
use Rattle.hq_exec.specs.Ends.{OnStore, OnHost, IfBad, IsNumericAt, IsBadIn}
use Rattle.hq_exec.specs.Slices.{slice_fault}
use Rattle.hq_laws.proofs.Runs.{run-append}
use Rattle.hq_meaning.specs.Mean.{Answer}
use Rattle.hq_meaning.specs.Mean as answer
use Rattle.hq_meaning.specs.Nodes.{nodes_of, lowest}
use Rattle.hq_meaning.specs.Plans.{run_slice, run_slices, plan_mean, answer_after}
use Rattle.hq_meaning.specs.Slices.{receives, op_faults}
use Rattle.hq_pump.specs.Promise.{IsRoughAtMost}
use Rattle.hq_pump.specs.Pumping.{IsLost}
use Rattle.hq_dispatch.specs.Basis.{Asked, buckets_at, node_held, slices_reads}
use Rattle.hq_dispatch.specs.Each.{At}
use Rattle.hq_dispatch.specs.Ended.{benches_of, IsBadOf, HasEnded}
use Rattle.hq_dispatch.specs.Ends.{HasAnswered, Fails}
use Rattle.hq_dispatch.specs.Outside.{Outside}
use Rattle.hq_dispatch.specs.Owners.{is_used, has_flag, flagged}
use Rattle.hq_dispatch.specs.Running.{HasFlowed, HasServed, IsNoFault, IsEndOf}
use Rattle.hq_dispatch.specs.Streams.{plan_pieces}
use Rattle.hq_dispatch.specs.Standing.{IsAsked, NodeGoesOn, Stands, TellsAll, parts, sents_of}
use Rattle.hq_dispatch.specs.declared.end.QueryEnd.{QueryEnd}
use Rattle.hq_dispatch.specs.declared.end.QueryEnd.TheVariants as end
use Rattle.hq_dispatch.specs.declared.task.Task.{Task}
use Rattle.hq_dispatch.proofs.Advancing.{item-of, at-map, sents-next, here-at, runs-on, begins-so}
use Rattle.hq_dispatch.proofs.Linking.{rose-since}
use Rattle.hq_dispatch.proofs.Meaning.{some_fault, fault-behind, numeric-after}
use Rattle.hq_dispatch.proofs.Nodes.{used-within, run-used}
use Rattle.hq_dispatch.proofs.Sending.{one-faulted}
use Rattle.hq_dispatch.proofs.Working.{no_answer, ran-goes-on, ran-answered}

-- what holds of the benches of tasks
pub at-benches : {S H L : Type 0} (R : Bench S H L → Bench S H L → Type 0) (first : List (Bench S H L)) (new : List (Task S H L)) (n : ℕ) → n < length new
    → ((b : Bench S H L) (t : Task S H L) → R (slice_index_or first n b) (slice_index_or new n t).bench) → At n first (benches_of new) R
at-benches {S} {H} {L} R first new n within holds = λ d.
    let t : Task S H L = item-of new (omega (arith, within)) in
    subst (R (slice_index_or first n d)) (sym (at-map (λ (x : Task S H L). x.bench) new n d t within)) (holds d t)

pub many-benches : {S H L : Type 0} (new : List (Task S H L)) → length (benches_of new) ≡ length new
many-benches {S} {H} {L} new = length-map new (λ (x : Task S H L). x.bench)

-- each sort of end
module _ {S H L : Type 0} (o : Outside S H L) (q : Asked) (first now : List (Bench S H L)) (many : length now ≡ length first) (each : (n : ℕ) → n < length first → At n first now (NodeGoesOn o q n)) where
  abbrev answers : Bench S H L → Bench S H L → Type 0
  answers a b = HasAnswered o.checks o.host_faults a.host b.host

  pub ended-memory : HasEnded o q first now end.NoMemory
  ended-memory = record {
    many = many;
    each = each;
    means = λ k. tt;
    answered = tt;
    gave = λ seals files. tt;
    received = λ k. tt;
    store_cause = tt;
    host_cause = tt;
    host_sure = tt;
    lost_cause = tt;
    lost_sure = tt;
    failed_cause = tt;
    failed_sure = tt;
    bad = tt;
    never_bad = λ seals files. tt;
  }

  pub ended-numeric : (TellsAll o q first → answer.Numeric ≡ plan_mean q.plan (parts q) q.basis.owner) → HasEnded o q first now end.Numeric
  ended-numeric mean = record {
    many = many;
    each = each;
    means = mean;
    answered = tt;
    gave = λ seals files. tt;
    received = λ k. tt;
    store_cause = tt;
    host_cause = tt;
    host_sure = tt;
    lost_cause = tt;
    lost_sure = tt;
    failed_cause = tt;
    failed_sure = tt;
    bad = tt;
    never_bad = λ seals files. tt;
  }

  pub ended-store : (node : ℕ) → Fails (is_used q.marks) first now (λ a b. HasAnswered o.checks o.host_faults a.host b.host) (λ a b. Rose (o.faults a.store) (o.faults b.store)) (node + 1) node → HasEnded o q first now end.Store
  ended-store node cause = record {
    many = many;
    each = each;
    means = λ k. tt;
    answered = tt;
    gave = λ seals files. tt;
    received = λ k. tt;
    store_cause = (node, cause);
    host_cause = tt;
    host_sure = tt;
    lost_cause = tt;
    lost_sure = tt;
    failed_cause = tt;
    failed_sure = tt;
    bad = tt;
    never_bad = λ seals files. tt;
  }

  pub ended-host : (node : ℕ) → Fails (is_used q.marks) first now (λ a b. HasAnswered o.checks o.host_faults a.host b.host) (λ a b. Rose (o.host_faults a.host) (o.host_faults b.host)) node node
      → At node first now (λ a b. o.host_sound a.host → ⊥) → HasEnded o q first now (end.Host node)
  ended-host node cause sure = record {
    many = many;
    each = each;
    means = λ k. tt;
    answered = tt;
    gave = λ seals files. tt;
    received = λ k. tt;
    store_cause = tt;
    host_cause = cause;
    host_sure = sure;
    lost_cause = tt;
    lost_sure = tt;
    failed_cause = tt;
    failed_sure = tt;
    bad = tt;
    never_bad = λ seals files. tt;
  }

  pub ended-lost : (node : ℕ) → Fails (is_used q.marks) first now (λ a b. HasAnswered o.checks o.host_faults a.host b.host) (λ a b. IsLost (o.state a.link).troubles (o.state b.link).troubles) 16 node
      → At node first now (λ a b. IsRoughAtMost 15 (o.state a.link) → (o.state b.link).troubles < 2 ^ 64 - 1 → ⊥) → HasEnded o q first now (end.LinkLost node)
  ended-lost node cause sure = record {
    many = many;
    each = each;
    means = λ k. tt;
    answered = tt;
    gave = λ seals files. tt;
    received = λ k. tt;
    store_cause = tt;
    host_cause = tt;
    host_sure = tt;
    lost_cause = cause;
    lost_sure = sure;
    failed_cause = tt;
    failed_sure = tt;
    bad = tt;
    never_bad = λ seals files. tt;
  }

  pub ended-failed : (node : ℕ) → Fails (is_used q.marks) first now (λ a b. HasAnswered o.checks o.host_faults a.host b.host) (λ a b. Rose (o.state a.link).faults (o.state b.link).faults) 16 node
      → At node first now (λ a b. IsRoughAtMost 15 (o.state a.link) → (o.state b.link).troubles < 2 ^ 64 - 1 → ⊥) → HasEnded o q first now (end.LinkFailed node)
  ended-failed node cause sure = record {
    many = many;
    each = each;
    means = λ k. tt;
    answered = tt;
    gave = λ seals files. tt;
    received = λ k. tt;
    store_cause = tt;
    host_cause = tt;
    host_sure = tt;
    lost_cause = tt;
    lost_sure = tt;
    failed_cause = cause;
    failed_sure = sure;
    bad = tt;
    never_bad = λ seals files. tt;
  }

  pub ended-bad : (node : ℕ) (file : FileId) (at : ℕ) (bytes : Vec ℕ) → Fails (is_used q.marks) first now (λ a b. HasAnswered o.checks o.host_faults a.host b.host) (λ a b. IsBadOf q.plan q.basis.owner node file at bytes.items) (node + 1) node
      → (IsTrue q.seals → IsTrue q.files → ⊥) → HasEnded o q first now (end.BadBlock node file at bytes)
  ended-bad node file at bytes cause never = record {
    many = many;
    each = each;
    means = λ k. tt;
    answered = tt;
    gave = λ seals files. tt;
    received = λ k. tt;
    store_cause = tt;
    host_cause = tt;
    host_sure = tt;
    lost_cause = tt;
    lost_sure = tt;
    failed_cause = tt;
    failed_sure = tt;
    bad = cause;
    never_bad = never;
  }

  pub ended-rows : (rows : Vec (List Value)) → (TellsAll o q first → answer.Rows rows.items ≡ plan_mean q.plan (parts q) q.basis.owner)
      → ((n : ℕ) → is_used q.marks n ≡ true → At n first now (λ a b. HasAnswered o.checks o.host_faults a.host b.host))
      → (IsTrue q.seals → IsTrue q.files → (n : ℕ) → is_used q.marks n ≡ true → At n first now (λ a b. GoesOnGiving o.faults o.given o.sound (slices_reads q.basis n q.plan.slices) a.store b.store))
      → (TellsAll o q first → (n : ℕ) → is_used q.marks n ≡ true → At n first now (λ a b. RoseBy (plan_pieces q.plan (parts q) q.basis.owner n) (o.state a.link).given (o.state b.link).given))
      → HasEnded o q first now (end.Rows rows)
  ended-rows rows mean answered gave received = record {
    many = many;
    each = each;
    means = mean;
    answered = answered;
    gave = gave;
    received = received;
    store_cause = tt;
    host_cause = tt;
    host_sure = tt;
    lost_cause = tt;
    lost_sure = tt;
    failed_cause = tt;
    failed_sure = tt;
    bad = tt;
    never_bad = λ seals files. tt;
  }

-- a slice ended by a fault from outside, or by an evaluation
module _ {S H L : Type 0} (o : Outside S H L) (q : Asked) (is : IsAsked q) (first : List (Bench S H L)) (count : ℕ) (s : Slice) (there : slice_get q.plan.slices count ≡ Some s) (sends : List Bool)
    (runs : flagged sends ≡ cond (list_any (gathers (take count q.plan.slices)) (receives s.root)) (lowest q.basis.owner ∷ []) (nodes_of q.basis.owner))
    (old : List (Task S H L)) (stands : Stands o q first count old) (nodes : length old ≡ length q.marks) (how : ℕ → FlowEnd) (new : List (Task S H L))
    (served : (n : ℕ) (t : Task S H L) → n < length old
    → HasServed o (IsTrue q.seals × IsTrue q.files) q.basis s.root n (has_flag sends n) (slice_index_or old n t).incoming.items (slice_index_or old n t).bench (slice_index_or new n t).bench (how n))
    (same : length new ≡ length old) (rested : (n : ℕ) → n < length old → has_flag sends n ≡ false → how n ≡ flow.Done) where
  abbrev gathered : Bool
  gathered = list_any (gathers (take count q.plan.slices)) (receives s.root)

  new-many : length (benches_of new) ≡ length first
  new-many = many-benches new ∙ same ∙ stands.many

  old-within : (n : ℕ) → n < length first → n < length old
  old-within n within = let m = stands.many in omega (arith, within, m)

  new-within : (n : ℕ) → n < length first → n < length new
  new-within n within = let m = stands.many in omega (arith, within, m, same)

  below : (n : ℕ) → n < length first → n < 16
  below n within = let m = stands.many in let few = is.few in omega (arith, within, m, nodes, few)

  pub goes-on : (n : ℕ) → n < length first → At n first (benches_of new) (NodeGoesOn o q n)
  goes-on n within = at-benches (NodeGoesOn o q n) first new n (new-within n within) (λ b t.
      ran-goes-on o q is (TellsAll o q first) count n s sends gathered runs (begins-so o q is first count s there sends runs old stands nodes) (below n within) (slice_index_or first n b) (slice_index_or old n t) (slice_index_or new n t).bench (how n)
      (stands.each n b t within) (served n t (old-within n within)))

  pub answers-at : (n : ℕ) → no_answer (how n) ≡ false → is_used q.marks n ≡ true → At n first (benches_of new) (λ a b. HasAnswered o.checks o.host_faults a.host b.host)
  answers-at n answers used =
      let within : n < length first = (let w = used-within q is n used in let m = stands.many in omega (arith, w, m, nodes)) in
      at-benches (λ a b. HasAnswered o.checks o.host_faults a.host b.host) first new n (new-within n within) (λ b t.
      ran-answered o q is (TellsAll o q first) count n s sends gathered runs (begins-so o q is first count s there sends runs old stands nodes) (below n within) (slice_index_or first n b) (slice_index_or old n t) (slice_index_or new n t).bench (how n)
      (stands.each n b t within) (served n t (old-within n within)) answers used)

  -- a node that did not end well ran the slice
  ran-there : (n : ℕ) → n < length first → (how n ≡ flow.Done → ⊥) → has_flag sends n ≡ true
  ran-there n within not_done = by (has_flag sends n) refl
    where
      by : (b : Bool) → has_flag sends n ≡ b → has_flag sends n ≡ true
      by true e = e
      by false e = absurd (not_done (rested n (old-within n within) e))

  flowed-there : (n : ℕ) (t : Task S H L) → n < length first → has_flag sends n ≡ true
      → HasFlowed o (IsTrue q.seals × IsTrue q.files) (node_held q.basis n (slice_index_or old n t).incoming.items) s.root (slice_index_or old n t).bench.store (slice_index_or new n t).bench.store (slice_index_or old n t).bench.host (slice_index_or new n t).bench.host (how n)
  flowed-there n t within on = (served n t (old-within n within)).flowed on

  -- the hosts of the nodes below answered
  calm : (e : FlowEnd) → IsNoFault e → no_answer e ≡ false
  calm flow.Done fine = refl
  calm flow.Numeric fine = refl
  calm flow.Store fine = absurd fine
  calm flow.Host fine = absurd fine
  calm (flow.BadBlock file at bytes) fine = absurd fine
  calm flow.NoMemory fine = refl

  module _ (node : ℕ) (within : node < length first) (lowest_one : (k : ℕ) → k < node → IsNoFault (how k)) where
    lower : (k : ℕ) → k < node → is_used q.marks k ≡ true → At k first (benches_of new) (λ a b. HasAnswered o.checks o.host_faults a.host b.host)
    lower k less used = answers-at k (calm (how k) (lowest_one k less)) used

    lower-or-own : no_answer (how node) ≡ false → (k : ℕ) → k < node + 1 → is_used q.marks k ≡ true → At k first (benches_of new) (λ a b. HasAnswered o.checks o.host_faults a.host b.host)
    lower-or-own own k less used = by (cases_lt k node)
      where
        by : (k < node) ⊎ (node ≤ k) → At k first (benches_of new) (λ a b. HasAnswered o.checks o.host_faults a.host b.host)
        by (inl l) = lower k l used
        by (inr g) = let e : k ≡ node = omega (arith, g, less) in answers-at k (ap (λ (m : ℕ). no_answer (how m)) e ∙ own) used

    module _ (not_done : how node ≡ flow.Done → ⊥) where
      on : has_flag sends node ≡ true
      on = ran-there node within not_done

      used : is_used q.marks node ≡ true
      used = run-used q is sends gathered runs node (below node within) on

      pub ended-by : (e : FlowEnd) → how node ≡ e → (f : QueryEnd) → IsEndOf node e f → HasEnded o q first (benches_of new) f
      ended-by flow.Store is_store end.Store h =
          ended-store o q first (benches_of new) new-many goes-on node
          (record {
            within = within;
            is_used = used;
            caused = at-benches (λ a b. Rose (o.faults a.store) (o.faults b.store)) first new node (new-within node within) (λ b t.
                rose-since (o.faults (slice_index_or first node b).store) (o.faults (slice_index_or old node t).bench.store) (o.faults (slice_index_or new node t).bench.store) (stands.each node b t within).goes_on.store.later
                (subst (λ (e : FlowEnd). OnStore e (Rose (o.faults (slice_index_or old node t).bench.store) (o.faults (slice_index_or new node t).bench.store))) is_store (flowed-there node t within on).cause));
            lowest = lower-or-own (ap no_answer is_store);
          })
      ended-by flow.Host is_host (end.Host n) h =
          subst (λ (m : ℕ). HasEnded o q first (benches_of new) (end.Host m)) (sym h)
          (ended-host o q first (benches_of new) new-many goes-on node
          (record {
            within = within;
            is_used = used;
            caused = at-benches (λ a b. Rose (o.host_faults a.host) (o.host_faults b.host)) first new node (new-within node within) (λ b t.
                rose-since (o.host_faults (slice_index_or first node b).host) (o.host_faults (slice_index_or old node t).bench.host) (o.host_faults (slice_index_or new node t).bench.host) (stands.each node b t within).goes_on.host.later
                (subst (λ (e : FlowEnd). OnHost e (Rose (o.host_faults (slice_index_or old node t).bench.host) (o.host_faults (slice_index_or new node t).bench.host))) is_host (flowed-there node t within on).host_cause));
            lowest = lower;
          })
          (at-benches (λ a b. o.host_sound a.host → ⊥) first new node (new-within node within) (λ b t sound.
          subst (λ (e : FlowEnd). OnHost e (o.host_sound (slice_index_or old node t).bench.host → ⊥)) is_host (flowed-there node t within on).host_sure ((stands.each node b t within).goes_on.host.stays_sound sound))))
      ended-by (flow.BadBlock file at bytes) is_bad (end.BadBlock n f a b) h =
          let t : Task S H L = item-of old (let w = old-within node within in omega (arith, w)) in
          let found : IsBadIn s.root (buckets_at q.basis.owner node) file at bytes.items = subst (λ (e : FlowEnd). IfBad e (IsBadIn s.root (buckets_at q.basis.owner node))) is_bad (flowed-there node t within on).bad in
          let mine : IsBadOf q.plan q.basis.owner node f a b.items =
          record {
            slice = count;
            root = s.root;
            is_root = ap (option_map (λ (x : Slice). x.root)) there;
            bad = subst (λ (l : List ℕ). IsBadIn s.root (buckets_at q.basis.owner node) f a l) (sym h.3)
                (subst (λ (m : ℕ). IsBadIn s.root (buckets_at q.basis.owner node) f m bytes.items) (sym h.2) (subst (λ (g : FileId). IsBadIn s.root (buckets_at q.basis.owner node) g at bytes.items) (sym h.1) found));
          } in
          subst (λ (m : ℕ). HasEnded o q first (benches_of new) (end.BadBlock m f a b)) (sym h.0)
          (ended-bad o q first (benches_of new) new-many goes-on node f a b
          (record { within = within; is_used = used; caused = λ d. mine; lowest = lower-or-own (ap no_answer is_bad) })
          (λ seals files. subst (λ (e : FlowEnd). IfBad e (λ _ _ _. ⊥)) is_bad ((flowed-there node t within on).never_bad (seals, files))))
      ended-by _ is_other _ h = absurd h

  -- an evaluation faulted
  pub numeric-so : (node : ℕ) → node < length first → how node ≡ flow.Numeric → TellsAll o q first → answer.Numeric ≡ plan_mean q.plan (parts q) q.basis.owner
  numeric-so node within is_numeric k =
      let t : Task S H L = item-of old (let w = old-within node within in omega (arith, w)) in
      let on : has_flag sends node ≡ true = ran-there node within (λ e. (let bad : flow.Numeric ≡ flow.Done = sym is_numeric ∙ e in cc)) in
      let used : is_used q.marks node ≡ true = run-used q is sends gathered runs node (below node within) on in
      let fault : slice_fault (node_held q.basis node (slice_index_or old node t).incoming.items) s.root ≡ true =
      subst (λ (e : FlowEnd). IsNumericAt e (slice_fault (node_held q.basis node (slice_index_or old node t).incoming.items) s.root)) is_numeric ((flowed-there node t within on).numeric (k.seals, k.files)) in
      let meant : (run_slice (parts q) q.basis.owner (sents_of q count) s).fault ≡ true =
      one-faulted (parts q) q.basis.owner (sents_of q count) s [] [] sends (runs-on o q is first count s there sends runs old stands nodes) node (below node within) on
      (sym (ap (op_faults s.root) (here-at o q is first count s there sends runs old stands nodes k node t used)) ∙ fault) in
      sym (after (sents-fault meant))
    where
      sents-fault : (run_slice (parts q) q.basis.owner (sents_of q count) s).fault ≡ true → some_fault (sents_of q (count + 1)) ≡ true
      sents-fault e =
          ap some_fault (sents-next o q is first count s there sends runs old stands nodes) ∙ fault-behind (sents_of q count) (run_slice (parts q) q.basis.owner (sents_of q count) s ∷ [])
          ∙ (λ i. some_fault (sents_of q count) || (e i || false)) ∙ or-true (some_fault (sents_of q count))
        where
          or-true : (b : Bool) → (b || true) ≡ true
          or-true true = refl
          or-true false = refl

      after : some_fault (sents_of q (count + 1)) ≡ true → plan_mean q.plan (parts q) q.basis.owner ≡ answer.Numeric
      after e =
          ap (λ (l : List Slice). answer_after (run_slices (parts q) q.basis.owner [] l)) (sym (take-append-drop (count + 1) q.plan.slices))
          ∙ ap answer_after (run-append (parts q) q.basis.owner [] (take (count + 1) q.plan.slices) (drop (count + 1) q.plan.slices))
          ∙ numeric-after (parts q) q.basis.owner (sents_of q (count + 1)) (drop (count + 1) q.plan.slices) e
