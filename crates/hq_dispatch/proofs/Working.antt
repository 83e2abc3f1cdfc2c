-- What one slice and its motion leave of a node.
use Rattle.std.proofs.Common.{◌≡◌, ◌∙◌, ℕ, zero, suc, ◌+◌, ◌-◌, ◌^◌, ◌<◌, ◌≤◌, ◌==◌, min, Bool, true, false, cond, List, [], ◌∷◌, ◌++◌, length, take, Option, Some, Ok, Result, OnOk, IsTrue, refl, sym, ap, subst, add-zero, zero-add, arith}
use Rattle.std.specs.Global.{Vec}
use Rattle.std.specs.Prelude.{slice_get}
use Rattle.std.specs.List.{AllByRecursion}
use Rattle.std.proofs.lemmas.Bool.{eqb-true, eqb-false}
use Rattle.hq_value.specs.declared.kind.Kind.{Kind}
use Rattle.hq_value.specs.declared.value.Value.{Value}
use Rattle.hq_value.specs.Causes.{RoseBy, IsSteady, GoesOnGiving}
use Rattle.hq_value.proofs.Counting.{steady_more, giving_more, rose_more}
use Rattle.hq_block.specs.Row.{IsStorable}
use Rattle.hq_algebra.specs.declared.plan.Motion.{Motion}
use Rattle.hq_algebra.specs.declared.plan.Slice.{Slice}
use Rattle.hq_algebra.specs.Kinds.{◌>>=◌}
use Rattle.hq_algebra.specs.Operators.{op_kinds}
use Rattle.hq_algebra.specs.Plans.{sent_kinds}
use Rattle.hq_detect.specs.declared.bench.Bench.{Bench}
use Rattle.hq_fits.specs.Supplied.{AreFit}
use Rattle.hq_laws.proofs.Runs.{sent-at}
use Rattle.hq_link.specs.Link.{AreTold}
use Rattle.hq_meaning.specs.Nodes.{nodes_of, lowest, moved}
use Rattle.hq_meaning.specs.Plans.{Sent, nothing_sent, sent_by}
use Rattle.hq_meaning.specs.Rows.{Row}
use Rattle.hq_motion.specs.Split.{receivers}
use Rattle.hq_pump.specs.declared.end.ExchangeEnd.{ExchangeEnd}
use Rattle.hq_pump.specs.Pumping.{pieces_of}
use Rattle.hq_pump.specs.Safe.{AreEarlier}
use Rattle.hq_exec.specs.declared.end.FlowEnd.{FlowEnd}
use Rattle.hq_exec.specs.declared.end.FlowEnd.TheVariants as flow
use Rattle.hq_exec.specs.Ends.{OnRead, OnHost, OffHost}
use Rattle.hq_exec.specs.Files.{HeldState, rows_sent}
use Rattle.hq_exec.specs.Slices.{slice_reads}
use Rattle.hq_algebra.specs.declared.op.Op.{Op}
use Rattle.hq_dispatch.specs.Basis.{Asked, node_held, slices_reads}
use Rattle.hq_dispatch.specs.Ends.{HasAnswered}
use Rattle.hq_dispatch.specs.Outside.{Outside}
use Rattle.hq_dispatch.specs.Owners.{is_used, has_flag, flagged}
use Rattle.hq_dispatch.specs.Parcels.{list_of, parcel_at}
use Rattle.hq_dispatch.specs.Received.{GoesOnFor, AreGiven, joined, HasReceived, HasGot, streams_for}
use Rattle.hq_dispatch.specs.Running.{HasFlowed, HasServed}
use Rattle.hq_dispatch.specs.Settled.{HasSameHead}
use Rattle.hq_dispatch.specs.Standing.{FitSlices, IsAsked, NodeGoesOn, NodeStands}
use Rattle.hq_dispatch.specs.declared.parcels.Parcels.{Parcels}
use Rattle.hq_dispatch.specs.declared.task.Task.{Task}
use Rattle.hq_dispatch.proofs.Holding.{HasReceivedAll, reads-as}
use Rattle.hq_dispatch.proofs.Linking.{goes-on-more, earlier-still, earlier-more, where-told}
use Rattle.hq_dispatch.proofs.Nodes.{run-used, take-used, all-run, not-run}
use Rattle.hq_dispatch.proofs.Sending.{gets-none}

-- that the host did not answer
abbrev pub no_answer : FlowEnd → Bool
no_answer flow.Done = false
no_answer flow.Numeric = false
no_answer flow.Store = false
no_answer flow.Host = true
no_answer (flow.BadBlock file at bytes) = false
no_answer flow.NoMemory = false

off-host : (e : FlowEnd) (P : Type 0) → no_answer e ≡ false → OffHost e P → P
off-host flow.Done P off h = h
off-host flow.Numeric P off h = h
off-host flow.Store P off h = h
off-host flow.Host P off h = cc
off-host (flow.BadBlock file at bytes) P off h = h
off-host flow.NoMemory P off h = h

-- one check after another
pub answered-more : {H : Type 0} (checks faults : H → ℕ) (a b c : H) → HasAnswered checks faults a b → HasAnswered checks faults b c → HasAnswered checks faults a c
answered-more checks faults a b c first next = record {
  checked = both (2 ^ 64 - 1) (checks a) (checks b) (checks c) first.checked next.checked;
  held = next.held ∙ first.held;
}
  where
    both : (end x y z : ℕ) → min (x + 1) end ≤ y → min (y + 1) end ≤ z → min (x + 1) end ≤ z
    both end x y z h k = omega arith

-- the host of a slice that ran goes on
pub host-steady : {S H L : Type 0} (o : Outside S H L) (told : Type 0) (h : HeldState) (root : Op) (a b : S) (x y : H) (e : FlowEnd) → HasFlowed o told h root a b x y e → IsSteady o.host_faults o.host_sound x y
host-steady {S} {H} {L} o told h root a b x y e f = record { later = f.host_later; steady = by e f.host_sure f.host_held; stays_sound = f.host_sound }
  where
    by : (e : FlowEnd) → OnHost e (o.host_sound x → ⊥) → OffHost e (o.host_faults y ≡ o.host_faults x) → o.host_sound x → o.host_faults y ≡ o.host_faults x
    by flow.Done sure held s = held
    by flow.Numeric sure held s = held
    by flow.Store sure held s = held
    by flow.Host sure held s = absurd (sure s)
    by (flow.BadBlock file at bytes) sure held s = held
    by flow.NoMemory sure held s = held

-- a node's run of the slice after the first ones
module _ {S H L : Type 0} (o : Outside S H L) (q : Asked) (is : IsAsked q) (known : Type 0) (count n : ℕ) (s : Slice) (sends : List Bool) (g : Bool) (runs : flagged sends ≡ cond g (lowest q.basis.owner ∷ []) (nodes_of q.basis.owner)) (begins : count ≡ 0 → g ≡ false)
    (below : n < 16) (first : Bench S H L) (old : Task S H L) (new : Bench S H L) (end : FlowEnd) (before : NodeStands o q known count n first old)
    (served : HasServed o (IsTrue q.seals × IsTrue q.files) q.basis s.root n (has_flag sends n) old.incoming.items old.bench new end) where
  pub ran-goes-on : NodeGoesOn o q n first new
  ran-goes-on = by (has_flag sends n) refl
    where
      by : (b : Bool) → has_flag sends n ≡ b → NodeGoesOn o q n first new
      by true e =
          let w = served.flowed e in
          record {
            store = steady_more o.faults o.sound first.store old.bench.store new.store before.goes_on.store w.store;
            host = steady_more o.host_faults o.host_sound first.host old.bench.host new.host before.goes_on.host
                (host-steady o (IsTrue q.seals × IsTrue q.files) (node_held q.basis n old.incoming.items) s.root old.bench.store new.store old.bench.host new.host end w);
            link = subst (λ (l : L). GoesOnFor q.query (o.state first.link) (o.state l)) (sym served.link) before.goes_on.link;
            unused = λ off. (let bad : true ≡ false = sym (run-used q is sends g runs n below e) ∙ off in cc);
          }
      by false e = subst (NodeGoesOn o q n first) (sym (served.rested e)) before.goes_on

  -- where it rested some slice ran before
  rested-later : is_used q.marks n ≡ true → has_flag sends n ≡ false → 0 < count
  rested-later used off = by count refl
    where
      by : (c : ℕ) → count ≡ c → 0 < count
      by zero e = absurd (let bad : true ≡ false = sym (all-run q is sends g runs n (begins e) used) ∙ off in cc)
      by (suc c) e = omega (arith, e)

  pub ran-answered : no_answer end ≡ false → is_used q.marks n ≡ true → HasAnswered o.checks o.host_faults first.host new.host
  ran-answered answers used = by (has_flag sends n) refl
    where
      by : (b : Bool) → has_flag sends n ≡ b → HasAnswered o.checks o.host_faults first.host new.host
      by true e = from count refl
        where
          now : HasAnswered o.checks o.host_faults old.bench.host new.host
          now = record { checked = (served.flowed e).checked; held = off-host end (o.host_faults new.host ≡ o.host_faults old.bench.host) answers (served.flowed e).host_held }

          from : (c : ℕ) → count ≡ c → HasAnswered o.checks o.host_faults first.host new.host
          from zero is_zero = subst (λ (b : Bench S H L). HasAnswered o.checks o.host_faults b.host new.host) (before.begun is_zero) now
          from (suc c) is_more = answered-more o.checks o.host_faults first.host old.bench.host new.host (before.answered (omega (arith, is_more)) used) now
      by false e = subst (λ (b : Bench S H L). HasAnswered o.checks o.host_faults first.host b.host) (sym (served.rested e)) (before.answered (rested-later used e) used)

  -- and what its store gave in all
  pub ran-gave : end ≡ flow.Done → (g ≡ true → slice_reads (node_held q.basis n []) s.root ≡ 0) → IsTrue q.seals → IsTrue q.files → is_used q.marks n ≡ true → (all : List Slice) → slices_reads q.basis n all ≡ slices_reads q.basis n (take count q.plan.slices) + slice_reads (node_held q.basis n []) s.root
      → GoesOnGiving o.faults o.given o.sound (slices_reads q.basis n all) first.store new.store
  ran-gave done nothing seals files used all sum = subst (λ (m : ℕ). GoesOnGiving o.faults o.given o.sound m first.store new.store) (sym sum) (by (has_flag sends n) refl)
    where
      by : (b : Bool) → has_flag sends n ≡ b → GoesOnGiving o.faults o.given o.sound (slices_reads q.basis n (take count q.plan.slices) + slice_reads (node_held q.basis n []) s.root) first.store new.store
      by true e = from count refl
        where
          now : GoesOnGiving o.faults o.given o.sound (slice_reads (node_held q.basis n []) s.root) old.bench.store new.store
          now =
              subst (λ (m : ℕ). GoesOnGiving o.faults o.given o.sound m old.bench.store new.store) (reads-as q.basis n old.incoming.items s.root)
              (subst (λ (f : FlowEnd). OnRead f (GoesOnGiving o.faults o.given o.sound (slice_reads (node_held q.basis n old.incoming.items) s.root) old.bench.store new.store)) done ((served.flowed e).gave (seals, files)))

          from : (c : ℕ) → count ≡ c → GoesOnGiving o.faults o.given o.sound (slices_reads q.basis n (take count q.plan.slices) + slice_reads (node_held q.basis n []) s.root) first.store new.store
          from zero is_zero =
              let none : slices_reads q.basis n (take count q.plan.slices) + slice_reads (node_held q.basis n []) s.root ≡ slice_reads (node_held q.basis n []) s.root =
              ap (λ (c : ℕ). slices_reads q.basis n (take c q.plan.slices) + slice_reads (node_held q.basis n []) s.root) is_zero ∙ zero-add (slice_reads (node_held q.basis n []) s.root) in
              subst (λ (m : ℕ). GoesOnGiving o.faults o.given o.sound m first.store new.store) (sym none) (subst (λ (b : Bench S H L). GoesOnGiving o.faults o.given o.sound (slice_reads (node_held q.basis n []) s.root) b.store new.store) (before.begun is_zero) now)
          from (suc c) is_more =
              giving_more o.faults o.given o.sound (slices_reads q.basis n (take count q.plan.slices)) (slice_reads (node_held q.basis n []) s.root) first.store old.bench.store new.store (before.gave (omega (arith, is_more)) seals files used) now
      by false e =
          let none : slices_reads q.basis n (take count q.plan.slices) ≡ slices_reads q.basis n (take count q.plan.slices) + slice_reads (node_held q.basis n []) s.root =
          sym (add-zero (slices_reads q.basis n (take count q.plan.slices))) ∙ ap (λ (m : ℕ). slices_reads q.basis n (take count q.plan.slices) + m) (sym (nothing (not-run q is sends g runs n used e))) in
          subst (λ (m : ℕ). GoesOnGiving o.faults o.given o.sound m first.store new.store) none
          (subst (λ (b : Bench S H L). GoesOnGiving o.faults o.given o.sound (slices_reads q.basis n (take count q.plan.slices)) first.store b.store) (sym (served.rested e)) (before.gave (rested-later used e) seals files used))

-- rows that can be written fit
fits-of : (kinds : List Kind) (rows : List Row) → AllByRecursion (IsStorable kinds) rows → AreFit kinds rows
fits-of kinds [] h = tt
fits-of kinds (row ∷ rows) h = (h.0.fits, fits-of kinds rows h.1)

-- what another slice sent
none-at : (i : ℕ) → sent_by [] i ≡ nothing_sent
none-at zero = refl
none-at (suc i) = refl

pub sent-other : (sents : List Sent) (x : Sent) (i : ℕ) → (i ≡ length sents → ⊥) → sent_by (sents ++ x ∷ []) i ≡ sent_by sents i
sent-other [] x zero differ = absurd (differ refl)
sent-other [] x (suc i) differ = none-at i
sent-other (r ∷ sents) x zero differ = refl
sent-other (r ∷ sents) x (suc i) differ = sent-other sents x i (λ e. differ (ap suc e))

pub sent-past : (sents : List Sent) → sent_by sents (length sents) ≡ nothing_sent
sent-past [] = refl
sent-past (r ∷ sents) = sent-past sents

-- these rows are what was sent to node n, with one slice more
abbrev pub Brings : List ℕ → List Sent → Sent → ℕ → ℕ → List Row → Type 0
Brings owner sents x n i rows = rows ≡ moved (sent_by (sents ++ x ∷ []) i).out owner (sent_by (sents ++ x ∷ []) i).rows n

-- and its part in the motion behind it
module _ {S H L : Type 0} (o : Outside S H L) (q : Asked) (is : IsAsked q) (count n : ℕ) (s : Slice) (kinds : List Kind) (parcels : List Parcels) (sends takes : List Bool) (to : flagged takes ≡ receivers s.out q.basis.owner) (below : n < 16)
    (first : Bench S H L) (mid old new : Task S H L) (head : HasSameHead mid old) (got : HasGot o q.query count kinds s.out parcels sends n (has_flag takes n) old new) where
  pub got-goes-on : NodeGoesOn o q n first mid.bench → NodeGoesOn o q n first new.bench
  got-goes-on goes = by (has_flag takes n) refl
    where
      before : NodeGoesOn o q n first old.bench
      before = subst (NodeGoesOn o q n first) (sym head.bench) goes

      by : (b : Bool) → has_flag takes n ≡ b → NodeGoesOn o q n first new.bench
      by true e = record {
        store = subst (IsSteady o.faults o.sound first.store) (sym got.store) before.store;
        host = subst (IsSteady o.host_faults o.host_sound first.host) (sym got.host) before.host;
        link = goes-on-more q.query count (o.state first.link) (o.state old.bench.link) (o.state new.bench.link) new.got before.link (got.exchanged e);
        unused = λ off. (let bad : true ≡ false = sym (take-used q is takes s.out to n below e) ∙ off in cc);
      }
      by false e = subst (NodeGoesOn o q n first) (sym (got.waited e).bench) before

  pub got-answered : HasAnswered o.checks o.host_faults first.host mid.bench.host → HasAnswered o.checks o.host_faults first.host new.bench.host
  got-answered has = subst (HasAnswered o.checks o.host_faults first.host) (sym (got.host ∙ ap (λ (b : Bench S H L). b.host) head.bench)) has

  pub got-gave : (m : ℕ) → GoesOnGiving o.faults o.given o.sound m first.store mid.bench.store → GoesOnGiving o.faults o.given o.sound m first.store new.bench.store
  got-gave m has = subst (GoesOnGiving o.faults o.given o.sound m first.store) (sym (got.store ∙ ap (λ (b : Bench S H L). b.store) head.bench)) has

  pub got-earlier : AreEarlier q.query count (o.state mid.bench.link).may → AreEarlier q.query (count + 1) (o.state new.bench.link).may
  got-earlier h = by (has_flag takes n) refl
    where
      before : AreEarlier q.query count (o.state old.bench.link).may
      before = subst (λ (b : Bench S H L). AreEarlier q.query count (o.state b.link).may) (sym head.bench) h

      by : (b : Bool) → has_flag takes n ≡ b → AreEarlier q.query (count + 1) (o.state new.bench.link).may
      by true e = earlier-more q.query count (o.state old.bench.link) (o.state new.bench.link) new.got (got.exchanged e) before
      by false e = subst (λ (b : Bench S H L). AreEarlier q.query (count + 1) (o.state b.link).may) (sym (got.waited e).bench) (earlier-still q.query count (o.state old.bench.link) before)

  -- what it has of the slice, where the motion brings it some
  module _ (well : new.got ≡ Ok tt) where
    brought : has_flag takes n ≡ true → HasReceived o count kinds s.out parcels sends n old new
    brought e = subst (λ (r : Result Unit ExchangeEnd). OnOk r (HasReceived o count kinds s.out parcels sends n old new)) well (got.received e)

    -- it fits the slice's kinds
    pub got-fits : (slices : List Slice) → slice_get slices count ≡ Some s → op_kinds s.root ≡ Some kinds → FitSlices slices mid.incoming.items → FitSlices slices new.incoming.items
    got-fits slices there typed fit = by (has_flag takes n) refl
      where
        before : FitSlices slices old.incoming.items
        before = subst (λ (v : Vec (ℕ × Vec (List Value))). FitSlices slices v.items) (sym head.incoming) fit

        own : sent_kinds slices count ≡ Some kinds
        own = ap (λ (x : Option Slice). x >>= (λ (y : Slice). op_kinds y.root)) there ∙ typed

        by : (b : Bool) → has_flag takes n ≡ b → FitSlices slices new.incoming.items
        by true e = λ i found h. subst (λ (l : List (ℕ × Vec (List Value))). AreFit found (rows_sent l i)) (sym (brought e).received) (at i found h (count == i) refl)
          where
            at : (i : ℕ) (found : List Kind) → sent_kinds slices i ≡ Some found → (b : Bool) → (count == i) ≡ b → AreFit found (cond b (brought e).rows.items (rows_sent old.incoming.items i))
            at i found h true same =
                let kinds_are : kinds ≡ found = (let k : Some kinds ≡ Some found = sym own ∙ ap (sent_kinds slices) (eqb-true count i same) ∙ h in cc) in
                subst (λ (k : List Kind). AreFit k (brought e).rows.items) kinds_are (fits-of kinds (brought e).rows.items (brought e).taken.storable)
            at i found h false other = before i found h
        by false e = subst (λ (v : Vec (ℕ × Vec (List Value))). FitSlices slices v.items) (sym (got.waited e).incoming) before

    -- it is what the meaning of the slice sends to it
    pub got-received : (sents : List Sent) (x : Sent) → length sents ≡ count → x.out ≡ s.out → AreTold (o.state new.bench.link).may → is_used q.marks n ≡ true
        → (has_flag takes n ≡ true → (rows : List Row) → ((given : ℕ → List Row) → AreGiven kinds sends given (λ m. parcel_at parcels m (list_of s.out n)) → rows ≡ joined sends given) → rows ≡ moved x.out q.basis.owner x.rows n)
        → HasReceivedAll q.basis.owner sents n mid.incoming.items → HasReceivedAll q.basis.owner (sents ++ x ∷ []) n new.incoming.items
    got-received sents x many out told used are has = by (has_flag takes n) refl
      where
        before : HasReceivedAll q.basis.owner sents n old.incoming.items
        before = subst (λ (v : Vec (ℕ × Vec (List Value))). HasReceivedAll q.basis.owner sents n v.items) (sym head.incoming) has

        others : (i : ℕ) → (count == i) ≡ false → Brings q.basis.owner sents x n i (rows_sent old.incoming.items i)
        others i other =
            before i
            ∙ ap (λ (y : Sent). moved y.out q.basis.owner y.rows n) (sym (sent-other sents x i (λ e. eqb-false count i other (sym many ∙ sym e))))

        here : (i : ℕ) → (count == i) ≡ true → (rows : List Row) → rows ≡ moved x.out q.basis.owner x.rows n → Brings q.basis.owner sents x n i rows
        here i same rows e = e ∙ ap (λ (y : Sent). moved y.out q.basis.owner y.rows n) (sym (ap (sent_by (sents ++ x ∷ [])) (sym (eqb-true count i same) ∙ sym many) ∙ sent-at sents [] x))

        by : (b : Bool) → has_flag takes n ≡ b → HasReceivedAll q.basis.owner (sents ++ x ∷ []) n new.incoming.items
        by true e = λ i. subst (λ (l : List (ℕ × Vec (List Value))). Brings q.basis.owner sents x n i (rows_sent l i)) (sym (brought e).received) (at i (count == i) refl)
          where
            at : (i : ℕ) (b : Bool) → (count == i) ≡ b → Brings q.basis.owner sents x n i (cond b (brought e).rows.items (rows_sent old.incoming.items i))
            at i true same = here i same (brought e).rows.items (are e (brought e).rows.items (where-told (o.state new.bench.link).may _ told (brought e).taken.known))
            at i false other = others i other
        by false e = λ i. subst (λ (v : Vec (ℕ × Vec (List Value))). Brings q.basis.owner sents x n i (rows_sent v.items i)) (sym (got.waited e).incoming) (at i (count == i) refl)
          where
            at : (i : ℕ) (b : Bool) → (count == i) ≡ b → Brings q.basis.owner sents x n i (rows_sent old.incoming.items i)
            at i true same =
                here i same (rows_sent old.incoming.items i)
                (before i ∙ ap (λ (y : Sent). moved y.out q.basis.owner y.rows n) (ap (sent_by sents) (sym (eqb-true count i same) ∙ sym many) ∙ sent-past sents)
                ∙ sym (ap (λ (out : Motion). moved out q.basis.owner x.rows n) out ∙ gets-none s.out q.basis.owner q.marks takes n x.rows to is.in_use below used e))
            at i false other = others i other

    -- and its link gave as many pieces more
    pub got-pieces : (m : ℕ) (streams : List (ℕ × List ℕ)) → AreTold (o.state new.bench.link).may → (has_flag takes n ≡ true → streams_for s.out parcels sends n ≡ streams) → (has_flag takes n ≡ false → pieces_of streams ≡ 0)
        → RoseBy m (o.state first.link).given (o.state mid.bench.link).given → RoseBy (m + pieces_of streams) (o.state first.link).given (o.state new.bench.link).given
    got-pieces m streams told are none has = by (has_flag takes n) refl
      where
        before : RoseBy m (o.state first.link).given (o.state old.bench.link).given
        before = subst (λ (b : Bench S H L). RoseBy m (o.state first.link).given (o.state b.link).given) (sym head.bench) has

        by : (b : Bool) → has_flag takes n ≡ b → RoseBy (m + pieces_of streams) (o.state first.link).given (o.state new.bench.link).given
        by true e =
            rose_more (o.state first.link).given m (pieces_of streams) (o.state old.bench.link).given (o.state new.bench.link).given before
            (subst (λ (l : List (ℕ × List ℕ)). RoseBy (pieces_of l) (o.state old.bench.link).given (o.state new.bench.link).given) (are e) (where-told (o.state new.bench.link).may _ told (brought e).taken.given))
        by false e =
            subst (λ (k : ℕ). RoseBy k (o.state first.link).given (o.state new.bench.link).given) (sym (ap (λ (k : ℕ). m + k) (none e) ∙ add-zero m))
            (subst (λ (b : Bench S H L). RoseBy m (o.state first.link).given (o.state b.link).given) (sym (got.waited e).bench) before)
