-- How a query ends by its last slice.
use Rattle.std.proofs.Common.{◌≡◌, ◌∙◌, ℕ, zero, suc, ◌+◌, ◌<◌, ◌==◌, Bool, true, false, cond, List, [], ◌∷◌, ◌++◌, length, map, take, flat_map, replicate, slice_set, slice_index_or, Some, IsTrue, refl, sym, ap, subst, append-nil, add-zero, zero-add, arith}
use Rattle.std.specs.Global.{Vec}
use Rattle.std.specs.Prelude.{slice_get}
use Rattle.std.specs.List.{list_any}
use Rattle.std.proofs.lemmas.Bool.{eqb-true, eqb-false}
use Rattle.std.proofs.lemmas.Bool.Decides.{nat_tests}
use Rattle.std.proofs.lemmas.List.{get_or-set_same, get_or-set_other, length-set}
use Rattle.std.proofs.lemmas.List.Sums.{sum_by-append}
use Rattle.hq_value.specs.Causes.{RoseBy, GoesOnGiving}
use Rattle.hq_value.specs.declared.value.Value.{Value}
use Rattle.hq_algebra.specs.declared.plan.Motion.{Motion}
use Rattle.hq_algebra.specs.declared.plan.Motion.TheVariants as motion
use Rattle.hq_algebra.specs.declared.plan.Slice.{Slice}
use Rattle.hq_algebra.specs.Plans.{gathers}
use Rattle.hq_detect.specs.declared.bench.Bench.{Bench}
use Rattle.hq_exec.specs.declared.end.FlowEnd.{FlowEnd}
use Rattle.hq_exec.specs.declared.end.FlowEnd.TheVariants as flow
use Rattle.hq_exec.specs.Ends.{IsNumericAt}
use Rattle.hq_exec.specs.Slices.{slice_rows, slice_fault, slice_reads}
use Rattle.hq_laws.proofs.Runs.{run-append}
use Rattle.hq_meaning.specs.Mean as answer
use Rattle.hq_meaning.specs.Nodes.{nodes_of, lowest}
use Rattle.hq_meaning.specs.Plans.{Sent, here_at, runs_on, run_slice, run_slices, plan_mean, answer_after}
use Rattle.hq_meaning.specs.Slices.{rows_of, op_faults, receives}
use Rattle.hq_pump.specs.Pumping.{pieces_of}
use Rattle.hq_dispatch.specs.Basis.{Asked, node_held, slices_reads}
use Rattle.hq_dispatch.specs.Each.{At}
use Rattle.hq_dispatch.specs.Ended.{benches_of, HasEnded}
use Rattle.hq_dispatch.specs.Ends.{IfRows}
use Rattle.hq_dispatch.specs.Finished.{IsEndAt, HasFinished}
use Rattle.hq_dispatch.specs.Outside.{Outside}
use Rattle.hq_dispatch.specs.Owners.{is_used, has_flag, flagged}
use Rattle.hq_dispatch.specs.Running.{HasServed, IsNoFault, IsEndOf}
use Rattle.hq_dispatch.specs.Standing.{IsAsked, NodeGoesOn, Stands, TellsAll, parts, sents_of}
use Rattle.hq_dispatch.specs.Streams.{stream, is_receiver, slice_streams, plan_pieces, slices_pieces}
use Rattle.hq_dispatch.specs.declared.end.QueryEnd.{QueryEnd}
use Rattle.hq_dispatch.specs.declared.end.QueryEnd.TheVariants as end
use Rattle.hq_dispatch.specs.declared.task.Task.{Task}
use Rattle.hq_dispatch.proofs.Advancing.{take-get, pieces-more, here-at, runs-on, begins-so, reads-nothing}
use Rattle.hq_dispatch.proofs.Ending.{at-benches, many-benches, ended-memory, ended-numeric, ended-rows, ended-by, numeric-so, goes-on, answers-at}
use Rattle.hq_dispatch.proofs.Flags.{one-flagged, none-set}
use Rattle.hq_dispatch.proofs.Forming.{Rules, rules-of, last-result, last-gathers}
use Rattle.hq_dispatch.proofs.Meaning.{rows-after}
use Rattle.hq_dispatch.proofs.Nodes.{used-within, lowest-below, lowest-used}
use Rattle.hq_dispatch.proofs.Sending.{none-faulted}
use Rattle.hq_dispatch.proofs.Working.{no_answer, ran-gave}

-- an item does not hang on what stands for none
pub same-item : {X : Type 0} (xs : List X) (n : ℕ) (d e : X) → n < length xs → slice_index_or xs n d ≡ slice_index_or xs n e
same-item [] n d e within = absurd (omega (arith, within))
same-item (x ∷ xs) zero d e within = refl
same-item (x ∷ xs) (suc n) d e within = same-item xs n d e (omega (arith, within))

all-taken : {X : Type 0} (xs : List X) → take (length xs) xs ≡ xs
all-taken [] = refl
all-taken {X} (x ∷ xs) = ap (λ (l : List X). x ∷ l) (all-taken xs)

module _ {S H L : Type 0} (o : Outside S H L) (q : Asked) (is : IsAsked q) (first : List (Bench S H L)) (count : ℕ) (s : Slice) (there : slice_get q.plan.slices count ≡ Some s) (last : count + 1 ≡ length q.plan.slices)
    (old : List (Task S H L)) (stands : Stands o q first count old) (nodes : length old ≡ length q.marks) (node : ℕ) (node_is : node ≡ lowest q.basis.owner) (x y : Task S H L) (x_is : x ≡ slice_index_or old node x) (f : QueryEnd)
    (finished : HasFinished o (IsTrue q.seals × IsTrue q.files) q.basis s.root node x y f) where
  abbrev new : List (Task S H L)
  new = slice_set old node y

  abbrev sends : List Bool
  sends = slice_set (replicate 16 false) node true

  abbrev gathered : Bool
  gathered = list_any (gathers (take count q.plan.slices)) (receives s.root)

  abbrev how : ℕ → FlowEnd
  how n = cond (n == node) finished.how flow.Done

  rules : Rules q.plan.slices
  rules = rules-of q.plan is.is_plan.well_formed

  node-below : node < 16
  node-below = subst (λ (n : ℕ). n < 16) (sym node_is) (lowest-below q is)

  node-used : is_used q.marks node ≡ true
  node-used = ap (is_used q.marks) node_is ∙ lowest-used q is

  node-within : node < length old
  node-within = let w = used-within q is node node-used in omega (arith, w, nodes)

  is-gathered : list_any (gathers (take count q.plan.slices)) (receives s.root) ≡ true
  is-gathered = last-gathers [] q.plan.slices count s rules.gather there last

  runs : flagged sends ≡ cond gathered (lowest q.basis.owner ∷ []) (nodes_of q.basis.owner)
  runs = one-flagged node node-below ∙ ap (λ (n : ℕ). n ∷ []) node_is ∙ ap (λ (b : Bool). cond b (lowest q.basis.owner ∷ []) (nodes_of q.basis.owner)) (sym is-gathered)

  flag-here : has_flag sends node ≡ true
  flag-here = get_or-set_same (replicate 16 false) node true false node-below

  flag-other : (n : ℕ) → (n ≡ node → ⊥) → has_flag sends n ≡ false
  flag-other n differ = get_or-set_other (replicate 16 false) node n true false differ ∙ none-set 16 n

  same : length new ≡ length old
  same = length-set old node y

  old-here : (t : Task S H L) → slice_index_or old node t ≡ x
  old-here t = same-item old node t x node-within ∙ sym x_is

  new-here : (t : Task S H L) → slice_index_or new node t ≡ y
  new-here t = get_or-set_same old node y t node-within

  served : (n : ℕ) (t : Task S H L) → n < length old
      → HasServed o (IsTrue q.seals × IsTrue q.files) q.basis s.root n (has_flag sends n) (slice_index_or old n t).incoming.items (slice_index_or old n t).bench (slice_index_or new n t).bench (how n)
  served n t within = by (n == node) refl
    where
      own : HasServed o (IsTrue q.seals × IsTrue q.files) q.basis s.root node (has_flag sends node) x.incoming.items x.bench y.bench finished.how
      own = record { link = finished.link; flowed = λ on. finished.flowed; rested = λ off. (let bad : true ≡ false = sym flag-here ∙ off in cc) }

      at-node : HasServed o (IsTrue q.seals × IsTrue q.files) q.basis s.root node (has_flag sends node) (slice_index_or old node t).incoming.items (slice_index_or old node t).bench (slice_index_or new node t).bench finished.how
      at-node =
          subst (λ (a : Task S H L). HasServed o (IsTrue q.seals × IsTrue q.files) q.basis s.root node (has_flag sends node) a.incoming.items a.bench (slice_index_or new node t).bench finished.how) (sym (old-here t))
          (subst (λ (b : Task S H L). HasServed o (IsTrue q.seals × IsTrue q.files) q.basis s.root node (has_flag sends node) x.incoming.items x.bench b.bench finished.how) (sym (new-here t)) own)

      by : (b : Bool) → (n == node) ≡ b
          → HasServed o (IsTrue q.seals × IsTrue q.files) q.basis s.root n (has_flag sends n) (slice_index_or old n t).incoming.items (slice_index_or old n t).bench (slice_index_or new n t).bench (cond b finished.how flow.Done)
      by true e =
          subst (λ (m : ℕ). HasServed o (IsTrue q.seals × IsTrue q.files) q.basis s.root m (has_flag sends m) (slice_index_or old m t).incoming.items (slice_index_or old m t).bench (slice_index_or new m t).bench finished.how)
          (sym (eqb-true n node e)) at-node
      by false e =
          let stays : slice_index_or new n t ≡ slice_index_or old n t = get_or-set_other old node n y t (eqb-false n node e) in
          record {
            link = ap (λ (z : Task S H L). z.bench.link) stays;
            flowed = λ on. absurd (let bad : false ≡ true = sym (flag-other n (eqb-false n node e)) ∙ on in cc);
            rested = λ off. ap (λ (z : Task S H L). z.bench) stays;
          }

  same-test : (n : ℕ) → (n == n) ≡ true
  same-test n = grind (arith, nat_tests)

  how-here : how node ≡ finished.how
  how-here = ap (λ (b : Bool). cond b finished.how flow.Done) (same-test node)

  how-other : (n : ℕ) → (n ≡ node → ⊥) → how n ≡ flow.Done
  how-other n differ = by (n == node) refl
    where
      by : (b : Bool) → (n == node) ≡ b → cond b finished.how flow.Done ≡ flow.Done
      by true e = absurd (differ (eqb-true n node e))
      by false e = refl

  rested : (n : ℕ) → n < length old → has_flag sends n ≡ false → how n ≡ flow.Done
  rested n within off = how-other n (λ e. let bad : true ≡ false = sym (ap (has_flag sends) e ∙ flag-here) ∙ off in cc)

  first-within : node < length first
  first-within = let m = stands.many in let w = node-within in omega (arith, m, w)

  lowest-one : (k : ℕ) → k < node → IsNoFault (how k)
  lowest-one k less = subst IsNoFault (sym (how-other k (λ e. omega (arith, e, less)))) tt

  -- the slice on its node
  is-here : TellsAll o q first → rows_of s.root (here_at (parts q) q.basis.owner (sents_of q count) node) ≡ slice_rows (node_held q.basis node x.incoming.items) s.root
  is-here k =
      let t : Task S H L = x in
      sym (ap (rows_of s.root) (here-at o q is first count s there sends runs old stands nodes k node t node-used))
      ∙ ap (λ (a : Task S H L). slice_rows (node_held q.basis node a.incoming.items) s.root) (old-here t)

  -- the rows of the last slice are those of the plan
  mean-so : (rows : Vec (List Value)) → rows.items ≡ slice_rows (node_held q.basis node x.incoming.items) s.root → finished.how ≡ flow.Done → TellsAll o q first → answer.Rows rows.items ≡ plan_mean q.plan (parts q) q.basis.owner
  mean-so rows are done k =
      ap answer.Rows (are ∙ sym (is-here k) ∙ sym (append-nil (rows_of s.root (here_at (parts q) q.basis.owner (sents_of q count) node))) ∙ sym one) ∙ sym (rows-after (sents_of q count) z (stands.fine k) fault) ∙ ap answer_after (sym all)
    where
      z : Sent
      z = run_slice (parts q) q.basis.owner (sents_of q count) s

      all : run_slices (parts q) q.basis.owner [] q.plan.slices ≡ sents_of q count ++ run_slice (parts q) q.basis.owner (sents_of q count) s ∷ []
      all =
          ap (run_slices (parts q) q.basis.owner []) (sym (all-taken q.plan.slices) ∙ ap (λ (m : ℕ). take m q.plan.slices) (sym last) ∙ take-get q.plan.slices count s there)
          ∙ run-append (parts q) q.basis.owner [] (take count q.plan.slices) (s ∷ [])

      fault : (run_slice (parts q) q.basis.owner (sents_of q count) s).fault ≡ false
      fault = none-faulted (parts q) q.basis.owner (sents_of q count) s [] [] sends (runs-on o q is first count s there sends runs old stands nodes) (λ m below on. at-node m (m == node) refl on)
        where
          own : op_faults s.root (here_at (parts q) q.basis.owner (sents_of q count) node) ≡ false
          own =
              sym (ap (op_faults s.root) (here-at o q is first count s there sends runs old stands nodes k node x node-used))
              ∙ ap (λ (a : Task S H L). slice_fault (node_held q.basis node a.incoming.items) s.root) (old-here x)
              ∙ subst (λ (e : FlowEnd). IsNumericAt e (slice_fault (node_held q.basis node x.incoming.items) s.root)) done (finished.flowed.numeric (k.seals, k.files))

          at-node : (m : ℕ) (b : Bool) → (m == node) ≡ b → has_flag sends m ≡ true → op_faults s.root (here_at (parts q) q.basis.owner (sents_of q count) m) ≡ false
          at-node m true e on = ap (λ (n : ℕ). op_faults s.root (here_at (parts q) q.basis.owner (sents_of q count) n)) (eqb-true m node e) ∙ own
          at-node m false e on = let bad : false ≡ true = sym (flag-other m (eqb-false m node e)) ∙ on in cc

      one : (run_slice (parts q) q.basis.owner (sents_of q count) s).rows ≡ rows_of s.root (here_at (parts q) q.basis.owner (sents_of q count) node) ++ []
      one =
          ap (flat_map (λ n. rows_of s.root (here_at (parts q) q.basis.owner (sents_of q count) n))) (sym (runs-on o q is first count s there sends runs old stands nodes) ∙ one-flagged node node-below)

  new-within : (n : ℕ) → n < length first → n < length new
  new-within n within = let m = stands.many in let c = same in omega (arith, within, m, c)

  used-first : (n : ℕ) → is_used q.marks n ≡ true → n < length first
  used-first n used = let w = used-within q is n used in let m = stands.many in omega (arith, w, m, nodes)

  reads-all : (n : ℕ) → slices_reads q.basis n q.plan.slices ≡ slices_reads q.basis n (take count q.plan.slices) + slice_reads (node_held q.basis n []) s.root
  reads-all n =
      ap (slices_reads q.basis n) (sym (all-taken q.plan.slices) ∙ ap (λ (m : ℕ). take m q.plan.slices) (sym last) ∙ take-get q.plan.slices count s there)
      ∙ sum_by-append (λ (z : Slice). slice_reads (node_held q.basis n []) z.root) (take count q.plan.slices) (s ∷ [])
      ∙ ap (λ (m : ℕ). slices_reads q.basis n (take count q.plan.slices) + m) (zero-add (slice_reads (node_held q.basis n []) s.root))

  pieces-all : (n : ℕ) → plan_pieces q.plan (parts q) q.basis.owner n ≡ slices_pieces (parts q) q.basis.owner n [] (take count q.plan.slices)
  pieces-all n =
      ap (slices_pieces (parts q) q.basis.owner n []) (sym (all-taken q.plan.slices) ∙ ap (λ (m : ℕ). take m q.plan.slices) (sym last) ∙ take-get q.plan.slices count s there)
      ∙ pieces-more (parts q) q.basis.owner n [] (take count q.plan.slices) s
      ∙ ap (λ (m : ℕ). slices_pieces (parts q) q.basis.owner n [] (take count q.plan.slices) + m) none
      ∙ add-zero (slices_pieces (parts q) q.basis.owner n [] (take count q.plan.slices))
    where
      by : (out : Motion) → out ≡ motion.Result → (c : Slice) → c.out ≡ out → is_receiver q.basis.owner c n ≡ false
      by out e c g = ap (λ (m : Motion). is_receiver q.basis.owner (record c { out = m }) n) (g ∙ e)

      none : pieces_of (slice_streams (parts q) q.basis.owner (sents_of q count) s n) ≡ 0
      none =
          ap (λ (b : Bool). pieces_of (cond b (map (λ m. (m, stream (parts q) q.basis.owner (sents_of q count) s n m)) (runs_on q.basis.owner (sents_of q count) s.root)) []))
          (by motion.Result refl s (last-result q.plan.slices count s rules.result there last))

  pub rows-so : (rows : Vec (List Value)) → (IsTrue q.seals × IsTrue q.files → rows.items ≡ slice_rows (node_held q.basis node x.incoming.items) s.root) → finished.how ≡ flow.Done → HasEnded o q first (benches_of new) (end.Rows rows)
  rows-so rows are done =
      ended-rows o q first (benches_of new) (many-benches new ∙ same ∙ stands.many) (goes-on o q is first count s there sends runs old stands nodes how new served same rested) rows
      (λ k. mean-so rows (are (k.seals, k.files)) done k)
      (λ n used. answers-at o q is first count s there sends runs old stands nodes how new served same rested n (ap no_answer (each-done n)) used)
      (λ seals files n used.
      at-benches (λ a b. GoesOnGiving o.faults o.given o.sound (slices_reads q.basis n q.plan.slices) a.store b.store) first new n (new-within n (used-first n used)) (λ b t.
      let within = used-first n used in
      ran-gave o q is (TellsAll o q first) count n s sends gathered runs (begins-so o q is first count s there sends runs old stands nodes) (let w = used-within q is n used in let few = is.few in omega (arith, w, few)) (slice_index_or first n b) (slice_index_or old n t) (slice_index_or new n t).bench (how n)
      (stands.each n b t within) (served n t (let m = stands.many in omega (arith, within, m))) (each-done n) (reads-nothing o q is first count s there sends runs old stands nodes n) seals files used q.plan.slices (reads-all n)))
      (λ k n used.
      at-benches (λ a b. RoseBy (plan_pieces q.plan (parts q) q.basis.owner n) (o.state a.link).given (o.state b.link).given) first new n (new-within n (used-first n used)) (λ b t.
      let within = used-first n used in
      subst (λ (m : ℕ). RoseBy m (o.state (slice_index_or first n b).link).given (o.state (slice_index_or new n t).bench.link).given) (sym (pieces-all n))
      (subst (λ (l : L). RoseBy (slices_pieces (parts q) q.basis.owner n [] (take count q.plan.slices)) (o.state (slice_index_or first n b).link).given (o.state l).given) (sym (served n t (let m = stands.many in omega (arith, within, m))).link)
      ((stands.each n b t within).pieces k used))))
    where
      each-done : (n : ℕ) → how n ≡ flow.Done
      each-done n = by (n == node)
        where
          by : (b : Bool) → cond b finished.how flow.Done ≡ flow.Done
          by true = done
          by false = refl

  -- and so it ends in each case
  pub finished-so : HasEnded o q first (benches_of new) f
  finished-so = by finished.how refl f finished.is_end finished.rows
    where
      many : length (benches_of new) ≡ length first
      many = many-benches new ∙ same ∙ stands.many

      all-on : (n : ℕ) → n < length first → At n first (benches_of new) (NodeGoesOn o q n)
      all-on = goes-on o q is first count s there sends runs old stands nodes how new served same rested

      faulted : (e : FlowEnd) → finished.how ≡ e → (e ≡ flow.Done → ⊥) → (f : QueryEnd) → IsEndOf node e f → HasEnded o q first (benches_of new) f
      faulted e is_e not_done f h =
          ended-by o q is first count s there sends runs old stands nodes how new served same rested node first-within lowest-one (λ d. not_done (sym is_e ∙ sym how-here ∙ d)) e (how-here ∙ is_e) f h

      by : (e : FlowEnd) → finished.how ≡ e → (f : QueryEnd) → IsEndAt node e f → (IsTrue q.seals × IsTrue q.files → IfRows f (λ rows. rows ≡ slice_rows (node_held q.basis node x.incoming.items) s.root)) → HasEnded o q first (benches_of new) f
      by flow.Done is_e (end.Rows rows) h are = rows-so rows are is_e
      by flow.Numeric is_e end.Numeric h are =
          ended-numeric o q first (benches_of new) many all-on (numeric-so o q is first count s there sends runs old stands nodes how new served same rested node first-within (how-here ∙ is_e))
      by flow.NoMemory is_e end.NoMemory h are = ended-memory o q first (benches_of new) many all-on
      by flow.Store is_e f h are = faulted flow.Store is_e (λ d. cc) f h
      by flow.Host is_e f h are = faulted flow.Host is_e (λ d. cc) f h
      by (flow.BadBlock file at bytes) is_e f h are = faulted (flow.BadBlock file at bytes) is_e (λ d. cc) f h
      by _ is_e _ h are = absurd h
