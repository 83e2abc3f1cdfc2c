-- The plan that joins and groups on all nodes means what its query means.
use Rattle.std.proofs.Common.{◌≡◌, ℕ, ◌+◌, true, false, cond, ◌||◌, ◌&&◌, List, [], ◌∷◌, ◌++◌, length, map, flat_map, refl, sym, ◌∙◌, ap, subst, arith, IsTrue}
use Rattle.std.specs.List.{list_any, list_all}
use Rattle.std.proofs.lemmas.List.{append-nil}
use Rattle.hq_value.specs.declared.kind.Kind.{Kind}
use Rattle.hq_value.specs.Order.{SameBag}
use Rattle.hq_algebra.specs.declared.expr.Expr.{Expr}
use Rattle.hq_algebra.specs.declared.op.Op.{Op}
use Rattle.hq_algebra.specs.declared.op.Op.TheVariants as op
use Rattle.hq_algebra.specs.declared.plan.Motion.TheVariants as motion
use Rattle.hq_algebra.specs.declared.query.Query.{Query}
use Rattle.hq_algebra.specs.Plans.{is_gather}
use Rattle.hq_algebra.specs.Eval.{is_true_at}
use Rattle.hq_meaning.specs.Rows.{Row, kept, faults_in}
use Rattle.hq_meaning.specs.Aggregates.{arguments_fault}
use Rattle.hq_meaning.specs.Groups.{some_leaves_64}
use Rattle.hq_meaning.specs.Mean.{answer_of, product, source_rows, group_rows, having_rows, finished, faults, mean}
use Rattle.hq_meaning.specs.Operators.{joined}
use Rattle.hq_meaning.specs.Nodes.{nodes_of, lowest, moved}
use Rattle.hq_meaning.specs.Slices.{Here, rows_of, op_faults}
use Rattle.hq_meaning.specs.Plans.{Parts, Sent, sent_by, all_rows, here_at, runs_on, run_slice, run_slices, answer_after, plan_mean}
use Rattle.hq_meaning.proofs.Bags.{SameBag-trans, SameBag-equal, SameBag-filter}
use Rattle.hq_meaning.proofs.MeanLaw.{mean-SameBag}
use Rattle.hq_laws.specs.Words.{IsOwner}
use Rattle.hq_laws.specs.Stages.{filters, partial_op, final_op, tail_op, sending}
use Rattle.hq_laws.specs.Sources.{Source, SourcesStand}
use Rattle.hq_laws.specs.Gathered.{tables_of}
use Rattle.hq_laws.specs.Spread.{Joining, source_of, sources_of, Built, first_source, with_source, with_sources, closed, spread_plan, KeysAreImplied, FitKinds}
use Rattle.hq_laws.specs.Placed.{own_homes, homes_after, is_placed, are_placed, joins_are_placed, StandByOwn}
use Rattle.std.specs.List.{AllByRecursion}
use Rattle.hq_laws.proofs.Lists.{both_true, eq_self, or_assoc, or_false}
use Rattle.hq_laws.proofs.OverNodes.{kept-over}
use Rattle.hq_laws.proofs.Stages.{filters-rows, filters-faults, tail-receives, final-receives, tail-rows, tail-faults, faults-without_having, partials-fault, groups-bag, final-fault, both-steps}
use Rattle.hq_laws.proofs.Runs.{run-append, fault-append, answer-push, sent-at, on-all, gathered, gathered-SameBag}
use Rattle.hq_laws.proofs.Chains.{IsWide, found, found-wide, chained, kept-chained, kept-sources}
use Rattle.hq_laws.proofs.Standing.{Standing, standing-first, standing-next, gathered-wide, bag-now, clean-now}

-- all sources
module _ (kinds : ℕ → List Kind) (own : ℕ → List ℕ) (parts : Parts) (owner : List ℕ) (fit : FitKinds kinds parts) (stand : StandByOwn own parts) (owned : IsOwner owner) (conds : List Expr) where
  pub standing-all : (b : Built) (w : ℕ) (homes : List (List ℕ)) (rows : List Row) (js : List Joining) → SourcesStand kinds conds w (map source_of js) → are_placed kinds own w homes js ≡ true → Standing parts owner b w homes rows
      → (v : ℕ) × (hs : List (List ℕ)) × Standing parts owner (with_sources kinds b js) v hs (chained (found (gathered parts owner)) rows js)
  standing-all b w homes rows [] tests placed s = (w, homes, s)
  standing-all b w homes rows (j ∷ js) tests placed s =
      let h : (is_placed j.way w (length (kinds j.table)) (own j.table) j.left_keys j.right_keys homes ≡ true)
      × (are_placed kinds own (w + length (kinds j.table)) (homes_after j.way w (length (kinds j.table)) (own j.table) j.left_keys j.right_keys homes) js ≡ true) = both_true _ _ placed in
      standing-all (with_source kinds b j) (w + length (kinds j.table)) (homes_after j.way w (length (kinds j.table)) (own j.table) j.left_keys j.right_keys homes) (joined j.left_keys j.right_keys rows (found (gathered parts owner) (source_of j))) js tests.1 h.1
      (standing-next kinds own parts owner fit stand owned b w homes rows j tests.0.0 h.0 s)

-- the last two slices
module _ (kinds : ℕ → List Kind) (own : ℕ → List ℕ) (last : List Kind) (q : Query) (parts : Parts) (owner : List ℕ) (fit : FitKinds kinds parts) (stand : StandByOwn own parts) (b : Built) (w : ℕ) (homes : List (List ℕ)) (rows : List Row) (s : Standing parts owner b w homes rows) (found : kept q.conds rows ≡ source_rows q (gathered parts owner)) where
  abbrev inner : Op
  inner = filters q.conds b.root

  abbrev middle : Op
  middle = partial_op q inner

  abbrev source : List Row
  source = source_rows q (gathered parts owner)

  abbrev at : ℕ → Here
  at n = here_at parts owner s.sents n

  inner-bag : SameBag (flat_map (λ n. rows_of inner (at n)) (nodes_of owner)) source
  inner-bag = SameBag-trans _ _ _
      (SameBag-equal _ _ ((λ i. flat_map (λ n. filters-rows q.conds b.root (at n) i) (nodes_of owner)) ∙ kept-over q.conds (λ n. rows_of b.root (at n)) (nodes_of owner)))
      (SameBag-trans _ (kept q.conds rows) _ (SameBag-filter (λ row. list_all (λ e. is_true_at e row) q.conds) _ _ (bag-now kinds own parts owner fit stand b w homes rows s)) (SameBag-equal _ _ found))

  inner-clean : (n : ℕ) → op_faults inner (at n) ≡ false
  inner-clean n = filters-faults q.conds q.conds_fault_never b.root (at n) ∙ clean-now kinds own parts owner fit stand b w homes rows s n

  abbrev sent3 : Sent
  sent3 = run_slice parts owner s.sents (sending motion.Gather middle)

  sent3-rows : sent3.rows ≡ flat_map (λ n. rows_of middle (at n)) (nodes_of owner)
  sent3-rows = ap (flat_map (λ n. rows_of middle (at n))) (on-all owner s.sents s.no_gather middle)

  sent3-fault : sent3.fault ≡ (q.grouped && arguments_fault q.aggregates source)
  sent3-fault = ap (list_any (λ n. op_faults middle (at n))) (on-all owner s.sents s.no_gather middle) ∙ partials-fault q inner at (nodes_of owner) source inner-bag inner-clean

  abbrev sents3 : List Sent
  sents3 = s.sents ++ sent3 ∷ []

  abbrev received_op : Op
  received_op = op.Receive (length b.slices) last

  abbrev root : Op
  root = tail_op q (final_op q received_op)

  abbrev here : Here
  here = here_at parts owner sents3 (lowest owner)

  sent-there : sent_by sents3 (length b.slices) ≡ sent3
  sent-there = ap (sent_by sents3) s.count ∙ sent-at s.sents [] sent3

  come : rows_of received_op here ≡ flat_map (λ n. rows_of middle (at n)) (nodes_of owner)
  come = ap (λ (r : Sent). moved r.out owner r.rows (lowest owner)) sent-there ∙ ap (λ c. cond c sent3.rows []) (eq_self (lowest owner)) ∙ sent3-rows

  on-lowest : runs_on owner sents3 root ≡ lowest owner ∷ []
  on-lowest = ap (λ c. cond c (lowest owner ∷ []) (nodes_of owner))
      (ap (list_any (λ slice. is_gather (sent_by sents3 slice).out)) (tail-receives q (final_op q received_op) ∙ final-receives q received_op)
      ∙ ap (λ (r : Sent). is_gather r.out || false) sent-there)

  groups : SameBag (rows_of (final_op q received_op) here) (group_rows q source)
  groups = groups-bag q inner at (nodes_of owner) source inner-bag inner-clean here received_op come

  abbrev sent4 : Sent
  sent4 = run_slice parts owner sents3 (sending motion.Result root)

  sent4-rows : sent4.rows ≡ finished q source
  sent4-rows = ap (flat_map (λ n. rows_of root (here_at parts owner sents3 n))) on-lowest ∙ append-nil (rows_of root here) ∙ tail-rows q here (final_op q received_op) source groups

  sent4-fault : sent4.fault ≡ ((q.grouped && some_leaves_64 q.groups q.aggregates source) || faults_in q.items (having_rows q source))
  sent4-fault = ap (list_any (λ n. op_faults root (here_at parts owner sents3 n))) on-lowest ∙ or_false (op_faults root here)
      ∙ tail-faults q here (final_op q received_op) source groups
      ∙ ap (λ c. c || faults_in q.items (having_rows q source)) (final-fault q inner at (nodes_of owner) source inner-bag inner-clean here received_op come)

  all-faults : (list_any (λ (r : Sent). r.fault) sents3 || sent4.fault) ≡ faults q source
  all-faults =
      (λ i. (fault-append s.sents (sent3 ∷ []) ∙ (λ j. s.no_fault j || (sent3-fault j || false)) ∙ or_false (q.grouped && arguments_fault q.aggregates source)) i || sent4-fault i)
      ∙ sym (or_assoc (q.grouped && arguments_fault q.aggregates source) (q.grouped && some_leaves_64 q.groups q.aggregates source) (faults_in q.items (having_rows q source)))
      ∙ ap (λ c. c || faults_in q.items (having_rows q source)) (both-steps q source)
      ∙ faults-without_having q source

  pub closed-means : plan_mean (closed last q b) parts owner ≡ mean q (gathered parts owner)
  closed-means =
      ap answer_after (run-append parts owner [] b.slices (sending motion.Gather middle ∷ sending motion.Result root ∷ []) ∙ ap (λ ss. run_slices parts owner ss (sending motion.Gather middle ∷ sending motion.Result root ∷ [])) s.run)
      ∙ answer-push sents3 sent4
      ∙ (λ i. answer_of (all-faults i) (sent4-rows i))

same-tables : (js : List Joining) → tables_of (map source_of js) ≡ map (λ (j : Joining). j.table) js
same-tables [] = refl
same-tables (j ∷ js) = ap (λ l. j.table ∷ l) (same-tables js)

pub spread-plan-means : (kinds : ℕ → List Kind) (own : ℕ → List ℕ) (last : List Kind) (q : Query) (s : Source) (js : List Joining) (parts : Parts) (owner : List ℕ)
    → q.sources ≡ s.table ∷ map (λ (j : Joining). j.table) js → IsOwner owner → FitKinds kinds parts → StandByOwn own parts → KeysAreImplied kinds q.conds (length (kinds s.table)) js → SourcesStand kinds q.conds 0 (sources_of s js) → IsTrue (joins_are_placed kinds own s.table js)
    → plan_mean (spread_plan kinds last q s js) parts owner ≡ mean q (all_rows parts owner)
spread-plan-means kinds own last q s js parts owner sources owned fit stand implied tests placed =
    let all : (v : ℕ) × (hs : List (List ℕ)) × Standing parts owner (with_sources kinds (first_source kinds s) js) v hs (chained (found (gathered parts owner)) (found (gathered parts owner) s) js) =
    standing-all kinds own parts owner fit stand owned q.conds (first_source kinds s) (length (kinds s.table)) (own_homes (length (kinds s.table)) (own s.table)) (found (gathered parts owner) s) js (further-stand tests.1) placed (standing-first kinds own parts owner fit stand s tests.0.0) in
    closed-means kinds own last q parts owner fit stand (with_sources kinds (first_source kinds s) js) all.0 all.1 (chained (found (gathered parts owner)) (found (gathered parts owner) s) js) all.2
    (kept-chained kinds q.conds (found (gathered parts owner)) wide (length (kinds s.table)) (found (gathered parts owner) s) js (wide s) implied
    ∙ kept-sources kinds q.conds (gathered parts owner) (gathered-wide kinds own parts owner fit stand) (sources_of s js) tests
    ∙ ap (λ ss. kept q.conds (product (map (gathered parts owner) ss))) (ap (λ l. s.table ∷ l) (same-tables js) ∙ sym sources))
    ∙ mean-SameBag q _ _ (gathered-SameBag parts owner owned)
  where
    wide : (s : Source) → AllByRecursion (IsWide (length (kinds s.table))) (found (gathered parts owner) s)
    wide = found-wide kinds q.conds (gathered parts owner) (gathered-wide kinds own parts owner fit stand)

    further-stand : SourcesStand kinds q.conds (0 + length (kinds s.table)) (map source_of js) → SourcesStand kinds q.conds (length (kinds s.table)) (map source_of js)
    further-stand h = subst (λ n. SourcesStand kinds q.conds n (map source_of js)) (zero_add (length (kinds s.table))) h
      where
        zero_add : (n : ℕ) → 0 + n ≡ n
        zero_add n = omega arith
