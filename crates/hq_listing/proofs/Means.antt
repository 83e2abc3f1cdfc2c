-- The plan that evaluates the select list on all nodes means what its query means.
use Rattle.std.proofs.Common.{◌≡◌, ℕ, ◌+◌, Bool, true, false, cond, ◌||◌, ◌&&◌, List, [], ◌∷◌, ◌++◌, length, map, flat_map, refl, sym, ◌∙◌, ap, subst, arith, IsTrue}
use Rattle.std.specs.List.{list_any, list_all, AllByRecursion}
use Rattle.std.proofs.lemmas.List.{append-nil}
use Rattle.hq_value.specs.declared.kind.Kind.{Kind}
use Rattle.hq_value.specs.Order.{SameBag}
use Rattle.hq_algebra.specs.declared.expr.Expr.{Expr}
use Rattle.hq_algebra.specs.declared.op.Op.{Op}
use Rattle.hq_algebra.specs.declared.op.Op.TheVariants as op
use Rattle.hq_algebra.specs.declared.op.Op.TheBlock.{hidden-the_row-Op-0}
use Rattle.hq_algebra.specs.declared.plan.Motion.TheVariants as motion
use Rattle.hq_algebra.specs.declared.query.Query.{Query}
use denote.Hole.Carrier.{hidden}
use Rattle.hq_algebra.specs.Rules.{is_empty}
use Rattle.hq_algebra.specs.Plans.{is_gather}
use Rattle.hq_algebra.specs.Eval.{is_true_at, faults_at}
use Rattle.hq_meaning.specs.Rows.{Row, kept, listed, faults_in, firsts, limited}
use Rattle.hq_meaning.specs.Aggregates.{arguments_fault}
use Rattle.hq_meaning.specs.Groups.{grouped, some_leaves_64}
use Rattle.hq_meaning.specs.Mean.{answer_of, product, source_rows, having_rows, finished, faults, mean}
use Rattle.hq_meaning.specs.Nodes.{nodes_of, lowest, moved}
use Rattle.hq_meaning.specs.Slices.{Here, rows_of, op_faults, receives}
use Rattle.hq_meaning.specs.Plans.{Parts, Sent, sent_by, all_rows, here_at, runs_on, run_slice, run_slices, answer_after, plan_mean}
use Rattle.hq_meaning.proofs.Bags.{any-SameBag, SameBag-trans, SameBag-equal, SameBag-map, SameBag-filter, SameBag-firsts}
use Rattle.hq_meaning.proofs.MeanLaw.{mean-SameBag, ordered-SameBag}
use Rattle.hq_laws.specs.Words.{IsOwner}
use Rattle.hq_laws.specs.Stages.{filters, sending}
use Rattle.hq_laws.specs.Sources.{Source, SourcesStand}
use Rattle.hq_laws.specs.Gathered.{tables_of}
use Rattle.hq_laws.specs.Spread.{Joining, source_of, sources_of, Built, first_source, with_sources, KeysAreImplied, FitKinds}
use Rattle.hq_laws.specs.Placed.{own_homes, joins_are_placed, StandByOwn}
use Rattle.hq_laws.proofs.Lists.{eq_self, or_false}
use Rattle.hq_laws.proofs.OverNodes.{kept-over, listed-over, faults-over}
use Rattle.hq_laws.proofs.Products.{filter-all}
use Rattle.hq_laws.proofs.Stages.{filters-rows, filters-faults, faults-without_having}
use Rattle.hq_laws.proofs.Runs.{run-append, fault-append, answer-push, sent-at, on-all, gathered, gathered-SameBag}
use Rattle.hq_laws.proofs.Chains.{IsWide, found, found-wide, chained, kept-chained, kept-sources}
use Rattle.hq_laws.proofs.Standing.{Standing, standing-first, gathered-wide, bag-now, clean-now}
use Rattle.hq_laws.proofs.Spreading.{standing-all}
use Rattle.hq_listing.specs.Listing.{end_op, listing_plan}
use Rattle.hq_listing.specs.Listing as plans

-- a query without groups has no HAVING
pub no-having : (q : Query) → q.grouped ≡ false → q.having ≡ []
no-having q e = empty q.having (last (is_empty q.groups && is_empty q.aggregates) (is_empty q.having) (by q.grouped e q.plain))
  where
    by : (b : Bool) → b ≡ false → (b || (is_empty q.groups && is_empty q.aggregates && is_empty q.having)) ≡ true → (is_empty q.groups && is_empty q.aggregates && is_empty q.having) ≡ true
    by true e h = cc
    by false e h = h

    last : (a b : Bool) → (a && b) ≡ true → b ≡ true
    last true b h = h
    last false b h = cc

    empty : (es : List Expr) → is_empty es ≡ true → es ≡ []
    empty [] h = refl
    empty (x ∷ es) h = let u : false ≡ true = h in cc

-- what such a query keeps behind its conditions, and where it faults
module _ (q : Query) (plain : q.grouped ≡ false) (rows : List Row) where
  having-same : having_rows q rows ≡ rows
  having-same = (λ i. kept (no-having q plain i) (cond (plain i) (grouped q.groups q.aggregates rows) rows)) ∙ filter-all rows

  faults-same : faults_in q.items rows ≡ faults q rows
  faults-same =
      (λ i. faults_in q.items (sym having-same i))
      ∙ (λ i. cond (sym plain i) (arguments_fault q.aggregates rows || some_leaves_64 q.groups q.aggregates rows) false || faults_in q.items (having_rows q rows))
      ∙ faults-without_having q rows

-- the operators of the end
module _ (q : Query) where
  pub end-receives : (x : Op) → receives (end_op q x) ≡ receives x
  unfolding hidden-the_row-Op-0 hidden
  end-receives x = by q.distinct
    where
      by : (b : Bool) → receives (cond b (op.Distinct x) x) ≡ receives x
      by true = refl
      by false = refl

  end-faults : (x : Op) (here : Here) → op_faults (end_op q x) here ≡ op_faults x here
  unfolding hidden-the_row-Op-0 hidden
  end-faults x here = by q.distinct
    where
      by : (b : Bool) → op_faults (cond b (op.Distinct x) x) here ≡ op_faults x here
      by true = refl
      by false = refl

  end-rows : (x : Op) (here : Here) (rows : List Row) → SameBag (rows_of x here) (listed q.items (having_rows q rows)) → rows_of (end_op q x) here ≡ finished q rows
  unfolding hidden-the_row-Op-0 hidden
  end-rows x here rows bag = ap (limited q.limit) (ordered-SameBag q.order _ _ (by q.distinct))
    where
      by : (b : Bool) → SameBag (rows_of (cond b (op.Distinct x) x) here) (cond b (firsts (listed q.items (having_rows q rows))) (listed q.items (having_rows q rows)))
      by true = SameBag-firsts _ _ bag
      by false = bag

-- the select list over what the nodes have
module _ (q : Query) (x : Op) (at : ℕ → Here) (ns : List ℕ) (rows : List Row) (bag : SameBag (flat_map (λ n. rows_of x (at n)) ns) rows) (clean : (n : ℕ) → op_faults x (at n) ≡ false) where
  list-bag : SameBag (flat_map (λ n. rows_of (op.Project q.items x) (at n)) ns) (listed q.items rows)
  unfolding hidden-the_row-Op-0 hidden
  list-bag = SameBag-trans _ _ _ (SameBag-equal _ _ (listed-over q.items (λ n. rows_of x (at n)) ns)) (SameBag-map _ _ _ bag)

  list-faults : list_any (λ n. op_faults (op.Project q.items x) (at n)) ns ≡ faults_in q.items rows
  unfolding hidden-the_row-Op-0 hidden
  list-faults = (λ i. list_any (λ n. clean n i || faults_in q.items (rows_of x (at n))) ns) ∙ faults-over q.items (λ n. rows_of x (at n)) ns ∙ any-SameBag (λ row. list_any (λ e. faults_at e row) q.items) _ _ bag

-- the last two slices
module _ (kinds : ℕ → List Kind) (own : ℕ → List ℕ) (out : List Kind) (q : Query) (plain : q.grouped ≡ false) (parts : Parts) (owner : List ℕ) (fit : FitKinds kinds parts) (stand : StandByOwn own parts) (b : Built) (w : ℕ) (homes : List (List ℕ)) (rows : List Row) (s : Standing parts owner b w homes rows) (found : kept q.conds rows ≡ source_rows q (gathered parts owner)) where
  abbrev inner : Op
  inner = filters q.conds b.root

  abbrev middle : Op
  middle = op.Project q.items inner

  abbrev source : List Row
  source = source_rows q (gathered parts owner)

  abbrev at : ℕ → Here
  at n = here_at parts owner s.sents n

  inner-bag : SameBag (flat_map (λ n. rows_of inner (at n)) (nodes_of owner)) source
  inner-bag = SameBag-trans _ _ _
      (SameBag-equal _ _ ((λ i. flat_map (λ n. filters-rows q.conds b.root (at n) i) (nodes_of owner)) ∙ kept-over q.conds (λ n. rows_of b.root (at n)) (nodes_of owner)))
      (SameBag-trans _ (kept q.conds rows) _ (SameBag-filter (λ row. list_all (λ e. is_true_at e row) q.conds) _ _ (bag-now kinds own parts owner fit stand b w homes rows s)) (SameBag-equal _ _ found))

  inner-clean : (n : ℕ) → op_faults inner (at n) ≡ false
  inner-clean n = filters-faults q.conds q.conds_fault_never b.root (at n) ∙ clean-now kinds own parts owner fit stand b w homes rows s n

  abbrev sent3 : Sent
  sent3 = run_slice parts owner s.sents (sending motion.Gather middle)

  sent3-rows : sent3.rows ≡ flat_map (λ n. rows_of middle (at n)) (nodes_of owner)
  sent3-rows = ap (flat_map (λ n. rows_of middle (at n))) (on-all owner s.sents s.no_gather middle)

  sent3-fault : sent3.fault ≡ faults q source
  sent3-fault = ap (list_any (λ n. op_faults middle (at n))) (on-all owner s.sents s.no_gather middle) ∙ list-faults q inner at (nodes_of owner) source inner-bag inner-clean ∙ faults-same q plain source

  abbrev sents3 : List Sent
  sents3 = s.sents ++ sent3 ∷ []

  abbrev received_op : Op
  received_op = op.Receive (length b.slices) out

  abbrev root : Op
  root = end_op q received_op

  abbrev here : Here
  here = here_at parts owner sents3 (lowest owner)

  sent-there : sent_by sents3 (length b.slices) ≡ sent3
  sent-there = ap (sent_by sents3) s.count ∙ sent-at s.sents [] sent3

  come : rows_of received_op here ≡ flat_map (λ n. rows_of middle (at n)) (nodes_of owner)
  come = ap (λ (r : Sent). moved r.out owner r.rows (lowest owner)) sent-there ∙ ap (λ c. cond c sent3.rows []) (eq_self (lowest owner)) ∙ sent3-rows

  on-lowest : runs_on owner sents3 root ≡ lowest owner ∷ []
  on-lowest = ap (λ c. cond c (lowest owner ∷ []) (nodes_of owner))
      (ap (list_any (λ slice. is_gather (sent_by sents3 slice).out)) (end-receives q received_op)
      ∙ ap (λ (r : Sent). is_gather r.out || false) sent-there)

  values : SameBag (rows_of received_op here) (listed q.items (having_rows q source))
  values = SameBag-trans _ _ _ (SameBag-equal _ _ come) (SameBag-trans _ _ _ (list-bag q inner at (nodes_of owner) source inner-bag inner-clean) (SameBag-equal _ _ (ap (listed q.items) (sym (having-same q plain source)))))

  abbrev sent4 : Sent
  sent4 = run_slice parts owner sents3 (sending motion.Result root)

  sent4-rows : sent4.rows ≡ finished q source
  sent4-rows = ap (flat_map (λ n. rows_of root (here_at parts owner sents3 n))) on-lowest ∙ append-nil (rows_of root here) ∙ end-rows q received_op here source values

  sent4-fault : sent4.fault ≡ false
  sent4-fault = ap (list_any (λ n. op_faults root (here_at parts owner sents3 n))) on-lowest ∙ or_false (op_faults root here) ∙ end-faults q received_op here

  all-faults : (list_any (λ (r : Sent). r.fault) sents3 || sent4.fault) ≡ faults q source
  all-faults =
      (λ i. (fault-append s.sents (sent3 ∷ []) ∙ (λ j. s.no_fault j || (sent3-fault j || false)) ∙ or_false (faults q source)) i || sent4-fault i)
      ∙ or_false (faults q source)

  listed-means : plan_mean (plans.listed out q b) parts owner ≡ mean q (gathered parts owner)
  listed-means =
      ap answer_after (run-append parts owner [] b.slices (sending motion.Gather middle ∷ sending motion.Result root ∷ []) ∙ ap (λ ss. run_slices parts owner ss (sending motion.Gather middle ∷ sending motion.Result root ∷ [])) s.run)
      ∙ answer-push sents3 sent4
      ∙ (λ i. answer_of (all-faults i) (sent4-rows i))

same-tables : (js : List Joining) → tables_of (map source_of js) ≡ map (λ (j : Joining). j.table) js
same-tables [] = refl
same-tables (j ∷ js) = ap (λ l. j.table ∷ l) (same-tables js)

pub listing-plan-means : (kinds : ℕ → List Kind) (own : ℕ → List ℕ) (out : List Kind) (q : Query) (s : Source) (js : List Joining) (parts : Parts) (owner : List ℕ) → q.grouped ≡ false
    → q.sources ≡ s.table ∷ map (λ (j : Joining). j.table) js → IsOwner owner → FitKinds kinds parts → StandByOwn own parts → KeysAreImplied kinds q.conds (length (kinds s.table)) js → SourcesStand kinds q.conds 0 (sources_of s js) → IsTrue (joins_are_placed kinds own s.table js)
    → plan_mean (listing_plan kinds out q s js) parts owner ≡ mean q (all_rows parts owner)
listing-plan-means kinds own out q s js parts owner plain sources owned fit stand implied tests placed =
    let all : (v : ℕ) × (hs : List (List ℕ)) × Standing parts owner (with_sources kinds (first_source kinds s) js) v hs (chained (found (gathered parts owner)) (found (gathered parts owner) s) js) =
    standing-all kinds own parts owner fit stand owned q.conds (first_source kinds s) (length (kinds s.table)) (own_homes (length (kinds s.table)) (own s.table)) (found (gathered parts owner) s) js (further-stand tests.1) placed (standing-first kinds own parts owner fit stand s tests.0.0) in
    listed-means kinds own out q plain parts owner fit stand (with_sources kinds (first_source kinds s) js) all.0 all.1 (chained (found (gathered parts owner)) (found (gathered parts owner) s) js) all.2
    (kept-chained kinds q.conds (found (gathered parts owner)) wide (length (kinds s.table)) (found (gathered parts owner) s) js (wide s) implied
    ∙ kept-sources kinds q.conds (gathered parts owner) (gathered-wide kinds own parts owner fit stand) (sources_of s js) tests
    ∙ ap (λ ss. kept q.conds (product (map (gathered parts owner) ss))) (ap (λ l. s.table ∷ l) (same-tables js) ∙ sym sources))
    ∙ mean-SameBag q _ _ (gathered-SameBag parts owner owned)
  where
    wide : (s : Source) → AllByRecursion (IsWide (length (kinds s.table))) (found (gathered parts owner) s)
    wide = found-wide kinds q.conds (gathered parts owner) (gathered-wide kinds own parts owner fit stand)

    further-stand : SourcesStand kinds q.conds (0 + length (kinds s.table)) (map source_of js) → SourcesStand kinds q.conds (length (kinds s.table)) (map source_of js)
    further-stand h = subst (λ n. SourcesStand kinds q.conds n (map source_of js)) (zero_add (length (kinds s.table))) h
      where
        zero_add : (n : ℕ) → 0 + n ≡ n
        zero_add n = omega arith
