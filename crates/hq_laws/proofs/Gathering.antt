-- The plan that gathers each source means what its query means.
use Rattle.std.proofs.Common.{◌≡◌, ℕ, suc, ◌+◌, ◌<◌, Bool, true, false, cond, ◌||◌, ◌&&◌, List, [], ◌∷◌, ◌++◌, length, map, flat_map, refl, sym, ◌∙◌, ap, subst, arith, append_assoc}
use Rattle.std.specs.List.{list_any, AllByRecursion}
use Rattle.std.proofs.lemmas.List.{append-nil}
use Rattle.hq_value.specs.declared.kind.Kind.{Kind}
use Rattle.hq_value.specs.Order.{SameBag}
use Rattle.hq_algebra.specs.declared.op.Op.{Op}
use Rattle.hq_algebra.specs.declared.op.Op.TheVariants as op
use Rattle.hq_algebra.specs.declared.op.Op.TheBlock.{hidden-the_row-Op-0}
use Rattle.hq_algebra.specs.declared.plan.Motion.TheVariants as motion
use Rattle.hq_algebra.specs.declared.query.Query.{Query}
use denote.Hole.Carrier.{hidden}
use Rattle.hq_algebra.specs.Rules.{cannot_fault}
use Rattle.hq_algebra.specs.declared.expr.Expr.{Expr}
use Rattle.hq_algebra.specs.Plans.{is_gather, operators, received}
use Rattle.hq_meaning.specs.Rows.{Row, pairs, kept, faults_in}
use Rattle.hq_meaning.specs.Aggregates.{arguments_fault}
use Rattle.hq_meaning.specs.Groups.{some_leaves_64}
use Rattle.hq_meaning.specs.Mean.{answer_of, product, group_rows, having_rows, finished, faults, mean}
use Rattle.hq_meaning.specs.Nodes.{nodes_of, lowest}
use Rattle.hq_meaning.specs.Slices.{Here, rows_of, op_faults, receives}
use Rattle.hq_meaning.specs.Plans.{Parts, Sent, sent_by, all_rows, own_rows, here_at, runs_on, run_slice, run_slices, answer_after, plan_mean}
use Rattle.hq_meaning.proofs.Bags.{SameBag-equal}
use Rattle.hq_meaning.proofs.MeanLaw.{mean-SameBag}
use Rattle.hq_laws.specs.Words.{IsOwner}
use Rattle.hq_laws.specs.Stages.{filters, partial_op, final_op, sending}
use Rattle.hq_laws.specs.Gathered.{product_from, product_op, rest_op, scan_slice, tables_of, gathered_plan}
use Rattle.hq_laws.specs.Sources.{Source, source_op, SourcesStand}
use Rattle.hq_laws.specs.Spread.{FitKinds}
use Rattle.hq_laws.proofs.Products.{pairs-one, pairs-assoc, join-pairs}
use Rattle.hq_laws.proofs.Regroup.{flat_map-append}
use Rattle.hq_laws.proofs.Stages.{never, filters-rows, filters-faults, filters-receives, tail-receives, final-receives, partial-receives, tail-rows, tail-faults, faults-without_having, partials-fault, groups-bag, final-fault, both-steps}
use Rattle.hq_laws.proofs.Runs.{run-append, answer-push, gathered, gathered-SameBag}
use Rattle.hq_laws.proofs.Lists.{AllByRecursion-All, eq_self, or_false, any-left}
use Rattle.hq_laws.proofs.OverNodes.{kept-over}
use Rattle.hq_laws.proofs.Chains.{IsWide, AllByRecursion-flat_map, found, kept-sources}
use Rattle.hq_laws.proofs.Sourcing.{source-rows, source-faults, source-receives}

-- The sources.
module _ (kinds : ℕ → List Kind) (g : Source → List Row) (here : Here) where
  -- from slice i on the rows of these sources come
  abbrev pub Arrives : ℕ → List Source → Type 0
  Arrives i [] = Unit {0}
  Arrives i (s ∷ ss) = (here.sent i ≡ g s) × Arrives (suc i) ss

  join-rows : (before : Op) (i : ℕ) (ss : List Source) → Arrives i ss → rows_of (product_from kinds before i (tables_of ss)) here ≡ pairs (rows_of before here) (product (map g ss))
  unfolding hidden-the_row-Op-0 hidden
  join-rows before i [] come = sym (pairs-one (rows_of before here))
  join-rows before i (s ∷ ss) come =
      join-rows (op.Join [] [] before (op.Receive i (kinds s.table))) (suc i) ss come.1
      ∙ ap (λ l. pairs l (product (map g ss))) (join-pairs (rows_of before here) (here.sent i) ∙ ap (pairs (rows_of before here)) come.0)
      ∙ pairs-assoc (rows_of before here) (g s) (product (map g ss))

  join-faults : (before : Op) (i : ℕ) (ts : List ℕ) → op_faults (product_from kinds before i ts) here ≡ op_faults before here
  unfolding hidden-the_row-Op-0 hidden
  join-faults before i [] = refl
  join-faults before i (t ∷ ts) = join-faults (op.Join [] [] before (op.Receive i (kinds t))) (suc i) ts ∙ or_false (op_faults before here)

  sources-rows : (s : Source) (ss : List Source) → Arrives 0 (s ∷ ss) → rows_of (product_op kinds (tables_of (s ∷ ss))) here ≡ product (map g (s ∷ ss))
  sources-rows s ss come = join-rows (op.Receive 0 (kinds s.table)) 1 ss come.1 ∙ ap (λ l. pairs l (product (map g ss))) come.0

join-receives : (kinds : ℕ → List Kind) (p : ℕ → Bool) (before : Op) (i : ℕ) (ts : List ℕ) → list_any p (receives before) ≡ true → list_any p (receives (product_from kinds before i ts)) ≡ true
unfolding hidden-the_row-Op-0 hidden
join-receives kinds p before i [] h = h
join-receives kinds p before i (t ∷ ts) h = join-receives kinds p (op.Join [] [] before (op.Receive i (kinds t))) (suc i) ts
    (ap (list_any p) (flat_map-append received (operators before) (op.Receive i (kinds t) ∷ [])) ∙ any-left p (receives before) (i ∷ []) h)

-- The rest, on one node.
module _ (q : Query) (here : Here) (x : Op) (clean : op_faults x here ≡ false) where
  abbrev inner : Op
  inner = filters q.conds x

  abbrev rows : List Row
  rows = kept q.conds (rows_of x here)

  inner-bag : SameBag (flat_map (λ (n : ℕ). rows_of inner here) (0 ∷ [])) rows
  inner-bag = SameBag-equal _ _ (append-nil (rows_of inner here) ∙ filters-rows q.conds x here)

  inner-clean : (n : ℕ) → op_faults inner here ≡ false
  inner-clean n = filters-faults q.conds q.conds_fault_never x here ∙ clean

  come : rows_of (partial_op q inner) here ≡ flat_map (λ (n : ℕ). rows_of (partial_op q inner) here) (0 ∷ [])
  come = sym (append-nil (rows_of (partial_op q inner) here))

  groups : SameBag (rows_of (final_op q (partial_op q inner)) here) (group_rows q rows)
  groups = groups-bag q inner (λ n. here) (0 ∷ []) rows inner-bag inner-clean here (partial_op q inner) come

  rest-rows : rows_of (rest_op q x) here ≡ finished q rows
  rest-rows = tail-rows q here (final_op q (partial_op q inner)) rows groups

  partial-fault : op_faults (partial_op q inner) here ≡ (q.grouped && arguments_fault q.aggregates rows)
  partial-fault = sym (or_false (op_faults (partial_op q inner) here)) ∙ partials-fault q inner (λ n. here) (0 ∷ []) rows inner-bag inner-clean

  rest-faults : op_faults (rest_op q x) here ≡ faults q rows
  rest-faults =
      tail-faults q here (final_op q (partial_op q inner)) rows groups
      ∙ ap (λ b. b || faults_in q.items (having_rows q rows))
      (final-fault q inner (λ n. here) (0 ∷ []) rows inner-bag inner-clean here (partial_op q inner) come
      ∙ ap (λ b. b || (q.grouped && some_leaves_64 q.groups q.aggregates rows)) partial-fault ∙ both-steps q rows)
      ∙ faults-without_having q rows

pub rest-receives : (q : Query) (x : Op) → receives (rest_op q x) ≡ receives x
rest-receives q x = tail-receives q (final_op q (partial_op q (filters q.conds x))) ∙ final-receives q (partial_op q (filters q.conds x)) ∙ partial-receives q (filters q.conds x) ∙ filters-receives q.conds x

-- The slices.
abbrev Calm : List Source → Type 0
Calm ss = AllByRecursion (λ (s : Source). cannot_fault s.tests ≡ true) ss

calm-from : (kinds : ℕ → List Kind) (conds : List Expr) (w : ℕ) (ss : List Source) → SourcesStand kinds conds w ss → Calm ss
calm-from kinds conds w [] stand = tt
calm-from kinds conds w (s ∷ ss) stand = (stand.0.0, calm-from kinds conds (w + length (kinds s.table)) ss stand.1)

module _ (kinds : ℕ → List Kind) (q : Query) (parts : Parts) (owner : List ℕ) where
  abbrev rows_from : Source → List Row
  rows_from = found (gathered parts owner)

  abbrev scanned : Source → Sent
  scanned s = record { out = motion.Gather; rows = rows_from s; fault = false }

  on-nodes : (sents : List Sent) (s : Source) → runs_on owner sents (source_op kinds s.table s.tests) ≡ nodes_of owner
  on-nodes sents s = ap (λ is. cond (list_any (λ slice. is_gather (sent_by sents slice).out) is) (lowest owner ∷ []) (nodes_of owner)) (source-receives kinds s.table s.tests)

  scan-run : (sents : List Sent) (s : Source) → cannot_fault s.tests ≡ true → run_slice parts owner sents (scan_slice kinds s) ≡ scanned s
  scan-run sents s calm = λ i. record { out = motion.Gather; rows = given i; fault = faultless i }
    where
      given : flat_map (λ n. rows_of (source_op kinds s.table s.tests) (here_at parts owner sents n)) (runs_on owner sents (source_op kinds s.table s.tests)) ≡ rows_from s
      given = ap (flat_map (λ n. rows_of (source_op kinds s.table s.tests) (here_at parts owner sents n))) (on-nodes sents s)
          ∙ (λ i. flat_map (λ n. source-rows kinds s.table s.tests (here_at parts owner sents n) i) (nodes_of owner))
          ∙ kept-over s.tests (λ n. own_rows parts owner n s.table) (nodes_of owner)

      faultless : list_any (λ n. op_faults (source_op kinds s.table s.tests) (here_at parts owner sents n)) (runs_on owner sents (source_op kinds s.table s.tests)) ≡ false
      faultless = (λ i. list_any (λ n. source-faults kinds s.table s.tests calm (here_at parts owner sents n) i) (runs_on owner sents (source_op kinds s.table s.tests))) ∙ never (runs_on owner sents (source_op kinds s.table s.tests))

  run-scans : (sents : List Sent) (ss : List Source) → Calm ss → run_slices parts owner sents (map (scan_slice kinds) ss) ≡ sents ++ map scanned ss
  run-scans sents [] calm = sym (append-nil sents)
  run-scans sents (s ∷ ss) calm =
      ap (λ r. run_slices parts owner (sents ++ r ∷ []) (map (scan_slice kinds) ss)) (scan-run sents s calm.0)
      ∙ run-scans (sents ++ scanned s ∷ []) ss calm.1 ∙ append_assoc sents (scanned s ∷ []) (map scanned ss)

  scans-faultless : (ss : List Source) → list_any (λ (r : Sent). r.fault) (map scanned ss) ≡ false
  scans-faultless [] = refl
  scans-faultless (s ∷ ss) = scans-faultless ss

  at_place : (before : List Source) (s : Source) (ss : List Source) → (here_at parts owner (map scanned (before ++ s ∷ ss)) (lowest owner)).sent (length before) ≡ rows_from s
  at_place [] s ss = ap (λ b. cond b (rows_from s) []) (eq_self (lowest owner))
  at_place (b ∷ before) s ss = at_place before s ss

  module _ (all : List Source) where
    abbrev here : Here
    here = here_at parts owner (map scanned all) (lowest owner)

    arrive : (before : List Source) (i : ℕ) → i ≡ length before → (ss : List Source) → all ≡ before ++ ss → Arrives kinds rows_from here i ss
    arrive before i e [] split = tt
    arrive before i e (s ∷ ss) split = (
      (λ j. (here_at parts owner (map scanned (split j)) (lowest owner)).sent (e j)) ∙ at_place before s ss,
      arrive (before ++ s ∷ []) (suc i) (longer before s i e) ss (split ∙ sym (append_assoc before (s ∷ []) ss)),
    )
      where
        longer : (b : List Source) (s : Source) (i : ℕ) → i ≡ length b → suc i ≡ length (b ++ s ∷ [])
        longer b s i e = ap suc e ∙ count b s
          where
            count : (b : List Source) (s : Source) → suc (length b) ≡ length (b ++ s ∷ [])
            count [] s = refl
            count (x ∷ b) s = ap suc (count b s)

  module _ (s : Source) (ss : List Source) (calm : Calm (s ∷ ss)) where
    abbrev sents : List Sent
    sents = map scanned (s ∷ ss)

    abbrev product_root : Op
    product_root = product_op kinds (tables_of (s ∷ ss))

    abbrev root : Op
    root = rest_op q product_root

    abbrev rows_here : List Row
    rows_here = kept q.conds (product (map rows_from (s ∷ ss)))

    on_lowest : runs_on owner sents root ≡ lowest owner ∷ []
    on_lowest = ap (λ b. cond b (lowest owner ∷ []) (nodes_of owner))
        (ap (list_any (λ slice. is_gather (sent_by sents slice).out)) (rest-receives q product_root)
        ∙ join-receives kinds (λ slice. is_gather (sent_by sents slice).out) (op.Receive 0 (kinds s.table)) 1 (tables_of ss) refl)

    source : rows_of product_root (here (s ∷ ss)) ≡ product (map rows_from (s ∷ ss))
    source = sources-rows kinds rows_from (here (s ∷ ss)) s ss (arrive (s ∷ ss) [] 0 refl (s ∷ ss) refl)

    clean : op_faults product_root (here (s ∷ ss)) ≡ false
    clean = join-faults kinds rows_from (here (s ∷ ss)) (op.Receive 0 (kinds s.table)) 1 (tables_of ss)

    given : flat_map (λ n. rows_of root (here_at parts owner sents n)) (runs_on owner sents root) ≡ finished q rows_here
    given = ap (flat_map (λ n. rows_of root (here_at parts owner sents n))) on_lowest ∙ append-nil (rows_of root (here (s ∷ ss)))
        ∙ rest-rows q (here (s ∷ ss)) product_root clean ∙ ap (λ l. finished q (kept q.conds l)) source

    last_fault : list_any (λ n. op_faults root (here_at parts owner sents n)) (runs_on owner sents root) ≡ faults q rows_here
    last_fault = ap (list_any (λ n. op_faults root (here_at parts owner sents n))) on_lowest ∙ or_false (op_faults root (here (s ∷ ss)))
        ∙ rest-faults q (here (s ∷ ss)) product_root clean ∙ ap (λ l. faults q (kept q.conds l)) source

    whole_run : answer_after (run_slices parts owner [] (map (scan_slice kinds) (s ∷ ss) ++ sending motion.Result root ∷ [])) ≡ answer_of (faults q rows_here) (finished q rows_here)
    whole_run =
        ap answer_after (run-append parts owner [] (map (scan_slice kinds) (s ∷ ss)) (sending motion.Result root ∷ [])
        ∙ ap (λ rs. run_slices parts owner rs (sending motion.Result root ∷ [])) (run-scans [] (s ∷ ss) calm))
        ∙ answer-push sents (run_slice parts owner sents (sending motion.Result root))
        ∙ (λ i. answer_of (scans-faultless (s ∷ ss) i || last_fault i) (given i))

  by_sources : (ss : List Source) → Calm ss → 0 < length (tables_of ss) → answer_after (run_slices parts owner [] (map (scan_slice kinds) ss ++ sending motion.Result (rest_op q (product_op kinds (tables_of ss))) ∷ []))
      ≡ answer_of (faults q (kept q.conds (product (map rows_from ss)))) (finished q (kept q.conds (product (map rows_from ss))))
  by_sources [] calm some = absurd (omega arith)
  by_sources (s ∷ ss) calm some = whole_run s ss calm

pub gathered-plan-means : (kinds : ℕ → List Kind) (q : Query) (ss : List Source) (parts : Parts) (owner : List ℕ) → q.sources ≡ tables_of ss → IsOwner owner → FitKinds kinds parts → SourcesStand kinds q.conds 0 ss
    → plan_mean (gathered_plan kinds q ss) parts owner ≡ mean q (all_rows parts owner)
gathered-plan-means kinds q ss parts owner sources owned fit stand =
    by_sources kinds q parts owner ss (calm-from kinds q.conds 0 ss stand) (subst (λ l. 0 < length l) sources q.some_sources)
    ∙ ap (λ l. answer_of (faults q l) (finished q l)) (kept-sources kinds q.conds (gathered parts owner) wide ss stand ∙ ap (λ l. kept q.conds (product (map (gathered parts owner) l))) (sym sources))
    ∙ mean-SameBag q _ _ (gathered-SameBag parts owner owned)
  where
    wide : (t : ℕ) → AllByRecursion (IsWide (length (kinds t))) (gathered parts owner t)
    wide t = AllByRecursion-flat_map (IsWide (length (kinds t))) (λ n. own_rows parts owner n t) (λ n. AllByRecursion-flat_map (IsWide (length (kinds t))) (parts t) (λ b. AllByRecursion-All (IsWide (length (kinds t))) (parts t b) (fit t b)) _) (nodes_of owner)
