-- The plan that gathers each source is well formed.
use Rattle.std.proofs.Common.{◌≡◌, ℕ, suc, ◌+◌, ◌<◌, ◌≤◌, Bool, true, false, not, ◌&&◌, ◌||◌, List, [], ◌∷◌, ◌++◌, length, map, flat_map, Option, Some, None, is_some, refl, sym, ◌∙◌, ap, subst, arith, append_assoc, length-append, nat_le, slice_get, IsTrue}
use Rattle.std.specs.Option.{option_map_or}
use Rattle.std.specs.List.{list_any, list_all, range_with_len}
use Rattle.std.proofs.lemmas.List.{append-nil, length-map}
use Rattle.std.proofs.lemmas.List.Folds.{list_all-append}
use Rattle.hq_value.specs.declared.kind.Kind.{Kind}
use Rattle.hq_algebra.specs.declared.aggregate.Aggregate.{Aggregate}
use Rattle.hq_algebra.specs.declared.aggregate.Aggregate.TheVariants as agg
use Rattle.hq_algebra.specs.declared.op.Op.{Op}
use Rattle.hq_algebra.specs.declared.op.Op.TheVariants as op
use Rattle.hq_algebra.specs.declared.op.Op.TheBlock.{hidden-the_row-Op-0}
use Rattle.hq_algebra.specs.declared.plan.Slice.{Slice}
use Rattle.hq_algebra.specs.declared.plan.Motion.TheVariants as motion
use Rattle.hq_algebra.specs.declared.query.Query.{Query}
use denote.Hole.Carrier.{hidden}
use Rattle.hq_algebra.specs.Rules.{stands_over_pairs, fit_sources, is_count, sums_no_column, is_empty}
use Rattle.hq_algebra.specs.Kinds.{◌>>=◌}
use Rattle.hq_algebra.specs.Operators.{op_kinds}
use Rattle.hq_algebra.specs.Queries.{product_kinds, query_kinds}
use Rattle.hq_algebra.specs.Plans as form
use Rattle.hq_algebra.specs.Plans.{operators, received, is_short, is_join, op_is_fine, slice_is_fine, motion_is_fine, is_result, is_gather, ends_with_result, receives_what_is_sent, gathers, only_gathers, gathers_alone, fits_before, fit_in_order, ends_with_gather, receives_a_gather, all_operators, are_received_once, joins_without_counts, are_well_formed, is_well_formed}
use Rattle.hq_meaning.specs.Operators.{width}
use Rattle.hq_meaning.specs.Slices.{receives}
use Rattle.hq_laws.specs.Stages.{filters, partial_op, final_aggregate, final_aggregates, final_op, tail_op, sending}
use Rattle.hq_laws.specs.Gathered.{product_from, product_op, rest_op, scan_slice, tables_of, gathered_plan}
use Rattle.hq_laws.specs.Sources.{Source, source_op, fits_filter, fit_filters}
use Rattle.hq_algebra.specs.Bound.{is_table, are_few, has_room}
use Rattle.std.specs.List.{AllByRecursion}
use Rattle.hq_laws.proofs.Lists.{occurs, or_true, both_true}
use Rattle.hq_laws.proofs.Owners.{once-from}
use Rattle.hq_laws.proofs.Regroup.{flat_map-append}
use Rattle.hq_laws.proofs.Chains.{AllByRecursion-append}
use Rattle.hq_laws.proofs.Gathering.{rest-receives}
use Rattle.hq_laws.proofs.Sourcing.{source-kinds, source-receives}
use Rattle.hq_laws.proofs.SpreadForm.{source-fits, source-slice, source-pairs, source-no_join}
use Rattle.hq_laws.proofs.Typing.{Seen, seen-from, all_same_themselves, filters-kinds, final-kinds, tail-kinds}
use Rattle.hq_laws.proofs.Fitness.{Pass, every-filter, Ignores, through-partial, through-tail, filters-pass, partial-pass, final-pass, tail-pass, filters-count, partial-count, final-count, tail-count, conds-fine, partial-fine, final-fine, tail-fine}
use Rattle.hq_laws.proofs.Shapes.{result-push, fit-append, gather-push, any-received, all_received, received-once, all-operators, none-any, alone}

-- A test that the operators of the product pass: it holds of each Receive of a source, and of a join without keys.
module _ (kinds : ℕ → List Kind) (all : List ℕ) (P : Op → Bool) (own : (done : List ℕ) (t : ℕ) (rest : List ℕ) → all ≡ done ++ t ∷ rest → P (op.Receive (length done) (kinds t)) ≡ true) (join : (x y : Op) → P (op.Join [] [] x y) ≡ true) where
  longer : (done : List ℕ) (t i : ℕ) → i ≡ length done → suc i ≡ length (done ++ t ∷ [])
  longer done t i e = ap suc e ∙ count done t
    where
      count : (b : List ℕ) (t : ℕ) → suc (length b) ≡ length (b ++ t ∷ [])
      count [] t = refl
      count (x ∷ b) t = ap suc (count b t)

  from-pass : (before : Op) → Pass P before → (done ts : List ℕ) → all ≡ done ++ ts → (i : ℕ) → i ≡ length done → Pass P (product_from kinds before i ts)
  unfolding hidden-the_row-Op-0 hidden
  from-pass before h done [] split i e = h
  from-pass before h done (t ∷ ts) split i e =
      from-pass (op.Join [] [] before (op.Receive i (kinds t)))
      (λ j. join before (op.Receive i (kinds t)) j && (list_all-append P (operators before) (op.Receive i (kinds t) ∷ [])
      ∙ (λ k. h k && ((ap (λ n. P (op.Receive n (kinds t))) e ∙ own done t ts split) k && true))) j)
      (done ++ t ∷ []) ts (split ∙ sym (append_assoc done (t ∷ []) ts)) (suc i) (longer done t i e)

  pub product-pass : (t : ℕ) (ts : List ℕ) → all ≡ t ∷ ts → Pass P (product_op kinds (t ∷ ts))
  product-pass t ts e = from-pass (op.Receive 0 (kinds t)) (λ i. own [] t ts e i && true) (t ∷ []) ts e 1 refl

-- aggregates that stand over pairs
pairs-partial : (q : Query) → list_all stands_over_pairs q.aggregates ≡ true → (x : Op) → form.stands_over_pairs (op.Partial q.groups q.aggregates x) ≡ true
unfolding hidden-the_row-Op-0 hidden
pairs-partial q h x = h

pairs-final : (q : Query) → list_all stands_over_pairs q.aggregates ≡ true → (x : Op) → form.stands_over_pairs (op.Final (length q.groups) (final_aggregates (length q.groups) q.aggregates) x) ≡ true
unfolding hidden-the_row-Op-0 hidden
pairs-final q h x = no-counts (length q.groups) q.aggregates h
  where
    one : (at : ℕ) (a : Aggregate) → not (is_count a) ≡ true → not (is_count (final_aggregate at a)) ≡ true
    one at agg.CountAll e = e
    one at (agg.Count y) e = e
    one at (agg.Sum y) e = refl
    one at (agg.Min y) e = refl
    one at (agg.Max y) e = refl

    no-counts : (at : ℕ) (aggs : List Aggregate) → list_all stands_over_pairs aggs ≡ true → list_all (λ a. not (is_count a)) (final_aggregates at aggs) ≡ true
    no-counts at [] e = refl
    no-counts at (a ∷ aggs) e =
        let b : (stands_over_pairs a ≡ true) × (list_all stands_over_pairs aggs ≡ true) = both_true (stands_over_pairs a) _ e in
        let c : (not (is_count a) ≡ true) × (not (sums_no_column a) ≡ true) = both_true (not (is_count a)) _ b.0 in
        λ i. one at a c.0 i && no-counts (at + width a) aggs b.1 i

pub pairs-middle : (q : Query) → list_all stands_over_pairs q.aggregates ≡ true → (x : Op) → Pass form.stands_over_pairs x → Pass form.stands_over_pairs (partial_op q (filters q.conds x))
pairs-middle q over x h = partial-pass form.stands_over_pairs q (pairs-partial q over) (filters q.conds x) (filters-pass form.stands_over_pairs q.conds (every-filter form.stands_over_pairs (λ c x. refl) q.conds) x h)

pub pairs-tail : (q : Query) → list_all stands_over_pairs q.aggregates ≡ true → (x : Op) → Pass form.stands_over_pairs x → Pass form.stands_over_pairs (tail_op q (final_op q x))
pairs-tail q over x h = tail-pass form.stands_over_pairs q (every-filter form.stands_over_pairs (λ c x. refl) q.having) (λ x. refl) (λ x. refl) (λ x. refl) (final_op q x) (final-pass form.stands_over_pairs q (pairs-final q over) x h)

pub not-joins : Ignores (λ o. not (is_join o))
not-joins = record { filter = λ c x. refl; partial = λ keys aggs x. refl; final = λ n aggs x. refl; project = λ items x. refl; distinct = λ x. refl; sort = λ order limit x. refl }

-- a slice that was found gathers
abbrev gather_of : Option Slice → Bool
gather_of o = option_map_or (λ (s : Slice). is_gather s.out) o false

module _ (kinds : ℕ → List Kind) where
  from-count : (before : Op) (i : ℕ) (ts : List ℕ) → length (operators (product_from kinds before i ts)) ≡ length (operators before) + (length ts + length ts)
  unfolding hidden-the_row-Op-0 hidden
  from-count before i [] = omega arith
  from-count before i (t ∷ ts) =
      let rest : length (operators (product_from kinds (op.Join [] [] before (op.Receive i (kinds t))) (suc i) ts)) ≡ suc (length (operators before ++ op.Receive i (kinds t) ∷ [])) + (length ts + length ts) = from-count (op.Join [] [] before (op.Receive i (kinds t))) (suc i) ts in
      let more : length (operators before ++ op.Receive i (kinds t) ∷ []) ≡ length (operators before) + 1 = length-append (operators before) (op.Receive i (kinds t) ∷ []) in
      omega (arith, rest, more)

  from-kinds : (before : Op) (ks : List Kind) (i : ℕ) (ts : List ℕ) → op_kinds before ≡ Some ks → op_kinds (product_from kinds before i ts) ≡ Some (ks ++ flat_map kinds ts)
  unfolding hidden-the_row-Op-0 hidden
  from-kinds before ks i [] h = h ∙ ap Some (sym (append-nil ks))
  from-kinds before ks i (t ∷ ts) h =
      from-kinds (op.Join [] [] before (op.Receive i (kinds t))) (ks ++ kinds t) (suc i) ts (λ j. h j >>= (λ ls. Some (ls ++ kinds t)))
      ∙ ap Some (append_assoc ks (kinds t) (flat_map kinds ts))

  from-receives : (before : Op) (i : ℕ) (ts : List ℕ) → receives (product_from kinds before i ts) ≡ receives before ++ range_with_len i (length ts)
  unfolding hidden-the_row-Op-0 hidden
  from-receives before i [] = sym (append-nil (receives before))
  from-receives before i (t ∷ ts) =
      from-receives (op.Join [] [] before (op.Receive i (kinds t))) (suc i) ts
      ∙ ap (λ l. l ++ range_with_len (suc i) (length ts)) (flat_map-append received (operators before) (op.Receive i (kinds t) ∷ []))
      ∙ append_assoc (receives before) (i ∷ []) (range_with_len (suc i) (length ts))
      ∙ ap (λ n. receives before ++ i ∷ range_with_len n (length ts)) (next i)
    where
      next : (i : ℕ) → suc i ≡ i + 1
      next i = omega arith

  scans-out : (ss : List Source) → AllByRecursion (λ (s : Slice). is_result s.out ≡ false) (map (scan_slice kinds) ss)
  scans-out [] = tt
  scans-out (s ∷ ss) = (refl, scans-out ss)

  short : (n : ℕ) → nat_le n 64 ≡ true → nat_le n 65535 ≡ true
  short n h = grind arith

  scans-fit : (before : List Slice) (ss : List Source) → fit_filters kinds ss ≡ true → fit_in_order before (map (scan_slice kinds) ss) ≡ true
  scans-fit before [] h = refl
  scans-fit before (s ∷ ss) h =
      let b : (fits_filter (kinds s.table) s.tests ≡ true) × (fit_filters kinds ss ≡ true) = both_true (fits_filter (kinds s.table) s.tests) (fit_filters kinds ss) h in
      λ i. source-fits kinds s.table s.tests b.0 before motion.Gather i && scans-fit (before ++ scan_slice kinds s ∷ []) ss b.1 i

  scans-move : (ss : List Source) → list_all motion_is_fine (map (scan_slice kinds) ss) ≡ true
  scans-move [] = refl
  scans-move (s ∷ ss) = scans-move ss

  scans-receive : (ss : List Source) → all_received (map (scan_slice kinds) ss) ≡ []
  scans-receive [] = refl
  scans-receive (s ∷ ss) = λ i. source-receives kinds s.table s.tests i ++ scans-receive ss i

  scans-operators : (p : Op → Bool) → ((s : Source) → fits_filter (kinds s.table) s.tests ≡ true → Pass p (source_op kinds s.table s.tests)) → (ss : List Source) → fit_filters kinds ss ≡ true → AllByRecursion (λ (s : Slice). list_all p (operators s.root) ≡ true) (map (scan_slice kinds) ss)
  scans-operators p h [] g = tt
  scans-operators p h (s ∷ ss) g =
      let b : (fits_filter (kinds s.table) s.tests ≡ true) × (fit_filters kinds ss ≡ true) = both_true (fits_filter (kinds s.table) s.tests) (fit_filters kinds ss) g in
      (h s b.0, scans-operators p h ss b.1)

  scans-fine : (ss : List Source) → list_all (λ t. is_table (kinds t)) (tables_of ss) ≡ true → fit_filters kinds ss ≡ true → list_all slice_is_fine (map (scan_slice kinds) ss) ≡ true
  scans-fine [] h g = refl
  scans-fine (s ∷ ss) h g =
      let a : (is_table (kinds s.table) ≡ true) × (list_all (λ t. is_table (kinds t)) (tables_of ss) ≡ true) = both_true (is_table (kinds s.table)) _ h in
      let b : (nat_le 1 (length (kinds s.table)) ≡ true) × (nat_le (length (kinds s.table)) 64 ≡ true) = both_true (nat_le 1 (length (kinds s.table))) _ a.0 in
      let c : (fits_filter (kinds s.table) s.tests ≡ true) × (fit_filters kinds ss ≡ true) = both_true (fits_filter (kinds s.table) s.tests) (fit_filters kinds ss) g in
      λ i. source-slice kinds s.table s.tests c.0 motion.Gather (short (length (kinds s.table)) b.1) i && scans-fine ss a.1 c.1 i

  -- the slice at the place of a source
  scan-kinds : (ss : List Source) → fit_filters kinds ss ≡ true → (done : List ℕ) (t : ℕ) (rest : List ℕ) → tables_of ss ≡ done ++ t ∷ rest → (slice_get (map (scan_slice kinds) ss) (length done) >>= (λ s. op_kinds s.root)) ≡ Some (kinds t)
  scan-kinds [] g [] t rest e = cc
  scan-kinds [] g (d ∷ done) t rest e = cc
  scan-kinds (s ∷ ss) g [] t rest e =
      let b : (fits_filter (kinds s.table) s.tests ≡ true) × (fit_filters kinds ss ≡ true) = both_true (fits_filter (kinds s.table) s.tests) (fit_filters kinds ss) g in
      let u : s.table ≡ t = cc in source-kinds kinds s.table s.tests b.0 ∙ ap (λ t. Some (kinds t)) u
  scan-kinds (s ∷ ss) g (d ∷ done) t rest e =
      let b : (fits_filter (kinds s.table) s.tests ≡ true) × (fit_filters kinds ss ≡ true) = both_true (fits_filter (kinds s.table) s.tests) (fit_filters kinds ss) g in
      let u : tables_of ss ≡ done ++ t ∷ rest = cc in scan-kinds ss b.1 done t rest u

  scan-gathers : (ss : List Source) (done : List ℕ) (t : ℕ) (rest : List ℕ) → tables_of ss ≡ done ++ t ∷ rest → gather_of (slice_get (map (scan_slice kinds) ss) (length done)) ≡ true
  scan-gathers [] [] t rest e = cc
  scan-gathers [] (d ∷ done) t rest e = cc
  scan-gathers (s ∷ ss) [] t rest e = refl
  scan-gathers (s ∷ ss) (d ∷ done) t rest e = let u : tables_of ss ≡ done ++ t ∷ rest = cc in scan-gathers ss done t rest u

  some-kinds : (ks : List Kind) → nat_le 1 (length ks) ≡ true → not (is_empty ks) ≡ true
  some-kinds [] h = let u : false ≡ true = none 0 h in cc
    where
      none : (n : ℕ) → nat_le 1 0 ≡ true → false ≡ true
      none n h = grind arith
  some-kinds (k ∷ ks) h = refl

  table-at : (done : List ℕ) (t : ℕ) (rest : List ℕ) → list_all (λ t. is_table (kinds t)) (done ++ t ∷ rest) ≡ true → is_table (kinds t) ≡ true
  table-at [] t rest h = (both_true (is_table (kinds t)) _ h).0
  table-at (d ∷ done) t rest h = table-at done t rest (both_true (is_table (kinds d)) _ h).1

  module _ (q : Query) (out : List Kind) (fits : query_kinds kinds q ≡ Some out) (few : are_few q ≡ true) (groups : is_short q.groups ≡ true) (aggregates : is_short q.aggregates ≡ true) (order : is_short q.order ≡ true)
      (s : Source) (us : List Source) (sources : q.sources ≡ tables_of (s ∷ us)) (tables : list_all (λ t. is_table (kinds t)) (tables_of (s ∷ us)) ≡ true) (filter : fit_filters kinds (s ∷ us) ≡ true) where
    abbrev t : ℕ
    t = s.table

    abbrev ts : List ℕ
    ts = tables_of us

    abbrev all : List ℕ
    all = t ∷ ts

    abbrev scans : List Slice
    scans = map (scan_slice kinds) (s ∷ us)

    abbrev root : Op
    root = rest_op q (product_op kinds all)

    seen : Seen (product_kinds kinds q) q out
    seen = seen-from kinds q out fits

    product-kinds : op_kinds (product_op kinds all) ≡ Some (product_kinds kinds q)
    product-kinds = from-kinds (op.Receive 0 (kinds t)) (kinds t) 1 ts refl ∙ ap (λ ss. Some (flat_map kinds ss)) (sym sources)

    root-kinds : op_kinds root ≡ Some out
    root-kinds =
        let inner : op_kinds (filters q.conds (product_op kinds all)) ≡ Some (product_kinds kinds q) = filters-kinds (product_kinds kinds q) q.conds seen.conds (product_op kinds all) product-kinds in
        tail-kinds (product_kinds kinds q) q out seen (final_op q (partial_op q (filters q.conds (product_op kinds all))))
        (final-kinds (product_kinds kinds q) q seen.seen seen.found (filters q.conds (product_op kinds all)) (partial_op q (filters q.conds (product_op kinds all))) inner refl)

    few-operators : nat_le (length (operators root)) 64 ≡ true
    few-operators = count _ _ _ _ _ _ _ (tail-count q (final_op q (partial_op q (filters q.conds (product_op kinds all))))) (final-count q (partial_op q (filters q.conds (product_op kinds all)))) (partial-count q (filters q.conds (product_op kinds all)))
        (filters-count q.conds (product_op kinds all)) (from-count (op.Receive 0 (kinds t)) 1 ts) few (subst (λ ss. length ss ≤ 8) sources q.few_sources)
      where
        count : (c h p f g s n : ℕ) → n ≤ h + f + 3 → f ≤ suc g → g ≤ suc s → s ≡ c + p → p ≡ 1 + (length ts + length ts) → nat_le (c + h) 40 ≡ true → suc (length ts) ≤ 8 → nat_le n 64 ≡ true
        count c h p f g s n a b d e k l m = grind arith

    receive-fine : (done : List ℕ) (u : ℕ) (rest : List ℕ) → all ≡ done ++ u ∷ rest → op_is_fine (op.Receive (length done) (kinds u)) ≡ true
    receive-fine done u rest split =
        let b : (nat_le 1 (length (kinds u)) ≡ true) × (nat_le (length (kinds u)) 64 ≡ true) = both_true (nat_le 1 (length (kinds u))) _ (table-at done u rest (ap (list_all (λ t. is_table (kinds t))) (sym split) ∙ tables)) in
        short (length (kinds u)) b.1

    root-fine : Pass op_is_fine root
    root-fine = tail-fine q groups aggregates order (final_op q (partial_op q (filters q.conds (product_op kinds all))))
        (final-fine q groups aggregates order (partial_op q (filters q.conds (product_op kinds all)))
        (partial-fine q groups aggregates order (filters q.conds (product_op kinds all))
        (conds-fine q (product_op kinds all) (product-pass kinds all op_is_fine receive-fine join-fine t ts refl))))
      where
        join-fine : (x y : Op) → op_is_fine (op.Join [] [] x y) ≡ true
        join-fine x y = refl

    abbrev last : Slice
    last = sending motion.Result root

    -- the last slice fits those before it
    received-sent : Pass (receives_what_is_sent scans) root
    received-sent = through-tail (receives_what_is_sent scans) ignores q (partial_op q (filters q.conds (product_op kinds all)))
        (through-partial (receives_what_is_sent scans) ignores q (product_op kinds all) (product-pass kinds all (receives_what_is_sent scans) own (λ x y. refl) t ts refl))
      where
        ignores : Ignores (receives_what_is_sent scans)
        ignores = record { filter = λ c x. refl; partial = λ keys aggs x. refl; final = λ n aggs x. refl; project = λ items x. refl; distinct = λ x. refl; sort = λ order limit x. refl }

        own : (done : List ℕ) (u : ℕ) (rest : List ℕ) → all ≡ done ++ u ∷ rest → receives_what_is_sent scans (op.Receive (length done) (kinds u)) ≡ true
        own done u rest split =
            let b : (nat_le 1 (length (kinds u)) ≡ true) × (nat_le (length (kinds u)) 64 ≡ true) = both_true (nat_le 1 (length (kinds u))) _ (table-at done u rest (ap (list_all (λ t. is_table (kinds t))) (sym split) ∙ tables)) in
            ap (form.are_sent (kinds u)) (scan-kinds (s ∷ us) filter done u rest split)
            ∙ (λ i. all_same_themselves (kinds u) i && some-kinds (kinds u) b.0 i)

    only-gathers : Pass (only_gathers scans) root
    only-gathers = through-tail (only_gathers scans) ignores q (partial_op q (filters q.conds (product_op kinds all)))
        (through-partial (only_gathers scans) ignores q (product_op kinds all) (product-pass kinds all (only_gathers scans) own (λ x y. refl) t ts refl))
      where
        ignores : Ignores (only_gathers scans)
        ignores = record { filter = λ c x. refl; partial = λ keys aggs x. refl; final = λ n aggs x. refl; project = λ items x. refl; distinct = λ x. refl; sort = λ order limit x. refl }

        own : (done : List ℕ) (u : ℕ) (rest : List ℕ) → all ≡ done ++ u ∷ rest → only_gathers scans (op.Receive (length done) (kinds u)) ≡ true
        own done u rest split = ap (λ b. b && true) (scan-gathers (s ∷ us) done u rest split)

    root-receives : receives root ≡ range_with_len 0 (suc (length ts))
    root-receives = rest-receives q (product_op kinds all) ∙ from-receives (op.Receive 0 (kinds t)) 1 ts

    gathers-last : list_any (receives_a_gather scans) (operators root) ≡ true
    gathers-last = any-received scans root ∙ ap (list_any (gathers scans)) root-receives

    once : (i : ℕ) → i < suc (length ts) → occurs i (all_received (scans ++ last ∷ [])) ≡ 1
    once i h =
        ap (occurs i) (flat_map-append (λ (s : Slice). receives s.root) scans (last ∷ [])
        ∙ (λ j. scans-receive (s ∷ us) j ++ append-nil (receives root) j) ∙ root-receives)
        ∙ once-from i 0 (suc (length ts)) (omega arith) (omega arith)

    single : ts ≡ [] → Pass (λ o. not (is_join o)) root
    single e = through-tail (λ o. not (is_join o)) not-joins q (partial_op q (filters q.conds (product_op kinds all)))
        (through-partial (λ o. not (is_join o)) not-joins q (product_op kinds all) (ap (λ us. list_all (λ o. not (is_join o)) (operators (product_op kinds (t ∷ us)))) e))

    several : (u : ℕ) (rest : List ℕ) → ts ≡ u ∷ rest → Pass form.stands_over_pairs root
    several u rest e = pairs-tail q over (partial_op q (filters q.conds (product_op kinds all))) (pairs-middle q over (product_op kinds all) (product-pass kinds all form.stands_over_pairs (λ done u rest split. refl) (λ x y. refl) t ts refl))
      where
        over : list_all stands_over_pairs q.aggregates ≡ true
        over = ap (λ ss. fit_sources ss q.aggregates) (sym (sources ∙ ap (λ l. t ∷ l) e)) ∙ q.counts_of_one

    -- with one source there is no join, with more of them no count
    without-counts : joins_without_counts (all_operators (scans ++ last ∷ [])) ≡ true
    without-counts = by ts refl
      where
        by : (rest : List ℕ) → ts ≡ rest → joins_without_counts (all_operators (scans ++ last ∷ [])) ≡ true
        by [] e = ap (λ b. not b || list_all form.stands_over_pairs (all_operators (scans ++ last ∷ []))) (none-any is_join (all_operators (scans ++ last ∷ [])) (all-operators (λ o. not (is_join o)) (scans ++ last ∷ [])
            (AllByRecursion-append (λ (s : Slice). list_all (λ o. not (is_join o)) (operators s.root) ≡ true) scans (last ∷ []) (scans-operators (λ o. not (is_join o)) (λ z g. source-no_join kinds z.table z.tests g) (s ∷ us) filter) (single e, tt))))
        by (u ∷ rest) e = ap (λ b. not (list_any is_join (all_operators (scans ++ last ∷ []))) || b) (all-operators form.stands_over_pairs (scans ++ last ∷ [])
            (AllByRecursion-append (λ (s : Slice). list_all form.stands_over_pairs (operators s.root) ≡ true) scans (last ∷ []) (scans-operators form.stands_over_pairs (λ z g. source-pairs kinds z.table z.tests g) (s ∷ us) filter) (several u rest e, tt)))
            ∙ or_true (not (list_any is_join (all_operators (scans ++ last ∷ []))))

    two-to-64 : (n : ℕ) → suc n ≤ 8 → (m : ℕ) → m ≡ suc n + 1 → (nat_le 2 m && nat_le m 64) ≡ true
    two-to-64 n h m e = grind arith

    pub well-formed : are_well_formed (scans ++ last ∷ []) ≡ true
    well-formed =
        let size : length (scans ++ last ∷ []) ≡ suc (length ts) + 1 = length-append scans (last ∷ []) ∙ ap (λ n. n + 1) (length-map (s ∷ us) (scan_slice kinds) ∙ ap suc (sym (length-map us (λ (s : Source). s.table)))) in
        let many : (nat_le 2 (length (scans ++ last ∷ [])) ≡ true) × (nat_le (length (scans ++ last ∷ [])) 64 ≡ true) =
        both_true _ _ (two-to-64 (length ts) (subst (λ ss. length ss ≤ 8) sources q.few_sources) (length (scans ++ last ∷ [])) size) in
        let fine : list_all slice_is_fine (scans ++ last ∷ []) ≡ true =
        list_all-append slice_is_fine scans (last ∷ []) ∙ (λ i. scans-fine (s ∷ us) tables filter i && ((few-operators i && (root-fine i && is_some (root-kinds i))) && true)) in
        let move : list_all motion_is_fine (scans ++ last ∷ []) ≡ true = list_all-append motion_is_fine scans (last ∷ []) ∙ (λ i. scans-move (s ∷ us) i && true) in
        let order_fits : fit_in_order [] (scans ++ last ∷ []) ≡ true =
        fit-append [] scans (last ∷ []) ∙ (λ i. scans-fit [] (s ∷ us) filter i && ((received-sent i && alone scans (operators root) only-gathers i) && true)) in
        λ i. many.0 i && (many.1 i && (result-push scans last (scans-out (s ∷ us)) refl i && (fine i && (move i && (order_fits i
        && ((gather-push [] scans last ∙ gathers-last) i && (received-once (scans ++ last ∷ []) (suc (length ts)) (size ∙ one_more (length ts)) once i && without-counts i)))))))
      where
        one_more : (n : ℕ) → suc n + 1 ≡ suc (suc n)
        one_more n = omega arith

pub gathered-well_formed : (kinds : ℕ → List Kind) (q : Query) (ss : List Source) → q.sources ≡ tables_of ss → IsTrue (is_some (query_kinds kinds q)) → IsTrue (has_room kinds q) → IsTrue (fit_filters kinds ss) → IsTrue (is_well_formed (gathered_plan kinds q ss))
gathered-well_formed kinds q ss sources fits room filter = by_kinds (query_kinds kinds q) refl fits
  where
    b : (list_all (λ t. is_table (kinds t)) q.sources ≡ true) × ((are_few q && (is_short q.groups && (is_short q.aggregates && is_short q.order))) ≡ true)
    b = both_true (list_all (λ t. is_table (kinds t)) q.sources) _ room

    c : (are_few q ≡ true) × ((is_short q.groups && (is_short q.aggregates && is_short q.order)) ≡ true)
    c = both_true (are_few q) _ b.1

    d : (is_short q.groups ≡ true) × ((is_short q.aggregates && is_short q.order) ≡ true)
    d = both_true (is_short q.groups) _ c.1

    e : (is_short q.aggregates ≡ true) × (is_short q.order ≡ true)
    e = both_true (is_short q.aggregates) _ d.1

    by_sources : (out : List Kind) → query_kinds kinds q ≡ Some out → (ss : List Source) → fit_filters kinds ss ≡ true → q.sources ≡ tables_of ss → 0 < length (tables_of ss) → are_well_formed (map (scan_slice kinds) ss ++ sending motion.Result (rest_op q (product_op kinds (tables_of ss))) ∷ []) ≡ true
    by_sources out f [] g s some = absurd (omega arith)
    by_sources out f (u ∷ us) g s some = well-formed kinds q out f c.0 d.0 e.0 e.1 u us s (subst (λ ss. list_all (λ t. is_table (kinds t)) ss ≡ true) s b.0) g

    by_kinds : (o : Option (List Kind)) → query_kinds kinds q ≡ o → is_some o ≡ true → are_well_formed (map (scan_slice kinds) ss ++ sending motion.Result (rest_op q (product_op kinds (tables_of ss))) ∷ []) ≡ true
    by_kinds None f h = cc
    by_kinds (Some out) f h = by_sources out f ss filter sources (subst (λ l. 0 < length l) sources q.some_sources)
