-- The plan that joins and groups on all nodes is well formed, with its last two slices.
use Rattle.std.proofs.Common.{◌≡◌, ℕ, suc, ◌+◌, ◌<◌, ◌≤◌, ◌==◌, Bool, true, false, not, cond, ◌&&◌, ◌||◌, ◌⊎◌, inl, inr, List, [], ◌∷◌, ◌++◌, length, map, flat_map, Option, Some, None, is_some, refl, sym, ◌∙◌, ap, subst, arith, append_assoc, length-append, nat_le, nat_lt, slice_get, IsTrue}
use Rattle.std.specs.Option.{option_map_or}
use Rattle.std.specs.List.{list_any, list_all}
use Rattle.std.proofs.lemmas.List.{append-nil, length-map}
use Rattle.std.proofs.lemmas.List.Folds.{list_all-append}
use Rattle.hq_value.specs.declared.kind.Kind.{Kind}
use Rattle.hq_algebra.specs.declared.op.Op.{Op}
use Rattle.hq_algebra.specs.declared.op.Op.TheVariants as op
use Rattle.hq_algebra.specs.declared.op.Op.TheBlock.{hidden-the_row-Op-0}
use Rattle.hq_algebra.specs.declared.plan.Slice.{Slice}
use Rattle.hq_algebra.specs.declared.plan.Motion.TheVariants as motion
use Rattle.hq_algebra.specs.declared.query.Query.{Query}
use denote.Hole.Carrier.{hidden}
use Rattle.hq_algebra.specs.Rules.{stands_over_pairs, fit_sources, is_empty}
use Rattle.hq_algebra.specs.Kinds.{◌>>=◌}
use Rattle.hq_algebra.specs.Operators.{op_kinds, join_kinds, partial_kinds}
use Rattle.hq_algebra.specs.Queries.{product_kinds, query_kinds}
use Rattle.hq_algebra.specs.Plans as form
use Rattle.hq_algebra.specs.Plans.{operators, is_short, is_join, op_is_fine, slice_is_fine, motion_is_fine, is_result, is_gather, ends_with_result, receives_what_is_sent, gathers, only_gathers, gathers_alone, fits_before, fit_in_order, ends_with_gather, receives_a_gather, all_operators, are_received_once, joins_without_counts, are_well_formed, is_well_formed}
use Rattle.hq_meaning.specs.Slices.{receives}
use Rattle.hq_laws.specs.Stages.{filters, partial_op, final_op, tail_op, sending}
use Rattle.hq_laws.specs.Spread.{Joining, source_of, sources_of, Built, first_source, with_source, with_sources, spread_plan}
use Rattle.hq_laws.specs.Sources.{Source, fits_filter, fit_filters}
use Rattle.hq_algebra.specs.Bound.{is_table, are_few, has_room}
use Rattle.hq_laws.specs.Room.{way_stands, is_joinable, are_joinable, kinds_sent, is_sendable}
use Rattle.std.specs.List.{AllByRecursion}
use Rattle.hq_laws.proofs.Lists.{occurs, occurs-append, or_true, both_true}
use Rattle.hq_laws.proofs.Regroup.{flat_map-append}
use Rattle.hq_laws.proofs.Chains.{AllByRecursion-append}
use Rattle.hq_laws.proofs.Stages.{filters-receives, partial-receives, final-receives, tail-receives}
use Rattle.hq_laws.proofs.Typing.{Seen, seen-from, filters-kinds, final-kinds, tail-kinds}
use Rattle.hq_laws.proofs.Fitness.{Pass, Ignores, through-partial, through-tail, filters-count, partial-count, final-count, tail-count, conds-fine, partial-fine, final-fine, tail-fine}
use Rattle.hq_laws.proofs.Shapes.{result-push, fit-append, gather-push, any-received, all_received, received-once, all-operators, none-any, alone}
use Rattle.hq_laws.proofs.GatheredForm.{pairs-middle, pairs-tail, not-joins}
use Rattle.hq_laws.proofs.SpreadForm.{Formed, formed-first, formed-by, source-no_join, receives-none, place, sent-there}

-- one source more, and all of them
formed-next : (kinds : ℕ → List Kind) (b : Built) (k : ℕ) → Formed kinds b k → k ≤ 7 → (j : Joining) → is_table (kinds j.table) ≡ true → is_joinable b.kinds (kinds j.table) j ≡ true → fits_filter (kinds j.table) j.tests ≡ true → Formed kinds (with_source kinds b j) (suc k)
formed-next kinds b k f seven j table joinable filter =
    let a : (is_some (join_kinds j.left_keys j.right_keys b.kinds (kinds j.table)) ≡ true) × (((is_short j.left_keys && is_short j.right_keys) && way_stands j.way b.kinds (kinds j.table) j.left_keys j.right_keys) ≡ true) = both_true _ _ joinable in
    let c : ((is_short j.left_keys && is_short j.right_keys) ≡ true) × (way_stands j.way b.kinds (kinds j.table) j.left_keys j.right_keys ≡ true) = both_true _ _ a.1 in
    let d : (is_short j.left_keys ≡ true) × (is_short j.right_keys ≡ true) = both_true _ _ c.0 in
    formed-by kinds b k f seven j.table j.tests filter j.left_keys j.right_keys table a.0 d.0 d.1 j.way c.1

formed-all : (kinds : ℕ → List Kind) (b : Built) (k : ℕ) → Formed kinds b k → (js : List Joining) → k + length js ≤ 7 → list_all (λ t. is_table (kinds t)) (map (λ (j : Joining). j.table) js) ≡ true → are_joinable kinds b.kinds js ≡ true → fit_filters kinds (map source_of js) ≡ true
    → (m : ℕ) × (m ≤ 7) × Formed kinds (with_sources kinds b js) m
formed-all kinds b k f [] seven tables joinable filters = (k, omega (arith, seven), f)
formed-all kinds b k f (j ∷ js) seven tables joinable filters =
    let g : (fits_filter (kinds j.table) j.tests ≡ true) × (fit_filters kinds (map source_of js) ≡ true) = both_true (fits_filter (kinds j.table) j.tests) (fit_filters kinds (map source_of js)) filters in
    let a : (is_table (kinds j.table) ≡ true) × (list_all (λ t. is_table (kinds t)) (map (λ (j : Joining). j.table) js) ≡ true) = both_true _ _ tables in
    let c : (is_joinable b.kinds (kinds j.table) j ≡ true) × (are_joinable kinds (b.kinds ++ kinds j.table) js ≡ true) = both_true _ _ joinable in
    formed-all kinds (with_source kinds b j) (suc k) (formed-next kinds b k f (omega (arith, seven)) j a.0 c.0 g.0) js (omega (arith, seven)) a.1 c.1 g.1

with_sources-kinds : (kinds : ℕ → List Kind) (b : Built) (js : List Joining) → (with_sources kinds b js).kinds ≡ b.kinds ++ flat_map kinds (map (λ (j : Joining). j.table) js)
with_sources-kinds kinds b [] = sym (append-nil b.kinds)
with_sources-kinds kinds b (j ∷ js) = with_sources-kinds kinds (with_source kinds b j) js ∙ append_assoc b.kinds (kinds j.table) (flat_map kinds (map (λ (j : Joining). j.table) js))

-- no join stands in what is built
abbrev HasNoJoin : Built → Type 0
HasNoJoin b = AllByRecursion (λ (s : Slice). Pass (λ o. not (is_join o)) s.root) b.slices × Pass (λ o. not (is_join o)) b.root

module _ (kinds : ℕ → List Kind) (q : Query) (out : List Kind) (fits : query_kinds kinds q ≡ Some out) (few : are_few q ≡ true) (groups : is_short q.groups ≡ true) (aggregates : is_short q.aggregates ≡ true) (order : is_short q.order ≡ true)
    (b : Built) (k : ℕ) (f : Formed kinds b k) (seven : k ≤ 7) (typed : b.kinds ≡ product_kinds kinds q) (sent : List Kind) (sends : kinds_sent kinds q ≡ Some sent) (some : is_sendable sent ≡ true)
    (sorts : HasNoJoin b ⊎ (list_all stands_over_pairs q.aggregates ≡ true)) where
  abbrev inner : Op
  inner = filters q.conds b.root

  abbrev middle : Op
  middle = partial_op q inner

  abbrev received_op : Op
  received_op = op.Receive (length b.slices) sent

  abbrev root : Op
  root = tail_op q (final_op q received_op)

  abbrev m : Slice
  m = sending motion.Gather middle

  abbrev l : Slice
  l = sending motion.Result root

  abbrev front : List Slice
  front = b.slices ++ m ∷ []

  seen : Seen (product_kinds kinds q) q out
  seen = seen-from kinds q out fits

  inner-kinds : op_kinds inner ≡ Some (product_kinds kinds q)
  inner-kinds = filters-kinds (product_kinds kinds q) q.conds seen.conds b.root (f.root_kinds ∙ ap Some typed)

  middle-kinds : op_kinds middle ≡ Some sent
  unfolding hidden-the_row-Op-0 hidden
  middle-kinds = by q.grouped ∙ sends
    where
      by : (g : Bool) → op_kinds (cond g (op.Partial q.groups q.aggregates inner) inner) ≡ cond g (partial_kinds q.groups q.aggregates (product_kinds kinds q)) (Some (product_kinds kinds q))
      by true = ap (λ o. o >>= partial_kinds q.groups q.aggregates) inner-kinds
      by false = inner-kinds

  root-kinds : op_kinds root ≡ Some out
  root-kinds = tail-kinds (product_kinds kinds q) q out seen (final_op q received_op) (final-kinds (product_kinds kinds q) q seen.seen seen.found inner received_op inner-kinds (sym middle-kinds))

  middle-few : nat_le (length (operators middle)) 64 ≡ true
  middle-few = count (length q.conds) (length q.having) (length (operators b.root)) (length (operators inner)) (length (operators middle)) (partial-count q inner) (filters-count q.conds b.root) f.root_count few
    where
      count : (c h p s n : ℕ) → n ≤ suc s → s ≡ c + p → p ≤ 2 + (k + k + k) → nat_le (c + h) 40 ≡ true → nat_le n 64 ≡ true
      count c h p s n a e d g = grind (arith, seven)

  root-few : nat_le (length (operators root)) 64 ≡ true
  root-few = count (length q.conds) (length q.having) (length (operators (final_op q received_op))) (length (operators root)) (tail-count q (final_op q received_op)) (final-count q received_op) few
    where
      count : (c h s n : ℕ) → n ≤ h + s + 3 → s ≤ 2 → nat_le (c + h) 40 ≡ true → nat_le n 64 ≡ true
      count c h s n a e g = grind arith

  middle-fine : Pass op_is_fine middle
  middle-fine = partial-fine q groups aggregates order inner (conds-fine q b.root f.root_fine)

  root-fine : Pass op_is_fine root
  root-fine = tail-fine q groups aggregates order (final_op q received_op) (final-fine q groups aggregates order received_op (λ i. (both_true (not (is_empty sent)) (is_short sent) some).1 i && true))

  fine : list_all slice_is_fine (front ++ l ∷ []) ≡ true
  fine = list_all-append slice_is_fine front (l ∷ [])
      ∙ (λ i. (list_all-append slice_is_fine b.slices (m ∷ []) ∙ (λ j. f.fine j && ((middle-few j && (middle-fine j && is_some (middle-kinds j))) && true))) i
      && ((root-few i && (root-fine i && is_some (root-kinds i))) && true))

  move : list_all motion_is_fine (front ++ l ∷ []) ≡ true
  move = list_all-append motion_is_fine front (l ∷ []) ∙ (λ i. (list_all-append motion_is_fine b.slices (m ∷ []) ∙ (λ j. f.move j && true)) i && true)

  results : AllByRecursion (λ (s : Slice). is_result s.out ≡ false) front
  results = AllByRecursion-append (λ (s : Slice). is_result s.out ≡ false) b.slices (m ∷ []) f.out (refl, tt)

  -- each slice fits those before it
  middle-fits : fits_before b.slices m ≡ true
  middle-fits = λ i. through-partial (receives_what_is_sent b.slices) ignores q b.root (ap (λ l. list_all (receives_what_is_sent l) (operators b.root)) (sym (append-nil b.slices)) ∙ f.root_sent []) i
      && ap (λ c. not c || list_all (only_gathers b.slices) (operators middle)) (receives-none b.slices f.none middle) i
    where
      ignores : Ignores (receives_what_is_sent b.slices)
      ignores = record { filter = λ c x. refl; partial = λ keys aggs x. refl; final = λ n aggs x. refl; project = λ items x. refl; distinct = λ x. refl; sort = λ order limit x. refl }

  root-sent : Pass (receives_what_is_sent front) root
  root-sent = through-tail (receives_what_is_sent front) ignores q received_op (λ i. sent-there sent some (slice_get front (length b.slices)) m (place b.slices m []) middle-kinds i && true)
    where
      ignores : Ignores (receives_what_is_sent front)
      ignores = record { filter = λ c x. refl; partial = λ keys aggs x. refl; final = λ n aggs x. refl; project = λ items x. refl; distinct = λ x. refl; sort = λ order limit x. refl }

  root-gathers : Pass (only_gathers front) root
  root-gathers = through-tail (only_gathers front) ignores q received_op (λ i. (ap (λ o. option_map_or (λ (s : Slice). is_gather s.out) o false) (place b.slices m []) i && true) && true)
    where
      ignores : Ignores (only_gathers front)
      ignores = record { filter = λ c x. refl; partial = λ keys aggs x. refl; final = λ n aggs x. refl; project = λ items x. refl; distinct = λ x. refl; sort = λ order limit x. refl }

  order-fits : fit_in_order [] (front ++ l ∷ []) ≡ true
  order-fits = fit-append [] front (l ∷ [])
      ∙ (λ i. (fit-append [] b.slices (m ∷ []) ∙ (λ j. f.fits j && (middle-fits j && true))) i && ((root-sent i && alone front (operators root) root-gathers i) && true))

  root-receives : receives root ≡ length b.slices ∷ []
  root-receives = tail-receives q (final_op q received_op) ∙ final-receives q received_op

  gathers-last : ends_with_gather [] (front ++ l ∷ []) ≡ true
  gathers-last = gather-push [] front l ∙ any-received front root ∙ ap (list_any (gathers front)) root-receives ∙ ap (λ o. option_map_or (λ (s : Slice). is_gather s.out) o false || false) (place b.slices m [])

  -- each is received once
  once : (i : ℕ) → i < length b.slices + 1 → occurs i (all_received (front ++ l ∷ [])) ≡ 1
  once i h =
      ap (occurs i) (flat_map-append (λ (s : Slice). receives s.root) front (l ∷ []))
      ∙ occurs-append i (all_received front) (receives root ++ [])
      ∙ (λ j. (ap (occurs i) (flat_map-append (λ (s : Slice). receives s.root) b.slices (m ∷ []) ∙ ap (λ r. all_received b.slices ++ r) (append-nil (receives middle) ∙ partial-receives q inner ∙ filters-receives q.conds b.root))
      ∙ occurs-append i (all_received b.slices) (receives b.root) ∙ f.once i) j
      + ap (occurs i) (append-nil (receives root) ∙ root-receives) j)
      ∙ one i (length b.slices) h
    where
      one : (i n : ℕ) → i < n + 1 → cond (nat_lt i n) 1 0 + (cond (i == n) 1 0 + 0) ≡ 1
      one i n h = grind arith

  size : length (front ++ l ∷ []) ≡ length b.slices + 1 + 1
  size = length-append front (l ∷ []) ∙ ap (λ n. n + 1) (length-append b.slices (m ∷ []))

  without-counts : joins_without_counts (all_operators (front ++ l ∷ [])) ≡ true
  without-counts = by sorts
    where
      by : HasNoJoin b ⊎ (list_all stands_over_pairs q.aggregates ≡ true) → joins_without_counts (all_operators (front ++ l ∷ [])) ≡ true
      by (inl none) = ap (λ c. not c || list_all form.stands_over_pairs (all_operators (front ++ l ∷ []))) (none-any is_join (all_operators (front ++ l ∷ [])) (all-operators (λ o. not (is_join o)) (front ++ l ∷ [])
          (AllByRecursion-append (λ (s : Slice). Pass (λ o. not (is_join o)) s.root) front (l ∷ [])
          (AllByRecursion-append (λ (s : Slice). Pass (λ o. not (is_join o)) s.root) b.slices (m ∷ []) none.0 (through-partial (λ o. not (is_join o)) not-joins q b.root none.1, tt))
          (through-tail (λ o. not (is_join o)) not-joins q received_op refl, tt))))
      by (inr over) = ap (λ c. not (list_any is_join (all_operators (front ++ l ∷ []))) || c) (all-operators form.stands_over_pairs (front ++ l ∷ [])
          (AllByRecursion-append (λ (s : Slice). Pass form.stands_over_pairs s.root) front (l ∷ [])
          (AllByRecursion-append (λ (s : Slice). Pass form.stands_over_pairs s.root) b.slices (m ∷ []) f.pairs (pairs-middle q over b.root f.root_pairs, tt))
          (pairs-tail q over received_op refl, tt)))
          ∙ or_true (not (list_any is_join (all_operators (front ++ l ∷ []))))

  pub closed-well_formed : are_well_formed (b.slices ++ m ∷ l ∷ []) ≡ true
  closed-well_formed = ap are_well_formed (sym (append_assoc b.slices (m ∷ []) (l ∷ []))) ∙
      (let many : (nat_le 2 (length (front ++ l ∷ [])) && nat_le (length (front ++ l ∷ [])) 64) ≡ true = ends (length b.slices) (length (front ++ l ∷ [])) f.size size in
      let both : (nat_le 2 (length (front ++ l ∷ [])) ≡ true) × (nat_le (length (front ++ l ∷ [])) 64 ≡ true) = both_true _ _ many in
      λ i. both.0 i && (both.1 i && (result-push front l results refl i && (fine i && (move i && (order-fits i
      && (gathers-last i && (received-once (front ++ l ∷ []) (length b.slices + 1) (size ∙ next (length b.slices)) once i && without-counts i))))))))
    where
      ends : (n z : ℕ) → n ≤ k + k → z ≡ n + 1 + 1 → (nat_le 2 z && nat_le z 64) ≡ true
      ends n z h e = grind (arith, seven)

      next : (n : ℕ) → n + 1 + 1 ≡ suc (n + 1)
      next n = omega arith

pub spread-well_formed : (kinds : ℕ → List Kind) (sent : List Kind) (q : Query) (s : Source) (js : List Joining) → q.sources ≡ s.table ∷ map (λ (j : Joining). j.table) js → IsTrue (is_some (query_kinds kinds q)) → IsTrue (has_room kinds q)
    → kinds_sent kinds q ≡ Some sent → IsTrue (is_sendable sent) → IsTrue (are_joinable kinds (kinds s.table) js) → IsTrue (fit_filters kinds (sources_of s js)) → IsTrue (is_well_formed (spread_plan kinds sent q s js))
spread-well_formed kinds sent q s js sources fits room sends some joinable filters = by_kinds (query_kinds kinds q) refl fits
  where
    b : (list_all (λ t. is_table (kinds t)) q.sources ≡ true) × ((are_few q && (is_short q.groups && (is_short q.aggregates && is_short q.order))) ≡ true)
    b = both_true (list_all (λ t. is_table (kinds t)) q.sources) _ room

    c : (are_few q ≡ true) × ((is_short q.groups && (is_short q.aggregates && is_short q.order)) ≡ true)
    c = both_true (are_few q) _ b.1

    d : (is_short q.groups ≡ true) × ((is_short q.aggregates && is_short q.order) ≡ true)
    d = both_true (is_short q.groups) _ c.1

    e : (is_short q.aggregates ≡ true) × (is_short q.order ≡ true)
    e = both_true (is_short q.aggregates) _ d.1

    filter : (fits_filter (kinds s.table) s.tests ≡ true) × (fit_filters kinds (map source_of js) ≡ true)
    filter = both_true (fits_filter (kinds s.table) s.tests) (fit_filters kinds (map source_of js)) filters

    tables : (is_table (kinds s.table) ≡ true) × (list_all (λ t. is_table (kinds t)) (map (λ (j : Joining). j.table) js) ≡ true)
    tables = both_true (is_table (kinds s.table)) _ (subst (λ ss. list_all (λ t. is_table (kinds t)) ss ≡ true) sources b.0)

    count : 0 + length js ≤ 7
    count = let n : length (s.table ∷ map (λ (j : Joining). j.table) js) ≤ 8 = subst (λ ss. length ss ≤ 8) sources q.few_sources in
        let z : length (map (λ (j : Joining). j.table) js) ≡ length js = length-map js (λ (j : Joining). j.table) in omega (arith, n, z)

    formed : (m : ℕ) × (m ≤ 7) × Formed kinds (with_sources kinds (first_source kinds s) js) m
    formed = formed-all kinds (first_source kinds s) 0 (formed-first kinds s tables.0 filter.0) js count tables.1 joinable filter.1

    typed : (with_sources kinds (first_source kinds s) js).kinds ≡ product_kinds kinds q
    typed = with_sources-kinds kinds (first_source kinds s) js ∙ ap (flat_map kinds) (sym sources)

    sorts : (us : List Joining) → js ≡ us → HasNoJoin (with_sources kinds (first_source kinds s) us) ⊎ (list_all stands_over_pairs q.aggregates ≡ true)
    sorts [] g = inl (tt, source-no_join kinds s.table s.tests filter.0)
    sorts (u ∷ us) g = inr (ap (λ ss. fit_sources ss q.aggregates) (sym (sources ∙ ap (λ l. s.table ∷ map (λ (j : Joining). j.table) l) g)) ∙ q.counts_of_one)

    by_kinds : (o : Option (List Kind)) → query_kinds kinds q ≡ o → is_some o ≡ true → is_well_formed (spread_plan kinds sent q s js) ≡ true
    by_kinds None g h = cc
    by_kinds (Some out) g h = closed-well_formed kinds q out g c.0 d.0 e.0 e.1 (with_sources kinds (first_source kinds s) js) formed.0 formed.2 formed.1 typed sent sends some (sorts js refl)
