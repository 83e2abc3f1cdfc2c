-- The plan that evaluates the select list on all nodes is well formed.
use Rattle.std.proofs.Common.{◌≡◌, ℕ, suc, ◌+◌, ◌<◌, ◌≤◌, ◌==◌, Bool, true, false, not, cond, ◌&&◌, ◌||◌, List, [], ◌∷◌, ◌++◌, length, map, flat_map, Some, is_some, refl, sym, ◌∙◌, ap, subst, arith, append_assoc, length-append, nat_le, nat_lt, slice_get, IsTrue}
use Rattle.std.specs.Option.{option_map_or}
use Rattle.std.specs.List.{list_any, list_all, AllByRecursion}
use Rattle.std.proofs.lemmas.List.{append-nil, length-map}
use Rattle.std.proofs.lemmas.List.Folds.{list_all-append}
use Rattle.hq_value.specs.declared.kind.Kind.{Kind}
use Rattle.hq_algebra.specs.declared.expr.Expr.{Expr}
use Rattle.hq_algebra.specs.declared.op.Op.{Op}
use Rattle.hq_algebra.specs.declared.op.Op.TheVariants as op
use Rattle.hq_algebra.specs.declared.op.Op.TheBlock.{hidden-the_row-Op-0}
use Rattle.hq_algebra.specs.declared.plan.Slice.{Slice}
use Rattle.hq_algebra.specs.declared.plan.Motion.TheVariants as motion
use Rattle.hq_algebra.specs.declared.query.Query.{Query}
use denote.Hole.Carrier.{hidden}
use Rattle.hq_algebra.specs.Shape.{parts}
use Rattle.hq_algebra.specs.Rules.{are_small, is_empty, are_within}
use Rattle.hq_algebra.specs.Kinds.{◌>>=◌, item_kind, expr_kind, some_if}
use Rattle.hq_algebra.specs.Operators.{op_kinds, join_kinds, items_kinds, sort_kinds}
use Rattle.hq_algebra.specs.Queries.{product_kinds, query_kinds, group_kinds}
use Rattle.hq_algebra.specs.Plans as form
use Rattle.hq_algebra.specs.Plans.{operators, is_short, is_join, op_is_fine, slice_is_fine, motion_is_fine, is_result, is_gather, receives_what_is_sent, gathers, only_gathers, fits_before, fit_in_order, ends_with_gather, all_operators, joins_without_counts, are_well_formed, is_well_formed}
use Rattle.hq_meaning.specs.Slices.{receives}
use Rattle.hq_laws.specs.Stages.{filters, sending}
use Rattle.hq_laws.specs.Spread.{Joining, source_of, sources_of, Built, first_source, with_source, with_sources}
use Rattle.hq_laws.specs.Sources.{Source, fits_filter, fit_filters}
use Rattle.hq_algebra.specs.Bound.{is_table, are_few, has_room}
use Rattle.hq_laws.specs.Room.{way_stands, is_joinable, are_joinable, is_sendable}
use Rattle.hq_laws.proofs.Lists.{occurs, occurs-append, or_true, both_true}
use Rattle.hq_laws.proofs.Regroup.{flat_map-append}
use Rattle.hq_laws.proofs.Chains.{AllByRecursion-append}
use Rattle.hq_laws.proofs.Stages.{filters-receives}
use Rattle.hq_laws.proofs.Typing.{Seen, seen-from, filters-kinds, length-every}
use Rattle.hq_laws.proofs.Fitness.{Pass, filters-pass, every-filter, filters-count, conds-fine, small-parts}
use Rattle.hq_laws.proofs.Shapes.{result-push, fit-append, gather-push, any-received, all_received, received-once, all-operators, alone}
use Rattle.hq_laws.proofs.SpreadForm.{Formed, formed-first, formed-by, receives-none, place, sent-there}
use Rattle.hq_listing.specs.Listing.{end_op, listing_plan}
use Rattle.hq_listing.proofs.Means.{end-receives}

-- one source more, and all of them
formed-next : (kinds : ℕ → List Kind) (b : Built) (k : ℕ) → Formed kinds b k → k ≤ 7 → (j : Joining) → is_table (kinds j.table) ≡ true → is_joinable b.kinds (kinds j.table) j ≡ true → fits_filter (kinds j.table) j.tests ≡ true → Formed kinds (with_source kinds b j) (suc k)
formed-next kinds b k f seven j table joinable filter =
    let a : (is_some (join_kinds j.left_keys j.right_keys b.kinds (kinds j.table)) ≡ true) × (((is_short j.left_keys && is_short j.right_keys) && way_stands j.way b.kinds (kinds j.table) j.left_keys j.right_keys) ≡ true) = both_true _ _ joinable in
    let c : ((is_short j.left_keys && is_short j.right_keys) ≡ true) × (way_stands j.way b.kinds (kinds j.table) j.left_keys j.right_keys ≡ true) = both_true _ _ a.1 in
    let d : (is_short j.left_keys ≡ true) × (is_short j.right_keys ≡ true) = both_true _ _ c.0 in
    formed-by kinds b k f seven j.table j.tests filter j.left_keys j.right_keys table a.0 d.0 d.1 j.way c.1

formed-all : (kinds : ℕ → List Kind) (b : Built) (k : ℕ) → Formed kinds b k → (js : List Joining) → k + length js ≤ 7 → list_all (λ t. is_table (kinds t)) (map (λ (j : Joining). j.table) js) ≡ true → are_joinable kinds b.kinds js ≡ true → fit_filters kinds (map source_of js) ≡ true
    → (m : ℕ) × (m ≤ 7) × Formed kinds (with_sources kinds b js) m
formed-all kinds b k f [] seven tables joinable filters = (k, omega (arith, seven), f)
formed-all kinds b k f (j ∷ js) seven tables joinable filters =
    let g : (fits_filter (kinds j.table) j.tests ≡ true) × (fit_filters kinds (map source_of js) ≡ true) = both_true (fits_filter (kinds j.table) j.tests) (fit_filters kinds (map source_of js)) filters in
    let a : (is_table (kinds j.table) ≡ true) × (list_all (λ t. is_table (kinds t)) (map (λ (j : Joining). j.table) js) ≡ true) = both_true _ _ tables in
    let c : (is_joinable b.kinds (kinds j.table) j ≡ true) × (are_joinable kinds (b.kinds ++ kinds j.table) js ≡ true) = both_true _ _ joinable in
    formed-all kinds (with_source kinds b j) (suc k) (formed-next kinds b k f (omega (arith, seven)) j a.0 c.0 g.0) js (omega (arith, seven)) a.1 c.1 g.1

with_sources-kinds : (kinds : ℕ → List Kind) (b : Built) (js : List Joining) → (with_sources kinds b js).kinds ≡ b.kinds ++ flat_map kinds (map (λ (j : Joining). j.table) js)
with_sources-kinds kinds b [] = sym (append-nil b.kinds)
with_sources-kinds kinds b (j ∷ js) = with_sources-kinds kinds (with_source kinds b j) js ∙ append_assoc b.kinds (kinds j.table) (flat_map kinds (map (λ (j : Joining). j.table) js))

-- the select list is fine
wider : (n : ℕ) → nat_le n 256 ≡ true → nat_le n 2100 ≡ true
wider n h = grind arith

shorter : (n : ℕ) → n ≤ 64 → nat_le n 65535 ≡ true
shorter n h = grind arith

all-wider : (es : List Expr) → are_small es ≡ true → list_all (λ e. nat_le (parts e) 2100) es ≡ true
all-wider [] h = refl
all-wider (e ∷ es) h = let b : (nat_le (parts e) 256 ≡ true) × (are_small es ≡ true) = both_true (nat_le (parts e) 256) (are_small es) h in λ i. wider (parts e) b.0 i && all-wider es b.1 i

-- the columns of a query are 1 to 64
some-sendable : (ks : List Kind) → 0 < length ks → length ks ≤ 64 → is_sendable ks ≡ true
some-sendable [] h l = absurd (omega arith)
some-sendable (k ∷ ks) h l = let r : nat_le (length (k ∷ ks)) 65535 ≡ true = shorter (length (k ∷ ks)) l in r

module _ (kinds : ℕ → List Kind) (q : Query) (plain : q.grouped ≡ false) (out : List Kind) (fits : query_kinds kinds q ≡ Some out) (few : are_few q ≡ true) (order : is_short q.order ≡ true)
    (b : Built) (k : ℕ) (f : Formed kinds b k) (seven : k ≤ 7) (typed : b.kinds ≡ product_kinds kinds q) where
  abbrev inner : Op
  inner = filters q.conds b.root

  abbrev middle : Op
  middle = op.Project q.items inner

  abbrev received_op : Op
  received_op = op.Receive (length b.slices) out

  abbrev root : Op
  root = end_op q received_op

  abbrev m : Slice
  m = sending motion.Gather middle

  abbrev l : Slice
  l = sending motion.Result root

  abbrev front : List Slice
  front = b.slices ++ m ∷ []

  seen : Seen (product_kinds kinds q) q out
  seen = seen-from kinds q out fits

  seen-product : Some (product_kinds kinds q) ≡ Some seen.seen
  seen-product = ap (λ c. cond c (group_kinds (product_kinds kinds q) q) (Some (product_kinds kinds q))) (sym plain) ∙ seen.found

  columns : length out ≡ length q.items
  columns = length-every (λ e. item_kind (expr_kind seen.seen e)) q.items out seen.items

  some : is_sendable out ≡ true
  some = some-sendable out (let c = columns in let h = q.some_items in omega (arith, c, h)) (let c = columns in let h = q.few_items in omega (arith, c, h))

  inner-kinds : op_kinds inner ≡ Some (product_kinds kinds q)
  inner-kinds = filters-kinds (product_kinds kinds q) q.conds seen.conds b.root (f.root_kinds ∙ ap Some typed)

  middle-kinds : op_kinds middle ≡ Some out
  unfolding hidden-the_row-Op-0 hidden
  middle-kinds = ap (λ o. o >>= (λ kinds. items_kinds kinds q.items)) (inner-kinds ∙ seen-product) ∙ seen.items

  root-kinds : op_kinds root ≡ Some out
  unfolding hidden-the_row-Op-0 hidden
  root-kinds = ap (λ o. o >>= sort_kinds q.order) (by q.distinct) ∙ ap (λ c. some_if c out) (ap (are_within q.order) columns ∙ q.order_columns)
    where
      by : (d : Bool) → op_kinds (cond d (op.Distinct received_op) received_op) ≡ Some out
      by true = refl
      by false = refl

  middle-few : nat_le (length (operators middle)) 64 ≡ true
  unfolding hidden-the_row-Op-0 hidden
  middle-few = count (length q.conds) (length q.having) (length (operators b.root)) (length (operators inner)) (filters-count q.conds b.root) f.root_count few
    where
      count : (c h p s : ℕ) → s ≡ c + p → p ≤ 2 + (k + k + k) → nat_le (c + h) 40 ≡ true → nat_le (suc s) 64 ≡ true
      count c h p s e d g = grind (arith, seven)

  root-few : nat_le (length (operators root)) 64 ≡ true
  unfolding hidden-the_row-Op-0 hidden
  root-few = by q.distinct
    where
      by : (d : Bool) → nat_le (suc (length (operators (cond d (op.Distinct received_op) received_op)))) 64 ≡ true
      by true = refl
      by false = refl

  project-own : (x : Op) → op_is_fine (op.Project q.items x) ≡ true
  unfolding hidden-the_row-Op-0 hidden
  project-own x = λ i. all-wider q.items (small-parts q).2 i && (true && shorter (length q.items) q.few_items i)

  middle-fine : Pass op_is_fine middle
  unfolding hidden-the_row-Op-0 hidden
  middle-fine = λ i. project-own inner i && conds-fine q b.root f.root_fine i

  root-fine : Pass op_is_fine root
  unfolding hidden-the_row-Op-0 hidden
  root-fine = by q.distinct
    where
      short : is_short out ≡ true
      short = (both_true (not (is_empty out)) (is_short out) some).1

      by : (d : Bool) → (op_is_fine (op.Sort q.order q.limit (cond d (op.Distinct received_op) received_op)) && list_all op_is_fine (operators (cond d (op.Distinct received_op) received_op))) ≡ true
      by true = λ i. order i && (true && (short i && true))
      by false = λ i. order i && (short i && true)

  fine : list_all slice_is_fine (front ++ l ∷ []) ≡ true
  fine = list_all-append slice_is_fine front (l ∷ [])
      ∙ (λ i. (list_all-append slice_is_fine b.slices (m ∷ []) ∙ (λ j. f.fine j && ((middle-few j && (middle-fine j && is_some (middle-kinds j))) && true))) i
      && ((root-few i && (root-fine i && is_some (root-kinds i))) && true))

  move : list_all motion_is_fine (front ++ l ∷ []) ≡ true
  move = list_all-append motion_is_fine front (l ∷ []) ∙ (λ i. (list_all-append motion_is_fine b.slices (m ∷ []) ∙ (λ j. f.move j && true)) i && true)

  results : AllByRecursion (λ (s : Slice). is_result s.out ≡ false) front
  results = AllByRecursion-append (λ (s : Slice). is_result s.out ≡ false) b.slices (m ∷ []) f.out (refl, tt)

  -- a test that looks at no operator of the two slices
  middle-pass : (P : Op → Bool) → ((c : Expr) (x : Op) → P (op.Filter c x) ≡ true) → P middle ≡ true → Pass P b.root → Pass P middle
  unfolding hidden-the_row-Op-0 hidden
  middle-pass P filter project h = λ i. project i && filters-pass P q.conds (every-filter P filter q.conds) b.root h i

  root-pass : (P : Op → Bool) → ((x : Op) → P (op.Sort q.order q.limit x) ≡ true) → ((x : Op) → P (op.Distinct x) ≡ true) → P received_op ≡ true → Pass P root
  unfolding hidden-the_row-Op-0 hidden
  root-pass P sort distinct h = by q.distinct
    where
      by : (d : Bool) → (P (op.Sort q.order q.limit (cond d (op.Distinct received_op) received_op)) && list_all P (operators (cond d (op.Distinct received_op) received_op))) ≡ true
      by true = λ i. sort (op.Distinct received_op) i && (distinct received_op i && (h i && true))
      by false = λ i. sort received_op i && (h i && true)

  -- each slice fits those before it
  middle-fits : fits_before b.slices m ≡ true
  middle-fits = λ i. middle-pass (receives_what_is_sent b.slices) (λ c x. refl) refl (ap (λ l. list_all (receives_what_is_sent l) (operators b.root)) (sym (append-nil b.slices)) ∙ f.root_sent []) i
      && ap (λ c. not c || list_all (only_gathers b.slices) (operators middle)) (receives-none b.slices f.none middle) i

  root-sent : Pass (receives_what_is_sent front) root
  root-sent = root-pass (receives_what_is_sent front) (λ x. refl) (λ x. refl) (sent-there out some (slice_get front (length b.slices)) m (place b.slices m []) middle-kinds)

  root-gathers : Pass (only_gathers front) root
  root-gathers = root-pass (only_gathers front) (λ x. refl) (λ x. refl) (λ i. ap (λ o. option_map_or (λ (s : Slice). is_gather s.out) o false) (place b.slices m []) i && true)

  order-fits : fit_in_order [] (front ++ l ∷ []) ≡ true
  order-fits = fit-append [] front (l ∷ [])
      ∙ (λ i. (fit-append [] b.slices (m ∷ []) ∙ (λ j. f.fits j && (middle-fits j && true))) i && ((root-sent i && alone front (operators root) root-gathers i) && true))

  root-receives : receives root ≡ length b.slices ∷ []
  root-receives = end-receives q received_op

  middle-receives : receives middle ≡ receives b.root
  unfolding hidden-the_row-Op-0 hidden
  middle-receives = filters-receives q.conds b.root

  gathers-last : ends_with_gather [] (front ++ l ∷ []) ≡ true
  gathers-last = gather-push [] front l ∙ any-received front root ∙ ap (list_any (gathers front)) root-receives ∙ ap (λ o. option_map_or (λ (s : Slice). is_gather s.out) o false || false) (place b.slices m [])

  -- each is received once
  once : (i : ℕ) → i < length b.slices + 1 → occurs i (all_received (front ++ l ∷ [])) ≡ 1
  once i h =
      ap (occurs i) (flat_map-append (λ (s : Slice). receives s.root) front (l ∷ []))
      ∙ occurs-append i (all_received front) (receives root ++ [])
      ∙ (λ j. (ap (occurs i) (flat_map-append (λ (s : Slice). receives s.root) b.slices (m ∷ []) ∙ ap (λ r. all_received b.slices ++ r) (append-nil (receives middle) ∙ middle-receives))
      ∙ occurs-append i (all_received b.slices) (receives b.root) ∙ f.once i) j
      + ap (occurs i) (append-nil (receives root) ∙ root-receives) j)
      ∙ one i (length b.slices) h
    where
      one : (i n : ℕ) → i < n + 1 → cond (nat_lt i n) 1 0 + (cond (i == n) 1 0 + 0) ≡ 1
      one i n h = grind arith

  size : length (front ++ l ∷ []) ≡ length b.slices + 1 + 1
  size = length-append front (l ∷ []) ∙ ap (λ n. n + 1) (length-append b.slices (m ∷ []))

  without-counts : joins_without_counts (all_operators (front ++ l ∷ [])) ≡ true
  without-counts = ap (λ c. not (list_any is_join (all_operators (front ++ l ∷ []))) || c) (all-operators form.stands_over_pairs (front ++ l ∷ [])
      (AllByRecursion-append (λ (s : Slice). Pass form.stands_over_pairs s.root) front (l ∷ [])
      (AllByRecursion-append (λ (s : Slice). Pass form.stands_over_pairs s.root) b.slices (m ∷ []) f.pairs (middle-pass form.stands_over_pairs (λ c x. refl) refl f.root_pairs, tt))
      (root-pass form.stands_over_pairs (λ x. refl) (λ x. refl) refl, tt)))
      ∙ or_true (not (list_any is_join (all_operators (front ++ l ∷ []))))

  listed-well_formed : are_well_formed (b.slices ++ m ∷ l ∷ []) ≡ true
  listed-well_formed = ap are_well_formed (sym (append_assoc b.slices (m ∷ []) (l ∷ []))) ∙
      (let many : (nat_le 2 (length (front ++ l ∷ [])) && nat_le (length (front ++ l ∷ [])) 64) ≡ true = ends (length b.slices) (length (front ++ l ∷ [])) f.size size in
      let both : (nat_le 2 (length (front ++ l ∷ [])) ≡ true) × (nat_le (length (front ++ l ∷ [])) 64 ≡ true) = both_true _ _ many in
      λ i. both.0 i && (both.1 i && (result-push front l results refl i && (fine i && (move i && (order-fits i
      && (gathers-last i && (received-once (front ++ l ∷ []) (length b.slices + 1) (size ∙ next (length b.slices)) once i && without-counts i))))))))
    where
      ends : (n z : ℕ) → n ≤ k + k → z ≡ n + 1 + 1 → (nat_le 2 z && nat_le z 64) ≡ true
      ends n z h e = grind (arith, seven)

      next : (n : ℕ) → n + 1 + 1 ≡ suc (n + 1)
      next n = omega arith

pub listing-well_formed : (kinds : ℕ → List Kind) (out : List Kind) (q : Query) (s : Source) (js : List Joining) → q.grouped ≡ false → q.sources ≡ s.table ∷ map (λ (j : Joining). j.table) js → query_kinds kinds q ≡ Some out → IsTrue (has_room kinds q)
    → IsTrue (are_joinable kinds (kinds s.table) js) → IsTrue (fit_filters kinds (sources_of s js)) → IsTrue (is_well_formed (listing_plan kinds out q s js))
listing-well_formed kinds out q s js plain sources fits room joinable filters = listed-well_formed kinds q plain out fits c.0 e.1 (with_sources kinds (first_source kinds s) js) formed.0 formed.2 formed.1 typed
  where
    b : (list_all (λ t. is_table (kinds t)) q.sources ≡ true) × ((are_few q && (is_short q.groups && (is_short q.aggregates && is_short q.order))) ≡ true)
    b = both_true (list_all (λ t. is_table (kinds t)) q.sources) _ room

    c : (are_few q ≡ true) × ((is_short q.groups && (is_short q.aggregates && is_short q.order)) ≡ true)
    c = both_true (are_few q) _ b.1

    d : (is_short q.groups ≡ true) × ((is_short q.aggregates && is_short q.order) ≡ true)
    d = both_true (is_short q.groups) _ c.1

    e : (is_short q.aggregates ≡ true) × (is_short q.order ≡ true)
    e = both_true (is_short q.aggregates) _ d.1

    filter : (fits_filter (kinds s.table) s.tests ≡ true) × (fit_filters kinds (map source_of js) ≡ true)
    filter = both_true (fits_filter (kinds s.table) s.tests) (fit_filters kinds (map source_of js)) filters

    tables : (is_table (kinds s.table) ≡ true) × (list_all (λ t. is_table (kinds t)) (map (λ (j : Joining). j.table) js) ≡ true)
    tables = both_true (is_table (kinds s.table)) _ (subst (λ ss. list_all (λ t. is_table (kinds t)) ss ≡ true) sources b.0)

    count : 0 + length js ≤ 7
    count = let n : length (s.table ∷ map (λ (j : Joining). j.table) js) ≤ 8 = subst (λ ss. length ss ≤ 8) sources q.few_sources in
        let z : length (map (λ (j : Joining). j.table) js) ≡ length js = length-map js (λ (j : Joining). j.table) in omega (arith, n, z)

    formed : (m : ℕ) × (m ≤ 7) × Formed kinds (with_sources kinds (first_source kinds s) js) m
    formed = formed-all kinds (first_source kinds s) 0 (formed-first kinds s tables.0 filter.0) js count tables.1 joinable filter.1

    typed : (with_sources kinds (first_source kinds s) js).kinds ≡ product_kinds kinds q
    typed = with_sources-kinds kinds (first_source kinds s) js ∙ ap (flat_map kinds) (sym sources)
