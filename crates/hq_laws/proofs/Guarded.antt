-- Each Scan of a plan stands directly under exactly the guards of its source.
use Rattle.std.proofs.Common.{◌≡◌, ℕ, suc, ◌+◌, ◌-◌, ◌<◌, nat_le, nat_lt, Bool, true, false, cond, ◌&&◌, List, [], ◌∷◌, ◌++◌, map, filter, flat_map, length, count_by, refl, sym, ◌∙◌, ap, arith}
use Rattle.std.specs.List.{list_all}
use Rattle.std.proofs.lemmas.List.{append-nil}
use Rattle.std.proofs.lemmas.List.Elements.{filter-append}
use Rattle.hq_value.specs.declared.kind.Kind.{Kind}
use Rattle.hq_algebra.specs.declared.expr.Expr.{Expr, Row_of-Expr, end_of-Expr, more_of-Expr}
use Rattle.hq_algebra.specs.declared.expr.Expr.TheVariants as expr
use Rattle.hq_algebra.specs.declared.op.Op.{Op}
use Rattle.hq_algebra.specs.declared.op.Op.TheVariants as op
use Rattle.hq_algebra.specs.declared.op.Op.TheBlock.{hidden-the_row-Op-0}
use Rattle.hq_algebra.specs.declared.plan.Motion.TheVariants as motion
use Rattle.hq_algebra.specs.declared.plan.Slice.{Slice}
use Rattle.hq_algebra.specs.declared.query.Query.{Query}
use Rattle.hq_algebra.specs.Shape.{has_column}
use denote.Hole.Carrier.{hidden}
use Rattle.hq_laws.specs.Stages.{filters, final_aggregates, partial_op, final_op, distinct_op, tail_op, sending}
use Rattle.hq_laws.specs.Sources.{Source, all_of, source_op}
use Rattle.hq_laws.specs.Tests.{members}
use Rattle.hq_laws.specs.Turned.{renamed, renamed_in}
use Rattle.hq_laws.specs.Gathered.{product_from, product_op, rest_op, scan_slice, tables_of, gathered_plan}
use Rattle.hq_laws.specs.Guards.{is_inside, inside_in, is_guard, guards_of, with_guards, Guarded, guarded_scans, guarded_in, all_guarded, guarded, AreGuarded}
use Rattle.hq_laws.specs.Spread.{Way, CopyRight, CopyLeft, MoveBoth, MoveLeft, MoveRight, Stay, Joining, source_of, sources_of, Built, first_source, added_slices, left_side, right_side, with_source, with_sources, closed, spread_plan}
use Rattle.hq_laws.proofs.Guarding.{inside-place}
use Rattle.hq_laws.proofs.Lists.{both_true}
use Rattle.hq_laws.proofs.Members.{is_alone, together-members, all-filter, all-alone, all-renamed-alone}
use Rattle.hq_laws.proofs.Regroup.{flat_map-append}
use Rattle.hq_laws.proofs.Renaming.{column-renamed}
use Rattle.hq_laws.proofs.Scanning.{tally, tally-append, counted}

-- no Filter above it changes what it scans
abbrev Steady : Op → Type 0
Steady x = (above : List Expr) → guarded_scans above x ≡ guarded_scans [] x

filters-over : (conds : List Expr) (c : Expr) (x : Op) (above : List Expr) → guarded_scans above (filters conds (op.Filter c x)) ≡ guarded_scans (c ∷ []) x
unfolding hidden-the_row-Op-0 hidden
filters-over [] c x above = refl
filters-over (d ∷ conds) c x above = filters-over conds d (op.Filter c x) above

filters-steady : (conds : List Expr) (x : Op) → Steady x → (above : List Expr) → guarded_scans above (filters conds x) ≡ guarded_scans [] x
filters-steady [] x steady above = steady above
filters-steady (c ∷ conds) x steady above = filters-over conds c x above ∙ steady (c ∷ [])

partial-steady : (q : Query) (x : Op) → Steady x → Steady (partial_op q x)
unfolding hidden-the_row-Op-0 hidden
partial-steady q x steady above = by q.grouped
  where
    by : (b : Bool) → guarded_scans above (cond b (op.Partial q.groups q.aggregates x) x) ≡ guarded_scans [] (cond b (op.Partial q.groups q.aggregates x) x)
    by true = refl
    by false = steady above

partial-tested : (q : Query) (x : Op) → guarded_scans [] (partial_op q x) ≡ guarded_scans [] x
unfolding hidden-the_row-Op-0 hidden
partial-tested q x = by q.grouped
  where
    by : (b : Bool) → guarded_scans [] (cond b (op.Partial q.groups q.aggregates x) x) ≡ guarded_scans [] x
    by true = refl
    by false = refl

final-tested : (q : Query) (x : Op) → Steady x → Steady (final_op q x)
unfolding hidden-the_row-Op-0 hidden
final-tested q x steady above = by q.grouped
  where
    by : (b : Bool) → guarded_scans above (cond b (op.Final (length q.groups) (final_aggregates (length q.groups) q.aggregates) x) x) ≡ guarded_scans [] (cond b (op.Final (length q.groups) (final_aggregates (length q.groups) q.aggregates) x) x)
    by true = refl
    by false = steady above

final-under : (q : Query) (x : Op) → guarded_scans [] (final_op q x) ≡ guarded_scans [] x
unfolding hidden-the_row-Op-0 hidden
final-under q x = by q.grouped
  where
    by : (b : Bool) → guarded_scans [] (cond b (op.Final (length q.groups) (final_aggregates (length q.groups) q.aggregates) x) x) ≡ guarded_scans [] x
    by true = refl
    by false = refl

tail-under : (q : Query) (x : Op) → Steady x → guarded_scans [] (tail_op q x) ≡ guarded_scans [] x
unfolding hidden-the_row-Op-0 hidden
tail-under q x steady = by q.distinct ∙ filters-steady q.having x steady []
  where
    by : (b : Bool) → guarded_scans [] (cond b (op.Distinct (op.Project q.items (filters q.having x))) (op.Project q.items (filters q.having x))) ≡ guarded_scans [] (filters q.having x)
    by true = refl
    by false = refl

join-steady : (lk rk : List ℕ) (x y : Op) → Steady (op.Join lk rk x y)
unfolding hidden-the_row-Op-0 hidden
join-steady lk rk x y above = refl

join-tested : (lk rk : List ℕ) (x y : Op) → guarded_scans [] (op.Join lk rk x y) ≡ guarded_scans [] x ++ guarded_scans [] y
unfolding hidden-the_row-Op-0 hidden
join-tested lk rk x y = refl

receive-steady : (i : ℕ) (kinds : List Kind) → Steady (op.Receive i kinds)
receive-steady i kinds above = refl

-- a guard that is lowered to the source's own columns is one there
module _ (kinds : List Kind) (w : ℕ) where
  mutual
    inside-lowered : (e : Expr) → is_inside w (length kinds) e ≡ true → is_inside 0 (length kinds) (renamed (λ i. i - w) e) ≡ true
    inside-lowered (expr.Column place) h = λ t. from (place - w) t && within (place - w) (length kinds) (inside-place w (length kinds) place h).1 t
      where
        from : (n : ℕ) → nat_le 0 n ≡ true
        from n = grind arith

        within : (m n : ℕ) → m < n → nat_lt m (0 + n) ≡ true
        within m n l = grind (arith, l)
    inside-lowered (expr.Literal u) h = refl
    inside-lowered (expr.Arith' step p left q right) h = let b = both_true (inside_in w (length kinds) left) (inside_in w (length kinds) right) h in λ t. in-lowered left b.0 t && in-lowered right b.1 t
    inside-lowered (expr.Compare' test p left q right) h = let b = both_true (inside_in w (length kinds) left) (inside_in w (length kinds) right) h in λ t. in-lowered left b.0 t && in-lowered right b.1 t
    inside-lowered (expr.And' p left q right) h = let b = both_true (inside_in w (length kinds) left) (inside_in w (length kinds) right) h in λ t. in-lowered left b.0 t && in-lowered right b.1 t
    inside-lowered (expr.Or' p left q right) h = let b = both_true (inside_in w (length kinds) left) (inside_in w (length kinds) right) h in λ t. in-lowered left b.0 t && in-lowered right b.1 t
    inside-lowered (expr.Not' p of) h = in-lowered of h
    inside-lowered (expr.IsNull' p of) h = in-lowered of h

    in-lowered : {m : _} (of : Row_of-Expr m) → inside_in w (length kinds) of ≡ true → inside_in 0 (length kinds) (renamed_in (λ i. i - w) of) ≡ true
    in-lowered end_of-Expr h = refl
    in-lowered (more_of-Expr e rest) h = inside-lowered e h

  all-lowered : (es : List Expr) → list_all (is_guard kinds 0) (map (renamed (λ i. i - w)) (filter (is_guard kinds w) es)) ≡ true
  all-lowered [] = refl
  all-lowered (e ∷ es) = by (is_guard kinds w e) refl (all-lowered es)
    where
      one : is_guard kinds w e ≡ true → is_guard kinds 0 (renamed (λ i. i - w) e) ≡ true
      one h =
          let b : (has_column e ≡ true) × (is_inside w (length kinds) e ≡ true) = both_true (has_column e) _ h in
          λ t. (column-renamed (λ i. i - w) e ∙ b.0) t && inside-lowered e b.1 t

      by : (b : Bool) → is_guard kinds w e ≡ b → list_all (is_guard kinds 0) (map (renamed (λ i. i - w)) (filter (is_guard kinds w) es)) ≡ true → list_all (is_guard kinds 0) (map (renamed (λ i. i - w)) (cond b (e ∷ filter (is_guard kinds w) es) (filter (is_guard kinds w) es))) ≡ true
      by true h rest = λ i. one h i && rest i
      by false h rest = rest

on-kept : (kinds : List Kind) (es : List Expr) → list_all (is_guard kinds 0) es ≡ true → filter (is_guard kinds 0) es ≡ es
on-kept kinds [] g = refl
on-kept kinds (e ∷ es) g =
    let b : (is_guard kinds 0 e ≡ true) × (list_all (is_guard kinds 0) es ≡ true) = both_true (is_guard kinds 0 e) _ g in
    (λ i. cond (b.0 i) (e ∷ filter (is_guard kinds 0) es) (filter (is_guard kinds 0) es)) ∙ ap (λ l. e ∷ l) (on-kept kinds es b.1)

-- guards over a source's own columns, none of which is an AND
abbrev are_guards : List Kind → List Expr → Bool
are_guards kinds es = list_all (is_guard kinds 0) es && list_all is_alone es

-- the operator of a source whose tests are such guards
abbrev AreOn : (ℕ → List Kind) → List Source → Type 0
AreOn kinds ss = list_all (λ (s : Source). are_guards (kinds s.table) s.tests) ss ≡ true

source-tested : (kinds : ℕ → List Kind) (t : ℕ) (tests : List Expr) → are_guards (kinds t) tests ≡ true → guarded_scans [] (source_op kinds t tests) ≡ (record { table = t; kinds = kinds t; guards = tests }) ∷ []
unfolding hidden-the_row-Op-0 hidden
source-tested kinds t [] g = refl
source-tested kinds t (e ∷ es) g =
    let b : (list_all (is_guard (kinds t) 0) (e ∷ es) ≡ true) × (list_all is_alone (e ∷ es) ≡ true) = both_true (list_all (is_guard (kinds t) 0) (e ∷ es)) (list_all is_alone (e ∷ es)) g in
    ap (λ (l : List Expr). (record { table = t; kinds = kinds t; guards = l }) ∷ []) (ap (filter (is_guard (kinds t) 0)) (append-nil (members (all_of e es)) ∙ together-members e es b.1) ∙ on-kept (kinds t) (e ∷ es) b.0)

-- what is built, counted
module _ (p : Guarded → Bool) where
  abbrev scans_total : Built → ℕ
  scans_total b = tally p (all_guarded b.slices) + tally p (guarded_scans [] b.root)

  tested-append : (xs ys : List Slice) → tally p (all_guarded (xs ++ ys)) ≡ tally p (all_guarded xs) + tally p (all_guarded ys)
  tested-append xs ys = ap (tally p) (flat_map-append (λ (s : Slice). guarded_scans [] s.root) xs ys) ∙ tally-append p (all_guarded xs) (all_guarded ys)

  one-tested : (s : Slice) → tally p (all_guarded (s ∷ [])) ≡ tally p (guarded_scans [] s.root)
  one-tested s = ap (tally p) (append-nil (guarded_scans [] s.root))

  two-tested : (r s : Slice) → tally p (all_guarded (r ∷ s ∷ [])) ≡ tally p (guarded_scans [] r.root) + tally p (guarded_scans [] s.root)
  two-tested r s = tally-append p (guarded_scans [] r.root) (all_guarded (s ∷ [])) ∙ ap (λ n. tally p (guarded_scans [] r.root) + n) (one-tested s)

  joined-tally : (lk rk : List ℕ) (x y : Op) → tally p (guarded_scans [] (op.Join lk rk x y)) ≡ tally p (guarded_scans [] x) + tally p (guarded_scans [] y)
  joined-tally lk rk x y = ap (tally p) (join-tested lk rk x y) ∙ tally-append p (guarded_scans [] x) (guarded_scans [] y)

  module _ (kinds : ℕ → List Kind) (b : Built) (j : Joining) where
    abbrev src : Op
    src = source_op kinds j.table j.tests

    abbrev next : Way → Built
    next way = record { slices = b.slices ++ added_slices way j.left_keys j.right_keys b.root src; root = op.Join j.left_keys j.right_keys (left_side way (length b.slices) b.kinds b.root) (right_side way (length b.slices) (kinds j.table) src); kinds = b.kinds ++ kinds j.table }

    tested-grown : (way : Way) → scans_total (next way) ≡ scans_total b + tally p (guarded_scans [] src)
    tested-grown CopyRight = let a = tested-append b.slices (sending motion.Broadcast src ∷ []) in let c = one-tested (sending motion.Broadcast src) in let d = joined-tally j.left_keys j.right_keys b.root (op.Receive (length b.slices) (kinds j.table)) in omega (arith, a, c, d)
    tested-grown MoveRight = let a = tested-append b.slices (sending (motion.Redistribute j.right_keys) src ∷ []) in let c = one-tested (sending (motion.Redistribute j.right_keys) src) in let d = joined-tally j.left_keys j.right_keys b.root (op.Receive (length b.slices) (kinds j.table)) in omega (arith, a, c, d)
    tested-grown CopyLeft = let a = tested-append b.slices (sending motion.Broadcast b.root ∷ []) in let c = one-tested (sending motion.Broadcast b.root) in let d = joined-tally j.left_keys j.right_keys (op.Receive (length b.slices) b.kinds) src in omega (arith, a, c, d)
    tested-grown MoveLeft = let a = tested-append b.slices (sending (motion.Redistribute j.left_keys) b.root ∷ []) in let c = one-tested (sending (motion.Redistribute j.left_keys) b.root) in let d = joined-tally j.left_keys j.right_keys (op.Receive (length b.slices) b.kinds) src in omega (arith, a, c, d)
    tested-grown MoveBoth = let a = tested-append b.slices (sending (motion.Redistribute j.left_keys) b.root ∷ sending (motion.Redistribute j.right_keys) src ∷ []) in let c = two-tested (sending (motion.Redistribute j.left_keys) b.root) (sending (motion.Redistribute j.right_keys) src) in
        let d = joined-tally j.left_keys j.right_keys (op.Receive (length b.slices) b.kinds) (op.Receive (suc (length b.slices)) (kinds j.table)) in omega (arith, a, c, d)
    tested-grown Stay = let a = tested-append b.slices [] in let d = joined-tally j.left_keys j.right_keys b.root src in omega (arith, a, d)

  built-tested : (kinds : ℕ → List Kind) (b : Built) (js : List Joining) → AreOn kinds (map source_of js) → scans_total (with_sources kinds b js) ≡ scans_total b + tally p (map (guarded kinds) (map source_of js))
  built-tested kinds b [] on = omega arith
  built-tested kinds b (j ∷ js) on =
      let c : (are_guards (kinds j.table) j.tests ≡ true) × AreOn kinds (map source_of js) = both_true (are_guards (kinds j.table) j.tests) _ on in
      let r = built-tested kinds (with_source kinds b j) js c.1 in
      let g = tested-grown kinds b j j.way in
      let s : tally p (guarded_scans [] (source_op kinds j.table j.tests)) ≡ tally p (guarded kinds (source_of j) ∷ []) = ap (tally p) (source-tested kinds j.table j.tests c.0) in
      omega (arith, r, g, s)

-- the root of what is built, under the conditions
with-steady : (kinds : ℕ → List Kind) (b : Built) (j : Joining) (js : List Joining) → Steady (with_sources kinds b (j ∷ js)).root
with-steady kinds b j [] = join-steady j.left_keys j.right_keys _ _
with-steady kinds b j (k ∷ js) = with-steady kinds (with_source kinds b j) k js

filter-left : (q : Expr → Bool) (xs ys : List Expr) → filter q (xs ++ ys) ≡ [] → filter q xs ≡ []
filter-left q xs ys h = by (filter q xs) (filter q ys) (sym (filter-append q xs ys) ∙ h)
  where
    by : (us vs : List Expr) → us ++ vs ≡ [] → us ≡ []
    by [] vs g = refl
    by (u ∷ us) vs g = cc

-- a source alone: without guards its Scan may stand directly under a condition, no member of which is a guard then
alone-tested : (kinds : ℕ → List Kind) (t : ℕ) (conds tests : List Expr) → are_guards (kinds t) tests ≡ true → (tests ≡ [] → filter (is_guard (kinds t) 0) (flat_map members conds) ≡ [])
    → guarded_scans [] (filters conds (source_op kinds t tests)) ≡ (record { table = t; kinds = kinds t; guards = tests }) ∷ []
unfolding hidden-the_row-Op-0 hidden
alone-tested kinds t [] tests on none = source-tested kinds t tests on
alone-tested kinds t (c ∷ conds) [] on none =
    filters-over conds c (op.Scan t (kinds t)) []
    ∙ ap (λ (l : List Expr). (record { table = t; kinds = kinds t; guards = l }) ∷ []) (ap (filter (is_guard (kinds t) 0)) (append-nil (members c)) ∙ filter-left (is_guard (kinds t) 0) (members c) (flat_map members conds) (none refl))
alone-tested kinds t (c ∷ conds) (e ∷ es) on none = filters-steady (c ∷ conds) (source_op kinds t (e ∷ es)) (λ above. refl) [] ∙ source-tested kinds t (e ∷ es) on

root-tested : (kinds : ℕ → List Kind) (conds : List Expr) (s : Source) (js : List Joining) → are_guards (kinds s.table) s.tests ≡ true → (js ≡ [] → s.tests ≡ [] → filter (is_guard (kinds s.table) 0) (flat_map members conds) ≡ [])
    → guarded_scans [] (filters conds (with_sources kinds (first_source kinds s) js).root) ≡ guarded_scans [] (with_sources kinds (first_source kinds s) js).root
root-tested kinds conds s [] on none = alone-tested kinds s.table conds s.tests on (none refl) ∙ sym (source-tested kinds s.table s.tests on)
root-tested kinds conds s (j ∷ js) on none = filters-steady conds _ (with-steady kinds (first_source kinds s) j js) []

module _ (kinds : ℕ → List Kind) (sent : List Kind) (q : Query) (s : Source) (js : List Joining) where
  abbrev built : Built
  built = with_sources kinds (first_source kinds s) js

  last-none : guarded_scans [] (tail_op q (final_op q (op.Receive (length built.slices) sent))) ≡ []
  last-none = tail-under q _ (final-tested q _ (receive-steady (length built.slices) sent)) ∙ final-under q _

  pub spread-tested : AreOn kinds (sources_of s js) → (js ≡ [] → s.tests ≡ [] → filter (is_guard (kinds s.table) 0) (flat_map members q.conds) ≡ []) → AreGuarded kinds (spread_plan kinds sent q s js).slices (sources_of s js)
  spread-tested on none p =
      let c : (are_guards (kinds s.table) s.tests ≡ true) × AreOn kinds (map source_of js) = both_true (are_guards (kinds s.table) s.tests) _ on in
      let next : Slice = sending motion.Gather (partial_op q (filters q.conds built.root)) in
      let last : Slice = sending motion.Result (tail_op q (final_op q (op.Receive (length built.slices) sent))) in
      let a = counted p (all_guarded (spread_plan kinds sent q s js).slices) in
      let b = counted p (map (guarded kinds) (sources_of s js)) in
      let d = tested-append p built.slices (next ∷ last ∷ []) in
      let e = two-tested p next last in
      let f : tally p (guarded_scans [] (partial_op q (filters q.conds built.root))) ≡ tally p (guarded_scans [] built.root) = ap (tally p) (partial-tested q (filters q.conds built.root) ∙ root-tested kinds q.conds s js c.0 none) in
      let g : tally p (guarded_scans [] (tail_op q (final_op q (op.Receive (length built.slices) sent)))) ≡ 0 = ap (tally p) last-none in
      let h = built-tested p kinds (first_source kinds s) js c.1 in
      let i : tally p (guarded_scans [] (source_op kinds s.table s.tests)) ≡ tally p (guarded kinds s ∷ []) = ap (tally p) (source-tested kinds s.table s.tests c.0) in
      omega (arith, a, b, d, e, f, g, h, i)

-- the gathered plan
scans-tested : (p : Guarded → Bool) (kinds : ℕ → List Kind) (ss : List Source) → AreOn kinds ss → tally p (all_guarded (map (scan_slice kinds) ss)) ≡ tally p (map (guarded kinds) ss)
scans-tested p kinds [] on = refl
scans-tested p kinds (s ∷ ss) on =
    let c : (are_guards (kinds s.table) s.tests ≡ true) × AreOn kinds ss = both_true (are_guards (kinds s.table) s.tests) _ on in
    let a = tally-append p (guarded_scans [] (source_op kinds s.table s.tests)) (all_guarded (map (scan_slice kinds) ss)) in
    let b : tally p (guarded_scans [] (source_op kinds s.table s.tests)) ≡ tally p (guarded kinds s ∷ []) = ap (tally p) (source-tested kinds s.table s.tests c.0) in
    let r = scans-tested p kinds ss c.1 in
    omega (arith, a, b, r)

product-from-none : (kinds : ℕ → List Kind) (before : Op) (i : ℕ) (ts : List ℕ) → Steady before → guarded_scans [] before ≡ [] → (above : List Expr) → guarded_scans above (product_from kinds before i ts) ≡ []
product-from-none kinds before i [] steady none above = steady above ∙ none
product-from-none kinds before i (t ∷ ts) steady none above = product-from-none kinds (op.Join [] [] before (op.Receive i (kinds t))) (suc i) ts (join-steady [] [] before (op.Receive i (kinds t))) (join-tested [] [] before (op.Receive i (kinds t)) ∙ ap (λ l. l ++ []) none) above

product-none : (kinds : ℕ → List Kind) (ts : List ℕ) (above : List Expr) → guarded_scans above (product_op kinds ts) ≡ []
product-none kinds [] above = refl
product-none kinds (t ∷ ts) above = product-from-none kinds (op.Receive 0 (kinds t)) 1 ts (λ a. refl) refl above

pub gathered-tested : (kinds : ℕ → List Kind) (q : Query) (ss : List Source) → AreOn kinds ss → AreGuarded kinds (gathered_plan kinds q ss).slices ss
gathered-tested kinds q ss on p =
    let last : Slice = sending motion.Result (rest_op q (product_op kinds (tables_of ss))) in
    let steady : Steady (product_op kinds (tables_of ss)) = λ above. product-none kinds (tables_of ss) above ∙ sym (product-none kinds (tables_of ss) []) in
    let kept : Steady (filters q.conds (product_op kinds (tables_of ss))) = λ above. filters-steady q.conds _ steady above ∙ sym (filters-steady q.conds _ steady []) in
    let none : guarded_scans [] last.root ≡ [] = tail-under q _ (final-tested q _ (partial-steady q _ kept)) ∙ final-under q _ ∙ partial-tested q _ ∙ filters-steady q.conds _ steady [] ∙ product-none kinds (tables_of ss) [] in
    let a = counted p (all_guarded (gathered_plan kinds q ss).slices) in
    let b = counted p (map (guarded kinds) ss) in
    let c = tested-append p (map (scan_slice kinds) ss) (last ∷ []) in
    let d = one-tested p last in
    let e : tally p (guarded_scans [] last.root) ≡ 0 = ap (tally p) none in
    let f = scans-tested p kinds ss on in
    omega (arith, a, b, c, d, e, f)

-- with all guards among the members of the conditions
held-on : (kinds : ℕ → List Kind) (conds : List Expr) (w : ℕ) (ts : List ℕ) → AreOn kinds (with_guards kinds conds w ts)
held-on kinds conds w [] = refl
held-on kinds conds w (t ∷ ts) = λ i. (all-lowered (kinds t) w (flat_map members conds) i && all-renamed-alone (λ i. i - w) (filter (is_guard (kinds t) w) (flat_map members conds)) (all-filter is_alone (is_guard (kinds t) w) (flat_map members conds) (all-alone conds)) i) && held-on kinds conds (w + length (kinds t)) ts i

pub gathered-guards : (kinds : ℕ → List Kind) (q : Query) → AreGuarded kinds (gathered_plan kinds q (with_guards kinds q.conds 0 q.sources)).slices (with_guards kinds q.conds 0 q.sources)
gathered-guards kinds q = gathered-tested kinds q (with_guards kinds q.conds 0 q.sources) (held-on kinds q.conds 0 q.sources)

map-none : (f : Expr → Expr) (es : List Expr) → map f es ≡ [] → es ≡ []
map-none f [] h = refl
map-none f (e ∷ es) h = cc

pub spread-guards : (kinds : ℕ → List Kind) (sent : List Kind) (q : Query) (s : Source) (js : List Joining) → sources_of s js ≡ with_guards kinds q.conds 0 q.sources → AreGuarded kinds (spread_plan kinds sent q s js).slices (with_guards kinds q.conds 0 q.sources)
spread-guards kinds sent q s js e p = spread-tested kinds sent q s js (ap (λ ss. list_all (λ (s : Source). are_guards (kinds s.table) s.tests) ss) e ∙ held-on kinds q.conds 0 q.sources) (λ g h. alone q.sources js g e h) p ∙ ap (λ ss. count_by p (map (guarded kinds) ss)) e
  where
    alone : (ts : List ℕ) (ks : List Joining) → ks ≡ [] → s ∷ map source_of ks ≡ with_guards kinds q.conds 0 ts → s.tests ≡ [] → filter (is_guard (kinds s.table) 0) (flat_map members q.conds) ≡ []
    alone [] ks g f h = cc
    alone (t ∷ ts) ks g f h = one s (head f) h
      where
        head : s ∷ map source_of ks ≡ with_guards kinds q.conds 0 (t ∷ ts) → s ≡ record { table = t; tests = guards_of (kinds t) 0 q.conds }
        head f = cc

        one : (r : Source) → r ≡ record { table = t; tests = guards_of (kinds t) 0 q.conds } → r.tests ≡ [] → filter (is_guard (kinds r.table) 0) (flat_map members q.conds) ≡ []
        one r f h = ap (λ (s : Source). filter (is_guard (kinds s.table) 0) (flat_map members q.conds)) f ∙ map-none (renamed (λ i. i - 0)) (filter (is_guard (kinds t) 0) (flat_map members q.conds)) (sym (ap (λ (s : Source). s.tests) f) ∙ h)
