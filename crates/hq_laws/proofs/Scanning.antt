-- Each source of a query stands in exactly one Scan of its plan, directly under its tests.
use Rattle.std.proofs.Common.{◌≡◌, ℕ, suc, ◌+◌, ◌≤◌, ◌==◌, Bool, true, false, not, cond, ◌&&◌, List, [], ◌∷◌, ◌++◌, length, map, flat_map, count_by, refl, sym, ◌∙◌, ap, arith}
use Rattle.std.specs.List.{list_all}
use Rattle.std.proofs.lemmas.List.{append-nil}
use Rattle.std.proofs.lemmas.List.Recursion.{is_count_by}
use Rattle.hq_value.specs.declared.kind.Kind.{Kind}
use Rattle.hq_algebra.specs.declared.expr.Expr.{Expr}
use Rattle.hq_algebra.specs.declared.op.Op.{Op}
use Rattle.hq_algebra.specs.declared.op.Op.TheVariants as op
use Rattle.hq_algebra.specs.declared.op.Op.TheBlock.{hidden-the_row-Op-0}
use Rattle.hq_algebra.specs.declared.plan.Motion.TheVariants as motion
use Rattle.hq_algebra.specs.declared.plan.Slice.{Slice}
use Rattle.hq_algebra.specs.declared.query.Query.{Query}
use denote.Hole.Carrier.{hidden}
use Rattle.hq_algebra.specs.Plans.{operators, all_operators}
use Rattle.hq_laws.specs.Stages.{filters, partial_op, final_op, tail_op, sending}
use Rattle.hq_laws.specs.Sources.{Source, source_op}
use Rattle.hq_laws.specs.Gathered.{product_op, rest_op, scan_slice, tables_of, gathered_plan}
use Rattle.hq_laws.specs.Spread.{Way, CopyRight, CopyLeft, MoveBoth, MoveLeft, MoveRight, Stay, Joining, source_of, sources_of, Built, first_source, added_slices, left_side, right_side, with_source, with_sources, closed, spread_plan}
use Rattle.hq_laws.specs.Scanned.{scanned, tables_scanned, AreScannedOnce, AreFiltered}
use Rattle.hq_laws.proofs.Regroup.{flat_map-append}
use Rattle.hq_laws.proofs.Fitness.{Pass, Ignores, through-partial, through-tail}
use Rattle.hq_laws.proofs.GatheredForm.{product-pass}

-- how many items a test is true of
abbrev pub tally : {A : Type 0} → (A → Bool) → List A → ℕ
tally p [] = 0
tally p (x ∷ xs) = cond (p x) 1 0 + tally p xs

pub tally-append : {A : Type 0} (p : A → Bool) (xs ys : List A) → tally p (xs ++ ys) ≡ tally p xs + tally p ys
tally-append p [] ys = omega arith
tally-append p (x ∷ xs) ys = let r : tally p (xs ++ ys) ≡ tally p xs + tally p ys = tally-append p xs ys in omega (arith, r)

pub counted : {A : Type 0} (p : A → Bool) (xs : List A) → count_by p xs ≡ tally p xs
counted p xs = sym (is_count_by (tally p) p refl (λ x rest. by (p x) (tally p rest)) xs)
  where
    by : (b : Bool) (m : ℕ) → cond b 1 0 + m ≡ cond b (1 + m) m
    by true m = refl
    by false m = omega arith

tally-map : {A B : Type 0} (p : B → Bool) (f : A → B) (xs : List A) → tally p (map f xs) ≡ tally (λ x. p (f x)) xs
tally-map p f [] = refl
tally-map p f (x ∷ xs) = ap (λ n. cond (p (f x)) 1 0 + n) (tally-map p f xs)

pub count-map : {A B : Type 0} (p : B → Bool) (f : A → B) (xs : List A) → count_by p (map f xs) ≡ count_by (λ x. p (f x)) xs
count-map p f xs = counted p (map f xs) ∙ tally-map p f xs ∙ sym (counted (λ x. p (f x)) xs)

-- the operators of what is built
abbrev total : (Op → Bool) → Built → ℕ
total p b = tally p (all_operators b.slices) + tally p (operators b.root)

abbrev scans : ℕ → Op → Bool
scans t (op.Scan table kinds) = table == t
scans t _ = false

not-scans : (t : ℕ) → Ignores (λ o. not (scans t o))
not-scans t = record { filter = λ c x. refl; partial = λ keys aggs x. refl; final = λ n aggs x. refl; project = λ items x. refl; distinct = λ x. refl; sort = λ order limit x. refl }

none-scan : (p : Op → Bool) (xs : List Op) → list_all (λ o. not (p o)) xs ≡ true → tally p xs ≡ 0
none-scan p [] h = refl
none-scan p (x ∷ xs) h = by (p x) h (none-scan p xs)
  where
    by : (b : Bool) → (not b && list_all (λ o. not (p o)) xs) ≡ true → (list_all (λ o. not (p o)) xs ≡ true → tally p xs ≡ 0) → cond b 1 0 + tally p xs ≡ 0
    by true h rest = cc
    by false h rest = let r : tally p xs ≡ 0 = rest h in omega (arith, r)

tables-tally : (t : ℕ) (ops : List Op) → tally (λ u. u == t) (flat_map scanned ops) ≡ tally (scans t) ops
tables-tally t [] = refl
tables-tally t (o ∷ ops) = tally-append (λ u. u == t) (scanned o) (flat_map scanned ops) ∙ (λ i. one o i + tables-tally t ops i)
  where
    more : (b : Bool) → cond b 1 0 + 0 ≡ cond b 1 0
    more true = refl
    more false = refl

    one : (o : Op) → tally (λ u. u == t) (scanned o) ≡ cond (scans t o) 1 0
    one (op.Scan table kinds) = more (table == t)
    one (op.Receive slice kinds) = refl
    one (op.Filter' c p input) = refl
    one (op.Project' items p input) = refl
    one (op.Join' lk rk p left q right) = refl
    one (op.Partial' keys aggs p input) = refl
    one (op.Final' n aggs p input) = refl
    one (op.Distinct' p input) = refl
    one (op.Sort' order limit p input) = refl

module _ (p : Op → Bool) where
  slices-append : (xs ys : List Slice) → tally p (all_operators (xs ++ ys)) ≡ tally p (all_operators xs) + tally p (all_operators ys)
  slices-append xs ys = ap (tally p) (flat_map-append (λ (s : Slice). operators s.root) xs ys) ∙ tally-append p (all_operators xs) (all_operators ys)

  one-slice : (s : Slice) → tally p (all_operators (s ∷ [])) ≡ tally p (operators s.root)
  one-slice s = ap (tally p) (append-nil (operators s.root))

  two-slices : (r s : Slice) → tally p (all_operators (r ∷ s ∷ [])) ≡ tally p (operators r.root) + tally p (operators s.root)
  two-slices r s = tally-append p (operators r.root) (all_operators (s ∷ [])) ∙ ap (λ n. tally p (operators r.root) + n) (one-slice s)

  join-tally : (lk rk : List ℕ) (x y : Op) → tally p (operators (op.Join lk rk x y)) ≡ cond (p (op.Join lk rk x y)) 1 0 + (tally p (operators x) + tally p (operators y))
  unfolding hidden-the_row-Op-0 hidden
  join-tally lk rk x y = ap (λ n. cond (p (op.Join lk rk x y)) 1 0 + n) (tally-append p (operators x) (operators y))

  filters-more : (conds : List Expr) (x : Op) → tally p (operators x) ≤ tally p (operators (filters conds x))
  unfolding hidden-the_row-Op-0 hidden
  filters-more [] x = omega arith
  filters-more (c ∷ conds) x = let r : cond (p (op.Filter c x)) 1 0 + tally p (operators x) ≤ tally p (operators (filters conds (op.Filter c x))) = filters-more conds (op.Filter c x) in omega (arith, r)

  partial-more : (q : Query) (x : Op) → tally p (operators x) ≤ tally p (operators (partial_op q x))
  unfolding hidden-the_row-Op-0 hidden
  partial-more q x = by q.grouped
    where
      by : (b : Bool) → tally p (operators x) ≤ tally p (operators (cond b (op.Partial q.groups q.aggregates x) x))
      by true = omega arith
      by false = omega arith

  -- one source more: its operators, and some of which the test need not be true
  module _ (kinds : ℕ → List Kind) (b : Built) (j : Joining) where
    abbrev src : Op
    src = source_op kinds j.table j.tests

    abbrev joined_op : Way → Op
    joined_op way = op.Join j.left_keys j.right_keys (left_side way (length b.slices) b.kinds b.root) (right_side way (length b.slices) (kinds j.table) src)

    abbrev receives_of : Way → List Op
    receives_of CopyRight = op.Receive (length b.slices) (kinds j.table) ∷ []
    receives_of MoveRight = op.Receive (length b.slices) (kinds j.table) ∷ []
    receives_of CopyLeft = op.Receive (length b.slices) b.kinds ∷ []
    receives_of MoveLeft = op.Receive (length b.slices) b.kinds ∷ []
    receives_of MoveBoth = op.Receive (length b.slices) b.kinds ∷ op.Receive (suc (length b.slices)) (kinds j.table) ∷ []
    receives_of Stay = []

    abbrev next : Way → Built
    next way = record { slices = b.slices ++ added_slices way j.left_keys j.right_keys b.root src; root = joined_op way; kinds = b.kinds ++ kinds j.table }

    grown : (way : Way) → total p (next way) ≡ total p b + tally p (operators src) + tally p (joined_op way ∷ receives_of way)
    grown CopyRight = let a = slices-append b.slices (sending motion.Broadcast src ∷ []) in let c = one-slice (sending motion.Broadcast src) in let d = join-tally j.left_keys j.right_keys b.root (op.Receive (length b.slices) (kinds j.table)) in omega (arith, a, c, d)
    grown MoveRight = let a = slices-append b.slices (sending (motion.Redistribute j.right_keys) src ∷ []) in let c = one-slice (sending (motion.Redistribute j.right_keys) src) in let d = join-tally j.left_keys j.right_keys b.root (op.Receive (length b.slices) (kinds j.table)) in omega (arith, a, c, d)
    grown CopyLeft = let a = slices-append b.slices (sending motion.Broadcast b.root ∷ []) in let c = one-slice (sending motion.Broadcast b.root) in let d = join-tally j.left_keys j.right_keys (op.Receive (length b.slices) b.kinds) src in omega (arith, a, c, d)
    grown MoveLeft = let a = slices-append b.slices (sending (motion.Redistribute j.left_keys) b.root ∷ []) in let c = one-slice (sending (motion.Redistribute j.left_keys) b.root) in let d = join-tally j.left_keys j.right_keys (op.Receive (length b.slices) b.kinds) src in omega (arith, a, c, d)
    grown MoveBoth = let a = slices-append b.slices (sending (motion.Redistribute j.left_keys) b.root ∷ sending (motion.Redistribute j.right_keys) src ∷ []) in let c = two-slices (sending (motion.Redistribute j.left_keys) b.root) (sending (motion.Redistribute j.right_keys) src) in
        let d = join-tally j.left_keys j.right_keys (op.Receive (length b.slices) b.kinds) (op.Receive (suc (length b.slices)) (kinds j.table)) in omega (arith, a, c, d)
    grown Stay = let a = slices-append b.slices [] in let d = join-tally j.left_keys j.right_keys b.root src in omega (arith, a, d)

-- the operators of the sources
abbrev source_ops : (ℕ → List Kind) → List Source → List Op
source_ops kinds ss = map (λ (s : Source). source_op kinds s.table s.tests) ss

module _ (kinds : ℕ → List Kind) where
  first-op : (p : Op → Bool) (t : ℕ) (tests : List Expr) → cond (p (source_op kinds t tests)) 1 0 ≤ tally p (operators (source_op kinds t tests))
  unfolding hidden-the_row-Op-0 hidden
  first-op p t [] = omega arith
  first-op p t (e ∷ es) = omega arith

  source-scans : (t u : ℕ) (tests : List Expr) → tally (scans t) (operators (source_op kinds u tests)) ≡ cond (u == t) 1 0
  unfolding hidden-the_row-Op-0 hidden
  source-scans t u [] = by (u == t)
    where
      by : (b : Bool) → cond b 1 0 + 0 ≡ cond b 1 0
      by true = refl
      by false = refl
  source-scans t u (e ∷ es) = by (u == t)
    where
      by : (b : Bool) → 0 + (cond b 1 0 + 0) ≡ cond b 1 0
      by true = refl
      by false = refl

  no-more-scans : (t : ℕ) (b : Built) (j : Joining) (way : Way) → tally (scans t) (joined_op (scans t) kinds b j way ∷ receives_of (scans t) kinds b j way) ≡ 0
  unfolding hidden-the_row-Op-0 hidden
  no-more-scans t b j CopyRight = refl
  no-more-scans t b j CopyLeft = refl
  no-more-scans t b j MoveBoth = refl
  no-more-scans t b j MoveLeft = refl
  no-more-scans t b j MoveRight = refl
  no-more-scans t b j Stay = refl

  -- all sources
  built-scans : (t : ℕ) (b : Built) (js : List Joining) → total (scans t) (with_sources kinds b js) ≡ total (scans t) b + tally (λ u. u == t) (map (λ (j : Joining). j.table) js)
  built-scans t b [] = omega arith
  built-scans t b (j ∷ js) =
      let r = built-scans t (with_source kinds b j) js in
      let g = grown (scans t) kinds b j j.way in
      let n = no-more-scans t b j j.way in
      let s = source-scans t j.table j.tests in
      omega (arith, r, g, n, s)

  built-more : (p : Op → Bool) (b : Built) (js : List Joining) → total p b + tally p (source_ops kinds (map source_of js)) ≤ total p (with_sources kinds b js)
  built-more p b [] = omega arith
  built-more p b (j ∷ js) =
      let r = built-more p (with_source kinds b j) js in
      let g = grown p kinds b j j.way in
      let f = first-op p j.table j.tests in
      omega (arith, r, g, f)

  module _ (sent : List Kind) (q : Query) (b : Built) where
    closed-tally : (p : Op → Bool) → tally p (all_operators (closed sent q b).slices) ≡ tally p (all_operators b.slices) + (tally p (operators (partial_op q (filters q.conds b.root))) + tally p (operators (tail_op q (final_op q (op.Receive (length b.slices) sent)))))
    closed-tally p = slices-append p b.slices (sending motion.Gather (partial_op q (filters q.conds b.root)) ∷ sending motion.Result (tail_op q (final_op q (op.Receive (length b.slices) sent))) ∷ [])
        ∙ ap (λ n. tally p (all_operators b.slices) + n) (two-slices p (sending motion.Gather (partial_op q (filters q.conds b.root))) (sending motion.Result (tail_op q (final_op q (op.Receive (length b.slices) sent)))))

    filters-scans : (t : ℕ) (conds : List Expr) (x : Op) → tally (scans t) (operators (filters conds x)) ≡ tally (scans t) (operators x)
    unfolding hidden-the_row-Op-0 hidden
    filters-scans t [] x = refl
    filters-scans t (c ∷ conds) x = filters-scans t conds (op.Filter c x) ∙ zero_add (tally (scans t) (operators x))
      where
        zero_add : (n : ℕ) → 0 + n ≡ n
        zero_add n = omega arith

    partial-scans : (t : ℕ) (x : Op) → tally (scans t) (operators (partial_op q x)) ≡ tally (scans t) (operators x)
    unfolding hidden-the_row-Op-0 hidden
    partial-scans t x = by q.grouped
      where
        by : (g : Bool) → tally (scans t) (operators (cond g (op.Partial q.groups q.aggregates x) x)) ≡ tally (scans t) (operators x)
        by true = omega arith
        by false = refl

    closed-scans : (t : ℕ) → tally (scans t) (all_operators (closed sent q b).slices) ≡ total (scans t) b
    closed-scans t =
        let c = closed-tally (scans t) in
        let d = partial-scans t (filters q.conds b.root) in
        let e = filters-scans t q.conds b.root in
        let n : tally (scans t) (operators (tail_op q (final_op q (op.Receive (length b.slices) sent)))) ≡ 0 = none-scan (scans t) (operators (tail_op q (final_op q (op.Receive (length b.slices) sent)))) (through-tail (λ o. not (scans t o)) (not-scans t) q (op.Receive (length b.slices) sent) refl) in
        omega (arith, c, d, e, n)

    closed-more : (p : Op → Bool) → total p b ≤ tally p (all_operators (closed sent q b).slices)
    closed-more p = let c = closed-tally p in let d = partial-more p q (filters q.conds b.root) in let e = filters-more p q.conds b.root in omega (arith, c, d, e)

pub spread-scans : (kinds : ℕ → List Kind) (sent : List Kind) (q : Query) (s : Source) (js : List Joining) → q.sources ≡ s.table ∷ map (λ (j : Joining). j.table) js → AreScannedOnce (spread_plan kinds sent q s js).slices q.sources
spread-scans kinds sent q s js sources t =
    counted (λ u. u == t) (tables_scanned (spread_plan kinds sent q s js).slices)
    ∙ tables-tally t (all_operators (spread_plan kinds sent q s js).slices)
    ∙ closed-scans kinds sent q (with_sources kinds (first_source kinds s) js) t
    ∙ (let r = built-scans kinds t (first_source kinds s) js in let f = source-scans kinds t s.table s.tests in omega (arith, r, f))
    ∙ sym (counted (λ u. u == t) (s.table ∷ map (λ (j : Joining). j.table) js))
    ∙ ap (count_by (λ u. u == t)) (sym sources)

pub spread-filtered : (kinds : ℕ → List Kind) (sent : List Kind) (q : Query) (s : Source) (js : List Joining) → AreFiltered kinds (spread_plan kinds sent q s js).slices (sources_of s js)
spread-filtered kinds sent q s js p =
    let a = counted p (source_ops kinds (sources_of s js)) in
    let b = counted p (all_operators (spread_plan kinds sent q s js).slices) in
    let c = closed-more kinds sent q (with_sources kinds (first_source kinds s) js) p in
    let d = built-more kinds p (first_source kinds s) js in
    let e = first-op kinds p s.table s.tests in
    omega (arith, a, b, c, d, e)

-- the gathered plan
module _ (kinds : ℕ → List Kind) where
  slices-scans : (t : ℕ) (ss : List Source) → tally (scans t) (all_operators (map (scan_slice kinds) ss)) ≡ tally (λ u. u == t) (tables_of ss)
  slices-scans t [] = refl
  slices-scans t (s ∷ ss) = tally-append (scans t) (operators (source_op kinds s.table s.tests)) (all_operators (map (scan_slice kinds) ss)) ∙ (λ i. source-scans kinds t s.table s.tests i + slices-scans t ss i)

  slices-more : (p : Op → Bool) (ss : List Source) → tally p (source_ops kinds ss) ≤ tally p (all_operators (map (scan_slice kinds) ss))
  slices-more p [] = omega arith
  slices-more p (s ∷ ss) =
      let a = tally-append p (operators (source_op kinds s.table s.tests)) (all_operators (map (scan_slice kinds) ss)) in
      let b = first-op kinds p s.table s.tests in
      let r = slices-more p ss in
      omega (arith, a, b, r)

  root-scans : (t : ℕ) (q : Query) (ts : List ℕ) → tally (scans t) (operators (rest_op q (product_op kinds ts))) ≡ 0
  root-scans t q ts = none-scan (scans t) (operators (rest_op q (product_op kinds ts)))
      (through-tail (λ o. not (scans t o)) (not-scans t) q (partial_op q (filters q.conds (product_op kinds ts))) (through-partial (λ o. not (scans t o)) (not-scans t) q (product_op kinds ts) (product ts)))
    where
      product : (ts : List ℕ) → Pass (λ o. not (scans t o)) (product_op kinds ts)
      product [] = refl
      product (u ∷ us) = product-pass kinds (u ∷ us) (λ o. not (scans t o)) (λ done v rest e. refl) (λ x y. refl) u us refl

pub gathered-scans : (kinds : ℕ → List Kind) (q : Query) (ss : List Source) → q.sources ≡ tables_of ss → AreScannedOnce (gathered_plan kinds q ss).slices q.sources
gathered-scans kinds q ss sources t =
    counted (λ u. u == t) (tables_scanned (gathered_plan kinds q ss).slices)
    ∙ tables-tally t (all_operators (gathered_plan kinds q ss).slices)
    ∙ slices-append (scans t) (map (scan_slice kinds) ss) (sending motion.Result (rest_op q (product_op kinds (tables_of ss))) ∷ [])
    ∙ (let a = slices-scans kinds t ss in let b = one-slice (scans t) (sending motion.Result (rest_op q (product_op kinds (tables_of ss)))) in let c = root-scans kinds t q (tables_of ss) in omega (arith, a, b, c))
    ∙ sym (counted (λ u. u == t) (tables_of ss))
    ∙ ap (count_by (λ u. u == t)) (sym sources)

pub gathered-filtered : (kinds : ℕ → List Kind) (q : Query) (ss : List Source) → AreFiltered kinds (gathered_plan kinds q ss).slices ss
gathered-filtered kinds q ss p =
    let a = counted p (source_ops kinds ss) in
    let b = counted p (all_operators (gathered_plan kinds q ss).slices) in
    let c = slices-append p (map (scan_slice kinds) ss) (sending motion.Result (rest_op q (product_op kinds (tables_of ss))) ∷ []) in
    let d = slices-more kinds p ss in
    omega (arith, a, b, c, d)
