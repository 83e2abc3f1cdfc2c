-- One source more, and one step more.
use Rattle.std.proofs.Common.{◌≡◌, ℕ, zero, suc, ◌+◌, ◌≤◌, ◌<◌, List, [], ◌∷◌, ◌++◌, length, map, drop, get_or, append_assoc, refl, sym, ◌∙◌, ap, arith, length-append}
use Rattle.hq_value.specs.declared.kind.Kind.{Kind}
use Rattle.hq_algebra.specs.declared.expr.Expr.{Expr}
use Rattle.hq_algebra.specs.declared.op.Op.{Op}
use Rattle.hq_algebra.specs.declared.op.Op.TheVariants as op
use Rattle.hq_algebra.specs.declared.plan.Motion.{Motion}
use Rattle.hq_algebra.specs.declared.plan.Motion.TheVariants as motion
use Rattle.hq_algebra.specs.declared.plan.Plan.{Plan}
use Rattle.hq_algebra.specs.declared.plan.Slice.{Slice}
use Rattle.hq_algebra.specs.declared.query.Query.{Query}
use Rattle.hq_laws.specs.Gathered.{product_op, rest_op, scan_slice}
use Rattle.hq_laws.specs.Guards.{guards_of, with_guards}
use Rattle.hq_laws.specs.Sources.{source_op}
use Rattle.hq_laws.specs.Spread.{Way, CopyRight, CopyLeft, MoveBoth, MoveLeft, MoveRight, Stay, Built, Joining, added_slices, left_side, right_side, with_source, with_sources, closed}
use Rattle.hq_laws.specs.Stages.{filters, partial_op, final_op, tail_op, sending}
use Rattle.hq_listing.specs.Listing.{end_op, listed}
use Rattle.hq_whole.specs.Choices.{way_of, joining_of, joinings}
use Rattle.hq_whole.specs.Gathers.{gathered_of}
use Rattle.hq_whole.specs.declared.step.Step.{Step}

pub built-next : (kinds : ℕ → List Kind) (conds : List Expr) (b : Built) (s : Step) (w : ℕ) (source : Op) (others : List Kind) (n : Built)
    → w ≡ length b.kinds → source ≡ source_op kinds s.table (guards_of (kinds s.table) w conds) → others ≡ kinds s.table
    → n.slices ≡ b.slices ++ added_slices (way_of s.way) s.left_keys s.right_keys b.root source
    → n.root ≡ op.Join s.left_keys s.right_keys (left_side (way_of s.way) (length b.slices) b.kinds b.root) (right_side (way_of s.way) (length b.slices) others source) → n.kinds ≡ b.kinds ++ others
    → n ≡ with_source kinds b (joining_of kinds conds (length b.kinds) s)
built-next kinds conds b s w source others n ew es eo slices root all =
    let src : source ≡ source_op kinds s.table (guards_of (kinds s.table) (length b.kinds) conds) = es ∙ ap (λ (n : ℕ). source_op kinds s.table (guards_of (kinds s.table) n conds)) ew in
    let given : n.slices ≡ b.slices ++ added_slices (way_of s.way) s.left_keys s.right_keys b.root (source_op kinds s.table (guards_of (kinds s.table) (length b.kinds) conds)) = slices ∙ ap (λ (o : Op). b.slices ++ added_slices (way_of s.way) s.left_keys s.right_keys b.root o) src in
    let joined : n.root ≡ op.Join s.left_keys s.right_keys (left_side (way_of s.way) (length b.slices) b.kinds b.root) (right_side (way_of s.way) (length b.slices) (kinds s.table) (source_op kinds s.table (guards_of (kinds s.table) (length b.kinds) conds))) =
    root ∙ (λ i. op.Join s.left_keys s.right_keys (left_side (way_of s.way) (length b.slices) b.kinds b.root) (right_side (way_of s.way) (length b.slices) (eo i) (src i))) in
    let more : n.kinds ≡ b.kinds ++ kinds s.table = all ∙ ap (λ (o : List Kind). b.kinds ++ o) eo in
    λ i. record { slices = given i; root = joined i; kinds = more i }

-- a way adds at most two slices
added-few : (way : Way) (lk rk : List ℕ) (a b : Op) → length (added_slices way lk rk a b) ≤ 2
added-few CopyRight lk rk a b = omega arith
added-few CopyLeft lk rk a b = omega arith
added-few MoveBoth lk rk a b = omega arith
added-few MoveLeft lk rk a b = omega arith
added-few MoveRight lk rk a b = omega arith
added-few Stay lk rk a b = omega arith

pub slices-few : (old new : List Slice) (way : Way) (lk rk : List ℕ) (a b : Op) → new ≡ old ++ added_slices way lk rk a b → length new ≤ length old + 2
slices-few old new way lk rk a b e = let n : length new ≡ length old + length (added_slices way lk rk a b) = ap (λ (l : List Slice). length l) e ∙ length-append old (added_slices way lk rk a b) in omega (arith, n, added-few way lk rk a b)

-- two slices more
pub two-sent : (old one two : List Slice) (out : Motion) (lk rk : List ℕ) (a b : Op) → out ≡ motion.Redistribute lk → one ≡ old ++ sending out a ∷ [] → two ≡ one ++ sending (motion.Redistribute rk) b ∷ []
    → two ≡ old ++ sending (motion.Redistribute lk) a ∷ sending (motion.Redistribute rk) b ∷ []
two-sent old one two out lk rk a b eo e1 e2 =
    e2 ∙ ap (λ (l : List Slice). l ++ sending (motion.Redistribute rk) b ∷ []) (e1 ∙ ap (λ (o : Motion). old ++ sending o a ∷ []) eo)
    ∙ append_assoc old (sending (motion.Redistribute lk) a ∷ []) (sending (motion.Redistribute rk) b ∷ [])

pub one-longer : (old new : List Slice) (out : Motion) (a : Op) → new ≡ old ++ sending out a ∷ [] → length new ≡ suc (length old)
one-longer old new out a e = let n : length new ≡ length old + 1 = ap (λ (l : List Slice). length l) e ∙ length-append old (sending out a ∷ []) in omega (arith, n)

-- the last two slices
last-two : (old one two : List Slice) (a b : Slice) → one ≡ old ++ a ∷ [] → two ≡ one ++ b ∷ [] → two ≡ old ++ a ∷ b ∷ []
last-two old one two a b e1 e2 = e2 ∙ ap (λ (l : List Slice). l ++ b ∷ []) e1 ∙ append_assoc old (a ∷ []) (b ∷ [])

pub closed-same : (q : Query) (b : Built) (sent : List Kind) (grouped : Op) (one two : List Slice) (received root : Op) (last : Slice)
    → grouped ≡ partial_op q (filters q.conds b.root) → one ≡ b.slices ++ sending motion.Gather grouped ∷ [] → received ≡ op.Receive (length b.slices) sent
    → root ≡ tail_op q (final_op q received) → last ≡ sending motion.Result root → two ≡ one ++ last ∷ [] → (let plan : Plan = record { slices = two } in plan) ≡ closed sent q b
closed-same q b sent grouped one two received root last eg e1 er et el e2 =
    let ended : last ≡ sending motion.Result (tail_op q (final_op q (op.Receive (length b.slices) sent))) = el ∙ ap (sending motion.Result) (et ∙ ap (λ (x : Op). tail_op q (final_op q x)) er) in
    let all : two ≡ b.slices ++ sending motion.Gather (partial_op q (filters q.conds b.root)) ∷ sending motion.Result (tail_op q (final_op q (op.Receive (length b.slices) sent))) ∷ [] =
    last-two b.slices one two (sending motion.Gather grouped) last e1 e2 ∙ (λ i. b.slices ++ sending motion.Gather (eg i) ∷ ended i ∷ []) in
    λ i. record { slices = all i }

pub listed-same : (q : Query) (b : Built) (out : List Kind) (values : Op) (one two : List Slice) (received root : Op) (last : Slice)
    → values ≡ op.Project q.items (filters q.conds b.root) → one ≡ b.slices ++ sending motion.Gather values ∷ [] → received ≡ op.Receive (length b.slices) out
    → root ≡ end_op q received → last ≡ sending motion.Result root → two ≡ one ++ last ∷ [] → (let plan : Plan = record { slices = two } in plan) ≡ listed out q b
listed-same q b out values one two received root last ev e1 er et el e2 =
    let ended : last ≡ sending motion.Result (end_op q (op.Receive (length b.slices) out)) = el ∙ ap (sending motion.Result) (et ∙ ap (end_op q) er) in
    let all : two ≡ b.slices ++ sending motion.Gather (op.Project q.items (filters q.conds b.root)) ∷ sending motion.Result (end_op q (op.Receive (length b.slices) out)) ∷ [] =
    last-two b.slices one two (sending motion.Gather values) last e1 e2 ∙ (λ i. b.slices ++ sending motion.Gather (ev i) ∷ ended i ∷ []) in
    λ i. record { slices = all i }

-- the plan that gathers each source by itself
pub gathered-same : (kinds : ℕ → List Kind) (q : Query) (conds : List Expr) (sources : List ℕ) (product root : Op) (scans all : List Slice) (last : Slice)
    → conds ≡ q.conds → sources ≡ q.sources → product ≡ product_op kinds sources → root ≡ rest_op q product → scans ≡ map (scan_slice kinds) (with_guards kinds conds 0 sources)
    → last ≡ sending motion.Result root → all ≡ scans ++ last ∷ [] → (let plan : Plan = record { slices = all } in plan) ≡ gathered_of kinds q (with_guards kinds q.conds 0 q.sources) q.sources
gathered-same kinds q conds sources product root scans all last ec es ep er en el ea =
    let ended : last ≡ sending motion.Result (rest_op q (product_op kinds q.sources)) = el ∙ ap (sending motion.Result) (er ∙ ap (rest_op q) (ep ∙ ap (product_op kinds) es)) in
    let front : scans ≡ map (scan_slice kinds) (with_guards kinds q.conds 0 q.sources) = en ∙ (λ i. map (scan_slice kinds) (with_guards kinds (ec i) 0 (es i))) in
    let whole : all ≡ map (scan_slice kinds) (with_guards kinds q.conds 0 q.sources) ++ sending motion.Result (rest_op q (product_op kinds q.sources)) ∷ [] = ea ∙ (λ i. front i ++ ended i ∷ []) in
    λ i. record { slices = whole i }

drop-item : (steps : List Step) (i : ℕ) (s : Step) → i < length steps → s ≡ get_or steps i s → drop i steps ≡ s ∷ drop (suc i) steps
drop-item [] i s l h = absurd (omega (arith, l))
drop-item (t ∷ steps) zero s l h = ap (λ (x : Step). x ∷ steps) (sym h)
drop-item (t ∷ steps) (suc i) s l h = drop-item steps i s (omega (arith, l)) h

pub step-next : (kinds : ℕ → List Kind) (conds : List Expr) (b c : Built) (steps : List Step) (i : ℕ) (s : Step) → i < length steps → s ≡ get_or steps i s → c ≡ with_source kinds b (joining_of kinds conds (length b.kinds) s)
    → with_sources kinds c (joinings kinds conds (length c.kinds) (drop (i + 1) steps)) ≡ with_sources kinds b (joinings kinds conds (length b.kinds) (drop i steps))
step-next kinds conds b c steps i s within item next =
    let one : i + 1 ≡ suc i = omega arith in
    ap (λ (n : ℕ). with_sources kinds c (joinings kinds conds (length c.kinds) (drop n steps))) one
    ∙ ap (λ (d : Built). with_sources kinds d (joinings kinds conds (length d.kinds) (drop (suc i) steps))) next
    ∙ ap (λ (n : ℕ). with_sources kinds (with_source kinds b (joining_of kinds conds (length b.kinds) s)) (joinings kinds conds n (drop (suc i) steps))) (length-append b.kinds (kinds s.table))
    ∙ ap (λ (l : List Step). with_sources kinds b (joinings kinds conds (length b.kinds) l)) (sym (drop-item steps i s within item))
