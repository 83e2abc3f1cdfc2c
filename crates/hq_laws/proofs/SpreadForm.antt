-- The plan that joins and groups on all nodes is well formed.
use Rattle.std.proofs.Common.{◌≡◌, ℕ, zero, suc, ◌+◌, ◌*◌, ◌≤◌, ◌==◌, Bool, true, false, not, cond, ◌&&◌, ◌||◌, List, [], ◌∷◌, ◌++◌, length, Option, Some, None, is_some, refl, sym, ◌∙◌, ap, subst, arith, append_assoc, length-append, nat_le, nat_lt, slice_get}
use Rattle.std.specs.List.{list_any, list_all}
use Rattle.std.proofs.lemmas.List.{append-nil}
use Rattle.std.proofs.lemmas.List.Folds.{list_all-append}
use Rattle.hq_value.specs.declared.kind.Kind.{Kind}
use Rattle.hq_value.specs.declared.kind.Kind.TheVariants as kind
use Rattle.hq_algebra.specs.declared.expr.Expr.{Expr}
use Rattle.hq_algebra.specs.Shape.{parts, has_arith}
use Rattle.hq_algebra.specs.declared.op.Op.{Op}
use Rattle.hq_algebra.specs.declared.op.Op.TheVariants as op
use Rattle.hq_algebra.specs.declared.op.Op.TheBlock.{hidden-the_row-Op-0}
use Rattle.hq_algebra.specs.declared.plan.Motion.{Motion}
use Rattle.hq_algebra.specs.declared.plan.Slice.{Slice}
use Rattle.hq_algebra.specs.declared.plan.Motion.TheVariants as motion
use denote.Hole.Carrier.{hidden}
use Rattle.hq_algebra.specs.Rules.{is_empty}
use Rattle.hq_algebra.specs.Kinds.{◌>>=◌, same_kinds, some_if, is_of, expr_kind}
use Rattle.hq_algebra.specs.Operators.{op_kinds, keys_kinds, join_kinds}
use Rattle.hq_algebra.specs.Plans as form
use Rattle.hq_algebra.specs.Plans.{operators, received, is_short, is_join, op_is_fine, slice_is_fine, motion_is_fine, motion_stands, is_result, is_gather, ends_with_result, are_sent, receives_what_is_sent, gathers, only_gathers, gathers_alone, fits_before, fit_in_order, ends_with_gather, receives_a_gather, all_operators, are_received_once, joins_without_counts, are_well_formed, is_well_formed, keys_stand}
use Rattle.hq_meaning.specs.Slices.{receives}
use Rattle.hq_laws.specs.Stages.{sending}
use Rattle.hq_laws.specs.Spread.{Way, CopyRight, CopyLeft, MoveBoth, MoveLeft, MoveRight, Stay, Built, first_source, added_slices, left_side, right_side}
use Rattle.hq_laws.specs.Sources.{Source, all_of, source_op, fits_filter}
use Rattle.hq_algebra.specs.Bound.{is_table}
use Rattle.hq_laws.specs.Room.{way_stands, is_sendable}
use Rattle.std.specs.List.{AllByRecursion}
use Rattle.hq_laws.proofs.Lists.{occurs, occurs-append, both_true}
use Rattle.hq_laws.proofs.Regroup.{flat_map-append}
use Rattle.hq_laws.proofs.Chains.{AllByRecursion-append}
use Rattle.hq_laws.proofs.Sourcing.{source-pass, source-count, source-kinds, source-receives}
use Rattle.hq_laws.proofs.Typing.{all_same_themselves}
use Rattle.hq_laws.proofs.Fitness.{Pass}
use Rattle.hq_laws.proofs.Shapes.{fit-append, any-received, all_received}

-- no slice gathers
abbrev NoneGather : List Slice → Type 0
NoneGather slices = AllByRecursion (λ (s : Slice). is_gather s.out ≡ false) slices

no-gathers : (slices : List Slice) → NoneGather slices → (i : ℕ) → gathers slices i ≡ false
no-gathers [] none i = refl
no-gathers (s ∷ slices) none zero = none.0
no-gathers (s ∷ slices) none (suc i) = no-gathers slices none.1 i

pub receives-none : (slices : List Slice) → NoneGather slices → (root : Op) → list_any (receives_a_gather slices) (operators root) ≡ false
receives-none slices none root = any-received slices root ∙ any-none (receives root)
  where
    any-none : (is : List ℕ) → list_any (gathers slices) is ≡ false
    any-none [] = refl
    any-none (i ∷ is) = λ t. no-gathers slices none i t || any-none is t

pub place : (xs : List Slice) (s : Slice) (more : List Slice) → slice_get (xs ++ s ∷ more) (length xs) ≡ Some s
place [] s more = refl
place (x ∷ xs) s more = place xs s more

place-next : (xs : List Slice) (r s : Slice) (more : List Slice) → slice_get (xs ++ r ∷ s ∷ more) (suc (length xs)) ≡ Some s
place-next [] r s more = refl
place-next (x ∷ xs) r s more = place-next xs r s more

-- a Receive of what was sent
pub sent-there : (ks : List Kind) → is_sendable ks ≡ true → (o : Option Slice) (s : Slice) → o ≡ Some s → op_kinds s.root ≡ Some ks → are_sent ks (o >>= (λ s. op_kinds s.root)) ≡ true
sent-there ks some o s e h =
    ap (λ p. are_sent ks (p >>= (λ s. op_kinds s.root))) e ∙ ap (are_sent ks) h ∙ (λ i. all_same_themselves ks i && (both_true (not (is_empty ks)) (is_short ks) some).0 i)

join_kinds-some : (lk rk : List ℕ) (left right : List Kind) → is_some (join_kinds lk rk left right) ≡ true → join_kinds lk rk left right ≡ Some (left ++ right)
join_kinds-some lk rk left right h = by (keys_kinds left lk) (keys_kinds right rk) h
  where
    fit : (b : Bool) → is_some (some_if b (left ++ right)) ≡ true → some_if b (left ++ right) ≡ Some (left ++ right)
    fit true h = refl
    fit false h = cc

    by : (o p : Option (List Kind)) → is_some (o >>= (λ ls. p >>= (λ rs. some_if (same_kinds ls rs) (left ++ right)))) ≡ true → (o >>= (λ ls. p >>= (λ rs. some_if (same_kinds ls rs) (left ++ right)))) ≡ Some (left ++ right)
    by None p h = cc
    by (Some ls) None h = cc
    by (Some ls) (Some rs) h = fit (same_kinds ls rs) h

short : (n : ℕ) → n ≤ 64 → nat_le n 64 ≡ true
short n h = grind arith

-- what is built is in form: k sources have been added
pub record Formed (kinds : ℕ → List Kind) (b : Built) (k : ℕ) : Type 0 where
  pub out : AllByRecursion (λ (s : Slice). is_result s.out ≡ false) b.slices
  pub none : NoneGather b.slices
  pub fine : list_all slice_is_fine b.slices ≡ true
  pub move : list_all motion_is_fine b.slices ≡ true
  pub fits : fit_in_order [] b.slices ≡ true
  pub once : (i : ℕ) → occurs i (all_received b.slices) + occurs i (receives b.root) ≡ cond (nat_lt i (length b.slices)) 1 0
  pub size : length b.slices ≤ k + k
  pub pairs : AllByRecursion (λ (s : Slice). Pass form.stands_over_pairs s.root) b.slices
  pub root_pairs : Pass form.stands_over_pairs b.root
  pub root_fine : Pass op_is_fine b.root
  pub root_count : length (operators b.root) ≤ 2 + (k + k + k)
  pub root_kinds : op_kinds b.root ≡ Some b.kinds
  pub root_sent : (more : List Slice) → Pass (receives_what_is_sent (b.slices ++ more)) b.root
  pub wide : is_sendable b.kinds ≡ true
  pub width : length b.kinds ≤ 64 + k * 64

sendable : (ks : List Kind) → 1 ≤ length ks → length ks ≤ 65535 → is_sendable ks ≡ true
sendable [] h l = absurd (omega arith)
sendable (k ∷ ks) h l = let r : nat_le (length (k ∷ ks)) 65535 ≡ true = small (length (k ∷ ks)) l in r
  where
    small : (n : ℕ) → n ≤ 65535 → nat_le n 65535 ≡ true
    small n h = grind arith

table-size : (ks : List Kind) → is_table ks ≡ true → (1 ≤ length ks) × (length ks ≤ 64)
table-size ks h =
    let b : (nat_le 1 (length ks) ≡ true) × (nat_le (length ks) 64 ≡ true) = both_true (nat_le 1 (length ks)) (nat_le (length ks) 64) h in
    (least (length ks) b.0, most (length ks) b.1)
  where
    least : (n : ℕ) → nat_le 1 n ≡ true → 1 ≤ n
    least n h = grind arith

    most : (n : ℕ) → nat_le n 64 ≡ true → n ≤ 64
    most n h = grind arith

-- what the operator of a source passes
module _ (kinds : ℕ → List Kind) (t : ℕ) (tests : List Expr) (fit : fits_filter (kinds t) tests ≡ true) where
  abbrev src : Op
  src = source_op kinds t tests

  pub source-fine : is_short (kinds t) ≡ true → Pass op_is_fine src
  unfolding hidden-the_row-Op-0 hidden
  source-fine short = source-pass kinds t op_is_fine tests short own
    where
      own : (e : Expr) (es : List Expr) → tests ≡ e ∷ es → op_is_fine (op.Filter (all_of e es) (op.Scan t (kinds t))) ≡ true
      own e es g =
          let h : (is_of kind.Bool (expr_kind (kinds t) (all_of e es)) ≡ true) × ((not (has_arith (all_of e es)) && nat_le (parts (all_of e es)) 2100) ≡ true) = both_true _ _ (ap (fits_filter (kinds t)) (sym g) ∙ fit) in
          let k : (not (has_arith (all_of e es)) ≡ true) × (nat_le (parts (all_of e es)) 2100 ≡ true) = both_true _ _ h.1 in
          λ i. (k.1 i && true) && (k.0 i && true)

  pub source-pairs : Pass form.stands_over_pairs src
  unfolding hidden-the_row-Op-0 hidden
  source-pairs = source-pass kinds t form.stands_over_pairs tests refl (λ e es g. refl)

  pub source-no_join : Pass (λ o. not (is_join o)) src
  unfolding hidden-the_row-Op-0 hidden
  source-no_join = source-pass kinds t (λ o. not (is_join o)) tests refl (λ e es g. refl)

  pub source-sent : (before : List Slice) → Pass (receives_what_is_sent before) src
  unfolding hidden-the_row-Op-0 hidden
  source-sent before = source-pass kinds t (receives_what_is_sent before) tests refl (λ e es g. refl)

  pub source-slice : (out : Motion) → is_short (kinds t) ≡ true → slice_is_fine (sending out src) ≡ true
  source-slice out short = λ i. few (length (operators src)) (source-count kinds t tests) i && (source-fine short i && is_some (source-kinds kinds t tests fit i))
    where
      few : (n : ℕ) → n ≤ 2 → nat_le n 64 ≡ true
      few n h = grind arith

  pub source-alone : (before : List Slice) → gathers_alone before (operators src) ≡ true
  source-alone before = ap (λ b. not b || list_all (only_gathers before) (operators src)) (any-received before src ∙ ap (list_any (gathers before)) (source-receives kinds t tests))

  pub source-fits : (before : List Slice) (out : Motion) → fits_before before (sending out src) ≡ true
  source-fits before out = λ i. source-sent before i && source-alone before i

pub formed-first : (kinds : ℕ → List Kind) (s : Source) → is_table (kinds s.table) ≡ true → fits_filter (kinds s.table) s.tests ≡ true → Formed kinds (first_source kinds s) 0
formed-first kinds s h fit =
    let size : (1 ≤ length (kinds s.table)) × (length (kinds s.table) ≤ 64) = table-size (kinds s.table) h in
    let wide : is_sendable (kinds s.table) ≡ true = sendable (kinds s.table) size.0 (omega (arith, size.1)) in
    let few : length (operators (source_op kinds s.table s.tests)) ≤ 2 = source-count kinds s.table s.tests in
    record {
      out = tt;
      none = tt;
      fine = refl;
      move = refl;
      fits = refl;
      once = λ i. ap (λ l. 0 + occurs i l) (source-receives kinds s.table s.tests) ∙ counted i;
      size = omega arith;
      pairs = tt;
      root_pairs = source-pairs kinds s.table s.tests fit;
      root_fine = source-fine kinds s.table s.tests fit (both_true (not (is_empty (kinds s.table))) (is_short (kinds s.table)) wide).1;
      root_count = omega (arith, few);
      root_kinds = source-kinds kinds s.table s.tests fit;
      root_sent = λ more. source-sent kinds s.table s.tests fit more;
      wide = wide;
      width = omega (arith, size.1);
    }
  where
    counted : (i : ℕ) → 0 + 0 ≡ cond (nat_lt i 0) 1 0
    counted i = grind arith

-- What is sent by one slice more.
module _ (kinds : ℕ → List Kind) (b : Built) (k : ℕ) (f : Formed kinds b k) (seven : k ≤ 7) where
  root-slice : (out : Motion) → slice_is_fine (sending out b.root) ≡ true
  root-slice out = λ i. short (length (operators b.root)) (let c = f.root_count in omega (arith, c)) i && (f.root_fine i && is_some (f.root_kinds i))

  root-fits : (out : Motion) → fits_before b.slices (sending out b.root) ≡ true
  root-fits out = λ i. (ap (λ l. list_all (receives_what_is_sent l) (operators b.root)) (sym (append-nil b.slices)) ∙ f.root_sent []) i
      && ap (λ c. not c || list_all (only_gathers b.slices) (operators b.root)) (receives-none b.slices f.none b.root) i

  -- the slices with these behind them
  out-more : (ss : List Slice) → AllByRecursion (λ (s : Slice). is_result s.out ≡ false) ss → AllByRecursion (λ (s : Slice). is_result s.out ≡ false) (b.slices ++ ss)
  out-more ss h = AllByRecursion-append (λ (s : Slice). is_result s.out ≡ false) b.slices ss f.out h

  none-more : (ss : List Slice) → NoneGather ss → NoneGather (b.slices ++ ss)
  none-more ss h = AllByRecursion-append (λ (s : Slice). is_gather s.out ≡ false) b.slices ss f.none h

  fine-more : (ss : List Slice) → list_all slice_is_fine ss ≡ true → list_all slice_is_fine (b.slices ++ ss) ≡ true
  fine-more ss h = list_all-append slice_is_fine b.slices ss ∙ (λ i. f.fine i && h i)

  move-more : (ss : List Slice) → list_all motion_is_fine ss ≡ true → list_all motion_is_fine (b.slices ++ ss) ≡ true
  move-more ss h = list_all-append motion_is_fine b.slices ss ∙ (λ i. f.move i && h i)

  fits-more : (ss : List Slice) → fit_in_order b.slices ss ≡ true → fit_in_order [] (b.slices ++ ss) ≡ true
  fits-more ss h = fit-append [] b.slices ss ∙ (λ i. f.fits i && h i)

  pairs-more : (ss : List Slice) → AllByRecursion (λ (s : Slice). Pass form.stands_over_pairs s.root) ss → AllByRecursion (λ (s : Slice). Pass form.stands_over_pairs s.root) (b.slices ++ ss)
  pairs-more ss h = AllByRecursion-append (λ (s : Slice). Pass form.stands_over_pairs s.root) b.slices ss f.pairs h

  received-more : (i : ℕ) (ss : List Slice) → occurs i (all_received (b.slices ++ ss)) ≡ occurs i (all_received b.slices) + occurs i (all_received ss)
  received-more i ss = ap (occurs i) (flat_map-append (λ (s : Slice). receives s.root) b.slices ss) ∙ occurs-append i (all_received b.slices) (all_received ss)

  one-more : (i l a c m : ℕ) → a + c ≡ cond (nat_lt i l) 1 0 → m ≡ l + 1 → (a + 0) + (c + (cond (i == l) 1 0 + 0)) ≡ cond (nat_lt i m) 1 0
  one-more i l a c m h e = grind arith

  one-sent : (i l a c m : ℕ) → a + c ≡ cond (nat_lt i l) 1 0 → m ≡ l + 1 → (a + (c + 0)) + (cond (i == l) 1 0 + 0) ≡ cond (nat_lt i m) 1 0
  one-sent i l a c m h e = grind arith

  none-sent : (i l a c m : ℕ) → a + c ≡ cond (nat_lt i l) 1 0 → m ≡ l → (a + 0) + (c + 0) ≡ cond (nat_lt i m) 1 0
  none-sent i l a c m h e = grind arith

  two-sent : (i l a c m : ℕ) → a + c ≡ cond (nat_lt i l) 1 0 → m ≡ l + 2 → (a + (c + 0)) + (cond (i == l) 1 0 + (cond (i == suc l) 1 0 + 0)) ≡ cond (nat_lt i m) 1 0
  two-sent i l a c m h e = grind arith

  module _ (t : ℕ) (tests : List Expr) (filter : fits_filter (kinds t) tests ≡ true) (lk rk : List ℕ) (table : is_table (kinds t) ≡ true) (joins : is_some (join_kinds lk rk b.kinds (kinds t)) ≡ true) (left_short : is_short lk ≡ true) (right_short : is_short rk ≡ true) where
    abbrev scan : Op
    scan = source_op kinds t tests

    abbrev next : Way → Built
    next way = record {
      slices = b.slices ++ added_slices way lk rk b.root scan;
      root = op.Join lk rk (left_side way (length b.slices) b.kinds b.root) (right_side way (length b.slices) (kinds t) scan);
      kinds = b.kinds ++ kinds t;
    }

    scan-kinds : op_kinds scan ≡ Some (kinds t)
    scan-kinds = source-kinds kinds t tests filter

    scan-few : length (operators scan) ≤ 2
    scan-few = source-count kinds t tests

    scan-pairs : Pass form.stands_over_pairs scan
    scan-pairs = source-pairs kinds t tests filter

    scan-receives : receives scan ≡ []
    scan-receives = source-receives kinds t tests

    table-wide : is_sendable (kinds t) ≡ true
    table-wide = let size : (1 ≤ length (kinds t)) × (length (kinds t) ≤ 64) = table-size (kinds t) table in sendable (kinds t) size.0 (omega (arith, size.1))

    table-short : is_short (kinds t) ≡ true
    table-short = (both_true (not (is_empty (kinds t))) (is_short (kinds t)) table-wide).1

    next-width : length (b.kinds ++ kinds t) ≤ 64 + suc k * 64
    next-width =
        let size : (1 ≤ length (kinds t)) × (length (kinds t) ≤ 64) = table-size (kinds t) table in
        let sum : length (b.kinds ++ kinds t) ≡ length b.kinds + length (kinds t) = length-append b.kinds (kinds t) in
        let w = f.width in
        omega (arith, size.1, sum, w)

    next-wide : is_sendable (b.kinds ++ kinds t) ≡ true
    next-wide =
        let size : (1 ≤ length (kinds t)) × (length (kinds t) ≤ 64) = table-size (kinds t) table in
        let sum : length (b.kinds ++ kinds t) ≡ length b.kinds + length (kinds t) = length-append b.kinds (kinds t) in
        let w : length (b.kinds ++ kinds t) ≤ 64 + suc k * 64 = next-width in
        sendable (b.kinds ++ kinds t) (omega (arith, size.0, sum)) (omega (arith, w, seven))

    -- the join of two sides
    join-kinds : (x y : Op) → op_kinds x ≡ Some b.kinds → op_kinds y ≡ Some (kinds t) → op_kinds (op.Join lk rk x y) ≡ Some (b.kinds ++ kinds t)
    unfolding hidden-the_row-Op-0 hidden
    join-kinds x y e g = (λ i. e i >>= (λ ls. g i >>= (λ rs. join_kinds lk rk ls rs))) ∙ join_kinds-some lk rk b.kinds (kinds t) joins

    join-pass : (P : Op → Bool) (x y : Op) → P (op.Join lk rk x y) ≡ true → Pass P x → Pass P y → Pass P (op.Join lk rk x y)
    unfolding hidden-the_row-Op-0 hidden
    join-pass P x y own e g = λ i. own i && (list_all-append P (operators x) (operators y) ∙ (λ j. e j && g j)) i

    join-own : (x y : Op) → op_is_fine (op.Join lk rk x y) ≡ true
    unfolding hidden-the_row-Op-0 hidden
    join-own x y = λ i. left_short i && right_short i

    join-count : (x y : Op) → length (operators (op.Join lk rk x y)) ≡ suc (length (operators x) + length (operators y))
    unfolding hidden-the_row-Op-0 hidden
    join-count x y = ap suc (length-append (operators x) (operators y))

    join-receives : (x y : Op) → receives (op.Join lk rk x y) ≡ receives x ++ receives y
    unfolding hidden-the_row-Op-0 hidden
    join-receives x y = flat_map-append received (operators x) (operators y)

    receive-fine : (i : ℕ) (ks : List Kind) → is_sendable ks ≡ true → Pass op_is_fine (op.Receive i ks)
    receive-fine i ks h = λ j. (both_true (not (is_empty ks)) (is_short ks) h).1 j && true

    scan-fine : Pass op_is_fine scan
    scan-fine = source-fine kinds t tests filter table-short

    scan-slice : (out : Motion) → slice_is_fine (sending out scan) ≡ true
    scan-slice out = source-slice kinds t tests filter out table-short

    -- a Receive of a slice behind these
    sent-first : (s : Slice) (more : List Slice) (ks : List Kind) → is_sendable ks ≡ true → op_kinds s.root ≡ Some ks → Pass (receives_what_is_sent (b.slices ++ s ∷ more)) (op.Receive (length b.slices) ks)
    sent-first s more ks h e = λ i. sent-there ks h (slice_get (b.slices ++ s ∷ more) (length b.slices)) s (place b.slices s more) e i && true

    sent-second : (r s : Slice) (more : List Slice) (ks : List Kind) → is_sendable ks ≡ true → op_kinds s.root ≡ Some ks → Pass (receives_what_is_sent (b.slices ++ r ∷ s ∷ more)) (op.Receive (suc (length b.slices)) ks)
    sent-second r s more ks h e = λ i. sent-there ks h (slice_get (b.slices ++ r ∷ s ∷ more) (suc (length b.slices))) s (place-next b.slices r s more) e i && true

    behind-one : (s : Slice) (x : Op) → ((more : List Slice) → Pass (receives_what_is_sent (b.slices ++ s ∷ more)) x) → (more : List Slice) → Pass (receives_what_is_sent ((b.slices ++ s ∷ []) ++ more)) x
    behind-one s x h more = subst (λ l. Pass (receives_what_is_sent l) x) (sym (append_assoc b.slices (s ∷ []) more)) (h more)

    behind-two : (r s : Slice) (x : Op) → ((more : List Slice) → Pass (receives_what_is_sent (b.slices ++ r ∷ s ∷ more)) x) → (more : List Slice) → Pass (receives_what_is_sent ((b.slices ++ r ∷ s ∷ []) ++ more)) x
    behind-two r s x h more = subst (λ l. Pass (receives_what_is_sent l) x) (sym (append_assoc b.slices (r ∷ s ∷ []) more)) (h more)

    size-one : (s : Slice) → length (b.slices ++ s ∷ []) ≤ suc k + suc k
    size-one s = let e : length (b.slices ++ s ∷ []) ≡ length b.slices + 1 = length-append b.slices (s ∷ []) in let z = f.size in omega (arith, e, z)

    -- the table is sent
    formed-right : (out : Motion) → is_result out ≡ false → is_gather out ≡ false → motion_is_fine (sending out scan) ≡ true
        → Formed kinds (record { slices = b.slices ++ sending out scan ∷ []; root = op.Join lk rk b.root (op.Receive (length b.slices) (kinds t)); kinds = b.kinds ++ kinds t }) (suc k)
    formed-right out no_result no_gather stands =
        let s : Slice = sending out scan in
        let c : length (operators (op.Join lk rk b.root (op.Receive (length b.slices) (kinds t)))) ≡ suc (length (operators b.root) + 1) = join-count b.root (op.Receive (length b.slices) (kinds t)) in
        let d = f.root_count in
        record {
          out = out-more (s ∷ []) (no_result, tt);
          none = none-more (s ∷ []) (no_gather, tt);
          fine = fine-more (s ∷ []) (λ i. scan-slice out i && true);
          move = move-more (s ∷ []) (λ i. stands i && true);
          fits = fits-more (s ∷ []) (λ i. source-fits kinds t tests filter b.slices out i && true);
          once = λ i. (λ j. (received-more i (s ∷ []) ∙ ap (λ l. occurs i (all_received b.slices) + occurs i (l ++ [])) scan-receives) j + (ap (occurs i) (join-receives b.root (op.Receive (length b.slices) (kinds t))) ∙ occurs-append i (receives b.root) (length b.slices ∷ [])) j)
              ∙ one-more i (length b.slices) (occurs i (all_received b.slices)) (occurs i (receives b.root)) (length (b.slices ++ s ∷ [])) (f.once i) (length-append b.slices (s ∷ []));
          size = size-one s;
          pairs = pairs-more (s ∷ []) (scan-pairs, tt);
          root_pairs = join-pass form.stands_over_pairs b.root (op.Receive (length b.slices) (kinds t)) refl f.root_pairs refl;
          root_fine = join-pass op_is_fine b.root (op.Receive (length b.slices) (kinds t)) (join-own b.root (op.Receive (length b.slices) (kinds t))) f.root_fine (receive-fine (length b.slices) (kinds t) table-wide);
          root_count = omega (arith, c, d);
          root_kinds = join-kinds b.root (op.Receive (length b.slices) (kinds t)) f.root_kinds refl;
          root_sent = behind-one s (op.Join lk rk b.root (op.Receive (length b.slices) (kinds t)))
              (λ more. join-pass (receives_what_is_sent (b.slices ++ s ∷ more)) b.root (op.Receive (length b.slices) (kinds t)) refl (f.root_sent (s ∷ more)) (sent-first s more (kinds t) table-wide scan-kinds));
          wide = next-wide;
          width = next-width;
        }

    -- nothing is sent
    formed-stay : Formed kinds (next Stay) (suc k)
    formed-stay =
        let c : length (operators (op.Join lk rk b.root scan)) ≡ suc (length (operators b.root) + length (operators scan)) = join-count b.root scan in
        let d = f.root_count in
        let e : length (b.slices ++ []) ≡ length b.slices = ap (λ (l : List Slice). length l) (append-nil b.slices) in
        let z = f.size in
        let few : length (operators scan) ≤ 2 = scan-few in
        record {
          out = out-more [] tt;
          none = none-more [] tt;
          fine = fine-more [] refl;
          move = move-more [] refl;
          fits = fits-more [] refl;
          once = λ i. (λ j. received-more i [] j + (ap (occurs i) (join-receives b.root scan) ∙ occurs-append i (receives b.root) (receives scan) ∙ ap (λ l. occurs i (receives b.root) + occurs i l) scan-receives) j)
              ∙ none-sent i (length b.slices) (occurs i (all_received b.slices)) (occurs i (receives b.root)) (length (b.slices ++ [])) (f.once i) e;
          size = omega (arith, e, z);
          pairs = pairs-more [] tt;
          root_pairs = join-pass form.stands_over_pairs b.root scan refl f.root_pairs scan-pairs;
          root_fine = join-pass op_is_fine b.root scan (join-own b.root scan) f.root_fine scan-fine;
          root_count = omega (arith, c, d, few);
          root_kinds = join-kinds b.root scan f.root_kinds scan-kinds;
          root_sent = λ more. subst (λ l. Pass (receives_what_is_sent (l ++ more)) (op.Join lk rk b.root scan)) (sym (append-nil b.slices))
              (join-pass (receives_what_is_sent (b.slices ++ more)) b.root scan refl (f.root_sent more) (source-sent kinds t tests filter (b.slices ++ more)));
          wide = next-wide;
          width = next-width;
        }

    -- the rows before it are sent
    formed-left : (out : Motion) → is_result out ≡ false → is_gather out ≡ false → motion_is_fine (sending out b.root) ≡ true
        → Formed kinds (record { slices = b.slices ++ sending out b.root ∷ []; root = op.Join lk rk (op.Receive (length b.slices) b.kinds) scan; kinds = b.kinds ++ kinds t }) (suc k)
    formed-left out no_result no_gather stands =
        let s : Slice = sending out b.root in
        let c : length (operators (op.Join lk rk (op.Receive (length b.slices) b.kinds) scan)) ≡ suc (1 + length (operators scan)) = join-count (op.Receive (length b.slices) b.kinds) scan in
        let few : length (operators scan) ≤ 2 = scan-few in
        record {
          out = out-more (s ∷ []) (no_result, tt);
          none = none-more (s ∷ []) (no_gather, tt);
          fine = fine-more (s ∷ []) (λ i. root-slice out i && true);
          move = move-more (s ∷ []) (λ i. stands i && true);
          fits = fits-more (s ∷ []) (λ i. root-fits out i && true);
          once = λ i. (λ j. (received-more i (s ∷ []) ∙ ap (λ n. occurs i (all_received b.slices) + n) (occurs-append i (receives b.root) [])) j + (ap (occurs i) (join-receives (op.Receive (length b.slices) b.kinds) scan) ∙ ap (λ l. occurs i (length b.slices ∷ l)) scan-receives) j)
              ∙ one-sent i (length b.slices) (occurs i (all_received b.slices)) (occurs i (receives b.root)) (length (b.slices ++ s ∷ [])) (f.once i) (length-append b.slices (s ∷ []));
          size = size-one s;
          pairs = pairs-more (s ∷ []) (f.root_pairs, tt);
          root_pairs = join-pass form.stands_over_pairs (op.Receive (length b.slices) b.kinds) scan refl refl scan-pairs;
          root_fine = join-pass op_is_fine (op.Receive (length b.slices) b.kinds) scan (join-own (op.Receive (length b.slices) b.kinds) scan) (receive-fine (length b.slices) b.kinds f.wide) scan-fine;
          root_count = omega (arith, c, few);
          root_kinds = join-kinds (op.Receive (length b.slices) b.kinds) scan refl scan-kinds;
          root_sent = behind-one s (op.Join lk rk (op.Receive (length b.slices) b.kinds) scan)
              (λ more. join-pass (receives_what_is_sent (b.slices ++ s ∷ more)) (op.Receive (length b.slices) b.kinds) scan refl (sent-first s more b.kinds f.wide f.root_kinds) (source-sent kinds t tests filter (b.slices ++ s ∷ more)));
          wide = next-wide;
          width = next-width;
        }

    -- both are sent
    formed-both : keys_stand lk (Some b.kinds) ≡ true → keys_stand rk (Some (kinds t)) ≡ true → Formed kinds (next MoveBoth) (suc k)
    formed-both left_stand right_stand =
        let r : Slice = sending (motion.Redistribute lk) b.root in
        let s : Slice = sending (motion.Redistribute rk) scan in
        let x : Op = op.Receive (length b.slices) b.kinds in
        let y : Op = op.Receive (suc (length b.slices)) (kinds t) in
        let c : length (operators (op.Join lk rk x y)) ≡ suc (1 + 1) = join-count x y in
        let e : length (b.slices ++ r ∷ s ∷ []) ≡ length b.slices + 2 = length-append b.slices (r ∷ s ∷ []) in
        let z = f.size in
        record {
          out = out-more (r ∷ s ∷ []) (refl, (refl, tt));
          none = none-more (r ∷ s ∷ []) (refl, (refl, tt));
          fine = fine-more (r ∷ s ∷ []) (λ i. root-slice (motion.Redistribute lk) i && (scan-slice (motion.Redistribute rk) i && true));
          move = move-more (r ∷ s ∷ []) (λ i. (ap (keys_stand lk) f.root_kinds ∙ left_stand) i && ((ap (keys_stand rk) scan-kinds ∙ right_stand) i && true));
          fits = fits-more (r ∷ s ∷ []) (λ i. root-fits (motion.Redistribute lk) i && (source-fits kinds t tests filter (b.slices ++ r ∷ []) (motion.Redistribute rk) i && true));
          once = λ i. (λ j. (received-more i (r ∷ s ∷ []) ∙ ap (λ l. occurs i (all_received b.slices) + occurs i (receives b.root ++ (l ++ []))) scan-receives ∙ ap (λ n. occurs i (all_received b.slices) + n) (occurs-append i (receives b.root) [])) j + ap (occurs i) (join-receives x y) j)
              ∙ two-sent i (length b.slices) (occurs i (all_received b.slices)) (occurs i (receives b.root)) (length (b.slices ++ r ∷ s ∷ [])) (f.once i) e;
          size = omega (arith, e, z);
          pairs = pairs-more (r ∷ s ∷ []) (f.root_pairs, (scan-pairs, tt));
          root_pairs = join-pass form.stands_over_pairs x y refl refl refl;
          root_fine = join-pass op_is_fine x y (join-own x y) (receive-fine (length b.slices) b.kinds f.wide) (receive-fine (suc (length b.slices)) (kinds t) table-wide);
          root_count = omega (arith, c);
          root_kinds = join-kinds x y refl refl;
          root_sent = behind-two r s (op.Join lk rk x y)
              (λ more. join-pass (receives_what_is_sent (b.slices ++ r ∷ s ∷ more)) x y refl (sent-first r (s ∷ more) b.kinds f.wide f.root_kinds) (sent-second r s more (kinds t) table-wide scan-kinds));
          wide = next-wide;
          width = next-width;
        }

    pub formed-by : (way : Way) → way_stands way b.kinds (kinds t) lk rk ≡ true → Formed kinds (next way) (suc k)
    formed-by CopyRight h = formed-right motion.Broadcast refl refl refl
    formed-by CopyLeft h = formed-left motion.Broadcast refl refl refl
    formed-by MoveBoth h = let both : (keys_stand lk (Some b.kinds) ≡ true) × (keys_stand rk (Some (kinds t)) ≡ true) = both_true (keys_stand lk (Some b.kinds)) (keys_stand rk (Some (kinds t))) h in formed-both both.0 both.1
    formed-by MoveLeft h = formed-left (motion.Redistribute lk) refl refl (ap (keys_stand lk) f.root_kinds ∙ h)
    formed-by MoveRight h = formed-right (motion.Redistribute rk) refl refl (ap (keys_stand rk) scan-kinds ∙ h)
    formed-by Stay h = formed-stay
