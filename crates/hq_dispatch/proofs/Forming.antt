-- What the rules of a plan say of each of its slices.
use Rattle.std.proofs.Common.{◌≡◌, ◌∙◌, ℕ, zero, suc, ◌+◌, ◌-◌, ◌<◌, ◌≤◌, ◌==◌, Bool, true, false, not, cond, ◌&&◌, ◌||◌, List, [], ◌∷◌, ◌++◌, length, take, filter, flat_map, nat_le, nat_lt, Option, Some, None, IsTrue, refl, sym, ap, subst, append-nil, append_assoc, arith}
use Rattle.std.specs.Prelude.{count_by, slice_get}
use Rattle.std.specs.List.{AllByRecursion, list_all, list_any, range_with_len}
use Rattle.std.proofs.lemmas.Bool.{eqb-true}
use Rattle.std.proofs.lemmas.Bool.Decides.{nat_tests}
use Rattle.std.proofs.lemmas.List.Folds.{list_any-append}
use Rattle.std.proofs.lemmas.List.Sums.{length-filter}
use Rattle.hq_value.specs.Bucket.{HasColumns}
use Rattle.hq_value.specs.Kinds.{Fits}
use Rattle.hq_value.specs.Tables.{all_below}
use Rattle.hq_value.specs.declared.kind.Kind.{Kind}
use Rattle.hq_algebra.specs.declared.op.Op.{Op}
use Rattle.hq_algebra.specs.declared.op.Op.TheVariants as op
use Rattle.hq_algebra.specs.declared.plan.Motion.{Motion}
use Rattle.hq_algebra.specs.declared.plan.Motion.TheVariants as motion
use Rattle.hq_algebra.specs.declared.plan.Plan.{Plan}
use Rattle.hq_algebra.specs.declared.plan.Slice.{Slice}
use Rattle.hq_algebra.specs.Kinds.{◌>>=◌, same_kinds}
use Rattle.hq_algebra.specs.Operators.{op_kinds}
use Rattle.hq_algebra.specs.Plans.{operators, all_operators, received, is_scan, is_short, is_result, slice_is_fine, motion_is_fine, motion_stands, sent_kinds, are_sent, receives_what_is_sent, gathers, receives_a_gather, only_gathers, gathers_alone, fits_before, fit_in_order, ends_with_result, ends_with_gather, are_received_once, is_well_formed}
use Rattle.hq_algebra.specs.Rules.{is_empty}
use Rattle.hq_fits.proofs.Operating.{both_true, same-lists}
use Rattle.hq_laws.proofs.Shapes.{any-received}
use Rattle.hq_meaning.specs.Rows.{Row}
use Rattle.hq_meaning.specs.Slices.{receives}
use Rattle.hq_motion.proofs.Reading.{row-length}
use Rattle.hq_dispatch.proofs.Ranges.{flat-append}
use Rattle.hq_dispatch.specs.Parcels.{CanGo}

-- the rules on slices
pub record Rules (slices : List Slice) : Type 0 where
  pub some : 2 ≤ length slices
  pub few : length slices ≤ 64
  pub result : ends_with_result slices ≡ true
  pub fine : list_all slice_is_fine slices ≡ true
  pub motions : list_all motion_is_fine slices ≡ true
  pub order : fit_in_order [] slices ≡ true
  pub gather : ends_with_gather [] slices ≡ true
  pub once : are_received_once slices ≡ true

pub rules-of : (plan : Plan) → IsTrue (is_well_formed plan) → Rules plan.slices
rules-of plan form =
    let slices : List Slice = plan.slices in
    let a : (nat_le 2 (length slices) ≡ true) × _ = both_true (nat_le 2 (length slices)) _ form in
    let b : (nat_le (length slices) 64 ≡ true) × _ = both_true (nat_le (length slices) 64) _ a.1 in
    let c : (ends_with_result slices ≡ true) × _ = both_true (ends_with_result slices) _ b.1 in
    let d : (list_all slice_is_fine slices ≡ true) × _ = both_true (list_all slice_is_fine slices) _ c.1 in
    let e : (list_all motion_is_fine slices ≡ true) × _ = both_true (list_all motion_is_fine slices) _ d.1 in
    let f : (fit_in_order [] slices ≡ true) × _ = both_true (fit_in_order [] slices) _ e.1 in
    let g : (ends_with_gather [] slices ≡ true) × _ = both_true (ends_with_gather [] slices) _ f.1 in
    let h : (are_received_once slices ≡ true) × _ = both_true (are_received_once slices) _ g.1 in
    record {
      some = at_most 2 (length slices) a.0;
      few = at_most (length slices) 64 b.0;
      result = c.0;
      fine = d.0;
      motions = e.0;
      order = f.0;
      gather = g.0;
      once = h.0;
    }
  where
    at_most : (m n : ℕ) → nat_le m n ≡ true → m ≤ n
    at_most m n h = grind (arith, nat_tests)

-- what holds of each member holds of the one at a place
pub all-at : {A : Type 0} (p : A → Bool) (xs : List A) (i : ℕ) (x : A) → list_all p xs ≡ true → slice_get xs i ≡ Some x → p x ≡ true
all-at p [] i x all e = cc
all-at p (y ∷ ys) zero x all e = let same : y ≡ x = cc in ap p (sym same) ∙ (both_true (p y) (list_all p ys) all).0
all-at p (y ∷ ys) (suc i) x all e = all-at p ys i x (both_true (p y) (list_all p ys) all).1 e

-- of joined lists
pub all-split : {A : Type 0} (P : A → Type 0) (xs ys : List A) → AllByRecursion P (xs ++ ys) → AllByRecursion P xs × AllByRecursion P ys
all-split P [] ys all = (tt, all)
all-split P (x ∷ xs) ys all = let rest : AllByRecursion P xs × AllByRecursion P ys = all-split P xs ys all.1 in ((all.0, rest.0), rest.1)

-- what holds of all operators holds of those of a slice
pub all-there : (P : Op → Type 0) (slices : List Slice) (i : ℕ) (s : Slice) → AllByRecursion P (all_operators slices) → slice_get slices i ≡ Some s → AllByRecursion P (operators s.root)
all-there P [] i s all e = cc
all-there P (x ∷ slices) zero s all e = let same : x ≡ s = cc in subst (λ (y : Slice). AllByRecursion P (operators y.root)) same (all-split P (operators x.root) (all_operators slices) all).0
all-there P (x ∷ slices) (suc i) s all e = all-there P slices i s (all-split P (operators x.root) (all_operators slices) all).1 e

-- a slice fits those before it
pub fits-at : (before slices : List Slice) (i : ℕ) (s : Slice) → fit_in_order before slices ≡ true → slice_get slices i ≡ Some s → fits_before (before ++ take i slices) s ≡ true
fits-at before [] i s h e = cc
fits-at before (x ∷ slices) zero s h e =
    let same : x ≡ s = cc in
    (λ j. fits_before (append-nil before j) (sym same j)) ∙ (both_true (fits_before before x) (fit_in_order (before ++ x ∷ []) slices) h).0
fits-at before (x ∷ slices) (suc i) s h e =
    ap (λ b. fits_before b s) (sym (append_assoc before (x ∷ []) (take i slices))) ∙ fits-at (before ++ x ∷ []) slices i s (both_true (fits_before before x) (fit_in_order (before ++ x ∷ []) slices) h).1 e

-- it receives what earlier slices sent, and nothing but Gathers if it receives one
pub record FitsIn (before : List Slice) (s : Slice) : Type 0 where
  pub receives_sent : list_all (receives_what_is_sent before) (operators s.root) ≡ true
  pub alone : gathers_alone before (operators s.root) ≡ true

pub fits-in : (slices : List Slice) (i : ℕ) (s : Slice) → Rules slices → slice_get slices i ≡ Some s → FitsIn (take i slices) s
fits-in slices i s rules e =
    let both = both_true (list_all (receives_what_is_sent (take i slices)) (operators s.root)) (gathers_alone (take i slices) (operators s.root)) (fits-at [] slices i s rules.order e) in
    record { receives_sent = both.0; alone = both.1 }

-- what the first slices sent
pub sent-front : (slices : List Slice) (i k : ℕ) (kinds : List Kind) → sent_kinds (take i slices) k ≡ Some kinds → sent_kinds slices k ≡ Some kinds
sent-front slices zero zero kinds h = cc
sent-front slices zero (suc k) kinds h = cc
sent-front [] (suc i) zero kinds h = cc
sent-front [] (suc i) (suc k) kinds h = cc
sent-front (s ∷ slices) (suc i) zero kinds h = h
sent-front (s ∷ slices) (suc i) (suc k) kinds h = sent-front slices i k kinds h

-- the kinds of a Receive are those that its slice sends, and there is one
pub record IsSent (before : List Slice) (slice : ℕ) (kinds : List Kind) : Type 0 where
  pub sent : sent_kinds before slice ≡ Some kinds
  pub some : 0 < length kinds

pub receive-sent : (before : List Slice) (slice : ℕ) (kinds : List Kind) → receives_what_is_sent before (op.Receive slice kinds) ≡ true → IsSent before slice kinds
receive-sent before slice kinds h = by (sent_kinds before slice) refl h
  where
    there : (ks : List Kind) → not (is_empty ks) ≡ true → 0 < length ks
    there [] e = cc
    there (k ∷ ks) e = omega arith

    by : (o : Option (List Kind)) → sent_kinds before slice ≡ o → are_sent kinds o ≡ true → IsSent before slice kinds
    by None e g = cc
    by (Some sent) e g =
        let both = both_true (same_kinds kinds sent) (not (is_empty kinds)) g in
        record { sent = e ∙ ap Some (sym (same-lists kinds sent both.0)); some = there kinds both.1 }

-- a slice that is not the last moves its rows, and the last one does not
pub moves : (slices : List Slice) (i : ℕ) (s : Slice) → ends_with_result slices ≡ true → slice_get slices i ≡ Some s → i + 1 < length slices → is_result s.out ≡ false
moves [] i s h e within = cc
moves (x ∷ []) i s h e within = absurd (omega (arith, within))
moves (x ∷ y ∷ slices) zero s h e within = let same : x ≡ s = cc in ap (λ (z : Slice). is_result z.out) (sym same) ∙ flipped (is_result x.out) (both_true (not (is_result x.out)) (ends_with_result (y ∷ slices)) h).0
  where
    flipped : (b : Bool) → not b ≡ true → b ≡ false
    flipped true e = cc
    flipped false e = refl
moves (x ∷ y ∷ slices) (suc i) s h e within = moves (y ∷ slices) i s (both_true (not (is_result x.out)) (ends_with_result (y ∷ slices)) h).1 e (omega (arith, within))

pub no-result : (out : Motion) → is_result out ≡ false → out ≡ motion.Result → ⊥
no-result out h e = let bad : true ≡ false = sym (ap is_result e) ∙ h in cc

pub last-result : (slices : List Slice) (i : ℕ) (s : Slice) → ends_with_result slices ≡ true → slice_get slices i ≡ Some s → i + 1 ≡ length slices → s.out ≡ motion.Result
last-result [] i s h e is = cc
last-result (x ∷ []) zero s h e is = let same : x ≡ s = cc in ap (λ (z : Slice). z.out) (sym same) ∙ by x.out h
  where
    by : (out : Motion) → is_result out ≡ true → out ≡ motion.Result
    by motion.Gather h = cc
    by motion.Broadcast h = cc
    by (motion.Redistribute keys) h = cc
    by motion.Result h = refl
last-result (x ∷ []) (suc i) s h e is = absurd (omega (arith, is))
last-result (x ∷ y ∷ slices) zero s h e is = absurd (omega (arith, is))
last-result (x ∷ y ∷ slices) (suc i) s h e is = last-result (y ∷ slices) i s (both_true (not (is_result x.out)) (ends_with_result (y ∷ slices)) h).1 e (omega (arith, is))

-- the last slice receives a Gather
pub last-gathers : (before slices : List Slice) (i : ℕ) (s : Slice) → ends_with_gather before slices ≡ true → slice_get slices i ≡ Some s → i + 1 ≡ length slices → list_any (gathers (before ++ take i slices)) (receives s.root) ≡ true
last-gathers before [] i s h e is = cc
last-gathers before (x ∷ []) zero s h e is =
    let same : x ≡ s = cc in
    (λ j. list_any (gathers (append-nil before j)) (receives (sym same j).root)) ∙ sym (any-received before x.root) ∙ h
last-gathers before (x ∷ []) (suc i) s h e is = absurd (omega (arith, is))
last-gathers before (x ∷ y ∷ slices) zero s h e is = absurd (omega (arith, is))
last-gathers before (x ∷ y ∷ slices) (suc i) s h e is =
    ap (λ b. list_any (gathers b) (receives s.root)) (sym (append_assoc before (x ∷ []) (take i (y ∷ slices)))) ∙ last-gathers (before ++ x ∷ []) (y ∷ slices) i s h e (omega (arith, is))

-- with no slice before it none receives a Gather
pub none-gathers : (is : List ℕ) → list_any (gathers []) is ≡ false
none-gathers [] = refl
none-gathers (i ∷ is) = by i (none-gathers is)
  where
    by : (i : ℕ) → list_any (gathers []) is ≡ false → (gathers [] i || list_any (gathers []) is) ≡ false
    by zero rest = rest
    by (suc i) rest = rest

-- where a slice receives a Gather, it scans nothing
pub scans-nothing : (before : List Slice) (root : Op) → gathers_alone before (operators root) ≡ true → list_any (gathers before) (receives root) ≡ true → list_any is_scan (operators root) ≡ false
scans-nothing before root alone gather =
    each (operators root) (by (list_any (receives_a_gather before) (operators root)) (any-received before root ∙ gather) alone)
  where
    by : (b : Bool) → b ≡ true → (not b || list_all (only_gathers before) (operators root)) ≡ true → list_all (only_gathers before) (operators root) ≡ true
    by true e h = h
    by false e h = cc

    each : (ops : List Op) → list_all (only_gathers before) ops ≡ true → list_any is_scan ops ≡ false
    each [] h = refl
    each (o ∷ ops) h =
        let both = both_true (only_gathers before o) (list_all (only_gathers before) ops) h in
        let own = both_true (not (is_scan o)) (list_all (gathers before) (received o)) both.0 in
        one (is_scan o) own.0 (each ops both.1)
      where
        one : (b : Bool) → not b ≡ true → list_any is_scan ops ≡ false → (b || list_any is_scan ops) ≡ false
        one true e rest = cc
        one false e rest = rest

-- rows that fit can go by the slice's motion
pub can-go : (s : Slice) (kinds : List Kind) → motion_is_fine s ≡ true → op_kinds s.root ≡ Some kinds → (row : Row) → Fits kinds row → CanGo s.out row
can-go s kinds fine is row fit = by s.out (ap (motion_stands s.out) (sym is) ∙ fine)
  where
    some : (keys : List ℕ) → not (is_empty keys) ≡ true → 0 < length keys
    some [] e = cc
    some (k ∷ keys) e = omega arith

    columns : (keys : List ℕ) → all_below (length kinds) keys ≡ true → HasColumns keys row
    columns [] h k d within = absurd (omega (arith, within))
    columns (key ∷ keys) h zero d within =
        let one = (both_true (nat_lt key (length kinds)) (all_below (length kinds) keys) h).0 in
        let long = row-length kinds row fit in
        less key (length kinds) (length row) one long
      where
        less : (k n m : ℕ) → nat_lt k n ≡ true → m ≡ n → k < m
        less k n m h e = grind (arith, nat_tests)
    columns (key ∷ keys) h (suc k) d within = columns keys (both_true (nat_lt key (length kinds)) (all_below (length kinds) keys) h).1 k d (omega (arith, within))

    by : (out : Motion) → motion_stands out (Some kinds) ≡ true → CanGo out row
    by motion.Gather h = tt
    by motion.Broadcast h = tt
    by (motion.Redistribute keys) h =
        let a = both_true (not (is_empty keys)) (is_short keys && all_below (length kinds) keys) h in
        let b = both_true (is_short keys) (all_below (length kinds) keys) a.1 in
        (some keys a.0, columns keys b.1)
    by motion.Result h = tt

-- a slice that is not the last is received by some slice
none-kept : (p : ℕ → Bool) (ns : List ℕ) → list_any p ns ≡ false → filter p ns ≡ []
none-kept p [] h = refl
none-kept p (n ∷ ns) h = by (p n) h (none-kept p ns)
  where
    by : (b : Bool) → (b || list_any p ns) ≡ false → (list_any p ns ≡ false → filter p ns ≡ []) → cond b (n ∷ filter p ns) (filter p ns) ≡ []
    by true e rest = cc
    by false e rest = rest e

is-member : (p : ℕ → Bool) (ns : List ℕ) → (count_by p ns == 1) ≡ true → list_any p ns ≡ true
is-member p ns h = by (list_any p ns) refl
  where
    by : (b : Bool) → list_any p ns ≡ b → list_any p ns ≡ true
    by true e = e
    by false e =
        let none : count_by p ns ≡ 0 = sym (length-filter p ns) ∙ ap (λ (l : List ℕ). length l) (none-kept p ns e) in
        let bad : (0 == 1) ≡ true = ap (λ (n : ℕ). n == 1) (sym none) ∙ h in
        cc

module _ (i : ℕ) where
  abbrev in_ops : List Op → Bool
  in_ops ops = list_any (λ j. j == i) (flat_map received ops)

  -- the operator that receives it
  found-op : (before : List Slice) (ops : List Op) → list_all (receives_what_is_sent before) ops ≡ true → in_ops ops ≡ true → (kinds : List Kind) × IsSent before i kinds
  found-op before [] h e = cc
  found-op before (o ∷ ops) h e = by o (both_true (receives_what_is_sent before o) (list_all (receives_what_is_sent before) ops) h) e (found-op before ops)
    where
      this : (slice : ℕ) (kinds : List Kind) (b : Bool) → (slice == i) ≡ b → (receives_what_is_sent before (op.Receive slice kinds) ≡ true) × (list_all (receives_what_is_sent before) ops ≡ true) → (b || in_ops ops) ≡ true
          → (list_all (receives_what_is_sent before) ops ≡ true → in_ops ops ≡ true → (kinds : List Kind) × IsSent before i kinds) → (kinds : List Kind) × IsSent before i kinds
      this slice kinds true same fit e rest = (kinds, subst (λ (k : ℕ). IsSent before k kinds) (eqb-true slice i same) (receive-sent before slice kinds fit.0))
      this slice kinds false other fit e rest = rest fit.1 e

      by : (o : Op) → (receives_what_is_sent before o ≡ true) × (list_all (receives_what_is_sent before) ops ≡ true) → in_ops (o ∷ ops) ≡ true
          → (list_all (receives_what_is_sent before) ops ≡ true → in_ops ops ≡ true → (kinds : List Kind) × IsSent before i kinds) → (kinds : List Kind) × IsSent before i kinds
      by (op.Scan table kinds) fit e rest = rest fit.1 e
      by (op.Receive slice kinds) fit e rest = this slice kinds (slice == i) refl fit e rest
      by (op.Filter' c p input) fit e rest = rest fit.1 e
      by (op.Project' items p input) fit e rest = rest fit.1 e
      by (op.Join' lk rk p left q right) fit e rest = rest fit.1 e
      by (op.Partial' keys aggs p input) fit e rest = rest fit.1 e
      by (op.Final' n aggs p input) fit e rest = rest fit.1 e
      by (op.Distinct' p input) fit e rest = rest fit.1 e
      by (op.Sort' order limit p input) fit e rest = rest fit.1 e

  abbrev Found : List Slice → List Slice → Type 0
  Found before slices = (k : ℕ) × (kinds : List Kind) × IsSent (before ++ take k slices) i kinds

  found-in : (before slices : List Slice) → fit_in_order before slices ≡ true → in_ops (all_operators slices) ≡ true → Found before slices
  found-in before [] h e = cc
  found-in before (x ∷ slices) h e =
      by (in_ops (operators x.root)) refl
      (sym (ap (list_any (λ j. j == i)) (flat-append received (operators x.root) (all_operators slices)) ∙ list_any-append (λ j. j == i) (flat_map received (operators x.root)) (flat_map received (all_operators slices))) ∙ e)
      (found-in (before ++ x ∷ []) slices fit.1)
    where
      fit : (fits_before before x ≡ true) × (fit_in_order (before ++ x ∷ []) slices ≡ true)
      fit = both_true (fits_before before x) (fit_in_order (before ++ x ∷ []) slices) h

      by : (b : Bool) → in_ops (operators x.root) ≡ b → (in_ops (operators x.root) || in_ops (all_operators slices)) ≡ true → (in_ops (all_operators slices) ≡ true → Found (before ++ x ∷ []) slices) → Found before (x ∷ slices)
      by true here g rest =
          let r = found-op before (operators x.root) (both_true (list_all (receives_what_is_sent before) (operators x.root)) (gathers_alone before (operators x.root)) fit.0).0 here in
          (0, r.0, subst (λ (l : List Slice). IsSent l i r.0) (sym (append-nil before)) r.1)
      by false here g rest =
          let r = rest (ap (λ (b : Bool). b || in_ops (all_operators slices)) (sym here) ∙ g) in
          (suc r.0, r.1, subst (λ (l : List Slice). IsSent l i r.1) (append_assoc before (x ∷ []) (take r.0 slices)) r.2)

-- each number of a range passes the test
all-range : (p : ℕ → Bool) (a n : ℕ) → list_all p (range_with_len a n) ≡ true → (j : ℕ) → a ≤ j → j < a + n → p j ≡ true
all-range p a zero h j low high = absurd (omega (arith, low, high))
all-range p a (suc n) h j low high = by (a == j) refl (both_true (p a) (list_all p (range_with_len (a + 1) n)) h) (λ l rest. all-range p (a + 1) n rest j l (omega (arith, high)))
  where
    above : (a j : ℕ) → a ≤ j → (a == j) ≡ false → a + 1 ≤ j
    above a j l e = grind arith

    by : (b : Bool) → (a == j) ≡ b → (p a ≡ true) × (list_all p (range_with_len (a + 1) n) ≡ true) → (a + 1 ≤ j → list_all p (range_with_len (a + 1) n) ≡ true → p j ≡ true) → p j ≡ true
    by true e both rest = ap p (sym (eqb-true a j e)) ∙ both.0
    by false e both rest = rest (above a j low e) both.1

-- a slice that is not the last sends some column
pub sends-some : (slices : List Slice) (i : ℕ) (s : Slice) (kinds : List Kind) → Rules slices → slice_get slices i ≡ Some s → i + 1 < length slices → op_kinds s.root ≡ Some kinds → 0 < length kinds
sends-some slices i s kinds rules there within typed =
    let once : (count_by (λ j. j == i) (flat_map received (all_operators slices)) == 1) ≡ true =
    all-range (λ k. count_by (λ j. j == k) (flat_map received (all_operators slices)) == 1) 0 (length slices - 1) rules.once i (omega arith) (omega (arith, within)) in
    let f = found-in i [] slices rules.order (is-member (λ j. j == i) (flat_map received (all_operators slices)) once) in
    let sent : sent_kinds slices i ≡ Some f.1 = sent-front slices f.0 i f.1 f.2.sent in
    let own : sent_kinds slices i ≡ Some kinds = ap (λ (o : Option Slice). o >>= (λ (x : Slice). op_kinds x.root)) there ∙ typed in
    let same : f.1 ≡ kinds = (let e : Some f.1 ≡ Some kinds = sym sent ∙ own in cc) in
    subst (λ (k : List Kind). 0 < length k) same f.2.some
