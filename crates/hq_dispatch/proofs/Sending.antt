-- What a node receives of a slice.
use Rattle.std.proofs.Common.{◌≡◌, ◌∙◌, ℕ, zero, suc, ◌+◌, ◌<◌, ◌≤◌, ◌==◌, Bool, true, false, cond, ◌||◌, List, [], ◌∷◌, ◌++◌, length, map, filter, flat_map, refl, sym, ap, subst, append-nil, append_assoc, arith}
use Rattle.std.specs.Prelude.{Vec}
use Rattle.std.specs.List.{AllByRecursion, list_any, range_with_len}
use Rattle.std.proofs.lemmas.Bool.{eqb-true}
use Rattle.std.proofs.lemmas.Bool.Decides.{nat_tests}
use Rattle.std.proofs.lemmas.List.{map-append, length-map}
use Rattle.hq_value.specs.declared.kind.Kind.{Kind}
use Rattle.hq_block.specs.Row.{IsStorable}
use Rattle.hq_algebra.specs.declared.op.Op.{Op}
use Rattle.hq_algebra.specs.declared.plan.Motion.{Motion}
use Rattle.hq_algebra.specs.declared.plan.Motion.TheVariants as motion
use Rattle.hq_algebra.specs.declared.plan.Slice.{Slice}
use Rattle.hq_algebra.specs.Plans.{gathers, is_gather}
use Rattle.hq_fits.proofs.Lists.{all-filter}
use Rattle.hq_meaning.specs.Rows.{Row}
use Rattle.hq_meaning.specs.Nodes.{nodes_of, lowest, home, moved}
use Rattle.hq_meaning.specs.Slices.{rows_of, op_faults, receives}
use Rattle.hq_meaning.specs.Plans.{Parts, Sent, sent_by, here_at, runs_on, run_slice, run_slices}
use Rattle.hq_motion.specs.Bytes.{AreRows}
use Rattle.hq_motion.specs.Split.{nodes_up, receivers}
use Rattle.hq_dispatch.specs.Owners.{is_used, has_flag, flagged}
use Rattle.hq_dispatch.specs.Parcels.{list_of, bytes_at, parcel_at}
use Rattle.hq_dispatch.specs.Received.{AreGiven, joined, streams_for}
use Rattle.hq_dispatch.specs.Running.{HasSent}
use Rattle.hq_dispatch.specs.Streams.{stream, is_receiver, slice_streams}
use Rattle.hq_dispatch.specs.declared.parcels.Parcels.{Parcels}
use Rattle.hq_dispatch.proofs.Meaning.{gets-all}
use Rattle.hq_dispatch.proofs.Parceling.{Gets, stream-is}
use Rattle.hq_dispatch.proofs.Ranges.{is-kept}

-- over the numbers of a range that are kept
module _ (p : ℕ → Bool) where
  pub none-of : (f : ℕ → Bool) (a k : ℕ) → ((m : ℕ) → a ≤ m → m < a + k → p m ≡ true → f m ≡ false) → list_any f (filter p (range_with_len a k)) ≡ false
  none-of f a zero each = refl
  none-of f a (suc k) each = by (p a) refl (none-of f (a + 1) k (λ m low high e. each m (omega (arith, low)) (omega (arith, high)) e))
    where
      by : (b : Bool) → p a ≡ b → list_any f (filter p (range_with_len (a + 1) k)) ≡ false → list_any f (cond b (a ∷ filter p (range_with_len (a + 1) k)) (filter p (range_with_len (a + 1) k))) ≡ false
      by true e rest = λ i. each a (omega arith) (omega arith) e i || rest i
      by false e rest = rest

  pub some-of : (f : ℕ → Bool) (m a k : ℕ) → a ≤ m → m < a + k → p m ≡ true → f m ≡ true → list_any f (filter p (range_with_len a k)) ≡ true
  some-of f m a zero low high e h = absurd (omega (arith, low, high))
  some-of f m a (suc k) low high e h = by (a == m) refl (p a) refl (λ l. some-of f m (a + 1) k l (omega (arith, high)) e h)
    where
      above : (a m : ℕ) → a ≤ m → (a == m) ≡ false → a + 1 ≤ m
      above a m l e = grind arith

      or-true : (b : Bool) → (b || true) ≡ true
      or-true true = refl
      or-true false = refl

      by : (c : Bool) → (a == m) ≡ c → (b : Bool) → p a ≡ b → (a + 1 ≤ m → list_any f (filter p (range_with_len (a + 1) k)) ≡ true) → list_any f (cond b (a ∷ filter p (range_with_len (a + 1) k)) (filter p (range_with_len (a + 1) k))) ≡ true
      by true s true g rest = ap (λ (b : Bool). b || list_any f (filter p (range_with_len (a + 1) k))) (ap f (eqb-true a m s) ∙ h)
      by true s false g rest = let bad : false ≡ true = sym g ∙ ap p (eqb-true a m s) ∙ e in cc
      by false s true g rest = ap (λ (b : Bool). f a || b) (rest (above a m low s)) ∙ or-true (f a)
      by false s false g rest = rest (above a m low s)

  pub same-of : {X : Type 0} (f g : ℕ → X) (a k : ℕ) → ((m : ℕ) → a ≤ m → m < a + k → p m ≡ true → f m ≡ g m) → map f (filter p (range_with_len a k)) ≡ map g (filter p (range_with_len a k))
  same-of f g a zero each = refl
  same-of {X} f g a (suc k) each = by (p a) refl (same-of f g (a + 1) k (λ m low high e. each m (omega (arith, low)) (omega (arith, high)) e))
    where
      by : (b : Bool) → p a ≡ b → map f (filter p (range_with_len (a + 1) k)) ≡ map g (filter p (range_with_len (a + 1) k))
          → map f (cond b (a ∷ filter p (range_with_len (a + 1) k)) (filter p (range_with_len (a + 1) k))) ≡ map g (cond b (a ∷ filter p (range_with_len (a + 1) k)) (filter p (range_with_len (a + 1) k)))
      by true e rest = λ i. each a (omega arith) (omega arith) e i ∷ rest i
      by false e rest = rest

-- a node that receives rows is one to which the motion brings some
pub gets : (out : Motion) (owner : List ℕ) (takes : List Bool) (n : ℕ) → flagged takes ≡ receivers out owner → n < 16 → has_flag takes n ≡ true → Gets out owner n
gets out owner takes n are within on =
    by out (sym (ap (list_any (λ m. m == n)) are) ∙ is-kept (has_flag takes) 0 16 n (omega arith) (omega (arith, within)) ∙ on)
  where
    one : (m : ℕ) (b : Bool) → (m == n) ≡ b → (b || false) ≡ true → n ≡ m
    one m true e h = sym (eqb-true m n e)
    one m false e h = cc

    by : (out : Motion) → list_any (λ m. m == n) (receivers out owner) ≡ true → Gets out owner n
    by motion.Gather h = one (lowest owner) (lowest owner == n) refl h
    by motion.Broadcast h = tt
    by (motion.Redistribute keys) h = tt
    by motion.Result h = cc

pub is-receiver : (owner : List ℕ) (s : Slice) (takes : List Bool) (n : ℕ) → flagged takes ≡ receivers s.out owner → n < 16 → is_receiver owner s n ≡ has_flag takes n
is-receiver owner s takes n are within = sym (ap (list_any (λ m. m == n)) are) ∙ is-kept (has_flag takes) 0 16 n (omega arith) (omega (arith, within))

-- one in use that does not gets none
pub gets-none : (out : Motion) (owner : List ℕ) (marks takes : List Bool) (n : ℕ) (rows : List Row) → flagged takes ≡ receivers out owner → nodes_of owner ≡ nodes_up marks → n < 16 → is_used marks n ≡ true → has_flag takes n ≡ false → moved out owner rows n ≡ []
gets-none out owner marks takes n rows are in_use within used off =
    by out (sym (ap (list_any (λ m. m == n)) are) ∙ is-kept (has_flag takes) 0 16 n (omega arith) (omega (arith, within)) ∙ off)
  where
    among : list_any (λ m. m == n) (nodes_of owner) ≡ true
    among = ap (list_any (λ m. m == n)) in_use ∙ is-kept (is_used marks) 0 16 n (omega arith) (omega (arith, within)) ∙ used

    flipped : (m : ℕ) → (m == n) ≡ false → (n == m) ≡ false
    flipped m e = grind (arith, nat_tests)

    left : (b : Bool) → (b || false) ≡ false → b ≡ false
    left true h = cc
    left false h = refl

    by : (out : Motion) → list_any (λ m. m == n) (receivers out owner) ≡ false → moved out owner rows n ≡ []
    by motion.Gather h = ap (λ (b : Bool). cond b rows []) (flipped (lowest owner) (left (lowest owner == n) h))
    by motion.Broadcast h = let bad : true ≡ false = sym among ∙ h in cc
    by (motion.Redistribute keys) h = let bad : true ≡ false = sym among ∙ h in cc
    by motion.Result h = refl

-- what holds of each row holds of those that a motion brings
moved-all : (P : Row → Type 0) (out : Motion) (owner : List ℕ) (rows : List Row) (n : ℕ) → AllByRecursion P rows → AllByRecursion P (moved out owner rows n)
moved-all P motion.Gather owner rows n all = by (n == lowest owner)
  where
    by : (b : Bool) → AllByRecursion P (cond b rows [])
    by true = all
    by false = tt
moved-all P motion.Broadcast owner rows n all = all
moved-all P (motion.Redistribute keys) owner rows n all = all-filter P (λ row. home owner keys row == n) rows all
moved-all P motion.Result owner rows n all = tt

-- the bytes of a sender for a receiver are those of the rows that the motion brings there
pub sent-rows : {A : Type 0} (told : Type 0) (out : Motion) (owner : List ℕ) (kinds : List Kind) (rows : List Row) (lists : List (Vec ℕ A)) → HasSent told out owner kinds rows lists → told → (n : ℕ) → n < 16 → Gets out owner n
    → AreRows kinds (moved out owner rows n) (bytes_at lists (list_of out n))
sent-rows told out owner kinds rows lists has t n within gets =
    subst (λ (l : List Row). AreRows kinds (moved out owner l n) (bytes_at lists (list_of out n))) (has.are t)
    (record { storable = moved-all (IsStorable kinds) out owner has.sent n has.storable; spelled = stream-is out owner has.sent lists n has.parcels within gets })

-- what a slice sends, and what each node gets of it
module _ (parts : Parts) (owner : List ℕ) (sents : List Sent) (s : Slice) (kinds : List Kind) (parcels : List Parcels) (sends : List Bool) (runs : flagged sends ≡ runs_on owner sents s.root) where
  abbrev gave : ℕ → List Row
  gave m = rows_of s.root (here_at parts owner sents m)

  -- the bytes of each sender for node n
  abbrev pub AreSentTo : ℕ → Type 0
  AreSentTo n = (m : ℕ) → m < 16 → has_flag sends m ≡ true → AreRows kinds (moved s.out owner (gave m) n) (parcel_at parcels m (list_of s.out n))

  pub rows-brought : (n : ℕ) (rows : List Row) → AreSentTo n → ((given : ℕ → List Row) → AreGiven kinds sends given (λ m. parcel_at parcels m (list_of s.out n)) → rows ≡ joined sends given)
      → rows ≡ moved s.out owner (run_slice parts owner sents s).rows n
  rows-brought n rows sent are =
      are (λ m. moved s.out owner (gave m) n) sent ∙ ap (flat_map (λ m. moved s.out owner (gave m) n)) runs ∙ gets-all s.out owner gave (runs_on owner sents s.root) n

  pub streams-are : (n : ℕ) → AreSentTo n → is_receiver owner s n ≡ true → streams_for s.out parcels sends n ≡ slice_streams parts owner sents s n
  streams-are n sent on =
      same-of (has_flag sends) (λ m. (m, parcel_at parcels m (list_of s.out n))) (λ m. (m, stream parts owner sents s n m)) 0 16
      (λ m low high e. ap (λ (l : List ℕ). let pair : ℕ × List ℕ = (m, l) in pair) (sent m (omega (arith, high)) e).spelled)
      ∙ ap (map (λ m. (m, stream parts owner sents s n m))) runs
      ∙ ap (λ (b : Bool). cond b (map (λ m. (m, stream parts owner sents s n m)) (runs_on owner sents s.root)) []) (sym on)

  -- no evaluation faulted where none did on a node that ran it
  pub none-faulted : ((m : ℕ) → m < 16 → has_flag sends m ≡ true → op_faults s.root (here_at parts owner sents m) ≡ false) → (run_slice parts owner sents s).fault ≡ false
  none-faulted each =
      sym (ap (list_any (λ m. op_faults s.root (here_at parts owner sents m))) runs)
      ∙ none-of (has_flag sends) (λ m. op_faults s.root (here_at parts owner sents m)) 0 16 (λ m low high e. each m (omega (arith, high)) e)

  pub one-faulted : (m : ℕ) → m < 16 → has_flag sends m ≡ true → op_faults s.root (here_at parts owner sents m) ≡ true → (run_slice parts owner sents s).fault ≡ true
  one-faulted m within on fault =
      sym (ap (list_any (λ m. op_faults s.root (here_at parts owner sents m))) runs)
      ∙ some-of (has_flag sends) (λ m. op_faults s.root (here_at parts owner sents m)) m 0 16 (omega arith) (omega (arith, within)) on fault

-- the motions of what was sent are those of the slices
pub outs-are : (parts : Parts) (owner : List ℕ) (sents : List Sent) (slices : List Slice) → map (λ (r : Sent). r.out) (run_slices parts owner sents slices) ≡ map (λ (r : Sent). r.out) sents ++ map (λ (s : Slice). s.out) slices
outs-are parts owner sents [] = sym (append-nil (map (λ (r : Sent). r.out) sents))
outs-are parts owner sents (s ∷ slices) =
    let x : Sent = run_slice parts owner sents s in
    outs-are parts owner (sents ++ x ∷ []) slices
    ∙ ap (λ (l : List Motion). l ++ map (λ (s : Slice). s.out) slices) (map-append (λ (r : Sent). r.out) sents (x ∷ []))
    ∙ append_assoc (map (λ (r : Sent). r.out) sents) (s.out ∷ []) (map (λ (s : Slice). s.out) slices)

pub same-gathers : (sents : List Sent) (before : List Slice) → map (λ (r : Sent). r.out) sents ≡ map (λ (s : Slice). s.out) before → (i : ℕ) → gathers before i ≡ is_gather (sent_by sents i).out
same-gathers [] [] e zero = refl
same-gathers [] [] e (suc i) = refl
same-gathers [] (s ∷ before) e i = cc
same-gathers (r ∷ sents) [] e i = cc
same-gathers (r ∷ sents) (s ∷ before) e zero = let same : r.out ≡ s.out = cc in ap is_gather (sym same)
same-gathers (r ∷ sents) (s ∷ before) e (suc i) = let rest : map (λ (r : Sent). r.out) sents ≡ map (λ (s : Slice). s.out) before = cc in same-gathers sents before rest i

-- so the nodes that run a slice are those of its meaning
pub runs-are : (parts : Parts) (owner : List ℕ) (before : List Slice) (root : Op) (flags : List Bool) → flagged flags ≡ cond (list_any (gathers before) (receives root)) (lowest owner ∷ []) (nodes_of owner)
    → flagged flags ≡ runs_on owner (run_slices parts owner [] before) root
runs-are parts owner before root flags are =
    are ∙ (λ j. cond (list_any (λ i. same-gathers (run_slices parts owner [] before) before (outs-are parts owner [] before) i j) (receives root)) (lowest owner ∷ []) (nodes_of owner))

pub sents-many : (parts : Parts) (owner : List ℕ) (before : List Slice) → length (run_slices parts owner [] before) ≡ length before
sents-many parts owner before =
    sym (length-map (run_slices parts owner [] before) (λ (r : Sent). r.out)) ∙ ap (λ (l : List Motion). length l) (outs-are parts owner [] before) ∙ length-map before (λ (s : Slice). s.out)
