-- What stands on the nodes after each source.
use Rattle.std.proofs.Common.{◌≡◌, ℕ, suc, ◌+◌, ◌==◌, Bool, true, false, not, cond, ◌&&◌, ◌||◌, List, [], ◌∷◌, ◌++◌, length, map, filter, flat_map, refl, sym, ◌∙◌, ap, subst, append_assoc, length-append, arith, nat_lt, IsTrue}
use Rattle.std.specs.List.{list_any, list_all, AllByRecursion}
use Rattle.std.proofs.lemmas.List.{append-nil}
use Rattle.hq_value.specs.declared.kind.Kind.{Kind}
use Rattle.hq_value.specs.Tables.{all_below}
use Rattle.hq_value.specs.Bucket.{bucket_of}
use Rattle.hq_value.specs.Order.{SameBag}
use Rattle.hq_algebra.specs.declared.op.Op.{Op}
use Rattle.hq_algebra.specs.declared.op.Op.TheVariants as op
use Rattle.hq_algebra.specs.declared.op.Op.TheBlock.{hidden-the_row-Op-0}
use Rattle.hq_algebra.specs.declared.plan.Motion.{Motion}
use Rattle.hq_algebra.specs.declared.plan.Motion.TheVariants as motion
use Rattle.hq_algebra.specs.declared.plan.Slice.{Slice}
use denote.Hole.Carrier.{hidden}
use Rattle.hq_algebra.specs.Rules.{is_empty, cannot_fault}
use Rattle.hq_algebra.specs.Plans.{is_gather}
use Rattle.hq_algebra.specs.Eval.{is_true_at}
use Rattle.hq_meaning.specs.Rows.{Row, kept}
use Rattle.hq_meaning.specs.Operators.{matches, beside, joined}
use Rattle.hq_meaning.specs.Nodes.{nodes_of, home, moved}
use Rattle.hq_meaning.specs.Slices.{rows_of, op_faults}
use Rattle.hq_meaning.specs.Plans.{Parts, Sent, own_rows, here_at, runs_on, run_slice, run_slices}
use Rattle.hq_meaning.proofs.Bags.{SameBag-refl, SameBag-trans, SameBag-equal, SameBag-map, SameBag-filter, SameBag-flat_map, SameBag-flat_map_by}
use Rattle.hq_laws.specs.Words.{IsOwner}
use Rattle.hq_laws.specs.Stages.{sending}
use Rattle.hq_laws.specs.Sources.{Source, source_op}
use Rattle.hq_laws.specs.Spread.{Way, CopyRight, CopyLeft, MoveBoth, MoveLeft, MoveRight, Stay, Joining, source_of, Built, first_source, added_slices, left_side, right_side, with_source, FitKinds}
use Rattle.hq_laws.specs.Placed.{same_keys, lie_by, are_own, own_homes, further, homes_after, stays_by, is_placed, StandByOwn}
use Rattle.hq_laws.proofs.Lists.{AllByRecursion-All, both_true, eq_means}
use Rattle.hq_laws.proofs.OverNodes.{kept-over}
use Rattle.hq_laws.proofs.Partners.{join-broadcast, join-copied}
use Rattle.hq_laws.proofs.Stages.{never}
use Rattle.hq_laws.proofs.Runs.{run-append, fault-append, sent-at, sent-next, NoGather, on-all, gathered}
use Rattle.hq_laws.proofs.Chains.{IsWide, AllByRecursion-append, AllByRecursion-flat_map, AllByRecursion-filter, joined-wide, found}
use Rattle.hq_laws.proofs.Sourcing.{source-rows, source-faults}
use Rattle.hq_laws.proofs.Places.{LieBy, lie-left, lie-right, lie-moved, lie-own, joins-placed, moved-same}

-- joins of equal bags
pub joined-SameBag : (lk rk : List ℕ) (xs ys us vs : List Row) → SameBag xs ys → SameBag us vs → SameBag (joined lk rk xs us) (joined lk rk ys vs)
joined-SameBag lk rk xs ys us vs same also = SameBag-trans _ (joined lk rk ys us) _
    (SameBag-flat_map (beside lk rk us) xs ys same)
    (SameBag-flat_map_by (beside lk rk us) (beside lk rk vs) (λ l. SameBag-map (λ r. l ++ r) _ _ (SameBag-filter (matches lk rk l) us vs also)) ys)

-- the rows lie by these keys, whose places are below their width
abbrev pub Lie : List ℕ → ℕ → (ℕ → List Row) → List (List ℕ) → Type 0
Lie owner w f homes = AllByRecursion (λ keys. (all_below w keys ≡ true) × LieBy owner f keys) homes

-- what stands on the nodes: the slices have run without a fault, none of them gathers, and the operator gives these
-- rows, of w columns, which lie by these keys
pub record Standing (parts : Parts) (owner : List ℕ) (b : Built) (w : ℕ) (homes : List (List ℕ)) (rows : List Row) : Type 0 where
  pub sents : List Sent
  pub run : run_slices parts owner [] b.slices ≡ sents
  pub count : length b.slices ≡ length sents
  pub no_gather : NoGather sents
  pub no_fault : list_any (λ (s : Sent). s.fault) sents ≡ false
  pub at : ℕ → List Row
  pub gives : (more : List Sent) (n : ℕ) → rows_of b.root (here_at parts owner (sents ++ more) n) ≡ at n
  pub clean : (more : List Sent) (n : ℕ) → op_faults b.root (here_at parts owner (sents ++ more) n) ≡ false
  pub bag : SameBag (flat_map at (nodes_of owner)) rows
  pub wide : (n : ℕ) → AllByRecursion (IsWide w) (at n)
  pub lie : Lie owner w at homes

same-equal : (is js : List ℕ) → same_keys is js ≡ true → is ≡ js
same-equal [] [] h = refl
same-equal [] (j ∷ js) h = cc
same-equal (i ∷ is) [] h = cc
same-equal (i ∷ is) (j ∷ js) h = let b : ((i == j) ≡ true) × (same_keys is js ≡ true) = both_true (i == j) (same_keys is js) h in λ t. eq_means i j b.0 t ∷ same-equal is js b.1 t

module _ (kinds : ℕ → List Kind) (own : ℕ → List ℕ) (parts : Parts) (owner : List ℕ) (fit : FitKinds kinds parts) (stand : StandByOwn own parts) where
  -- the rows of a source on a node
  abbrev pub rows_at : Source → ℕ → List Row
  rows_at s n = kept s.tests (own_rows parts owner n s.table)

  rows-found : (s : Source) → flat_map (rows_at s) (nodes_of owner) ≡ found (gathered parts owner) s
  rows-found s = kept-over s.tests (λ n. own_rows parts owner n s.table) (nodes_of owner)

  own-wide : (t n : ℕ) → AllByRecursion (IsWide (length (kinds t))) (own_rows parts owner n t)
  own-wide t n = AllByRecursion-flat_map (IsWide (length (kinds t))) (parts t) (λ b. AllByRecursion-All (IsWide (length (kinds t))) (parts t b) (fit t b)) _

  pub gathered-wide : (t : ℕ) → AllByRecursion (IsWide (length (kinds t))) (gathered parts owner t)
  gathered-wide t = AllByRecursion-flat_map (IsWide (length (kinds t))) (λ n. own_rows parts owner n t) (own-wide t) (nodes_of owner)

  rows_at-wide : (s : Source) (n : ℕ) → AllByRecursion (IsWide (length (kinds s.table))) (rows_at s n)
  rows_at-wide s n = AllByRecursion-filter (IsWide (length (kinds s.table))) (λ row. list_all (λ e. is_true_at e row) s.tests) (own_rows parts owner n s.table) (own-wide s.table n)

  -- a table with keys of its own lies by them
  rows_at-own : (s : Source) → not (is_empty (own s.table)) ≡ true → LieBy owner (rows_at s) (own s.table)
  rows_at-own s some n = AllByRecursion-filter (λ row. home owner (own s.table) row ≡ n) (λ row. list_all (λ e. is_true_at e row) s.tests) (own_rows parts owner n s.table)
      (lie-own owner parts s.table (own s.table) (λ b. AllByRecursion-All (λ row. bucket_of row (own s.table) ≡ b) (parts s.table b) (stand s.table b some)) n)

  own-lie : (s : Source) → Lie owner (length (kinds s.table)) (rows_at s) (own_homes (length (kinds s.table)) (own s.table))
  own-lie s = by (not (is_empty (own s.table))) (all_below (length (kinds s.table)) (own s.table)) refl refl
    where
      by : (b c : Bool) → not (is_empty (own s.table)) ≡ b → all_below (length (kinds s.table)) (own s.table) ≡ c → Lie owner (length (kinds s.table)) (rows_at s) (cond (b && c) (own s.table ∷ []) [])
      by true true e g = ((g, rows_at-own s e), tt)
      by true false e g = tt
      by false c e g = tt

  by-own : (s : Source) (keys : List ℕ) → are_own keys (own s.table) ≡ true → LieBy owner (rows_at s) keys
  by-own s keys h =
      let b : (not (is_empty (own s.table)) ≡ true) × (same_keys keys (own s.table) ≡ true) = both_true (not (is_empty (own s.table))) (same_keys keys (own s.table)) h in
      subst (LieBy owner (rows_at s)) (sym (same-equal keys (own s.table) b.1)) (rows_at-own s b.0)

  by-homes : (w : ℕ) (f : ℕ → List Row) (homes : List (List ℕ)) → Lie owner w f homes → (keys : List ℕ) → lie_by keys homes ≡ true → LieBy owner f keys
  by-homes w f [] lie keys h = cc
  by-homes w f (k ∷ homes) lie keys h = by (same_keys keys k) refl h (by-homes w f homes lie.1 keys)
    where
      by : (b : Bool) → same_keys keys k ≡ b → (b || lie_by keys homes) ≡ true → (lie_by keys homes ≡ true → LieBy owner f keys) → LieBy owner f keys
      by true e h rest = subst (LieBy owner f) (sym (same-equal keys k e)) lie.0.1
      by false e h rest = rest h

  pub standing-first : (s : Source) → IsTrue (cannot_fault s.tests) → Standing parts owner (first_source kinds s) (length (kinds s.table)) (own_homes (length (kinds s.table)) (own s.table)) (found (gathered parts owner) s)
  standing-first s calm = record {
    sents = [];
    run = refl;
    count = refl;
    no_gather = tt;
    no_fault = refl;
    at = rows_at s;
    gives = λ more n. source-rows kinds s.table s.tests (here_at parts owner more n);
    clean = λ more n. source-faults kinds s.table s.tests calm (here_at parts owner more n);
    bag = SameBag-equal _ _ (rows-found s);
    wide = rows_at-wide s;
    lie = own-lie s;
  }

  module _ (b : Built) (w : ℕ) (homes : List (List ℕ)) (rows : List Row) (s : Standing parts owner b w homes rows) where
    pub gives-now : (n : ℕ) → rows_of b.root (here_at parts owner s.sents n) ≡ s.at n
    gives-now n = ap (λ l. rows_of b.root (here_at parts owner l n)) (sym (append-nil s.sents)) ∙ s.gives [] n

    pub bag-now : SameBag (flat_map (λ n. rows_of b.root (here_at parts owner s.sents n)) (nodes_of owner)) rows
    bag-now = SameBag-trans _ _ _ (SameBag-equal _ _ (λ i. flat_map (λ n. gives-now n i) (nodes_of owner))) s.bag

    pub clean-now : (n : ℕ) → op_faults b.root (here_at parts owner s.sents n) ≡ false
    clean-now n = ap (λ l. op_faults b.root (here_at parts owner l n)) (sym (append-nil s.sents)) ∙ s.clean [] n

    -- the rows of all nodes
    abbrev all_left : List Row
    all_left = flat_map s.at (nodes_of owner)

    -- the slice that sends the rows themselves
    abbrev left_sent : Motion → Sent
    left_sent out = run_slice parts owner s.sents (sending out b.root)

    left-rows : (out : Motion) → (left_sent out).rows ≡ all_left
    left-rows out = ap (flat_map (λ n. rows_of b.root (here_at parts owner s.sents n))) (on-all owner s.sents s.no_gather b.root) ∙ (λ i. flat_map (λ n. gives-now n i) (nodes_of owner))

    left-fault : (out : Motion) → (left_sent out).fault ≡ false
    left-fault out = (λ i. list_any (λ n. clean-now n i) (runs_on owner s.sents b.root)) ∙ never (runs_on owner s.sents b.root)

    -- what arrives from the first new slice, and from the second
    arrives : (first : Sent) (more : List Sent) (n : ℕ) → (here_at parts owner (s.sents ++ first ∷ more) n).sent (length b.slices) ≡ moved first.out owner first.rows n
    arrives first more n = ap (λ i. (here_at parts owner (s.sents ++ first ∷ more) n).sent i) s.count ∙ ap (λ (r : Sent). moved r.out owner r.rows n) (sent-at s.sents more first)

    arrives-next : (first second : Sent) (more : List Sent) (n : ℕ) → (here_at parts owner (s.sents ++ first ∷ second ∷ more) n).sent (suc (length b.slices)) ≡ moved second.out owner second.rows n
    arrives-next first second more n = ap (λ i. (here_at parts owner (s.sents ++ first ∷ second ∷ more) n).sent (suc i)) s.count ∙ ap (λ (r : Sent). moved r.out owner r.rows n) (sent-next s.sents more first second)

    -- what the slices that a join adds have done
    pub record Ran (slices : List Slice) (sents : List Sent) : Type 0 where
      pub run : run_slices parts owner [] (b.slices ++ slices) ≡ s.sents ++ sents
      pub count : length (b.slices ++ slices) ≡ length (s.sents ++ sents)
      pub no_gather : NoGather (s.sents ++ sents)
      pub no_fault : list_any (λ (s : Sent). s.fault) (s.sents ++ sents) ≡ false

    ran-none : Ran [] []
    ran-none = record {
      run = ap (run_slices parts owner []) (append-nil b.slices) ∙ s.run ∙ sym (append-nil s.sents);
      count = ap (λ (l : List Slice). length l) (append-nil b.slices) ∙ s.count ∙ ap (λ (l : List Sent). length l) (sym (append-nil s.sents));
      no_gather = subst NoGather (sym (append-nil s.sents)) s.no_gather;
      no_fault = ap (list_any (λ (s : Sent). s.fault)) (append-nil s.sents) ∙ s.no_fault;
    }

    ran-one : (x : Slice) → is_gather x.out ≡ false → (run_slice parts owner s.sents x).fault ≡ false → Ran (x ∷ []) (run_slice parts owner s.sents x ∷ [])
    ran-one x e f =
        let r : Sent = run_slice parts owner s.sents x in
        record {
          run = run-append parts owner [] b.slices (x ∷ []) ∙ ap (λ ss. run_slices parts owner ss (x ∷ [])) s.run;
          count = length-append b.slices (x ∷ []) ∙ ap (λ n. n + 1) s.count ∙ sym (length-append s.sents (r ∷ []));
          no_gather = AllByRecursion-append (λ (s : Sent). is_gather s.out ≡ false) s.sents (r ∷ []) s.no_gather (e, tt);
          no_fault = fault-append s.sents (r ∷ []) ∙ (λ i. s.no_fault i || (f i || false));
        }

    ran-two : (x y : Slice) → is_gather x.out ≡ false → (run_slice parts owner s.sents x).fault ≡ false → is_gather y.out ≡ false → (run_slice parts owner (s.sents ++ run_slice parts owner s.sents x ∷ []) y).fault ≡ false
        → Ran (x ∷ y ∷ []) (run_slice parts owner s.sents x ∷ run_slice parts owner (s.sents ++ run_slice parts owner s.sents x ∷ []) y ∷ [])
    ran-two x y e f g h =
        let r : Sent = run_slice parts owner s.sents x in
        let t : Sent = run_slice parts owner (s.sents ++ r ∷ []) y in
        record {
          run = run-append parts owner [] b.slices (x ∷ y ∷ []) ∙ ap (λ ss. run_slices parts owner ss (x ∷ y ∷ [])) s.run ∙ append_assoc s.sents (r ∷ []) (t ∷ []);
          count = length-append b.slices (x ∷ y ∷ []) ∙ ap (λ n. n + 2) s.count ∙ sym (length-append s.sents (r ∷ t ∷ []));
          no_gather = AllByRecursion-append (λ (s : Sent). is_gather s.out ≡ false) s.sents (r ∷ t ∷ []) s.no_gather (e, (g, tt));
          no_fault = fault-append s.sents (r ∷ t ∷ []) ∙ (λ i. s.no_fault i || (f i || (h i || false)));
        }

    module _ (owned : IsOwner owner) (z : Source) (calm : IsTrue (cannot_fault z.tests)) (lk rk : List ℕ) where
      abbrev src : Op
      src = source_op kinds z.table z.tests

      abbrev v : ℕ
      v = length (kinds z.table)

      abbrev all_right : List Row
      all_right = flat_map (rows_at z) (nodes_of owner)

      abbrev both : List Row
      both = joined lk rk rows (found (gathered parts owner) z)

      -- the slice that sends the source, after these slices
      abbrev right_sent : List Sent → Motion → Sent
      right_sent sents out = run_slice parts owner sents (sending out src)

      right-rows : (sents : List Sent) → NoGather sents → (out : Motion) → (right_sent sents out).rows ≡ all_right
      right-rows sents none out = ap (flat_map (λ n. rows_of src (here_at parts owner sents n))) (on-all owner sents none src) ∙ (λ i. flat_map (λ n. source-rows kinds z.table z.tests (here_at parts owner sents n) i) (nodes_of owner))

      right-fault : (sents : List Sent) (out : Motion) → (right_sent sents out).fault ≡ false
      right-fault sents out = (λ i. list_any (λ n. source-faults kinds z.table z.tests calm (here_at parts owner sents n) i) (runs_on owner sents src)) ∙ never (runs_on owner sents src)

      -- an operator gives these rows on each node, without a fault, once these slices have run
      pub record Side (sents : List Sent) (x : Op) (f : ℕ → List Row) : Type 0 where
        pub gives : (more : List Sent) (n : ℕ) → rows_of x (here_at parts owner (s.sents ++ (sents ++ more)) n) ≡ f n
        pub clean : (more : List Sent) (n : ℕ) → op_faults x (here_at parts owner (s.sents ++ (sents ++ more)) n) ≡ false

      left-stays : (sents : List Sent) → Side sents b.root s.at
      left-stays sents = record { gives = λ more n. s.gives (sents ++ more) n; clean = λ more n. s.clean (sents ++ more) n }

      right-stays : (sents : List Sent) → Side sents src (rows_at z)
      right-stays sents = record { gives = λ more n. source-rows kinds z.table z.tests (here_at parts owner (s.sents ++ (sents ++ more)) n); clean = λ more n. source-faults kinds z.table z.tests calm (here_at parts owner (s.sents ++ (sents ++ more)) n) }

      first-comes : (r : Sent) (rest : List Sent) (ks : List Kind) (f : ℕ → List Row) → ((n : ℕ) → moved r.out owner r.rows n ≡ f n) → Side (r ∷ rest) (op.Receive (length b.slices) ks) f
      first-comes r rest ks f h = record { gives = λ more n. arrives r (rest ++ more) n ∙ h n; clean = λ more n. refl }

      second-comes : (q r : Sent) (ks : List Kind) (f : ℕ → List Row) → ((n : ℕ) → moved r.out owner r.rows n ≡ f n) → Side (q ∷ r ∷ []) (op.Receive (suc (length b.slices)) ks) f
      second-comes q r ks f h = record { gives = λ more n. arrives-next q r more n ∙ h n; clean = λ more n. refl }

      join-gives : (x y : Op) (f g : ℕ → List Row) (sents : List Sent) → Side sents x f → Side sents y g → (more : List Sent) (n : ℕ) → rows_of (op.Join lk rk x y) (here_at parts owner ((s.sents ++ sents) ++ more) n) ≡ joined lk rk (f n) (g n)
      unfolding hidden-the_row-Op-0 hidden
      join-gives x y f g sents left right more n =
          ap (λ l. joined lk rk (rows_of x (here_at parts owner l n)) (rows_of y (here_at parts owner l n))) (append_assoc s.sents sents more)
          ∙ (λ i. joined lk rk (left.gives more n i) (right.gives more n i))

      join-clean : (x y : Op) (f g : ℕ → List Row) (sents : List Sent) → Side sents x f → Side sents y g → (more : List Sent) (n : ℕ) → op_faults (op.Join lk rk x y) (here_at parts owner ((s.sents ++ sents) ++ more) n) ≡ false
      unfolding hidden-the_row-Op-0 hidden
      join-clean x y f g sents left right more n =
          ap (λ l. op_faults x (here_at parts owner l n) || op_faults y (here_at parts owner l n)) (append_assoc s.sents sents more)
          ∙ (λ i. left.clean more n i || right.clean more n i)

      join : (slices : List Slice) (sents : List Sent) → Ran slices sents → (x y : Op) (f g : ℕ → List Row) → Side sents x f → Side sents y g → SameBag (flat_map (λ n. joined lk rk (f n) (g n)) (nodes_of owner)) both
          → ((n : ℕ) → AllByRecursion (IsWide w) (f n)) → ((n : ℕ) → AllByRecursion (IsWide v) (g n)) → (after : List (List ℕ)) → Lie owner (w + v) (λ n. joined lk rk (f n) (g n)) after
          → Standing parts owner (record { slices = b.slices ++ slices; root = op.Join lk rk x y; kinds = b.kinds ++ kinds z.table }) (w + v) after both
      join slices sents ran x y f g left right bag wide_left wide_right after lie = record {
        sents = s.sents ++ sents;
        run = ran.run;
        count = ran.count;
        no_gather = ran.no_gather;
        no_fault = ran.no_fault;
        at = λ n. joined lk rk (f n) (g n);
        gives = join-gives x y f g sents left right;
        clean = join-clean x y f g sents left right;
        bag = bag;
        wide = λ n. joined-wide w v lk rk (f n) (g n) (wide_left n) (wide_right n);
        lie = lie;
      }

      -- the two sides moved by their keys
      abbrev moved_left : ℕ → List Row
      moved_left n = filter (λ row. home owner lk row == n) all_left

      abbrev moved_right : ℕ → List Row
      moved_right n = filter (λ row. home owner rk row == n) all_right

      all_left-wide : AllByRecursion (IsWide w) all_left
      all_left-wide = AllByRecursion-flat_map (IsWide w) s.at s.wide (nodes_of owner)

      all_right-wide : AllByRecursion (IsWide v) all_right
      all_right-wide = AllByRecursion-flat_map (IsWide v) (rows_at z) (rows_at-wide z) (nodes_of owner)

      moved_left-wide : (n : ℕ) → AllByRecursion (IsWide w) (moved_left n)
      moved_left-wide n = AllByRecursion-filter (IsWide w) (λ row. home owner lk row == n) all_left all_left-wide

      moved_right-wide : (n : ℕ) → AllByRecursion (IsWide v) (moved_right n)
      moved_right-wide n = AllByRecursion-filter (IsWide v) (λ row. home owner rk row == n) all_right all_right-wide

      gathered-bag : SameBag (joined lk rk all_left all_right) both
      gathered-bag = joined-SameBag lk rk _ _ _ _ s.bag (SameBag-equal _ _ (rows-found z))

      placed-bag : (f g : ℕ → List Row) → LieBy owner f lk → LieBy owner g rk → SameBag (flat_map f (nodes_of owner)) all_left → SameBag (flat_map g (nodes_of owner)) all_right → SameBag (flat_map (λ n. joined lk rk (f n) (g n)) (nodes_of owner)) both
      placed-bag f g left right e h = SameBag-trans _ _ _ (joins-placed owner owned lk rk f g left right) (SameBag-trans _ _ _ (joined-SameBag lk rk _ _ _ _ e h) gathered-bag)

      below-more : (keys : List ℕ) → all_below w keys ≡ true → all_below (w + v) keys ≡ true
      below-more [] h = refl
      below-more (k ∷ keys) h = let b : (nat_lt k w ≡ true) × (all_below w keys ≡ true) = both_true (nat_lt k w) (all_below w keys) h in λ i. wider k w v b.0 i && below-more keys b.1 i
        where
          wider : (k w v : ℕ) → nat_lt k w ≡ true → nat_lt k (w + v) ≡ true
          wider k w v h = grind arith

      below-further : (keys : List ℕ) → all_below v keys ≡ true → all_below (w + v) (further w keys) ≡ true
      below-further [] h = refl
      below-further (k ∷ keys) h = let b : (nat_lt k v ≡ true) × (all_below v keys ≡ true) = both_true (nat_lt k v) (all_below v keys) h in λ i. shifted k w v b.0 i && below-further keys b.1 i
        where
          shifted : (k w v : ℕ) → nat_lt k v ≡ true → nat_lt (w + k) (w + v) ≡ true
          shifted k w v h = grind arith

      -- by which keys the pairs lie
      module _ (f g : ℕ → List Row) (wide_left : (n : ℕ) → AllByRecursion (IsWide w) (f n)) where
        from-left : (hs : List (List ℕ)) → Lie owner w f hs → Lie owner (w + v) (λ n. joined lk rk (f n) (g n)) hs
        from-left [] lie = tt
        from-left (h ∷ hs) lie = ((below-more h lie.0.0, lie-left owner w lk rk f g wide_left h lie.0.0 lie.0.1), from-left hs lie.1)

        from-right : (hs : List (List ℕ)) → Lie owner v g hs → Lie owner (w + v) (λ n. joined lk rk (f n) (g n)) (map (further w) hs)
        from-right [] lie = tt
        from-right (h ∷ hs) lie = ((below-further h lie.0.0, lie-right owner w lk rk f g wide_left h lie.0.1), from-right hs lie.1)

      module _ (low_left : all_below w lk ≡ true) (low_right : all_below v rk ≡ true) where
        copy-right : Standing parts owner (record { slices = b.slices ++ added_slices CopyRight lk rk b.root src; root = op.Join lk rk (left_side CopyRight (length b.slices) b.kinds b.root) (right_side CopyRight (length b.slices) (kinds z.table) src); kinds = b.kinds ++ kinds z.table }) (w + v) homes both
        copy-right =
            let r : Sent = right_sent s.sents motion.Broadcast in
            join (sending motion.Broadcast src ∷ []) (r ∷ []) (ran-one (sending motion.Broadcast src) refl (right-fault s.sents motion.Broadcast)) b.root (op.Receive (length b.slices) (kinds z.table)) s.at (λ n. all_right)
            (left-stays (r ∷ [])) (first-comes r [] (kinds z.table) (λ n. all_right) (λ n. right-rows s.sents s.no_gather motion.Broadcast))
            (SameBag-trans _ _ _ (SameBag-equal _ _ (join-broadcast lk rk s.at all_right (nodes_of owner))) gathered-bag)
            s.wide (λ n. all_right-wide) homes (from-left s.at (λ n. all_right) s.wide homes s.lie)

        copy-left : Standing parts owner (record { slices = b.slices ++ added_slices CopyLeft lk rk b.root src; root = op.Join lk rk (left_side CopyLeft (length b.slices) b.kinds b.root) (right_side CopyLeft (length b.slices) (kinds z.table) src); kinds = b.kinds ++ kinds z.table }) (w + v) (homes_after CopyLeft w v (own z.table) lk rk homes) both
        copy-left =
            let r : Sent = left_sent motion.Broadcast in
            join (sending motion.Broadcast b.root ∷ []) (r ∷ []) (ran-one (sending motion.Broadcast b.root) refl (left-fault motion.Broadcast)) (op.Receive (length b.slices) b.kinds) src (λ n. all_left) (rows_at z)
            (first-comes r [] b.kinds (λ n. all_left) (λ n. left-rows motion.Broadcast)) (right-stays (r ∷ []))
            (SameBag-trans _ _ _ (join-copied lk rk all_left (rows_at z) (nodes_of owner)) gathered-bag)
            (λ n. all_left-wide) (rows_at-wide z) (map (further w) (own_homes v (own z.table))) (from-right (λ n. all_left) (rows_at z) (λ n. all_left-wide) (own_homes v (own z.table)) (own-lie z))

        move-both : Standing parts owner (record { slices = b.slices ++ added_slices MoveBoth lk rk b.root src; root = op.Join lk rk (left_side MoveBoth (length b.slices) b.kinds b.root) (right_side MoveBoth (length b.slices) (kinds z.table) src); kinds = b.kinds ++ kinds z.table }) (w + v) (homes_after MoveBoth w v (own z.table) lk rk homes) both
        move-both =
            let q : Sent = left_sent (motion.Redistribute lk) in
            let r : Sent = right_sent (s.sents ++ q ∷ []) (motion.Redistribute rk) in
            let none : NoGather (s.sents ++ q ∷ []) = AllByRecursion-append (λ (s : Sent). is_gather s.out ≡ false) s.sents (q ∷ []) s.no_gather (refl, tt) in
            join (sending (motion.Redistribute lk) b.root ∷ sending (motion.Redistribute rk) src ∷ []) (q ∷ r ∷ [])
            (ran-two (sending (motion.Redistribute lk) b.root) (sending (motion.Redistribute rk) src) refl (left-fault (motion.Redistribute lk)) refl (right-fault (s.sents ++ q ∷ []) (motion.Redistribute rk)))
            (op.Receive (length b.slices) b.kinds) (op.Receive (suc (length b.slices)) (kinds z.table)) moved_left moved_right
            (first-comes q (r ∷ []) b.kinds moved_left (λ n. ap (filter (λ row. home owner lk row == n)) (left-rows (motion.Redistribute lk))))
            (second-comes q r (kinds z.table) moved_right (λ n. ap (filter (λ row. home owner rk row == n)) (right-rows (s.sents ++ q ∷ []) none (motion.Redistribute rk))))
            (placed-bag moved_left moved_right (lie-moved owner lk all_left) (lie-moved owner rk all_right) (moved-same owner owned lk all_left) (moved-same owner owned rk all_right))
            moved_left-wide moved_right-wide (lk ∷ further w rk ∷ [])
            ((below-more lk low_left, lie-left owner w lk rk moved_left moved_right moved_left-wide lk low_left (lie-moved owner lk all_left)), ((below-further rk low_right, lie-right owner w lk rk moved_left moved_right moved_left-wide rk (lie-moved owner rk all_right)), tt))

        move-left : are_own rk (own z.table) ≡ true → Standing parts owner (record { slices = b.slices ++ added_slices MoveLeft lk rk b.root src; root = op.Join lk rk (left_side MoveLeft (length b.slices) b.kinds b.root) (right_side MoveLeft (length b.slices) (kinds z.table) src); kinds = b.kinds ++ kinds z.table }) (w + v) (homes_after MoveLeft w v (own z.table) lk rk homes) both
        move-left kept_by =
            let q : Sent = left_sent (motion.Redistribute lk) in
            join (sending (motion.Redistribute lk) b.root ∷ []) (q ∷ []) (ran-one (sending (motion.Redistribute lk) b.root) refl (left-fault (motion.Redistribute lk)))
            (op.Receive (length b.slices) b.kinds) src moved_left (rows_at z)
            (first-comes q [] b.kinds moved_left (λ n. ap (filter (λ row. home owner lk row == n)) (left-rows (motion.Redistribute lk)))) (right-stays (q ∷ []))
            (placed-bag moved_left (rows_at z) (lie-moved owner lk all_left) (by-own z rk kept_by) (moved-same owner owned lk all_left) (SameBag-refl all_right))
            moved_left-wide (rows_at-wide z) (lk ∷ further w rk ∷ [])
            ((below-more lk low_left, lie-left owner w lk rk moved_left (rows_at z) moved_left-wide lk low_left (lie-moved owner lk all_left)), ((below-further rk low_right, lie-right owner w lk rk moved_left (rows_at z) moved_left-wide rk (by-own z rk kept_by)), tt))

        move-right : lie_by lk homes ≡ true → Standing parts owner (record { slices = b.slices ++ added_slices MoveRight lk rk b.root src; root = op.Join lk rk (left_side MoveRight (length b.slices) b.kinds b.root) (right_side MoveRight (length b.slices) (kinds z.table) src); kinds = b.kinds ++ kinds z.table }) (w + v) (homes_after MoveRight w v (own z.table) lk rk homes) both
        move-right kept_by =
            let r : Sent = right_sent s.sents (motion.Redistribute rk) in
            join (sending (motion.Redistribute rk) src ∷ []) (r ∷ []) (ran-one (sending (motion.Redistribute rk) src) refl (right-fault s.sents (motion.Redistribute rk)))
            b.root (op.Receive (length b.slices) (kinds z.table)) s.at moved_right
            (left-stays (r ∷ [])) (first-comes r [] (kinds z.table) moved_right (λ n. ap (filter (λ row. home owner rk row == n)) (right-rows s.sents s.no_gather (motion.Redistribute rk))))
            (placed-bag s.at moved_right (by-homes w s.at homes s.lie lk kept_by) (lie-moved owner rk all_right) (SameBag-refl all_left) (moved-same owner owned rk all_right))
            s.wide moved_right-wide (further w rk ∷ homes)
            ((below-further rk low_right, lie-right owner w lk rk s.at moved_right s.wide rk (lie-moved owner rk all_right)), from-left s.at moved_right s.wide homes s.lie)

        stay : (lie_by lk homes && are_own rk (own z.table)) ≡ true → Standing parts owner (record { slices = b.slices ++ added_slices Stay lk rk b.root src; root = op.Join lk rk (left_side Stay (length b.slices) b.kinds b.root) (right_side Stay (length b.slices) (kinds z.table) src); kinds = b.kinds ++ kinds z.table }) (w + v) (homes_after Stay w v (own z.table) lk rk homes) both
        stay kept_by =
            let h : (lie_by lk homes ≡ true) × (are_own rk (own z.table) ≡ true) = both_true (lie_by lk homes) (are_own rk (own z.table)) kept_by in
            join [] [] ran-none b.root src s.at (rows_at z) (left-stays []) (right-stays [])
            (placed-bag s.at (rows_at z) (by-homes w s.at homes s.lie lk h.0) (by-own z rk h.1) (SameBag-refl all_left) (SameBag-refl all_right))
            s.wide (rows_at-wide z) (further w rk ∷ homes)
            ((below-further rk low_right, lie-right owner w lk rk s.at (rows_at z) s.wide rk (by-own z rk h.1)), from-left s.at (rows_at z) s.wide homes s.lie)

  -- with one source more
  pub standing-next : IsOwner owner → (b : Built) (w : ℕ) (homes : List (List ℕ)) (rows : List Row) (j : Joining) → IsTrue (cannot_fault j.tests) → is_placed j.way w (length (kinds j.table)) (own j.table) j.left_keys j.right_keys homes ≡ true → Standing parts owner b w homes rows
      → Standing parts owner (with_source kinds b j) (w + length (kinds j.table)) (homes_after j.way w (length (kinds j.table)) (own j.table) j.left_keys j.right_keys homes) (joined j.left_keys j.right_keys rows (found (gathered parts owner) (source_of j)))
  standing-next owned b w homes rows j calm placed s = by j.way (both_true _ _ placed).1
    where
      low : (all_below w j.left_keys ≡ true) × (all_below (length (kinds j.table)) j.right_keys ≡ true)
      low = both_true _ _ (both_true (all_below w j.left_keys && all_below (length (kinds j.table)) j.right_keys) (stays_by j.way (own j.table) j.left_keys j.right_keys homes) placed).0

      by : (way : Way) → stays_by way (own j.table) j.left_keys j.right_keys homes ≡ true
          → Standing parts owner (record { slices = b.slices ++ added_slices way j.left_keys j.right_keys b.root (source_op kinds j.table j.tests); root = op.Join j.left_keys j.right_keys (left_side way (length b.slices) b.kinds b.root) (right_side way (length b.slices) (kinds j.table) (source_op kinds j.table j.tests)); kinds = b.kinds ++ kinds j.table })
          (w + length (kinds j.table)) (homes_after way w (length (kinds j.table)) (own j.table) j.left_keys j.right_keys homes) (joined j.left_keys j.right_keys rows (found (gathered parts owner) (source_of j)))
      by CopyRight h = copy-right b w homes rows s owned (source_of j) calm j.left_keys j.right_keys low.0 low.1
      by CopyLeft h = copy-left b w homes rows s owned (source_of j) calm j.left_keys j.right_keys low.0 low.1
      by MoveBoth h = move-both b w homes rows s owned (source_of j) calm j.left_keys j.right_keys low.0 low.1
      by MoveLeft h = move-left b w homes rows s owned (source_of j) calm j.left_keys j.right_keys low.0 low.1 h
      by MoveRight h = move-right b w homes rows s owned (source_of j) calm j.left_keys j.right_keys low.0 low.1 h
      by Stay h = stay b w homes rows s owned (source_of j) calm j.left_keys j.right_keys low.0 low.1 h
