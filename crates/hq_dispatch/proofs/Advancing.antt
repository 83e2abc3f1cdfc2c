-- A query stands after one slice more.
use Rattle.std.proofs.Common.{◌≡◌, ◌∙◌, ℕ, zero, suc, ◌+◌, ◌<◌, ◌≤◌, ◌||◌, Bool, true, false, cond, All, List, [], ◌∷◌, ◌++◌, length, map, take, slice_index_or, Some, None, Ok, IsTrue, refl, sym, ap, subst, zero-add, add-zero, arith}
use Rattle.std.specs.Prelude.{slice_get}
use Rattle.std.specs.List.{list_any}
use Rattle.std.proofs.lemmas.List.{get_or-map, length-map}
use Rattle.std.proofs.lemmas.List.Sums.{sum_by-append}
use Rattle.hq_value.specs.declared.kind.Kind.{Kind}
use Rattle.hq_value.specs.declared.value.Value.{Value}
use Rattle.hq_value.specs.Causes.{RoseBy}
use Rattle.hq_value.proofs.Counting.{steady_still}
use Rattle.hq_algebra.specs.declared.plan.Slice.{Slice}
use Rattle.hq_algebra.specs.Operators.{op_kinds}
use Rattle.hq_algebra.specs.Plans.{gathers}
use Rattle.hq_detect.specs.declared.bench.Bench.{Bench}
use Rattle.hq_exec.specs.declared.end.FlowEnd.{FlowEnd}
use Rattle.hq_exec.specs.Ends.{IfDone, IsNumericAt}
use Rattle.hq_exec.specs.Files.{here, rows_sent}
use Rattle.hq_exec.specs.Slices.{slice_rows, slice_fault, slice_reads}
use Rattle.hq_fits.specs.Supplied.{AreFit}
use Rattle.hq_laws.proofs.Runs.{run-append}
use Rattle.hq_link.specs.Link.{AreTold}
use Rattle.hq_meaning.specs.Nodes.{nodes_of, lowest, moved}
use Rattle.hq_meaning.specs.Slices.{rows_of, op_faults, receives}
use Rattle.hq_meaning.specs.Plans.{Parts, Sent, sent_by, here_at, run_slice, run_slices, runs_on}
use Rattle.hq_motion.specs.Bytes.{AreRows}
use Rattle.hq_motion.specs.Split.{receivers}
use Rattle.hq_pump.specs.Pumping.{pieces_of}
use Rattle.hq_pump.specs.Safe.{AreEarlier}
use Rattle.hq_dispatch.specs.Basis.{Asked, node_held, slices_reads}
use Rattle.hq_dispatch.specs.Ended.{benches_of}
use Rattle.hq_dispatch.specs.Ends.{HasAnswered}
use Rattle.hq_dispatch.specs.Outside.{Outside}
use Rattle.hq_dispatch.specs.Owners.{is_used, has_flag, flagged}
use Rattle.hq_dispatch.specs.Parcels.{list_of, bytes_at}
use Rattle.hq_dispatch.specs.Received.{IsOf, HasGot}
use Rattle.hq_dispatch.specs.Running.{HasSent, HasRun}
use Rattle.hq_dispatch.specs.Settled.{AreSameHeads, AreTaken, AreDone}
use Rattle.hq_dispatch.specs.Standing.{FitSlices, IsAsked, NodeGoesOn, NodeStands, Stands, TellsAll, parts, sents_of}
use Rattle.hq_dispatch.specs.Streams.{stream, slice_streams, slices_pieces}
use Rattle.hq_dispatch.specs.declared.parcels.Parcels.{Parcels}
use Rattle.hq_dispatch.specs.declared.task.Task.{Task}
use Rattle.hq_dispatch.proofs.Forming.{rules-of, fits-in, none-gathers, scans-nothing}
use Rattle.hq_dispatch.proofs.Holding.{HasReceivedAll, here-is, no-reads}
use Rattle.hq_dispatch.proofs.Linking.{goes-on-still, still-told}
use Rattle.hq_dispatch.proofs.Meaning.{some_fault, fault-behind}
use Rattle.hq_dispatch.proofs.Nodes.{used-within, run-used, lowest-used}
use Rattle.hq_dispatch.proofs.Parceling.{Gets}
use Rattle.hq_dispatch.proofs.Sending.{gets, is-receiver, sent-rows, AreSentTo, rows-brought, streams-are, none-faulted, runs-are, sents-many}
use Rattle.hq_dispatch.proofs.Working.{no_answer, ran-goes-on, ran-answered, ran-gave, got-goes-on, got-answered, got-gave, got-earlier, got-fits, got-received, got-pieces}

-- the item at a place
pub item-of : {X : Type 0} (xs : List X) → 0 < length xs → X
item-of [] some = absurd (omega (arith, some))
item-of (x ∷ xs) some = x

pub at-map : {X Y : Type 0} (f : X → Y) (xs : List X) (n : ℕ) (y : Y) (x : X) → n < length xs → slice_index_or (map f xs) n y ≡ f (slice_index_or xs n x)
at-map f xs n y x within = get_or-map f xs n x y within

-- one slice more
pub take-get : {X : Type 0} (xs : List X) (i : ℕ) (x : X) → slice_get xs i ≡ Some x → take (i + 1) xs ≡ take i xs ++ x ∷ []
take-get xs i x e = ap (λ (m : ℕ). take m xs) (let one : i + 1 ≡ suc i = omega arith in one) ∙ by xs i e
  where
    by : {X : Type 0} {x : X} (xs : List X) (i : ℕ) → slice_get xs i ≡ Some x → take (suc i) xs ≡ take i xs ++ x ∷ []
    by [] i e = cc
    by {X} {x} (y ∷ xs) zero e = let same : y ≡ x = cc in ap (λ (z : X). z ∷ []) same
    by {X} {x} (y ∷ xs) (suc i) e = ap (λ (l : List X). y ∷ l) (by xs i e)

pub within-get : {X : Type 0} (xs : List X) (i : ℕ) (x : X) → slice_get xs i ≡ Some x → i < length xs
within-get [] i x e = cc
within-get (y ∷ xs) zero x e = omega arith
within-get (y ∷ xs) (suc i) x e = let r = within-get xs i x e in omega (arith, r)

pub take-many : {X : Type 0} (xs : List X) (i : ℕ) → i ≤ length xs → length (take i xs) ≡ i
take-many xs zero le = refl
take-many [] (suc i) le = absurd (omega (arith, le))
take-many (x ∷ xs) (suc i) le = ap suc (take-many xs i (omega (arith, le)))

pub pieces-more : (parts : Parts) (owner : List ℕ) (n : ℕ) (sents : List Sent) (xs : List Slice) (s : Slice)
    → slices_pieces parts owner n sents (xs ++ s ∷ []) ≡ slices_pieces parts owner n sents xs + pieces_of (slice_streams parts owner (run_slices parts owner sents xs) s n)
pieces-more parts owner n sents [] s = add-zero (pieces_of (slice_streams parts owner sents s n)) ∙ sym (zero-add (pieces_of (slice_streams parts owner sents s n)))
pieces-more parts owner n sents (x ∷ xs) s =
    let rest = pieces-more parts owner n (sents ++ run_slice parts owner sents x ∷ []) xs s in
    joined (pieces_of (slice_streams parts owner sents x n)) _ _ _ rest
  where
    joined : (a b c d : ℕ) → b ≡ c + d → a + b ≡ a + c + d
    joined a b c d e = omega (arith, e)

-- the start of a query
module _ {S H L : Type 0} (o : Outside S H L) (q : Asked) where
  node-begins : (known : Type 0) (n : ℕ) (now : Task S H L) → now.incoming.items ≡ [] → AreEarlier q.query 0 (o.state now.bench.link).may → NodeStands o q known 0 n now.bench now
  node-begins known n now none earlier = record {
    goes_on = record {
      store = steady_still o.faults o.sound now.bench.store;
      host = steady_still o.host_faults o.host_sound now.bench.host;
      link = goes-on-still q.query (o.state now.bench.link);
      unused = λ off. refl;
    };
    earlier = earlier;
    fits = λ s kinds h. subst (λ (l : List (ℕ × _)). AreFit kinds (rows_sent l s)) (sym none) tt;
    begun = λ e. refl;
    answered = λ later used. absurd (omega (arith, later));
    gave = λ later seals files used. absurd (omega (arith, later));
    pieces = λ k used. omega arith;
    received = λ k used s. ap (λ (l : List (ℕ × _)). rows_sent l s) none ∙ nothing s;
  }
    where
      nothing : (s : ℕ) → rows_sent [] s ≡ moved (sent_by (sents_of q 0) s).out q.basis.owner (sent_by (sents_of q 0) s).rows n
      nothing zero = refl
      nothing (suc s) = refl

  pub begins : (tasks : List (Task S H L)) → All (λ (t : Task S H L). t.incoming.items ≡ []) tasks → ((n : ℕ) (t : Task S H L) → n < length tasks → AreEarlier q.query 0 (o.state (slice_index_or tasks n t).bench.link).may)
      → Stands o q (benches_of tasks) 0 tasks
  begins tasks none earlier = record {
    many = sym many;
    each = λ n b t within.
        let there : n < length tasks = omega (arith, within, many) in
        subst (λ (x : Bench S H L). NodeStands o q (TellsAll o q (benches_of tasks)) 0 n x (slice_index_or tasks n t)) (sym (at-map (λ (x : Task S H L). x.bench) tasks n b t there))
        (node-begins (TellsAll o q (benches_of tasks)) n (slice_index_or tasks n t) (none n t there) (earlier n t there));
    fine = λ k. refl;
  }
    where
      many : length (benches_of tasks) ≡ length tasks
      many = length-map tasks (λ (x : Task S H L). x.bench)

-- after one slice more
module _ {S H L : Type 0} (o : Outside S H L) (q : Asked) (is : IsAsked q) (first : List (Bench S H L)) (count : ℕ) (s : Slice) (there : slice_get q.plan.slices count ≡ Some s) (sends : List Bool)
    (runs : flagged sends ≡ cond (list_any (gathers (take count q.plan.slices)) (receives s.root)) (lowest q.basis.owner ∷ []) (nodes_of q.basis.owner))
    (old : List (Task S H L)) (stands : Stands o q first count old) (nodes : length old ≡ length q.marks) where
  abbrev sents : List Sent
  sents = sents_of q count

  abbrev gathered : Bool
  gathered = list_any (gathers (take count q.plan.slices)) (receives s.root)

  abbrev told : Type 0
  told = IsTrue q.seals × IsTrue q.files

  pub runs-on : flagged sends ≡ runs_on q.basis.owner sents s.root
  runs-on = runs-are (parts q) q.basis.owner (take count q.plan.slices) s.root sends runs

  -- what was sent with this slice
  pub sents-next : sents_of q (count + 1) ≡ sents_of q count ++ run_slice (parts q) q.basis.owner (sents_of q count) s ∷ []
  sents-next = ap (run_slices (parts q) q.basis.owner []) (take-get q.plan.slices count s there) ∙ run-append (parts q) q.basis.owner [] (take count q.plan.slices) (s ∷ [])

  pub sents-count : length (sents_of q count) ≡ count
  sents-count = sents-many (parts q) q.basis.owner (take count q.plan.slices) ∙ take-many q.plan.slices count (let w = within-get q.plan.slices count s there in omega (arith, w))

  pub begins-so : count ≡ 0 → list_any (gathers (take count q.plan.slices)) (receives s.root) ≡ false
  begins-so e = ap (λ (c : ℕ). list_any (gathers (take c q.plan.slices)) (receives s.root)) e ∙ none-gathers (receives s.root)

  -- what is read where a Gather is received
  pub reads-nothing : (n : ℕ) → list_any (gathers (take count q.plan.slices)) (receives s.root) ≡ true → slice_reads (node_held q.basis n []) s.root ≡ 0
  reads-nothing n g =
      let rules = rules-of q.plan is.is_plan.well_formed in
      no-reads (node_held q.basis n []) s.root None (scans-nothing (take count q.plan.slices) s.root (fits-in q.plan.slices count s rules there).alone g)

  -- the slice on a node that has what it is meant to have
  pub here-at : TellsAll o q first → (n : ℕ) (t : Task S H L) → is_used q.marks n ≡ true → here (node_held q.basis n (slice_index_or old n t).incoming.items) ≡ here_at (parts q) q.basis.owner sents n
  here-at k n t used =
      let within : n < length first = (let w = used-within q is n used in let m = stands.many in omega (arith, w, m, nodes)) in
      here-is q.basis n sents (slice_index_or old n t).incoming.items is.sixteen ((stands.each n (item-of first (omega (arith, within))) t within).received k used)

  module _ (kinds : List Kind) (typed : op_kinds s.root ≡ Some kinds) (mid : List (Task S H L))
      (ran : (n : ℕ) (t : Task S H L) → n < length old → HasRun o told q.basis s.root s.out kinds n (has_flag sends n) (slice_index_or old n t) (slice_index_or mid n t)) (same : length mid ≡ length old) where
    -- a node that runs the slice
    runs-there : (m : ℕ) → m < 16 → has_flag sends m ≡ true → (is_used q.marks m ≡ true) × (m < length old)
    runs-there m below on = let used = run-used q is sends gathered runs m below on in (used, let w = used-within q is m used in omega (arith, w, nodes))

    -- no evaluation faulted where its slice ended well
    pub fine-there : TellsAll o q first → (t : Task S H L) → AreDone mid → (m : ℕ) → m < 16 → has_flag sends m ≡ true → op_faults s.root (here_at (parts q) q.basis.owner sents m) ≡ false
    fine-there k t done m below on =
        let r = runs-there m below on in
        sym (ap (op_faults s.root) (here-at k m t r.0))
        ∙ subst (λ (e : FlowEnd). IsNumericAt e (slice_fault (node_held q.basis m (slice_index_or old m t).incoming.items) s.root)) (done m t (let w = r.1 in omega (arith, w, same))) (((ran m t r.1).served.flowed on).numeric (k.seals, k.files))

    -- the rows for each receiver are those of its meaning
    pub sent-to : (parcels : List Parcels) → AreTaken mid parcels → AreDone mid → TellsAll o q first → (t : Task S H L) → (n : ℕ) → n < 16 → Gets s.out q.basis.owner n → AreSentTo (parts q) q.basis.owner sents s kinds parcels sends runs-on n
    sent-to parcels taken done k t n below gets m within on =
        let r = runs-there m within on in
        let lists = (slice_index_or mid m t).parcels.lists.items in
        let here_is = here-at k m t r.0 in
        let mid_within : m < length mid = (let w = r.1 in omega (arith, w, same)) in
        let has : HasSent told s.out q.basis.owner kinds (slice_rows (node_held q.basis m (slice_index_or old m t).incoming.items) s.root) lists =
        subst (λ (e : FlowEnd). IfDone e (HasSent told s.out q.basis.owner kinds (slice_rows (node_held q.basis m (slice_index_or old m t).incoming.items) s.root) lists)) (done m t mid_within) ((ran m t r.1).sent on) in
        subst (λ (b : List ℕ). AreRows kinds (moved s.out q.basis.owner (rows_of s.root (here_at (parts q) q.basis.owner sents m)) n) b) (sym (taken.each m t mid_within (list_of s.out n)))
        (subst (λ (l : List (List Value)). AreRows kinds (moved s.out q.basis.owner l n) (bytes_at lists (list_of s.out n))) (ap (rows_of s.root) here_is)
        (sent-rows told s.out q.basis.owner kinds (slice_rows (node_held q.basis m (slice_index_or old m t).incoming.items) s.root) lists has (k.seals, k.files) n below gets))

    -- how a query stands after the motion
    module _ (parcels : List Parcels) (taken : AreTaken mid parcels) (done : AreDone mid) (back : List (Task S H L)) (heads : AreSameHeads mid back) (takes : List Bool) (to : flagged takes ≡ receivers s.out q.basis.owner) (new : List (Task S H L))
        (got : (n : ℕ) (t : Task S H L) → n < length back → HasGot o q.query count kinds s.out parcels sends n (has_flag takes n) (slice_index_or back n t) (slice_index_or new n t)) (many : length new ≡ length back) where
      -- whatever became of the exchanges
      module _ (n : ℕ) (b : Bench S H L) (t : Task S H L) (within : n < length first) where
        abbrev at_first : Bench S H L
        at_first = slice_index_or first n b

        old-within : n < length old
        old-within = let m = stands.many in omega (arith, within, m)

        back-within : n < length back
        back-within = let m = stands.many in let c = heads.count in omega (arith, within, m, same, c)

        mid-within : n < length mid
        mid-within = let m = stands.many in omega (arith, within, m, same)

        below : n < 16
        below = let m = stands.many in let few = is.few in omega (arith, within, m, nodes, few)

        before : NodeStands o q (TellsAll o q first) count n (slice_index_or first n b) (slice_index_or old n t)
        before = stands.each n b t within

        pub still-goes-on : NodeGoesOn o q n (slice_index_or first n b) (slice_index_or new n t).bench
        still-goes-on =
            got-goes-on o q is count n s kinds parcels sends takes to below at_first (slice_index_or mid n t) (slice_index_or back n t) (slice_index_or new n t) (heads.each n t) (got n t back-within)
            (ran-goes-on o q is (TellsAll o q first) count n s sends gathered runs begins-so below at_first (slice_index_or old n t) (slice_index_or mid n t).bench (slice_index_or mid n t).end before (ran n t old-within).served)

        pub still-answered : is_used q.marks n ≡ true → HasAnswered o.checks o.host_faults (slice_index_or first n b).host (slice_index_or new n t).bench.host
        still-answered used =
            got-answered o q is count n s kinds parcels sends takes to below at_first (slice_index_or mid n t) (slice_index_or back n t) (slice_index_or new n t) (heads.each n t) (got n t back-within)
            (ran-answered o q is (TellsAll o q first) count n s sends gathered runs begins-so below at_first (slice_index_or old n t) (slice_index_or mid n t).bench (slice_index_or mid n t).end before (ran n t old-within).served (ap no_answer (done n t mid-within)) used)

        node-next : (slice_index_or new n t).got ≡ Ok tt → NodeStands o q (TellsAll o q first) (count + 1) n (slice_index_or first n b) (slice_index_or new n t)
        node-next well = record {
          goes_on = still-goes-on;
          earlier = got-earlier o q is count n s kinds parcels sends takes to below at_first (slice_index_or mid n t) (slice_index_or back n t) (slice_index_or new n t) (heads.each n t) (got n t back-within)
              (subst (λ (l : L). AreEarlier q.query count (o.state l).may) (sym (ran n t old-within).served.link) before.earlier);
          fits = got-fits o q is count n s kinds parcels sends takes to below at_first (slice_index_or mid n t) (slice_index_or back n t) (slice_index_or new n t) (heads.each n t) (got n t back-within) well q.plan.slices there typed
              (subst (λ v. FitSlices q.plan.slices v.items) (sym (ran n t old-within).incoming) before.fits);
          begun = λ e. absurd (omega (arith, e));
          answered = λ later used. still-answered used;
          gave = λ later seals files used.
              got-gave o q is count n s kinds parcels sends takes to below at_first (slice_index_or mid n t) (slice_index_or back n t) (slice_index_or new n t) (heads.each n t) (got n t back-within) (slices_reads q.basis n (take (count + 1) q.plan.slices))
              (ran-gave o q is (TellsAll o q first) count n s sends gathered runs begins-so below at_first (slice_index_or old n t) (slice_index_or mid n t).bench (slice_index_or mid n t).end before (ran n t old-within).served (done n t mid-within) (reads-nothing n) seals files used
              (take (count + 1) q.plan.slices) (reads-more n));
          pieces = λ k used. subst (λ (m : ℕ). RoseBy m (o.state at_first.link).given (o.state (slice_index_or new n t).bench.link).given) (sym (pieces-are k))
              (got-pieces o q is count n s kinds parcels sends takes to below at_first (slice_index_or mid n t) (slice_index_or back n t) (slice_index_or new n t) (heads.each n t) (got n t back-within) well
              (slices_pieces (parts q) q.basis.owner n [] (take count q.plan.slices)) (slice_streams (parts q) q.basis.owner sents s n) (tells k used)
              (λ on. streams-are (parts q) q.basis.owner sents s kinds parcels sends runs-on n (sent-to parcels taken done k t n below (gets s.out q.basis.owner takes n to below on)) (is-receiver q.basis.owner s takes n to below ∙ on))
              (λ off. ap (λ (c : Bool). pieces_of (cond c (map (λ m. (m, stream (parts q) q.basis.owner sents s n m)) (runs_on q.basis.owner sents s.root)) [])) (is-receiver q.basis.owner s takes n to below ∙ off))
              (subst (λ (l : L). RoseBy (slices_pieces (parts q) q.basis.owner n [] (take count q.plan.slices)) (o.state at_first.link).given (o.state l).given) (sym (ran n t old-within).served.link) (before.pieces k used)));
          received = λ k used. subst (λ (l : List Sent). HasReceivedAll q.basis.owner l n (slice_index_or new n t).incoming.items) (sym sents-next)
              (got-received o q is count n s kinds parcels sends takes to below at_first (slice_index_or mid n t) (slice_index_or back n t) (slice_index_or new n t) (heads.each n t) (got n t back-within) well
              sents (run_slice (parts q) q.basis.owner sents s) sents-count refl (tells k used) used
              (λ on rows are. rows-brought (parts q) q.basis.owner sents s kinds parcels sends runs-on n rows (sent-to parcels taken done k t n below (gets s.out q.basis.owner takes n to below on)) are)
              (subst (λ v. HasReceivedAll q.basis.owner sents n v.items) (sym (ran n t old-within).incoming) (before.received k used)));
        }
          where
            reads-more : (n : ℕ) → slices_reads q.basis n (take (count + 1) q.plan.slices) ≡ slices_reads q.basis n (take count q.plan.slices) + slice_reads (node_held q.basis n []) s.root
            reads-more n =
                ap (slices_reads q.basis n) (take-get q.plan.slices count s there)
                ∙ sum_by-append (λ (x : Slice). slice_reads (node_held q.basis n []) x.root) (take count q.plan.slices) (s ∷ [])
                ∙ ap (λ (m : ℕ). slices_reads q.basis n (take count q.plan.slices) + m) (zero-add (slice_reads (node_held q.basis n []) s.root))

            pieces-are : TellsAll o q first → slices_pieces (parts q) q.basis.owner n [] (take (count + 1) q.plan.slices) ≡ slices_pieces (parts q) q.basis.owner n [] (take count q.plan.slices) + pieces_of (slice_streams (parts q) q.basis.owner sents s n)
            pieces-are k = ap (slices_pieces (parts q) q.basis.owner n []) (take-get q.plan.slices count s there) ∙ pieces-more (parts q) q.basis.owner n [] (take count q.plan.slices) s

            tells : TellsAll o q first → is_used q.marks n ≡ true → AreTold (o.state (slice_index_or new n t).bench.link).may
            tells k used = still-told (o.state at_first.link).may (o.state (slice_index_or new n t).bench.link).may (IsOf q.query) still-goes-on.link.own (k.links n b within used)

      pub stands-next : ((n : ℕ) (t : Task S H L) → n < length new → (slice_index_or new n t).got ≡ Ok tt) → Stands o q first (count + 1) new
      stands-next well = record {
        many = let m = stands.many in let c = heads.count in omega (arith, m, same, c, many);
        each = λ n b t within. node-next n b t within (well n t (let m = stands.many in let c = heads.count in omega (arith, within, m, same, c, many)));
        fine = λ k. ap some_fault sents-next ∙ fault-behind sents (run_slice (parts q) q.basis.owner sents s ∷ []) ∙ (λ i. stands.fine k i || (new-fine k i || false));
      }
        where
          some-old : 0 < length old
          some-old = let w = used-within q is (lowest q.basis.owner) (lowest-used q is) in omega (arith, w, nodes)

          new-fine : TellsAll o q first → (run_slice (parts q) q.basis.owner sents s).fault ≡ false
          new-fine k = none-faulted (parts q) q.basis.owner sents s kinds parcels sends runs-on (fine-there k (item-of old some-old) done)
