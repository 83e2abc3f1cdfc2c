-- What a slice has on its node is what a plan's meaning says that the node has.
use Rattle.std.proofs.Common.{◌≡◌, ◌∙◌, ℕ, ◌+◌, ◌==◌, Bool, true, false, ◌||◌, List, [], ◌∷◌, ◌++◌, length, take, filter, flat_map, slice_index, Option, Some, None, refl, sym, ap, subst}
use Rattle.std.specs.Global.{Vec}
use Rattle.std.specs.Prelude.{option_map, slice_get}
use Rattle.std.specs.List.{AllByRecursion, list_all, list_any, range_with_len}
use Rattle.hq_value.specs.declared.kind.Kind.{Kind}
use Rattle.hq_value.specs.declared.value.Value.{Value}
use Rattle.hq_algebra.specs.declared.expr.Expr.{Expr}
use Rattle.hq_algebra.specs.declared.op.Op.{Op, Row_of-Op, end_of-Op, more_of-Op}
use Rattle.hq_algebra.specs.declared.op.Op.TheVariants as op
use Rattle.hq_algebra.specs.declared.plan.Plan.{Plan}
use Rattle.hq_algebra.specs.declared.plan.Slice.{Slice}
use Rattle.hq_algebra.specs.Plans.{operators, operators_in, is_scan, sent_kinds, receives_what_is_sent}
use Rattle.hq_fits.specs.Supplied.{AreFit}
use Rattle.hq_planwire.specs.Wire.{IsPlan}
use Rattle.hq_planwire.proofs.PlanCodecs.{one_plan}
use Rattle.hq_meaning.specs.Nodes.{moved}
use Rattle.hq_meaning.specs.Plans.{Sent, sent_by, own_rows, here_at}
use Rattle.hq_exec.specs.Files.{HeldState, held, kinds_in, lanes_in, bucket_files, has_bucket, file_rows, table_rows, rows_sent, here}
use Rattle.hq_exec.specs.Slices.{IsSliceOf, IsGiven, HasInputs, SealsStand, HasSeals, OwnStand, HasOwn, reads_of, input_reads, slice_reads}
use Rattle.hq_dispatch.specs.Basis.{BasisState, Asked, buckets_at, all_held, parts_of, node_held, IsScanned}
use Rattle.hq_dispatch.specs.Running.{CanRead}
use Rattle.hq_dispatch.specs.Standing.{FitSlices, IsAsked}
use Rattle.hq_dispatch.proofs.Forming.{rules-of, all-there, fits-in, receive-sent, sent-front}
use Rattle.hq_dispatch.proofs.Ranges.{flat-filter, flat-flat, kept-again}
use Rattle.hq_fits.proofs.Operating.{both_true}

-- the rows of a table on a node
pub tables-are : (b : BasisState) (n t : ℕ) (incoming : List (ℕ × Vec (List Value))) → length b.owner ≡ 16 → table_rows (node_held b n incoming) t ≡ own_rows (parts_of b.tables b.own) b.owner n t
tables-are b n t incoming sixteen =
    let all : HeldState = all_held b.tables b.own in
    let p : ℕ → Bool = λ c. slice_index b.owner c == n in
    let g : ℕ → List (List ℕ) = bucket_files (lanes_in all t) all t in
    let rows : List ℕ → List (List Value) = file_rows (kinds_in all t) in
    ap (flat_map rows) (flat-filter g (has_bucket (buckets_at b.owner n)) (range_with_len 0 16) ∙ ap (flat_map g) (kept-again p))
    ∙ flat-flat rows g (filter p (range_with_len 0 16))
    ∙ ap (λ (m : ℕ). flat_map (λ c. flat_map rows (g c)) (filter p (range_with_len 0 m))) (sym sixteen)

-- what it received is what the slices so far sent to it
abbrev pub HasReceivedAll : List ℕ → List Sent → ℕ → List (ℕ × Vec (List Value)) → Type 0
HasReceivedAll owner sents n incoming = (s : ℕ) → rows_sent incoming s ≡ moved (sent_by sents s).out owner (sent_by sents s).rows n

pub here-is : (b : BasisState) (n : ℕ) (sents : List Sent) (incoming : List (ℕ × Vec (List Value))) → length b.owner ≡ 16 → HasReceivedAll b.owner sents n incoming
    → here (node_held b n incoming) ≡ here_at (parts_of b.tables b.own) b.owner sents n
here-is b n sents incoming sixteen has = λ i. record { tables = λ t. tables-are b n t incoming sixteen i; sent = λ s. has s i }

-- how much is read does not hang on what was received
module _ (h k : HeldState) (tables : k.tables ≡ h.tables) (own : k.own ≡ h.own) (buckets : k.buckets ≡ h.buckets) where
  mutual
    pub same-reads : (o : Op) (above : Option Expr) → reads_of o k above ≡ reads_of o h above
    same-reads (op.Scan table kinds) above = λ i. reads_of (op.Scan table kinds) (held (tables i) (own i) (buckets i) []) above
    same-reads (op.Receive slice kinds) above = refl
    same-reads (op.Filter' c p input) above = same-input input (Some c)
    same-reads (op.Project' items p input) above = same-input input None
    same-reads (op.Join' lk rk p left q right) above = λ i. same-input left None i + same-input right None i
    same-reads (op.Partial' keys aggs p input) above = same-input input None
    same-reads (op.Final' n aggs p input) above = same-input input None
    same-reads (op.Distinct' p input) above = same-input input None
    same-reads (op.Sort' order limit p input) above = same-input input None

    same-input : {m : _} (input : Row_of-Op m) (above : Option Expr) → input_reads input k above ≡ input_reads input h above
    same-input end_of-Op above = refl
    same-input (more_of-Op child rest) above = same-reads child above

pub reads-as : (b : BasisState) (n : ℕ) (incoming : List (ℕ × Vec (List Value))) (root : Op) → slice_reads (node_held b n incoming) root ≡ slice_reads (node_held b n []) root
reads-as b n incoming root = same-reads (node_held b n []) (node_held b n incoming) refl refl refl root None

-- a slice that scans nothing reads nothing
split-any : (xs ys : List Op) → list_any is_scan (xs ++ ys) ≡ false → (list_any is_scan xs ≡ false) × (list_any is_scan ys ≡ false)
split-any [] ys h = (refl, h)
split-any (x ∷ xs) ys h = by (is_scan x) h (split-any xs ys)
  where
    by : (b : Bool) → (b || list_any is_scan (xs ++ ys)) ≡ false → (list_any is_scan (xs ++ ys) ≡ false → (list_any is_scan xs ≡ false) × (list_any is_scan ys ≡ false)) → ((b || list_any is_scan xs) ≡ false) × (list_any is_scan ys ≡ false)
    by true e rest = cc
    by false e rest = rest e

module _ (h : HeldState) where
  mutual
    pub no-reads : (o : Op) (above : Option Expr) → list_any is_scan (operators o) ≡ false → reads_of o h above ≡ 0
    no-reads (op.Scan table kinds) above none = cc
    no-reads (op.Receive slice kinds) above none = refl
    no-reads (op.Filter' c p input) above none = no-input input (Some c) none
    no-reads (op.Project' items p input) above none = no-input input None none
    no-reads (op.Join' lk rk p left q right) above none = let both = split-any (operators_in left) (operators_in right) none in λ i. no-input left None both.0 i + no-input right None both.1 i
    no-reads (op.Partial' keys aggs p input) above none = no-input input None none
    no-reads (op.Final' n aggs p input) above none = no-input input None none
    no-reads (op.Distinct' p input) above none = no-input input None none
    no-reads (op.Sort' order limit p input) above none = no-input input None none

    no-input : {m : _} (input : Row_of-Op m) (above : Option Expr) → list_any is_scan (operators_in input) ≡ false → input_reads input h above ≡ 0
    no-input end_of-Op above none = refl
    no-input (more_of-Op child rest) above none = no-reads child above none

-- what the operators of a slice take is there
module _ (b : BasisState) (n : ℕ) (incoming : List (ℕ × Vec (List Value))) where
  received-given : (slices before : List Slice) (slice : ℕ) (kinds : List Kind) → ((k : ℕ) (ks : List Kind) → sent_kinds before k ≡ Some ks → sent_kinds slices k ≡ Some ks) → FitSlices slices incoming
      → receives_what_is_sent before (op.Receive slice kinds) ≡ true → AreFit kinds (rows_sent incoming slice)
  received-given slices before slice kinds front fit h =
      let is = receive-sent before slice kinds h in fit slice kinds (front slice kinds is.sent)

  op-given : (slices before : List Slice) → ((k : ℕ) (ks : List Kind) → sent_kinds before k ≡ Some ks → sent_kinds slices k ≡ Some ks) → FitSlices slices incoming → (o : Op) → receives_what_is_sent before o ≡ true
      → IsScanned b.tables o → IsGiven (node_held b n incoming) o
  op-given slices before front fit (op.Scan table kinds) h s = record { found = s.found; kinds_are = s.kinds_are }
  op-given slices before front fit (op.Receive slice kinds) h s = received-given slices before slice kinds front fit h
  op-given slices before front fit (op.Filter' c p input) h s = tt
  op-given slices before front fit (op.Project' items p input) h s = tt
  op-given slices before front fit (op.Join' lk rk p left q right) h s = tt
  op-given slices before front fit (op.Partial' keys aggs p input) h s = tt
  op-given slices before front fit (op.Final' m aggs p input) h s = tt
  op-given slices before front fit (op.Distinct' p input) h s = tt
  op-given slices before front fit (op.Sort' order limit p input) h s = tt

  ops-given : (slices before : List Slice) → ((k : ℕ) (ks : List Kind) → sent_kinds before k ≡ Some ks → sent_kinds slices k ≡ Some ks) → FitSlices slices incoming → (ops : List Op)
      → list_all (receives_what_is_sent before) ops ≡ true → AllByRecursion (IsScanned b.tables) ops → AllByRecursion (IsGiven (node_held b n incoming)) ops
  ops-given slices before front fit [] h s = tt
  ops-given slices before front fit (o ∷ ops) h s =
      let both = both_true (receives_what_is_sent before o) (list_all (receives_what_is_sent before) ops) h in
      (op-given slices before front fit o both.0 s.0, ops-given slices before front fit ops both.1 s.1)

  seals-op : (o : Op) → SealsStand (all_held b.tables b.own) o → SealsStand (node_held b n incoming) o
  seals-op (op.Scan table kinds) h = h
  seals-op (op.Receive slice kinds) h = tt
  seals-op (op.Filter' c p input) h = tt
  seals-op (op.Project' items p input) h = tt
  seals-op (op.Join' lk rk p left q right) h = tt
  seals-op (op.Partial' keys aggs p input) h = tt
  seals-op (op.Final' m aggs p input) h = tt
  seals-op (op.Distinct' p input) h = tt
  seals-op (op.Sort' order limit p input) h = tt

  own-op : (o : Op) → OwnStand (all_held b.tables b.own) o → OwnStand (node_held b n incoming) o
  own-op (op.Scan table kinds) h = h
  own-op (op.Receive slice kinds) h = tt
  own-op (op.Filter' c p input) h = tt
  own-op (op.Project' items p input) h = tt
  own-op (op.Join' lk rk p left q right) h = tt
  own-op (op.Partial' keys aggs p input) h = tt
  own-op (op.Final' m aggs p input) h = tt
  own-op (op.Distinct' p input) h = tt
  own-op (op.Sort' order limit p input) h = tt

  each-op : (P Q : Op → Type 0) → ((o : Op) → P o → Q o) → (ops : List Op) → AllByRecursion P ops → AllByRecursion Q ops
  each-op P Q f [] h = tt
  each-op P Q f (o ∷ ops) h = (f o h.0, each-op P Q f ops h.1)

-- a slice of the plan in bytes
pub slice-of : (plan : Plan) (bytes : List ℕ) (i : ℕ) (s : Slice) → IsPlan plan bytes → slice_get plan.slices i ≡ Some s → IsSliceOf bytes i s.root
slice-of plan bytes i s is there = record { plan = plan; is_plan = is; there = ap (option_map (λ (x : Slice). x.root)) there }

-- has one root
pub root-is : (plan : Plan) (bytes : List ℕ) (i : ℕ) (s : Slice) (root : Op) → IsPlan plan bytes → slice_get plan.slices i ≡ Some s → IsSliceOf bytes i root → s.root ≡ root
root-is plan bytes i s root is there other = by (one_plan plan other.plan bytes is other.is_plan)
  where
    by : plan ≡ other.plan → s.root ≡ root
    by e =
        let same : Some s.root ≡ Some root = ap (option_map (λ (x : Slice). x.root)) (sym there) ∙ ap (λ (p : Plan). option_map (λ (x : Slice). x.root) (slice_get p.slices i)) e ∙ other.there in
        cc

-- the slice can run on the node
pub can-read : (q : Asked) → IsAsked q → (i n : ℕ) (s : Slice) → slice_get q.plan.slices i ≡ Some s → (incoming : List (ℕ × Vec (List Value))) → FitSlices q.plan.slices incoming
    → CanRead q.seals q.files q.basis i n incoming
can-read q is i n s there incoming fit =
    let rules = rules-of q.plan is.is_plan.well_formed in
    let own = slice-of q.plan q.basis.plan i s is.is_plan there in
    let fits = fits-in q.plan.slices i s rules there in
    record {
      there = (s.root, own);
      inputs = λ root other. subst (HasInputs (node_held q.basis n incoming)) (root-is q.plan q.basis.plan i s root is.is_plan there other)
          (ops-given q.basis n incoming q.plan.slices (take i q.plan.slices) (sent-front q.plan.slices i) fit (operators s.root) fits.receives_sent (all-there (IsScanned q.basis.tables) q.plan.slices i s is.scanned there));
      seals_stand = λ t root other. subst (HasSeals (node_held q.basis n incoming)) (root-is q.plan q.basis.plan i s root is.is_plan there other)
          (each-op q.basis n incoming (SealsStand (all_held q.basis.tables q.basis.own)) (SealsStand (node_held q.basis n incoming)) (seals-op q.basis n incoming) (operators s.root)
          (all-there (SealsStand (all_held q.basis.tables q.basis.own)) q.plan.slices i s (is.seals_stand t) there));
      own_stand = λ t root other. subst (HasOwn (node_held q.basis n incoming)) (root-is q.plan q.basis.plan i s root is.is_plan there other)
          (each-op q.basis n incoming (OwnStand (all_held q.basis.tables q.basis.own)) (OwnStand (node_held q.basis n incoming)) (own-op q.basis n incoming) (operators s.root)
          (all-there (OwnStand (all_held q.basis.tables q.basis.own)) q.plan.slices i s (is.own_stand t) there));
    }
