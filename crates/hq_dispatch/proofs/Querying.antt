-- A query as a whole.
use Rattle.std.proofs.Common.{◌≡◌, ◌∙◌, ℕ, zero, suc, ◌+◌, ◌-◌, ◌<◌, ◌≤◌, Bool, All, List, [], ◌∷◌, length, slice_index, slice_index_or, slice_set, Some, IsTrue, refl, sym, ap, subst, arith}
use Rattle.std.specs.Prelude.{slice_get}
use Rattle.std.specs.List.{AllByRecursion}
use Rattle.std.proofs.lemmas.List.{length-map}
use Rattle.hq_value.proofs.Counting.{steady_still}
use Rattle.hq_algebra.specs.declared.op.Op.{Op}
use Rattle.hq_algebra.specs.declared.plan.Plan.{Plan}
use Rattle.hq_algebra.specs.Plans.{all_operators}
use Rattle.hq_detect.specs.declared.bench.Bench.{Bench}
use Rattle.hq_exec.specs.Slices.{IsSliceOf, SealsStand, OwnStand}
use Rattle.hq_lane.specs.Lanes.{LaneState}
use Rattle.hq_meaning.specs.Nodes.{nodes_of, lowest}
use Rattle.hq_motion.specs.Split.{nodes_up}
use Rattle.hq_planwire.specs.Wire.{IsPlan}
use Rattle.hq_pump.specs.Safe.{AreEarlier}
use Rattle.hq_snap.specs.Snaps.{TableSnapState}
use Rattle.hq_dispatch.specs.Basis.{BasisState, Asked, asked, all_held, IsScanned}
use Rattle.hq_dispatch.specs.Ended.{benches_of, HasEnded}
use Rattle.hq_dispatch.specs.Finished.{HasFinished}
use Rattle.hq_dispatch.specs.Outside.{Outside}
use Rattle.hq_dispatch.specs.Owners.{owners}
use Rattle.hq_dispatch.specs.Running.{CanRead}
use Rattle.hq_dispatch.specs.Standing.{FitSlices, IsAsked, NodeGoesOn, Stands}
use Rattle.hq_dispatch.specs.declared.end.QueryEnd.{QueryEnd}
use Rattle.hq_dispatch.specs.declared.end.QueryEnd.TheVariants as end
use Rattle.hq_dispatch.specs.declared.task.Task.{Task}
use Rattle.hq_dispatch.proofs.Advancing.{item-of, at-map}
use Rattle.hq_dispatch.proofs.Ending.{ended-memory}
use Rattle.hq_dispatch.proofs.Finishing.{finished-so}
use Rattle.hq_dispatch.proofs.Holding.{can-read, slice-of}
use Rattle.hq_dispatch.proofs.Linking.{goes-on-still}
use Rattle.hq_dispatch.proofs.Nodes.{used-within, lowest-used}

-- what each node works from
abbrev pub basis_of : List ℕ → List ℕ → List TableSnapState → List LaneState → BasisState
basis_of plan owner tables own = record { plan = plan; owner = owner; tables = tables; own = own }

module _ (plan : Plan) (b : BasisState) (bytes owner : List ℕ) (tables : List TableSnapState) (own : List LaneState) (marks : List Bool) (query : ℕ) (seals files : Bool)
    (basis_is : b ≡ record { plan = bytes; owner = owner; tables = tables; own = own }) (owner_is : owner ≡ owners marks) where
  -- its conditions
  pub is-asked : IsPlan plan bytes → length owner ≡ 16 → nodes_of owner ≡ nodes_up marks → slice_index owner 0 ≡ lowest owner → All (λ node. node < 16) owner → 0 < length (nodes_up marks) → length marks ≤ 16
      → AllByRecursion (IsScanned tables) (all_operators plan.slices) → (IsTrue seals → AllByRecursion (SealsStand (all_held tables own)) (all_operators plan.slices)) → (IsTrue files → AllByRecursion (OwnStand (all_held tables own)) (all_operators plan.slices))
      → IsAsked (asked plan b marks query seals files)
  is-asked is_plan sixteen in_use first below some few scanned seals_stand own_stand =
      subst (λ (c : BasisState). IsAsked (asked plan c marks query seals files)) (sym basis_is)
      (record {
        is_plan = is_plan;
        owner_is = owner_is;
        sixteen = sixteen;
        in_use = in_use;
        first = first;
        below = below;
        some = some;
        few = few;
        scanned = scanned;
        seals_stand = seals_stand;
        own_stand = own_stand;
      })

  -- and how it ended, over the benches
  pub ended-over : {S H L : Type 0} (o : Outside S H L) (first old now new : List (Bench S H L)) (f : QueryEnd) → first ≡ old → new ≡ now → HasEnded o (asked plan b marks query seals files) first now f
      → HasEnded o (asked plan (basis_of bytes (owners marks) tables own) marks query seals files) old new f
  ended-over {S} {H} {L} o first old now new f old_is new_is ended =
      subst (λ (w : List ℕ). HasEnded o (asked plan (basis_of bytes w tables own) marks query seals files) old new f) owner_is
      (subst (λ (c : BasisState). HasEnded o (asked plan c marks query seals files) old new f) basis_is
      (subst (λ (l : List (Bench S H L)). HasEnded o (asked plan b marks query seals files) l new f) old_is
      (subst (λ (l : List (Bench S H L)). HasEnded o (asked plan b marks query seals files) first l f) (sym new_is) ended)))

-- what the links carried before
pub earlier-so : {S H L : Type 0} (o : Outside S H L) (query : ℕ) (tasks : List (Task S H L)) (benches : List (Bench S H L)) → benches_of tasks ≡ benches
    → ((n : ℕ) (d : Bench S H L) → n < length benches → AreEarlier query 0 (o.state (slice_index_or benches n d).link).may) → (n : ℕ) (t : Task S H L) → n < length tasks → AreEarlier query 0 (o.state (slice_index_or tasks n t).bench.link).may
earlier-so {S} {H} {L} o query tasks benches is each n t within =
    let many : length (benches_of tasks) ≡ length tasks = length-map tasks (λ (x : Task S H L). x.bench) in
    let same : length (benches_of tasks) ≡ length benches = ap (λ (l : List (Bench S H L)). length l) is in
    subst (λ (b : Bench S H L). AreEarlier query 0 (o.state b.link).may)
    (ap (λ (l : List (Bench S H L)). slice_index_or l n t.bench) (sym is) ∙ at-map (λ (x : Task S H L). x.bench) tasks n t.bench t within)
    (each n t.bench (omega (arith, within, many, same)))

-- the item at a place
pub there-at : {X : Type 0} (xs : List X) (i : ℕ) → i < length xs → (x : X) × (slice_get xs i ≡ Some x)
there-at [] i within = absurd (omega (arith, within))
there-at (x ∷ xs) zero within = (x, refl)
there-at (x ∷ xs) (suc i) within = there-at xs i (omega (arith, within))

-- a slice can run on a node as the query stands
pub stands-to-read : {S H L : Type 0} (o : Outside S H L) (q : Asked) → IsAsked q → (first : List (Bench S H L)) (count : ℕ) (old : List (Task S H L)) → Stands o q first count old → (i n : ℕ) (x : Task S H L) → n < length old → x ≡ slice_index_or old n x
    → i < length q.plan.slices → CanRead q.seals q.files q.basis i n x.incoming.items
stands-to-read {S} {H} {L} o q is first count old stands i n x within x_is slice =
    let m = stands.many in
    let w : n < length first = omega (arith, within, m) in
    let s = there-at q.plan.slices i slice in
    can-read q is i n s.0 s.1 x.incoming.items (subst (λ (t : Task S H L). FitSlices q.plan.slices t.incoming.items) (sym x_is) (stands.each n (item-of first (omega (arith, w))) x w).fits)

-- a query for which there was no memory to begin
pub ended-still : {S H L : Type 0} (o : Outside S H L) (q : Asked) (first now : List (Bench S H L)) → now ≡ first → HasEnded o q first now end.NoMemory
ended-still {S} {H} {L} o q first now same =
    subst (λ (l : List (Bench S H L)). HasEnded o q first l end.NoMemory) (sym same) (ended-memory o q first first refl (λ n within d. still n (slice_index_or first n d)))
  where
    still : (n : ℕ) (b : Bench S H L) → NodeGoesOn o q n b b
    still n b = record {
      store = steady_still o.faults o.sound b.store;
      host = steady_still o.host_faults o.host_sound b.host;
      link = goes-on-still q.query (o.state b.link);
      unused = λ off. refl;
    }

-- numbers of slices
pub within-last : (s l n : ℕ) → s < l → l + 1 ≡ n → s + 1 < n
within-last s l n less e = omega (arith, less, e)

pub last-is : (s l n : ℕ) → l ≤ s → s ≤ l → l + 1 ≡ n → s ≡ n - 1
last-is s l n low high e = omega (arith, low, high, e)

pub last-one : (l n : ℕ) → l + 1 ≡ n → l ≡ n - 1
last-one l n e = omega (arith, e)

pub last-below : (l n : ℕ) → l + 1 ≡ n → l < n
last-below l n e = omega (arith, e)

-- the lowest node in use is one of the tasks
pub lowest-within : {S H L : Type 0} (q : Asked) → IsAsked q → (old : List (Task S H L)) → length old ≡ length q.marks → (node : ℕ) → node ≡ lowest q.basis.owner → node < length old
lowest-within q is old nodes node e = let w = used-within q is (lowest q.basis.owner) (lowest-used q is) in omega (arith, w, nodes, e)

-- the query ended with its last slice
pub ended-last : {S H L : Type 0} (o : Outside S H L) (q : Asked) → IsAsked q → (first : List (Bench S H L)) (last : ℕ) (old : List (Task S H L)) → last + 1 ≡ length q.plan.slices → Stands o q first (length q.plan.slices - 1) old → length old ≡ length q.marks
    → (node : ℕ) → node ≡ lowest q.basis.owner → (x y : Task S H L) → x ≡ slice_index_or old node x → (f : QueryEnd)
    → ((root : Op) → IsSliceOf q.basis.plan last root → HasFinished o (IsTrue q.seals × IsTrue q.files) q.basis root node x y f) → HasEnded o q first (benches_of (slice_set old node y)) f
ended-last {S} {H} {L} o q is first last old count stands nodes node node_is x y x_is f finished =
    let s = there-at q.plan.slices last (last-below last (length q.plan.slices) count) in
    finished-so o q is first last s.0 s.1 count old (subst (λ (m : ℕ). Stands o q first m old) (sym (last-one last (length q.plan.slices) count)) stands) nodes node node_is x y x_is f
    (finished s.0.root (slice-of q.plan q.basis.plan last s.0 is.is_plan s.1))
