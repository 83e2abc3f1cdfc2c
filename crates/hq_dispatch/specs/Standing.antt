-- A query between its slices.
--     parts q, sents_of q count            the rows that it is over, and what its first slices sent
--     FitSlices slices incoming            what a slice sent fits its kinds
--     IsAsked q                            the conditions of a query
--     NodeGoesOn o q n old new             what a query leaves of node n's bench, however it ends
--     TellsAll o q first                   seals, files and the links of the nodes in use tell their contents
--     NodeStands o q known count n ..      what node n has and has done after the first slices
--     Stands o q first count tasks         so it is of each node, and no evaluation has faulted
use Rattle.std.specs.Prelude.{◌≡◌, ℕ, ◌<◌, ◌≤◌, Bool, true, false, All, List, [], Some, IsTrue, length, take, slice_index, slice_index_or}
use Rattle.std.specs.Global.{Vec}
use Rattle.std.specs.List.{AllByRecursion, list_any}
use Rattle.hq_value.specs.Causes.{RoseBy, IsSteady, GoesOnGiving}
use Rattle.hq_value.specs.declared.kind.Kind.{Kind}
use Rattle.hq_value.specs.declared.value.Value.{Value}
use Rattle.hq_algebra.specs.declared.plan.Slice.{Slice}
use Rattle.hq_algebra.specs.Plans.{all_operators, sent_kinds}
use Rattle.hq_detect.specs.declared.bench.Bench.{Bench}
use Rattle.hq_planwire.specs.Wire.{IsPlan}
use Rattle.hq_link.specs.Link.{LinkState, AreTold}
use Rattle.hq_motion.specs.Split.{nodes_up}
use Rattle.hq_pump.specs.Safe.{AreEarlier}
use Rattle.hq_fits.specs.Supplied.{AreFit}
use Rattle.hq_exec.specs.Files.{rows_sent}
use Rattle.hq_exec.specs.Slices.{SealsStand, OwnStand}
use Rattle.hq_meaning.specs.Nodes.{nodes_of, lowest, moved}
use Rattle.hq_meaning.specs.Plans.{Parts, Sent, sent_by, run_slices}
use Rattle.hq_dispatch.specs.Basis.{Asked, parts_of, all_held, slices_reads, IsScanned}
use Rattle.hq_dispatch.specs.Ends.{HasAnswered}
use Rattle.hq_dispatch.specs.Outside.{Outside}
use Rattle.hq_dispatch.specs.Owners.{owners, is_used}
use Rattle.hq_dispatch.specs.Received.{GoesOnFor}
use Rattle.hq_dispatch.specs.Streams.{slices_pieces}
use Rattle.hq_dispatch.specs.declared.task.Task.{Task}

-- the rows that it is over
abbrev pub parts : Asked → Parts
parts q = parts_of q.basis.tables q.basis.own

-- what its first slices sent
abbrev pub sents_of : Asked → ℕ → List Sent
sents_of q count = run_slices (parts q) q.basis.owner [] (take count q.plan.slices)

-- what a slice sent fits its kinds
abbrev pub FitSlices : List Slice → List (ℕ × Vec (List Value)) → Type 0
FitSlices slices incoming = (s : ℕ) (kinds : List Kind) → sent_kinds slices s ≡ Some kinds → AreFit kinds (rows_sent incoming s)

-- the bytes spell the plan, the buckets belong to the nodes that are up, of which there is one, each scanned table is there,
-- and what is told of the files are blocks
pub record IsAsked (q : Asked) : Type 0 where
  pub is_plan : IsPlan q.plan q.basis.plan
  pub owner_is : q.basis.owner ≡ owners q.marks
  pub sixteen : length q.basis.owner ≡ 16
  pub in_use : nodes_of q.basis.owner ≡ nodes_up q.marks
  pub first : slice_index q.basis.owner 0 ≡ lowest q.basis.owner
  pub below : All (λ node. node < 16) q.basis.owner
  pub some : 0 < length (nodes_up q.marks)
  pub few : length q.marks ≤ 16
  pub scanned : AllByRecursion (IsScanned q.basis.tables) (all_operators q.plan.slices)
  pub seals_stand : IsTrue q.seals → AllByRecursion (SealsStand (all_held q.basis.tables q.basis.own)) (all_operators q.plan.slices)
  pub own_stand : IsTrue q.files → AllByRecursion (OwnStand (all_held q.basis.tables q.basis.own)) (all_operators q.plan.slices)

-- what a query leaves of node n's bench, however it ends
pub record NodeGoesOn {S H L : Type 0} (o : Outside S H L) (q : Asked) (n : ℕ) (old new : Bench S H L) : Type 0 where
  pub store : IsSteady o.faults o.sound old.store new.store
  pub host : IsSteady o.host_faults o.host_sound old.host new.host
  pub link : GoesOnFor q.query (o.state old.link) (o.state new.link)
  pub unused : is_used q.marks n ≡ false → new ≡ old

-- the links of the nodes in use tell what they carry
abbrev pub LinksTell : {S H L : Type 0} → (L → LinkState) → List Bool → List (Bench S H L) → Type 0
LinksTell {S} {H} {L} state marks first = (n : ℕ) (d : Bench S H L) → n < length first → is_used marks n ≡ true → AreTold (state (slice_index_or first n d).link).may

-- seals, files and these links tell their contents
pub record TellsAll {S H L : Type 0} (o : Outside S H L) (q : Asked) (first : List (Bench S H L)) : Type 0 where
  pub seals : IsTrue q.seals
  pub files : IsTrue q.files
  pub links : LinksTell o.state q.marks first

-- what node n has and has done after so many slices
pub record NodeStands {S H L : Type 0} (o : Outside S H L) (q : Asked) (known : Type 0) (count n : ℕ) (first : Bench S H L) (now : Task S H L) : Type 0 where
  pub goes_on : NodeGoesOn o q n first now.bench
  pub earlier : AreEarlier q.query count (o.state now.bench.link).may
  pub fits : FitSlices q.plan.slices now.incoming.items
  pub begun : count ≡ 0 → now.bench ≡ first
  pub answered : 0 < count → is_used q.marks n ≡ true → HasAnswered o.checks o.host_faults first.host now.bench.host
  pub gave : 0 < count → IsTrue q.seals → IsTrue q.files → is_used q.marks n ≡ true → GoesOnGiving o.faults o.given o.sound (slices_reads q.basis n (take count q.plan.slices)) first.store now.bench.store
  pub pieces : known → is_used q.marks n ≡ true → RoseBy (slices_pieces (parts q) q.basis.owner n [] (take count q.plan.slices)) (o.state first.link).given (o.state now.bench.link).given
  pub received : known → is_used q.marks n ≡ true → (s : ℕ) → rows_sent now.incoming.items s ≡ moved (sent_by (sents_of q count) s).out q.basis.owner (sent_by (sents_of q count) s).rows n

-- so it is of each node, and no evaluation has faulted
pub record Stands {S H L : Type 0} (o : Outside S H L) (q : Asked) (first : List (Bench S H L)) (count : ℕ) (tasks : List (Task S H L)) : Type 0 where
  pub many : length tasks ≡ length first
  pub each : (n : ℕ) (b : Bench S H L) (t : Task S H L) → n < length first → NodeStands o q (TellsAll o q first) count n (slice_index_or first n b) (slice_index_or tasks n t)
  pub fine : TellsAll o q first → list_any (λ (s : Sent). s.fault) (sents_of q count) ≡ false
