-- What a pool lends, as an answer and as an entry.
use Rattle.std.proofs.Common.{◌≡◌, ℕ, zero, suc, ◌<◌, Bool, true, List, [], ◌∷◌, ◌++◌, length, map, take, Some, slice_index_or, slice_set, slice_get, refl, sym, ◌∙◌, ap, subst, arith, inl, inr}
use Rattle.std.specs.List.{list_all}
use Rattle.hq_value.specs.declared.entry.FileId.{FileId}
use Rattle.hq_value.specs.declared.entry.EntryKind.{EntryKind}
use Rattle.hq_value.specs.declared.entry.EntryKind.TheVariants as entry
use Rattle.hq_log.specs.declared.place.Next.{Next}
use Rattle.hq_log.specs.declared.place.Next.TheVariants as which
use Rattle.hq_log.specs.Places.{is_out, next_place}
use Rattle.hq_log.specs.Pools.{pool}
use Rattle.hq_log.specs.Legal.{HasNoLane}
use Rattle.hq_log.proofs.Nexts.{next_place-AllOut}
use Rattle.hq_lane.specs.Lanes.{LaneState, no_files, file_of, id_of}
use Rattle.hq_lane.specs.BucketFiles.{BucketState, no_file, base_bytes}
use Rattle.hq_history.specs.declared.noted.Deposit.TheVariants.{Nothing}
use Rattle.hq_history.specs.History.{entries_of}
use Rattle.hq_pool.specs.declared.slot.Slot.{Slot}
use Rattle.hq_pool.specs.declared.slot.Slot.TheVariants as slot
use Rattle.hq_pool.specs.declared.lent.Lent.{Lent}
use Rattle.hq_pool.specs.declared.lent.Lent.TheVariants as lent
use Rattle.hq_pool.specs.Slots as slots
use Rattle.hq_pool.specs.Lends as pools
use Rattle.hq_catalog.specs.Lanes.{fresh_lane}
use Rattle.hq_snap.specs.Snaps.{seal_len, seal_bytes}
use Rattle.hq_catalog.specs.State.{TableState, CatState, table_in, unmade}
use Rattle.hq_catalog.specs.History.{history}
use Rattle.hq_catalog.specs.CatStep.{noted, LendsNext, LendStep}
use Rattle.hq_catalog.specs.Kept.{IsTable, IsAtHome, IsOwnClean, IsCatalogue, slot_at, answer_of}
use Rattle.hq_catalog.proofs.History.{history-entries}
use Rattle.hq_catalog.proofs.Quiet.{Keeps}
use Rattle.hq_catalog.proofs.Moves.{with_parts, entry_by, still, moved, given, given_clean}

-- the slot at a place that is there
pub got : (ss : List (Slot LaneState)) (n : ℕ) (s : Slot LaneState) → slice_get ss n ≡ Some s → (slot_at ss n ≡ s) × (n < length ss)
got [] n s e = cc
got (x ∷ ss) zero s e = (cc, omega arith)
got (x ∷ ss) (suc n) s e = (let r = got ss n s e in (r.0, omega (arith, r.1)))

-- what lies there
pub at_home : (told : Bool) (t n : ℕ) (x : TableState) (s : Slot LaneState) → IsTable told t x → slice_get x.slots n ≡ Some s → IsAtHome told t n x.seals s
at_home told t n x s ok e = (let g = got x.slots n s e in subst (IsAtHome told t n x.seals) g.0 (ok.homes n (omega (arith, g.1, ok.slots))))

pub set_same : {A : Type 0} (xs : List A) (i : ℕ) (d : A) → slice_set xs i (slice_index_or xs i d) ≡ xs
set_same [] i d = refl
set_same (x ∷ xs) zero d = refl
set_same (x ∷ xs) (suc i) d = ap (λ l. x ∷ l) (set_same xs i d)

-- each file of a lane that was never lent is none
no_file_at : (t n : ℕ) (xs : List ℕ) (b : ℕ) → (id : FileId) × (slice_index_or (map (λ (i : ℕ). no_file (id_of t n i)) xs) b (no_file (id_of 0 0 0)) ≡ no_file id)
no_file_at t n [] b = (id_of 0 0 0, refl)
no_file_at t n (x ∷ xs) zero = (id_of t n x, refl)
no_file_at t n (x ∷ xs) (suc b) = no_file_at t n xs b

no_file_in : (t n b : ℕ) → (id : FileId) × (file_of (no_files t n) b ≡ no_file id)
no_file_in t n b = no_file_at t n (0 ∷ 1 ∷ 2 ∷ 3 ∷ 4 ∷ 5 ∷ 6 ∷ 7 ∷ 8 ∷ 9 ∷ 10 ∷ 11 ∷ 12 ∷ 13 ∷ 14 ∷ 15 ∷ []) b

take_none : (k : ℕ) → take {A = ℕ} k [] ≡ []
take_none zero = refl
take_none (suc k) = refl

-- it begins with the bytes under no seals
pub fresh_own : (told : Bool) (t n : ℕ) (x : TableState) → IsAtHome told t n x.seals slot.Unborn → IsOwnClean told t n x.seals (fresh_lane t n)
fresh_own told t n x none = record {
  own = record {
    table = refl;
    number = refl;
    base = λ b h. ap (λ (f : BucketState). f.base) (no_file_in t n b).1 ∙ ap seal_len (sym (none b));
    bytes = λ e b h. ap base_bytes (no_file_in t n b).1 ∙ take_none 0 ∙ ap seal_bytes (sym (none b));
    no_seal = λ b h. ap (λ (f : BucketState). f.fresh) (no_file_in t n b).1;
  };
  clean = λ b h. (ap (λ (f : BucketState). f.torn) (no_file_in t n b).1, ap (λ (f : BucketState). f.good) (no_file_in t n b).1 ∙ ap (λ (f : BucketState). f.base) (sym (no_file_in t n b).1));
}

-- a Lend keeps what holds, and its answer is the step's
module _ (F Z : Type 0) (told : Bool) (nodes : ℕ) (c : CatState) (k m t : ℕ) where
  abbrev here : List (Slot LaneState) → EntryKind → CatState
  here ss kind = with_parts c.marks (slice_set c.tables t (record (table_in c.tables t) { slots = ss })) (c.log ++ entry_by k m kind ∷ []) c.changes c.grown

  abbrev pub Lends : List (Slot LaneState) → Next → Lent LaneState → Type 0
  Lends ss w a = Keeps told c (here ss (pools.entry_of t a)) (noted k m (pools.entry_of t a) Nothing)
      × LendsNext {F = F} {Z = Z} told nodes k m (history told c) (history told c ++ noted k m (pools.entry_of t a) Nothing ∷ []) t w (answer_of {F = F} {Z = Z} t a)

  lends : (ss : List (Slot LaneState)) (a : Lent LaneState) → IsCatalogue told c → t < length c.tables → HasNoLane c.log k t → (w : Next) → next_place (slots.places (table_in c.tables t).slots) ≡ w
      → pools.LendsNext k (table_in c.tables t).slots w a ss → Lends ss w a
  lends ss a ok made none (which.Clean n) e l =
      let home = at_home told t n (table_in c.tables t) (slot.Clean l.0) (ok.tables t made) l.1 in
      subst (λ b. Lends ss (which.Clean n) b) (sym l.2) (subst (λ r. Lends r (which.Clean n) (lent.Clean n l.0)) (sym l.3) (
        moved told c k m (entry.Lend t n) t n (slot.Out k) ok made (none, inl (ap next_place (sym (ok.places t)) ∙ e)) (λ x. cc) refl refl (λ u ps. refl) (λ h. tt),
        (refl, given_clean told c t n l.0 ok home),
      ))
  lends ss a ok made none (which.Dirty n) e l =
      let home = at_home told t n (table_in c.tables t) (slot.Dirty l.0) (ok.tables t made) l.1 in
      subst (λ b. Lends ss (which.Dirty n) b) (sym l.2) (subst (λ r. Lends r (which.Dirty n) (lent.Sweep n l.0)) (sym l.3) (
        moved told c k m (entry.Sweep t n) t n (slot.Sweeping k) ok made (inl (none, ap next_place (sym (ok.places t)) ∙ e)) (λ x. cc) refl refl (λ u ps. refl) (λ h. tt),
        (refl, given told c t n l.0 ok home),
      ))
  lends ss a ok made none (which.Unborn n) e l =
      let home = at_home told t n (table_in c.tables t) slot.Unborn (ok.tables t made) l.0 in
      subst (λ b. Lends ss (which.Unborn n) b) (sym l.1) (subst (λ r. Lends r (which.Unborn n) (lent.Fresh n)) (sym l.2) (
        moved told c k m (entry.Lend t n) t n (slot.Out k) ok made (none, inr (ap next_place (sym (ok.places t)) ∙ e)) (λ x. cc) refl refl (λ u ps. refl) (λ h. tt),
        (refl, given_clean told c t n (fresh_lane t n) ok (fresh_own told t n (table_in c.tables t) home), refl),
      ))
  lends ss a ok made none which.AllOut e l =
      let out : list_all is_out (pool c.log t) ≡ true = (next_place-AllOut (pool c.log t)).0 (ap next_place (sym (ok.places t)) ∙ e) in
      let one = still told c c.marks k m (entry.Full t) ok refl (λ x. cc) refl out (λ u ps. refl) in
      subst (λ b. Lends ss which.AllOut b) (sym l.0) (subst (λ r. Lends r which.AllOut (lent.AllOut 64)) (sym l.1) (
        subst (λ ts. Keeps told c (with_parts c.marks ts (c.log ++ entry_by k m (entry.Full t) ∷ []) c.changes c.grown) (noted k m (entry.Full t) Nothing)) (sym (set_same c.tables t unmade)) one,
        (refl, refl),
      ))

  pub lend : (ss : List (Slot LaneState)) (a : Lent LaneState) → IsCatalogue told c → t < length c.tables → HasNoLane c.log k t → pools.LendsTo k (table_in c.tables t).slots a ss
      → Keeps told c (here ss (pools.entry_of t a)) (noted k m (pools.entry_of t a) Nothing)
      × LendStep {F = F} {Z = Z} told nodes k m (history told c) (history told c ++ noted k m (pools.entry_of t a) Nothing ∷ []) t (answer_of {F = F} {Z = Z} t a)
  lend ss a ok made none l =
      let at : slots.places (table_in c.tables t).slots ≡ pool (entries_of (history told c)) t = ok.places t ∙ ap (λ es. pool es t) (sym (history-entries told c)) in
      let r = lends ss a ok made none (next_place (slots.places (table_in c.tables t).slots)) refl l in
      (r.0, subst (λ ps. LendsNext {F = F} {Z = Z} told nodes k m (history told c) (history told c ++ noted k m (pools.entry_of t a) Nothing ∷ []) t (next_place ps) (answer_of {F = F} {Z = Z} t a)) at r.1)
