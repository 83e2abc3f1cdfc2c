-- The first lane with a tail, and entries that change nothing else.
use Rattle.std.proofs.Common.{◌≡◌, ℕ, ◌<◌, Bool, false, List, [], ◌∷◌, ◌++◌, length, slice_set, position, refl, sym, ◌∙◌, ap, subst, inl, inr}
use Rattle.std.specs.List.{list_any}
use Rattle.std.proofs.lemmas.List.{get_or_past}
use Rattle.hq_value.specs.declared.entry.EntryKind.{EntryKind}
use Rattle.hq_value.specs.declared.entry.EntryKind.TheVariants as entry
use Rattle.hq_log.specs.Places.{is_dirty}
use Rattle.hq_log.specs.Legal.{HasNoDirty, IsFirstDirty}
use Rattle.hq_lane.specs.Lanes.{LaneState}
use Rattle.hq_history.specs.declared.noted.Deposit.TheVariants.{Nothing}
use Rattle.hq_history.specs.History.{entries_of}
use Rattle.hq_pool.specs.declared.slot.Slot.TheVariants as slot
use Rattle.hq_pool.specs.Slots as slots
use Rattle.hq_snap.proofs.Elements.{below_or}
use Rattle.hq_catalog.specs.declared.ask.Answer.TheVariants as answer
use Rattle.hq_catalog.specs.State.{TableState, CatState, table_in, unmade, no_slots, places_in}
use Rattle.hq_catalog.specs.History.{history}
use Rattle.hq_catalog.specs.CatStep.{noted, SweepAnyStep}
use Rattle.hq_catalog.specs.Kept.{IsCatalogue, IsOwn, IsStill, SweepsFirst}
use Rattle.hq_catalog.proofs.History.{history-entries}
use Rattle.hq_catalog.proofs.Quiet.{Keeps}
use Rattle.hq_catalog.proofs.Moves.{with_parts, entry_by, with_slot, still, moved, given}
use Rattle.hq_catalog.proofs.Lends.{at_home}

-- the log with an entry that changes nothing else
abbrev pub with_entry : CatState → ℕ → ℕ → EntryKind → CatState
with_entry c k m kind = with_parts c.marks c.tables (c.log ++ entry_by k m kind ∷ []) c.changes c.grown

pub noted_still : (told : Bool) (c : CatState) (k m : ℕ) (kind : EntryKind) → IsCatalogue told c → IsStill c.log kind → Keeps told c (with_entry c k m kind) (noted k m kind Nothing)
noted_still told c k m entry.Look ok h = still told c c.marks k m entry.Look ok refl (λ e. cc) refl tt (λ t ps. refl)
noted_still told c k m entry.Create ok h = still told c c.marks k m entry.Create ok refl (λ e. cc) refl tt (λ t ps. refl)
noted_still told c k m entry.Alter ok h = still told c c.marks k m entry.Alter ok refl (λ e. cc) refl tt (λ t ps. refl)
noted_still told c k m entry.Idle ok h = still told c c.marks k m entry.Idle ok refl (λ e. cc) refl h (λ t ps. refl)
noted_still told c k m (entry.Lend t n) ok h = absurd h
noted_still told c k m (entry.Full t) ok h = absurd h
noted_still told c k m (entry.Sweep t n) ok h = absurd h
noted_still told c k m (entry.Adopt t n) ok h = absurd h
noted_still told c k m entry.Commit ok h = absurd h
noted_still told c k m (entry.Back t n clean) ok h = absurd h
noted_still told c k m (entry.Mark node up) ok h = absurd h
noted_still told c k m entry.Restart ok h = absurd h

none_unmade : list_any is_dirty (slots.places no_slots) ≡ false
unfolding no_slots
none_unmade = refl

-- no table has a lane with a tail
pub none_dirty : (told : Bool) (c : CatState) → IsCatalogue told c → ((u : ℕ) → u < length c.tables → list_any is_dirty (places_in c.tables u) ≡ false) → (t : ℕ) → HasNoDirty c.log t
none_dirty told c ok none t = ap (list_any is_dirty) (sym (ok.places t)) ∙ elim (below_or t (length c.tables)) [
  | inl h ↦ none t h
  | inr h ↦ ap (λ (x : TableState). list_any is_dirty (slots.places x.slots)) (get_or_past c.tables t unmade h) ∙ none_unmade
]

pub none_dirty_told : (told : Bool) (c : CatState) → IsCatalogue told c → ((u : ℕ) → u < length c.tables → list_any is_dirty (places_in c.tables u) ≡ false) → (t : ℕ) → HasNoDirty (entries_of (history told c)) t
none_dirty_told told c ok none t = subst (λ es. HasNoDirty es t) (sym (history-entries told c)) (none_dirty told c ok none t)

-- the first one goes out to be swept
module _ (F Z : Type 0) (told : Bool) (nodes : ℕ) (c : CatState) (k m : ℕ) where
  abbrev pub SweepsTo : ℕ → ℕ → LaneState → List TableState → Type 0
  SweepsTo t n l ts = Keeps told c (with_parts c.marks ts (c.log ++ entry_by k m (entry.Sweep t n) ∷ []) c.changes c.grown) (noted k m (entry.Sweep t n) Nothing)
      × SweepAnyStep {F = F} {Z = Z} told nodes k m (history told c) (history told c ++ noted k m (entry.Sweep t n) Nothing ∷ []) (answer.Sweep l)

  pub swept : (l : LaneState) (ts : List TableState) → IsCatalogue told c → SweepsFirst k c.tables l ts → SweepsTo l.table l.number l ts
  swept l ts ok s =
      let own : IsOwn told s.t s.n (table_in c.tables s.t).seals l = at_home told s.t s.n (table_in c.tables s.t) (slot.Dirty l) (ok.tables s.t s.made) s.home in
      let first : IsFirstDirty c.log s.t s.n = (λ u lt. ap (list_any is_dirty) (sym (ok.places u)) ∙ s.before u lt, ap (position is_dirty) (sym (ok.places s.t)) ∙ s.first) in
      let told_first : IsFirstDirty (entries_of (history told c)) s.t s.n = subst (λ es. IsFirstDirty es s.t s.n) (sym (history-entries told c)) first in
      let one = moved told c k m (entry.Sweep s.t s.n) s.t s.n (slot.Sweeping k) ok s.made (inr first) (λ e. cc) refl refl (λ u ps. refl) (λ h. tt) in
      subst (λ r. SweepsTo l.table l.number l r) (sym s.after) (
        subst (λ t. Keeps told c (with_parts c.marks (here s.t s.n) (c.log ++ entry_by k m (entry.Sweep t l.number) ∷ []) c.changes c.grown) (noted k m (entry.Sweep t l.number) Nothing)) (sym own.table)
            (subst (λ n. Keeps told c (with_parts c.marks (here s.t s.n) (c.log ++ entry_by k m (entry.Sweep s.t n) ∷ []) c.changes c.grown) (noted k m (entry.Sweep s.t n) Nothing)) (sym own.number) one),
        (
          refl,
          subst (λ t. IsFirstDirty (entries_of (history told c)) t l.number) (sym own.table) (subst (λ n. IsFirstDirty (entries_of (history told c)) s.t n) (sym own.number) told_first),
          given told c l.table l.number l ok (subst (λ t. IsOwn told t l.number (table_in c.tables t).seals l) (sym own.table) (subst (λ n. IsOwn told s.t n (table_in c.tables s.t).seals l) (sym own.number) own)),
        ),
      )
    where
      here : ℕ → ℕ → List TableState
      here t n = slice_set c.tables t (with_slot (table_in c.tables t) n (slot.Sweeping k))
