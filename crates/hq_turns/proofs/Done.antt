-- What was asked at a statement's end is answered.
use Rattle.std.proofs.Common.{◌≡◌, ℕ, Bool, true, false, List, [], ◌∷◌, ◌++◌, Option, Some, None, refl, sym, ◌∙◌, ap, subst}
use Rattle.hq_value.specs.declared.kind.Kind.{Kind}
use Rattle.hq_value.specs.declared.value.Value.{Value}
use Rattle.hq_value.specs.declared.entry.EntryKind.{EntryKind}
use Rattle.hq_value.specs.declared.entry.EntryKind.TheVariants as entry
use Rattle.hq_history.specs.declared.noted.Noted.{Noted}
use Rattle.hq_history.specs.declared.noted.Deposit.{Deposit}
use Rattle.hq_history.specs.declared.noted.Deposit.TheVariants as deposit
use Rattle.hq_lane.specs.Lanes.{are_clean}
use Rattle.hq_catalog.specs.declared.ask.Ask.{Ask}
use Rattle.hq_catalog.specs.declared.ask.Ask.TheVariants as ask
use Rattle.hq_catalog.specs.declared.ask.Answer.{Answer}
use Rattle.hq_catalog.specs.declared.ask.Answer.TheVariants as answer
use Rattle.hq_catalog.specs.CatStep.{CatStep, noted}
use Rattle.hq_catalog.specs.Lanes.{growths_of}
use Rattle.hq_txn.specs.Transactions.{Transaction}
use Rattle.hq_txn.specs.declared.state.TxnState.TheVariants as txn
use Rattle.hq_reply.specs.declared.fault.Fault.TheVariants as fault
use Rattle.hq_reply.specs.declared.reply.Reply.{Reply}
use Rattle.hq_reply.specs.declared.reply.Reply.TheVariants as reply
use Rattle.hq_transcript.specs.Binding.{Binder}
use Rattle.hq_transcript.specs.Sights.{Sight, Found}
use Rattle.hq_transcript.specs.Step.{State}
use Rattle.hq_turns.specs.Counts.{Counts, Later}
use Rattle.hq_turns.specs.Now.{Now, Heard, shown, sight_over, found_with}
use Rattle.hq_turns.specs.Ends.{Does, DoesBy, Owes, IsDue, Tail, state_behind, state_by_piece, tailed}
use Rattle.hq_turns.specs.Asked.{AsksAtEnd, entry_of, is_mark}
use Rattle.hq_turns.specs.Held.{slots}
use Rattle.hq_turns.proofs.Counting.{caused-later, later-by, rose-by-later}
use Rattle.hq_turns.proofs.Hearing.{noted-one, noted-none}

some-one : {x y : EntryKind} → Some x ≡ Some y → x ≡ y
some-one h = cc

-- such an entry finds nothing
finds-nothing : {F Z : Type 0} (a : Ask F Z) (kind : EntryKind) (sight : Sight) (found : Found) → entry_of a ≡ Some kind → found_with sight found kind ≡ found
finds-nothing (ask.Commit lanes) kind sight found h = subst (λ e. found_with sight found e ≡ found) (some-one h) refl
finds-nothing (ask.Back lane) kind sight found h = subst (λ e. found_with sight found e ≡ found) (some-one h) refl
finds-nothing (ask.Mark n up) kind sight found h = subst (λ e. found_with sight found e ≡ found) (some-one h) refl
finds-nothing (ask.Look scope have) kind sight found h = cc
finds-nothing (ask.Create def) kind sight found h = cc
finds-nothing (ask.Alter name column) kind sight found h = cc
finds-nothing (ask.Lend t) kind sight found h = cc
finds-nothing (ask.Adopt lane) kind sight found h = cc
finds-nothing ask.SweepAny kind sight found h = cc

module _ (told : Bool) (nodes k m : ℕ) (before history : List Noted) where
  -- it is done: its entry is there
  abbrev IsNoted : EntryKind → Type 0
  IsNoted kind = (d : Deposit) × (history ≡ before ++ noted k m kind d ∷ [])

  is-done : {F Z : Type 0} (a : Ask F Z) (kind : EntryKind) → entry_of a ≡ Some kind → CatStep told nodes k m before a history answer.Done → IsNoted kind
  is-done (ask.Commit lanes) kind h s = subst (λ e. IsNoted e) (some-one h) (deposit.Published (growths_of told lanes.items), s)
  is-done (ask.Back lane) kind h s = subst (λ e. IsNoted e) (some-one h) (deposit.Nothing, s)
  is-done (ask.Mark n up) kind h s = subst (λ e. IsNoted e) (some-one h) (deposit.Nothing, s)
  is-done (ask.Look scope have) kind h s = cc
  is-done (ask.Create def) kind h s = cc
  is-done (ask.Alter name column) kind h s = cc
  is-done (ask.Lend t) kind h s = cc
  is-done (ask.Adopt lane) kind h s = cc
  is-done ask.SweepAny kind h s = cc

  -- there was no memory: it is a Mark, and nothing was noted
  is-short : {F Z : Type 0} (a : Ask F Z) (kind : EntryKind) → entry_of a ≡ Some kind → CatStep told nodes k m before a history answer.NoMemory
      → (is_mark kind ≡ true) × (history ≡ before)
  is-short (ask.Commit lanes) kind h s = absurd s
  is-short (ask.Back lane) kind h s = absurd s
  is-short (ask.Mark n up) kind h s = (ap is_mark (sym (some-one h)), s)
  is-short (ask.Look scope have) kind h s = cc
  is-short (ask.Create def) kind h s = cc
  is-short (ask.Alter name column) kind h s = cc
  is-short (ask.Lend t) kind h s = cc
  is-short (ask.Adopt lane) kind h s = cc
  is-short ask.SweepAny kind h s = cc

module _ (binds : Binder) (told : Bool) where
  -- another record that does the same
  abbrev record-of : Now → Found → List EntryKind → List Noted → Now
  record-of now found entries history = record now { found = found; entries = entries; history = history }

  owes-on : (now : Now) (give : Bool) (found : Found) (entries es : List EntryKind) (history : List Noted) (r : Option Reply) (t : Transaction) (c d : Counts)
      → Owes binds told now give es r t c → (give ≡ false → t.state ≡ txn.Open → ⊥) → Later c d → found ≡ now.found
      → Owes binds told (record-of now found entries history) give es r t d
  owes-on now give found entries es history r t c d o shut later same = record {
    does = λ more h. subst (λ f. Does binds told (record-of now f entries history) (es ++ more) r) (sym same) (o.does more h);
    state = o.state;
    lanes = o.lanes;
    own = λ g h. absurd (shut g h);
    cause = caused-later now.counts c d r o.cause later;
    tails = rose-by-later (tailed es) (now.counts.stores 0) (c.stores 0) (d.stores 0) o.tails (later.stores 0);
    later = later-by now.counts c d o.later later;
  }

  module _ (file_rows : List Kind → List ℕ → List (List Value)) (nodes k : ℕ) {F Z : Type 0} (now after : Now) (a : Ask F Z) (give : Bool) (r : Option Reply)
      (t : Transaction) (c d : Counts) (w : AsksAtEnd binds told now a give r t c) (later : Later c d) where
    pub owes-done : Heard file_rows told nodes k now a answer.Done after → Owes binds told after give after.entries r t d
    owes-done h =
        let n = is-done told nodes k now.number h.before h.history a w.kind w.asked h.step in
        let sight : Sight = sight_over file_rows told nodes k h.before now.number in
        subst (λ (x : Now). Owes binds told x give x.entries r t d) (sym (h.after_is ∙ noted-one file_rows told nodes k now h.before h.history (noted k now.number w.kind n.0) n.1))
        (owes-on now give (found_with sight now.found w.kind) (now.entries ++ w.kind ∷ []) (now.entries ++ w.kind ∷ []) (h.before ++ noted k now.number w.kind n.0 ∷ []) r t c d
        w.owes w.shut later (finds-nothing a w.kind sight now.found w.asked))

    pub owes-short : Heard file_rows told nodes k now a answer.NoMemory after → Owes binds told after give after.entries (Some (reply.Error fault.NoMemory)) t d
    owes-short h =
        let n = is-short told nodes k now.number h.before h.history a w.kind w.asked h.step in
        subst (λ (x : Now). Owes binds told x give x.entries (Some (reply.Error fault.NoMemory)) t d) (sym (h.after_is ∙ noted-none file_rows told nodes k now h.before h.history n.1))
        (owes-on now give now.found now.entries now.entries h.before (Some (reply.Error fault.NoMemory)) t c d (w.unmarked n.0) w.shut later refl)
