-- What an answer leaves of the lanes in hand.
use Rattle.std.proofs.Common.{◌≡◌, ◌⊎◌, inl, inr, ℕ, ◌&&◌, Bool, List, [], ◌∷◌, ◌++◌, Option, Some, None, refl, sym, ◌∙◌, ap, subst}
use Rattle.hq_value.specs.declared.entry.EntryKind.{EntryKind}
use Rattle.hq_value.specs.declared.entry.EntryKind.TheVariants as entry
use Rattle.hq_value.specs.declared.table.Column.{Column}
use Rattle.hq_value.specs.Tables.{Definition}
use Rattle.hq_lane.specs.Lanes.{LaneState, are_clean}
use Rattle.hq_history.specs.declared.noted.Noted.{Noted}
use Rattle.hq_history.specs.declared.noted.Deposit.{Deposit}
use Rattle.hq_history.specs.declared.noted.Deposit.TheVariants as deposit
use Rattle.hq_catalog.specs.declared.ask.Ask.{Ask}
use Rattle.hq_catalog.specs.declared.ask.Ask.TheVariants as ask
use Rattle.hq_catalog.specs.declared.ask.Answer.{Answer}
use Rattle.hq_catalog.specs.declared.ask.Answer.TheVariants as answer
use Rattle.hq_catalog.specs.CatStep.{CatStep, CreateStep, AlterStep, noted}
use Rattle.hq_catalog.specs.Lanes.{growths_of}
use Rattle.hq_catalog.proofs.Others.{goes_on}
use Rattle.hq_txn.specs.Transactions.{Transaction}
use Rattle.hq_reply.specs.declared.reply.Reply.{Reply}
use Rattle.hq_transcript.specs.Binds.{binds}
use Rattle.hq_transcript.specs.Step.{lanes_by, lanes_after}
use Rattle.std.proofs.lemmas.List.Sums.{fold_push}
use Rattle.hq_turns.specs.Counts.{Counts}
use Rattle.hq_turns.specs.Now.{Now, Heard}
use Rattle.hq_turns.specs.Held.{slots}
use Rattle.hq_turns.specs.Ends.{txn_state}
use Rattle.hq_turns.specs.Hand.{InHand, IsLawful}
use Rattle.hq_turns.specs.Asked.{AsksAtEnd, AsksCreate, AsksAlter}
use Rattle.hq_turns.proofs.Hands.{hand-on, hand-still, hand-back, hand-committed}
use Rattle.hq_turns.proofs.Hearing.{noted-one, noted-none}
use Rattle.hq_session.specs.declared.turn.Turn.{Turn}
use Rattle.hq_session.specs.Keeps.{IsInOrder, IsSound, turn_of}
use Rattle.hq_session.specs.Waits.{RowsOfBytes}
use Rattle.hq_session.proofs.Handed.{hand-empty}

some-one : {x y : EntryKind} → Some x ≡ Some y → x ≡ y
some-one h = cc

slots-none : (lanes : List LaneState) → slots lanes ≡ [] → lanes ≡ []
slots-none [] h = refl
slots-none (x ∷ xs) h = cc

-- the turn gives a reply, or none
pub at-rest : {F Z : Type 0} (files seals : Bool) (nodes k : ℕ) (history : List Noted) (r : Option Reply) (u : Turn F Z) (lanes : List LaneState) → u ≡ turn_of r
    → InHand files seals k history lanes → IsInOrder files seals nodes k history u lanes
at-rest {F} {Z} files seals nodes k history r u lanes e x = subst (λ (v : Turn F Z). IsInOrder files seals nodes k history v lanes) (sym e) (by r)
  where
    by : (r : Option Reply) → IsInOrder files seals nodes k history (turn_of {F = F} {Z = Z} r) lanes
    by (Some r) = x
    by None = x

-- nothing was noted, or an entry of this kind
abbrev Grew : ℕ → ℕ → List Noted → List Noted → EntryKind → Type 0
Grew k m before history kind = (history ≡ before) ⊎ ((d : Deposit) × (history ≡ before ++ noted k m kind d ∷ []))

module _ (files seals : Bool) (file_rows : RowsOfBytes) (nodes k : ℕ) {F Z : Type 0} (now after : Now) where
  -- others may have added before it came
  since : (a : Ask F Z) (r : Answer F Z) (h : Heard file_rows (files && seals) nodes k now a r after) (lanes : List LaneState)
      → InHand files seals k now.history lanes → InHand files seals k h.before lanes
  since a r h lanes x = hand-on files seals k now.history h.before lanes (goes_on (files && seals) nodes k now.history h.before h.others h.legal h.steps) x

  -- an entry was noted, and nothing was
  with-one : (a : Ask F Z) (r : Answer F Z) (h : Heard file_rows (files && seals) nodes k now a r after) (n : Noted) (lanes : List LaneState)
      → h.history ≡ h.before ++ n ∷ [] → InHand files seals k (h.before ++ n ∷ []) lanes → InHand files seals k after.history lanes
  with-one a r h n lanes e x =
      subst (λ (y : Now). InHand files seals k y.history lanes) (sym (h.after_is ∙ noted-one file_rows (files && seals) nodes k now h.before h.history n e)) x

  with-none : (a : Ask F Z) (r : Answer F Z) (h : Heard file_rows (files && seals) nodes k now a r after) (lanes : List LaneState)
      → h.history ≡ h.before → InHand files seals k h.before lanes → InHand files seals k after.history lanes
  with-none a r h lanes e x =
      subst (λ (y : Now). InHand files seals k y.history lanes) (sym (h.after_is ∙ noted-none file_rows (files && seals) nodes k now h.before h.history e)) x

  -- ---- at a statement's end

  committed-none : (t : Transaction) (c : Counts) (give : Bool) (r : Option Reply) (a : Ask F Z) (w : AsksAtEnd binds (files && seals) now a give r t c) → w.kind ≡ entry.Commit → t.lanes ≡ []
  committed-none t c give r a w e =
      slots-none t.lanes (w.owes.lanes ∙ ap (λ (x : EntryKind). lanes_after now.lanes (now.entries ++ x ∷ [])) e ∙ fold_push lanes_by now.lanes now.entries entry.Commit)

  hand-done-by : (a : Ask F Z) (t : Transaction) (c : Counts) (give : Bool) (r : Option Reply) → AsksAtEnd binds (files && seals) now a give r t c
      → IsLawful files seals nodes k now.history a t.lanes → Heard file_rows (files && seals) nodes k now a answer.Done after → InHand files seals k after.history t.lanes
  hand-done-by (ask.Commit given) t c give r w l h =
      let d : Deposit = deposit.Published (growths_of (files && seals) given.items) in
      with-one (ask.Commit given) answer.Done h (noted k now.number entry.Commit d) t.lanes h.step
      (subst (λ ls. InHand files seals k (h.before ++ noted k now.number entry.Commit d ∷ []) ls) (sym (committed-none t c give r (ask.Commit given) w (sym (some-one w.asked))))
      (hand-committed files seals k now.number h.before d (given.items ++ t.lanes) (since (ask.Commit given) answer.Done h (given.items ++ t.lanes) l.hand)))
  hand-done-by (ask.Back lane) t c give r w l h =
      with-one (ask.Back lane) answer.Done h (noted k now.number (entry.Back lane.table lane.number (are_clean lane.files)) deposit.Nothing) t.lanes h.step
      (hand-back files seals k now.number h.before lane t.lanes (are_clean lane.files) (since (ask.Back lane) answer.Done h (lane ∷ t.lanes) l.hand))
  hand-done-by (ask.Mark n up) t c give r w l h =
      with-one (ask.Mark n up) answer.Done h (noted k now.number (entry.Mark n up) deposit.Nothing) t.lanes h.step
      (hand-still files seals k h.before (noted k now.number (entry.Mark n up) deposit.Nothing) t.lanes refl (λ u. refl) refl (since (ask.Mark n up) answer.Done h t.lanes l.hand))
  hand-done-by (ask.Look scope have) t c give r w l h = absurd (never w.asked)
    where
      never : None ≡ Some w.kind → ⊥
      never e = cc
  hand-done-by (ask.Create def) t c give r w l h = absurd (never w.asked)
    where
      never : None ≡ Some w.kind → ⊥
      never e = cc
  hand-done-by (ask.Alter name column) t c give r w l h = absurd (never w.asked)
    where
      never : None ≡ Some w.kind → ⊥
      never e = cc
  hand-done-by (ask.Lend table) t c give r w l h = absurd (never w.asked)
    where
      never : None ≡ Some w.kind → ⊥
      never e = cc
  hand-done-by (ask.Adopt lane) t c give r w l h = absurd (never w.asked)
    where
      never : None ≡ Some w.kind → ⊥
      never e = cc
  hand-done-by ask.SweepAny t c give r w l h = absurd (never w.asked)
    where
      never : None ≡ Some w.kind → ⊥
      never e = cc

  pub hand-done : (a : Ask F Z) (t : Transaction) (c : Counts) (give : Bool) (r : Option Reply) → AsksAtEnd binds (files && seals) now a give r t c
      → IsLawful files seals nodes k now.history a t.lanes → Heard file_rows (files && seals) nodes k now a answer.Done after → InHand files seals k after.history t.lanes
  hand-done a t c give r w l h = hand-done-by a t c give r w l h

  pub hand-short : (a : Ask F Z) (t : Transaction) (c : Counts) (give : Bool) (r : Option Reply) → AsksAtEnd binds (files && seals) now a give r t c
      → IsLawful files seals nodes k now.history a t.lanes → Heard file_rows (files && seals) nodes k now a answer.NoMemory after → InHand files seals k after.history t.lanes
  hand-short (ask.Commit given) t c give r w l h = absurd h.step
  hand-short (ask.Back lane) t c give r w l h = absurd h.step
  hand-short (ask.Mark n up) t c give r w l h = with-none (ask.Mark n up) answer.NoMemory h t.lanes h.step (since (ask.Mark n up) answer.NoMemory h t.lanes l.hand)
  hand-short (ask.Look scope have) t c give r w l h = with-none (ask.Look scope have) answer.NoMemory h t.lanes h.step (since (ask.Look scope have) answer.NoMemory h t.lanes l.hand)
  hand-short (ask.Create def) t c give r w l h = with-none (ask.Create def) answer.NoMemory h t.lanes h.step (since (ask.Create def) answer.NoMemory h t.lanes l.hand)
  hand-short (ask.Alter name column) t c give r w l h =
      with-none (ask.Alter name column) answer.NoMemory h t.lanes h.step (since (ask.Alter name column) answer.NoMemory h t.lanes l.hand)
  hand-short (ask.Lend table) t c give r w l h = absurd (never w.asked)
    where
      never : None ≡ Some w.kind → ⊥
      never e = cc
  hand-short (ask.Adopt lane) t c give r w l h = absurd h.step
  hand-short ask.SweepAny t c give r w l h = with-none ask.SweepAny answer.NoMemory h t.lanes h.step (since ask.SweepAny answer.NoMemory h t.lanes l.hand)

  -- ---- tables that change, where no lane is in hand

  grew-create : (before history : List Noted) (def : Definition) (r : Answer F Z) → CreateStep (files && seals) nodes k now.number before history def r → Grew k now.number before history entry.Create
  grew-create before history def (answer.Made t) s = inr (deposit.Made def, s.0)
  grew-create before history def answer.Exists s = inr (deposit.Nothing, s.0)
  grew-create before history def (answer.TooManyTables made) s = inr (deposit.Nothing, s.0)
  grew-create before history def answer.NoMemory s = inl s
  grew-create before history def _ s = absurd s

  grew-alter : (before history : List Noted) (name : List ℕ) (column : Column) (r : Answer F Z) → AlterStep (files && seals) nodes k now.number before history name column r
      → Grew k now.number before history entry.Alter
  grew-alter before history name column (answer.Altered t) s = inr (deposit.Added t column, s.0)
  grew-alter before history name column answer.NoTable s = inr (deposit.Nothing, s.0)
  grew-alter before history name column (answer.TooManyColumns columns) s = inr (deposit.Nothing, s.0)
  grew-alter before history name column answer.ColumnThere s = inr (deposit.Nothing, s.0)
  grew-alter before history name column answer.NoMemory s = inl s
  grew-alter before history name column _ s = absurd s

  pub hand-created : (a : Ask F Z) (r : Answer F Z) (def : Definition) → a ≡ ask.Create def → InHand files seals k now.history []
      → Heard file_rows (files && seals) nodes k now a r after → InHand files seals k after.history []
  hand-created a r def e x h =
      by (grew-create h.before h.history def r (subst (λ (b : Ask F Z). CatStep (files && seals) nodes k now.number h.before b h.history r) e h.step))
    where
      by : Grew k now.number h.before h.history entry.Create → InHand files seals k after.history []
      by (inl same) = with-none a r h [] same (since a r h [] x)
      by (inr g) = with-one a r h (noted k now.number entry.Create g.0) [] g.1
          (hand-empty files seals k now.number h.before entry.Create g.0 (λ t places. refl) (since a r h [] x))

  pub hand-altered : (a : Ask F Z) (r : Answer F Z) (name : List ℕ) (column : Column) → a ≡ ask.Alter name column → InHand files seals k now.history []
      → Heard file_rows (files && seals) nodes k now a r after → InHand files seals k after.history []
  hand-altered a r name column e x h =
      by (grew-alter h.before h.history name column r (subst (λ (b : Ask F Z). CatStep (files && seals) nodes k now.number h.before b h.history r) e h.step))
    where
      by : Grew k now.number h.before h.history entry.Alter → InHand files seals k after.history []
      by (inl same) = with-none a r h [] same (since a r h [] x)
      by (inr g) = with-one a r h (noted k now.number entry.Alter g.0) [] g.1
          (hand-empty files seals k now.number h.before entry.Alter g.0 (λ t places. refl) (since a r h [] x))

  -- so it is of a session that has asked for a table or a column
  pub hand-of-create : (t : Transaction) (c : Counts) (a : Ask F Z) (r : Answer F Z) → IsSound t → AsksCreate binds (files && seals) now a t c
      → InHand files seals k now.history t.lanes → Heard file_rows (files && seals) nodes k now a r after → InHand files seals k after.history t.lanes
  hand-of-create t c a r s w x h =
      let none : t.lanes ≡ [] = s.idle (w.before.state ∙ ap txn_state w.state) in
      subst (λ (ls : List LaneState). InHand files seals k after.history ls) (sym none)
      (hand-created a r w.table w.asked (subst (λ (ls : List LaneState). InHand files seals k now.history ls) none x) h)

  pub hand-of-alter : (t : Transaction) (c : Counts) (a : Ask F Z) (r : Answer F Z) → IsSound t → AsksAlter (files && seals) now a t c
      → InHand files seals k now.history t.lanes → Heard file_rows (files && seals) nodes k now a r after → InHand files seals k after.history t.lanes
  hand-of-alter t c a r s w x h =
      let none : t.lanes ≡ [] = s.idle (w.before.state ∙ ap txn_state w.state) in
      subst (λ (ls : List LaneState). InHand files seals k after.history ls) (sym none)
      (hand-altered a r w.name w.column w.asked (subst (λ (ls : List LaneState). InHand files seals k now.history ls) none x) h)
