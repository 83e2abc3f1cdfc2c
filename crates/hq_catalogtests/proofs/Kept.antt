-- What sessions keep at answers to others, and at their own ones that move no lane; and that a table that is answered to be
-- made is there.
use Rattle.std.proofs.Common.{◌≡◌, ◌≢◌, ◌⊎◌, ℕ, suc, ◌<◌, Bool, true, false, cond, List, [], ◌∷◌, ◌++◌, length, Some, slice_get, refl, sym, ◌∙◌, ap, subst, arith, inl, inr, length-append}
use Rattle.std.proofs.lemmas.List.{append-nil}
use Rattle.hq_value.specs.declared.entry.EntryKind.{EntryKind}
use Rattle.hq_value.specs.declared.entry.EntryKind.TheVariants as entry
use Rattle.hq_value.specs.declared.table.Column.{Column}
use Rattle.hq_value.specs.Tables.{Definition}
use Rattle.hq_log.specs.declared.place.Place.{Place}
use Rattle.hq_log.specs.declared.place.Place.TheVariants.{Out, Sweeping}
use Rattle.hq_log.specs.declared.place.Next.{Next}
use Rattle.hq_log.specs.declared.place.Next.TheVariants as which
use Rattle.hq_log.specs.Places.{is_held_by, next_place}
use Rattle.hq_log.specs.Pools.{pool, places_after}
use Rattle.hq_log.specs.Legal.{IsAt, IsLegal}
use Rattle.hq_lane.specs.Lanes.{LaneState, id_of}
use Rattle.hq_history.specs.declared.noted.Noted.{Noted}
use Rattle.hq_history.specs.declared.noted.Deposit.{Deposit}
use Rattle.hq_history.specs.declared.noted.Deposit.TheVariants.{Nothing, Made, Added}
use Rattle.hq_history.specs.History.{entries_of, by, GrewByOthers}
use Rattle.hq_history.specs.Deposits.{growths_in, tables_left, length_left, length_after}
use Rattle.hq_history.proofs.Files.{length_left-push}
use Rattle.hq_snap.specs.declared.scope.Scope.{Scope}
use Rattle.hq_snap.specs.declared.scope.Have.{Have}
use Rattle.hq_catalog.specs.declared.ask.Ask.{Ask}
use Rattle.hq_catalog.specs.declared.ask.Ask.TheVariants as ask
use Rattle.hq_catalog.specs.declared.ask.Answer.{Answer}
use Rattle.hq_catalog.specs.declared.ask.Answer.TheVariants as answer
use Rattle.hq_catalog.specs.State.{CatState}
use Rattle.hq_catalog.specs.History.{history}
use Rattle.hq_catalog.specs.Causes.{IsOneMore}
use Rattle.hq_catalog.specs.CatStep.{CatStep, LookStep, CreateStep, AlterStep, LendsNext, MarkStep, Notes, noted, places_of}
use Rattle.hq_catalog.specs.Stands.{Stands}
use Rattle.hq_catalog.proofs.Seen.{SeesSame, is_other, out_same, swept_same}
use Rattle.hq_catalog.proofs.Others.{GoesOn, goes_on, entries-append, pool-push, tables-push}
use Rattle.hq_catalogtests.specs.declared.hand.Hand.{Hand}
use Rattle.hq_catalogtests.specs.declared.hand.Held.{Held}
use Rattle.hq_catalogtests.specs.declared.hand.Held.TheVariants as held
use Rattle.hq_catalogtests.specs.Turns.{Keeps, HasSealed, HasJust, HasBeside, Has, HasMade, HasTurned, IsStill, OthersKeep}
use Rattle.hq_catalogtests.proofs.Hands.{agrees_still, sealed_still, no_other_still}
use Rattle.hq_catalogtests.proofs.Places.{held_is, holds_out, holds_swept}

there_by : (k : ℕ) (ps qs : List Place) (n : ℕ) (p : Place) → SeesSame k ps qs → (p ≡ Out k) ⊎ (p ≡ Sweeping k) → slice_get ps n ≡ Some p → slice_get qs n ≡ Some p
there_by k ps qs n p e (inl s) at = subst (λ q. slice_get qs n ≡ Some q) (sym s) (out_same k ps qs n e (subst (λ q. slice_get ps n ≡ Some q) s at))
there_by k ps qs n p e (inr s) at = subst (λ q. slice_get qs n ≡ Some q) (sym s) (swept_same k ps qs n e (subst (λ q. slice_get ps n ≡ Some q) s at))

has_by : (k : ℕ) (old : List Noted) (t n : ℕ) (p : Place) → (p ≡ Out k) ⊎ (p ≡ Sweeping k) → IsAt (entries_of old) t n p → IsAt (entries_of old) t n (Out k) ⊎ IsAt (entries_of old) t n (Sweeping k)
has_by k old t n p (inl s) at = inl (subst (IsAt (entries_of old) t n) s at)
has_by k old t n p (inr s) at = inr (subst (IsAt (entries_of old) t n) s at)

keeps : (k : ℕ) (old new : List Noted) → GoesOn k old new → Keeps k old new
keeps k old new g = record {
  there = λ t n p h at. there_by k (pool (entries_of old) t) (pool (entries_of new) t) n p (g.mine t) (held_is k p h) at;
  only = λ t n p h at. there_by k (pool (entries_of new) t) (pool (entries_of old) t) n p (sym (g.mine t)) (held_is k p h) at;
  lengths = λ t n p h at b. g.lengths t n (has_by k old t n p (held_is k p h) at) b;
}

one_or_none : {F Z : Type 0} (k m : ℕ) (old new : List Noted) (r : Answer F Z) → IsOneMore {F = F} {Z = Z} k m old new r → (new ≡ old) ⊎ ((kind : EntryKind) × (deposit : Deposit) × Notes k m kind deposit old new)
one_or_none k m old new answer.NoMemory h = inl h
one_or_none k m old new (answer.Seen at marks tables) h = inr h
one_or_none k m old new (answer.Made t) h = inr h
one_or_none k m old new answer.Exists h = inr h
one_or_none k m old new (answer.TooManyTables made) h = inr h
one_or_none k m old new (answer.Altered t) h = inr h
one_or_none k m old new answer.NoTable h = inr h
one_or_none k m old new (answer.TooManyColumns columns) h = inr h
one_or_none k m old new answer.ColumnThere h = inr h
one_or_none k m old new (answer.Clean l) h = inr h
one_or_none k m old new (answer.Sweep l) h = inr h
one_or_none k m old new (answer.Fresh l) h = inr h
one_or_none k m old new (answer.AllOut out) h = inr h
one_or_none k m old new (answer.Adopted l) h = inr h
one_or_none k m old new answer.Done h = inr h
one_or_none k m old new answer.Nothing h = inr h

by_none : (j k m : ℕ) (kind : EntryKind) (deposit : Deposit) → j ≢ k → by j (noted k m kind deposit ∷ []) ≡ []
by_none j k m kind deposit d = ap (λ b. cond b (noted k m kind deposit ∷ []) []) (is_other k j (λ e. d (sym e)))

grew_by : (j k m : ℕ) (old new : List Noted) → j ≢ k → (new ≡ old) ⊎ ((kind : EntryKind) × (deposit : Deposit) × Notes k m kind deposit old new) → GrewByOthers j old new
grew_by j k m old new d (inl e) = ([], e ∙ sym (append-nil old), refl)
grew_by j k m old new d (inr h) = (noted k m h.0 h.1 ∷ [], h.2, by_none j k m h.0 h.1 d)

-- what holds of a catalogue behind an answer to session k
pub others_keep : {F Z : Type 0} (k m : ℕ) (old : List Noted) (c : CatState) (r : Answer F Z) → Stands false c → IsOneMore {F = F} {Z = Z} k m old (history false c) r → OthersKeep k old (history false c)
others_keep {F} {Z} k m old c r s one =
    let new = history false c in
    let more = one_or_none {F = F} {Z = Z} k m old new r one in
    let goes : (j : ℕ) → j ≢ k → GoesOn j old new = λ j d. goes_on false (length c.marks) j old new (grew_by j k m old new d more) (subst (IsLegal (length c.marks)) (sym s.log) s.legal) s.own in
    let next : suc k ≢ k = λ e. omega (arith, e) in
    record { others = λ j d. keeps j old new (goes j d); tables = (goes (suc k) next).tables }

pub same : (k : ℕ) (old : List Noted) → Keeps k old old
same k old = record { there = λ t n p h at. at; only = λ t n p h at. at; lengths = λ t n p h at b. refl }

pub others_same : (k : ℕ) (old : List Noted) → OthersKeep k old old
others_same k old = record { others = λ j d. same j old; tables = omega arith }

pub pool_new : (old : List Noted) (x : Noted) (t : ℕ) → pool (entries_of (old ++ x ∷ [])) t ≡ places_after t (pool (entries_of old) t) x.entry.session x.entry.kind
pool_new old x t = ap (λ log. pool log t) (entries-append old (x ∷ [])) ∙ pool-push (entries_of old) x.entry t

pub length_same : (old : List Noted) (x : Noted) → growths_in x.deposit ≡ [] → (t n b : ℕ) → length_left (old ++ x ∷ []) (id_of t n b) ≡ length_left old (id_of t n b)
length_same old x none t n b = length_left-push old x (id_of t n b) ∙ ap (length_after (id_of t n b) (length_left old (id_of t n b))) none

-- an entry that moves no lane and adds to no file
pub quiet : (k m : ℕ) (kind : EntryKind) (deposit : Deposit) (old new : List Noted) → ((t : ℕ) → places_after t (pool (entries_of old) t) k kind ≡ pool (entries_of old) t) → growths_in deposit ≡ [] → Notes k m kind deposit old new → Keeps k old new
quiet k m kind deposit old new stays none notes =
    let x = noted k m kind deposit in
    let places : (t : ℕ) → pool (entries_of (old ++ x ∷ [])) t ≡ pool (entries_of old) t = λ t. pool_new old x t ∙ stays t in
    let pushed : Keeps k old (old ++ x ∷ []) = record {
      there = λ t n p h at. subst (λ ps. slice_get ps n ≡ Some p) (sym (places t)) at;
      only = λ t n p h at. subst (λ ps. slice_get ps n ≡ Some p) (places t) at;
      lengths = λ t n p h at b. length_same old x none t n b;
    } in
    subst (Keeps k old) (sym notes) pushed

none_noted : (k : ℕ) (old new : List Noted) → new ≡ old → Keeps k old new
none_noted k old new e = subst (Keeps k old) (sym e) (same k old)

-- a table that was made has the next number
create_makes : (k m : ℕ) (old new : List Noted) (def : Definition) (t : ℕ) → Notes k m entry.Create (Made def) old new → t ≡ length (tables_left old) → t < length (tables_left new)
create_makes k m old new def t notes is =
    let now : tables_left new ≡ tables_left old ++ def ∷ [] = ap tables_left notes ∙ tables-push old (noted k m entry.Create (Made def)) in
    omega (arith, is, ap (λ (ts : List Definition). length ts) now, length-append (tables_left old) (def ∷ []))

module _ {F Z : Type 0} (nodes k m : ℕ) (old new : List Noted) where
  look_keeps : (scope : Scope) (have : List Have) (r : Answer F Z) → LookStep {F = F} {Z = Z} false nodes k m old new scope have r → Keeps k old new
  look_keeps scope have (answer.Seen at marks tables) s = quiet k m entry.Look Nothing old new (λ t. refl) refl s.0
  look_keeps scope have answer.NoMemory s = none_noted k old new s
  look_keeps scope have _ s = absurd s

  create_keeps : (def : Definition) (r : Answer F Z) → CreateStep {F = F} {Z = Z} false nodes k m old new def r → Keeps k old new
  create_keeps def (answer.Made t) s = quiet k m entry.Create (Made def) old new (λ t. refl) refl s.0
  create_keeps def answer.Exists s = quiet k m entry.Create Nothing old new (λ t. refl) refl s.0
  create_keeps def (answer.TooManyTables made) s = quiet k m entry.Create Nothing old new (λ t. refl) refl s.0
  create_keeps def answer.NoMemory s = none_noted k old new s
  create_keeps def _ s = absurd s

  alter_keeps : (name : List ℕ) (column : Column) (r : Answer F Z) → AlterStep {F = F} {Z = Z} false nodes k m old new name column r → Keeps k old new
  alter_keeps name column (answer.Altered t) s = quiet k m entry.Alter (Added t column) old new (λ t. refl) refl s.0
  alter_keeps name column answer.NoTable s = quiet k m entry.Alter Nothing old new (λ t. refl) refl s.0
  alter_keeps name column (answer.TooManyColumns columns) s = quiet k m entry.Alter Nothing old new (λ t. refl) refl s.0
  alter_keeps name column answer.ColumnThere s = quiet k m entry.Alter Nothing old new (λ t. refl) refl s.0
  alter_keeps name column answer.NoMemory s = none_noted k old new s
  alter_keeps name column _ s = absurd s

  mark_keeps : (node : ℕ) (up : Bool) (r : Answer F Z) → MarkStep {F = F} {Z = Z} false nodes k m old new node up r → Keeps k old new
  mark_keeps node up answer.Done s = quiet k m (entry.Mark node up) Nothing old new (λ t. refl) refl s
  mark_keeps node up answer.NoMemory s = none_noted k old new s
  mark_keeps node up _ s = absurd s

  -- what takes no lane and gives none leaves what the session has
  pub still_keeps : (a : Ask F Z) (r : Answer F Z) → IsStill {F = F} {Z = Z} a → CatStep {F = F} {Z = Z} false nodes k m old a new r → Keeps k old new
  still_keeps (ask.Look scope have) r i s = look_keeps scope have.items r s
  still_keeps (ask.Create def) r i s = create_keeps def r s
  still_keeps (ask.Alter name column) r i s = alter_keeps name column r s
  still_keeps (ask.Mark node up) r i s = mark_keeps node up r s
  still_keeps (ask.Lend t) r i s = absurd i
  still_keeps (ask.Adopt l) r i s = absurd i
  still_keeps (ask.Commit lanes) r i s = absurd i
  still_keeps (ask.Back l) r i s = absurd i
  still_keeps ask.SweepAny r i s = absurd i

  made_there : (a : Ask F Z) (t : ℕ) → CatStep {F = F} {Z = Z} false nodes k m old a new (answer.Made t) → t < length (tables_left new)
  made_there (ask.Create def) t s = create_makes k m old new def t s.0 s.1
  made_there (ask.Look scope have) t s = absurd s
  made_there (ask.Alter table column) t s = absurd s
  made_there (ask.Mark node up) t s = absurd s
  made_there (ask.Lend u) t s = absurd (none_made (next_place (places_of old u)) s)
    where
      none_made : (w : Next) → LendsNext {F = F} {Z = Z} false nodes k m old new u w (answer.Made t) → ⊥
      none_made (which.Clean n) s = s
      none_made (which.Dirty n) s = s
      none_made (which.Unborn n) s = s
      none_made which.AllOut s = s
  made_there (ask.Adopt l) t s = absurd s
  made_there (ask.Commit lanes) t s = absurd s
  made_there (ask.Back l) t s = absurd s
  made_there ask.SweepAny t s = absurd s

  -- a table that was made is there
  pub has_made : (a : Ask F Z) (r : Answer F Z) → CatStep {F = F} {Z = Z} false nodes k m old a new r → HasMade {F = F} {Z = Z} new r
  has_made a (answer.Made t) s = made_there a t s
  has_made a _ s = tt

just_still : (k : ℕ) (old new : List Noted) (lanes : List LaneState) (place : Place) (l : LaneState) → is_held_by k place ≡ true → Keeps k old new → HasJust k old lanes place l → HasJust k new lanes place l
just_still k old new lanes place l holds ks has = record {
  at = ks.there l.table l.number place holds has.at;
  beside = has.beside;
  only = λ t n p h at. has.only t n p h (ks.only t n p h at);
  agrees = agrees_still k old new place l holds ks has.at has.agrees;
}

-- the session has what it had
beside_still : (k : ℕ) (old new : List Noted) (lanes : List LaneState) (h : Held) → Keeps k old new → HasBeside k old lanes h → HasBeside k new lanes h
beside_still k old new lanes held.Nothing ks has = no_other_still k old new lanes ks has
beside_still k old new lanes (held.Writes l) ks has = (just_still k old new lanes (Out k) l (holds_out k) ks has.0, has.1, has.2)
beside_still k old new lanes (held.Torn l) ks has = (just_still k old new lanes (Out k) l (holds_out k) ks has.0, has.1)
beside_still k old new lanes (held.Sweeps l) ks has = (just_still k old new lanes (Sweeping k) l (holds_swept k) ks has.0, has.1)

pub has_still : (k : ℕ) (old new : List Noted) (hand : Hand) → Keeps k old new → Has k old hand → Has k new hand
has_still k old new hand ks has = record {
  sealed = sealed_still k old new hand.sealed.items ks has.sealed;
  held = beside_still k old new hand.sealed.items hand.held ks has.held;
}

-- what may not be asked changes nothing
pub turned_same : (k : ℕ) (history : List Noted) (hand : Hand) → Has k history hand → HasTurned k history history hand
turned_same k history hand has = record { keep = others_same k history; has = has }

-- the session has what an answer to it left, and the others have what they had
pub turned_to : (k : ℕ) (old new : List Noted) (hand : Hand) (lanes : List LaneState) (given : Held) → OthersKeep k old new → hand.sealed.items ≡ lanes → hand.held ≡ given → HasSealed k new lanes × HasBeside k new lanes given → HasTurned k old new hand
turned_to k old new hand lanes given keep these is has = record {
  keep = keep;
  has = record {
    sealed = subst (λ (ls : List LaneState). HasSealed k new ls) (sym these) has.0;
    held = subst (λ (ls : List LaneState). HasBeside k new ls hand.held) (sym these) (subst (λ (h : Held). HasBeside k new lanes h) (sym is) has.1);
  };
}
