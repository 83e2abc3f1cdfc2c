-- What each answer leaves of the history, and its cause.
use Rattle.std.proofs.Common.{◌≡◌, ◌⊎◌, ℕ, Bool, true, false, List, length, refl, sym, ◌∙◌, ap, subst, arith, inl, inr}
use Rattle.std.specs.List.{list_any}
use Rattle.std.specs.Option.{is_some}
use Rattle.hq_value.specs.declared.entry.EntryKind.TheVariants as entry
use Rattle.hq_value.specs.declared.table.Column.{Column}
use Rattle.hq_value.specs.Tables.{Definition}
use Rattle.hq_log.specs.declared.place.Next.{Next}
use Rattle.hq_log.specs.declared.place.Next.TheVariants as which
use Rattle.hq_log.specs.Places.{is_dirty, next_place}
use Rattle.hq_log.specs.Pools.{pool}
use Rattle.hq_log.specs.Legal.{HasNoDirty}
use Rattle.hq_log.proofs.Nexts.{next_place-AllOut, is_some-position}
use Rattle.hq_lane.specs.Lanes.{LaneState, are_clean}
use Rattle.hq_history.specs.declared.noted.Noted.{Noted}
use Rattle.hq_history.specs.declared.noted.Deposit.TheVariants.{Nothing, Made, Added, Published}
use Rattle.hq_history.specs.History.{entries_of}
use Rattle.hq_history.specs.Deposits.{tables_left, is_new}
use Rattle.hq_snap.specs.declared.scope.Scope.{Scope}
use Rattle.hq_snap.specs.declared.scope.Have.{Have}
use Rattle.hq_catalog.specs.declared.ask.Ask.{Ask}
use Rattle.hq_catalog.specs.declared.ask.Ask.TheVariants as ask
use Rattle.hq_catalog.specs.declared.ask.Answer.{Answer}
use Rattle.hq_catalog.specs.declared.ask.Answer.TheVariants as answer
use Rattle.hq_catalog.specs.Lanes.{growths_of}
use Rattle.hq_catalog.specs.CatStep.{CatStep, LookStep, CreateStep, AlterStep, LendsNext, AdoptStep, CommitStep, BackStep, SweepAnyStep, MarkStep, places_of}
use Rattle.hq_catalog.specs.Causes.{IsOneMore, ComesExactly, MayLackMemory, AreAllOut, HaveNoTail, IsThere, AreEnough}

module _ {F Z : Type 0} (told : Bool) (nodes k m : ℕ) (old new : List Noted) where
  abbrev One : Answer F Z → Type 0
  One r = IsOneMore {F = F} {Z = Z} k m old new r

  look_one : (scope : Scope) (have : List Have) (r : Answer F Z) → LookStep {F = F} {Z = Z} told nodes k m old new scope have r → One r
  look_one scope have (answer.Seen at marks tables) s = (entry.Look, Nothing, s.0)
  look_one scope have answer.NoMemory s = s
  look_one scope have _ s = absurd s

  create_one : (def : Definition) (r : Answer F Z) → CreateStep {F = F} {Z = Z} told nodes k m old new def r → One r
  create_one def (answer.Made t) s = (entry.Create, Made def, s.0)
  create_one def answer.Exists s = (entry.Create, Nothing, s.0)
  create_one def (answer.TooManyTables made) s = (entry.Create, Nothing, s.0)
  create_one def answer.NoMemory s = s
  create_one def _ s = absurd s

  alter_one : (name : List ℕ) (column : Column) (r : Answer F Z) → AlterStep {F = F} {Z = Z} told nodes k m old new name column r → One r
  alter_one name column (answer.Altered t) s = (entry.Alter, Added t column, s.0)
  alter_one name column answer.NoTable s = (entry.Alter, Nothing, s.0)
  alter_one name column (answer.TooManyColumns columns) s = (entry.Alter, Nothing, s.0)
  alter_one name column answer.ColumnThere s = (entry.Alter, Nothing, s.0)
  alter_one name column answer.NoMemory s = s
  alter_one name column _ s = absurd s

  next_one : (t : ℕ) (w : Next) (r : Answer F Z) → LendsNext {F = F} {Z = Z} told nodes k m old new t w r → One r
  next_one t (which.Clean n) (answer.Clean l) s = (entry.Lend t n, Nothing, s.0)
  next_one t (which.Dirty n) (answer.Sweep l) s = (entry.Sweep t n, Nothing, s.0)
  next_one t (which.Unborn n) (answer.Fresh l) s = (entry.Lend t n, Nothing, s.0)
  next_one t which.AllOut (answer.AllOut out) s = (entry.Full t, Nothing, s.0)
  next_one t (which.Clean n) answer.NoMemory s = s
  next_one t (which.Dirty n) answer.NoMemory s = s
  next_one t (which.Unborn n) answer.NoMemory s = s
  next_one t which.AllOut answer.NoMemory s = s
  next_one t _ _ s = absurd s

  adopt_one : (l : LaneState) (r : Answer F Z) → AdoptStep {F = F} {Z = Z} told nodes k m old new l r → One r
  adopt_one l (answer.Adopted same) s = (entry.Adopt l.table l.number, Nothing, s.0)
  adopt_one l _ s = absurd s

  commit_one : (lanes : List LaneState) (r : Answer F Z) → CommitStep {F = F} {Z = Z} told nodes k m old new lanes r → One r
  commit_one lanes answer.Done s = (entry.Commit, Published (growths_of told lanes), s)
  commit_one lanes _ s = absurd s

  back_one : (l : LaneState) (r : Answer F Z) → BackStep {F = F} {Z = Z} told nodes k m old new l r → One r
  back_one l answer.Done s = (entry.Back l.table l.number (are_clean l.files), Nothing, s)
  back_one l _ s = absurd s

  sweep_one : (r : Answer F Z) → SweepAnyStep {F = F} {Z = Z} told nodes k m old new r → One r
  sweep_one (answer.Sweep l) s = (entry.Sweep l.table l.number, Nothing, s.0)
  sweep_one answer.Nothing s = (entry.Idle, Nothing, s.0)
  sweep_one answer.NoMemory s = s
  sweep_one _ s = absurd s

  mark_one : (node : ℕ) (up : Bool) (r : Answer F Z) → MarkStep {F = F} {Z = Z} told nodes k m old new node up r → One r
  mark_one node up answer.Done s = (entry.Mark node up, Nothing, s)
  mark_one node up answer.NoMemory s = s
  mark_one node up _ s = absurd s

  -- each answer leaves one entry, or none where memory is wanting
  pub one : (a : Ask F Z) (r : Answer F Z) → CatStep {F = F} {Z = Z} told nodes k m old a new r → One r
  one (ask.Look scope have) r s = look_one scope have.items r s
  one (ask.Create def) r s = create_one def r s
  one (ask.Alter name column) r s = alter_one name column r s
  one (ask.Lend t) r s = next_one t (next_place (places_of old t)) r s
  one (ask.Adopt l) r s = adopt_one l r s
  one (ask.Commit lanes) r s = commit_one lanes.items r s
  one (ask.Back l) r s = back_one l r s
  one ask.SweepAny r s = sweep_one r s
  one (ask.Mark node up) r s = mark_one node up r s

  -- which asks may find no memory
  pub lacks : (a : Ask F Z) (r : Answer F Z) → CatStep {F = F} {Z = Z} told nodes k m old a new r → r ≡ answer.NoMemory → MayLackMemory {F = F} {Z = Z} a
  lacks (ask.Adopt l) r s e = subst (AdoptStep {F = F} {Z = Z} told nodes k m old new l) e s
  lacks (ask.Commit lanes) r s e = subst (CommitStep {F = F} {Z = Z} told nodes k m old new lanes.items) e s
  lacks (ask.Back l) r s e = subst (BackStep {F = F} {Z = Z} told nodes k m old new l) e s
  lacks (ask.Look scope have) r s e = tt
  lacks (ask.Create def) r s e = tt
  lacks (ask.Alter name column) r s e = tt
  lacks (ask.Lend t) r s e = tt
  lacks ask.SweepAny r s e = tt
  lacks (ask.Mark node up) r s e = tt

  -- when all lanes are out
  out_why : (a : Ask F Z) → CatStep {F = F} {Z = Z} told nodes k m old a new (answer.AllOut 64) → AreAllOut {F = F} {Z = Z} old a
  out_why (ask.Lend t) s = (next_place-AllOut (places_of old t)).0 (go (next_place (places_of old t)) s)
    where
      go : (w : Next) → LendsNext {F = F} {Z = Z} told nodes k m old new t w (answer.AllOut 64) → w ≡ which.AllOut
      go which.AllOut s = refl
      go (which.Clean n) s = absurd s
      go (which.Dirty n) s = absurd s
      go (which.Unborn n) s = absurd s
  out_why (ask.Look scope have) s = s
  out_why (ask.Create def) s = s
  out_why (ask.Alter name column) s = s
  out_why (ask.Adopt l) s = s
  out_why (ask.Commit lanes) s = s
  out_why (ask.Back l) s = s
  out_why ask.SweepAny s = s
  out_why (ask.Mark node up) s = s

  next_out : (t : ℕ) (r : Answer F Z) → LendsNext {F = F} {Z = Z} told nodes k m old new t which.AllOut r → (r ≡ answer.AllOut 64) ⊎ (r ≡ answer.NoMemory)
  next_out t (answer.AllOut out) s = (let f : ℕ → Answer F Z = λ n. answer.AllOut n in inl (ap f s.1))
  next_out t answer.NoMemory s = inr refl
  next_out t _ s = absurd s

  out_comes : (a : Ask F Z) (r : Answer F Z) → CatStep {F = F} {Z = Z} told nodes k m old a new r → AreAllOut {F = F} {Z = Z} old a → (r ≡ answer.AllOut 64) ⊎ (r ≡ answer.NoMemory)
  out_comes (ask.Lend t) r s out = next_out t r (subst (λ w. LendsNext {F = F} {Z = Z} told nodes k m old new t w r) ((next_place-AllOut (places_of old t)).1 out) s)
  out_comes (ask.Look scope have) r s out = absurd out
  out_comes (ask.Create def) r s out = absurd out
  out_comes (ask.Alter name column) r s out = absurd out
  out_comes (ask.Adopt l) r s out = absurd out
  out_comes (ask.Commit lanes) r s out = absurd out
  out_comes (ask.Back l) r s out = absurd out
  out_comes ask.SweepAny r s out = absurd out
  out_comes (ask.Mark node up) r s out = absurd out

  pub all_out : (a : Ask F Z) (r : Answer F Z) → CatStep {F = F} {Z = Z} told nodes k m old a new r → ComesExactly {F = F} {Z = Z} r (answer.AllOut 64) (AreAllOut {F = F} {Z = Z} old a)
  all_out a r s = (λ e. out_why a (subst (CatStep {F = F} {Z = Z} told nodes k m old a new) e s), out_comes a r s)

  -- when there is nothing to sweep
  idle_why : (a : Ask F Z) → CatStep {F = F} {Z = Z} told nodes k m old a new answer.Nothing → HaveNoTail {F = F} {Z = Z} old a
  idle_why ask.SweepAny s = s.1
  idle_why (ask.Lend t) s = absurd (no_next t (next_place (places_of old t)) s)
    where
      no_next : (t : ℕ) (w : Next) → LendsNext {F = F} {Z = Z} told nodes k m old new t w answer.Nothing → ⊥
      no_next t which.AllOut s = s
      no_next t (which.Clean n) s = s
      no_next t (which.Dirty n) s = s
      no_next t (which.Unborn n) s = s
  idle_why (ask.Look scope have) s = s
  idle_why (ask.Create def) s = s
  idle_why (ask.Alter name column) s = s
  idle_why (ask.Adopt l) s = s
  idle_why (ask.Commit lanes) s = s
  idle_why (ask.Back l) s = s
  idle_why (ask.Mark node up) s = s

  sweep_idle : (r : Answer F Z) → SweepAnyStep {F = F} {Z = Z} told nodes k m old new r → ((t : ℕ) → HasNoDirty (entries_of old) t) → (r ≡ answer.Nothing) ⊎ (r ≡ answer.NoMemory)
  sweep_idle (answer.Sweep l) s none =
      absurd (let there : true ≡ list_any is_dirty (pool (entries_of old) l.table) = ap is_some (sym s.1.1) ∙ is_some-position is_dirty (pool (entries_of old) l.table) in let f = none l.table in cc)
  sweep_idle answer.Nothing s none = inl refl
  sweep_idle answer.NoMemory s none = inr refl
  sweep_idle _ s none = absurd s

  idle_comes : (a : Ask F Z) (r : Answer F Z) → CatStep {F = F} {Z = Z} told nodes k m old a new r → HaveNoTail {F = F} {Z = Z} old a → (r ≡ answer.Nothing) ⊎ (r ≡ answer.NoMemory)
  idle_comes ask.SweepAny r s none = sweep_idle r s none
  idle_comes (ask.Lend t) r s none = absurd none
  idle_comes (ask.Look scope have) r s none = absurd none
  idle_comes (ask.Create def) r s none = absurd none
  idle_comes (ask.Alter name column) r s none = absurd none
  idle_comes (ask.Adopt l) r s none = absurd none
  idle_comes (ask.Commit lanes) r s none = absurd none
  idle_comes (ask.Back l) r s none = absurd none
  idle_comes (ask.Mark node up) r s none = absurd none

  pub nothing : (a : Ask F Z) (r : Answer F Z) → CatStep {F = F} {Z = Z} told nodes k m old a new r → ComesExactly {F = F} {Z = Z} r answer.Nothing (HaveNoTail {F = F} {Z = Z} old a)
  nothing a r s = (λ e. idle_why a (subst (CatStep {F = F} {Z = Z} told nodes k m old a new) e s), idle_comes a r s)

  -- when a table is not made
  not_lent : (t : ℕ) (w : Next) (r : Answer F Z) → (r ≡ answer.Exists) ⊎ (r ≡ answer.TooManyTables 64) → LendsNext {F = F} {Z = Z} told nodes k m old new t w r → ⊥
  not_lent t w r (inl e) s = never w (subst (LendsNext {F = F} {Z = Z} told nodes k m old new t w) e s)
    where
      never : (w : Next) → LendsNext {F = F} {Z = Z} told nodes k m old new t w answer.Exists → ⊥
      never which.AllOut s = s
      never (which.Clean n) s = s
      never (which.Dirty n) s = s
      never (which.Unborn n) s = s
  not_lent t w r (inr e) s = never w (subst (LendsNext {F = F} {Z = Z} told nodes k m old new t w) e s)
    where
      never : (w : Next) → LendsNext {F = F} {Z = Z} told nodes k m old new t w (answer.TooManyTables 64) → ⊥
      never which.AllOut s = s
      never (which.Clean n) s = s
      never (which.Dirty n) s = s
      never (which.Unborn n) s = s

  there_why : (a : Ask F Z) → CatStep {F = F} {Z = Z} told nodes k m old a new answer.Exists → IsThere {F = F} {Z = Z} old a
  there_why (ask.Create def) s = s.1
  there_why (ask.Lend t) s = absurd (not_lent t (next_place (places_of old t)) answer.Exists (inl refl) s)
  there_why (ask.Look scope have) s = s
  there_why (ask.Alter name column) s = s
  there_why (ask.Adopt l) s = s
  there_why (ask.Commit lanes) s = s
  there_why (ask.Back l) s = s
  there_why ask.SweepAny s = s
  there_why (ask.Mark node up) s = s

  enough_why : (a : Ask F Z) → CatStep {F = F} {Z = Z} told nodes k m old a new (answer.TooManyTables 64) → AreEnough {F = F} {Z = Z} old a
  enough_why (ask.Create def) s = (s.1, s.2)
  enough_why (ask.Lend t) s = absurd (not_lent t (next_place (places_of old t)) (answer.TooManyTables 64) (inr refl) s)
  enough_why (ask.Look scope have) s = s
  enough_why (ask.Alter name column) s = s
  enough_why (ask.Adopt l) s = s
  enough_why (ask.Commit lanes) s = s
  enough_why (ask.Back l) s = s
  enough_why ask.SweepAny s = s
  enough_why (ask.Mark node up) s = s

  create_there : (def : Definition) (r : Answer F Z) → CreateStep {F = F} {Z = Z} told nodes k m old new def r → is_new def.name (tables_left old) ≡ false → (r ≡ answer.Exists) ⊎ (r ≡ answer.NoMemory)
  create_there def (answer.Made t) s e = absurd (let yes = s.2.new_name in let f = e in cc)
  create_there def answer.Exists s e = inl refl
  create_there def (answer.TooManyTables made) s e = absurd (let yes = s.1 in let f = e in cc)
  create_there def answer.NoMemory s e = inr refl
  create_there def _ s e = absurd s

  create_enough : (def : Definition) (r : Answer F Z) → CreateStep {F = F} {Z = Z} told nodes k m old new def r → is_new def.name (tables_left old) ≡ true → length (tables_left old) ≡ 64 → (r ≡ answer.TooManyTables 64) ⊎ (r ≡ answer.NoMemory)
  create_enough def (answer.Made t) s e many = absurd (omega (arith, s.2.room, many))
  create_enough def answer.Exists s e many = absurd (let f = s.1 in let yes = e in cc)
  create_enough def (answer.TooManyTables made) s e many = (let f : ℕ → Answer F Z = λ n. answer.TooManyTables n in inl (ap f s.3))
  create_enough def answer.NoMemory s e many = inr refl
  create_enough def _ s e many = absurd s

  there_comes : (a : Ask F Z) (r : Answer F Z) → CatStep {F = F} {Z = Z} told nodes k m old a new r → IsThere {F = F} {Z = Z} old a → (r ≡ answer.Exists) ⊎ (r ≡ answer.NoMemory)
  there_comes (ask.Create def) r s e = create_there def r s e
  there_comes (ask.Lend t) r s e = absurd e
  there_comes (ask.Look scope have) r s e = absurd e
  there_comes (ask.Alter name column) r s e = absurd e
  there_comes (ask.Adopt l) r s e = absurd e
  there_comes (ask.Commit lanes) r s e = absurd e
  there_comes (ask.Back l) r s e = absurd e
  there_comes ask.SweepAny r s e = absurd e
  there_comes (ask.Mark node up) r s e = absurd e

  enough_comes : (a : Ask F Z) (r : Answer F Z) → CatStep {F = F} {Z = Z} told nodes k m old a new r → AreEnough {F = F} {Z = Z} old a → (r ≡ answer.TooManyTables 64) ⊎ (r ≡ answer.NoMemory)
  enough_comes (ask.Create def) r s e = create_enough def r s e.0 e.1
  enough_comes (ask.Lend t) r s e = absurd e
  enough_comes (ask.Look scope have) r s e = absurd e
  enough_comes (ask.Alter name column) r s e = absurd e
  enough_comes (ask.Adopt l) r s e = absurd e
  enough_comes (ask.Commit lanes) r s e = absurd e
  enough_comes (ask.Back l) r s e = absurd e
  enough_comes ask.SweepAny r s e = absurd e
  enough_comes (ask.Mark node up) r s e = absurd e

  pub exists : (a : Ask F Z) (r : Answer F Z) → CatStep {F = F} {Z = Z} told nodes k m old a new r → ComesExactly {F = F} {Z = Z} r answer.Exists (IsThere {F = F} {Z = Z} old a)
  exists a r s = (λ e. there_why a (subst (CatStep {F = F} {Z = Z} told nodes k m old a new) e s), there_comes a r s)

  pub enough : (a : Ask F Z) (r : Answer F Z) → CatStep {F = F} {Z = Z} told nodes k m old a new r → ComesExactly {F = F} {Z = Z} r (answer.TooManyTables 64) (AreEnough {F = F} {Z = Z} old a)
  enough a r s = (λ e. enough_why a (subst (CatStep {F = F} {Z = Z} told nodes k m old a new) e s), enough_comes a r s)
