-- A plan that is settled answers its ask.
use Rattle.std.proofs.Common.{◌≡◌, ◌≢◌, ℕ, Bool, List, Some, Result, Ok, Err, IfOk, refl, subst}
use Rattle.hq_value.specs.declared.entry.EntryKind.{EntryKind}
use Rattle.hq_value.specs.declared.entry.EntryKind.TheVariants as entry
use Rattle.hq_value.specs.declared.table.Column.{Column}
use Rattle.hq_value.specs.Tables.{Definition}
use Rattle.hq_log.specs.declared.place.Next.{Next}
use Rattle.hq_log.specs.declared.place.Next.TheVariants as which
use Rattle.hq_log.specs.Places.{next_place}
use Rattle.hq_lane.specs.Lanes.{LaneState, are_clean}
use Rattle.hq_history.specs.declared.noted.Noted.{Noted}
use Rattle.hq_history.specs.declared.noted.Deposit.TheVariants.{Nothing, Published}
use Rattle.hq_history.specs.Deposits.{tables_left}
use Rattle.hq_pool.specs.declared.lent.Lent.{Lent}
use Rattle.hq_pool.specs.declared.lent.Lent.TheVariants as lent
use Rattle.hq_snap.specs.declared.scope.Scope.{Scope}
use Rattle.hq_snap.specs.declared.scope.Have.{Have}
use Rattle.hq_snap.specs.Snaps.{TableSnapState}
use Rattle.hq_catalog.specs.declared.ask.Ask.{Ask}
use Rattle.hq_catalog.specs.declared.ask.Ask.TheVariants as ask
use Rattle.hq_catalog.specs.declared.ask.Answer.{Answer}
use Rattle.hq_catalog.specs.declared.ask.Answer.TheVariants as answer
use Rattle.hq_catalog.specs.declared.plan.Plan.{Plan}
use Rattle.hq_catalog.specs.Files.{table_named}
use Rattle.hq_catalog.specs.Lanes.{growths_of}
use Rattle.hq_catalog.specs.Looks.{AreSeen}
use Rattle.hq_catalog.specs.CatStep.{CatStep, LookStep, CreateStep, AlterStep, LendStep, LendsNext, AdoptStep, CommitStep, BackStep, SweepAnyStep, MarkStep, Notes, places_of}
use Rattle.hq_catalog.specs.Causes.{IsThere, AreEnough, MayLackMemory}
use Rattle.hq_catalog.specs.Kept.{answer_of}
use Rattle.hq_catalog.specs.Plans.{AsksLook, AsksTable, AsksColumn, NamesNoTable, AsksTooWide, HasColumn, AsksLane, AsksAdopt, AsksCommit, AsksBack, AsksSweep, AsksMark, kind_next, IsSweep, IsKind, Leads, left_by}

module _ {F Z : Type 0} (told : Bool) (nodes k m : ℕ) (old new : List Noted) (r : Answer F Z) where
  abbrev Step : Ask F Z → Type 0
  Step a = CatStep {F = F} {Z = Z} told nodes k m old a new r

  pub by_look : (snaps : List TableSnapState) → ((scope : Scope) (have : List Have) → AreSeen told old scope have snaps → LookStep {F = F} {Z = Z} told nodes k m old new scope have r)
      → (a : Ask F Z) → AsksLook {F = F} {Z = Z} told old snaps a → Step a
  by_look snaps f (ask.Look scope have) l = f scope have.items l
  by_look snaps f _ l = absurd l

  pub by_table : (def : Definition) → CreateStep {F = F} {Z = Z} told nodes k m old new def r → (a : Ask F Z) → AsksTable {F = F} {Z = Z} told old def a → Step a
  by_table def s (ask.Create asked) l = subst (λ (d : Definition). CreateStep {F = F} {Z = Z} told nodes k m old new d r) l s
  by_table def s _ l = absurd l

  pub by_column : (t : ℕ) (column : Column) → ((name : List ℕ) → table_named name (tables_left old) ≡ Some t → AlterStep {F = F} {Z = Z} told nodes k m old new name column r)
      → (a : Ask F Z) → AsksColumn {F = F} {Z = Z} told old t column a → Step a
  by_column t column s (ask.Alter name asked) l = subst (λ (x : Column). AlterStep {F = F} {Z = Z} told nodes k m old new name x r) l.0 (s name l.1)
  by_column t column s _ l = absurd l

  pub by_lane : (t : ℕ) → LendStep {F = F} {Z = Z} told nodes k m old new t r → (a : Ask F Z) → AsksLane {F = F} {Z = Z} told old t a → Step a
  by_lane t s (ask.Lend asked) l = subst (λ u. LendStep {F = F} {Z = Z} told nodes k m old new u r) l s
  by_lane t s _ l = absurd l

  pub by_adopt : (l : LaneState) → AdoptStep {F = F} {Z = Z} told nodes k m old new l r → (a : Ask F Z) → AsksAdopt {F = F} {Z = Z} told old l a → Step a
  by_adopt l s (ask.Adopt asked) e = subst (λ (x : LaneState). AdoptStep {F = F} {Z = Z} told nodes k m old new x r) e s
  by_adopt l s _ e = absurd e

  pub by_commit : (ls : List LaneState) → CommitStep {F = F} {Z = Z} told nodes k m old new ls r → (a : Ask F Z) → AsksCommit {F = F} {Z = Z} told old ls a → Step a
  by_commit ls s (ask.Commit asked) e = subst (λ (x : List LaneState). CommitStep {F = F} {Z = Z} told nodes k m old new x r) e s
  by_commit ls s _ e = absurd e

  pub by_back : (l : LaneState) → BackStep {F = F} {Z = Z} told nodes k m old new l r → (a : Ask F Z) → AsksBack {F = F} {Z = Z} told old l a → Step a
  by_back l s (ask.Back asked) e = subst (λ (x : LaneState). BackStep {F = F} {Z = Z} told nodes k m old new x r) e s
  by_back l s _ e = absurd e

  pub by_sweep : SweepAnyStep {F = F} {Z = Z} told nodes k m old new r → (a : Ask F Z) → AsksSweep {F = F} {Z = Z} told old a → Step a
  by_sweep s ask.SweepAny e = s
  by_sweep s _ e = absurd e

  pub by_mark : (node : ℕ) (up : Bool) → MarkStep {F = F} {Z = Z} told nodes k m old new node up r → (a : Ask F Z) → AsksMark {F = F} {Z = Z} told old node up a → Step a
  by_mark node up s (ask.Mark asked u) e = subst (λ (b : Bool). MarkStep {F = F} {Z = Z} told nodes k m old new asked b r) e.1 (subst (λ i. MarkStep {F = F} {Z = Z} told nodes k m old new i up r) e.0 s)
  by_mark node up s _ e = absurd e

module _ {F Z : Type 0} (told : Bool) (nodes k m : ℕ) (old new : List Noted) where
  pub by_there : Notes k m entry.Create Nothing old new → (a : Ask F Z) → IsThere {F = F} {Z = Z} old a → CatStep {F = F} {Z = Z} told nodes k m old a new answer.Exists
  by_there n (ask.Create def) e = (n, e)
  by_there n _ e = absurd e

  pub by_enough : Notes k m entry.Create Nothing old new → (a : Ask F Z) → AreEnough {F = F} {Z = Z} old a → CatStep {F = F} {Z = Z} told nodes k m old a new (answer.TooManyTables 64)
  by_enough n (ask.Create def) e = (n, e.0, e.1, refl)
  by_enough n _ e = absurd e

  pub by_no_table : Notes k m entry.Alter Nothing old new → (a : Ask F Z) → NamesNoTable {F = F} {Z = Z} told old a → CatStep {F = F} {Z = Z} told nodes k m old a new answer.NoTable
  by_no_table n (ask.Alter name column) e = (n, e)
  by_no_table n _ e = absurd e

  pub by_too_wide : (columns : ℕ) → Notes k m entry.Alter Nothing old new → (a : Ask F Z) → AsksTooWide {F = F} {Z = Z} told old columns a → CatStep {F = F} {Z = Z} told nodes k m old a new (answer.TooManyColumns columns)
  by_too_wide columns n (ask.Alter name column) e = (n, e)
  by_too_wide columns n _ e = absurd e

  pub by_there_column : Notes k m entry.Alter Nothing old new → (a : Ask F Z) → HasColumn {F = F} {Z = Z} told old a → CatStep {F = F} {Z = Z} told nodes k m old a new answer.ColumnThere
  by_there_column n (ask.Alter name column) e = (n, e)
  by_there_column n _ e = absurd e

  -- the entry of what was lent
  next_kind : (t : ℕ) (w : Next) (r : Answer F Z) → r ≢ answer.NoMemory → LendsNext {F = F} {Z = Z} told nodes k m old new t w r → Notes k m (kind_next t w) Nothing old new
  next_kind t (which.Clean n) (answer.Clean l) sure s = s.0
  next_kind t (which.Dirty n) (answer.Sweep l) sure s = s.0
  next_kind t (which.Unborn n) (answer.Fresh l) sure s = s.0
  next_kind t which.AllOut (answer.AllOut out) sure s = s.0
  next_kind t (which.Clean n) answer.NoMemory sure s = absurd (sure refl)
  next_kind t (which.Dirty n) answer.NoMemory sure s = absurd (sure refl)
  next_kind t (which.Unborn n) answer.NoMemory sure s = absurd (sure refl)
  next_kind t which.AllOut answer.NoMemory sure s = absurd (sure refl)
  next_kind t _ _ sure s = absurd s

  pub lend_kind : (t : ℕ) (r : Answer F Z) → r ≢ answer.NoMemory → LendStep {F = F} {Z = Z} told nodes k m old new t r → Notes k m (kind_next t (next_place (places_of old t))) Nothing old new
  lend_kind t r sure s = next_kind t (next_place (places_of old t)) r sure s

  -- the entry of what is swept
  pub sweep_kind : (r : Answer F Z) → r ≢ answer.NoMemory → SweepAnyStep {F = F} {Z = Z} told nodes k m old new r → (kind : EntryKind) × IsSweep old kind × Notes k m kind Nothing old new
  sweep_kind (answer.Sweep l) sure s = (entry.Sweep l.table l.number, s.1, s.0)
  sweep_kind answer.Nothing sure s = (entry.Idle, s.1, s.0)
  sweep_kind answer.NoMemory sure s = absurd (sure refl)
  sweep_kind _ sure s = absurd s

  pub mark_kind : (node : ℕ) (up : Bool) (r : Answer F Z) → r ≢ answer.NoMemory → MarkStep {F = F} {Z = Z} told nodes k m old new node up r → Notes k m (entry.Mark node up) Nothing old new
  mark_kind node up answer.Done sure s = s
  mark_kind node up answer.NoMemory sure s = absurd (sure refl)
  mark_kind node up _ sure s = absurd s

  pub adopt_kind : (l : LaneState) (r : Answer F Z) → AdoptStep {F = F} {Z = Z} told nodes k m old new l r → Notes k m (entry.Adopt l.table l.number) Nothing old new
  adopt_kind l (answer.Adopted same) s = s.0
  adopt_kind l _ s = absurd s

  pub commit_kind : (ls : List LaneState) (r : Answer F Z) → CommitStep {F = F} {Z = Z} told nodes k m old new ls r → Notes k m entry.Commit (Published (growths_of told ls)) old new
  commit_kind ls answer.Done s = s
  commit_kind ls _ s = absurd s

  pub back_kind : (l : LaneState) (r : Answer F Z) → BackStep {F = F} {Z = Z} told nodes k m old new l r → Notes k m (entry.Back l.table l.number (are_clean l.files)) Nothing old new
  back_kind l answer.Done s = s
  back_kind l _ s = absurd s

  -- where memory is wanting nothing changes
  pub lacking : new ≡ old → (a : Ask F Z) → MayLackMemory {F = F} {Z = Z} a → CatStep {F = F} {Z = Z} told nodes k m old a new answer.NoMemory
  lacking e (ask.Look scope have) l = e
  lacking e (ask.Create def) l = e
  lacking e (ask.Alter name column) l = e
  lacking e (ask.Lend t) l = go (next_place (places_of old t))
    where
      go : (w : Next) → LendsNext {F = F} {Z = Z} told nodes k m old new t w answer.NoMemory
      go (which.Clean n) = e
      go (which.Dirty n) = e
      go (which.Unborn n) = e
      go which.AllOut = e
  lacking e (ask.Adopt l) lacks = absurd lacks
  lacking e (ask.Commit lanes) lacks = absurd lacks
  lacking e (ask.Back l) lacks = absurd lacks
  lacking e ask.SweepAny l = e
  lacking e (ask.Mark node up) l = e

-- what holds of a plan that is made
pub if_ok : {A E : Type 0} (P Q : A → Type 0) (r : Result A E) → ((x : A) → P x → Q x) → IfOk r P → IfOk r Q
if_ok P Q (Ok x) f p = f x p
if_ok P Q (Err e) f p = p

-- what is lent is no want of memory
pub never_lent : {F Z : Type 0} (t : ℕ) (a : Lent LaneState) → answer_of {F = F} {Z = Z} t a ≡ answer.NoMemory → ⊥
never_lent t (lent.Clean n l) e = cc
never_lent t (lent.Sweep n l) e = cc
never_lent t (lent.Fresh n) e = cc
never_lent t (lent.AllOut out) e = cc

-- what is left of the history by a plan that is settled, and what it answers
module _ {F Z : Type 0} (told : Bool) (nodes k m : ℕ) (old new : List Noted) where
  abbrev pub LeavesOne : Plan F Z → Type 0
  LeavesOne p = (kind : EntryKind) × IsKind {F = F} {Z = Z} old p kind × Notes k m kind (left_by {F = F} {Z = Z} told p) old new

  abbrev pub AnswersAll : Answer F Z → Plan F Z → Type 0
  AnswersAll r p = (a : Ask F Z) → Leads {F = F} {Z = Z} told old p a → CatStep {F = F} {Z = Z} told nodes k m old a new r
