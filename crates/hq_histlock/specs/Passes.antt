-- What callers say of passes. A lock is seen as its identity, which no other lock has.
--     view p                    what the pass knows
--     IsPassOf lock p           it is a pass of this lock, and may be used
--     IsFirstOf lock p          it is pass 0 of this lock
--     HasTurn lock p table me   it has the turn: `table` and `me` are those of the seat in its `Held`
--     MayLeave k seen log       session k may leave this history, having entered on `seen`
use Rattle.std.specs.Prelude.{◌≡◌, ◌≤◌, ℕ, true, false, List, [], ◌∷◌, ◌++◌, Option, None, length, slice_index_or}
use Rattle.atomic_table.specs.Seated.{TableId}
use Rattle.atomic_table.specs.Table.{Me}
use Rattle.hq_history.specs.declared.noted.Noted.{Noted}
use Rattle.hq_history.specs.History.{AllBy}
use Rattle.hq_histlock.specs.declared.view.View.{View}
use Rattle.hq_histlock.specs.declared.pass.Pass.{Pass}
use Rattle.hq_histlock.specs.Views.{spent_view}

-- what the pass knows
abbrev pub view : Pass → View
view p = slice_index_or p.badge.views 0 spent_view

-- its view is in it, not out with the turn
abbrev pub IsWhole : Pass → Type 0
IsWhole p = p.badge.views ≡ view p ∷ []

-- a pass of this lock, that may be used
abbrev pub IsPassOf : TableId → Pass → Type 0
IsPassOf lock p =
    (p.badge.table_id ≡ lock) × IsWhole p × ((view p).number ≡ p.number) × ((view p).next ≡ p.made)
    × ((view p).live ≡ true) × ((view p).turn ≡ false) × ((view p).raw ≡ false)

-- pass 0 of this lock
abbrev pub IsFirstOf : TableId → Pass → Type 0
IsFirstOf lock p = IsPassOf lock p × ((view p).chief ≡ true)

-- the pass has the turn, and the slot is out with it
abbrev pub HasTurn : {V : Type 0} → TableId → Pass → TableId → Me (Option V) View → Type 0
HasTurn lock p table me =
    (table ≡ lock) × (me.1 ≡ (0, None) ∷ []) × (me.0.number ≡ p.number) × (me.0.next ≡ p.made)
    × (me.0.live ≡ true) × (me.0.turn ≡ true) × (me.0.raw ≡ false)

-- at most one entry more, which is of session k
abbrev pub MayLeave : ℕ → List Noted → List Noted → Type 0
MayLeave k seen log = (new : List Noted) × (log ≡ seen ++ new) × AllBy k new × (length new ≤ 1)
