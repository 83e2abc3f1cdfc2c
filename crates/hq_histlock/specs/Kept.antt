-- The rule of the lock. Word 0 is the turn, 0 where it is free; word 1 counts the entries; the slot has the value while the turn is free.
--     Kept history fixed s          it holds of the table s
--     Wins, Notes, Frees, Looks     what a step tells the pass that makes it; Takes, Starts: the same while the lock is opened
use Rattle.std.specs.Prelude.{◌≡◌, ◌≢◌, ◌⊎◌, ℕ, zero, suc, ◌+◌, ◌<◌, ◌≤◌, true, false, List, [], ◌∷◌, ◌++◌, Option, Some, None, length, slice_index, if◌then◌else◌, ◌==◌}
use lib.ListN.{get_elem?}
use mathlib.Core.Option.{some}
use Rattle.atomic_table.specs.Table.{State, Step, Me}
use Rattle.hq_history.specs.declared.noted.Noted.{Noted}
use Rattle.hq_history.specs.History.{by, StartsWith, GrewByOthers}
use Rattle.hq_histlock.specs.declared.view.View.{View}
use Rattle.hq_histlock.specs.declared.view.Ended.{Ended}
use Rattle.hq_histlock.specs.Views.{started, entered, noted_by}

-- What no pass knows alone: the one history, what is fixed, the seat of each live number (plus one; 0 for none), which seat has the turn, which is pass 0, the first number of a pass and the next one
pub record Account : Type 0 where
  pub log : List Noted
  pub fixed : ℕ
  pub seat : ℕ → ℕ
  pub holder : ℕ
  pub head : ℕ
  pub first : ℕ
  pub upto : ℕ

-- how many numbers below n have a seat
abbrev pub seated : ℕ → (ℕ → ℕ) → ℕ
seated zero seat = 0
seated (suc n) seat = (if seat n == 0 then 0 else 1) + seated n seat

-- the number was given back: its entries in the history are these, and the history begins with both lists that were seen
pub record HasEnded (a : Account) (x : Ended) : Type 0 where
  pub made : a.first ≤ x.number
  pub below : x.number < a.upto
  pub free : a.seat x.number ≡ 0
  pub entries : by x.number a.log ≡ x.entries
  pub seen : StartsWith a.log x.seen
  pub before : StartsWith a.log x.before

-- pass 0 knows which numbers were made, and of each that was given back, its entries; numbers below the first one have those of the history that the lock was opened on
pub record IsHead (a : Account) (id : ℕ) (v : View) : Type 0 where
  pub here : id ≡ a.head
  pub zeroth : v.number ≡ 0
  pub lives : v.live ≡ true
  pub some_first : 0 < a.first
  pub first_is : v.first ≡ a.first
  pub next_is : v.next ≡ a.upto
  pub reached : a.first ≤ a.upto
  pub opened : StartsWith a.log v.opened
  pub early : (n : ℕ) → 0 < n → n < a.first → (a.seat n ≡ 0) × (by n a.log ≡ by n v.opened)
  pub counted : seated a.upto a.seat + length v.ended + a.first ≡ a.upto + 1
  pub each : (k : ℕ) (x : Ended) → get_elem? v.ended k ≡ some x → HasEnded a x
  pub all : (n : ℕ) → a.first ≤ n → n < a.upto → a.seat n ≡ 0 → (k : ℕ) × (x : Ended) × (get_elem? v.ended k ≡ some x) × (x.number ≡ n)
  pub apart : (i j : ℕ) (x y : Ended) → get_elem? v.ended i ≡ some x → get_elem? v.ended j ≡ some y → x.number ≡ y.number → i ≡ j

-- what a pass that may be used knows is so
pub record Owns (a : Account) (id : ℕ) (v : View) : Type 0 where
  pub sits : a.seat v.number ≡ id + 1
  pub entries : by v.number a.log ≡ v.mine
  pub begun : by v.number v.seen ≡ v.mine
  pub fixed_is : v.fixed ≡ a.fixed

-- what any pass knows is so
pub record Fits (a : Account) (turn id : ℕ) (v : View) : Type 0 where
  pub done : v.raw ≡ false
  pub begins : StartsWith a.log v.seen
  pub has_turn : v.turn ≡ true → (turn ≢ 0) × (id ≡ a.holder) × (a.log ≡ v.seen)
  pub own : v.live ≡ true → Owns a id v
  pub heads : v.chief ≡ true → IsHead a id v

-- a history of which the pass, and for pass 0 those that it took back, have seen a beginning
pub record AreBeginnings (log : List Noted) (v : View) : Type 0 where
  pub seen : StartsWith log v.seen
  pub ended : v.chief ≡ true → (k : ℕ) (x : Ended) → get_elem? v.ended k ≡ some x → StartsWith log x.seen × StartsWith log x.before

module _ {V : Type 0} (history : V → List Noted) where
  abbrev pub log_of : Option V → List Noted
  log_of (Some v) = history v
  log_of None = []

  -- the history of the value in hand
  abbrev pub log_in_hand : List (ℕ × Option V) → List Noted
  log_in_hand [] = []
  log_in_hand (x ∷ xs) = log_of x.1

module _ {V : Type 0} (fixed : V → ℕ) where
  abbrev pub fixed_of : Option V → ℕ
  fixed_of (Some v) = fixed v
  fixed_of None = 0

  -- what is fixed of the value in hand
  abbrev pub fixed_in_hand : List (ℕ × Option V) → ℕ
  fixed_in_hand [] = 0
  fixed_in_hand (x ∷ xs) = fixed_of x.1

module _ {V : Type 0} (history : V → List Noted) (fixed : V → ℕ) where
  -- the value at home has the one history, and what is fixed
  pub record IsHome (homes : List (mathlib.Core.Option.Option (Option V))) (a : Account) (v : V) : Type 0 where
    pub there : get_elem? homes 0 ≡ some (some (Some v))
    pub log_is : history v ≡ a.log
    pub fixed_is : fixed v ≡ a.fixed

  pub record IsKept (s : State (Option V) View) (a : Account) : Type 0 where
    pub words : length s.words ≡ 2
    pub homes : length s.homes ≡ 1
    pub count : slice_index s.words 1 ≡ length a.log
    pub home : slice_index s.words 0 ≡ 0 → (v : V) × IsHome s.homes a v
    pub out : slice_index s.words 0 ≢ 0 → (v : View) × (get_elem? s.views a.holder ≡ some v) × (v.turn ≡ true) × (v.live ≡ true)
    pub fits : (id : ℕ) (v : View) → get_elem? s.views id ≡ some v → Fits a (slice_index s.words 0) id v
    pub later : (n : ℕ) → a.upto ≤ n → (a.seat n ≡ 0) × (by n a.log ≡ [])

  -- while the lock is opened there is pass 0 alone, and the slot is empty until it is taken
  pub record IsRaw (s : State (Option V) View) : Type 0 where
    pub words : s.words ≡ 1 ∷ 0 ∷ []
    pub homes : length s.homes ≡ 1
    pub alone : (v : View) × (s.views ≡ v ∷ []) × (v.raw ≡ true) × (v.turn ≡ false → get_elem? s.homes 0 ≡ some (some None))

  abbrev pub Kept : State (Option V) View → Type 0
  Kept s = IsRaw s ⊎ ((a : Account) × IsKept s a)

  -- the turn was won, and with it the value, whose history is what had been seen and what others added since, with just the pass's own entries; or nothing changed
  abbrev pub Wins : Step (Option V) → Me (Option V) View → ℕ → Me (Option V) View → Type 0
  Wins st m r m' =
      (r ≡ 0 → (v : V) × (m' ≡ (entered m.0 (history v), (0, Some v) ∷ m.1)) × GrewByOthers m.0.number m.0.seen (history v)
      × (by m.0.number (history v) ≡ m.0.mine) × (fixed v ≡ m.0.fixed))
      × (r ≢ 0 → m' ≡ m)

  -- the history of the value in hand is noted, and what it has more than was seen is the pass's own
  abbrev pub Notes : Step (Option V) → Me (Option V) View → ℕ → Me (Option V) View → Type 0
  Notes st m r m' = m' ≡ (noted_by m.0 (log_in_hand history m.1), m.1)

  -- the turn is free, and the value at home
  abbrev pub Frees : Step (Option V) → Me (Option V) View → ℕ → Me (Option V) View → Type 0
  Frees st m r m' = m' ≡ (record m.0 { turn = false }, [])

  -- the count is the length of a history that begins with all that was seen
  abbrev pub Looks : Step (Option V) → Me (Option V) View → ℕ → Me (Option V) View → Type 0
  Looks st m r m' = (m' ≡ m) × ((log : List Noted) × (r ≡ length log) × AreBeginnings log m.0)

  -- the empty slot is taken
  abbrev pub Takes : Step (Option V) → Me (Option V) View → ℕ → Me (Option V) View → Type 0
  Takes st m r m' = m' ≡ (record m.0 { turn = true }, (0, None) ∷ m.1)

  -- the value that was put into it is noted
  abbrev pub Starts : Step (Option V) → Me (Option V) View → ℕ → Me (Option V) View → Type 0
  Starts st m r m' = m' ≡ (started m.0.next (fixed_in_hand fixed m.1) (log_in_hand history m.1), m.1)
