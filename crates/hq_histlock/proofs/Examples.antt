-- The definitions on two passes with one entry each, and on wrong histories.
use Rattle.std.proofs.Common.{◌≡◌, ◌≤◌, ◌<◌, ℕ, zero, suc, true, false, List, [], ◌∷◌, ◌++◌, length, map, refl, sym, ap, arith, length-append, ◌∙◌}
use lib.ListN.{get_elem?}
use mathlib.Core.Option.{some, some-injective, some-ne-none}
use Rattle.hq_value.specs.declared.entry.EntryKind.TheVariants.{Look}
use Rattle.hq_history.specs.declared.noted.Noted.{Noted}
use Rattle.hq_history.specs.declared.noted.Deposit.TheVariants.{Nothing}
use Rattle.hq_history.specs.History.{AllBy}
use Rattle.hq_histlock.specs.declared.view.View.{View}
use Rattle.hq_histlock.specs.declared.view.Ended.{Ended}
use Rattle.hq_histlock.specs.Views.{first_view, with_more, made_by, entered, left_by, with_ended}
use Rattle.hq_histlock.specs.Passes.{MayLeave}
use Rattle.hq_histlock.specs.Closed.{IsClosed}

abbrev look : ℕ → Noted
look k = record { entry = record { session = k; statement = 1; kind = Look }; deposit = Nothing }

-- pass 0 of a lock that is opened on an empty history, whose value has 3 nodes
abbrev opened : View
opened = first_view 1 3 []

-- two passes are made
abbrev one : View
one = made_by opened

abbrev two : View
two = made_by (with_more opened)

numbers : (one.number ≡ 1) × (two.number ≡ 2) × (two.fixed ≡ 3) × ((with_more (with_more opened)).next ≡ 3)
numbers = (refl, refl, refl, refl)

-- each takes a turn
abbrev one_left : View
one_left = left_by (entered one []) (look 1 ∷ [])

abbrev two_left : View
two_left = left_by (entered two (look 1 ∷ [])) (look 1 ∷ look 2 ∷ [])

own-of_two : two_left.mine ≡ look 2 ∷ []
own-of_two = refl

seen-by_two : two_left.seen ≡ look 1 ∷ look 2 ∷ []
seen-by_two = refl

-- both are taken back, in their order or in the other
abbrev joined : View
joined = with_ended (with_ended (with_more (with_more opened)) one_left) two_left

abbrev joined_backwards : View
joined_backwards = with_ended (with_ended (with_more (with_more opened)) two_left) one_left

seen-by_joined : joined.seen ≡ look 1 ∷ look 2 ∷ []
seen-by_joined = refl

seen-by_joined_backwards : joined_backwards.seen ≡ look 1 ∷ look 2 ∷ []
seen-by_joined_backwards = refl

abbrev own_of : Ended → ℕ × List Noted
own_of x = (x.number, x.entries)

ended-of_joined : map own_of joined.ended ≡ (1, look 1 ∷ []) ∷ (2, look 2 ∷ []) ∷ []
ended-of_joined = refl

-- a history that drops an entry, or has one twice, isn't the one that it closes with
not_dropped : ¬ (IsClosed joined (look 1 ∷ []))
not_dropped h = let b = h.begins in absurd (let l = ap length b.1 in let m = length-append (look 1 ∷ look 2 ∷ []) b.0 in omega (arith, l, m))

not_twice : ¬ (IsClosed joined (look 1 ∷ look 2 ∷ look 2 ∷ []))
not_twice h = let e = h.each 1 (record { number = 2; entries = look 2 ∷ []; seen = look 1 ∷ look 2 ∷ []; before = look 1 ∷ [] }) refl in let l = ap length e.1 in absurd (omega (arith, l))

-- nor one with an entry of a number that wasn't made
not_of_another : ¬ (IsClosed joined (look 1 ∷ look 2 ∷ look 3 ∷ []))
not_of_another h = let l = ap length (h.others 3 (omega arith)) in absurd (omega (arith, l))

-- a turn leaves no entry, or one of its own, and not two
may_leave_none : MayLeave 1 [] []
may_leave_none = ([], refl, tt, omega arith)

may_leave_one : MayLeave 1 [] (look 1 ∷ [])
may_leave_one = (look 1 ∷ [], refl, (refl, tt), omega arith)

may_not_leave_two : ¬ (MayLeave 1 [] (look 1 ∷ look 1 ∷ []))
may_not_leave_two h = let l = ap length h.1 in let m = length-append [] h.0 in let few = h.3 in absurd (omega (arith, l, m, few))

abbrev session_of : List Noted → ℕ
session_of [] = 0
session_of (n ∷ ns) = n.entry.session

may_not_leave_another : ¬ (MayLeave 1 [] (look 2 ∷ []))
may_not_leave_another h = of h.0 (ap session_of h.1) h.2
  where
    of : (new : List Noted) → 2 ≡ session_of new → AllBy 1 new → ⊥
    of [] e all = absurd (omega (arith, e))
    of (n ∷ ns) e all = let q = all.0 in absurd (omega (arith, e, q))
