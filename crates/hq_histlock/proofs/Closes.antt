-- The lock is closed, and what the calls take from their steps.
use Rattle.std.proofs.Common.{◌≡◌, ◌≢◌, ◌<◌, ◌≤◌, ◌+◌, ℕ, zero, suc, Bool, true, false, cond, nat_le, List, [], ◌∷◌, ◌++◌, get_or, sym, refl, ap, ◌∙◌, subst, arith, length, map, Option, Some, None, drop}
use Rattle.std.proofs.lemmas.Bool.{false≢true, leb-true, leb-false}
use Rattle.std.proofs.lemmas.Option.{none-some}
use Rattle.std.proofs.lemmas.List.{length-map}
use mathlib.Core.Logic.{dite}
use mathlib.Core.Option.{none, some, some-injective}
use native.Mathlib.Decide.{ℕ_discrete}
use lib.ListN.{get_elem?}
use Rattle.atomic_table.specs.Table.{State, Me, step, Allows, Final, Seen, rest}
use Rattle.atomic_table.proofs.Lists.{at_last}
use Rattle.hq_history.specs.declared.noted.Noted.{Noted}
use Rattle.hq_history.specs.History.{by, AllBelow, StartsWith, entries_of}
use Rattle.hq_history.proofs.Entries.{starts_whole, starts_shorter}
use Rattle.hq_histlock.specs.declared.view.View.{View}
use Rattle.hq_histlock.specs.declared.view.Ended.{Ended}
use Rattle.hq_histlock.specs.Views.{raw_view, started, first_view, noted_by, left_by, longer, ended_of, with_ended}
use Rattle.hq_histlock.specs.Kept.{Account, seated, AreBeginnings, IsKept, Kept, Takes, Starts, Wins, Notes, Frees, Looks, log_in_hand, fixed_in_hand}
use Rattle.hq_histlock.specs.Closed.{IsClosed}
use Rattle.hq_histlock.specs.Passes.{MayLeave}
use Rattle.hq_histlock.proofs.Seats.{only_one}
use Rattle.hq_histlock.proofs.Keeps.{kept, notes, frees}
use Rattle.hq_histlock.proofs.Moves.{was_made}
use Rattle.hq_histlock.proofs.Opens.{starts_with}

abbrev or_else : {A : Type 0} → A → Option A → A
or_else d (Some x) = x
or_else d None = d

-- the log is as long as the history
pub as_long : (log : List Noted) (n : ℕ) → n ≡ length (entries_of log) → n ≡ length log
as_long log n e = e ∙ length-map log (λ (x : Noted). x.entry)

-- both lists that were seen begin the longer one, since they begin one history
pub both_begin : (log one other : List Noted) → StartsWith log one → StartsWith log other → StartsWith (longer one other) one × StartsWith (longer one other) other
both_begin log one other h g = by_case (nat_le (length one) (length other)) refl
  where
    by_case : (b : Bool) → nat_le (length one) (length other) ≡ b → StartsWith (cond b other one) one × StartsWith (cond b other one) other
    by_case true e = (starts_shorter log one other h g (leb-true (length one) (length other) e), starts_whole other)
    by_case false e = (starts_whole one, starts_shorter log other one g h (let l = leb-false (length one) (length other) e in omega (arith, l)))

-- after a join and a look pass 0 has seen what both had
pub joined_begins : (v w : View) (log : List Noted) → v.chief ≡ true → AreBeginnings log (with_ended v w) → StartsWith (with_ended v w).seen v.seen × StartsWith (with_ended v w).seen w.seen
joined_begins v w log chief b = let e = b.ended chief (length v.ended) (ended_of v w) (at_last v.ended (ended_of v w) (length v.ended) refl) in both_begin log v.seen w.seen e.1 e.0

-- the same of the pass that the join leaves: `m` is its view after the step, `u` after the look
pub joined_seen : (u m m' v w v' w' : View) (log : List Noted) → u ≡ m' → m' ≡ m → m ≡ with_ended v' w' → v' ≡ v → w' ≡ w → v.chief ≡ true → AreBeginnings log m → StartsWith u.seen v.seen × StartsWith u.seen w.seen
joined_seen u m m' v w v' w' log put look join one other chief b =
    let e : m ≡ with_ended v w = join ∙ (λ i. with_ended (one i) (other i)) in
    let h = joined_begins v w log chief (subst (AreBeginnings log) e b) in
    let s : (with_ended v w).seen ≡ u.seen = ap (λ (x : View). x.seen) (sym (put ∙ look ∙ e)) in
    (subst (λ l. StartsWith l v.seen) s h.0, subst (λ l. StartsWith l w.seen) s h.1)

module _ {V : Type 0} (history : V → List Noted) (fixed : V → ℕ) where
  -- once all passes are back, the value is at home, and its history is what pass 0 knows of each
  closes : (id : ℕ) (v : View) (ws : List ℕ) (xs : List (Option V)) → v.chief ≡ true → v.turn ≡ false → v.raw ≡ false → length v.ended + v.first ≡ v.next → Final (Seen (Kept history fixed) id v) ws xs
      → (x : V) × (get_elem? xs 0 ≡ some (Some x)) × IsClosed v (history x) × (fixed x ≡ v.fixed)
  closes id v ws xs chief quiet done all f = let s = f.0 in let at = (f.1).1 in let k = kept history fixed s id v at done (f.1).0 in let a = k.0 in let r = k.1 in let old = r.fits id v at in let h = old.heads chief in let o = old.own h.lives in
      let alone : seated a.upto a.seat ≡ 1 = (let c = h.counted in let n = h.next_is in let q = h.first_is in omega (arith, c, n, q, all)) in
      let zeroth = ap a.seat (sym h.zeroth) ∙ o.sits in
      let some_zero : a.seat 0 ≢ 0 = (λ e. absurd (omega (arith, e, zeroth))) in
      let made = was_made history fixed a s 0 r some_zero in
      let none : (n : ℕ) → n ≢ 0 → n < a.upto → a.seat n ≡ 0 = (λ n ne below. only_one a.seat 0 n a.upto alone made some_zero below ne) in
      let free : get_or s.words 0 0 ≡ 0 = dite (ℕ_discrete (get_or s.words 0 0) 0) (λ e. e) (λ ne.
      let x = r.out ne in let g = r.fits a.holder x.0 x.1 in let p = g.own x.3 in
      dite (ℕ_discrete (x.0).number 0)
      (λ e. let z = ap a.seat e in let hold : a.holder ≡ id = (let y = p.sits in omega arith) in
      let same : v ≡ x.0 = some-injective v x.0 (sym at ∙ ap (get_elem? s.views) (sym hold) ∙ x.1) in
      absurd (false≢true (sym quiet ∙ ap (λ (u : View). u.turn) same ∙ x.2)))
      (λ d. let there : a.seat (x.0).number ≢ 0 = (λ e. let y = p.sits in absurd (omega (arith, e, y))) in absurd (there (none (x.0).number d (was_made history fixed a s (x.0).number r there))))) in
      let home = r.home free in let is = home.1 in (
        home.0,
        f.4 0 (Some home.0) is.there,
        subst (IsClosed v) (sym is.log_is) (record {
          begins = old.begins;
          opened = h.opened;
          own = ap (λ (n : ℕ). by n a.log) (sym h.zeroth) ∙ o.entries;
          each = λ i x e. let g = h.each i x e in ((let m = g.made in let q = h.first_is in omega (arith, m, q)), g.entries, g.seen);
          joined = λ n from below. let q = h.first_is in let z = h.some_first in let y = h.next_is in
              h.all n (omega (arith, from, q)) (omega (arith, below, y)) (none n (λ e. absurd (omega (arith, from, q, z, e))) (omega (arith, below, y)));
          apart = h.apart;
          early = λ n more below. (h.early n more (let q = h.first_is in omega (arith, below, q))).1;
          others = λ n le. (r.later n (let e = h.next_is in omega (arith, le, e))).1;
        }),
        is.fixed_is ∙ sym o.fixed_is,
      )

  -- where the turn was won, the slot is in hand
  pub slot_of : (me me' : Me (Option V) View) (r : ℕ) → Wins history fixed (step 0 0 0 1 none) me r me' → r ≡ 0 → (x : Option V) × (me'.1 ≡ (0, x) ∷ rest me'.1)
  slot_of me me' r h e = let w = h.0 e in let p : me'.1 ≡ (0, Some w.0) ∷ me.1 = ap (λ (m : Me (Option V) View). m.1) w.1 in (Some w.0, p ∙ (λ i. (0, Some w.0) ∷ rest (sym p i)))

  -- where the empty slot was taken, it is in hand
  pub slot_taken : (me me' : Me (Option V) View) (r : ℕ) → Takes history fixed (step 0 0 0 0 none) me r me' → (x : Option V) × (me'.1 ≡ (0, x) ∷ rest me'.1)
  slot_taken me me' r e = let p : me'.1 ≡ (0, None) ∷ me.1 = ap (λ (m : Me (Option V) View). m.1) e in (None, p ∙ (λ i. (0, None) ∷ rest (sym p i)))

  -- the value that was put into the slot in hand
  in_slot : (me me' : Me (Option V) View) (x : V) → me' ≡ (me.0, (0, Some x) ∷ rest me.1) → me.1 ≡ (0, None) ∷ [] → me' ≡ (me.0, (0, Some x) ∷ [])
  in_slot me me' x is out = is ∙ (λ i. (me.0, (0, Some x) ∷ rest (out i)))

  pub noted : (n id : ℕ) (me me' : Me (Option V) View) (x : V) (count : ℕ) → me' ≡ (me.0, (0, Some x) ∷ rest me.1) → me.1 ≡ (0, None) ∷ [] → me.0.turn ≡ true → me.0.live ≡ true → me.0.raw ≡ false → MayLeave me.0.number me.0.seen (history x) → count ≡ length (history x)
      → Allows (Kept history fixed) n id me' 1 (λ _. count) (Notes history fixed (step n 1 count 0 none) me')
  noted n id me me' x count is out turn live done may long = subst (λ (m : Me (Option V) View). Allows (Kept history fixed) n id m 1 (λ _. count) (Notes history fixed (step n 1 count 0 none) m)) (sym (in_slot me me' x is out))
      (notes history fixed n id (me.0, (0, Some x) ∷ []) x may.0 count refl turn live done may.1 may.2 long)

  -- the pass once the history is noted
  abbrev after_note : Me (Option V) View → Me (Option V) View
  after_note m = (noted_by m.0 (log_in_hand history m.1), m.1)

  abbrev after_free : Me (Option V) View → Me (Option V) View
  after_free m = (record m.0 { turn = false }, [])

  pub freed : (n id : ℕ) (me me' me'' : Me (Option V) View) (x : V) → me' ≡ (me.0, (0, Some x) ∷ rest me.1) → me.1 ≡ (0, None) ∷ [] → me.0.turn ≡ true → me.0.live ≡ true → me.0.raw ≡ false → fixed x ≡ me.0.fixed → Notes history fixed (step 0 1 0 0 none) me' 0 me''
      → Allows (Kept history fixed) n id me'' 0 (λ _. 0) (Frees history fixed (step n 0 0 0 none) me'')
  freed n id me me' me'' x is out turn live done same was =
      subst (λ (m : Me (Option V) View). Allows (Kept history fixed) n id m 0 (λ _. 0) (Frees history fixed (step n 0 0 0 none) m)) (sym (was ∙ ap after_note (in_slot me me' x is out)))
      (frees history fixed n id (after_note (me.0, (0, Some x) ∷ [])) x refl turn live done refl same)

  -- what the pass knows afterwards
  pub left_with : (me me' me'' me''' : Me (Option V) View) (x : V) → me' ≡ (me.0, (0, Some x) ∷ rest me.1) → me.1 ≡ (0, None) ∷ [] → Notes history fixed (step 0 1 0 0 none) me' 0 me'' → Frees history fixed (step 0 0 0 0 none) me'' 0 me'''
      → me''' ≡ (left_by me.0 (history x), [])
  left_with me me' me'' me''' x is out was free = free ∙ ap after_free (was ∙ ap after_note (in_slot me me' x is out))

  -- the same while the lock is opened
  taken_slot : (first : ℕ) (me me' me'' : Me (Option V) View) (x : V) → me ≡ (raw_view first, []) → Takes history fixed (step 0 0 0 0 none) me 0 me' → me'' ≡ (me'.0, (0, Some x) ∷ rest me'.1)
      → me'' ≡ (record (raw_view first) { turn = true }, (0, Some x) ∷ [])
  taken_slot first me me' me'' x is took put =
      let t : me' ≡ (record (raw_view first) { turn = true }, (0, None) ∷ []) = took ∙ ap (λ (m : Me (Option V) View). (record m.0 { turn = true }, (0, None) ∷ m.1)) is in
      put ∙ ap (λ (m : Me (Option V) View). (m.0, (0, Some x) ∷ rest m.1)) t

  pub start_allowed : (n id first : ℕ) (me me' me'' : Me (Option V) View) (x : V) (count : ℕ) → me ≡ (raw_view first, []) → Takes history fixed (step 0 0 0 0 none) me 0 me' → me'' ≡ (me'.0, (0, Some x) ∷ rest me'.1)
      → 0 < first → AllBelow first (history x) → count ≡ length (history x)
      → Allows (Kept history fixed) n id me'' 1 (λ _. count) (Starts history fixed (step n 1 count 0 none) me'')
  start_allowed n id first me me' me'' x count is took put above below long = starts_with history fixed n id first me'' x count (taken_slot first me me' me'' x is took put) above below long

  abbrev after_start : Me (Option V) View → Me (Option V) View
  after_start m = (started m.0.next (fixed_in_hand fixed m.1) (log_in_hand history m.1), m.1)

  started_slot : (first : ℕ) (me me' me'' me3 : Me (Option V) View) (x : V) → me ≡ (raw_view first, []) → Takes history fixed (step 0 0 0 0 none) me 0 me' → me'' ≡ (me'.0, (0, Some x) ∷ rest me'.1)
      → Starts history fixed (step 0 1 0 0 none) me'' 0 me3 → me3 ≡ (started first (fixed x) (history x), (0, Some x) ∷ [])
  started_slot first me me' me'' me3 x is took put was = was ∙ ap after_start (taken_slot first me me' me'' x is took put)

  pub open_freed : (n id first : ℕ) (me me' me'' me3 : Me (Option V) View) (x : V) → me ≡ (raw_view first, []) → Takes history fixed (step 0 0 0 0 none) me 0 me' → me'' ≡ (me'.0, (0, Some x) ∷ rest me'.1)
      → Starts history fixed (step 0 1 0 0 none) me'' 0 me3
      → Allows (Kept history fixed) n id me3 0 (λ _. 0) (Frees history fixed (step n 0 0 0 none) me3)
  open_freed n id first me me' me'' me3 x is took put was =
      subst (λ (m : Me (Option V) View). Allows (Kept history fixed) n id m 0 (λ _. 0) (Frees history fixed (step n 0 0 0 none) m)) (sym (started_slot first me me' me'' me3 x is took put was))
      (frees history fixed n id (started first (fixed x) (history x), (0, Some x) ∷ []) x refl refl refl refl refl refl)

  pub opened_with : (first : ℕ) (me me' me'' me3 me4 : Me (Option V) View) (x : V) → me ≡ (raw_view first, []) → Takes history fixed (step 0 0 0 0 none) me 0 me' → me'' ≡ (me'.0, (0, Some x) ∷ rest me'.1)
      → Starts history fixed (step 0 1 0 0 none) me'' 0 me3 → Frees history fixed (step 0 0 0 0 none) me3 0 me4
      → me4 ≡ (first_view first (fixed x) (history x), [])
  opened_with first me me' me'' me3 me4 x is took put was free = free ∙ ap after_free (started_slot first me me' me'' me3 x is took put was)

  abbrev first_value : List (ℕ × Option V) → Option V
  first_value [] = None
  first_value (y ∷ ys) = y.1

  -- what the empty slot held
  pub held_none : (me me' : Me (Option V) View) (r : Option V) → Takes history fixed (step 0 0 0 0 none) me 0 me' → me'.1 ≡ (0, r) ∷ rest me'.1 → r ≡ None
  held_none me me' r took is = let p : me'.1 ≡ (0, None) ∷ me.1 = ap (λ (m : Me (Option V) View). m.1) took in ap first_value (sym is ∙ p)

  closed_is : (id : ℕ) (v u : View) (ws : List ℕ) (xs : List (Option V)) (r : Option V) → v ≡ u → u.chief ≡ true → u.turn ≡ false → u.raw ≡ false → length u.ended + u.first ≡ u.next → Final (Seen (Kept history fixed) id v) ws xs → get_elem? xs 0 ≡ some r
      → (x : V) × (r ≡ Some x) × IsClosed u (history x) × (fixed x ≡ u.fixed)
  closed_is id v u ws xs r same chief quiet done all f at = let c = closes id u ws xs chief quiet done all (subst (λ (w : View). Final (Seen (Kept history fixed) id w) ws xs) same f) in (c.0, some-injective r (Some c.0) (sym at ∙ c.1), c.2, c.3)

  pub not_none : (id : ℕ) (v u : View) (ws : List ℕ) (xs : List (Option V)) (r : Option V) → v ≡ u → u.chief ≡ true → u.turn ≡ false → u.raw ≡ false → length u.ended + u.first ≡ u.next → Final (Seen (Kept history fixed) id v) ws xs → get_elem? xs 0 ≡ some r → ¬ (r ≡ None)
  not_none id v u ws xs r same chief quiet done all f at empty = let c = closed_is id v u ws xs r same chief quiet done all f at in absurd (none-some c.0 (sym empty ∙ c.1))

  pub closed_with : (id : ℕ) (v u : View) (ws : List ℕ) (xs : List (Option V)) (r : Option V) (y : V) → v ≡ u → u.chief ≡ true → u.turn ≡ false → u.raw ≡ false → length u.ended + u.first ≡ u.next → Final (Seen (Kept history fixed) id v) ws xs → get_elem? xs 0 ≡ some r → r ≡ Some y
      → IsClosed u (history y) × (fixed y ≡ u.fixed)
  closed_with id v u ws xs r y same chief quiet done all f at is = let c = closed_is id v u ws xs r same chief quiet done all f at in
      let e : c.0 ≡ y = ap (or_else c.0) (sym c.1 ∙ is) in
      (subst (λ (z : V). IsClosed u (history z)) e c.2, subst (λ (z : V). fixed z ≡ u.fixed) e c.3)
