-- The steps by which the lock is opened: the empty slot is taken, and the value that was put into it is noted.
use Rattle.std.proofs.Common.{◌≡◌, ◌≢◌, ◌⊎◌, ◌<◌, ◌≤◌, ◌+◌, ℕ, zero, suc, true, false, List, [], ◌∷◌, get_or, set, sym, refl, ap, ◌∙◌, subst, inl, inr, ⊎_elim, arith, length, length-set, Option, Some, None}
use Rattle.std.proofs.lemmas.Bool.{false≢true}
use mathlib.Core.Option.{none, some, some-injective, some-ne-none}
use lib.ListN.{get_elem?}
use Rattle.atomic_table.specs.Table.{State, Me, step, keeps, takes, Allows, opening}
use Rattle.hq_history.specs.declared.noted.Noted.{Noted}
use Rattle.hq_history.specs.History.{by, AllBelow}
use Rattle.hq_history.proofs.Entries.{by-above, starts_whole}
use Rattle.hq_histlock.specs.declared.view.View.{View}
use Rattle.hq_histlock.specs.Views.{raw_view, started}
use Rattle.hq_histlock.specs.Kept.{Account, seated, IsHead, Fits, IsKept, IsRaw, Kept, Takes, Starts}
use Rattle.hq_histlock.proofs.Seats.{seat_at, seat_else, seated_first}
use Rattle.hq_histlock.proofs.Keeps.{at_only, account}

-- pass 0 alone has a seat, the first
abbrev seat_0 : ℕ → ℕ
seat_0 = seat_at (λ _. 0) 0 1

abbrev account_of : ℕ → ℕ → List Noted → Account
account_of first fixed log = account log fixed seat_0 0 0 first first

head_of : (first fixed : ℕ) (log : List Noted) → 0 < first → IsHead (account_of first fixed log) 0 (started first fixed log)
head_of first fixed log above = record {
  here = refl;
  zeroth = refl;
  lives = refl;
  some_first = above;
  first_is = refl;
  next_is = refl;
  reached = omega arith;
  opened = starts_whole log;
  early = λ n more below. (seat_else (λ _. 0) 0 1 n (λ e. absurd (omega arith)), refl);
  counted = one_of first above;
  each = λ i x e. absurd (some-ne-none x (sym e));
  all = λ n from below none. absurd (omega arith);
  apart = λ i j x y p q e. absurd (some-ne-none x (sym p));
}
  where
    one_of : (m : ℕ) → 0 < m → seated m seat_0 + 0 + m ≡ m + 1
    one_of zero h = absurd (omega arith)
    one_of (suc m) h = let s = seated_first m 1 (λ e. absurd (omega arith)) in omega (arith, s)

fits_of : (first fixed turn : ℕ) (log : List Noted) (id : ℕ) (v : View) → 0 < first → turn ≢ 0 → get_elem? (started first fixed log ∷ []) id ≡ some v → Fits (account_of first fixed log) turn id v
fits_of first fixed turn log zero v above taken e = subst (λ (u : View). Fits (account_of first fixed log) turn 0 u) (some-injective (started first fixed log) v e) (record {
  done = refl;
  begins = starts_whole log;
  has_turn = λ _. (taken, refl, refl);
  own = λ _. record { sits = refl; entries = refl; begun = refl; fixed_is = refl };
  heads = λ _. head_of first fixed log above;
})
fits_of first fixed turn log (suc id) v above taken e = absurd (some-ne-none v (sym e))

module _ {V : Type 0} (history : V → List Noted) (fixed : V → ℕ) where
  -- the lock before the value is in it
  pub opens : (first : ℕ) (xs : List (Option V)) → xs ≡ None ∷ [] → Kept history fixed (opening (1 ∷ 0 ∷ []) xs (raw_view first))
  opens first xs e = subst (λ ys. Kept history fixed (opening (1 ∷ 0 ∷ []) ys (raw_view first))) (sym e) (inl (record {
    words = refl;
    homes = refl;
    alone = (raw_view first, refl, refl, λ _. refl);
  }))

  -- beside a raw view the rule has it alone
  raw : (s : State (Option V) View) (id : ℕ) (v : View) → get_elem? s.views id ≡ some v → v.raw ≡ true → Kept history fixed s → IsRaw history fixed s
  raw s id v at is k = ⊎_elim (λ r. r) (λ h. let f = h.1 in let d = (f.fits id v at).done in absurd (false≢true (sym d ∙ is))) k

  -- the only view of a raw state is the one that is asked for, at the first place
  only_one : (s : State (Option V) View) (id : ℕ) (v : View) → get_elem? s.views id ≡ some v → IsRaw history fixed s → (s.views ≡ v ∷ []) × (id ≡ 0)
  only_one s id v at r = let alone = r.alone in let e = ap (λ l. get_elem? l id) (sym alone.1) ∙ at in
      (alone.1 ∙ ap (λ (u : View). u ∷ []) (at_only alone.0 v id e), at_first alone.0 v id e)
    where
      at_first : (x y : View) (i : ℕ) → get_elem? (x ∷ []) i ≡ some y → i ≡ 0
      at_first x y zero e = refl
      at_first x y (suc i) e = absurd (some-ne-none y (sym e))

  pub takes_empty : (n id first : ℕ) (me : Me (Option V) View) → me ≡ (raw_view first, []) → Allows (Kept history fixed) n id me 0 (λ x. x) (Takes history fixed (step n 0 0 0 none) me)
  takes_empty n id first me is = subst (λ m. Allows (Kept history fixed) n id m 0 (λ x. x) (Takes history fixed (step n 0 0 0 none) m)) (sym is) (λ s k _ at _.
      let v = raw_view first in
      let r = raw s id v at refl k in
      let o = only_one s id v at r in
      let alone = r.alone in
      let quiet : (alone.0).turn ≡ false = ap (λ (u : View). u.turn) (at_only alone.0 v id (ap (λ l. get_elem? l id) (sym alone.1) ∙ at)) in
      let taken : View = record v { turn = true } in (
        taken,
        takes 0 None,
        alone.3 quiet,
        inl (record {
          words = ap (λ ws. set ws 0 (get_or ws 0 0)) r.words;
          homes = length-set s.homes 0 none ∙ r.homes;
          alone = (taken, (λ i. set (o.0 i) (o.1 i) taken), refl, λ e. absurd (false≢true (sym e)));
        }),
        refl,
      ))

  starts_held : (n id first : ℕ) (x : V) (count : ℕ) → 0 < first → AllBelow first (history x) → count ≡ length (history x)
      → Allows (Kept history fixed) n id (record (raw_view first) { turn = true }, (0, Some x) ∷ []) 1 (λ _. count) (Starts history fixed (step n 1 count 0 none) (record (raw_view first) { turn = true }, (0, Some x) ∷ []))
  starts_held n id first x count above below long s k _ at _ =
      let v : View = record (raw_view first) { turn = true } in
      let w : View = started first (fixed x) (history x) in
      let r = raw s id v at refl k in
      let o = only_one s id v at r in
      let a : Account = account_of first (fixed x) (history x) in
      let views : set s.views id w ≡ w ∷ [] = (λ i. set (o.0 i) (o.1 i) w) in
      let words : set s.words 1 count ≡ 1 ∷ count ∷ [] = ap (λ ws. set ws 1 count) r.words in
      let turn : get_or (set s.words 1 count) 0 0 ≢ 0 = (λ e. let z = ap (λ ws. get_or ws 0 0) words in absurd (omega (arith, e, z))) in (
        w,
        keeps,
        tt,
        inr (
          a,
          record {
            words = ap length words;
            homes = r.homes;
            count = ap (λ ws. get_or ws 1 0) words ∙ long;
            home = λ e. absurd (turn e);
            out = λ _. (w, ap (λ l. get_elem? l 0) views, refl, refl);
            fits = λ i u e. fits_of first (fixed x) (get_or (set s.words 1 count) 0 0) (history x) i u above turn (ap (λ l. get_elem? l i) (sym views) ∙ e);
            later = λ m le. (seat_else (λ _. 0) 0 1 m (λ e. absurd (omega arith)), by-above first m (history x) below le);
          },
        ),
        refl,
      )

  pub starts_with : (n id first : ℕ) (me : Me (Option V) View) (x : V) (count : ℕ) → me ≡ (record (raw_view first) { turn = true }, (0, Some x) ∷ []) → 0 < first → AllBelow first (history x) → count ≡ length (history x)
      → Allows (Kept history fixed) n id me 1 (λ _. count) (Starts history fixed (step n 1 count 0 none) me)
  starts_with n id first me x count is above below long = subst (λ m. Allows (Kept history fixed) n id m 1 (λ _. count) (Starts history fixed (step n 1 count 0 none) m)) (sym is) (starts_held n id first x count above below long)
