-- A pass is made, and one is taken back.
use Rattle.std.proofs.Common.{◌≡◌, ◌≢◌, ◌⊎◌, ◌<◌, ◌≤◌, ◌+◌, ℕ, zero, suc, Bool, true, false, List, [], ◌∷◌, ◌++◌, cond, nat_le, get_or, set, sym, refl, ap, ◌∙◌, subst, inl, inr, ⊎_elim, arith, length, length-set, length-append, Option, Some, None, lt_of_not-le}
use Rattle.std.proofs.lemmas.Bool.{false≢true, leb-true}
use mathlib.Core.Logic.{dite}
use mathlib.Core.Option.{none, some, some-injective, some-ne-none}
use native.Mathlib.Decide.{ℕ_discrete, dec_le}
use lib.ListN.{get_elem?}
use Rattle.atomic_table.specs.Table.{State, Splits, Joins}
use Rattle.atomic_table.proofs.Lists.{at_set, set_here, set_else, at_longer, at_last, at_snoc}
use Rattle.hq_history.specs.declared.noted.Noted.{Noted}
use Rattle.hq_history.specs.History.{by, StartsWith}
use Rattle.hq_history.proofs.Entries.{by-none, by-longer, starts_shorter}
use Rattle.hq_histlock.specs.declared.view.View.{View}
use Rattle.hq_histlock.specs.declared.view.Ended.{Ended}
use Rattle.hq_histlock.specs.Views.{with_more, made_by, longer, ended_of, with_ended, spent_view}
use Rattle.hq_histlock.specs.Kept.{Account, seated, HasEnded, IsHead, Owns, Fits, IsKept, Kept}
use Rattle.hq_histlock.proofs.Seats.{seat_at, seat_here, seat_else, seated_new, seated_left}
use Rattle.hq_histlock.proofs.Keeps.{at_below, account, kept}

module _ {A : Type 0} where
  -- at the end, or before it
  at_snoc_place : (l : List A) (a b : A) (j : ℕ) → get_elem? (l ++ a ∷ []) j ≡ some b → (get_elem? l j ≡ some b) ⊎ ((j ≡ length l) × (a ≡ b))
  at_snoc_place [] a b zero e = inr (refl, some-injective a b e)
  at_snoc_place [] a b (suc j) e = absurd (some-ne-none b (sym e))
  at_snoc_place (x ∷ xs) a b zero e = inl e
  at_snoc_place (x ∷ xs) a b (suc j) e = ⊎_elim (λ h. inl h) (λ h. inr (ap suc h.0, h.1)) (at_snoc_place xs a b j e)

-- the account with another seat, and another next number
abbrev reseat : Account → ℕ → ℕ → ℕ → Account
reseat a n x upto = account a.log a.fixed (seat_at a.seat n x) a.holder a.head a.first upto

-- the seat of one number changes: what another pass knows stays so
reseated : (a : Account) (n x upto t id' : ℕ) (v : View) → ¬ (v.chief ≡ true) → (v.live ≡ true → v.number ≢ n) → Fits a t id' v → Fits (reseat a n x upto) t id' v
reseated a n x upto t id' v low apart h = record {
  done = h.done;
  begins = h.begins;
  has_turn = h.has_turn;
  own = λ l. let o = h.own l in record { sits = seat_else a.seat n x v.number (apart l) ∙ o.sits; entries = o.entries; begun = o.begun; fixed_is = o.fixed_is };
  heads = λ c. absurd (low c);
}

unseated : (f : ℕ → ℕ) (n m : ℕ) → f m ≡ 0 → seat_at f n 0 m ≡ 0
unseated f n m e = dite (ℕ_discrete m n) (λ q. ap (seat_at f n 0) q ∙ seat_here f n 0) (λ ne. seat_else f n 0 m ne ∙ e)

-- the longer of two beginnings is one
pub begins_longer : (log one other : List Noted) → StartsWith log one → StartsWith log other → StartsWith log (longer one other)
begins_longer log one other h g = by_case (nat_le (length one) (length other))
  where
    by_case : (b : Bool) → StartsWith log (cond b other one)
    by_case true = g
    by_case false = h

-- the longer of two beginnings has all entries of session k where the first one has
by-longer_of : (k : ℕ) (log one other mine : List Noted) → StartsWith log one → StartsWith log other → by k log ≡ mine → by k one ≡ mine → by k (longer one other) ≡ mine
by-longer_of k log one other mine h g whole begun = by_case (nat_le (length one) (length other)) refl
  where
    by_case : (b : Bool) → nat_le (length one) (length other) ≡ b → by k (cond b other one) ≡ mine
    by_case true e = by-longer k log one other mine g (starts_shorter log one other h g (leb-true (length one) (length other) e)) whole begun
    by_case false e = begun

module _ {V : Type 0} (history : V → List Noted) (fixed : V → ℕ) where
  -- a number with a seat was made
  pub was_made : (a : Account) (s : State (Option V) View) (n : ℕ) → IsKept history fixed s a → a.seat n ≢ 0 → n < a.upto
  was_made a s n r ne = elim (dec_le a.upto n) as (λ _. n < a.upto) [ yes le ↦ absurd (ne (r.later n le).0) | no d ↦ lt_of_not-le d ]

  pub splits : (id : ℕ) (v : View) → v.chief ≡ true → v.raw ≡ false → Splits (Kept history fixed) id v (with_more v) (made_by v)
  splits id v chief done s q at = let k = kept history fixed s id v at done q in let a = k.0 in let r = k.1 in let old = r.fits id v at in let h = old.heads chief in let o = old.own h.lives in
      let fresh = (r.later a.upto (omega arith)) in
      let x : ℕ = length s.views + 1 in
      let a' : Account = reseat a a.upto x (a.upto + 1) in
      let seat' : ℕ → ℕ = seat_at a.seat a.upto x in
      let seats : seat' a.upto ≡ x = seat_here a.seat a.upto x in
      let vs : List View = set s.views id (with_more v) in
      let size : length vs ≡ length s.views = length-set s.views id (with_more v) in
      let next_is : v.next ≡ a.upto = h.next_is in
      let low = h.reached in
      let head' : IsHead a' id (with_more v) = record {
        here = h.here;
        zeroth = h.zeroth;
        lives = h.lives;
        some_first = h.some_first;
        first_is = h.first_is;
        next_is = ap (λ (n : ℕ). n + 1) next_is;
        reached = omega arith;
        opened = h.opened;
        early = λ n more below. let p = h.early n more below in (seat_else a.seat a.upto x n (λ e. absurd (omega arith)) ∙ p.0, p.1);
        counted = (let c = h.counted in let d = seated_new a.seat a.upto x (λ e. absurd (omega arith)) in omega (arith, c, d));
        each = λ i y e. let g = h.each i y e in record {
          made = g.made;
          below = (let m = g.below in omega arith);
          free = seat_else a.seat a.upto x y.number (λ q. let m = g.below in absurd (omega arith)) ∙ g.free;
          entries = g.entries;
          seen = g.seen;
          before = g.before;
        };
        all = λ n from below none. dite (ℕ_discrete n a.upto)
            (λ e. absurd (let z : seat' n ≡ x = ap seat' e ∙ seats in omega arith))
            (λ ne. h.all n from (omega arith) (sym (seat_else a.seat a.upto x n ne) ∙ none));
        apart = h.apart;
      } in
      let one : Fits a' (get_or s.words 0 0) id (with_more v) = record {
        done = old.done;
        begins = old.begins;
        has_turn = old.has_turn;
        own = λ l. record { sits = seat_else a.seat a.upto x v.number (λ e. let z = ap a.seat e ∙ fresh.0 in let y = o.sits in absurd (omega arith)) ∙ o.sits; entries = o.entries; begun = o.begun; fixed_is = o.fixed_is };
        heads = λ _. head';
      } in
      let two : Fits a' (get_or s.words 0 0) (length s.views) (made_by v) = record {
        done = refl;
        begins = old.begins;
        has_turn = λ e. absurd (false≢true e);
        own = λ _. record { sits = ap seat' next_is ∙ seats; entries = ap (λ (n : ℕ). by n a.log) next_is ∙ fresh.1; begun = ap (λ (n : ℕ). by n v.seen) next_is ∙ by-none a.upto a.log v.seen old.begins fresh.1; fixed_is = o.fixed_is };
        heads = λ e. absurd (false≢true e);
      } in inr (
        a',
        record {
          words = r.words;
          homes = r.homes;
          count = r.count;
          home = λ e. let y = r.home e in let is = y.1 in (y.0, record { there = is.there; log_is = is.log_is; fixed_is = is.fixed_is });
          out = λ n. let x = r.out n in dite (ℕ_discrete a.holder id)
              (λ e. let same : v ≡ x.0 = some-injective v x.0 (sym at ∙ ap (get_elem? s.views) (sym e) ∙ x.1) in (
                with_more v,
                at_longer vs (made_by v ∷ []) a.holder (with_more v) (ap (get_elem? vs) e ∙ set_here s.views id (with_more v) (at_below s.views id v at)),
                ap (λ (u : View). u.turn) same ∙ x.2,
                h.lives,
              ))
              (λ ne. (x.0, at_longer vs (made_by v ∷ []) a.holder x.0 (set_else s.views id a.holder (with_more v) ne ∙ x.1), x.2, x.3));
          fits = λ id' v' e. ⊎_elim
              (λ e. ⊎_elim
              (λ q. subst (λ (u : View). Fits a' (get_or s.words 0 0) id' u) q.1 (subst (λ (j : ℕ). Fits a' (get_or s.words 0 0) j (with_more v)) (sym q.0) one))
              (λ q. let f = r.fits id' v' q.1 in reseated a a.upto x (a.upto + 1) (get_or s.words 0 0) id' v'
              (λ c. q.0 ((f.heads c).here ∙ sym h.here))
              (λ l e. let z = ap a.seat e ∙ fresh.0 in let y = (f.own l).sits in absurd (omega arith)) f)
              (at_set s.views id id' (with_more v) v' e))
              (λ q. subst (λ (u : View). Fits a' (get_or s.words 0 0) id' u) q.1 (subst (λ (j : ℕ). Fits a' (get_or s.words 0 0) j (made_by v)) (sym (q.0 ∙ size)) two))
              (at_snoc_place vs (made_by v) v' id' e);
          later = λ n le. let l = r.later n (omega arith) in (seat_else a.seat a.upto x n (λ e. absurd (omega arith)) ∙ l.0, l.1);
        },
      )

  pub joins : (id : ℕ) (v : View) (other : ℕ) (w : View) → v.chief ≡ true → v.turn ≡ false → v.raw ≡ false → w.live ≡ true → w.turn ≡ false → Joins (Kept history fixed) id v other w (with_ended v w) spent_view
  joins id v other w chief still done live quiet s q at ne at' = let k = kept history fixed s id v at done q in let a = k.0 in let r = k.1 in let old = r.fits id v at in let h = old.heads chief in let o = old.own h.lives in
      let both : View = with_ended v w in
      let vs : List View = set s.views id both in
      let at_w : get_elem? s.views other ≡ some w = sym (set_else s.views id other both ne) ∙ at' in
      let his = r.fits other w at_w in let p = his.own live in
      let seat' : ℕ → ℕ = seat_at a.seat w.number 0 in
      let a' : Account = reseat a w.number 0 a.upto in
      let there : a.seat w.number ≢ 0 = (λ e. let z = p.sits in absurd (omega (arith, e, z))) in
      let made = was_made a s w.number r there in
      let apart : v.number ≢ w.number = (λ e. let z = ap a.seat e in let x = o.sits in let y = p.sits in ne (omega arith)) in
      let zeroth = h.zeroth in
      let from : a.first ≤ w.number = elim (dec_le a.first w.number) as (λ _. a.first ≤ w.number) [ yes le ↦ le | no d ↦ absurd (there (h.early w.number (above_zero v.number w.number zeroth apart) (lt_of_not-le d)).0) ] in
      let head' : IsHead a' id both = record {
        here = h.here;
        zeroth = h.zeroth;
        lives = h.lives;
        some_first = h.some_first;
        first_is = h.first_is;
        next_is = h.next_is;
        reached = h.reached;
        opened = h.opened;
        early = λ n more below. let e = h.early n more below in (unseated a.seat w.number n e.0, e.1);
        counted = (let c = h.counted in let d = seated_left a.seat w.number a.upto made there in let l = length-append v.ended (ended_of v w ∷ []) in omega (arith, c, d, l));
        each = λ i x e. ⊎_elim
            (λ e. let g = h.each i x e in record { made = g.made; below = g.below; free = unseated a.seat w.number x.number g.free; entries = g.entries; seen = g.seen; before = g.before })
            (λ q. subst (HasEnded a') q (record { made = from; below = made; free = seat_here a.seat w.number 0; entries = p.entries; seen = his.begins; before = old.begins }))
            (at_snoc v.ended (ended_of v w) x i e);
        all = λ n low below none. dite (ℕ_discrete n w.number)
            (λ e. (length v.ended, ended_of v w, at_last v.ended (ended_of v w) (length v.ended) refl, sym e))
            (λ d. let g = h.all n low below (sym (seat_else a.seat w.number 0 n d) ∙ none) in (g.0, g.1, at_longer v.ended (ended_of v w ∷ []) g.0 g.1 g.2, g.3));
        apart = λ i j x y p q e. ⊎_elim
            (λ p. ⊎_elim
            (λ q. h.apart i j x y p q e)
            (λ q. absurd (there (ap a.seat (ap (λ (z : Ended). z.number) q.1 ∙ sym e) ∙ (h.each i x p).free)))
            (at_snoc_place v.ended (ended_of v w) y j q))
            (λ p. ⊎_elim
            (λ q. absurd (there (ap a.seat (ap (λ (z : Ended). z.number) p.1 ∙ e) ∙ (h.each j y q).free)))
            (λ q. p.0 ∙ sym q.0)
            (at_snoc_place v.ended (ended_of v w) y j q))
            (at_snoc_place v.ended (ended_of v w) x i p);
      } in
      let one : Fits a' (get_or s.words 0 0) id both = record {
        done = old.done;
        begins = begins_longer a.log v.seen w.seen old.begins his.begins;
        has_turn = λ e. absurd (false≢true (sym still ∙ e));
        own = λ l. record { sits = seat_else a.seat w.number 0 v.number apart ∙ o.sits; entries = o.entries; begun = by-longer_of v.number a.log v.seen w.seen v.mine old.begins his.begins o.entries o.begun; fixed_is = o.fixed_is };
        heads = λ _. head';
      } in
      let nothing : (j : ℕ) → Fits a' (get_or s.words 0 0) j spent_view = (λ j. record {
        done = refl;
        begins = (a.log, refl);
        has_turn = λ e. absurd (false≢true e);
        own = λ e. absurd (false≢true e);
        heads = λ e. absurd (false≢true e);
      }) in
      let not_other : ¬ (id ≡ other) = (λ e. ne (sym e)) in inr (
        a',
        record {
          words = r.words;
          homes = r.homes;
          count = r.count;
          home = λ e. let y = r.home e in let is = y.1 in (y.0, record { there = is.there; log_is = is.log_is; fixed_is = is.fixed_is });
          out = λ n. let x = r.out n in dite (ℕ_discrete a.holder id)
              (λ e. let same : v ≡ x.0 = some-injective v x.0 (sym at ∙ ap (get_elem? s.views) (sym e) ∙ x.1) in
              absurd (false≢true (sym still ∙ ap (λ (u : View). u.turn) same ∙ x.2)))
              (λ d. dite (ℕ_discrete a.holder other)
              (λ e. let same : w ≡ x.0 = some-injective w x.0 (sym at_w ∙ ap (get_elem? s.views) (sym e) ∙ x.1) in
              absurd (false≢true (sym quiet ∙ ap (λ (u : View). u.turn) same ∙ x.2)))
              (λ d'. (x.0, set_else vs other a.holder spent_view d' ∙ set_else s.views id a.holder both d ∙ x.1, x.2, x.3)));
          fits = λ id' v' e. ⊎_elim
              (λ q. subst (λ (u : View). Fits a' (get_or s.words 0 0) id' u) q.1 (nothing id'))
              (λ q. ⊎_elim
              (λ q. subst (λ (u : View). Fits a' (get_or s.words 0 0) id' u) q.1 (subst (λ (j : ℕ). Fits a' (get_or s.words 0 0) j both) (sym q.0) one))
              (λ q'. let f = r.fits id' v' q'.1 in reseated a w.number 0 a.upto (get_or s.words 0 0) id' v'
              (λ c. q'.0 ((f.heads c).here ∙ sym h.here))
              (λ l e. let z = ap a.seat e in let x = (f.own l).sits in let y = p.sits in q.0 (omega arith)) f)
              (at_set s.views id id' both v' q.1))
              (at_set vs other id' spent_view v' e);
          later = λ n le. let l = r.later n le in (unseated a.seat w.number n l.0, l.1);
        },
      )
    where
      above_zero : (m n : ℕ) → m ≡ 0 → m ≢ n → 0 < n
      above_zero m zero e ne = absurd (ne e)
      above_zero m (suc n) e ne = omega arith
