-- The steps of one pass keep the rule: the turn is won, the history is noted, the turn is freed, the count is looked at.
use Rattle.std.proofs.Common.{◌≡◌, ◌≢◌, ◌⊎◌, ◌<◌, ◌≤◌, ◌+◌, ℕ, zero, suc, Bool, true, false, eqb, List, [], ◌∷◌, ◌++◌, get_or, set, sym, refl, ap, ◌∙◌, subst, inl, inr, ⊎_elim, arith, length, length-set, get_or-set_same, get_or-set_other, length-append, append-nil, append_assoc, eq-eqb, ne_eqb, Option, Some, None, drop}
use Rattle.std.proofs.lemmas.List.{set-get_or}
use Rattle.std.proofs.Math.Seq.{drop-append_seam}
use Rattle.std.proofs.lemmas.Bool.{false≢true}
use mathlib.Core.Logic.{dite}
use mathlib.Core.Option.{none, some, some-injective, some-ne-none}
use native.Mathlib.Decide.{ℕ_discrete}
use prog.Atomic.{either}
use lib.ListN.{get_elem?}
use Rattle.atomic_table.specs.Table.{State, Me, Act, Step, step, keeps, takes, gives, stepped, Allows, Valid}
use Rattle.atomic_table.proofs.Lists.{at_set, set_here, set_again}
use Rattle.hq_history.specs.declared.noted.Noted.{Noted}
use Rattle.hq_history.specs.History.{by, AllBy, StartsWith}
use Rattle.hq_history.proofs.Entries.{by-more, by-still, by-rest, starts_whole, starts_after}
use Rattle.hq_histlock.specs.declared.view.View.{View}
use Rattle.hq_histlock.specs.declared.view.Ended.{Ended}
use Rattle.hq_histlock.specs.Views.{entered, noted_by}
use Rattle.hq_histlock.specs.Kept.{Account, HasEnded, IsHead, Owns, Fits, AreBeginnings, IsHome, IsKept, IsRaw, Kept, Wins, Notes, Frees, Looks}

module _ {A : Type 0} where
  pub at_below : (l : List A) (i : ℕ) (a : A) → get_elem? l i ≡ some a → i < length l
  at_below [] i a e = absurd (some-ne-none a (sym e))
  at_below (x ∷ xs) zero a e = omega arith
  at_below (x ∷ xs) (suc i) a e = let h = at_below xs i a e in omega arith

  -- an element of a list of one
  pub at_only : (x a : A) (i : ℕ) → get_elem? (x ∷ []) i ≡ some a → x ≡ a
  at_only x a zero e = some-injective x a e
  at_only x a (suc i) e = absurd (some-ne-none a (sym e))

abbrev pub account : List Noted → ℕ → (ℕ → ℕ) → ℕ → ℕ → ℕ → ℕ → Account
account log fixed seat holder head first upto = record { log = log; fixed = fixed; seat = seat; holder = holder; head = head; first = first; upto = upto }

-- the account with another history, and another holder of the turn
abbrev pub gone_on : Account → List Noted → ℕ → Account
gone_on a log holder = account log a.fixed a.seat holder a.head a.first a.upto

-- the history goes on, by entries of the number of one seat alone
pub record Grows (a : Account) (id : ℕ) (log : List Noted) : Type 0 where
  pub longer : StartsWith log a.log
  pub others : (m : ℕ) → ¬ (a.seat m ≡ id + 1) → by m log ≡ by m a.log

each_still : (a : Account) (id : ℕ) (log : List Noted) (holder : ℕ) (x : Ended) → Grows a id log → HasEnded a x → HasEnded (gone_on a log holder) x
each_still a id log holder x g h = record {
  made = h.made;
  below = h.below;
  free = h.free;
  entries = g.others x.number (λ e. let f = h.free in absurd (omega arith)) ∙ h.entries;
  seen = starts_after log a.log x.seen g.longer h.seen;
  before = starts_after log a.log x.before g.longer h.before;
}

head_still : (a : Account) (id id' : ℕ) (log : List Noted) (holder : ℕ) (v : View) (t : Bool) (seen mine : List Noted) → Grows a id log → IsHead a id' v
    → IsHead (gone_on a log holder) id' (record v { turn = t; seen = seen; mine = mine })
head_still a id id' log holder v t seen mine g h = record {
  here = h.here;
  zeroth = h.zeroth;
  lives = h.lives;
  some_first = h.some_first;
  first_is = h.first_is;
  next_is = h.next_is;
  reached = h.reached;
  opened = starts_after log a.log v.opened g.longer h.opened;
  early = λ n some below. let p = h.early n some below in (p.0, g.others n (λ e. let f = p.0 in absurd (omega arith)) ∙ p.1);
  counted = h.counted;
  each = λ k x e. each_still a id log holder x g (h.each k x e);
  all = h.all;
  apart = h.apart;
}

-- what a pass without the turn knows stays so while another's entries come
still : (a : Account) (id id' : ℕ) (log : List Noted) (holder t t' : ℕ) (v : View) → Grows a id log → ¬ (id' ≡ id) → ¬ (v.turn ≡ true) → Fits a t id' v → Fits (gone_on a log holder) t' id' v
still a id id' log holder t t' v g ne quiet h = record {
  done = h.done;
  begins = starts_after log a.log v.seen g.longer h.begins;
  has_turn = λ e. absurd (quiet e);
  own = λ l. let o = h.own l in record {
    sits = o.sits;
    entries = g.others v.number (λ e. absurd (ne (let p = o.sits in omega arith))) ∙ o.entries;
    begun = o.begun;
    fixed_is = o.fixed_is;
  };
  heads = λ c. head_still a id id' log holder v v.turn v.seen v.mine g (h.heads c);
}

-- the same history
pub same_log : (a : Account) (id : ℕ) (log : List Noted) → log ≡ a.log → Grows a id log
same_log a id log e = record { longer = ([], e ∙ sym (append-nil a.log)); others = λ m _. ap (by m) e }

module _ {V : Type 0} (history : V → List Noted) (fixed : V → ℕ) where
  -- beside a view that isn't raw, the rule has its account
  pub kept : (s : State (Option V) View) (id : ℕ) (v : View) → get_elem? s.views id ≡ some v → v.raw ≡ false → Kept history fixed s → (a : Account) × IsKept history fixed s a
  kept s id v at done k = ⊎_elim
      (λ r. let alone = r.alone in
      let same : alone.0 ≡ v = at_only alone.0 v id (ap (λ l. get_elem? l id) (sym alone.1) ∙ at) in
      absurd (false≢true (sym done ∙ ap (λ (u : View). u.raw) (sym same) ∙ alone.2)))
      (λ h. h) k

  -- one view changes with the turn, and the history may go on
  pub moved : (s : State (Option V) View) (a : Account) (id : ℕ) (v : View) (ws : List ℕ) (hs : List (mathlib.Core.Option.Option (Option V))) (log : List Noted) (holder : ℕ) (t : Bool) (seen mine : List Noted)
      → IsKept history fixed s a → get_elem? s.views id ≡ some v → Grows a id log
      → length ws ≡ 2 → length hs ≡ 1 → get_or ws 1 0 ≡ length log
      → (get_or ws 0 0 ≡ 0 → (x : V) × IsHome history fixed hs (gone_on a log holder) x)
      → (get_or ws 0 0 ≢ 0 → (t ≡ true) × (v.live ≡ true) × (holder ≡ id))
      → ((id' : ℕ) (v' : View) → get_elem? s.views id' ≡ some v' → ¬ (id' ≡ id) → ¬ (v'.turn ≡ true))
      → StartsWith log seen
      → (t ≡ true → (get_or ws 0 0 ≢ 0) × (id ≡ holder) × (log ≡ seen))
      → (v.live ≡ true → (by v.number log ≡ mine) × (by v.number seen ≡ mine))
      → Kept history fixed (record { words = ws; homes = hs; views = set s.views id (record v { turn = t; seen = seen; mine = mine }) })
  moved s a id v ws hs log holder t seen mine r at g two one count home out quiet begins turn own =
      let w : View = record v { turn = t; seen = seen; mine = mine } in
      let b : Account = gone_on a log holder in
      let old = r.fits id v at in inr (
        b,
        record {
          words = two;
          homes = one;
          count = count;
          home = home;
          out = λ n. let o = out n in (w, subst (λ (k : ℕ). get_elem? (set s.views id w) k ≡ some w) (sym o.2) (set_here s.views id w (at_below s.views id v at)), o.0, o.1);
          fits = λ id' v' e. ⊎_elim
              (λ h. subst (λ (u : View). Fits b (get_or ws 0 0) id' u) h.1
              (subst (λ (k : ℕ). Fits b (get_or ws 0 0) k w) (sym h.0) (record {
                done = old.done;
                begins = begins;
                has_turn = turn;
                own = λ l. let o = old.own l in let e = own l in record { sits = o.sits; entries = e.0; begun = e.1; fixed_is = o.fixed_is };
                heads = λ c. head_still a id id log holder v t seen mine g (old.heads c);
              })))
              (λ h. still a id id' log holder (get_or s.words 0 0) (get_or ws 0 0) v' g h.0 (quiet id' v' h.1 h.0) (r.fits id' v' h.1))
              (at_set s.views id id' w v' e);
          later = λ n le. let l = r.later n le in (l.0, g.others n (λ e. let p = l.0 in absurd (omega arith)) ∙ l.1);
        },
      )

  -- nothing changed
  same_state : (s : State (Option V) View) (i id : ℕ) (v : View) → get_elem? s.views id ≡ some v → s ≡ record { words = set s.words i (get_or s.words i 0); homes = s.homes; views = set s.views id v }
  same_state s i id v at k = record { words = sym (set-get_or s.words i 0) k; homes = s.homes; views = sym (set_again s.views id v at) k }

  pub wins : (n id : ℕ) (me : Me (Option V) View) → me.0.live ≡ true → me.0.raw ≡ false → Allows (Kept history fixed) n id me 0 (λ x. either (eqb x 0) 1 x) (Wins history fixed (step n 0 0 1 none) me)
  wins n id me live done s h _ at _ = let k = kept s id me.0 at done h in let a = k.0 in let r = k.1 in let x : ℕ = get_or s.words 0 0 in let v = me.0 in let old = r.fits id v at in let o = old.own live in dite (ℕ_discrete x 0)
      (λ hit. let home = r.home hit in let y = home.0 in let is = home.1 in
      let new : get_or (set s.words 0 1) 0 0 ≡ 1 = get_or-set_same s.words 0 1 0 (let p = r.words in omega arith) in (
        entered v (history y),
        takes 0 (Some y),
        is.there,
        subst (λ (b : Bool). Kept history fixed (stepped s 0 (either b 1 x) id me.1 (entered v (history y)) (takes 0 (Some y)))) (sym (eq-eqb x 0 hit))
            (moved s a id v (set s.words 0 1) (set s.homes 0 none) (history y) id true (history y) v.mine r at (same_log a id (history y) is.log_is)
            (length-set s.words 0 1 ∙ r.words) (length-set s.homes 0 none ∙ r.homes)
            (get_or-set_other s.words 0 1 1 0 (omega arith) ∙ (r.count ∙ ap length (sym is.log_is)))
            (λ e. absurd (omega arith))
            (λ _. (refl, live, refl))
            (λ id' v' e _ t. ((r.fits id' v' e).has_turn t).0 hit)
            (starts_whole (history y))
            (λ _. ((λ e. absurd (omega arith)), refl, refl))
            (λ l. let e = ap (by v.number) is.log_is ∙ (old.own l).entries in (e, e))),
        (
          (λ _. let b = old.begins in (
            y,
            refl,
            (b.0, is.log_is ∙ b.1, by-rest v.number v.seen b.0 v.mine (ap (by v.number) (sym b.1) ∙ o.entries) o.begun),
            ap (by v.number) is.log_is ∙ o.entries,
            is.fixed_is ∙ sym o.fixed_is,
          )),
          λ not. absurd (not hit),
        ),
      ))
      (λ miss. (
        v,
        keeps,
        tt,
        subst (λ (b : Bool). Kept history fixed (stepped s 0 (either b 1 x) id me.1 v keeps)) (sym (ne_eqb x 0 miss)) (subst (Kept history fixed) (same_state s 0 id v at) h),
        ((λ hit. absurd (miss hit)), λ _. refl),
      ))

  pub looks : (n id : ℕ) (me : Me (Option V) View) → me.0.raw ≡ false → Allows (Kept history fixed) n id me 1 (λ x. x) (Looks history fixed (step n 1 0 0 none) me)
  looks n id me done s h _ at _ = let k = kept s id me.0 at done h in let a = k.0 in let r = k.1 in let old = r.fits id me.0 at in (
    me.0,
    keeps,
    tt,
    subst (Kept history fixed) (same_state s 1 id me.0 at) h,
    (refl, (a.log, r.count, record { seen = old.begins; ended = λ c i x e. let g = (old.heads c).each i x e in (g.seen, g.before) })),
  )

  notes_held : (n id : ℕ) (v : View) (x : V) (new : List Noted) (count : ℕ) → v.turn ≡ true → v.live ≡ true → v.raw ≡ false → history x ≡ v.seen ++ new → AllBy v.number new → count ≡ length (history x)
      → Allows (Kept history fixed) n id (v, (0, Some x) ∷ []) 1 (λ _. count) (Notes history fixed (step n 1 count 0 none) (v, (0, Some x) ∷ []))
  notes_held n id v x new count turn live done is mine long s h _ at _ = let k = kept s id v at done h in let a = k.0 in let r = k.1 in let old = r.fits id v at in let t = old.has_turn turn in let o = old.own live in
      let more : drop (length v.seen) (history x) ≡ new = ap (drop (length v.seen)) is ∙ drop-append_seam v.seen new in
      let grown : history x ≡ a.log ++ new = is ∙ ap (λ (l : List Noted). l ++ new) (sym t.2) in
      let here : get_or (set s.words 1 count) 0 0 ≡ get_or s.words 0 0 = get_or-set_other s.words 1 0 count 0 (omega arith) in (
        noted_by v (history x),
        keeps,
        tt,
        moved s a id v (set s.words 1 count) s.homes (history x) a.holder v.turn (history x) (v.mine ++ drop (length v.seen) (history x)) r at
            (record { longer = (new, grown); others = λ m ne. ap (by m) grown ∙ by-still v.number m a.log new (by m a.log) mine (λ q. ne (ap a.seat q ∙ o.sits)) refl })
            (length-set s.words 1 count ∙ r.words) r.homes
            (get_or-set_same s.words 1 count 0 (let p = r.words in omega arith) ∙ long)
            (λ e. absurd (t.0 (sym here ∙ e)))
            (λ _. (turn, live, sym t.1))
            (λ id' v' e ne q. ne (((r.fits id' v' e).has_turn q).1 ∙ sym t.1))
            (starts_whole (history x))
            (λ _. ((λ e. t.0 (sym here ∙ e)), t.1, refl))
            (λ _. let e = ap (by v.number) grown ∙ by-more v.number a.log new v.mine mine o.entries ∙ ap (λ (l : List Noted). v.mine ++ l) (sym more) in (e, e)),
        refl,
      )

  pub notes : (n id : ℕ) (me : Me (Option V) View) (x : V) (new : List Noted) (count : ℕ) → me.1 ≡ (0, Some x) ∷ [] → me.0.turn ≡ true → me.0.live ≡ true → me.0.raw ≡ false → history x ≡ me.0.seen ++ new → AllBy me.0.number new → count ≡ length (history x)
      → Allows (Kept history fixed) n id me 1 (λ _. count) (Notes history fixed (step n 1 count 0 none) me)
  notes n id me x new count out turn live done is mine long = subst (λ c. Allows (Kept history fixed) n id (me.0, c) 1 (λ _. count) (Notes history fixed (step n 1 count 0 none) (me.0, c))) (sym out) (notes_held n id me.0 x new count turn live done is mine long)

  frees_held : (n id : ℕ) (v : View) (x : V) → v.turn ≡ true → v.live ≡ true → v.raw ≡ false → history x ≡ v.seen → fixed x ≡ v.fixed
      → Allows (Kept history fixed) n id (v, (0, Some x) ∷ []) 0 (λ _. 0) (Frees history fixed (step n 0 0 0 none) (v, (0, Some x) ∷ []))
  frees_held n id v x turn live done is same s h _ at _ = let k = kept s id v at done h in let a = k.0 in let r = k.1 in let old = r.fits id v at in let t = old.has_turn turn in let o = old.own live in
      let zeroed : get_or (set s.words 0 0) 0 0 ≡ 0 = get_or-set_same s.words 0 0 0 (let p = r.words in omega arith) in (
        record v { turn = false },
        gives,
        tt,
        moved s a id v (set s.words 0 0) (set s.homes 0 (some (Some x))) a.log a.holder false v.seen v.mine r at (same_log a id a.log refl)
            (length-set s.words 0 0 ∙ r.words) (length-set s.homes 0 (some (Some x)) ∙ r.homes)
            (get_or-set_other s.words 0 1 0 0 (omega arith) ∙ r.count)
            (λ _. (x, record { there = set_here s.homes 0 (some (Some x)) (let p = r.homes in omega arith); log_is = is ∙ sym t.2; fixed_is = same ∙ o.fixed_is }))
            (λ ne. absurd (ne zeroed))
            (λ id' v' e ne q. ne (((r.fits id' v' e).has_turn q).1 ∙ sym t.1))
            old.begins
            (λ e. absurd (false≢true e))
            (λ l. let e = old.own l in (e.entries, e.begun)),
        refl,
      )

  pub frees : (n id : ℕ) (me : Me (Option V) View) (x : V) → me.1 ≡ (0, Some x) ∷ [] → me.0.turn ≡ true → me.0.live ≡ true → me.0.raw ≡ false → history x ≡ me.0.seen → fixed x ≡ me.0.fixed
      → Allows (Kept history fixed) n id me 0 (λ _. 0) (Frees history fixed (step n 0 0 0 none) me)
  frees n id me x out turn live done is same = subst (λ c. Allows (Kept history fixed) n id (me.0, c) 0 (λ _. 0) (Frees history fixed (step n 0 0 0 none) (me.0, c))) (sym out) (frees_held n id me.0 x turn live done is same)
