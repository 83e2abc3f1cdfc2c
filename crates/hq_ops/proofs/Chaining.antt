-- Chains of rows by the hash of their keys, and what a walk over one finds.
use Rattle.std.proofs.Common.{◌≡◌, ℕ, suc, ◌+◌, ◌<◌, ◌≤◌, ◌==◌, Bool, true, false, cond, List, [], ◌∷◌, ◌++◌, length, map, filter, drop, get_or, replicate, slice_set, inl, inr, refl, subst, sym, ◌∙◌, ap, arith, append_assoc}
use Rattle.std.proofs.lemmas.List.{append-nil, length-drop, length-set, drop_more, drop_all, get_or-set_same, get_or-set_other, get_or-replicate, length-replicate, map-append}
use Rattle.std.specs.List.{AllByRecursion}
use Rattle.std.proofs.lemmas.List.Elements.{filter-append, All-from_recursion, recursion_from_All}
use Rattle.std.proofs.lemmas.Bool.{eqb-true, eq-eqb, cases_eq}
use Rattle.hq_meaning.specs.Rows.{Row}
use Rattle.hq_meaning.specs.Groups.{key_of}
use Rattle.hq_meaning.specs.Operators.{matches, beside}
use Rattle.hq_ops.specs.Chains.{chain_by, places, row_at, Linked, AreChained}
use Rattle.hq_ops.proofs.Joining.{matching-keys}

heads : {X : Type 0} (p q : X) (ps qs : List X) → p ∷ ps ≡ q ∷ qs → p ≡ q
heads p q ps qs e = cc

tails : {X : Type 0} (p q : X) (ps qs : List X) → p ∷ ps ≡ q ∷ qs → ps ≡ qs
tails p q ps qs e = cc

-- the chain from a place on, link by link
abbrev pub Links : List ℕ → ℕ → List ℕ → Type 0
Links next p [] = p ≡ length next
Links next p (q ∷ qs) = (p ≡ q) × (q < length next) × Links next (get_or next q 0) qs

-- its places as a list that leads from each to the next
abbrev leads : List ℕ → ℕ → List ℕ → Type 0
leads next p qs = p ∷ map (λ q. get_or next q 0) qs ≡ qs ++ length next ∷ []

pub linked : (next : List ℕ) (p : ℕ) (qs : List ℕ) → Links next p qs → Linked next p qs
linked next p qs l = (led p qs l, All-from_recursion (λ q. q < length next) qs (within p qs l))
  where
    led : (p : ℕ) (qs : List ℕ) → Links next p qs → leads next p qs
    led p [] l = ap (λ n. n ∷ []) l
    led p (q ∷ qs) l = λ i. l.0 i ∷ led (get_or next q 0) qs l.2 i

    within : (p : ℕ) (qs : List ℕ) → Links next p qs → AllByRecursion (λ q. q < length next) qs
    within p [] l = tt
    within p (q ∷ qs) l = (l.1, within (get_or next q 0) qs l.2)

pub links : (next : List ℕ) (p : ℕ) (qs : List ℕ) → Linked next p qs → Links next p qs
links next p qs l = by p qs l.0 (recursion_from_All (λ q. q < length next) qs l.1)
  where
    by : (p : ℕ) (qs : List ℕ) → leads next p qs → AllByRecursion (λ q. q < length next) qs → Links next p qs
    by p [] e all = cc
    by p (q ∷ qs) e all = (heads p q (map (λ q. get_or next q 0) (q ∷ qs)) (qs ++ length next ∷ []) e, all.0, by (get_or next q 0) qs (tails p q (map (λ q. get_or next q 0) (q ∷ qs)) (qs ++ length next ∷ []) e) all.1)

-- all places are behind this one
abbrev Behind : ℕ → List ℕ → Type 0
Behind p [] = Unit {0}
Behind p (q ∷ qs) = (p < q) × Behind p qs

module _ (count : ℕ) (keys : List ℕ) (c : ℕ) where
  behind : (p from : ℕ) → p < from → (rows : List Row) → Behind p (places count keys c from rows)
  behind p from lt [] = tt
  behind p from lt (r ∷ rows) = by (chain_by count (key_of keys r) == c) (behind p (suc from) (omega (arith, lt)) rows)
    where
      by : (b : Bool) → Behind p (places count keys c (suc from) rows) → Behind p (cond b (from ∷ places count keys c (suc from) rows) (places count keys c (suc from) rows))
      by true rest = (lt, rest)
      by false rest = rest

-- what a place is linked to changes no chain behind it
kept : (next : List ℕ) (p v q : ℕ) (qs : List ℕ) → Behind p qs → Links next q qs → Links (slice_set next p v) q qs
kept next p v q [] b l = l ∙ sym (length-set next p v)
kept next p v q (r ∷ qs) b l =
    let long = length-set next p v in (
      l.0,
      omega (arith, long, l.1),
      subst (λ n. Links (slice_set next p v) n qs) (sym (get_or-set_other next p r v 0 (λ e. omega (arith, e, b.0)))) (kept next p v (get_or next r 0) qs b.1 l.2),
    )

-- a chain begins with its first place, or past the end
begins : (next : List ℕ) (p q : ℕ) (qs : List ℕ) → p < length next → Behind p qs → Links next q qs → p < q
begins next p q [] lt b l = omega (arith, lt, l)
begins next p q (r ∷ qs) lt b l = omega (arith, l.0, b.0)

-- one row more is linked before the others
pub linked-more : (keys : List ℕ) (rows : List Row) (first next : List ℕ) (p chain : ℕ) (d : Row) → p < length rows → chain < length first
    → chain ≡ chain_by (length first) (key_of keys (get_or rows p d))
    → AreChained keys rows first next (p + 1) → AreChained keys rows (slice_set first chain p) (slice_set next p (get_or first chain 0)) p
linked-more keys rows first next p chain d low inside is before =
    let firsts = length-set first chain p in
    let nexts = length-set next p (get_or first chain 0) in
    record {
      some = omega (arith, firsts, before.some);
      long = nexts ∙ before.long;
      rises = λ q lt. rising q (omega (arith, nexts, lt));
      chained = λ c lt. linked _ _ _ (subst (λ n. Links (slice_set next p (get_or first chain 0)) (get_or (slice_set first chain p) c 0) (places n keys c p (drop p rows))) (sym firsts) (each c (omega (arith, firsts, lt))));
    }
  where
    on : p + 1 ≡ suc p
    on = omega arith

    here : p < length next
    here = omega (arith, low, before.long)

    rest : ℕ → List ℕ
    rest c = places (length first) keys c (p + 1) (drop (p + 1) rows)

    later : (c : ℕ) → Behind p (rest c)
    later c = behind (length first) keys c p (p + 1) (omega arith) (drop (p + 1) rows)

    rising : (q : ℕ) → q < length next → q < get_or (slice_set next p (get_or first chain 0)) q 0
    rising q lt = elim (cases_eq q p) [
      | inl e ↦ subst (λ n. q < n) (sym (ap (λ n. get_or (slice_set next p (get_or first chain 0)) n 0) e ∙ get_or-set_same next p (get_or first chain 0) 0 here)) (let up = begins next p (get_or first chain 0) (rest chain) here (later chain) (links next _ _ (before.chained chain inside)) in omega (arith, e, up))
      | inr n ↦ subst (λ m. q < m) (sym (get_or-set_other next p q (get_or first chain 0) 0 n)) (before.rises q lt)
    ]

    each : (c : ℕ) → c < length first → Links (slice_set next p (get_or first chain 0)) (get_or (slice_set first chain p) c 0) (places (length first) keys c p (drop p rows))
    each c lt = subst (λ l. Links (slice_set next p (get_or first chain 0)) (get_or (slice_set first chain p) c 0) (places (length first) keys c p l)) (sym (drop_more rows p d low))
        (by (chain_by (length first) (key_of keys (get_or rows p d)) == c) refl)
      where
        by : (b : Bool) → (chain_by (length first) (key_of keys (get_or rows p d)) == c) ≡ b
            → Links (slice_set next p (get_or first chain 0)) (get_or (slice_set first chain p) c 0) (cond b (p ∷ places (length first) keys c (suc p) (drop (p + 1) rows)) (places (length first) keys c (suc p) (drop (p + 1) rows)))
        by true e =
            let same : chain ≡ c = is ∙ eqb-true _ _ e in (
              ap (λ n. get_or (slice_set first chain p) n 0) (sym same) ∙ get_or-set_same first chain p 0 inside,
              omega (arith, here, length-set next p (get_or first chain 0)),
              subst (λ n. Links (slice_set next p (get_or first chain 0)) n (places (length first) keys c (suc p) (drop (p + 1) rows))) (sym (get_or-set_same next p (get_or first chain 0) 0 here))
                  (subst (λ f. Links (slice_set next p (get_or first chain 0)) (get_or first chain 0) (places (length first) keys c f (drop (p + 1) rows))) on
                  (kept next p (get_or first chain 0) (get_or first chain 0) (rest c) (later c) (subst (λ n. Links next (get_or first n 0) (rest c)) (sym same) (links next _ _ (before.chained c lt))))),
            )
        by false e =
            subst (λ n. Links (slice_set next p (get_or first chain 0)) n (places (length first) keys c (suc p) (drop (p + 1) rows)))
            (sym (get_or-set_other first chain c p 0 (λ s. let u : true ≡ false = sym (eq-eqb chain c (sym s)) ∙ ap (λ n. n == c) is ∙ e in cc)))
            (subst (λ f. Links (slice_set next p (get_or first chain 0)) (get_or first c 0) (places (length first) keys c f (drop (p + 1) rows))) on
            (kept next p (get_or first chain 0) (get_or first c 0) (rest c) (later c) (links next _ _ (before.chained c lt))))

-- nothing is linked yet
pub nothing-linked : (keys : List ℕ) (rows : List Row) (count : ℕ) → 0 < count
    → AreChained keys rows (replicate count (length rows)) (replicate (length rows) (length rows)) (length rows)
nothing-linked keys rows count some =
    let firsts = length-replicate count (length rows) in
    let nexts = length-replicate (length rows) (length rows) in
    record {
      some = omega (arith, firsts, some);
      long = nexts;
      rises = λ q lt. let at = get_or-replicate (length rows) q (length rows) 0 (omega (arith, nexts, lt)) in omega (arith, nexts, lt, at);
      chained = λ c lt.
          let at = get_or-replicate count c (length rows) 0 (omega (arith, firsts, lt)) in
          linked _ _ _ (subst (λ l. Links (replicate (length rows) (length rows)) (get_or (replicate count (length rows)) c 0) (places (length (replicate count (length rows))) keys c (length rows) l)) (sym (drop_all (length rows) rows (omega arith))) (at ∙ sym nexts));
    }

-- a chain has each row that passes a test which only its rows pass
module _ (count : ℕ) (keys : List ℕ) (c : ℕ) (m : Row → Bool) (only : (r : Row) → m r ≡ true → chain_by count (key_of keys r) ≡ c) (rows : List Row) where
  passing : (xs : List Row) (a : ℕ) → drop a rows ≡ xs → filter m (map (row_at rows) (places count keys c a xs)) ≡ filter m xs
  passing [] a e = refl
  passing (x ∷ xs) a e = by (chain_by count (key_of keys x) == c) refl (passing xs (suc a) after)
    where
      some : a < length rows
      some = let n : length (drop a rows) ≡ suc (length xs) = ap length e in let l = length-drop a rows in omega (arith, n, l)

      parts : get_or rows a [] ∷ drop (a + 1) rows ≡ x ∷ xs
      parts = sym (drop_more rows a [] some) ∙ e

      at : row_at rows a ≡ x
      at = heads (row_at rows a) x (drop (a + 1) rows) xs parts

      after : drop (suc a) rows ≡ xs
      after = let on : a + 1 ≡ suc a = omega arith in ap (λ n. drop n rows) (sym on) ∙ tails (row_at rows a) x (drop (a + 1) rows) xs parts

      rest : List ℕ
      rest = places count keys c (suc a) xs

      by : (b : Bool) → (chain_by count (key_of keys x) == c) ≡ b → filter m (map (row_at rows) rest) ≡ filter m xs
          → filter m (map (row_at rows) (cond b (a ∷ rest) rest)) ≡ cond (m x) (x ∷ filter m xs) (filter m xs)
      by true e same = (λ i. cond (m (at i)) (at i ∷ same i) (same i))
      by false e same = same ∙ out (m x) refl
        where
          out : (b : Bool) → m x ≡ b → filter m xs ≡ cond b (x ∷ filter m xs) (filter m xs)
          out true p = let u : true ≡ false = sym (eq-eqb _ _ (only x p)) ∙ e in cc
          out false p = refl

pub chain-inside : (count : ℕ) (key : Row) → 0 < count → chain_by count key < count
chain-inside count key some = omega (arith, some)

-- a left row matches only rows of the chain of its key
pub chain-is-all : (count : ℕ) (lk rk : List ℕ) (l : Row) (rows : List Row)
    → beside lk rk (map (row_at rows) (places count rk (chain_by count (key_of lk l)) 0 rows)) l ≡ beside lk rk rows l
chain-is-all count lk rk l rows =
    ap (map (λ (r : Row). l ++ r)) (passing count rk (chain_by count (key_of lk l)) (matches lk rk l) (λ r m. ap (chain_by count) (sym (matching-keys lk rk l r m))) rows rows 0 refl)

pub beside-append : (lk rk : List ℕ) (l : Row) (xs ys : List Row) → beside lk rk (xs ++ ys) l ≡ beside lk rk xs l ++ beside lk rk ys l
beside-append lk rk l xs ys = ap (map (λ (r : Row). l ++ r)) (filter-append (matches lk rk l) xs ys) ∙ map-append (λ (r : Row). l ++ r) (filter (matches lk rk l) xs) (filter (matches lk rk l) ys)

-- a walk over a chain: there is a rest, whose pairs are still to come
pub record Walks (next : List ℕ) (lk rk : List ℕ) (l : Row) (rows found old : List Row) (place : ℕ) (all : List ℕ) : Type 0 where
  pub rest : List ℕ
  pub linked : Links next place rest
  pub is : found ++ beside lk rk (map (row_at rows) rest) l ≡ old ++ beside lk rk (map (row_at rows) all) l

pub walk-more : (next : List ℕ) (lk rk : List ℕ) (l : Row) (rows found more old : List Row) (place : ℕ) (all : List ℕ) (row : Row) → length next ≡ length rows → place < length rows
    → row ≡ get_or rows place [] → more ≡ found ++ beside lk rk (row ∷ []) l
    → Walks next lk rk l rows found old place all → Walks next lk rk l rows more old (get_or next place 0) all
walk-more next lk rk l rows found more old place all row long low at em w = by w.rest w.linked w.is
  where
    by : (rest : List ℕ) → Links next place rest → found ++ beside lk rk (map (row_at rows) rest) l ≡ old ++ beside lk rk (map (row_at rows) all) l → Walks next lk rk l rows more old (get_or next place 0) all
    by [] walk is = absurd (omega (arith, long, low, walk))
    by (q ∷ qs) walk is = record {
      rest = qs;
      linked = subst (λ n. Links next (get_or next n 0) qs) (sym walk.0) walk.2;
      is =
          ap (λ f. f ++ beside lk rk (map (row_at rows) qs) l) (em ∙ ap (λ r. found ++ beside lk rk (r ∷ []) l) (at ∙ ap (row_at rows) walk.0))
          ∙ append_assoc found (beside lk rk (row_at rows q ∷ []) l) (beside lk rk (map (row_at rows) qs) l)
          ∙ ap (λ b. found ++ b) (sym (beside-append lk rk l (row_at rows q ∷ []) (map (row_at rows) qs)))
          ∙ is;
    }

pub walk-ends : (next : List ℕ) (lk rk : List ℕ) (l : Row) (rows found old : List Row) (place : ℕ) (all : List ℕ) → length next ≡ length rows → length rows ≤ place
    → Walks next lk rk l rows found old place all → found ≡ old ++ beside lk rk (map (row_at rows) all) l
walk-ends next lk rk l rows found old place all long high w = by w.rest w.linked w.is
  where
    by : (rest : List ℕ) → Links next place rest → found ++ beside lk rk (map (row_at rows) rest) l ≡ old ++ beside lk rk (map (row_at rows) all) l → found ≡ old ++ beside lk rk (map (row_at rows) all) l
    by [] walk is = sym (append-nil found) ∙ is
    by (q ∷ qs) walk is = absurd (omega (arith, long, high, walk.0, walk.1))
