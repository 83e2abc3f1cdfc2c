-- Tables of which some columns are taken, one after the other.
use Rattle.std.proofs.Common.{◌≡◌, ◌≢◌, ℕ, zero, suc, ◌+◌, ◌==◌, ◌<◌, ◌≤◌, nat_lt, nat_le, nat_eq, Bool, true, false, cond, ◌&&◌, List, [], ◌∷◌, ◌++◌, length, map, drop, get_or, Option, Some, None, refl, sym, ◌∙◌, ap, subst, arith, append_assoc, add-one, length-append}
use Rattle.std.specs.List.{range_with_len}
use Rattle.std.specs.Option.{option_map_or}
use Rattle.std.proofs.Math.Seq.{drop-cons, drop-length}
use Rattle.std.proofs.lemmas.List.{append-nil, map-append}
use Rattle.std.proofs.lemmas.List.Folds.{list_all-append}
use Rattle.hq_value.specs.Kinds.{kinds_of}
use Rattle.hq_value.specs.Tables.{Definition}
use Rattle.hq_value.specs.declared.kind.Kind.{Kind}
use Rattle.hq_laws.specs.Placed.{further}
use Rattle.hq_laws.proofs.Lists.{eq_self, eq_means}
use Rattle.hq_narrow.specs.declared.taken.Taken.{Taken}
use Rattle.hq_narrow.specs.Narrow.{taken_at, place_from, places}
use Rattle.hq_whole.specs.Tables.{Defs, def_of, kinds_by, keys_by}
use Rattle.hq_planner.specs.Parts.{IsPart, AreParts, are_some}

-- the place of a column that is taken
at-place : (columns : List ℕ) (n i p : ℕ) → i < length columns → p ≡ get_or columns i p → p ≡ place_from columns n i
at-place [] n i p h e = absurd (omega (arith, h))
at-place (c ∷ columns) n zero p h e = e
at-place (c ∷ columns) n (suc i) p h e = at-place columns n i p (omega (arith, h)) e

behind-all : (columns : List ℕ) (n i : ℕ) → length columns ≤ i → n ≡ place_from columns n i
behind-all [] n i h = refl
behind-all (c ∷ columns) n zero h = absurd (omega (arith, h))
behind-all (c ∷ columns) n (suc i) h = behind-all columns n i (omega (arith, h))

pub place-some : (columns : List ℕ) (n i p : ℕ) → true ≡ nat_lt i (length columns) → p ≡ get_or columns i p → p ≡ place_from columns n i
place-some columns n i p h e = at-place columns n i p (low i (length columns) h) e
  where
    low : (m n : ℕ) → true ≡ nat_lt m n → m < n
    low m n h = grind arith

pub place-none : (columns : List ℕ) (n i : ℕ) → false ≡ nat_lt i (length columns) → n ≡ place_from columns n i
place-none columns n i h = behind-all columns n i (high i (length columns) h)
  where
    high : (m n : ℕ) → false ≡ nat_lt m n → n ≤ m
    high m n h = grind arith

-- one source more
taken-last : (ts : List Taken) (t : Taken) → taken_at (ts ++ t ∷ []) (length ts) ≡ t
taken-last [] t = refl
taken-last (x ∷ ts) t = taken-last ts t

taken-other : (ts : List Taken) (t : Taken) (v : ℕ) → v ≢ length ts → taken_at (ts ++ t ∷ []) v ≡ taken_at ts v
taken-other [] t zero h = absurd (h refl)
taken-other [] t (suc v) h = refl
taken-other (x ∷ ts) t zero h = refl
taken-other (x ∷ ts) t (suc v) h = taken-other ts t v (λ e. h (ap suc e))

def-last : (found : Defs) (n : ℕ) (d : Definition) → def_of found n ≡ None → def_of (found ++ (n, d) ∷ []) n ≡ Some d
def-last [] n d h = ap (λ b. cond b (Some d) None) (eq_self n)
def-last (e ∷ found) n d h = by (e.0 == n) h (def-last found n d)
  where
    by : (b : Bool) → cond b (Some e.1) (def_of found n) ≡ None → (def_of found n ≡ None → def_of (found ++ (n, d) ∷ []) n ≡ Some d) → cond b (Some e.1) (def_of (found ++ (n, d) ∷ []) n) ≡ Some d
    by true h rest = cc
    by false h rest = rest h

def-other : (found : Defs) (n v : ℕ) (d : Definition) → v ≢ n → def_of (found ++ (n, d) ∷ []) v ≡ def_of found v
def-other [] n v d h = by (n == v) refl
  where
    by : (b : Bool) → (n == v) ≡ b → cond b (Some d) None ≡ None
    by true e = absurd (h (sym (eq_means n v e)))
    by false e = refl
def-other (e ∷ found) n v d h = ap (λ o. cond (e.0 == v) (Some e.1) o) (def-other found n v d h)

-- what is taken of a source, and its table
abbrev PartAt : Defs → Taken → Option Definition → Type 0
PartAt defs t o = IsPart (kinds_by defs t.table) (keys_by defs t.table) t.columns (option_map_or (λ (d : Definition). kinds_of d.columns) o []) (option_map_or (λ (d : Definition). d.keys) o [])

part-same : (defs : Defs) (s t : Taken) (o p : Option Definition) → s ≡ t → o ≡ p → PartAt defs t p → PartAt defs s o
part-same defs s t o p e f part = subst (λ u. PartAt defs u o) (sym e) (subst (PartAt defs t) (sym f) part)

pub parts-more : (defs : Defs) (ts : List Taken) (found : Defs) (t : Taken) (d : Definition) → AreParts defs ts found → PartAt defs t (Some d) → are_some t ≡ true → AreParts defs (ts ++ t ∷ []) (found ++ (length ts, d) ∷ [])
parts-more defs ts found t d parts part some = record {
  each = λ v. at v (nat_eq v (length ts)) refl;
  no_more = λ v h. let l = length-append ts (t ∷ []) in def-other found (length ts) v d (behind v (omega (arith, l, h))) ∙ parts.no_more v (omega (arith, l, h));
  some = list_all-append are_some ts (t ∷ []) ∙ (λ i. parts.some i && (some i && true));
}
  where
    behind : (v : ℕ) → length ts < v → v ≢ length ts
    behind v h e = omega (arith, h, e)

    same : (v n : ℕ) → nat_eq v n ≡ true → v ≡ n
    same v n h = grind arith

    other : (v n : ℕ) → nat_eq v n ≡ false → v ≢ n
    other v n h = grind arith

    at : (v : ℕ) (b : Bool) → nat_eq v (length ts) ≡ b → PartAt defs (taken_at (ts ++ t ∷ []) v) (def_of (found ++ (length ts, d) ∷ []) v)
    at v true e =
        let here : v ≡ length ts = same v (length ts) e in
        part-same defs (taken_at (ts ++ t ∷ []) v) t (def_of (found ++ (length ts, d) ∷ []) v) (Some d) (ap (taken_at (ts ++ t ∷ [])) here ∙ taken-last ts t)
        (ap (def_of (found ++ (length ts, d) ∷ [])) here ∙ def-last found (length ts) d (parts.no_more (length ts) (omega arith))) part
    at v false e =
        part-same defs (taken_at (ts ++ t ∷ []) v) (taken_at ts v) (def_of (found ++ (length ts, d) ∷ []) v) (def_of found v) (taken-other ts t v (other v (length ts) e)) (def-other found (length ts) v d (other v (length ts) e)) (parts.each v)

-- the same, where the new source and its table were put behind the others
pub parts-put : (defs : Defs) (ts more : List Taken) (found all : Defs) (t : Taken) (d : Definition) → AreParts defs ts found → PartAt defs t (Some d) → are_some t ≡ true → more ≡ ts ++ t ∷ [] → all ≡ found ++ (length ts, d) ∷ [] → AreParts defs more all
parts-put defs ts more found all t d parts part some em ea = subst (λ us. AreParts defs us all) (sym em) (subst (AreParts defs (ts ++ t ∷ [])) (sym ea) (parts-more defs ts found t d parts part some))

-- what is taken of a table that is there
pub part-found : (defs : Defs) (t : ℕ) (whole : Definition) (columns : List ℕ) (d : Definition) → Some whole ≡ def_of defs t → IsPart (kinds_of whole.columns) whole.keys columns (kinds_of d.columns) d.keys
    → IsPart (kinds_by defs t) (keys_by defs t) columns (kinds_of d.columns) d.keys
part-found defs t whole columns d e part = subst (λ o. IsPart (option_map_or (λ (d : Definition). kinds_of d.columns) o []) (option_map_or (λ (d : Definition). d.keys) o []) columns (kinds_of d.columns) d.keys) e part

pub few-some : (t : Taken) → 0 < length t.columns → length t.columns ≤ 64 → are_some t ≡ true
few-some t some few = λ i. at-least (length t.columns) some i && at-most (length t.columns) few i
  where
    at-least : (n : ℕ) → 0 < n → nat_le 1 n ≡ true
    at-least n h = grind arith

    at-most : (n : ℕ) → n ≤ 64 → nat_le n 64 ≡ true
    at-most n h = grind arith

-- the numbers of all sources
taken-there : (before : List Taken) (t : Taken) (ts : List Taken) (n : ℕ) → length before ≡ n → taken_at (before ++ t ∷ ts) n ≡ t
taken-there [] t ts n e = ap (taken_at (t ∷ ts)) (sym e)
taken-there (b ∷ before) t ts zero e = absurd (omega (arith, e))
taken-there (b ∷ before) t ts (suc n) e = taken-there before t ts n (omega (arith, e))

taken-from : (before ts : List Taken) (n : ℕ) → length before ≡ n → map (taken_at (before ++ ts)) (range_with_len n (length ts)) ≡ ts
taken-from before [] n e = refl
taken-from before (t ∷ ts) n e =
    let l = length-append before (t ∷ []) in
    λ i. taken-there before t ts n e i ∷ (ap (λ us. map (taken_at us) (range_with_len (n + 1) (length ts))) (sym (append_assoc before (t ∷ []) ts)) ∙ taken-from (before ++ t ∷ []) ts (n + 1) (omega (arith, l, e))) i

pub taken-all : (ts : List Taken) → map (taken_at ts) (range_with_len 0 (length ts)) ≡ ts
taken-all ts = taken-from [] ts 0 refl

range-last : (a n : ℕ) → range_with_len a (suc n) ≡ range_with_len a n ++ (a + n) ∷ []
range-last a zero = let e : a ≡ a + 0 = omega arith in ap (λ m. m ∷ []) e
range-last a (suc n) = let e : a + 1 + n ≡ a + suc n = omega arith in ap (λ l. a ∷ l) (range-last (a + 1) n ∙ ap (λ m. range_with_len (a + 1) n ++ m ∷ []) e)

pub range-more : (n : ℕ) → range_with_len 0 (n + 1) ≡ range_with_len 0 n ++ n ∷ []
range-more n = let one : n + 1 ≡ suc n = omega arith in let e : 0 + n ≡ n = omega arith in ap (range_with_len 0) one ∙ range-last 0 n ∙ ap (λ m. range_with_len 0 n ++ m ∷ []) e

-- the places of the columns that are taken
further-none : (columns : List ℕ) → further 0 columns ≡ columns
further-none [] = refl
further-none (c ∷ columns) = let e : 0 + c ≡ c = omega arith in λ i. e i ∷ further-none columns i

further-twice : (w v : ℕ) (columns : List ℕ) → further w (further v columns) ≡ further (w + v) columns
further-twice w v [] = refl
further-twice w v (c ∷ columns) = let e : w + (v + c) ≡ w + v + c = omega arith in λ i. e i ∷ further-twice w v columns i

drop_next : {A : Type 0} (xs : List A) (i : ℕ) (x : A) → i < length xs → x ≡ get_or xs i x → drop i xs ≡ x ∷ drop (i + 1) xs
drop_next xs i x h e = rw add-one (drop-cons xs i x h ∙ ap (λ y. y ∷ drop (suc i) xs) (sym e))

module _ (kinds : ℕ → List Kind) (ts : List Taken) where
  pub places-next : (i w more : ℕ) (t : Taken) (all now : List ℕ) → i < length ts → t ≡ get_or ts i t → all ++ further w (places kinds (drop i ts)) ≡ places kinds ts
      → more ≡ w + length (kinds t.table) → now ≡ all ++ further w t.columns → now ++ further more (places kinds (drop (i + 1) ts)) ≡ places kinds ts
  places-next i w more t all now h e before em en =
      let rest : List ℕ = places kinds (drop (i + 1) ts) in
      (λ j. en j ++ further (em j) rest)
      ∙ append_assoc all (further w t.columns) (further (w + length (kinds t.table)) rest)
      ∙ ap (λ l. all ++ l) (ap (λ l. further w t.columns ++ l) (sym (further-twice w (length (kinds t.table)) rest)) ∙ sym (map-append (λ k. w + k) t.columns (further (length (kinds t.table)) rest)))
      ∙ ap (λ us. all ++ further w (places kinds us)) (sym (drop_next ts i t h e))
      ∙ before

  pub places-last : (w : ℕ) (all : List ℕ) → all ++ further w (places kinds (drop (length ts) ts)) ≡ places kinds ts → all ≡ places kinds ts
  places-last w all before = sym (append-nil all) ∙ ap (λ us. all ++ further w (places kinds us)) (sym (drop-length ts)) ∙ before
