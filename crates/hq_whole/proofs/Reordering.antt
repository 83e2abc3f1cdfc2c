-- A query with its sources in another order.
use Rattle.std.proofs.Common.{◌≡◌, ℕ, zero, suc, ◌+◌, ◌-◌, ◌≤◌, ◌<◌, nat_le, nat_lt, Bool, true, false, cond, not, ◌&&◌, ◌||◌, List, [], ◌∷◌, ◌++◌, length, map, flat_map, take, drop, get_or, refl, sym, ◌∙◌, ap, subst, arith, IsTrue, append_assoc}
use Rattle.std.specs.List.{list_all}
use Rattle.std.proofs.lemmas.List.{append-nil}
use Rattle.std.proofs.lemmas.List.Folds.{list_all-append}
use Rattle.hq_value.specs.declared.kind.Kind.{Kind}
use Rattle.hq_algebra.specs.declared.expr.Expr.{Expr}
use Rattle.hq_algebra.specs.declared.aggregate.Aggregate.{Aggregate}
use Rattle.hq_algebra.specs.declared.query.Query.{Query}
use Rattle.hq_algebra.specs.Rules.{is_empty, cannot_fault, are_small, arguments, stands_over_pairs, fit_sources, are_below, are_within}
use Rattle.hq_algebra.specs.Shape.{parts}
use Rattle.hq_laws.specs.Turned.{turned, renamed, renamed_aggregate, AreTurned, columns_in}
use Rattle.hq_laws.proofs.Renaming.{calm-renamed, small-renamed, arguments-renamed, pairs-renamed}
use Rattle.hq_whole.specs.Places.{Reordered, moved_up, turned_items}

split-up : (ss : List ℕ) (i j : ℕ) → i ≤ j → j < length ss → take i ss ++ (drop i (take j ss) ++ (get_or ss j 0 ∷ [] ++ drop (suc j) ss)) ≡ ss
split-up [] i j l h = absurd (omega (arith, h))
split-up (x ∷ ss) zero zero l h = refl
split-up (x ∷ ss) zero (suc j) l h = ap (λ (t : List ℕ). x ∷ t) (split-up ss zero j (omega arith) (omega (arith, h)))
split-up (x ∷ ss) (suc i) zero l h = absurd (omega (arith, l))
split-up (x ∷ ss) (suc i) (suc j) l h = ap (λ (t : List ℕ). x ∷ t) (split-up ss i j (omega (arith, l)) (omega (arith, h)))

pub reordered : (kinds : ℕ → List Kind) (q r : Query) (ss bs fs : List ℕ) (x a b c i j : ℕ)
    → ss ≡ q.sources → i ≤ j → j < length q.sources → bs ≡ take i ss → fs ≡ drop i (take j ss) → x ≡ get_or ss j 0
    → a ≡ columns_in kinds bs → b ≡ columns_in kinds fs → c ≡ length (kinds x) → r.sources ≡ moved_up i j ss → AreTurned (turned a b c) q r → Reordered kinds q r
reordered kinds q r ss bs fs x a b c i j es l h eb ef ex ea eb' ec er turn = record {
  before = take i ss;
  first = drop i (take j ss);
  second = get_or ss j 0 ∷ [];
  after = drop (suc j) ss;
  from = sym es ∙ sym (split-up ss i j l (subst (λ (ts : List ℕ). j < length ts) (sym es) h));
  to = er;
  turned = subst (λ (f : ℕ → ℕ). AreTurned f q r) (λ t. turned ((ea ∙ ap (columns_in kinds) eb) t) ((eb' ∙ ap (columns_in kinds) ef) t) ((ec ∙ ap (λ (n : ℕ). length (kinds n)) ex ∙ ap (λ (l : List Kind). length l) (sym (append-nil (kinds (get_or ss j 0))))) t)) turn;
}

moved-count : (ss : List ℕ) (i j : ℕ) → i ≤ j → j < length ss → length (moved_up i j ss) ≡ length ss
moved-count [] i j l h = absurd (omega (arith, h))
moved-count (x ∷ ss) zero zero l h = refl
moved-count (x ∷ ss) zero (suc j) l h = let r = moved-count ss zero j (omega arith) (omega (arith, h)) in omega (arith, r)
moved-count (x ∷ ss) (suc i) zero l h = absurd (omega (arith, l))
moved-count (x ∷ ss) (suc i) (suc j) l h = let r = moved-count ss i j (omega (arith, l)) (omega (arith, h)) in omega (arith, r)

pub moved-length : (ss qs ms : List ℕ) (i j : ℕ) → ss ≡ qs → i ≤ j → j < length qs → ms ≡ moved_up i j ss → length ms ≡ length qs
moved-length ss qs ms i j e l h m = ap (λ (l : List ℕ). length l) (m ∙ ap (moved_up i j) e) ∙ moved-count qs i j l h

map-length : {A B : Type 0} (f : A → B) (xs : List A) → length (map f xs) ≡ length xs
map-length f [] = refl
map-length f (x ∷ xs) = ap suc (map-length f xs)

map-empty : {A B : Type 0} (f : A → B) (xs : List A) → is_empty (map f xs) ≡ is_empty xs
map-empty f [] = refl
map-empty f (x ∷ xs) = refl

-- what the new query says of itself
module _ (f : ℕ → ℕ) (q : Query) where
  pub items-count : length (turned_items f q) ≡ length q.items
  items-count = by q.grouped
    where
      by : (b : Bool) → length (cond b q.items (map (renamed f) q.items)) ≡ length q.items
      by true = refl
      by false = map-length (renamed f) q.items

  items-small : are_small (turned_items f q) ≡ are_small q.items
  items-small = by q.grouped
    where
      by : (b : Bool) → are_small (cond b q.items (map (renamed f) q.items)) ≡ are_small q.items
      by true = refl
      by false = small-renamed f q.items

  all-small : (a b c d : List Expr) → are_small (a ++ b ++ c ++ d) ≡ (are_small a && are_small b && are_small c && are_small d)
  all-small a b c d =
      list_all-append (λ e. nat_le (parts e) 256) (a ++ b ++ c) d
      ∙ ap (λ t. t && are_small d) (list_all-append (λ e. nat_le (parts e) 256) (a ++ b) c ∙ ap (λ t. t && are_small c) (list_all-append (λ e. nat_le (parts e) 256) a b))

  pub small-kept : are_small (map (renamed f) q.conds ++ q.having ++ turned_items f q ++ arguments (map (renamed_aggregate f) q.aggregates)) ≡ true
  small-kept =
      all-small (map (renamed f) q.conds) q.having (turned_items f q) (arguments (map (renamed_aggregate f) q.aggregates))
      ∙ (λ i. small-renamed f q.conds i && are_small q.having && items-small i && (ap are_small (arguments-renamed f q.aggregates) ∙ small-renamed f (arguments q.aggregates)) i)
      ∙ sym (all-small q.conds q.having q.items (arguments q.aggregates)) ∙ q.small

  pub plain-kept : (q.grouped || (is_empty (map f q.groups) && is_empty (map (renamed_aggregate f) q.aggregates) && is_empty q.having)) ≡ true
  plain-kept = (λ i. q.grouped || (map-empty f q.groups i && map-empty (renamed_aggregate f) q.aggregates i && is_empty q.having)) ∙ q.plain

  fit-count : (xs ys : List ℕ) (aggs : List Aggregate) → length xs ≡ length ys → fit_sources xs aggs ≡ fit_sources ys aggs
  fit-count [] [] aggs e = refl
  fit-count [] (y ∷ ys) aggs e = absurd (omega (arith, e))
  fit-count (x ∷ xs) [] aggs e = absurd (omega (arith, e))
  fit-count (x ∷ []) (y ∷ []) aggs e = refl
  fit-count (x ∷ []) (y ∷ z ∷ ys) aggs e = absurd (omega (arith, e))
  fit-count (x ∷ z ∷ xs) (y ∷ []) aggs e = absurd (omega (arith, e))
  fit-count (x ∷ z ∷ xs) (y ∷ w ∷ ys) aggs e = refl

  fit-renamed : (ts : List ℕ) → fit_sources ts (map (renamed_aggregate f) q.aggregates) ≡ fit_sources ts q.aggregates
  fit-renamed [] = refl
  fit-renamed (t ∷ []) = refl
  fit-renamed (t ∷ u ∷ ts) = pairs-renamed f q.aggregates

  pub counts-kept : (ts : List ℕ) → length ts ≡ length q.sources → fit_sources ts (map (renamed_aggregate f) q.aggregates) ≡ true
  counts-kept ts e = fit-renamed ts ∙ fit-count ts q.sources q.aggregates e ∙ q.counts_of_one

  pub groups-kept : (not q.grouped || are_below (length (map f q.groups) + length (map (renamed_aggregate f) q.aggregates)) (q.having ++ turned_items f q)) ≡ true
  groups-kept = by q.grouped q.group_columns
    where
      by : (b : Bool) → (not b || are_below (length q.groups + length q.aggregates) (q.having ++ q.items)) ≡ true
          → (not b || are_below (length (map f q.groups) + length (map (renamed_aggregate f) q.aggregates)) (q.having ++ cond b q.items (map (renamed f) q.items))) ≡ true
      by true h = (λ i. are_below (map-length f q.groups i + map-length (renamed_aggregate f) q.aggregates i) (q.having ++ q.items)) ∙ h
      by false h = refl

  pub order-kept : are_within q.order (length (turned_items f q)) ≡ true
  order-kept = ap (are_within q.order) items-count ∙ q.order_columns

  pub conds-kept : cannot_fault (map (renamed f) q.conds) ≡ true
  conds-kept = calm-renamed f q.conds ∙ q.conds_fault_never

take-none : (n : ℕ) → (let none : List ℕ = [] in take n none) ≡ []
take-none zero = refl
take-none (suc n) = refl

-- a slice between two places
pub cut-between : (ss : List ℕ) (i j : ℕ) → i ≤ j → take (j - i) (drop i ss) ≡ drop i (take j ss)
cut-between ss zero j l = let e : j - 0 ≡ j = omega arith in ap (λ (n : ℕ). take n ss) e
cut-between [] (suc i) zero l = absurd (omega (arith, l))
cut-between [] (suc i) (suc j) l = take-none (suc j - suc i)
cut-between (x ∷ ss) (suc i) zero l = absurd (omega (arith, l))
cut-between (x ∷ ss) (suc i) (suc j) l = let e : suc j - suc i ≡ j - i = omega arith in ap (λ (n : ℕ). take n (drop i ss)) e ∙ cut-between ss i j (omega (arith, l))

take-whole : (ss : List ℕ) → take (length ss) ss ≡ ss
take-whole [] = refl
take-whole (x ∷ ss) = ap (λ (t : List ℕ). x ∷ t) (take-whole ss)

rest-all : (ss : List ℕ) (n : ℕ) → take (length ss - n) (drop n ss) ≡ drop n ss
rest-all ss zero = let e : length ss - 0 ≡ length ss = omega arith in ap (λ (m : ℕ). take m ss) e ∙ take-whole ss
rest-all [] (suc n) = take-none (0 - suc n)
rest-all (x ∷ ss) (suc n) = let e : suc (length ss) - suc n ≡ length ss - n = omega arith in ap (λ (m : ℕ). take m (drop n ss)) e ∙ rest-all ss n

-- as it is put together
pub up-list : (ss : List ℕ) (i j : ℕ) → i ≤ j → ((take i ss ++ get_or ss j 0 ∷ []) ++ take (j - i) (drop i ss)) ++ take (length ss - (j + 1)) (drop (j + 1) ss) ≡ moved_up i j ss
up-list ss i j l =
    let one : j + 1 ≡ suc j = omega arith in
    ap (λ (m : List ℕ). ((take i ss ++ get_or ss j 0 ∷ []) ++ take (j - i) (drop i ss)) ++ m) (rest-all ss (j + 1))
    ∙ ap (λ (n : ℕ). ((take i ss ++ get_or ss j 0 ∷ []) ++ take (j - i) (drop i ss)) ++ drop n ss) one
    ∙ ap (λ (m : List ℕ). ((take i ss ++ get_or ss j 0 ∷ []) ++ m) ++ drop (suc j) ss) (cut-between ss i j l)
    ∙ append_assoc (take i ss ++ get_or ss j 0 ∷ []) (drop i (take j ss)) (drop (suc j) ss)
    ∙ append_assoc (take i ss) (get_or ss j 0 ∷ []) (drop i (take j ss) ++ drop (suc j) ss)
