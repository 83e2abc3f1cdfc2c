-- Joins one after the other, by keys that the conditions imply, give the product where the conditions are true.
use Rattle.std.proofs.Common.{◌≡◌, ℕ, ◌+◌, Bool, true, false, cond, List, [], ◌∷◌, ◌++◌, length, map, filter, flat_map, refl, sym, ◌∙◌, ap, subst, append_assoc, length-append}
use Rattle.std.specs.List.{list_all}
use Rattle.std.proofs.lemmas.List.Elements.{filter-append}
use Rattle.hq_value.specs.declared.kind.Kind.{Kind}
use Rattle.hq_algebra.specs.declared.expr.Expr.{Expr}
use Rattle.hq_algebra.specs.Eval.{is_true_at}
use Rattle.hq_meaning.specs.Rows.{Row, pairs, kept}
use Rattle.hq_meaning.specs.Operators.{matches, beside, joined}
use Rattle.hq_meaning.specs.Mean.{product}
use Rattle.hq_laws.specs.Sources.{Source, TestsStand, SourcesStand}
use Rattle.hq_laws.specs.Gathered.{tables_of}
use Rattle.hq_laws.specs.Spread.{Joining, source_of, KeysAreImplied}
use Rattle.std.specs.List.{AllByRecursion}
use Rattle.hq_laws.proofs.Regroup.{flat_map-append}
use Rattle.hq_laws.proofs.Products.{pairs-one, one-pairs, pairs-assoc, join-pairs}

-- it has n columns
abbrev pub IsWide : ℕ → Row → Type 0
IsWide n row = length row ≡ n

pub AllByRecursion-append : {A : Type 0} (P : A → Type 0) (xs ys : List A) → AllByRecursion P xs → AllByRecursion P ys → AllByRecursion P (xs ++ ys)
AllByRecursion-append P [] ys a b = b
AllByRecursion-append P (x ∷ xs) ys a b = (a.0, AllByRecursion-append P xs ys a.1 b)

pub AllByRecursion-flat_map : {A : Type 0} (P : Row → Type 0) (f : A → List Row) → ((x : A) → AllByRecursion P (f x)) → (xs : List A) → AllByRecursion P (flat_map f xs)
AllByRecursion-flat_map P f h [] = tt
AllByRecursion-flat_map P f h (x ∷ xs) = AllByRecursion-append P (f x) (flat_map f xs) (h x) (AllByRecursion-flat_map P f h xs)

-- what holds of each pair of a join
module _ (A B P : Row → Type 0) (both : (l r : Row) → A l → B r → P (l ++ r)) (lk rk : List ℕ) where
  beside-all : (l : Row) → A l → (right : List Row) → AllByRecursion B right → AllByRecursion P (beside lk rk right l)
  beside-all l e [] all = tt
  beside-all l e (r ∷ right) all = by (matches lk rk l r) (beside-all l e right all.1)
    where
      by : (b : Bool) → AllByRecursion P (beside lk rk right l) → AllByRecursion P (map (λ r. l ++ r) (cond b (r ∷ filter (matches lk rk l) right) (filter (matches lk rk l) right)))
      by true rest = (both l r e all.0, rest)
      by false rest = rest

  pub joined-all : (left right : List Row) → AllByRecursion A left → AllByRecursion B right → AllByRecursion P (joined lk rk left right)
  joined-all [] right a b = tt
  joined-all (l ∷ left) right a b = AllByRecursion-append P (beside lk rk right l) (joined lk rk left right) (beside-all l a.0 right b) (joined-all left right a.1 b)

pub AllByRecursion-filter : {A : Type 0} (P : A → Type 0) (p : A → Bool) (xs : List A) → AllByRecursion P xs → AllByRecursion P (filter p xs)
AllByRecursion-filter P p [] all = tt
AllByRecursion-filter P p (x ∷ xs) all = by (p x) (AllByRecursion-filter P p xs all.1)
  where
    by : (b : Bool) → AllByRecursion P (filter p xs) → AllByRecursion P (cond b (x ∷ filter p xs) (filter p xs))
    by true rest = (all.0, rest)
    by false rest = rest

-- pairs are as wide as both rows
pub joined-wide : (w v : ℕ) (lk rk : List ℕ) (left right : List Row) → AllByRecursion (IsWide w) left → AllByRecursion (IsWide v) right → AllByRecursion (IsWide (w + v)) (joined lk rk left right)
joined-wide w v = joined-all (IsWide w) (IsWide v) (IsWide (w + v)) (λ l r e f. length-append l r ∙ (λ i. e i + f i))

-- the pairs at which a test is true, where the conditions imply it
module _ (w v : ℕ) (conds : List Expr) (m : Row → Row → Bool) (implied : (l r rest : Row) → length l ≡ w → length r ≡ v → list_all (λ e. is_true_at e (l ++ (r ++ rest))) conds ≡ true → m l r ≡ true) where
  abbrev passes : Row → Bool
  passes row = list_all (λ e. is_true_at e row) conds

  abbrev beside_by : List Row → Row → List Row
  beside_by right l = map (λ r. l ++ r) (filter (m l) right)

  none-pass : (l r : Row) → length l ≡ w → length r ≡ v → m l r ≡ false → (others : List Row) → kept conds (map (λ s. (l ++ r) ++ s) others) ≡ []
  none-pass l r e f apart [] = refl
  none-pass l r e f apart (s ∷ others) =
      ap (λ b. cond b (((l ++ r) ++ s) ∷ kept conds (map (λ s. (l ++ r) ++ s) others)) (kept conds (map (λ s. (l ++ r) ++ s) others))) (fails (passes ((l ++ r) ++ s)) refl)
      ∙ none-pass l r e f apart others
    where
      fails : (b : Bool) → passes ((l ++ r) ++ s) ≡ b → passes ((l ++ r) ++ s) ≡ false
      fails true g = let u : true ≡ false = sym (implied l r s e f (ap passes (sym (append_assoc l r s)) ∙ g)) ∙ apart in cc
      fails false g = g

  kept-beside : (others : List Row) (l : Row) → length l ≡ w → (right : List Row) → AllByRecursion (IsWide v) right → kept conds (pairs (beside_by right l) others) ≡ kept conds (pairs (map (λ r. l ++ r) right) others)
  kept-beside others l e [] all = refl
  kept-beside others l e (r ∷ right) all = by (m l r) refl (kept-beside others l e right all.1)
    where
      by : (b : Bool) → m l r ≡ b → kept conds (pairs (beside_by right l) others) ≡ kept conds (pairs (map (λ r. l ++ r) right) others)
          → kept conds (pairs (map (λ r. l ++ r) (cond b (r ∷ filter (m l) right) (filter (m l) right))) others) ≡ kept conds (pairs ((l ++ r) ∷ map (λ r. l ++ r) right) others)
      by true g rest =
          filter-append passes (map (λ s. (l ++ r) ++ s) others) (pairs (beside_by right l) others)
          ∙ ap (λ t. kept conds (map (λ s. (l ++ r) ++ s) others) ++ t) rest
          ∙ sym (filter-append passes (map (λ s. (l ++ r) ++ s) others) (pairs (map (λ r. l ++ r) right) others))
      by false g rest =
          rest
          ∙ ap (λ t. t ++ kept conds (pairs (map (λ r. l ++ r) right) others)) (sym (none-pass l r e all.0 g others))
          ∙ sym (filter-append passes (map (λ s. (l ++ r) ++ s) others) (pairs (map (λ r. l ++ r) right) others))

  pub kept-joined : (others left right : List Row) → AllByRecursion (IsWide w) left → AllByRecursion (IsWide v) right → kept conds (pairs (flat_map (beside_by right) left) others) ≡ kept conds (pairs (pairs left right) others)
  kept-joined others [] right a b = refl
  kept-joined others (l ∷ left) right a b =
      ap (kept conds) (flat_map-append (λ x. map (λ s. x ++ s) others) (beside_by right l) (flat_map (beside_by right) left))
      ∙ filter-append passes (pairs (beside_by right l) others) (pairs (flat_map (beside_by right) left) others)
      ∙ (λ i. kept-beside others l a.0 right b i ++ kept-joined others left right a.1 b i)
      ∙ sym (filter-append passes (pairs (map (λ r. l ++ r) right) others) (pairs (pairs left right) others))
      ∙ ap (kept conds) (sym (flat_map-append (λ x. map (λ s. x ++ s) others) (map (λ r. l ++ r) right) (pairs left right)))

-- the rows of a source that pass its tests
abbrev pub found : (ℕ → List Row) → Source → List Row
found g s = kept s.tests (g s.table)

module _ (kinds : ℕ → List Kind) (conds : List Expr) (g : ℕ → List Row) (wide : (t : ℕ) → AllByRecursion (IsWide (length (kinds t))) (g t)) where
  pub found-wide : (s : Source) → AllByRecursion (IsWide (length (kinds s.table))) (found g s)
  found-wide s = AllByRecursion-filter (IsWide (length (kinds s.table))) (λ row. list_all (λ e. is_true_at e row) s.tests) (g s.table) (wide s.table)

  -- a source beside the rows before it: its tests change nothing where the conditions are true
  kept-found : (w : ℕ) (s : Source) (left others : List Row) → AllByRecursion (IsWide w) left → TestsStand w (length (kinds s.table)) conds s.tests → kept conds (pairs (pairs left (found g s)) others) ≡ kept conds (pairs (pairs left (g s.table)) others)
  kept-found w s left others all stand = kept-joined w (length (kinds s.table)) conds (λ l r. list_all (λ e. is_true_at e r) s.tests) stand.1 others left (g s.table) all (wide s.table)

  pairs-wide : (w v : ℕ) (left right : List Row) → AllByRecursion (IsWide w) left → AllByRecursion (IsWide v) right → AllByRecursion (IsWide (w + v)) (pairs left right)
  pairs-wide w v left right a b = subst (AllByRecursion (IsWide (w + v))) (join-pairs left right) (joined-wide w v [] [] left right a b)

  -- so it is with all sources
  kept-further : (w : ℕ) (rows : List Row) (ss : List Source) → AllByRecursion (IsWide w) rows → SourcesStand kinds conds w ss → kept conds (pairs rows (product (map (found g) ss))) ≡ kept conds (pairs rows (product (map g (tables_of ss))))
  kept-further w rows [] all stand = refl
  kept-further w rows (s ∷ ss) all stand =
      ap (kept conds) (sym (pairs-assoc rows (found g s) (product (map (found g) ss))))
      ∙ kept-found w s rows (product (map (found g) ss)) all stand.0
      ∙ kept-further (w + length (kinds s.table)) (pairs rows (g s.table)) ss (pairs-wide w (length (kinds s.table)) rows (g s.table) all (wide s.table)) stand.1
      ∙ ap (kept conds) (pairs-assoc rows (g s.table) (product (map g (tables_of ss))))

  pub kept-sources : (ss : List Source) → SourcesStand kinds conds 0 ss → kept conds (product (map (found g) ss)) ≡ kept conds (product (map g (tables_of ss)))
  kept-sources ss stand =
      ap (kept conds) (sym (one-pairs (product (map (found g) ss))))
      ∙ kept-further 0 ([] ∷ []) ss (refl, tt) stand
      ∙ ap (kept conds) (one-pairs (product (map g (tables_of ss))))

-- all joins, over the rows of each source
abbrev pub chained : (Source → List Row) → List Row → List Joining → List Row
chained h rows [] = rows
chained h rows (j ∷ js) = chained h (joined j.left_keys j.right_keys rows (h (source_of j))) js

module _ (kinds : ℕ → List Kind) (conds : List Expr) (h : Source → List Row) (wide : (s : Source) → AllByRecursion (IsWide (length (kinds s.table))) (h s)) where
  pub kept-chained : (w : ℕ) (rows : List Row) (js : List Joining) → AllByRecursion (IsWide w) rows → KeysAreImplied kinds conds w js → kept conds (chained h rows js) ≡ kept conds (pairs rows (product (map h (map source_of js))))
  kept-chained w rows [] all implied = ap (kept conds) (sym (pairs-one rows))
  kept-chained w rows (j ∷ js) all implied =
      kept-chained (w + length (kinds j.table)) (joined j.left_keys j.right_keys rows (h (source_of j))) js
      (joined-wide w (length (kinds j.table)) j.left_keys j.right_keys rows (h (source_of j)) all (wide (source_of j))) implied.1
      ∙ kept-joined w (length (kinds j.table)) conds (matches j.left_keys j.right_keys) implied.0 (product (map h (map source_of js))) rows (h (source_of j)) all (wide (source_of j))
      ∙ ap (kept conds) (pairs-assoc rows (h (source_of j)) (product (map h (map source_of js))))
