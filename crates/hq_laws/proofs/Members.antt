-- What holds of a condition holds of its members.
--     is_alone e          it is no AND, so it is its one member
use Rattle.std.proofs.Common.{◌≡◌, ℕ, Bool, true, false, not, cond, ◌&&◌, ◌||◌, List, [], ◌∷◌, ◌++◌, map, filter, flat_map, refl, sym, ◌∙◌, ap}
use Rattle.std.specs.List.{list_all}
use Rattle.std.proofs.lemmas.List.Folds.{list_all-append}
use Rattle.hq_algebra.specs.declared.expr.Expr.{Expr, Row_of-Expr, end_of-Expr, more_of-Expr}
use Rattle.hq_algebra.specs.declared.expr.Expr.TheVariants as expr
use Rattle.hq_algebra.specs.declared.expr.Expr.TheBlock.{hidden-the_row-Expr-0}
use denote.Hole.Carrier.{hidden}
use Rattle.hq_algebra.specs.Eval.{only, or_null, is_true, is_true_at}
use Rattle.hq_algebra.specs.Rules.{cannot_fault}
use Rattle.hq_algebra.specs.Shape.{has_arith, arith_in}
use Rattle.hq_meaning.specs.Rows.{Row}
use Rattle.hq_laws.specs.Sources.{all_of}
use Rattle.hq_laws.specs.Tests.{members, members_in}
use Rattle.hq_laws.specs.Turned.{renamed}
use Rattle.hq_laws.proofs.Equating.{and-true}
use Rattle.hq_laws.proofs.Lists.{both_true}
use Rattle.hq_laws.proofs.Turning.{all-map}

pub all-filter : {A : Type 0} (p q : A → Bool) (xs : List A) → list_all p xs ≡ true → list_all p (filter q xs) ≡ true
all-filter p q [] h = refl
all-filter p q (x ∷ xs) h =
    let b : (p x ≡ true) × (list_all p xs ≡ true) = both_true (p x) (list_all p xs) h in
    by (q x) b.0 (all-filter p q xs b.1)
  where
    by : (c : Bool) → p x ≡ true → list_all p (filter q xs) ≡ true → list_all p (cond c (x ∷ filter q xs) (filter q xs)) ≡ true
    by true g rest = λ i. g i && rest i
    by false g rest = rest

-- no AND
abbrev pub is_alone : Expr → Bool
is_alone (expr.And' p left q right) = false
is_alone _ = true

pub alone-members : (e : Expr) → is_alone e ≡ true → members e ≡ e ∷ []
alone-members (expr.Column place) h = refl
alone-members (expr.Literal v) h = refl
alone-members (expr.Arith' step p left q right) h = refl
alone-members (expr.Compare' test p left q right) h = refl
alone-members (expr.And' p left q right) h = cc
alone-members (expr.Or' p left q right) h = refl
alone-members (expr.Not' p of) h = refl
alone-members (expr.IsNull' p of) h = refl

mutual
  members-alone : (e : Expr) → list_all is_alone (members e) ≡ true
  members-alone (expr.Column place) = refl
  members-alone (expr.Literal v) = refl
  members-alone (expr.Arith' step p left q right) = refl
  members-alone (expr.Compare' test p left q right) = refl
  members-alone (expr.And' p left q right) = list_all-append is_alone (members_in left) (members_in right) ∙ (λ i. members_in-alone left i && members_in-alone right i)
  members-alone (expr.Or' p left q right) = refl
  members-alone (expr.Not' p of) = refl
  members-alone (expr.IsNull' p of) = refl

  members_in-alone : {m : _} (of : Row_of-Expr m) → list_all is_alone (members_in of) ≡ true
  members_in-alone end_of-Expr = refl
  members_in-alone (more_of-Expr e rest) = members-alone e

pub all-alone : (conds : List Expr) → list_all is_alone (flat_map members conds) ≡ true
all-alone [] = refl
all-alone (e ∷ conds) = list_all-append is_alone (members e) (flat_map members conds) ∙ (λ i. members-alone e i && all-alone conds i)

renamed-alone : (f : ℕ → ℕ) (e : Expr) → is_alone (renamed f e) ≡ is_alone e
renamed-alone f (expr.Column place) = refl
renamed-alone f (expr.Literal v) = refl
renamed-alone f (expr.Arith' step p left q right) = refl
renamed-alone f (expr.Compare' test p left q right) = refl
renamed-alone f (expr.And' p left q right) = refl
renamed-alone f (expr.Or' p left q right) = refl
renamed-alone f (expr.Not' p of) = refl
renamed-alone f (expr.IsNull' p of) = refl

pub all-renamed-alone : (f : ℕ → ℕ) (es : List Expr) → list_all is_alone es ≡ true → list_all is_alone (map (renamed f) es) ≡ true
all-renamed-alone f es h = all-map is_alone (renamed f) es ∙ (λ i. list_all (λ e. renamed-alone f e i) es) ∙ h

-- conditions none of which is an AND, as one condition, have themselves as members
pub together-members : (e : Expr) (es : List Expr) → list_all is_alone (e ∷ es) ≡ true → members (all_of e es) ≡ e ∷ es
unfolding hidden-the_row-Expr-0 hidden
together-members e [] h = alone-members e (both_true (is_alone e) true h).0
together-members e (f ∷ es) h =
    let b : (is_alone e ≡ true) × (list_all is_alone (f ∷ es) ≡ true) = both_true (is_alone e) (list_all is_alone (f ∷ es)) h in
    λ i. alone-members e b.0 i ++ together-members f es b.1 i

-- no arithmetic
not-either : (a b : Bool) → not (a || b) ≡ true → (not a ≡ true) × (not b ≡ true)
not-either true b h = cc
not-either false b h = (refl, h)

mutual
  members-calm : (e : Expr) → not (has_arith e) ≡ true → cannot_fault (members e) ≡ true
  members-calm (expr.Column place) h = refl
  members-calm (expr.Literal v) h = refl
  members-calm (expr.Arith' step p left q right) h = cc
  members-calm (expr.Compare' test p left q right) h = λ i. h i && true
  members-calm (expr.And' p left q right) h =
      let b : (not (arith_in left) ≡ true) × (not (arith_in right) ≡ true) = not-either (arith_in left) (arith_in right) h in
      list_all-append (λ e. not (has_arith e)) (members_in left) (members_in right) ∙ (λ i. members_in-calm left b.0 i && members_in-calm right b.1 i)
  members-calm (expr.Or' p left q right) h = λ i. h i && true
  members-calm (expr.Not' p of) h = λ i. h i && true
  members-calm (expr.IsNull' p of) h = λ i. h i && true

  members_in-calm : {m : _} (of : Row_of-Expr m) → not (arith_in of) ≡ true → cannot_fault (members_in of) ≡ true
  members_in-calm end_of-Expr h = refl
  members_in-calm (more_of-Expr e rest) h = members-calm e h

pub all-calm : (conds : List Expr) → cannot_fault conds ≡ true → cannot_fault (flat_map members conds) ≡ true
all-calm [] h = refl
all-calm (e ∷ conds) h =
    let b : (not (has_arith e) ≡ true) × (cannot_fault conds ≡ true) = both_true (not (has_arith e)) (cannot_fault conds) h in
    list_all-append (λ e. not (has_arith e)) (members e) (flat_map members conds) ∙ (λ i. members-calm e b.0 i && all-calm conds b.1 i)

-- true at a row
module _ (row : Row) where
  mutual
    members-true : (e : Expr) → is_true_at e row ≡ true → list_all (λ e. is_true_at e row) (members e) ≡ true
    members-true (expr.Column place) h = λ i. h i && true
    members-true (expr.Literal v) h = λ i. h i && true
    members-true (expr.Arith' step p left q right) h = λ i. h i && true
    members-true (expr.Compare' test p left q right) h = λ i. h i && true
    members-true (expr.And' p left q right) h =
        let b = and-true (only left row) (only right row) h in
        list_all-append (λ e. is_true_at e row) (members_in left) (members_in right) ∙ (λ i. members_in-true left b.0 i && members_in-true right b.1 i)
    members-true (expr.Or' p left q right) h = λ i. h i && true
    members-true (expr.Not' p of) h = λ i. h i && true
    members-true (expr.IsNull' p of) h = λ i. h i && true

    members_in-true : {m : _} (of : Row_of-Expr m) → is_true (or_null (only of row)) ≡ true → list_all (λ e. is_true_at e row) (members_in of) ≡ true
    members_in-true end_of-Expr h = refl
    members_in-true (more_of-Expr e rest) h = members-true e h

  pub all-true : (conds : List Expr) → list_all (λ e. is_true_at e row) conds ≡ true → list_all (λ e. is_true_at e row) (flat_map members conds) ≡ true
  all-true [] h = refl
  all-true (e ∷ conds) h =
      let b : (is_true_at e row ≡ true) × (list_all (λ e. is_true_at e row) conds ≡ true) = both_true (is_true_at e row) (list_all (λ e. is_true_at e row) conds) h in
      list_all-append (λ e. is_true_at e row) (members e) (flat_map members conds) ∙ (λ i. members-true e b.0 i && all-true conds b.1 i)
