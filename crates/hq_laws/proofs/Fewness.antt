-- Few conditions hold few tests.
use Rattle.std.proofs.Common.{◌≡◌, ℕ, suc, ◌+◌, ◌-◌, ◌*◌, ◌≤◌, nat_le, Bool, true, false, cond, ◌&&◌, List, [], ◌∷◌, ◌++◌, filter, flat_map, length, length-append, refl, ◌∙◌, ap, arith, IsTrue}
use Rattle.std.proofs.lemmas.List.{length-map}
use Rattle.std.proofs.lemmas.List.Elements.{filter-append}
use Rattle.hq_value.specs.declared.kind.Kind.{Kind}
use Rattle.hq_algebra.specs.declared.expr.Expr.{Expr, Row_of-Expr, end_of-Expr, more_of-Expr}
use Rattle.hq_algebra.specs.declared.expr.Expr.TheVariants as expr
use Rattle.hq_algebra.specs.declared.query.Query.{Query}
use Rattle.hq_algebra.specs.Shape.{parts, parts_of}
use Rattle.hq_algebra.specs.Rules.{are_small}
use Rattle.hq_laws.specs.Sources.{only_column, only_literal}
use Rattle.hq_laws.specs.Turned.{renamed}
use Rattle.hq_laws.specs.Tests.{members, members_in, are_on, is_on, tests_of, with_tests, few_tests}
use Rattle.hq_laws.proofs.Lists.{both_true}
use Rattle.hq_laws.proofs.Fitness.{small-parts}

module _ (kinds : List Kind) (w : ℕ) where
  -- how many of them are tests
  abbrev on : List Expr → ℕ
  on es = length (filter (is_on kinds w) es)

  on-append : (xs ys : List Expr) → on (xs ++ ys) ≡ on xs + on ys
  on-append xs ys = ap (λ (l : List Expr). length l) (filter-append (is_on kinds w) xs ys) ∙ length-append (filter (is_on kinds w) xs) (filter (is_on kinds w) ys)

  mutual
    few-members : (e : Expr) → on (members e) + on (members e) ≤ parts e + 1
    few-members (expr.Column place) = omega arith
    few-members (expr.Literal v) = omega arith
    few-members (expr.Arith' step p left q right) = omega arith
    few-members (expr.Compare' test p left q right) = by (are_on kinds w (only_column left) (only_literal right))
      where
        by : (b : Bool) → length (cond b (expr.Compare' test p left q right ∷ []) []) + length (cond b (expr.Compare' test p left q right ∷ []) []) ≤ suc (parts_of left + parts_of right) + 1
        by true = omega arith
        by false = omega arith
    few-members (expr.And' p left q right) =
        let a = on-append (members_in left) (members_in right) in
        let b = few-in left in
        let c = few-in right in
        omega (arith, a, b, c)
    few-members (expr.Or' p left q right) = omega arith
    few-members (expr.Not' p of) = omega arith
    few-members (expr.IsNull' p of) = omega arith

    few-in : {m : _} (of : Row_of-Expr m) → on (members_in of) + on (members_in of) ≤ parts_of of + 1
    few-in end_of-Expr = omega arith
    few-in (more_of-Expr e rest) = few-members e

  few-all : (conds : List Expr) → are_small conds ≡ true → on (flat_map members conds) ≤ 128 * length conds
  few-all [] h = omega arith
  few-all (e ∷ conds) h =
      let b : (nat_le (parts e) 256 ≡ true) × (are_small conds ≡ true) = both_true (nat_le (parts e) 256) _ h in
      let p : parts e ≤ 256 = most (parts e) b.0 in
      let a = on-append (members e) (flat_map members conds) in
      let c = few-members e in
      let r = few-all conds b.1 in
      omega (arith, p, a, c, r)
    where
      most : (n : ℕ) → nat_le n 256 ≡ true → n ≤ 256
      most n h = grind arith

few-of : (kinds : List Kind) (w : ℕ) (conds : List Expr) → are_small conds ≡ true → length conds ≤ 8 → nat_le (length (tests_of kinds w conds)) 1050 ≡ true
few-of kinds w conds small eight =
    let a = few-all kinds w conds small in
    let b : length (tests_of kinds w conds) ≡ length (filter (is_on kinds w) (flat_map members conds)) = length-map (filter (is_on kinds w) (flat_map members conds)) (renamed (λ i. i - w)) in
    enough (length (tests_of kinds w conds)) (omega (arith, a, b, eight))
  where
    enough : (n : ℕ) → n ≤ 1024 → nat_le n 1050 ≡ true
    enough n h = grind arith

few-from : (kinds : ℕ → List Kind) (conds : List Expr) (w : ℕ) (ts : List ℕ) → are_small conds ≡ true → length conds ≤ 8 → few_tests (with_tests kinds conds w ts) ≡ true
few-from kinds conds w [] small eight = refl
few-from kinds conds w (t ∷ ts) small eight = λ i. few-of (kinds t) w conds small eight i && few-from kinds conds (w + length (kinds t)) ts small eight i

pub few-held : (kinds : ℕ → List Kind) (q : Query) → length q.conds ≤ 8 → IsTrue (few_tests (with_tests kinds q.conds 0 q.sources))
few-held kinds q eight = few-from kinds q.conds 0 q.sources (small-parts q).0 eight
