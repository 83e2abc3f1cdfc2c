-- Rows that match have equal keys.
use Rattle.std.proofs.Common.{◌≡◌, ℕ, Bool, true, false, cond, not, ◌&&◌, ◌||◌, List, [], ◌∷◌, refl, sym, ◌∙◌, ap}
use Rattle.std.specs.Ordering.{is_eq, ordering_then}
use Rattle.std.specs.declared.cmp.Ordering.{Ordering}
use Rattle.std.specs.declared.cmp.Ordering.TheVariants.{Less, Equal, Greater}
use Rattle.hq_value.specs.declared.value.Value.{Value}
use Rattle.hq_value.specs.Order.{value_cmp, row_cmp}
use Rattle.hq_algebra.specs.Steps.{is_null}
use Rattle.hq_algebra.specs.Eval.{column}
use Rattle.hq_meaning.specs.Rows.{Row, same_row}
use Rattle.hq_meaning.specs.Groups.{key_of}
use Rattle.hq_meaning.specs.Operators.{matches}
use Rattle.hq_meaning.proofs.Bags.{same_equal}
use Rattle.hq_ops.specs.Grouping.{has_null}

both : (a b : Value) (n m : Bool) (o p : Ordering) → m ≡ (not n && is_eq p) → ((cond (is_null a) false (is_eq o)) && m) ≡ (not (is_null a || n) && is_eq (ordering_then o p))
both a b n m o p e = ap (λ t. cond (is_null a) false (is_eq o) && t) e ∙ by (is_null a) n o
  where
    by : (c n : Bool) (o : Ordering) → (cond c false (is_eq o) && (not n && is_eq p)) ≡ (not (c || n) && is_eq (ordering_then o p))
    by true n o = refl
    by false true Less = refl
    by false true Equal = refl
    by false true Greater = refl
    by false false Less = refl
    by false false Equal = refl
    by false false Greater = refl

never : (n : Bool) → false ≡ (n && false)
never true = refl
never false = refl

-- keys match where none of the left ones is NULL and they are equal
matches-keys : (lk rk : List ℕ) (l r : Row) → matches lk rk l r ≡ (not (has_null (key_of lk l)) && same_row (key_of lk l) (key_of rk r))
matches-keys [] [] l r = refl
matches-keys [] (j ∷ js) l r = refl
matches-keys (i ∷ is) [] l r = never (not (has_null (key_of (i ∷ is) l)))
matches-keys (i ∷ is) (j ∷ js) l r =
    both (column l i) (column r j) (has_null (key_of is l)) (matches is js l r) (value_cmp (column l i) (column r j)) (row_cmp (key_of is l) (key_of js r)) (matches-keys is js l r)

-- rows that match have equal keys
pub matching-keys : (lk rk : List ℕ) (l r : Row) → matches lk rk l r ≡ true → key_of lk l ≡ key_of rk r
matching-keys lk rk l r m = same_equal (key_of lk l) (key_of rk r) (by (has_null (key_of lk l)) (same_row (key_of lk l) (key_of rk r)) (sym (matches-keys lk rk l r) ∙ m))
  where
    by : (n s : Bool) → (not n && s) ≡ true → s ≡ true
    by true s h = cc
    by false s h = h
