-- What is written of a whole, from what is written of its parts.
use Rattle.std.proofs.Common.{◌≡◌, ℕ, List, [], ◌∷◌, ◌++◌, Option, Some, sym, ap, subst, ◌∙◌, append_assoc}
use Rattle.hq_value.specs.declared.operator.ArithKind.{ArithKind}
use Rattle.hq_value.specs.declared.operator.CompareKind.{CompareKind}
use Rattle.hq_algebra.specs.declared.expr.Expr.{Expr}
use Rattle.hq_algebra.specs.declared.expr.Expr.TheVariants as expr
use Rattle.hq_algebra.specs.declared.op.Op.{Op}
use Rattle.hq_planwire.specs.Bytes.{arith_byte, compare_byte, expr_bytes, op_bytes}
use Rattle.hq_planwire.specs.Ranges.{ExprHasRoom, OpHasRoom}
use Rattle.hq_planwire.specs.Wire.{Written}
use Rattle.hq_planwire.proofs.ExprCodecs.{two_bytes, TwoHaveRoom, arith_spelled, compare_spelled, and_spelled, or_spelled, not_spelled, is_null_spelled, arith_room, compare_room, and_room, or_room, not_room, is_null_room}

-- one behind the other
pub then_put : {A B : Type 0} {ok_a : A → Type 0} {put_a : A → List ℕ} {ok_b : B → Type 0} {put_b : B → List ℕ} {a : A} {b : B} {w1 w2 w3 : List ℕ}
    → Written ok_a put_a w1 a w2 → Written ok_b put_b w2 b w3 → Written (λ (p : A × B). ok_a p.0 × ok_b p.1) (λ (p : A × B). put_a p.0 ++ put_b p.1) w1 (a, b) w3
then_put {A} {B} {ok_a} {put_a} {ok_b} {put_b} {a} {b} {w1} {w2} {w3} h k = record {
  appended = k.appended ∙ ap (λ (l : List ℕ). l ++ put_b b) h.appended ∙ append_assoc w1 (put_a a) (put_b b);
  has_room = (h.has_room, k.has_room);
}

-- a front, and the parts behind it
pub make_put : {P C : Type 0} {ok_p : P → Type 0} {put_p : P → List ℕ} {p : P} {w1 w3 : List ℕ} (ok : C → Type 0) (put : C → List ℕ) (c : C) (front w0 : List ℕ)
    → w1 ≡ w0 ++ front → put c ≡ front ++ put_p p → (ok_p p → ok c) → Written ok_p put_p w1 p w3 → Written ok put w0 c w3
make_put {P} {C} {ok_p} {put_p} {p} {w1} {w3} ok put c front w0 first spelled is_ok h = record {
  appended = h.appended ∙ ap (λ (l : List ℕ). l ++ put_p p) first ∙ append_assoc w0 front (put_p p) ∙ ap (λ (l : List ℕ). w0 ++ l) (sym spelled);
  has_room = is_ok h.has_room;
}

-- what was written of x was written of what x is
pub put_same : {A : Type 0} {ok : A → Type 0} {put : A → List ℕ} {x y : A} {w1 w2 : List ℕ} → x ≡ y → Written ok put w1 x w2 → Written ok put w1 y w2
put_same {A} {ok} {put} {x} {y} {w1} {w2} e h = subst (λ (z : A). Written ok put w1 z w2) e h

abbrev pub PutOp : List ℕ → Op → List ℕ → Type 0
PutOp w1 o w2 = Written OpHasRoom op_bytes w1 o w2

-- ---- expressions

abbrev pub PutExpr : List ℕ → Expr → List ℕ → Type 0
PutExpr w1 e w2 = Written ExprHasRoom expr_bytes w1 e w2

pub arith_put : (e l r x y : Expr) (step : ArithKind) (b : ℕ) (w0 w1 w2 w3 : List ℕ) → e ≡ expr.Arith step l r → x ≡ l → y ≡ r → b ∷ [] ≡ arith_byte step → w1 ≡ w0 ++ 3 ∷ b ∷ [] → PutExpr w1 x w2 → PutExpr w2 y w3 → PutExpr w0 e w3
arith_put e l r x y step b w0 w1 w2 w3 is xl yr byte first h k =
    put_same (sym is) (make_put ExprHasRoom expr_bytes (expr.Arith step l r) (3 ∷ arith_byte step) w0 (first ∙ ap (λ (l : List ℕ). w0 ++ 3 ∷ l) byte) (arith_spelled step (l, r)) (arith_room step (l, r)) (then_put (put_same xl h) (put_same yr k)))

pub compare_put : (e l r x y : Expr) (test : CompareKind) (b : ℕ) (w0 w1 w2 w3 : List ℕ) → e ≡ expr.Compare test l r → x ≡ l → y ≡ r → b ∷ [] ≡ compare_byte test → w1 ≡ w0 ++ 4 ∷ b ∷ [] → PutExpr w1 x w2 → PutExpr w2 y w3 → PutExpr w0 e w3
compare_put e l r x y test b w0 w1 w2 w3 is xl yr byte first h k =
    put_same (sym is) (make_put ExprHasRoom expr_bytes (expr.Compare test l r) (4 ∷ compare_byte test) w0 (first ∙ ap (λ (l : List ℕ). w0 ++ 4 ∷ l) byte) (compare_spelled test (l, r)) (compare_room test (l, r)) (then_put (put_same xl h) (put_same yr k)))

pub and_put : (e l r x y : Expr) (w0 w1 w2 w3 : List ℕ) → e ≡ expr.And l r → x ≡ l → y ≡ r → w1 ≡ w0 ++ 5 ∷ [] → PutExpr w1 x w2 → PutExpr w2 y w3 → PutExpr w0 e w3
and_put e l r x y w0 w1 w2 w3 is xl yr first h k =
    put_same (sym is) (make_put ExprHasRoom expr_bytes (expr.And l r) (5 ∷ []) w0 first (and_spelled (l, r)) (and_room (l, r)) (then_put (put_same xl h) (put_same yr k)))

pub or_put : (e l r x y : Expr) (w0 w1 w2 w3 : List ℕ) → e ≡ expr.Or l r → x ≡ l → y ≡ r → w1 ≡ w0 ++ 6 ∷ [] → PutExpr w1 x w2 → PutExpr w2 y w3 → PutExpr w0 e w3
or_put e l r x y w0 w1 w2 w3 is xl yr first h k =
    put_same (sym is) (make_put ExprHasRoom expr_bytes (expr.Or l r) (6 ∷ []) w0 first (or_spelled (l, r)) (or_room (l, r)) (then_put (put_same xl h) (put_same yr k)))

pub not_put : (e a x : Expr) (w0 w1 w2 : List ℕ) → e ≡ expr.Not a → x ≡ a → w1 ≡ w0 ++ 7 ∷ [] → PutExpr w1 x w2 → PutExpr w0 e w2
not_put e a x w0 w1 w2 is xa first h = put_same (sym is) (make_put ExprHasRoom expr_bytes (expr.Not a) (7 ∷ []) w0 first (not_spelled a) (not_room a) (put_same xa h))

pub is_null_put : (e a x : Expr) (w0 w1 w2 : List ℕ) → e ≡ expr.IsNull a → x ≡ a → w1 ≡ w0 ++ 8 ∷ [] → PutExpr w1 x w2 → PutExpr w0 e w2
is_null_put e a x w0 w1 w2 is xa first h = put_same (sym is) (make_put ExprHasRoom expr_bytes (expr.IsNull a) (8 ∷ []) w0 first (is_null_spelled a) (is_null_room a) (put_same xa h))
