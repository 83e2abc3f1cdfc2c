-- A value that is read is the value that was written, and what was written is read again.
use Rattle.std.proofs.Common.{◌≡◌, ℕ, zero, suc, ◌^◌, ◌≤◌, ℤ, Bool, true, false, cond, ltb, List, [], ◌∷◌, ◌++◌, length, take, drop, Some, None, refl, sym, ap, subst, ◌∙◌, append_assoc, arith}
use Rattle.std.specs.Prelude.{◌||◌, FitsSigned}
use Rattle.std.specs.Int.{w16, w64, to_be_bytes, cast_unsigned, cast_signed}
use Rattle.std.specs.Str.{IsUtf8, is_utf8}
use Rattle.std.proofs.lemmas.Bool.{ltb-false, le-ltb}
use Rattle.std.proofs.lemmas.Int.{of_z-to_z, to_z-of_z}
use Rattle.std.proofs.lemmas.List.{take_at, drop_at, take-append-drop, length-append, length-take}
use Rattle.std.proofs.lemmas.Str.{IsUtf8-from_is_utf8, is_utf8-from_IsUtf8}
use mir.Facts.{sfits_to_z, Fits-of_z}
use Rattle.hq_value.specs.declared.value.Value.{Value}
use Rattle.hq_value.specs.declared.value.Value.TheVariants as variant
use Rattle.hq_value.specs.declared.kind.Kind.{Kind}
use Rattle.hq_value.specs.declared.kind.Kind.TheVariants as kind
use Rattle.hq_value.specs.Kinds.{IsOfKind}
use Rattle.hq_block.specs.Row.{IsInRange, value_bytes, null_flag}
use Rattle.hq_block.specs.Reading.{number_at, bool_at, int_at, text_at, value_at, column_at}
use Rattle.hq_block.proofs.Flags.{IsBytes, IsBytes-tail}
use Rattle.hq_block.proofs.Numbers.{IsBytes-drop, Takes, bind_some, guard_none, guard_some, some_is, wide16, wide64, number_takes, number_again}

-- a value of the kind that is not NULL was taken from the front
pub record TakesValue (k : Kind) (bytes : List ℕ) (value : Value) (rest : List ℕ) : Type 0 where
  pub takes : Takes bytes (value_bytes value) rest
  pub of_kind : IsOfKind k value
  pub in_range : IsInRange value
  pub not_null : null_flag value ≡ 0

bool_takes : (bytes : List ℕ) (x : Value × List ℕ) → IsBytes bytes → bool_at bytes ≡ Some x → TakesValue kind.Bool bytes x.0 x.1
unfolding bool_at
bool_takes [] x fits e = absurd cc
bool_takes (zero ∷ rest) x fits e =
    subst (λ (y : Value × List ℕ). TakesValue kind.Bool (0 ∷ rest) y.0 y.1) (some_is (variant.Bool false, rest) x e) (record { takes = record { parts = refl; rest_fits = IsBytes-tail 0 rest fits }; of_kind = tt; in_range = tt; not_null = refl })
bool_takes (suc zero ∷ rest) x fits e =
    subst (λ (y : Value × List ℕ). TakesValue kind.Bool (1 ∷ rest) y.0 y.1) (some_is (variant.Bool true, rest) x e) (record { takes = record { parts = refl; rest_fits = IsBytes-tail 1 rest fits }; of_kind = tt; in_range = tt; not_null = refl })
bool_takes (suc (suc b) ∷ rest) x fits e = absurd cc

int_takes : (bytes : List ℕ) (x : Value × List ℕ) → IsBytes bytes → int_at bytes ≡ Some x → TakesValue kind.Int bytes x.0 x.1
unfolding int_at
int_takes bytes x fits e =
    let b = bind_some (number_at w64 bytes) (λ n. Some (variant.Int (cast_signed w64 n.0), n.1)) x e in
    let t = number_takes w64 (2 ^ 64) wide64 bytes b.0.0 b.0.1 fits b.1 in
    let same : cast_unsigned w64 (cast_signed w64 b.0.0) ≡ b.0.0 = of_z-to_z w64 b.0.0 t.1 in
    let taken : Takes bytes (to_be_bytes w64 (cast_unsigned w64 (cast_signed w64 b.0.0))) b.0.1 = rw same t.0 in
    subst (λ (y : Value × List ℕ). TakesValue kind.Int bytes y.0 y.1) (some_is (variant.Int (cast_signed w64 b.0.0), b.0.1) x b.2) (record { takes = taken; of_kind = tt; in_range = sfits_to_z {w = w64} (record { fits = t.1 }); not_null = refl })

-- neither of two tests held
pub neither : (a b : Bool) → (a || b) ≡ false → (a ≡ false) × (b ≡ false)
neither true b e = absurd cc
neither false b e = (refl, e)

text_takes : (bytes : List ℕ) (x : Value × List ℕ) → IsBytes bytes → text_at bytes ≡ Some x → TakesValue kind.Text bytes x.0 x.1
unfolding text_at
text_takes bytes x fits e =
    let b = bind_some (number_at w16 bytes) (λ n. cond (ltb 1000 n.0 || ltb (length n.1) n.0) None (cond (is_utf8 (take n.0 n.1)) (Some (variant.Text (take n.0 n.1), drop n.0 n.1)) None)) x e in
    let n = b.0.0 in
    let rest = b.0.1 in
    let t = number_takes w16 (2 ^ 16) wide16 bytes n rest fits b.1 in
    let sized = guard_none (ltb 1000 n || ltb (length rest) n) (cond (is_utf8 (take n rest)) (Some (variant.Text (take n rest), drop n rest)) None) x b.2 in
    let valid = guard_some (is_utf8 (take n rest)) (Some (variant.Text (take n rest), drop n rest)) x sized.1 in
    let parts = neither (ltb 1000 n) (ltb (length rest) n) sized.0 in
    let short : n ≤ 1000 = ltb-false _ _ parts.0 in
    let long : n ≤ length rest = ltb-false _ _ parts.1 in
    let len : length (take n rest) ≡ n = omega (arith, length-take n rest) in
    let whole : bytes ≡ (to_be_bytes w16 n ++ take n rest) ++ drop n rest =
    t.0.parts ∙ ap (λ (l : List ℕ). to_be_bytes w16 n ++ l) (sym (take-append-drop n rest)) ∙ sym (append_assoc (to_be_bytes w16 n) (take n rest) (drop n rest)) in
    let taken : Takes bytes (value_bytes (variant.Text (take n rest))) (drop n rest) =
    record { parts = subst (λ (k : ℕ). bytes ≡ (to_be_bytes w16 k ++ take n rest) ++ drop n rest) (sym len) whole; rest_fits = IsBytes-drop n rest t.0.rest_fits } in
    subst (λ (y : Value × List ℕ). TakesValue kind.Text bytes y.0 y.1) (some_is (variant.Text (take n rest), drop n rest) x valid.1) (record { takes = taken; of_kind = tt; in_range = (omega arith, IsUtf8-from_is_utf8 (take n rest) valid.0); not_null = refl })

pub value_takes : (k : Kind) (bytes : List ℕ) (x : Value × List ℕ) → IsBytes bytes → value_at k bytes ≡ Some x → TakesValue k bytes x.0 x.1
unfolding value_at
value_takes kind.Bool = bool_takes
value_takes kind.Int = int_takes
value_takes kind.Text = text_takes

text_again : (text rest : List ℕ) → length text ≤ 1000 → IsUtf8 text → text_at (value_bytes (variant.Text text) ++ rest) ≡ Some (variant.Text text, rest)
unfolding text_at
text_again text rest short valid =
    let small : ltb 1000 (length text) ≡ false = le-ltb _ _ short in
    let long : ltb (length (text ++ rest)) (length text) ≡ false = le-ltb _ _ (omega (arith, length-append text rest)) in
    ap text_at (append_assoc (to_be_bytes w16 (length text)) text rest)
    ∙ rw (number_again w16 (2 ^ 16) wide16 (length text) (text ++ rest) (omega arith), small, long, take_at text rest (length text) refl, is_utf8-from_IsUtf8 text valid, drop_at text rest (length text) refl) refl

int_again : (n : ℤ) (rest : List ℕ) → FitsSigned w64 n → int_at (value_bytes (variant.Int n) ++ rest) ≡ Some (variant.Int n, rest)
unfolding int_at
int_again n rest fits = rw (number_again w64 (2 ^ 64) wide64 (cast_unsigned w64 n) rest (Fits-of_z {w = w64} fits).fits, to_z-of_z w64 n fits) refl

pub value_again : (k : Kind) (value : Value) (rest : List ℕ) → IsOfKind k value → IsInRange value → null_flag value ≡ 0 → value_at k (value_bytes value ++ rest) ≡ Some (value, rest)
unfolding value_at bool_at
value_again k variant.Null rest of_kind in_range not_null = absurd cc
value_again kind.Bool (variant.Bool false) rest of_kind in_range not_null = refl
value_again kind.Bool (variant.Bool true) rest of_kind in_range not_null = refl
value_again kind.Bool (variant.Int n) rest of_kind in_range not_null = absurd of_kind
value_again kind.Bool (variant.Text text) rest of_kind in_range not_null = absurd of_kind
value_again kind.Int (variant.Bool b) rest of_kind in_range not_null = absurd of_kind
value_again kind.Int (variant.Int n) rest of_kind in_range not_null = int_again n rest in_range
value_again kind.Int (variant.Text text) rest of_kind in_range not_null = absurd of_kind
value_again kind.Text (variant.Bool b) rest of_kind in_range not_null = absurd of_kind
value_again kind.Text (variant.Int n) rest of_kind in_range not_null = absurd of_kind
value_again kind.Text (variant.Text text) rest of_kind in_range not_null = text_again text rest in_range.0 in_range.1

-- a column: its value, and whether its flag is set
pub record TakesColumn (k : Kind) (is_null : Bool) (bytes : List ℕ) (value : Value) (rest : List ℕ) : Type 0 where
  pub takes : Takes bytes (value_bytes value) rest
  pub of_kind : IsOfKind k value
  pub in_range : IsInRange value
  pub flag : null_flag value ≡ cond is_null 1 0

pub column_takes : (k : Kind) (is_null : Bool) (bytes : List ℕ) (x : Value × List ℕ) → IsBytes bytes → column_at k is_null bytes ≡ Some x → TakesColumn k is_null bytes x.0 x.1
unfolding column_at
column_takes k true bytes x fits e =
    subst (λ (y : Value × List ℕ). TakesColumn k true bytes y.0 y.1) (some_is (variant.Null, bytes) x e) (record { takes = record { parts = refl; rest_fits = fits }; of_kind = null_fits k; in_range = tt; flag = refl })
  where
    null_fits : (k : Kind) → IsOfKind k variant.Null
    null_fits k = tt
column_takes k false bytes x fits e =
    let t = value_takes k bytes x fits e in
    record { takes = t.takes; of_kind = t.of_kind; in_range = t.in_range; flag = t.not_null }

pub column_again : (k : Kind) (is_null : Bool) (value : Value) (rest : List ℕ) → IsOfKind k value → IsInRange value → null_flag value ≡ cond is_null 1 0 → column_at k is_null (value_bytes value ++ rest) ≡ Some (value, rest)
unfolding column_at
column_again k true variant.Null rest of_kind in_range flag = refl
column_again k true (variant.Bool b) rest of_kind in_range flag = absurd cc
column_again k true (variant.Int n) rest of_kind in_range flag = absurd cc
column_again k true (variant.Text text) rest of_kind in_range flag = absurd cc
column_again k false value rest of_kind in_range flag = value_again k value rest of_kind in_range flag
