-- Rows whose flags are one byte, read without NULLs behind them.
use Rattle.std.proofs.Common.{◌≡◌, ℕ, suc, ◌+◌, ◌-◌, ◌*◌, ◌/◌, ◌%◌, false, nat_eq, ltb, get_or, List, [], ◌∷◌, ◌++◌, length, replicate, Option, Some, None, refl, sym, ap, ◌∙◌, append-nil, arith}
use Rattle.std.proofs.lemmas.Bool.{le-ltb}
use Rattle.hq_value.specs.declared.value.Value.{Value}
use Rattle.hq_value.specs.declared.value.Value.TheVariants as variant
use Rattle.hq_value.specs.declared.kind.Kind.{Kind}
use Rattle.hq_value.specs.declared.kind.Kind.TheVariants as kind
use Rattle.hq_block.specs.Row.{bitmap_length}
use Rattle.hq_block.specs.Block.{padded}
use Rattle.hq_block.specs.Reading.{◌>>=◌, column_at, columns_at, row_at, byte_row_at, wide_row_at}
use Rattle.hq_block.proofs.Numbers.{bind_some, guard_some, some_is}

length-columns_at : (kinds : List Kind) (flags : ℕ) (bytes : List ℕ) (x : List Value × List ℕ) → columns_at kinds flags bytes ≡ Some x → length x.0 ≡ length kinds
unfolding columns_at
length-columns_at [] flags bytes x e =
    let g = guard_some (nat_eq flags 0) (Some ([], bytes)) x e in
    sym (ap (λ (y : List Value × List ℕ). length y.0) (some_is ([], bytes) x g.1))
length-columns_at (k ∷ kinds) flags bytes x e =
    let a = bind_some (column_at k (nat_eq (flags % 2) 1) bytes) (λ first. columns_at kinds (flags / 2) first.1 >>= λ others. Some (first.0 ∷ others.0, others.1)) x e in
    let b = bind_some (columns_at kinds (flags / 2) a.0.1) (λ others. Some (a.0.0 ∷ others.0, others.1)) x a.2 in
    sym (ap (λ (y : List Value × List ℕ). length y.0) (some_is (a.0.0 ∷ b.0.0, b.0.1) x b.2)) ∙ ap suc (length-columns_at kinds (flags / 2) a.0.1 b.0 b.1)

padded-none : (width : ℕ) (row : List Value) → length row ≡ width → padded width row ≡ row
padded-none width row e =
    let none : width - length row ≡ 0 = omega (arith, e) in
    ap (λ (n : ℕ). row ++ replicate n variant.Null) none ∙ append-nil row

pad_none : (width : ℕ) (read : Option (List Value × List ℕ)) → ((x : List Value × List ℕ) → read ≡ Some x → length x.0 ≡ width) → (read >>= λ x. Some (padded width x.0, x.1)) ≡ read
pad_none width None h = refl
pad_none width (Some x) h = ap (λ (row : List Value). Some (row, x.1)) (padded-none width x.0 (h x refl))

pub wide_row_at-byte : (kinds : List Kind) (bytes : List ℕ) → bitmap_length (length kinds) ≡ 1 → wide_row_at kinds (length kinds) bytes ≡ byte_row_at kinds bytes
unfolding wide_row_at row_at
wide_row_at-byte kinds [] one = rw one refl
wide_row_at-byte kinds (flags ∷ bytes) one =
    let low : flags + 256 * 0 ≡ flags = omega arith in
    let long : ltb (length (flags ∷ bytes)) 1 ≡ false = le-ltb _ _ (omega arith) in
    rw (one, long, low) (pad_none (length kinds) (columns_at kinds flags bytes) (length-columns_at kinds flags bytes))

-- kinds of so few columns, one by one
pub only : (kinds : List Kind) → length kinds ≡ 1 → get_or kinds 0 kind.Bool ∷ [] ≡ kinds
only [] e = absurd (omega (arith, e))
only (a ∷ []) e = refl
only (a ∷ b ∷ kinds) e = absurd (omega (arith, e))

pub pair : (kinds : List Kind) → length kinds ≡ 2 → get_or kinds 0 kind.Bool ∷ get_or kinds 1 kind.Bool ∷ [] ≡ kinds
pair [] e = absurd (omega (arith, e))
pair (a ∷ []) e = absurd (omega (arith, e))
pair (a ∷ b ∷ []) e = refl
pair (a ∷ b ∷ c ∷ kinds) e = absurd (omega (arith, e))

pub triple : (kinds : List Kind) → length kinds ≡ 3 → get_or kinds 0 kind.Bool ∷ get_or kinds 1 kind.Bool ∷ get_or kinds 2 kind.Bool ∷ [] ≡ kinds
triple [] e = absurd (omega (arith, e))
triple (a ∷ []) e = absurd (omega (arith, e))
triple (a ∷ b ∷ []) e = absurd (omega (arith, e))
triple (a ∷ b ∷ c ∷ []) e = refl
triple (a ∷ b ∷ c ∷ d ∷ kinds) e = absurd (omega (arith, e))

-- a row of one to three columns
pub narrow : (kinds : List Kind) (width : ℕ) (bytes : List ℕ) → length kinds ≡ width → bitmap_length width ≡ 1 → byte_row_at kinds bytes ≡ wide_row_at kinds width bytes
narrow kinds width bytes same one = sym (wide_row_at-byte kinds bytes (ap bitmap_length same ∙ one)) ∙ ap (λ (n : ℕ). wide_row_at kinds n bytes) same
