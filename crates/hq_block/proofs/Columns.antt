-- Reading columns one after the other, as a loop does.
use Rattle.std.proofs.Common.{◌≡◌, ℕ, ◌+◌, ◌/◌, ◌%◌, ◌^◌, ◌<◌, Bool, true, false, cond, nat_eq, List, [], ◌∷◌, ◌++◌, length, get_or, drop, Option, Some, None, refl, sym, ap, ◌∙◌, append_assoc, append-nil, arith}
use Rattle.std.proofs.lemmas.List.{drop_more, drop_all}
use Rattle.std.proofs.lemmas.Nat.{shr-shr}
use Rattle.hq_value.specs.declared.value.Value.{Value}
use Rattle.hq_value.specs.declared.kind.Kind.{Kind}
use Rattle.hq_block.specs.declared.fault.Misread.{Misread}
use Rattle.hq_block.specs.declared.fault.Misread.TheVariants as misread
use Rattle.hq_block.specs.Reading.{◌>>=◌, Fails, column_at, columns_at, with_front}

pub with_front-push : {A : Type 0} (front : List A) (first : A) (read : Option (List A × List ℕ)) → with_front front (read >>= λ x. Some (first ∷ x.0, x.1)) ≡ with_front (front ++ first ∷ []) read
with_front-push {A} front first (Some x) = ap (λ (items : List A). Some (items, x.1)) (sym (append_assoc front (first ∷ []) x.0))
with_front-push front first None = refl

-- the columns from i on
abbrev pub columns_from : List Kind → ℕ → ℕ → List ℕ → Option (List Value × List ℕ)
columns_from kinds i flags bytes = columns_at (drop i kinds) (flags / 2 ^ i) bytes

columns_from-step : (kinds : List Kind) (i flags : ℕ) (d : Kind) (bytes : List ℕ) → i < length kinds
    → columns_from kinds i flags bytes ≡ (column_at (get_or kinds i d) (nat_eq (flags / 2 ^ i % 2) 1) bytes >>= λ first. columns_from kinds (i + 1) flags first.1 >>= λ others. Some (first.0 ∷ others.0, others.1))
unfolding columns_at
columns_from-step kinds i flags d bytes below =
    ap (λ (ks : List Kind). columns_at ks (flags / 2 ^ i) bytes) (drop_more kinds i d below)
    ∙ ap (λ (n : ℕ). column_at (get_or kinds i d) (nat_eq (flags / 2 ^ i % 2) 1) bytes >>= λ first. columns_at (drop (i + 1) kinds) n first.1 >>= λ others. Some (first.0 ∷ others.0, others.1)) (shr-shr flags i 1)

pub goes_on : (front : List Value) (kinds : List Kind) (i flags : ℕ) (d : Kind) (bytes : List ℕ) (value : Value) (after : List ℕ) (total : Option (List Value × List ℕ)) → i < length kinds
    → column_at (get_or kinds i d) (nat_eq (flags / 2 ^ i % 2) 1) bytes ≡ Some (value, after) → with_front front (columns_from kinds i flags bytes) ≡ total → with_front (front ++ value ∷ []) (columns_from kinds (i + 1) flags after) ≡ total
goes_on front kinds i flags d bytes value after total below read so_far =
    sym (with_front-push front value (columns_from kinds (i + 1) flags after))
    ∙ sym (ap (with_front front) (columns_from-step kinds i flags d bytes below ∙ ap (λ (r : Option (Value × List ℕ)). r >>= λ first. columns_from kinds (i + 1) flags first.1 >>= λ others. Some (first.0 ∷ others.0, others.1)) read))
    ∙ so_far

pub ends : (e : Misread) (front : List Value) (kinds : List Kind) (i flags : ℕ) (d : Kind) (bytes : List ℕ) (total : Option (List Value × List ℕ)) → i < length kinds
    → Fails e (column_at (get_or kinds i d) (nat_eq (flags / 2 ^ i % 2) 1) bytes) → with_front front (columns_from kinds i flags bytes) ≡ total → Fails e total
ends misread.NoMemory front kinds i flags d bytes total below read so_far = tt
ends misread.Absent front kinds i flags d bytes total below read so_far =
    sym so_far ∙ ap (with_front front) (columns_from-step kinds i flags d bytes below ∙ ap (λ (r : Option (Value × List ℕ)). r >>= λ first. columns_from kinds (i + 1) flags first.1 >>= λ others. Some (first.0 ∷ others.0, others.1)) read)

-- behind the last column
pub is_done : (front : List Value) (kinds : List Kind) (i flags : ℕ) (bytes : List ℕ) (total : Option (List Value × List ℕ)) → i ≡ length kinds
    → with_front front (columns_from kinds i flags bytes) ≡ total → cond (nat_eq (flags / 2 ^ length kinds) 0) (Some (front, bytes)) None ≡ total
unfolding columns_at
is_done front kinds i flags bytes total end so_far =
    by (nat_eq (flags / 2 ^ length kinds) 0)
    ∙ ap (λ (n : ℕ). with_front front (columns_at [] (flags / 2 ^ n) bytes)) (sym end)
    ∙ ap (λ (ks : List Kind). with_front front (columns_at ks (flags / 2 ^ i) bytes)) (sym (drop_all i kinds (omega arith)))
    ∙ so_far
  where
    by : (b : Bool) → cond b (Some (front, bytes)) None ≡ with_front front (cond b (Some ([], bytes)) None)
    by true = ap (λ (items : List Value). Some (items, bytes)) (sym (append-nil front))
    by false = refl
