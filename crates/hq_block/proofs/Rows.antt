-- Reading rows one after the other, as a loop does.
use Rattle.std.proofs.Common.{◌≡◌, ℕ, suc, ◌+◌, ◌-◌, ◌<◌, ◌≤◌, List, [], ◌∷◌, ◌++◌, length, drop, Option, Some, None, refl, sym, ap, ◌∙◌, append-nil, arith}
use Rattle.std.proofs.lemmas.List.{drop_at}
use Rattle.hq_value.specs.declared.value.Value.{Value}
use Rattle.hq_value.specs.declared.kind.Kind.{Kind}
use Rattle.hq_block.specs.declared.fault.Misread.{Misread}
use Rattle.hq_block.specs.declared.fault.Misread.TheVariants as misread
use Rattle.hq_block.specs.Reading.{◌>>=◌, Fails, wide_row_at, rows_at, with_front, alone}
use Rattle.hq_block.proofs.Columns.{with_front-push}
use Rattle.hq_block.proofs.Numbers.{some_is}

-- rows, and the bytes after them
abbrev pub Rows : Type 0
Rows = Option (List (List Value) × List ℕ)

-- the rows from i on
abbrev pub rows_from : List Kind → ℕ → ℕ → ℕ → List ℕ → Rows
rows_from kinds width count i bytes = rows_at kinds width (count - i) bytes

rows_from-step : (kinds : List Kind) (width count i : ℕ) (bytes : List ℕ) → i < count → rows_from kinds width count i bytes ≡ (wide_row_at kinds width bytes >>= λ first. rows_from kinds width count (i + 1) first.1 >>= λ others. Some (first.0 ∷ others.0, others.1))
unfolding rows_at
rows_from-step kinds width count i bytes below = ap (λ (n : ℕ). rows_at kinds width n bytes) (let e : count - i ≡ suc (count - (i + 1)) = omega arith in e)

step : (front : List (List Value)) (first : Option (List Value × List ℕ)) (next : List ℕ → Rows) (front' : List (List Value)) (after : List ℕ) → with_front front (alone first) ≡ Some (front', after)
    → with_front front' (next after) ≡ with_front front (first >>= λ x. next x.1 >>= λ others. Some (x.0 ∷ others.0, others.1))
step front None next front' after e = absurd cc
step front (Some x) next front' after e =
    let p = some_is (front ++ x.0 ∷ [], x.1) (front', after) e in
    sym (with_front-push front x.0 (next x.1) ∙ (λ i. with_front (p i).0 (next (p i).1)))

pub goes_on : (front front' : List (List Value)) (kinds : List Kind) (width count i : ℕ) (bytes after : List ℕ) (total : Rows) → i < count
    → with_front front (alone (wide_row_at kinds width bytes)) ≡ Some (front', after) → with_front front (rows_from kinds width count i bytes) ≡ total → with_front front' (rows_from kinds width count (i + 1) after) ≡ total
goes_on front front' kinds width count i bytes after total below read so_far =
    step front (wide_row_at kinds width bytes) (rows_from kinds width count (i + 1)) front' after read
    ∙ ap (with_front front) (sym (rows_from-step kinds width count i bytes below))
    ∙ so_far

none_first : (front : List (List Value)) (first : Option (List Value × List ℕ)) (next : List ℕ → Rows) → with_front front (alone first) ≡ None → with_front front (first >>= λ x. next x.1 >>= λ others. Some (x.0 ∷ others.0, others.1)) ≡ None
none_first front None next e = refl
none_first front (Some x) next e = absurd cc

pub ends : (e : Misread) (front : List (List Value)) (kinds : List Kind) (width count i : ℕ) (bytes : List ℕ) (total : Rows) → i < count → Fails e (with_front front (alone (wide_row_at kinds width bytes))) → with_front front (rows_from kinds width count i bytes) ≡ total → Fails e total
ends misread.NoMemory front kinds width count i bytes total below read so_far = tt
ends misread.Absent front kinds width count i bytes total below read so_far =
    sym so_far ∙ ap (with_front front) (rows_from-step kinds width count i bytes below) ∙ none_first front (wide_row_at kinds width bytes) (rows_from kinds width count (i + 1)) read

pub is_done : (front : List (List Value)) (kinds : List Kind) (width count i : ℕ) (bytes : List ℕ) (total : Rows) → count ≤ i → with_front front (rows_from kinds width count i bytes) ≡ total → total ≡ Some (front, bytes)
unfolding rows_at
is_done front kinds width count i bytes total end so_far =
    sym so_far ∙ ap (λ (n : ℕ). with_front front (rows_at kinds width n bytes)) (let e : count - i ≡ 0 = omega arith in e) ∙ ap (λ (rows : List (List Value)). Some (rows, bytes)) (append-nil front)

-- what was read, from what stands in the list and what stood there before
pub front_known : {A : Type 0} (front now : List A) (read : Option (List A × List ℕ)) (rest : List ℕ) → with_front front read ≡ Some (now, rest) → read ≡ Some (drop (length front) now, rest)
front_known front now None rest e = absurd cc
front_known front now (Some x) rest e =
    let p = some_is (front ++ x.0, x.1) (now, rest) e in
    (λ i. Some (sym (drop_at front x.0 (length front) refl) i, x.1)) ∙ (λ i. Some (drop (length front) ((p i).0), (p i).1))

pub front_none : {A : Type 0} (front : List A) (read : Option (List A × List ℕ)) → with_front front read ≡ None → read ≡ None
front_none front None e = refl
front_none front (Some x) e = absurd cc
