-- Blocks that are written.
use Rattle.std.proofs.Common.{◌≡◌, ◌⊎◌, ℕ, zero, suc, ◌+◌, ◌-◌, ◌*◌, ◌<◌, ◌≤◌, Bool, true, false, cond, leb, nat_eq, List, [], ◌∷◌, ◌++◌, length, take, drop, map, replicate, get_or, refl, sym, ap, subst, ◌∙◌, append-nil, arith, inl, inr}
use Rattle.std.specs.Prelude.{◌&&◌}
use Rattle.std.specs.List.{AllByRecursion}
use Rattle.std.proofs.lemmas.Bool.{cases_lt}
use Rattle.std.proofs.lemmas.Bool.Decides.{nat_tests}
use Rattle.std.proofs.lemmas.List.{length-append, length-take, take_all, take_more, take-append-drop}
use Rattle.std.proofs.lemmas.List.Concat.{flat_map-append}
use Rattle.hq_value.specs.declared.value.Value.{Value}
use Rattle.hq_value.specs.declared.value.Value.TheVariants as variant
use Rattle.hq_value.specs.declared.kind.Kind.{Kind}
use Rattle.hq_value.specs.declared.kind.Kind.TheVariants as kind
use Rattle.hq_value.specs.Kinds.{Fits}
use Rattle.hq_block.specs.Row.{IsStorable, row_bytes, row_length}
use Rattle.hq_block.specs.Bounds.{has_value, bound_size, bounds_of, bounds_bytes}
use Rattle.hq_block.specs.Block.{is_version, obeys, body_bytes, bounds_in, padded, IsBlockOf, IsBlock, version_of, written_bounds, head_of, block_bytes, block_length, most_fitting, fitting_a_block}
use Rattle.hq_block.proofs.Bools.{true-le}
use Rattle.hq_block.proofs.Lengths.{length-Fits, row_short}
use Rattle.hq_block.proofs.Sizes.{bounds_size, length-bounds, fit-all, bounds_size-more}

pub written-by : (n : ℕ) (kinds : List Kind) (rows : List (List Value)) → bounds_in (version_of n) kinds rows ≡ cond (leb 16 n) (bounds_bytes (bounds_of kinds rows)) []
written-by n kinds rows = by (leb 16 n)
  where
    by : (b : Bool) → cond (nat_eq (cond b 2 1) 2) (bounds_bytes (bounds_of kinds rows)) [] ≡ cond b (bounds_bytes (bounds_of kinds rows)) []
    by true = refl
    by false = refl

-- how many bytes the bounds take that are written
pub length-written : (kinds : List Kind) (rows : List (List Value)) → AllByRecursion (Fits kinds) rows → length (written_bounds kinds rows) ≡ cond (leb 16 (length rows)) (bounds_size 0 kinds rows) 0
length-written kinds rows fit = ap length (written-by (length rows) kinds rows) ∙ by (leb 16 (length rows))
  where
    by : (b : Bool) → length (cond b (bounds_bytes (bounds_of kinds rows)) []) ≡ cond b (bounds_size 0 kinds rows) 0
    by true = length-bounds 0 kinds rows (fit-all kinds rows fit)
    by false = refl

size-short : (k : Kind) (b : Bool) → bound_size k b ≤ 17
size-short kind.Text b = omega arith
size-short kind.Bool true = omega arith
size-short kind.Bool false = omega arith
size-short kind.Int true = omega arith
size-short kind.Int false = omega arith

sizes-short : (place : ℕ) (kinds : List Kind) (rows : List (List Value)) → bounds_size place kinds rows ≤ 17 * length kinds
sizes-short place [] rows = omega arith
sizes-short place (k ∷ kinds) rows = omega (arith, size-short k (has_value place rows), sizes-short (suc place) kinds rows)

pub written-short : (kinds : List Kind) (rows : List (List Value)) → length kinds ≤ 64 → AllByRecursion (Fits kinds) rows → length (written_bounds kinds rows) ≤ 1088
written-short kinds rows few fit = by (leb 16 (length rows)) (length-written kinds rows fit)
  where
    by : (b : Bool) → length (written_bounds kinds rows) ≡ cond b (bounds_size 0 kinds rows) 0 → length (written_bounds kinds rows) ≤ 1088
    by true e = omega (arith, e, sizes-short 0 kinds rows, few)
    by false e = omega (arith, e)

-- one row has no bounds
pub written-few : (kinds : List Kind) (rows : List (List Value)) → length rows < 16 → written_bounds kinds rows ≡ []
written-few kinds rows few =
    let no : leb 16 (length rows) ≡ false = grind (arith, nat_tests) in
    written-by (length rows) kinds rows ∙ ap (λ (b : Bool). cond b (bounds_bytes (bounds_of kinds rows)) []) no

-- more rows make no shorter block
block_length-more : (kinds : List Kind) (rows others : List (List Value)) → AllByRecursion (Fits kinds) rows → AllByRecursion (Fits kinds) (rows ++ others) → block_length kinds rows ≤ block_length kinds (rows ++ others)
block_length-more kinds rows others fit all =
    let bodies : length (body_bytes (rows ++ others)) ≡ length (body_bytes rows) + length (body_bytes others) = ap length (flat_map-append row_bytes rows others) ∙ length-append (body_bytes rows) (body_bytes others) in
    let bounds : length (written_bounds kinds rows) ≤ length (written_bounds kinds (rows ++ others)) = by (leb 16 (length rows)) (leb 16 (length (rows ++ others))) refl refl (length-written kinds rows fit) (length-written kinds (rows ++ others) all) in
    omega (arith, bodies, bounds)
  where
    by : (a b : Bool) → leb 16 (length rows) ≡ a → leb 16 (length (rows ++ others)) ≡ b → length (written_bounds kinds rows) ≡ cond a (bounds_size 0 kinds rows) 0 → length (written_bounds kinds (rows ++ others)) ≡ cond b (bounds_size 0 kinds (rows ++ others)) 0
        → length (written_bounds kinds rows) ≤ length (written_bounds kinds (rows ++ others))
    by false b m n e f = omega (arith, e)
    by true true m n e f = omega (arith, e, f, bounds_size-more 0 kinds rows others)
    by true false m n e f =
        let many : 16 ≤ length rows = grind (arith, nat_tests, m) in
        let few : length (rows ++ others) < 16 = grind (arith, nat_tests, n) in
        absurd (omega (arith, many, few, length-append rows others))

pub All-take : {A : Type 0} (P : A → Type 0) (n : ℕ) (xs : List A) → AllByRecursion P xs → AllByRecursion P (take n xs)
All-take P zero xs all = tt
All-take P (suc n) [] all = tt
All-take P (suc n) (x ∷ xs) all = (all.0, All-take P n xs all.1)

pub All-drop : {A : Type 0} (P : A → Type 0) (n : ℕ) (xs : List A) → AllByRecursion P xs → AllByRecursion P (drop n xs)
All-drop P zero xs all = all
All-drop P (suc n) [] all = tt
All-drop P (suc n) (x ∷ xs) all = All-drop P n xs all.1

pub block_length-take : (kinds : List Kind) (rows : List (List Value)) (m n : ℕ) → m ≤ n → AllByRecursion (Fits kinds) rows → block_length kinds (take m rows) ≤ block_length kinds (take n rows)
block_length-take kinds rows m n less fit =
    let front : take m (take n rows) ≡ take m rows = take_front m n rows less in
    let parts : take m rows ++ drop m (take n rows) ≡ take n rows = ap (λ (l : List (List Value)). l ++ drop m (take n rows)) (sym front) ∙ take-append-drop m (take n rows) in
    subst (λ (l : List (List Value)). block_length kinds (take m rows) ≤ block_length kinds l) parts
    (block_length-more kinds (take m rows) (drop m (take n rows)) (All-take (Fits kinds) m rows fit) (subst (AllByRecursion (Fits kinds)) (sym parts) (All-take (Fits kinds) n rows fit)))
  where
    take_front : {A : Type 0} (m n : ℕ) (xs : List A) → m ≤ n → take m (take n xs) ≡ take m xs
    take_front zero n xs less = refl
    take_front (suc m) zero xs less = absurd (omega (arith, less))
    take_front (suc m) (suc n) [] less = refl
    take_front (suc m) (suc n) (x ∷ xs) less = ap (λ l. x ∷ l) (take_front m n xs (omega (arith, less)))

-- a count that fits, above which none does
most_fitting-is : (kinds : List Kind) (rows : List (List Value)) (n len : ℕ) → 0 < n → n ≤ len → block_length kinds (take n rows) ≤ 65536
    → ((m : ℕ) → n < m → 65536 < block_length kinds (take m rows)) → most_fitting kinds rows len ≡ n
most_fitting-is kinds rows n zero some within room more = absurd (omega (arith, some, within))
most_fitting-is kinds rows n (suc zero) some within room more = omega (arith, some, within)
most_fitting-is kinds rows n (suc (suc k)) some within room more = by (cases_lt n (suc (suc k))) (λ below. most_fitting-is kinds rows n (suc k) some below room more)
  where
    by : (n < suc (suc k)) ⊎ (suc (suc k) ≤ n) → (n ≤ suc k → most_fitting kinds rows (suc k) ≡ n) → most_fitting kinds rows (suc (suc k)) ≡ n
    by (inl below) rest =
        let no : leb (block_length kinds (take (suc (suc k)) rows)) 65536 ≡ false = grind (arith, nat_tests, more (suc (suc k)) below) in
        ap (λ (b : Bool). cond b (suc (suc k)) (most_fitting kinds rows (suc k))) no ∙ rest (omega (arith, below))
    by (inr above) rest =
        let same : n ≡ suc (suc k) = omega (arith, above, within) in
        let yes : leb (block_length kinds (take (suc (suc k)) rows)) 65536 ≡ true = true-le (block_length kinds (take (suc (suc k)) rows)) 65536 (subst (λ (m : ℕ). block_length kinds (take m rows) ≤ 65536) same room) in
        ap (λ (b : Bool). cond b (suc (suc k)) (most_fitting kinds rows (suc k))) yes ∙ sym same

pub fitting-is : (kinds : List Kind) (rows : List (List Value)) (n : ℕ) → AllByRecursion (Fits kinds) rows → n ≤ length rows → (0 < length rows → 0 < n) → block_length kinds (take n rows) ≤ 65536
    → (n < length rows → 65536 < block_length kinds (take (n + 1) rows)) → n ≡ fitting_a_block kinds rows
fitting-is kinds [] n fit within some room more = omega (arith, within)
fitting-is kinds (row ∷ rows) n fit within some room more = sym (by (cases_lt n (length (row ∷ rows))))
  where
    by : (n < length (row ∷ rows)) ⊎ (length (row ∷ rows) ≤ n) → most_fitting kinds (row ∷ rows) (length (row ∷ rows)) ≡ n
    by (inl below) = most_fitting-is kinds (row ∷ rows) n (length (row ∷ rows)) (some (omega arith)) within room (λ m above. let less : block_length kinds (take (n + 1) (row ∷ rows)) ≤ block_length kinds (take m (row ∷ rows)) = block_length-take kinds (row ∷ rows) (n + 1) m (omega (arith, above)) fit in omega (arith, less, more below))
    by (inr above) = all n (omega (arith, within, above)) (some (omega arith)) room
      where
        all : (n : ℕ) → n ≡ length (row ∷ rows) → 0 < n → block_length kinds (take n (row ∷ rows)) ≤ 65536 → most_fitting kinds (row ∷ rows) (length (row ∷ rows)) ≡ n
        all n same pos fits = most-all kinds (row ∷ rows) (length (row ∷ rows)) (omega arith) (subst (λ (m : ℕ). block_length kinds (take m (row ∷ rows)) ≤ 65536) same fits) ∙ sym same
          where
            most-all : (kinds : List Kind) (rows : List (List Value)) (len : ℕ) → 0 < len → block_length kinds (take len rows) ≤ 65536 → most_fitting kinds rows len ≡ len
            most-all kinds rows zero pos fits = refl
            most-all kinds rows (suc zero) pos fits = refl
            most-all kinds rows (suc (suc k)) pos fits = ap (λ (b : Bool). cond b (suc (suc k)) (most_fitting kinds rows (suc k))) (true-le (block_length kinds (take (suc (suc k)) rows)) 65536 fits)

-- what the count that is taken makes fits, where one row does
most-fits : (kinds : List Kind) (rows : List (List Value)) (len : ℕ) → block_length kinds (take 1 rows) ≤ 65536 → block_length kinds [] ≤ 65536 → block_length kinds (take (most_fitting kinds rows len) rows) ≤ 65536
most-fits kinds rows zero one none = none
most-fits kinds rows (suc zero) one none = one
most-fits kinds rows (suc (suc k)) one none = by (leb (block_length kinds (take (suc (suc k)) rows)) 65536) refl (most-fits kinds rows (suc k) one none)
  where
    by : (b : Bool) → leb (block_length kinds (take (suc (suc k)) rows)) 65536 ≡ b → block_length kinds (take (most_fitting kinds rows (suc k)) rows) ≤ 65536 → block_length kinds (take (cond b (suc (suc k)) (most_fitting kinds rows (suc k))) rows) ≤ 65536
    by true e rest = grind (arith, nat_tests, e)
    by false e rest = rest

pub most-some : (kinds : List Kind) (rows : List (List Value)) (len : ℕ) → 0 < len → 0 < most_fitting kinds rows len
most-some kinds rows zero some = absurd (omega (arith, some))
most-some kinds rows (suc zero) some = omega arith
most-some kinds rows (suc (suc k)) some = by (leb (block_length kinds (take (suc (suc k)) rows)) 65536) (most-some kinds rows (suc k) (omega arith))
  where
    by : (b : Bool) → 0 < most_fitting kinds rows (suc k) → 0 < cond b (suc (suc k)) (most_fitting kinds rows (suc k))
    by true rest = omega arith
    by false rest = rest

-- a block of one row fits
pub one-fits : (kinds : List Kind) (row : List Value) → length kinds ≤ 64 → IsStorable kinds row → block_length kinds (row ∷ []) ≤ 65536
one-fits kinds row few ok =
    let no_bounds : length (written_bounds kinds (row ∷ [])) ≡ 0 = ap length (written-few kinds (row ∷ []) (omega arith)) in
    let body : length (body_bytes (row ∷ [])) ≡ row_length row = ap length (append-nil (row_bytes row)) in
    omega (arith, no_bounds, body, row_short kinds row few ok)

pub fitting-fits : (kinds : List Kind) (row : List Value) (rows : List (List Value)) → length kinds ≤ 64 → IsStorable kinds row → block_length kinds (take (fitting_a_block kinds (row ∷ rows)) (row ∷ rows)) ≤ 65536
fitting-fits kinds row rows few ok = most-fits kinds (row ∷ rows) (length (row ∷ rows)) (one-fits kinds row few ok) (omega arith)

-- a row that fits is padded by nothing
padded-row : (kinds : List Kind) (row : List Value) → Fits kinds row → padded (length kinds) row ≡ row
padded-row kinds row fit =
    let none : length kinds - length row ≡ 0 = omega (arith, length-Fits kinds row fit) in
    ap (λ (n : ℕ). row ++ replicate n variant.Null) none ∙ append-nil row

padded-rows : (kinds : List Kind) (rows : List (List Value)) → AllByRecursion (IsStorable kinds) rows → rows ≡ map (padded (length kinds)) rows
padded-rows kinds [] ok = refl
padded-rows kinds (row ∷ rows) ok = λ i. sym (padded-row kinds row ok.0.fits) i ∷ padded-rows kinds rows ok.1 i

version-ok : (kinds : List Kind) (rows : List (List Value)) → 0 < length rows → is_version (version_of (length rows)) (length rows) (length (written_bounds kinds rows)) ≡ true
version-ok kinds rows some = by (leb 16 (length rows)) refl (ap length (written-by (length rows) kinds rows))
  where
    by : (b : Bool) → leb 16 (length rows) ≡ b → length (written_bounds kinds rows) ≡ length (cond b (bounds_bytes (bounds_of kinds rows)) []) → is_version (cond b 2 1) (length rows) (length (written_bounds kinds rows)) ≡ true
    by true e l = e
    by false e l =
        let one : leb 1 (length rows) ≡ true = true-le 1 (length rows) some in
        rw (one, l) refl

head_of-obeys : (kinds : List Kind) (rows : List (List Value)) → 0 < length kinds → length kinds ≤ 64 → 0 < length rows → block_length kinds rows ≤ 65536 → obeys (head_of kinds rows) ≡ true
head_of-obeys kinds rows some few some_rows short =
    let bounds : ℕ = length (written_bounds kinds rows) in
    let size : ℕ = bounds + length (body_bytes rows) in
    let a : leb 1 (length kinds) ≡ true = true-le 1 (length kinds) some in
    let b : leb (length kinds) 64 ≡ true = true-le (length kinds) 64 few in
    let c : leb size 65520 ≡ true = true-le size 65520 (omega (arith, short)) in
    let d : leb bounds size ≡ true = true-le bounds size (omega arith) in
    λ i. version-ok kinds rows some_rows i && (a i && (b i && (c i && d i)))

pub block_spelled : (kinds : List Kind) (rows : List (List Value)) → 0 < length kinds → length kinds ≤ 64 → 0 < length rows → AllByRecursion (IsStorable kinds) rows → block_length kinds rows ≤ 65536 → IsBlock kinds rows (block_bytes kinds rows)
block_spelled kinds rows some few some_rows ok short =
    let all : take (length kinds) kinds ≡ kinds = take_all (length kinds) kinds (omega arith) in
    let of : IsBlockOf (head_of kinds rows) kinds rows (block_bytes kinds rows) = record { rules = head_of-obeys kinds rows some few some_rows short; column_count = refl; row_count = refl; bounds_length = refl; size = refl; storable = ok; spelled = refl } in
    record {
      head = head_of kinds rows;
      own = rows;
      within = omega arith;
      is = subst (λ (ks : List Kind). IsBlockOf (head_of kinds rows) ks rows (block_bytes kinds rows)) (sym all) of;
      filled = padded-rows kinds rows ok;
    }

pub length-block_bytes : (kinds : List Kind) (rows : List (List Value)) → length (block_bytes kinds rows) ≡ block_length kinds rows
length-block_bytes kinds rows = omega (arith, length-append (written_bounds kinds rows) (body_bytes rows))

-- one row more
pub body-more : (rows : List (List Value)) (i : ℕ) (d : List Value) → i < length rows → length (body_bytes (take (i + 1) rows)) ≡ length (body_bytes (take i rows)) + row_length (get_or rows i d)
body-more rows i d below =
    ap (λ (l : List (List Value)). length (body_bytes l)) (take_more rows i d below)
    ∙ ap length (flat_map-append row_bytes (take i rows) (get_or rows i d ∷ []))
    ∙ length-append (body_bytes (take i rows)) (body_bytes (get_or rows i d ∷ []))
    ∙ ap (λ (l : List ℕ). length (body_bytes (take i rows)) + length l) (append-nil (row_bytes (get_or rows i d)))

-- rows of few bytes make a block, whatever their bounds
pub surely-fits : (kinds : List Kind) (rows : List (List Value)) (body : ℕ) → length kinds ≤ 64 → AllByRecursion (Fits kinds) rows → body ≡ length (body_bytes rows) → body ≤ 64432 → leb (block_length kinds rows) 65536 ≡ true
surely-fits kinds rows body few fit is short = true-le (block_length kinds rows) 65536 (omega (arith, written-short kinds rows few fit, is, short))

-- one row makes a block
pub first-fits : (kinds : List Kind) (rows : List (List Value)) → length (body_bytes (take 1 rows)) ≤ 64136 → block_length kinds (take 1 rows) ≤ 65536
first-fits kinds rows short =
    let few : length (take 1 rows) < 16 = omega (arith, length-take 1 rows) in
    let none : length (written_bounds kinds (take 1 rows)) ≡ 0 = ap length (written-few kinds (take 1 rows) few) in
    omega (arith, none, short)

pub body-take : (rows : List (List Value)) (n : ℕ) → length (body_bytes (take n rows)) ≤ length (body_bytes rows)
body-take rows n =
    let whole : length (body_bytes (take n rows)) + length (body_bytes (drop n rows)) ≡ length (body_bytes rows) =
    sym (length-append (body_bytes (take n rows)) (body_bytes (drop n rows))) ∙ ap length (sym (flat_map-append row_bytes (take n rows) (drop n rows))) ∙ ap (λ (l : List (List Value)). length (body_bytes l)) (take-append-drop n rows) in
    omega (arith, whole)
