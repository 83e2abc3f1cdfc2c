-- Rows read one after another.
use Rattle.std.proofs.Common.{Result, Ok, Err, ◌≡◌, ◌+◌, ◌*◌, ◌/◌, ◌<◌, ◌≤◌, ℕ, zero, suc, List, [], ◌∷◌, ◌++◌, length, take, drop, flat_map, refl, ap, sym, ◌∙◌, append_assoc, append-nil, take-append-drop, arith}
use Rattle.std.proofs.Math.Seq.{take-append_seam}
use Rattle.std.specs.List.{AllByRecursion}
use Rattle.hq_value.specs.Kinds.{Fits}
use Rattle.hq_value.specs.declared.value.Value.{Value}
use Rattle.hq_value.specs.declared.kind.Kind.{Kind}
use Rattle.hq_block.specs.Row.{IsStorable, IsRow, row_bytes, value_bytes, null_flags, low_bytes, bitmap_length}
use Rattle.hq_block.proofs.RowLaws.{rows_are_apart}
use Rattle.hq_motion.specs.Bytes.{rows_bytes, AreRows}

all-joined : {A : Type 0} (P : A → Type 0) (xs ys : List A) → AllByRecursion P xs → AllByRecursion P ys → AllByRecursion P (xs ++ ys)
all-joined P [] ys h g = g
all-joined P (x ∷ xs) ys h g = (h.0, all-joined P xs ys h.1 g)

pub bytes-joined : (rows others : List (List Value)) → rows_bytes (rows ++ others) ≡ rows_bytes rows ++ rows_bytes others
bytes-joined [] others = refl
bytes-joined (row ∷ rows) others = ap (λ b. row_bytes row ++ b) (bytes-joined rows others) ∙ sym (append_assoc (row_bytes row) (rows_bytes rows) (rows_bytes others))

pub rows-joined : (kinds : List Kind) (rows others : List (List Value)) (a b : List ℕ) → AreRows kinds rows a → AreRows kinds others b → AreRows kinds (rows ++ others) (a ++ b)
rows-joined kinds rows others a b h g = record {
  storable = all-joined (IsStorable kinds) rows others h.storable g.storable;
  spelled = (λ i. h.spelled i ++ g.spelled i) ∙ sym (bytes-joined rows others);
}

pub one-row : (kinds : List Kind) (row : List Value) (a : List ℕ) → IsRow kinds row a → AreRows kinds (row ∷ []) a
one-row kinds row a h = record { storable = (h.storable, tt); spelled = h.spelled ∙ sym (append-nil (row_bytes row)) }

-- whatever rows the bytes spell begin with those that were read, and the others are spelled by the rest
abbrev pub Follows : List Kind → List ℕ → List (List Value) → List ℕ → Type 0
Follows kinds bytes done rest = (others : List (List Value)) → AreRows kinds others bytes → (more : List (List Value)) × ((others ≡ done ++ more) × AreRows kinds more rest)

cancel : (xs ys zs : List ℕ) → xs ++ ys ≡ xs ++ zs → ys ≡ zs
cancel [] ys zs h = h
cancel (x ∷ xs) ys zs h = cancel xs ys zs (tail h)
  where
    tail : x ∷ (xs ++ ys) ≡ x ∷ (xs ++ zs) → xs ++ ys ≡ xs ++ zs
    tail h = cc

pub follow-start : (kinds : List Kind) (bytes : List ℕ) → Follows kinds bytes [] bytes
follow-start kinds bytes others h = (others, (refl, h))

pub follow-row : (kinds : List Kind) (bytes : List ℕ) (done : List (List Value)) (rest : List ℕ) (row : List Value) (len : ℕ)
    → Follows kinds bytes done rest → 0 < length rest → IsRow kinds row (take len rest) → Follows kinds bytes (done ++ row ∷ []) (drop len rest)
follow-row kinds bytes done rest row len follows some is others h = by (follows others h).0 (follows others h).1.0 (follows others h).1.1
  where
    by : (more : List (List Value)) → others ≡ done ++ more → AreRows kinds more rest → (rows : List (List Value)) × ((others ≡ (done ++ row ∷ []) ++ rows) × AreRows kinds rows (drop len rest))
    by [] e m = absurd (let n : length rest ≡ 0 = ap (λ (l : List ℕ). length l) m.spelled in omega (arith, n, some))
    by (x ∷ xs) e m =
        let also : IsRow kinds x (row_bytes x) = record { storable = m.storable.0; spelled = refl } in
        let a : (take len rest ≡ row_bytes x) × (row ≡ x) = rows_are_apart kinds row x (take len rest) (row_bytes x) (drop len rest) (rows_bytes xs) is also (take-append-drop len rest ∙ m.spelled) in
        let r : drop len rest ≡ rows_bytes xs = cancel (row_bytes x) (drop len rest) (rows_bytes xs) (ap (λ b. b ++ drop len rest) (sym a.0) ∙ take-append-drop len rest ∙ m.spelled) in
        (xs, (e ∙ ap (λ (y : List Value). done ++ y ∷ xs) (sym a.1) ∙ sym (append_assoc done (row ∷ []) xs), record { storable = m.storable.1; spelled = r }))

-- where no row begins the rest, and there is some, the bytes spell no rows
pub follow-none : (kinds : List Kind) (bytes : List ℕ) (done : List (List Value)) (rest : List ℕ)
    → Follows kinds bytes done rest → 0 < length rest → ((row : List Value) (len : ℕ) → IsRow kinds row (take len rest) → ⊥) → (rows : List (List Value)) → AreRows kinds rows bytes → ⊥
follow-none kinds bytes done rest follows some none rows h = by (follows rows h).0 (follows rows h).1.1
  where
    by : (more : List (List Value)) → AreRows kinds more rest → ⊥
    by [] m = let n : length rest ≡ 0 = ap (λ (l : List ℕ). length l) m.spelled in omega (arith, n, some)
    by (x ∷ xs) m =
        none x (length (row_bytes x))
        (record { storable = m.storable.0; spelled = ap (take (length (row_bytes x))) m.spelled ∙ take-append_seam (row_bytes x) (rows_bytes xs) })

-- what was read so far
abbrev pub Front : List Kind → List (List Value) → List ℕ → List ℕ → Type 0
Front kinds rows rest bytes = (front : List ℕ) × ((bytes ≡ front ++ rest) × AreRows kinds rows front)

pub front-row : (kinds : List Kind) (rows : List (List Value)) (rest bytes : List ℕ) (row : List Value) (len : ℕ) → Front kinds rows rest bytes → IsRow kinds row (take len rest) → Front kinds (rows ++ row ∷ []) (drop len rest) bytes
front-row kinds rows rest bytes row len f is =
    (f.0 ++ take len rest, (f.1.0 ∙ ap (λ b. f.0 ++ b) (sym (take-append-drop len rest)) ∙ sym (append_assoc f.0 (take len rest) (drop len rest)), rows-joined kinds rows (row ∷ []) f.0 (take len rest) f.1.1 (one-row kinds row (take len rest) is)))

pub front-all : (kinds : List Kind) (rows : List (List Value)) (rest bytes : List ℕ) → rest ≡ [] → Front kinds rows rest bytes → AreRows kinds rows bytes
front-all kinds rows rest bytes e f = record { storable = f.1.1.storable; spelled = f.1.0 ∙ ap (λ b. f.0 ++ b) e ∙ append-nil f.0 ∙ f.1.1.spelled }

-- a row takes some bytes
row-some : (row : List Value) → 0 < length row → row_bytes row ≡ [] → ⊥
row-some row some h = by (bitmap_length (length row)) (null_flags row) (omega (arith, some)) h
  where
    by : (m n : ℕ) → 0 < m → low_bytes m n ++ flat_map value_bytes row ≡ [] → ⊥
    by zero n l e = omega (arith, l)
    by (suc m) n l e = cc

pub row-length : (kinds : List Kind) (row : List Value) → Fits kinds row → length row ≡ length kinds
row-length [] [] h = refl
row-length [] (v ∷ row) h = absurd h
row-length (k ∷ kinds) [] h = absurd h
row-length (k ∷ kinds) (v ∷ row) h = ap suc (row-length kinds row h.1)

pub row-takes : (kinds : List Kind) (rest : List ℕ) (row : List Value) (len : ℕ) → 0 < length kinds → IsRow kinds row (take len rest) → 0 < len
row-takes kinds rest row zero some is = absurd (row-some row (let n = row-length kinds row is.storable.fits in omega (arith, n, some)) (sym is.spelled))
row-takes kinds rest row (suc len) some is = omega arith

-- one spelling, and one reading
pub one-reading : (kinds : List Kind) (rows others : List (List Value)) (bytes : List ℕ) → 0 < length kinds → AreRows kinds rows bytes → AreRows kinds others bytes → rows ≡ others
one-reading kinds [] [] bytes some h g = refl
one-reading kinds [] (x ∷ xs) bytes some h g = absurd (first x xs g (sym h.spelled ∙ g.spelled))
  where
    first : (x : List Value) (xs : List (List Value)) → AreRows kinds (x ∷ xs) bytes → [] ≡ row_bytes x ++ rows_bytes xs → ⊥
    first x xs g e = row-some x (let n = row-length kinds x g.storable.0.fits in omega (arith, n, some)) (left (row_bytes x) (rows_bytes xs) e)
      where
        left : (a b : List ℕ) → [] ≡ a ++ b → a ≡ []
        left [] b e = refl
        left (y ∷ a) b e = cc
one-reading kinds (x ∷ xs) [] bytes some h g = absurd (first (sym g.spelled ∙ h.spelled))
  where
    left : (a b : List ℕ) → [] ≡ a ++ b → a ≡ []
    left [] b e = refl
    left (y ∷ a) b e = cc

    first : [] ≡ row_bytes x ++ rows_bytes xs → ⊥
    first e = row-some x (let n = row-length kinds x h.storable.0.fits in omega (arith, n, some)) (left (row_bytes x) (rows_bytes xs) e)
one-reading kinds (x ∷ xs) (y ∷ ys) bytes some h g =
    let is : IsRow kinds x (row_bytes x) = record { storable = h.storable.0; spelled = refl } in
    let also : IsRow kinds y (row_bytes y) = record { storable = g.storable.0; spelled = refl } in
    let e : row_bytes x ++ rows_bytes xs ≡ row_bytes y ++ rows_bytes ys = sym h.spelled ∙ g.spelled in
    let a : (row_bytes x ≡ row_bytes y) × (x ≡ y) = rows_are_apart kinds x y (row_bytes x) (row_bytes y) (rows_bytes xs) (rows_bytes ys) is also e in
    let r : rows_bytes xs ≡ rows_bytes ys = cancel (row_bytes y) (rows_bytes xs) (rows_bytes ys) (ap (λ b. b ++ rows_bytes xs) (sym a.0) ∙ e) in
    λ i. a.1 i ∷ one-reading kinds xs ys (rows_bytes xs) some (record { storable = h.storable.1; spelled = refl }) (record { storable = g.storable.1; spelled = r }) i

-- a fault is the same, whatever else might have been given
pub other-err : {A B E : Type 0} (x y : E) → (let r : Result A E = Err x in r) ≡ (let r : Result A E = Err y in r) → (let r : Result B E = Err x in r) ≡ (let r : Result B E = Err y in r)
other-err {A} {B} {E} x y e = let same : x ≡ y = cc in λ i. let r : Result B E = Err (same i) in r
