-- The name of a lane's file tells its numbers: each ends at the first byte that is no digit.
use Rattle.std.proofs.Common.{◌≡◌, ◌∙◌, sym, ap, subst, refl, arith, append_assoc, ℕ, ◌<◌, ◌^◌, length, List, [], ◌∷◌, ◌++◌, decimal}
use Rattle.std.proofs.lemmas.Fmt.{decimal_is_IsNumeral}
use Rattle.std.proofs.lemmas.Str.Parse.{digit_from_value}
use Rattle.std.specs.Str.Parse.{AllDigits, digits_value}
use Rattle.hq_value.specs.declared.entry.FileId.{FileId}
use Rattle.hq_dir.specs.LaneNames.{lane_name, FitsId, BeginsAsLane}

abbrev head_of : List ℕ → ℕ
head_of [] = 0
head_of (x ∷ xs) = x

abbrev tail_of : List ℕ → List ℕ
tail_of [] = []
tail_of (x ∷ xs) = xs

-- digits end at the first byte that is below them
digits_end : (ds es xs ys : List ℕ) (c : ℕ) → AllDigits 10 ds → AllDigits 10 es → c < 48
    → ds ++ c ∷ xs ≡ es ++ c ∷ ys → (ds ≡ es) × (xs ≡ ys)
digits_end [] [] xs ys c nds nes low e = (refl, ap tail_of e)
digits_end [] (d ∷ es) xs ys c nds nes low e =
    let same : c ≡ d = ap head_of e in
    absurd (omega (arith, low, same, (digit_from_value d nes.0).0))
digits_end (d ∷ ds) [] xs ys c nds nes low e =
    let same : d ≡ c = ap head_of e in
    absurd (omega (arith, low, same, (digit_from_value d nds.0).0))
digits_end (d ∷ ds) (f ∷ es) xs ys c nds nes low e =
    let same : d ≡ f = ap head_of e in
    let rest = digits_end ds es xs ys c nds.1 nes.1 low (ap tail_of e) in
    (rw same (ap (λ l. f ∷ l) rest.0), rest.1)

are_digits : (n : ℕ) → n < 2 ^ 64 → AllDigits 10 (decimal n)
are_digits n small = (decimal_is_IsNumeral n small).0.1

same_number : (m n : ℕ) → m < 2 ^ 64 → n < 2 ^ 64 → decimal m ≡ decimal n → m ≡ n
same_number m n small other e =
    sym ((decimal_is_IsNumeral m small).1) ∙ ap (digits_value 10) e ∙ (decimal_is_IsNumeral n other).1

same_id : (a b : FileId) → a.table ≡ b.table → a.lane ≡ b.lane → a.bucket ≡ b.bucket → a ≡ b
same_id a b table lane bucket = grind arith

-- a name by its parts, from the left
abbrev parts_of : FileId → List ℕ
parts_of id = 116 ∷ (decimal id.table ++ (45 ∷ 108 ∷ (decimal id.lane ++ (45 ∷ 98 ∷ decimal id.bucket))))

by_parts : (id : FileId) → lane_name id ≡ parts_of id
by_parts id = simp append_assoc refl

pub own_names : (a b : FileId) → FitsId a → FitsId b → lane_name a ≡ lane_name b → a ≡ b
own_names a b fits other e =
    let whole : parts_of a ≡ parts_of b = sym (by_parts a) ∙ e ∙ by_parts b in
    let table = digits_end (decimal a.table) (decimal b.table)
    (108 ∷ (decimal a.lane ++ (45 ∷ 98 ∷ decimal a.bucket))) (108 ∷ (decimal b.lane ++ (45 ∷ 98 ∷ decimal b.bucket))) 45
    (are_digits a.table (omega (arith, fits.table))) (are_digits b.table (omega (arith, other.table))) (omega arith) (ap tail_of whole) in
    let lane = digits_end (decimal a.lane) (decimal b.lane) (98 ∷ decimal a.bucket) (98 ∷ decimal b.bucket) 45
    (are_digits a.lane (omega (arith, fits.lane))) (are_digits b.lane (omega (arith, other.lane))) (omega arith) (ap tail_of table.1) in
    same_id a b
    (same_number a.table b.table (omega (arith, fits.table)) (omega (arith, other.table)) table.0)
    (same_number a.lane b.lane (omega (arith, fits.lane)) (omega (arith, other.lane)) lane.0)
    (same_number a.bucket b.bucket (omega (arith, fits.bucket)) (omega (arith, other.bucket)) (ap tail_of lane.1))

-- digits that are not none begin with one
begins : (ds rest : List ℕ) → 0 < length ds → AllDigits 10 ds → BeginsAsLane (116 ∷ (ds ++ rest))
begins [] rest some all = absurd (omega (arith, some))
begins (d ∷ ds) rest some all = let digit = digit_from_value d all.0 in (refl, digit.0, digit.1)

pub begin_as_lanes : (id : FileId) → FitsId id → BeginsAsLane (lane_name id)
begin_as_lanes id fits =
    let digits = (decimal_is_IsNumeral id.table (omega (arith, fits.table))).0 in
    subst BeginsAsLane (sym (by_parts id))
    (begins (decimal id.table) (45 ∷ 108 ∷ (decimal id.lane ++ (45 ∷ 98 ∷ decimal id.bucket))) digits.0 digits.1)
