-- The rows of the columns that are taken of a table, and the keys by which they lie.
use Rattle.std.proofs.Common.{◌≡◌, ◌⊎◌, ℕ, ◌%◌, Bool, true, false, not, List, [], ◌∷◌, ◌++◌, length, map, flat_map, refl, sym, ◌∙◌, ap, IsTrue, inl, inr}
use Rattle.std.specs.List.{AllByRecursion, All}
use Rattle.std.proofs.lemmas.List.{length-map}
use Rattle.hq_value.specs.declared.kind.Kind.{Kind}
use Rattle.hq_value.specs.Bucket.{key_bytes, key_at, hash_of, bucket_of}
use Rattle.hq_algebra.specs.Rules.{is_empty}
use Rattle.hq_algebra.specs.Eval.{column}
use Rattle.hq_meaning.specs.Rows.{Row}
use Rattle.hq_meaning.specs.Plans.{Parts}
use Rattle.hq_laws.specs.Placed.{StandByOwn}
use Rattle.hq_laws.specs.Spread.{FitKinds}
use Rattle.hq_laws.proofs.Chains.{IsWide}
use Rattle.hq_laws.proofs.Lists.{AllByRecursion-All, All-from}
use Rattle.hq_narrow.specs.declared.taken.Taken.{Taken}
use Rattle.hq_narrow.specs.Narrow.{taken_at, place_from, taken_row, taken_parts, AreOwn}
use Rattle.hq_narrow.proofs.Taking.{place-column}

-- by the same columns a row lies in the same bucket
module _ (columns : List ℕ) (n : ℕ) (row : Row) (e : length row ≡ n) where
  keys-taken : (keys : List ℕ) → flat_map (key_at (taken_row columns row)) keys ≡ flat_map (key_at row) (map (place_from columns n) keys)
  keys-taken [] = refl
  keys-taken (k ∷ keys) = λ i. key_bytes (sym (place-column columns n row e k) i) ++ keys-taken keys i

  bucket-taken : (keys : List ℕ) → bucket_of (taken_row columns row) keys ≡ bucket_of row (map (place_from columns n) keys)
  bucket-taken keys = ap (λ bytes. hash_of bytes % 16) (keys-taken keys)

module _ (columns keys own : List ℕ) (n b : ℕ) (same : map (place_from columns n) keys ≡ own) where
  all-stand : (rows : List Row) → AllByRecursion (IsWide n) rows → AllByRecursion (λ row. bucket_of row own ≡ b) rows → AllByRecursion (λ row. bucket_of row keys ≡ b) (map (taken_row columns) rows)
  all-stand [] wide stand = tt
  all-stand (row ∷ rows) wide stand = (bucket-taken columns n row wide.0 keys ∙ ap (bucket_of row) same ∙ stand.0, all-stand rows wide.1 stand.1)

some-own : (f : ℕ → ℕ) (keys own : List ℕ) → map f keys ≡ own → IsTrue (not (is_empty keys)) → IsTrue (not (is_empty own))
some-own f [] own e h = cc
some-own f (k ∷ keys) own e h = ap (λ l. not (is_empty l)) (sym e)

pub keys-stand : (kinds : ℕ → List Kind) (own taken : ℕ → List ℕ) (ts : List Taken) (parts : Parts) → AreOwn kinds own taken ts → FitKinds kinds parts → StandByOwn own parts → StandByOwn taken (taken_parts ts parts)
keys-stand kinds own taken ts parts are fit stand v b some = by (are v)
  where
    none : (keys : List ℕ) → keys ≡ [] → not (is_empty keys) ≡ true → true ≡ false
    none [] e h = sym h
    none (k ∷ keys) e h = cc

    by : (taken v ≡ []) ⊎ (map (place_from (taken_at ts v).columns (length (kinds (taken_at ts v).table))) (taken v) ≡ own (taken_at ts v).table) → All (λ row. bucket_of row (taken v) ≡ b) (taken_parts ts parts v b)
    by (inl e) = absurd (let u : true ≡ false = none (taken v) e some in cc)
    by (inr e) = All-from (λ row. bucket_of row (taken v) ≡ b) _
        (all-stand (taken_at ts v).columns (taken v) (own (taken_at ts v).table) (length (kinds (taken_at ts v).table)) b e (parts (taken_at ts v).table b)
        (AllByRecursion-All (IsWide (length (kinds (taken_at ts v).table))) (parts (taken_at ts v).table b) (fit (taken_at ts v).table b))
        (AllByRecursion-All (λ row. bucket_of row (own (taken_at ts v).table) ≡ b) (parts (taken_at ts v).table b) (stand (taken_at ts v).table b (some-own (place_from (taken_at ts v).columns (length (kinds (taken_at ts v).table))) (taken v) (own (taken_at ts v).table) e some))))

all-wide : (columns : List ℕ) (n : ℕ) → n ≡ length columns → (rows : List Row) → AllByRecursion (IsWide n) (map (taken_row columns) rows)
all-wide columns n e [] = tt
all-wide columns n e (row ∷ rows) = (length-map columns (column row) ∙ sym e, all-wide columns n e rows)

pub rows-fit : (found : ℕ → List Kind) (ts : List Taken) (parts : Parts) → ((v : ℕ) → length (found v) ≡ length (taken_at ts v).columns) → FitKinds found (taken_parts ts parts)
rows-fit found ts parts same v b = All-from (IsWide (length (found v))) (taken_parts ts parts v b) (all-wide (taken_at ts v).columns (length (found v)) (same v) (parts (taken_at ts v).table b))
