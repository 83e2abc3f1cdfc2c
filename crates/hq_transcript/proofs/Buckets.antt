-- Rows that are the same in each bucket are the same in each table, also with NULLs behind them.
use Rattle.std.proofs.Common.{◌≡◌, ℕ, zero, suc, ◌+◌, ◌-◌, ◌<◌, ◌≤◌, Bool, true, false, ◌&&◌, List, [], ◌∷◌, ◌++◌, length, map, replicate, nat_lt, ◌==◌, flat_map, if◌then◌else◌, cond, refl, sym, ◌∙◌, ap, arith, append_assoc}
use Rattle.std.specs.List.{list_all}
use Rattle.hq_value.specs.declared.value.Value.{Value}
use Rattle.hq_value.specs.declared.value.Value.TheVariants as value
use Rattle.hq_value.specs.declared.kind.Kind.{Kind}
use Rattle.hq_value.specs.Order.{row_cmp, SameBag}
use Rattle.hq_value.specs.Sorting.{times}
use Rattle.hq_value.proofs.Sorting.{times-append}
use Rattle.hq_meaning.proofs.Bags.{SameBag-map}
use Rattle.hq_value.specs.Bucket.{bucket_at, share_from, share}
use Rattle.hq_value.specs.Tables.{Definition}
use Rattle.hq_value.proofs.Bags.{bucket-below}
use Rattle.hq_block.specs.Block.{padded}
use Rattle.hq_history.specs.declared.noted.Growth.{Growth}
use Rattle.hq_history.specs.declared.noted.Deposit.{Deposit}
use Rattle.hq_history.specs.Deposits.{growths_in, bytes_within}
use Rattle.hq_transcript.specs.Tables.{Put, kinds_in, width, rows_in}
use Rattle.hq_transcript.specs.History.{bucket_rows, grown_rows, put_in, puts_in, HasRows}

abbrev Row : Type 0
Row = List Value

abbrev sum_below : ℕ → (ℕ → ℕ) → ℕ
sum_below zero f = 0
sum_below (suc n) f = sum_below n f + f n

sum_same : (n : ℕ) (f g : ℕ → ℕ) → ((b : ℕ) → f b ≡ g b) → sum_below n f ≡ sum_below n g
sum_same zero f g h = refl
sum_same (suc n) f g h = λ i. sum_same n f g h i + h n i

sum_both : (n : ℕ) (f g : ℕ → ℕ) → sum_below n (λ b. f b + g b) ≡ sum_below n f + sum_below n g
sum_both zero f g = refl
sum_both (suc n) f g = omega (arith, sum_both n f g)

sum_nothing : (n : ℕ) → sum_below n (λ b. 0) ≡ 0
sum_nothing zero = refl
sum_nothing (suc n) = omega (arith, sum_nothing n)

sum_past : (n c v : ℕ) → n ≤ c → sum_below n (λ b. cond (c == b) v 0) ≡ 0
sum_past zero c v h = refl
sum_past (suc n) c v h = let apart : (c == n) ≡ false = grind arith in rw apart (omega (arith, sum_past n c v (omega arith)))

-- one of the places below n is c
sum_one : (n c v : ℕ) → c < n → sum_below n (λ b. cond (c == b) v 0) ≡ v
sum_one zero c v h = absurd (omega arith)
sum_one (suc n) c v h = by (c == n) refl (λ i. sum_one n c v i)
  where
    by : (t : Bool) → (c == n) ≡ t → (c < n → sum_below n (λ b. cond (c == b) v 0) ≡ v) → sum_below n (λ b. cond (c == b) v 0) + cond (c == n) v 0 ≡ v
    by true e rest = let same : c ≡ n = grind (arith, e) in rw e (omega (arith, sum_past n c v (omega (arith, same))))
    by false e rest = let less : c < n = grind (arith, e) in rw e (omega (arith, rest less))

weigh : (c : Bool) (F G : List Row) (row : Row) → times row_cmp row (if c then F ++ G else G) ≡ cond c (times row_cmp row F) 0 + times row_cmp row G
weigh true F G row = times-append row_cmp row F G
weigh false F G row = omega arith

-- ---- NULLs behind rows

replicate-both : (m n k : ℕ) (v : Value) → m + n ≡ k → replicate m v ++ replicate n v ≡ replicate k v
replicate-both zero n k v h = let same : n ≡ k = omega (arith, h) in ap (λ x. replicate x v) same
replicate-both (suc m) n zero v h = absurd (omega (arith, h))
replicate-both (suc m) n (suc k) v h = ap (λ l. v ∷ l) (replicate-both m n k v (omega (arith, h)))

length-more : (row more : Row) → length (row ++ more) ≡ length row + length more
length-more [] more = omega arith
length-more (v ∷ row) more = omega (arith, length-more row more)

length-nulls : (n : ℕ) (v : Value) → length (replicate n v) ≡ n
length-nulls zero v = refl
length-nulls (suc n) v = ap suc (length-nulls n v)

pub padded-twice : (v w : ℕ) (row : Row) → v ≤ w → padded w (padded v row) ≡ padded w row
padded-twice v w row le =
    let counts : length (padded v row) ≡ length row + (v - length row) = length-more row (replicate (v - length row) value.Null) ∙ ap (λ n. length row + n) (length-nulls (v - length row) value.Null) in
    let left : (v - length row) + (w - length (padded v row)) ≡ w - length row = omega (arith, counts, le) in
    append_assoc row (replicate (v - length row) value.Null) (replicate (w - length (padded v row)) value.Null)
    ∙ ap (λ l. row ++ l) (replicate-both (v - length row) (w - length (padded v row)) (w - length row) value.Null left)

map-both : (f : Row → Row) (xs ys : List Row) → map f (xs ++ ys) ≡ map f xs ++ map f ys
map-both f [] ys = refl
map-both f (x ∷ xs) ys = ap (λ l. f x ∷ l) (map-both f xs ys)

map-padded : (v w : ℕ) (rows : List Row) → v ≤ w → map (padded w) (map (padded v) rows) ≡ map (padded w) rows
map-padded v w [] le = refl
map-padded v w (row ∷ rows) le = λ i. padded-twice v w row le i ∷ map-padded v w rows le i

pub bucket_rows-wider : (v w : ℕ) (puts : List Put) (t b : ℕ) → v ≤ w → map (padded w) (bucket_rows v puts t b) ≡ bucket_rows w puts t b
bucket_rows-wider v w [] t b le = refl
bucket_rows-wider v w (put ∷ puts) t b le = by (put.table == t) (bucket_rows-wider v w puts t b le)
  where
    by : (c : Bool) → map (padded w) (bucket_rows v puts t b) ≡ bucket_rows w puts t b
        → map (padded w) (if c then map (padded v) (share put.keys put.rows b) ++ bucket_rows v puts t b else bucket_rows v puts t b)
        ≡ (if c then map (padded w) (share put.keys put.rows b) ++ bucket_rows w puts t b else bucket_rows w puts t b)
    by false rest = rest
    by true rest = map-both (padded w) (map (padded v) (share put.keys put.rows b)) (bucket_rows v puts t b) ∙ (λ i. map-padded v w (share put.keys put.rows b) le i ++ rest i)

-- ---- sums over the buckets

module _ (w : ℕ) (row : Row) where
  weigh_one : (c : Bool) (r : Row) (G : List Row) → times row_cmp row (map (padded w) (if c then r ∷ G else G)) ≡ cond c (times row_cmp row (padded w r ∷ [])) 0 + times row_cmp row (map (padded w) G)
  weigh_one true r G = omega arith
  weigh_one false r G = omega arith

  share_sum : (keys : List ℕ) (place : ℕ) (rows : List Row) → sum_below 16 (λ b. times row_cmp row (map (padded w) (share_from keys place rows b))) ≡ times row_cmp row (map (padded w) rows)
  share_sum keys place [] = sum_nothing 16
  share_sum keys place (r ∷ rows) =
      let c : ℕ = bucket_at keys place r in
      let n : ℕ = times row_cmp row (padded w r ∷ []) in
      let each : (b : ℕ) → times row_cmp row (map (padded w) (share_from keys place (r ∷ rows) b)) ≡ cond (c == b) n 0 + times row_cmp row (map (padded w) (share_from keys (place + 1) rows b)) =
      λ b. weigh_one (c == b) r (share_from keys (place + 1) rows b) in
      sum_same 16 _ (λ b. cond (c == b) n 0 + times row_cmp row (map (padded w) (share_from keys (place + 1) rows b))) each
      ∙ sum_both 16 (λ b. cond (c == b) n 0) (λ b. times row_cmp row (map (padded w) (share_from keys (place + 1) rows b)))
      ∙ (λ i. sum_one 16 c n (bucket-below keys place r) i + share_sum keys (place + 1) rows i)
      ∙ sym (weigh_one true r rows)

  puts_sum : (t : ℕ) (puts : List Put) → sum_below 16 (λ b. times row_cmp row (bucket_rows w puts t b)) ≡ times row_cmp row (rows_in w puts t)
  puts_sum t [] = sum_nothing 16
  puts_sum t (put ∷ puts) = by (put.table == t) (puts_sum t puts)
    where
      by : (c : Bool) → sum_below 16 (λ b. times row_cmp row (bucket_rows w puts t b)) ≡ times row_cmp row (rows_in w puts t)
          → sum_below 16 (λ b. times row_cmp row (if c then map (padded w) (share put.keys put.rows b) ++ bucket_rows w puts t b else bucket_rows w puts t b))
          ≡ times row_cmp row (if c then map (padded w) put.rows ++ rows_in w puts t else rows_in w puts t)
      by false rest = rest
      by true rest =
          sum_same 16 _ (λ b. times row_cmp row (map (padded w) (share put.keys put.rows b)) + times row_cmp row (bucket_rows w puts t b)) (λ b. times-append row_cmp row (map (padded w) (share put.keys put.rows b)) (bucket_rows w puts t b))
          ∙ sum_both 16 (λ b. times row_cmp row (map (padded w) (share put.keys put.rows b))) (λ b. times row_cmp row (bucket_rows w puts t b))
          ∙ (λ i. share_sum put.keys 0 put.rows i + rest i)
          ∙ sym (times-append row_cmp row (map (padded w) put.rows) (rows_in w puts t))

  both_true : (a b : Bool) → (a && b) ≡ true → (a ≡ true) × (b ≡ true)
  both_true true b h = (refl, h)
  both_true false b h = cc

  weigh_file : (c : Bool) (f : List ℕ → List Row) (bytes : List ℕ) (more : List (List ℕ))
      → times row_cmp row (map (padded w) (flat_map f (if c then (bytes ∷ more) else more))) ≡ cond c (times row_cmp row (map (padded w) (f bytes))) 0 + times row_cmp row (map (padded w) (flat_map f more))
  weigh_file true f bytes more = ap (times row_cmp row) (map-both (padded w) (f bytes) (flat_map f more)) ∙ times-append row_cmp row (map (padded w) (f bytes)) (map (padded w) (flat_map f more))
  weigh_file false f bytes more = omega arith

  module _ (file_rows : List Kind → List ℕ → List (List Value)) (tables : List Definition) where
    growths_sum : (t : ℕ) (gs : List Growth) → list_all (λ (g : Growth). nat_lt g.file.bucket 16) gs ≡ true
        → sum_below 16 (λ b. times row_cmp row (map (padded w) (flat_map (file_rows (kinds_in tables t)) (bytes_within t b gs)))) ≡ times row_cmp row (rows_in w (map (put_in file_rows tables) gs) t)
    growths_sum t [] h = sum_nothing 16
    growths_sum t (g ∷ gs) h =
        let both : (nat_lt g.file.bucket 16 ≡ true) × (list_all (λ (x : Growth). nat_lt x.file.bucket 16) gs ≡ true) = both_true (nat_lt g.file.bucket 16) (list_all (λ (x : Growth). nat_lt x.file.bucket 16) gs) h in
        by (g.file.table == t) refl (grind (arith, both.0)) (growths_sum t gs both.1)
      where
        same_table : (g.file.table == t) ≡ true → g.file.table ≡ t
        same_table e = grind (arith, e)

        by : (c : Bool) → (g.file.table == t) ≡ c → g.file.bucket < 16
            → sum_below 16 (λ b. times row_cmp row (map (padded w) (flat_map (file_rows (kinds_in tables t)) (bytes_within t b gs)))) ≡ times row_cmp row (rows_in w (map (put_in file_rows tables) gs) t)
            → sum_below 16 (λ b. times row_cmp row (map (padded w) (flat_map (file_rows (kinds_in tables t)) (if c && (g.file.bucket == b) then (g.bytes ∷ bytes_within t b gs) else bytes_within t b gs))))
            ≡ times row_cmp row (if c then map (padded w) (file_rows (kinds_in tables g.file.table) g.bytes) ++ rows_in w (map (put_in file_rows tables) gs) t else rows_in w (map (put_in file_rows tables) gs) t)
        by false e below rest = rest
        by true e below rest =
            let F : List Row = file_rows (kinds_in tables t) g.bytes in
            let one : F ≡ file_rows (kinds_in tables g.file.table) g.bytes = ap (λ u. file_rows (kinds_in tables u) g.bytes) (sym (same_table e)) in
            sum_same 16 _ (λ b. cond (g.file.bucket == b) (times row_cmp row (map (padded w) F)) 0 + times row_cmp row (map (padded w) (flat_map (file_rows (kinds_in tables t)) (bytes_within t b gs))))
            (λ b. weigh_file (g.file.bucket == b) (file_rows (kinds_in tables t)) g.bytes (bytes_within t b gs))
            ∙ sum_both 16 (λ b. cond (g.file.bucket == b) (times row_cmp row (map (padded w) F)) 0) (λ b. times row_cmp row (map (padded w) (flat_map (file_rows (kinds_in tables t)) (bytes_within t b gs))))
            ∙ (λ i. sum_one 16 g.file.bucket (times row_cmp row (map (padded w) F)) below i + rest i)
            ∙ sym (times-append row_cmp row (map (padded w) F) (rows_in w (map (put_in file_rows tables) gs) t))
            ∙ ap (λ l. times row_cmp row (map (padded w) l ++ rows_in w (map (put_in file_rows tables) gs) t)) one

-- bucket by bucket, so table by table, at every width from the tables' own on
pub SameRows-HasRows : (file_rows : List Kind → List ℕ → List (List Value)) (tables : List Definition) (deposit : Deposit) (puts : List Put) → HasRows file_rows tables deposit puts
    → (t w : ℕ) → width tables t ≤ w → SameBag (rows_in w (puts_in file_rows tables deposit) t) (rows_in w puts t)
SameRows-HasRows file_rows tables deposit puts h t w le row =
    sym (growths_sum w row file_rows tables t (growths_in deposit) h.buckets)
    ∙ sum_same 16 (λ b. times row_cmp row (map (padded w) (grown_rows file_rows tables deposit t b))) (λ b. times row_cmp row (bucket_rows w puts t b))
    (λ b. SameBag-map (padded w) (grown_rows file_rows tables deposit t b) (bucket_rows (width tables t) puts t b) (h.rows t b) row
    ∙ ap (times row_cmp row) (bucket_rows-wider (width tables t) w puts t b le))
    ∙ puts_sum w row t puts
