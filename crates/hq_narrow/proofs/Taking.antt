-- A query means the same over the columns that are taken of its sources.
use Rattle.std.proofs.Common.{◌≡◌, ℕ, zero, suc, ◌+◌, ◌<◌, nat_lt, Bool, true, false, ◌&&◌, List, [], ◌∷◌, ◌++◌, length, map, flat_map, refl, sym, ◌∙◌, ap, arith, IsTrue}
use Rattle.std.specs.List.{list_all, range_with_len, AllByRecursion}
use Rattle.std.proofs.lemmas.List.{map-append}
use Rattle.hq_value.specs.declared.value.Value.{Value}
use Rattle.hq_value.specs.declared.value.Value.TheVariants as value
use Rattle.hq_value.specs.declared.kind.Kind.{Kind}
use Rattle.hq_value.specs.Tables.{all_below}
use Rattle.hq_value.specs.Order.{SameBag}
use Rattle.hq_algebra.specs.declared.query.Query.{Query}
use Rattle.hq_algebra.specs.Eval.{column}
use Rattle.hq_meaning.specs.Rows.{Row, pairs}
use Rattle.hq_meaning.specs.Mean.{Database, product, mean}
use Rattle.hq_meaning.specs.Plans.{Parts, all_rows}
use Rattle.hq_meaning.proofs.Bags.{SameBag-equal}
use Rattle.hq_laws.specs.Placed.{further}
use Rattle.hq_laws.specs.Turned.{AreTurned, columns_in, FitTables}
use Rattle.hq_laws.proofs.Chains.{IsWide, joined-wide}
use Rattle.hq_laws.proofs.Equating.{column-left, column-right, below}
use Rattle.hq_laws.proofs.Lists.{AllByRecursion-All, both_true}
use Rattle.hq_laws.proofs.Products.{join-pairs}
use Rattle.hq_laws.proofs.Turning.{answers-same}
use Rattle.hq_narrow.specs.declared.taken.Taken.{Taken}
use Rattle.hq_narrow.specs.Narrow.{taken_at, place_from, taken_row, taken_rows, taken_tables, taken_parts, places, are_there}
use Rattle.std.proofs.Common.{subst, length-append}

map-map : {A B C : Type 0} (f : B → C) (g : A → B) (xs : List A) → map f (map g xs) ≡ map (λ x. f (g x)) xs
map-map f g [] = refl
map-map f g (x ∷ xs) = ap (λ l. f (g x) ∷ l) (map-map f g xs)

pub map-flat_map : {A B C : Type 0} (f : B → C) (g : A → List B) (xs : List A) → map f (flat_map g xs) ≡ flat_map (λ x. map f (g x)) xs
map-flat_map f g [] = refl
map-flat_map f g (x ∷ xs) = map-append f (g x) (flat_map g xs) ∙ ap (λ l. map f (g x) ++ l) (map-flat_map f g xs)

none-there : (i : ℕ) → column [] i ≡ value.Null
none-there zero = refl
none-there (suc i) = refl

behind : (row : Row) → column row (length row) ≡ value.Null
behind [] = refl
behind (x ∷ row) = behind row

-- the column that is taken as the i-th
pub place-column : (columns : List ℕ) (n : ℕ) (row : Row) → length row ≡ n → (i : ℕ) → column row (place_from columns n i) ≡ column (taken_row columns row) i
place-column [] n row e i = ap (column row) (sym e) ∙ behind row ∙ sym (none-there i)
place-column (c ∷ columns) n row e zero = refl
place-column (c ∷ columns) n row e (suc i) = place-column columns n row e i

-- of two rows beside each other
left-taken : (columns : List ℕ) (l r : Row) → all_below (length l) columns ≡ true → map (column (l ++ r)) columns ≡ map (column l) columns
left-taken [] l r h = refl
left-taken (c ∷ columns) l r h =
    let b : (nat_lt c (length l) ≡ true) × (all_below (length l) columns ≡ true) = both_true (nat_lt c (length l)) _ h in
    λ i. column-left l r c (below c (length l) b.0) i ∷ left-taken columns l r b.1 i

right-taken : (columns : List ℕ) (l r : Row) → map (column (l ++ r)) (further (length l) columns) ≡ map (column r) columns
right-taken [] l r = refl
right-taken (c ∷ columns) l r = λ i. column-right l r c i ∷ right-taken columns l r i

taken-beside : (n : ℕ) (columns more : List ℕ) → all_below n columns ≡ true → (l r : Row) → length l ≡ n → taken_row (columns ++ further n more) (l ++ r) ≡ taken_row columns l ++ taken_row more r
taken-beside n columns more there l r e =
    map-append (column (l ++ r)) columns (further n more)
    ∙ (λ i. left-taken columns l r (ap (λ m. all_below m columns) e ∙ there) i ++ (ap (λ m. map (column (l ++ r)) (further m more)) (sym e) ∙ right-taken more l r) i)

-- of pairs
module _ (n : ℕ) (f g h : Row → Row) (same : (l r : Row) → length l ≡ n → f (l ++ r) ≡ g l ++ h r) where
  beside-taken : (l : Row) → length l ≡ n → (right : List Row) → map (λ r. g l ++ r) (map h right) ≡ map f (map (λ r. l ++ r) right)
  beside-taken l e [] = refl
  beside-taken l e (r ∷ right) = λ i. sym (same l r e) i ∷ beside-taken l e right i

  pairs-taken : (left right : List Row) → AllByRecursion (IsWide n) left → pairs (map g left) (map h right) ≡ map f (pairs left right)
  pairs-taken [] right all = refl
  pairs-taken (l ∷ left) right all = (λ i. beside-taken l all.0 right i ++ pairs-taken left right all.1 i) ∙ sym (map-append f (map (λ r. l ++ r) right) (pairs left right))

-- of all sources
product-taken : (kinds : ℕ → List Kind) (db : Database) → FitTables kinds db → (ts : List Taken) → are_there kinds ts ≡ true
    → product (map (taken_rows db) ts) ≡ map (taken_row (places kinds ts)) (product (map (λ (t : Taken). db t.table) ts))
product-taken kinds db fit [] there = refl
product-taken kinds db fit (t ∷ ts) there =
    let b : (all_below (length (kinds t.table)) t.columns ≡ true) × (are_there kinds ts ≡ true) = both_true (all_below (length (kinds t.table)) t.columns) _ there in
    ap (pairs (taken_rows db t)) (product-taken kinds db fit ts b.1)
    ∙ pairs-taken (length (kinds t.table)) (taken_row (t.columns ++ further (length (kinds t.table)) (places kinds ts))) (taken_row t.columns) (taken_row (places kinds ts))
    (taken-beside (length (kinds t.table)) t.columns (places kinds ts) b.0) (db t.table) (product (map (λ (t : Taken). db t.table) ts)) (AllByRecursion-All (IsWide (length (kinds t.table))) (db t.table) (fit t.table))

-- rows of n columns
record Wide (n : ℕ) : Type 0 where
  row : Row
  size : length row ≡ n

abbrev packed : (n : ℕ) (xs : List Row) → AllByRecursion (IsWide n) xs → List (Wide n)
packed n [] all = []
packed n (x ∷ xs) all = record { row = x; size = all.0 } ∷ packed n xs all.1

packed-rows : (n : ℕ) (f : Row → Row) (xs : List Row) (all : AllByRecursion (IsWide n) xs) → map (λ (p : Wide n). f p.row) (packed n xs all) ≡ map f xs
packed-rows n f [] all = refl
packed-rows n f (x ∷ xs) all = ap (λ l. f x ∷ l) (packed-rows n f xs all.1)

same-rows : (rows : List Row) → map (λ (row : Row). row) rows ≡ rows
same-rows [] = refl
same-rows (x ∷ rows) = ap (λ l. x ∷ l) (same-rows rows)

product-wide : (kinds : ℕ → List Kind) (db : Database) → FitTables kinds db → (ts : List ℕ) → AllByRecursion (IsWide (columns_in kinds ts)) (product (map db ts))
product-wide kinds db fit [] = (refl, tt)
product-wide kinds db fit (t ∷ ts) = subst (λ n. AllByRecursion (IsWide n) (pairs (db t) (product (map db ts)))) (sym (length-append (kinds t) (flat_map kinds ts)))
    (subst (AllByRecursion (IsWide (length (kinds t) + columns_in kinds ts))) (join-pairs (db t) (product (map db ts)))
    (joined-wide (length (kinds t)) (columns_in kinds ts) [] [] (db t) (product (map db ts)) (AllByRecursion-All (IsWide (length (kinds t))) (db t) (fit t)) (product-wide kinds db fit ts)))

pub mean-taken : (kinds : ℕ → List Kind) (q r : Query) (ts : List Taken) (db : Database) → q.sources ≡ map (λ (t : Taken). t.table) ts → map (taken_at ts) r.sources ≡ ts → IsTrue (are_there kinds ts)
    → AreTurned (place_from (places kinds ts) (columns_in kinds q.sources)) r q → FitTables kinds db → mean r (taken_tables ts db) ≡ mean q db
mean-taken kinds q r ts db from to there turn fit =
    sym (answers-same (λ (p : Wide n). taken_row (places kinds ts) p.row) (λ (p : Wide n). p.row) (place_from (places kinds ts) n)
    (λ (p : Wide n) (i : ℕ). place-column (places kinds ts) n p.row p.size i) r q turn xs (product (map (taken_tables ts db) r.sources)) (product (map db q.sources)) left right)
  where
    n : ℕ
    n = columns_in kinds q.sources

    wide : AllByRecursion (IsWide n) (product (map db q.sources))
    wide = product-wide kinds db fit q.sources

    xs : List (Wide n)
    xs = packed n (product (map db q.sources)) wide

    sources : product (map (λ (t : Taken). db t.table) ts) ≡ product (map db q.sources)
    sources = ap product (sym (map-map db (λ (t : Taken). t.table) ts) ∙ ap (map db) (sym from))

    left : product (map (taken_tables ts db) r.sources) ≡ map (λ (p : Wide n). taken_row (places kinds ts) p.row) xs
    left =
        ap product (sym (map-map (taken_rows db) (taken_at ts) r.sources) ∙ ap (map (taken_rows db)) to)
        ∙ product-taken kinds db fit ts there
        ∙ ap (map (taken_row (places kinds ts))) sources
        ∙ sym (packed-rows n (taken_row (places kinds ts)) (product (map db q.sources)) wide)

    right : SameBag (product (map db q.sources)) (map (λ (p : Wide n). p.row) xs)
    right = SameBag-equal _ _ (sym (same-rows (product (map db q.sources))) ∙ sym (packed-rows n (λ (row : Row). row) (product (map db q.sources)) wide))

pub rows-taken : (ts : List Taken) (parts : Parts) (owner : List ℕ) → all_rows (taken_parts ts parts) owner ≡ taken_tables ts (all_rows parts owner)
rows-taken ts parts owner = λ i. λ v. sym (map-flat_map (taken_row (taken_at ts v).columns) (parts (taken_at ts v).table) (range_with_len 0 (length owner))) i
