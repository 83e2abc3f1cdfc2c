-- One more row in its group, in each tally; and the rows of the groups.
use Rattle.std.proofs.Common.{suc, length, ◌==◌, ◌≡◌, ℕ, ◌+◌, ◌<◌, Bool, true, false, cond, not, ◌||◌, ◌&&◌, List, [], ◌∷◌, ◌++◌, map, get_or, slice_set as set, subst, refl, sym, ◌∙◌, ap, arith}
use Rattle.std.specs.Prelude.{flat_map, All}
use Rattle.std.specs.List.{list_any, position_or_len}
use Rattle.std.specs.Cmp.Lexicographic.{pointwise}
use Rattle.std.proofs.lemmas.List.{map-append, map-set, length-map, get_or-map, length-set}
use Rattle.std.proofs.lemmas.List.Folds.{list_any-append}
use Rattle.std.proofs.lemmas.Bool.{eqb-true}
use Rattle.std.proofs.Math.ListN as indexed
use Rattle.hq_value.specs.declared.value.Value.{Value}
use Rattle.hq_value.specs.contracts.value.ValuePartialEq.TheImpl as partial
use Rattle.hq_meaning.specs.Rows.{Row, firsts}
use Rattle.hq_meaning.specs.Groups.{members, keys_found}
use Rattle.hq_ops.specs.declared.column.Column.{Column}
use Rattle.hq_ops.specs.declared.gathered.Tally.{Tally}
use Rattle.hq_ops.specs.declared.groups.GroupBy.{GroupBy}
use Rattle.hq_ops.specs.declared.running.Running.{Running}
use Rattle.hq_ops.specs.declared.running.Running.TheVariants as running
use Rattle.hq_ops.specs.Columns.{reads, reads_fault, joins, comes, seen, given, leaves}
use Rattle.hq_ops.specs.Grouping.{key_by, width_by}
use Rattle.hq_ops.specs.Gathering.{started, GrewAt, IsTally, HasGathered, AreEven, AllGrew, row_faults, given_at, leaves_at, rows_from, leaves_from, given_over, leaves_over, group_row, group_rows, group_leaves, group_keys_by}
use Rattle.hq_ops.proofs.Firsts.{keys-step}
use Rattle.hq_ops.proofs.Grouping.{groups-step, found-firsts, key-nil}
use Rattle.hq_ops.proofs.Folds.{comes-push, seen-nothing}

map-map : {X Y Z : Type 0} (g : Y → Z) (f : X → Y) (xs : List X) → map g (map f xs) ≡ map (λ x. g (f x)) xs
map-map g f [] = refl
map-map g f (x ∷ xs) = ap (λ l. g (f x) ∷ l) (map-map g f xs)

-- the state of the groups before their row is added, as what comes over the rows of each
seen-started : (c : Column) (fresh : Bool) (olds : List Running) (gs : List (List Row))
    → map (seen c) olds ≡ map (comes c) gs → map (seen c) (started fresh olds) ≡ map (comes c) (cond fresh (gs ++ [] ∷ []) gs)
seen-started c true olds gs e = map-append (seen c) olds (running.Nothing ∷ []) ∙ (λ i. e i ++ seen-nothing c i ∷ []) ∙ sym (map-append (comes c) gs ([] ∷ []))
seen-started c false olds gs e = e

tally-step : (key : Row → Row) (c : Column) (xs : List Row) (x : Row) (keys : List Row) (y : Row) (olds news : List Running) (index : ℕ) (fresh : Bool)
    → keys ≡ firsts (map key xs) → y ≡ key x
    → fresh ≡ not (list_any (λ w. pointwise (partial.ghosts).eq y w) keys) → index ≡ position_or_len (λ w. pointwise (partial.ghosts).eq y w) keys
    → map (seen c) olds ≡ map (λ k. comes c (members key k xs)) (firsts (map key xs)) → GrewAt c index fresh x olds news
    → map (seen c) news ≡ map (λ k. comes c (members key k (xs ++ x ∷ []))) (firsts (map key (xs ++ x ∷ [])))
tally-step key c xs x keys y olds news index fresh ek ey ef ei es grew =
    ap (map (seen c)) grew.is ∙ map-set (seen c) (started fresh olds) index grew.one
    ∙ (λ i. set (all i) index (one i)) ∙ sym (map-set (comes c) hs index g)
    ∙ ap (map (comes c)) (groups-step key xs x keys y gs hs index fresh g [] ek ey refl ef ei refl refl)
    ∙ map-map (comes c) (λ k. members key k (xs ++ x ∷ [])) (firsts (map key (xs ++ x ∷ [])))
  where
    gs : List (List Row)
    gs = map (λ k. members key k xs) (firsts (map key xs))

    hs : List (List Row)
    hs = cond fresh (gs ++ [] ∷ []) gs

    g : List Row
    g = get_or hs index [] ++ x ∷ []

    all : map (seen c) (started fresh olds) ≡ map (comes c) hs
    all = seen-started c fresh olds gs (es ∙ sym (map-map (comes c) (λ k. members key k xs) (firsts (map key xs))))

    before : seen c (get_or (started fresh olds) index running.Nothing) ≡ comes c (get_or hs index [])
    before = sym (indexed.get_or-map (seen c) (started fresh olds) index running.Nothing) ∙ (λ i. get_or (all i) index (seen-nothing c i)) ∙ indexed.get_or-map (comes c) hs index []

    one : seen c grew.one ≡ comes c g
    one = grew.value ∙ ap (λ v. joins c v (reads c x)) before ∙ sym (comes-push c (get_or hs index []) x)

pub columns-same : (olds news : List Tally) → length news ≡ length olds → ((n : ℕ) (d : Tally) → n < length olds → (get_or news n d).column ≡ (get_or olds n d).column)
    → map (λ (t : Tally). t.column) news ≡ map (λ (t : Tally). t.column) olds
columns-same [] [] e h = refl
columns-same [] (t ∷ news) e h = absurd (omega (arith, e))
columns-same (t ∷ olds) [] e h = absurd (omega (arith, e))
columns-same (t ∷ olds) (u ∷ news) e h =
    λ i. h 0 t (omega arith) i ∷ columns-same olds news (omega (arith, e)) (λ n d low. h (suc n) d (omega (arith, low))) i

any-map : {X Y : Type 0} (p : Y → Bool) (f : X → Y) (xs : List X) → list_any p (map f xs) ≡ list_any (λ x. p (f x)) xs
any-map p f [] = refl
any-map p f (x ∷ xs) = ap (λ b. p (f x) || b) (any-map p f xs)

-- the faults of a row by the columns of the tallies
pub faults-by : (ts : List Tally) (row : Row) (columns : List Column) → map (λ (t : Tally). t.column) ts ≡ columns → list_any (λ (t : Tally). reads_fault t.column row) ts ≡ row_faults columns row
faults-by ts row columns e = sym (any-map (λ c. reads_fault c row) (λ (t : Tally). t.column) ts) ∙ ap (λ cs. row_faults cs row) e

or-none : (a b : Bool) → a ≡ false → b ≡ false → (a || b) ≡ false
or-none a b e f = λ i. e i || f i

pub gathered-step : (by : GroupBy) (columns : List Column) (xs : List Row) (x : Row) (keys news : List Row) (y : Row) (index : ℕ) (fresh : Bool) (olds ts : List Tally)
    → HasGathered by columns xs keys olds → y ≡ key_by by x
    → news ≡ cond (list_any (λ w. pointwise (partial.ghosts).eq y w) keys) keys (keys ++ y ∷ [])
    → fresh ≡ not (list_any (λ w. pointwise (partial.ghosts).eq y w) keys) → index ≡ position_or_len (λ w. pointwise (partial.ghosts).eq y w) keys
    → AllGrew index fresh x olds ts → list_any (λ (t : Tally). reads_fault t.column x) olds ≡ false
    → HasGathered by columns (xs ++ x ∷ []) news ts
gathered-step by columns xs x keys news y index fresh olds ts h ey en ef ei grew fine = record {
  keys_are = keys-step (map (key_by by) xs) keys news (key_by by x) h.keys_are (en ∙ (λ j. cond (list_any (λ w. pointwise (partial.ghosts).eq (ey j) w) keys) keys (keys ++ ey j ∷ []))) ∙ sym (ap firsts (map-append (key_by by) xs (x ∷ [])));
  columns_are = columns-same olds ts grew.count grew.columns ∙ h.columns_are;
  tallies_are = λ n d low.
      let within : n < length olds = omega (arith, low, grew.count) in
      let same = grew.columns n d within in
      subst (λ c. map (seen c) (get_or ts n d).groups.items ≡ map (λ k. comes c (members (key_by by) k (xs ++ x ∷ []))) (firsts (map (key_by by) (xs ++ x ∷ [])))) (sym same)
      (tally-step (key_by by) (get_or olds n d).column xs x keys y (get_or olds n d).groups.items (get_or ts n d).groups.items index fresh h.keys_are ey ef ei (h.tallies_are n d within) (grew.grew n d within));
  no_fault = list_any-append (row_faults columns) xs (x ∷ []) ∙ or-none _ _ h.no_fault (or-none _ _ (sym (faults-by olds x columns h.columns_are) ∙ fine) refl);
}

one-longer : (xs : List Running) (r : Running) → length (xs ++ r ∷ []) ≡ length xs + 1
one-longer [] r = refl
one-longer (x ∷ xs) r = let e : length (xs ++ r ∷ []) ≡ length xs + 1 = one-longer xs r in omega (arith, e)

-- as many places as groups
grew-even : (c : Column) (index : ℕ) (fresh : Bool) (row : Row) (olds news : List Running) (n : ℕ) → length olds ≡ n → GrewAt c index fresh row olds news → length news ≡ n + cond fresh 1 0
grew-even c index fresh row olds news n e grew = ap length grew.is ∙ length-set (started fresh olds) index grew.one ∙ by fresh
  where
    by : (b : Bool) → length (started b olds) ≡ n + cond b 1 0
    by true = omega (arith, e, one-longer olds running.Nothing)
    by false = omega (arith, e)

pub even-step : (index : ℕ) (fresh : Bool) (row : Row) (keys news : List Row) (olds ts : List Tally) → AreEven keys olds → length news ≡ length keys + cond fresh 1 0 → AllGrew index fresh row olds ts → AreEven news ts
even-step index fresh row keys news olds ts even more grew n d low =
    let within : n < length olds = omega (arith, low, grew.count) in
    grew-even (get_or olds n d).column index fresh row (get_or olds n d).groups.items (get_or ts n d).groups.items (length keys) (even n d within) (grew.grew n d within) ∙ sym more

-- where the places are even, a row has its place
pub has-place : (index : ℕ) (fresh : Bool) (keys : List Row) (olds : List Tally) → AreEven keys olds → index < length keys + cond fresh 1 0 → All (λ (t : Tally). index < length (started fresh t.groups.items)) olds
has-place index fresh keys olds even low n d within = by fresh low
  where
    by : (b : Bool) → index < length keys + cond b 1 0 → index < length (started b (get_or olds n d).groups.items)
    by true h = omega (arith, h, even n d within, one-longer (get_or olds n d).groups.items running.Nothing)
    by false h = omega (arith, h, even n d within)

-- before any row
pub nothing-yet : (by : GroupBy) (columns : List Column) (ts : List Tally) → map (λ (t : Tally). t.column) ts ≡ columns → All (λ (t : Tally). t.groups.items ≡ []) ts → HasGathered by columns [] [] ts
nothing-yet by columns ts e empty = record {
  keys_are = refl;
  columns_are = e;
  tallies_are = λ n d low. ap (map (seen (get_or ts n d).column)) (empty n d low);
  no_fault = refl;
}

-- what stands at an index is what comes over the rows of the group there
at-group : (by : GroupBy) (rows : List Row) (t : Tally) (i : ℕ) (k : Row) → IsTally by rows t → i < length (firsts (map (key_by by) rows)) → k ≡ get_or (firsts (map (key_by by) rows)) i k
    → seen t.column (get_or t.groups.items i running.Nothing) ≡ comes t.column (members (key_by by) k rows)
at-group by rows t i k h low at =
    let f = λ (k : Row). comes t.column (members (key_by by) k rows) in
    let K = firsts (map (key_by by) rows) in
    let long : length t.groups.items ≡ length K = sym (length-map t.groups.items (seen t.column)) ∙ ap length h ∙ length-map K f in
    sym (get_or-map (seen t.column) t.groups.items i running.Nothing (f k) (omega (arith, low, long)))
    ∙ ap (λ l. get_or l i (f k)) h ∙ indexed.get_or-map f K i k ∙ ap f (sym at)

flat-same : (f : Tally → List Value) (g : Column → List Value) (ts : List Tally) → ((n : ℕ) (d : Tally) → n < length ts → f (get_or ts n d) ≡ g (get_or ts n d).column) → flat_map f ts ≡ flat_map g (map (λ (t : Tally). t.column) ts)
flat-same f g [] h = refl
flat-same f g (t ∷ ts) h = λ i. h 0 t (omega arith) i ++ flat-same f g ts (λ n d low. h (suc n) d (omega (arith, low))) i

any-same : (f : Tally → Bool) (g : Column → Bool) (ts : List Tally) → ((n : ℕ) (d : Tally) → n < length ts → f (get_or ts n d) ≡ g (get_or ts n d).column) → list_any f ts ≡ list_any g (map (λ (t : Tally). t.column) ts)
any-same f g [] h = refl
any-same f g (t ∷ ts) h = λ i. h 0 t (omega arith) i || any-same f g ts (λ n d low. h (suc n) d (omega (arith, low))) i

-- the rows of the groups from an index on, by a row for each key
rows-by : (f : Row → Row) (ts : List Tally) (i : ℕ) (keys : List Row) → ((j : ℕ) (k : Row) → j < length keys → k ≡ get_or keys j k → k ++ flat_map (given_at (i + j)) ts ≡ f k) → rows_from ts i keys ≡ map f keys
rows-by f ts i [] h = refl
rows-by f ts i (k ∷ keys) h =
    let z : i + 0 ≡ i = omega arith in
    λ n. (sym (ap (λ m. k ++ flat_map (given_at m) ts) z) ∙ h 0 k (omega arith) refl) n
    ∷ rows-by f ts (i + 1) keys (λ j l low at. (let s : i + 1 + j ≡ i + suc j = omega arith in ap (λ m. l ++ flat_map (given_at m) ts) s) ∙ h (suc j) l (omega (arith, low)) at) n

leaves-by : (p : Row → Bool) (ts : List Tally) (i : ℕ) (keys : List Row) → ((j : ℕ) (k : Row) → j < length keys → k ≡ get_or keys j k → list_any (leaves_at (i + j)) ts ≡ p k) → leaves_from ts i keys ≡ list_any p keys
leaves-by p ts i [] h = refl
leaves-by p ts i (k ∷ keys) h =
    let z : i + 0 ≡ i = omega arith in
    λ n. (sym (ap (λ m. list_any (leaves_at m) ts) z) ∙ h 0 k (omega arith) refl) n
    || leaves-by p ts (i + 1) keys (λ j l low at. (let s : i + 1 + j ≡ i + suc j = omega arith in ap (λ m. list_any (leaves_at m) ts) s) ∙ h (suc j) l (omega (arith, low)) at) n

module _ (by : GroupBy) (columns : List Column) (rows keys : List Row) (ts : List Tally) (h : HasGathered by columns rows keys ts) where
  here : (j : ℕ) (k : Row) → j < length keys → k ≡ get_or keys j k → (n : ℕ) (d : Tally) → n < length ts
      → seen (get_or ts n d).column (get_or (get_or ts n d).groups.items j running.Nothing) ≡ comes (get_or ts n d).column (members (key_by by) k rows)
  here j k low at n d within = at-group by rows (get_or ts n d) j k (h.tallies_are n d within) (subst (λ l. j < length l) h.keys_are low) (at ∙ ap (λ l. get_or l j k) h.keys_are)

  pub group-rows : rows_from ts 0 keys ≡ map (group_row by columns rows) keys
  group-rows = rows-by (group_row by columns rows) ts 0 keys (λ j k low at.
      (let z : 0 + j ≡ j = omega arith in ap (λ m. k ++ flat_map (given_at m) ts) z)
      ∙ ap (λ l. k ++ l) (flat-same (given_at j) (given_over (members (key_by by) k rows)) ts (λ n d within. ap (given (get_or ts n d).column) (here j k low at n d within))
      ∙ ap (flat_map (given_over (members (key_by by) k rows))) h.columns_are))

  pub group-leaves : leaves_from ts 0 keys ≡ list_any (λ k. list_any (leaves_over (members (key_by by) k rows)) columns) keys
  group-leaves = leaves-by (λ k. list_any (leaves_over (members (key_by by) k rows)) columns) ts 0 keys (λ j k low at.
      (let z : 0 + j ≡ j = omega arith in ap (λ m. list_any (leaves_at m) ts) z)
      ∙ any-same (leaves_at j) (leaves_over (members (key_by by) k rows)) ts (λ n d within. ap (leaves (get_or ts n d).column) (here j k low at n d within))
      ∙ ap (list_any (leaves_over (members (key_by by) k rows))) h.columns_are)

  -- the keys of the groups, where there is a key or a row
  pub all-keys : ((length keys == 0) ≡ true → (width_by by == 0) ≡ false) → keys ≡ group_keys_by by rows
  all-keys some = h.keys_are ∙ sym (found-firsts (width_by by) (key_by by) (key-nil by) rows (λ none. some (no-key none)))
    where
      no-key : (length rows == 0) ≡ true → (length keys == 0) ≡ true
      no-key none = by_rows rows (eqb-true (length rows) 0 none) h.keys_are
        where
          by_rows : (rs : List Row) → length rs ≡ 0 → keys ≡ firsts (map (key_by by) rs) → (length keys == 0) ≡ true
          by_rows [] e k = ap (λ l. length l == 0) k
          by_rows (r ∷ rs) e k = absurd (omega (arith, e))

  -- without keys there is one group, also over no row
  pub no-rows : (length keys == 0) ≡ true → rows ≡ []
  no-rows none = by_rows rows h.keys_are
    where
      by_rows : (rs : List Row) → keys ≡ firsts (map (key_by by) rs) → rs ≡ []
      by_rows [] k = refl
      by_rows (r ∷ rs) k = absurd (omega (arith, eqb-true (length keys) 0 none, ap length k))

get-none : (rs : List Running) → length rs ≡ 0 → get_or rs 0 running.Nothing ≡ running.Nothing
get-none [] e = refl
get-none (r ∷ rs) e = absurd (omega (arith, e))

pub one-group : (by : GroupBy) (columns : List Column) (rows keys : List Row) (ts : List Tally) → HasGathered by columns rows keys ts → (length keys == 0) ≡ true → (width_by by == 0) ≡ true
    → (rows_from ts 0 ([] ∷ []) ≡ group_rows by columns rows) × (leaves_from ts 0 ([] ∷ []) ≡ group_leaves by columns rows)
one-group by columns rows keys ts h none narrow =
    let width : width_by by ≡ 0 = eqb-true (width_by by) 0 narrow in
    let nothing : rows ≡ [] = no-rows by columns rows keys ts h none in
    let found : group_keys_by by rows ≡ [] ∷ [] = ap (λ n. keys_found n (key_by by) rows) width in
    let empty : (n : ℕ) (d : Tally) → n < length ts → seen (get_or ts n d).column (get_or (get_or ts n d).groups.items 0 running.Nothing) ≡ comes (get_or ts n d).column (members (key_by by) [] rows) =
    (λ n d within. nothing-at (get_or ts n d) (h.tallies_are n d within) nothing) in (
      (λ i. (([] ++ flat-same (given_at 0) (given_over (members (key_by by) [] rows)) ts (λ n d within. ap (given (get_or ts n d).column) (empty n d within)) i) ∷ []))
          ∙ ap (λ cs. ([] ++ flat_map (given_over (members (key_by by) [] rows)) cs) ∷ []) h.columns_are ∙ ap (map (group_row by columns rows)) (sym found),
      ap (λ b. b || false) (any-same (leaves_at 0) (leaves_over (members (key_by by) [] rows)) ts (λ n d within. ap (leaves (get_or ts n d).column) (empty n d within))
          ∙ ap (list_any (leaves_over (members (key_by by) [] rows))) h.columns_are) ∙ ap (list_any (λ k. list_any (leaves_over (members (key_by by) k rows)) columns)) (sym found),
    )
  where
    nothing-at : (t : Tally) → IsTally by rows t → rows ≡ [] → seen t.column (get_or t.groups.items 0 running.Nothing) ≡ comes t.column (members (key_by by) [] rows)
    nothing-at t is none =
        let gone : length t.groups.items ≡ 0 = sym (length-map t.groups.items (seen t.column)) ∙ ap length (is ∙ ap (λ rs. map (λ k. comes t.column (members (key_by by) k rs)) (firsts (map (key_by by) rs))) none) in
        ap (seen t.column) (get-none t.groups.items gone) ∙ seen-nothing t.column ∙ ap (λ rs. comes t.column (members (key_by by) [] rs)) (sym none)

-- neither a key nor a row, or one of them
pub both-of : (a b : Bool) → true ≡ (a && b) → (a ≡ true) × (b ≡ true)
both-of true true e = (refl, refl)
both-of true false e = absurd cc
both-of false b e = absurd cc

pub not-both : (a b : Bool) → false ≡ (a && b) → a ≡ true → b ≡ false
not-both true true e f = absurd cc
not-both true false e f = refl
not-both false b e f = absurd cc
