-- What a query keeps when its columns are renamed.
use Rattle.std.proofs.Common.{◌≡◌, ℕ, suc, ◌+◌, ◌-◌, ◌<◌, ◌≤◌, nat_lt, nat_le, Bool, true, false, not, cond, ◌&&◌, ◌||◌, List, [], ◌∷◌, ◌++◌, length, map, flat_map, Option, Some, refl, sym, ◌∙◌, ap, arith, slice_get}
use Rattle.std.specs.List.{list_all}
use Rattle.std.proofs.lemmas.List.{length-map}
use Rattle.std.proofs.lemmas.List.Folds.{list_all-append}
use Rattle.hq_value.specs.declared.kind.Kind.{Kind}
use Rattle.hq_value.specs.declared.kind.Kind.TheVariants as kind
use Rattle.hq_algebra.specs.declared.expr.Expr.{Expr, Row_of-Expr, end_of-Expr, more_of-Expr}
use Rattle.hq_algebra.specs.declared.expr.Expr.TheVariants as expr
use Rattle.hq_algebra.specs.declared.aggregate.Aggregate.{Aggregate}
use Rattle.hq_algebra.specs.declared.aggregate.Aggregate.TheVariants as agg
use Rattle.hq_algebra.specs.declared.query.Query.{Query}
use Rattle.hq_algebra.specs.Shape.{parts, parts_of, has_arith, arith_in, has_column, column_in}
use Rattle.hq_algebra.specs.Rules.{is_empty, cannot_fault, are_small, arguments, stands_over_pairs}
use Rattle.hq_algebra.specs.Kinds.{◌>>=◌, every, is_of, are_alike, has_kind, kind_if, column_kind, expr_kind, kind_in, item_kind, some_if, aggregate_kind}
use Rattle.hq_algebra.specs.Operators.{keys_kinds, items_kinds, values_kinds}
use Rattle.hq_algebra.specs.Queries.{product_kinds, are_conditions, query_kinds}
use Rattle.hq_algebra.specs.Plans.{is_short}
use Rattle.hq_algebra.specs.Bound.{is_table, has_room}
use Rattle.hq_laws.specs.Turned.{turned, renamed, renamed_in, renamed_aggregate, AreTurned, columns_in}
use Rattle.hq_laws.proofs.EquatedKinds.{get-left, get-right}
use Rattle.hq_laws.proofs.Turning.{all-map}
use Rattle.hq_laws.proofs.Regroup.{flat_map-append}

-- the shape of an expression
module _ (f : ℕ → ℕ) where
  mutual
    arith-renamed : (e : Expr) → has_arith (renamed f e) ≡ has_arith e
    arith-renamed (expr.Column place) = refl
    arith-renamed (expr.Literal v) = refl
    arith-renamed (expr.Arith' step p left q right) = refl
    arith-renamed (expr.Compare' test p left q right) = λ i. arith_in-renamed left i || arith_in-renamed right i
    arith-renamed (expr.And' p left q right) = λ i. arith_in-renamed left i || arith_in-renamed right i
    arith-renamed (expr.Or' p left q right) = λ i. arith_in-renamed left i || arith_in-renamed right i
    arith-renamed (expr.Not' p of) = arith_in-renamed of
    arith-renamed (expr.IsNull' p of) = arith_in-renamed of

    arith_in-renamed : {m : _} (of : Row_of-Expr m) → arith_in (renamed_in f of) ≡ arith_in of
    arith_in-renamed end_of-Expr = refl
    arith_in-renamed (more_of-Expr e rest) = arith-renamed e

  mutual
    pub column-renamed : (e : Expr) → has_column (renamed f e) ≡ has_column e
    column-renamed (expr.Column place) = refl
    column-renamed (expr.Literal v) = refl
    column-renamed (expr.Arith' step p left q right) = λ i. column_in-renamed left i || column_in-renamed right i
    column-renamed (expr.Compare' test p left q right) = λ i. column_in-renamed left i || column_in-renamed right i
    column-renamed (expr.And' p left q right) = λ i. column_in-renamed left i || column_in-renamed right i
    column-renamed (expr.Or' p left q right) = λ i. column_in-renamed left i || column_in-renamed right i
    column-renamed (expr.Not' p of) = column_in-renamed of
    column-renamed (expr.IsNull' p of) = column_in-renamed of

    column_in-renamed : {m : _} (of : Row_of-Expr m) → column_in (renamed_in f of) ≡ column_in of
    column_in-renamed end_of-Expr = refl
    column_in-renamed (more_of-Expr e rest) = column-renamed e

  mutual
    pub parts-renamed : (e : Expr) → parts (renamed f e) ≡ parts e
    parts-renamed (expr.Column place) = refl
    parts-renamed (expr.Literal v) = refl
    parts-renamed (expr.Arith' step p left q right) = λ i. suc (parts_of-renamed left i + parts_of-renamed right i)
    parts-renamed (expr.Compare' test p left q right) = λ i. suc (parts_of-renamed left i + parts_of-renamed right i)
    parts-renamed (expr.And' p left q right) = λ i. suc (parts_of-renamed left i + parts_of-renamed right i)
    parts-renamed (expr.Or' p left q right) = λ i. suc (parts_of-renamed left i + parts_of-renamed right i)
    parts-renamed (expr.Not' p of) = ap suc (parts_of-renamed of)
    parts-renamed (expr.IsNull' p of) = ap suc (parts_of-renamed of)

    parts_of-renamed : {m : _} (of : Row_of-Expr m) → parts_of (renamed_in f of) ≡ parts_of of
    parts_of-renamed end_of-Expr = refl
    parts_of-renamed (more_of-Expr e rest) = parts-renamed e

  pub calm-renamed : (es : List Expr) → cannot_fault (map (renamed f) es) ≡ cannot_fault es
  calm-renamed es = all-map (λ e. not (has_arith e)) (renamed f) es ∙ (λ i. list_all (λ e. not (arith-renamed e i)) es)

  pub small-renamed : (es : List Expr) → are_small (map (renamed f) es) ≡ are_small es
  small-renamed es = all-map (λ e. nat_le (parts e) 256) (renamed f) es ∙ (λ i. list_all (λ e. nat_le (parts-renamed e i) 256) es)

  pub arguments-renamed : (aggs : List Aggregate) → arguments (map (renamed_aggregate f) aggs) ≡ map (renamed f) (arguments aggs)
  arguments-renamed [] = refl
  arguments-renamed (agg.CountAll ∷ aggs) = arguments-renamed aggs
  arguments-renamed (agg.Count e ∷ aggs) = ap (λ l. renamed f e ∷ l) (arguments-renamed aggs)
  arguments-renamed (agg.Sum e ∷ aggs) = ap (λ l. renamed f e ∷ l) (arguments-renamed aggs)
  arguments-renamed (agg.Min e ∷ aggs) = ap (λ l. renamed f e ∷ l) (arguments-renamed aggs)
  arguments-renamed (agg.Max e ∷ aggs) = ap (λ l. renamed f e ∷ l) (arguments-renamed aggs)

  pub pairs-renamed : (aggs : List Aggregate) → list_all stands_over_pairs (map (renamed_aggregate f) aggs) ≡ list_all stands_over_pairs aggs
  pairs-renamed aggs = all-map stands_over_pairs (renamed_aggregate f) aggs ∙ (λ i. list_all (λ a. one a i) aggs)
    where
      one : (a : Aggregate) → stands_over_pairs (renamed_aggregate f a) ≡ stands_over_pairs a
      one agg.CountAll = refl
      one (agg.Count e) = refl
      one (agg.Sum e) = λ i. true && not (not (column-renamed e i))
      one (agg.Min e) = refl
      one (agg.Max e) = refl

-- the kinds, where those of each column are found at its new place
module _ (f : ℕ → ℕ) (from to : List Kind) (same : (i : ℕ) → slice_get to (f i) ≡ slice_get from i) where
  mutual
    kind-renamed : (e : Expr) → expr_kind to (renamed f e) ≡ expr_kind from e
    kind-renamed (expr.Column place) = ap column_kind (same place)
    kind-renamed (expr.Literal v) = refl
    kind-renamed (expr.Arith' step p left q right) = λ i. kind_if (is_of kind.Int (kind_in-renamed left i) && is_of kind.Int (kind_in-renamed right i)) kind.Int
    kind-renamed (expr.Compare' test p left q right) = λ i. kind_if (are_alike (kind_in-renamed left i) (kind_in-renamed right i)) kind.Bool
    kind-renamed (expr.And' p left q right) = λ i. kind_if (is_of kind.Bool (kind_in-renamed left i) && is_of kind.Bool (kind_in-renamed right i)) kind.Bool
    kind-renamed (expr.Or' p left q right) = λ i. kind_if (is_of kind.Bool (kind_in-renamed left i) && is_of kind.Bool (kind_in-renamed right i)) kind.Bool
    kind-renamed (expr.Not' p of) = λ i. kind_if (is_of kind.Bool (kind_in-renamed of i)) kind.Bool
    kind-renamed (expr.IsNull' p of) = λ i. kind_if (has_kind (kind_in-renamed of i)) kind.Bool

    kind_in-renamed : {m : _} (of : Row_of-Expr m) → kind_in to (renamed_in f of) ≡ kind_in from of
    kind_in-renamed end_of-Expr = refl
    kind_in-renamed (more_of-Expr e rest) = kind-renamed e

  every-map : {A B : Type 0} (g h : A → Option B) (k : A → A) → ((x : A) → g (k x) ≡ h x) → (xs : List A) → every g (map k xs) ≡ every h xs
  every-map g h k e [] = refl
  every-map g h k e (x ∷ xs) = λ i. e x i >>= (λ y. every-map g h k e xs i >>= (λ ys. Some (y ∷ ys)))

  keys-kept : (keys : List ℕ) → keys_kinds to (map f keys) ≡ keys_kinds from keys
  keys-kept = every-map (slice_get to) (slice_get from) f same

  items-kept : (items : List Expr) → items_kinds to (map (renamed f) items) ≡ items_kinds from items
  items-kept = every-map (λ e. item_kind (expr_kind to e)) (λ e. item_kind (expr_kind from e)) (renamed f) (λ e. ap item_kind (kind-renamed e))

  aggregate-kept : (a : Aggregate) → aggregate_kind to (renamed_aggregate f a) ≡ aggregate_kind from a
  aggregate-kept agg.CountAll = refl
  aggregate-kept (agg.Count e) = λ i. some_if (has_kind (kind-renamed e i)) kind.Int
  aggregate-kept (agg.Sum e) = λ i. some_if (is_of kind.Int (kind-renamed e i)) kind.Int
  aggregate-kept (agg.Min e) = λ i. item_kind (kind-renamed e i)
  aggregate-kept (agg.Max e) = λ i. item_kind (kind-renamed e i)

  values-kept : (aggs : List Aggregate) → values_kinds to (map (renamed_aggregate f) aggs) ≡ values_kinds from aggs
  values-kept = every-map (aggregate_kind to) (aggregate_kind from) (renamed_aggregate f) aggregate-kept

  conditions-kept : (conds : List Expr) → are_conditions to (map (renamed f) conds) ≡ are_conditions from conds
  conditions-kept conds = all-map (λ e. is_of kind.Bool (expr_kind to e)) (renamed f) conds ∙ (λ i. list_all (λ e. is_of kind.Bool (kind-renamed e i)) conds)

  groups-kept : (groups : List ℕ) (aggs : List Aggregate) → (keys_kinds to (map f groups) >>= (λ keys. values_kinds to (map (renamed_aggregate f) aggs) >>= (λ values. Some (keys ++ values)))) ≡ (keys_kinds from groups >>= (λ keys. values_kinds from aggs >>= (λ values. Some (keys ++ values))))
  groups-kept groups aggs = λ i. keys-kept groups i >>= (λ keys. values-kept aggs i >>= (λ values. Some (keys ++ values)))

  module _ (q r : Query) (turn : AreTurned f q r) where
    -- the kinds that a query tells over its columns
    abbrev told : Bool → List Kind → List ℕ → List Aggregate → List Expr → List Expr → List Expr → Option (List Kind)
    told b kinds groups aggs conds having items =
        cond b (keys_kinds kinds groups >>= (λ keys. values_kinds kinds aggs >>= (λ values. Some (keys ++ values)))) (Some kinds) >>= (λ seen. items_kinds seen items >>= (λ found. some_if (are_conditions kinds conds && are_conditions seen having) found))

    no-having : q.grouped ≡ false → q.having ≡ []
    no-having e = empty q.having (last (is_empty q.groups && is_empty q.aggregates) (is_empty q.having) (by q.grouped e q.plain))
      where
        by : (b : Bool) → b ≡ false → (b || (is_empty q.groups && is_empty q.aggregates && is_empty q.having)) ≡ true → (is_empty q.groups && is_empty q.aggregates && is_empty q.having) ≡ true
        by true e h = cc
        by false e h = h

        last : (a b : Bool) → (a && b) ≡ true → b ≡ true
        last true b h = h
        last false b h = cc

        empty : (es : List Expr) → is_empty es ≡ true → es ≡ []
        empty [] h = refl
        empty (x ∷ es) h = let u : false ≡ true = h in cc

    told-same : (b : Bool) → q.grouped ≡ b → told r.grouped to r.groups r.aggregates r.conds r.having r.items ≡ told q.grouped from q.groups q.aggregates q.conds q.having q.items
    told-same true e =
        (λ i. told ((turn.grouped ∙ e) i) to (turn.groups i) (turn.aggregates i) (turn.conds i) (turn.having i) ((turn.items ∙ ap (λ c. cond c q.items (map (renamed f) q.items)) e) i))
        ∙ (λ i. groups-kept q.groups q.aggregates i >>= (λ seen. items_kinds seen q.items >>= (λ found. some_if (conditions-kept q.conds i && are_conditions seen q.having) found)))
        ∙ (λ i. told (sym e i) from q.groups q.aggregates q.conds q.having q.items)
    told-same false e =
        (λ i. told ((turn.grouped ∙ e) i) to r.groups r.aggregates (turn.conds i) ((turn.having ∙ no-having e) i) ((turn.items ∙ ap (λ c. cond c q.items (map (renamed f) q.items)) e) i))
        ∙ (λ i. items-kept q.items i >>= (λ found. some_if (conditions-kept q.conds i && true) found))
        ∙ (λ i. told (sym e i) from q.groups q.aggregates q.conds (sym (no-having e) i) q.items)

-- kinds at their new places
module _ (ka kb kc kd : List Kind) where
  less : (i n : ℕ) → nat_lt i n ≡ true → i < n
  less i n h = grind arith

  not_less : (i n : ℕ) → nat_lt i n ≡ false → n ≤ i
  not_less i n h = grind arith

  pub kind-turned : (i : ℕ) → slice_get (ka ++ (kc ++ (kb ++ kd))) (turned (length ka) (length kb) (length kc) i) ≡ slice_get (ka ++ (kb ++ (kc ++ kd))) i
  kind-turned i = by (nat_lt i (length ka)) refl (nat_lt i (length ka + length kb)) refl (nat_lt i (length ka + length kb + length kc)) refl
    where
      second : (j : ℕ) → j < length kb → slice_get (ka ++ (kc ++ (kb ++ kd))) (length ka + (length kc + j)) ≡ slice_get (ka ++ (kb ++ (kc ++ kd))) (length ka + j)
      second j h = get-right ka (kc ++ (kb ++ kd)) (length kc + j) ∙ get-right kc (kb ++ kd) j ∙ get-left kb kd j h ∙ sym (get-left kb (kc ++ kd) j h) ∙ sym (get-right ka (kb ++ (kc ++ kd)) j)

      third : (j : ℕ) → j < length kc → slice_get (ka ++ (kc ++ (kb ++ kd))) (length ka + j) ≡ slice_get (ka ++ (kb ++ (kc ++ kd))) (length ka + (length kb + j))
      third j h = get-right ka (kc ++ (kb ++ kd)) j ∙ get-left kc (kb ++ kd) j h ∙ sym (get-left kc kd j h) ∙ sym (get-right kb (kc ++ kd) j) ∙ sym (get-right ka (kb ++ (kc ++ kd)) (length kb + j))

      fourth : (j : ℕ) → slice_get (ka ++ (kc ++ (kb ++ kd))) (length ka + (length kc + (length kb + j))) ≡ slice_get (ka ++ (kb ++ (kc ++ kd))) (length ka + (length kb + (length kc + j)))
      fourth j = get-right ka (kc ++ (kb ++ kd)) (length kc + (length kb + j)) ∙ get-right kc (kb ++ kd) (length kb + j) ∙ get-right kb kd j
          ∙ sym (get-right kc kd j) ∙ sym (get-right kb (kc ++ kd) (length kc + j)) ∙ sym (get-right ka (kb ++ (kc ++ kd)) (length kb + (length kc + j)))

      by : (p : Bool) → nat_lt i (length ka) ≡ p → (q : Bool) → nat_lt i (length ka + length kb) ≡ q → (r : Bool) → nat_lt i (length ka + length kb + length kc) ≡ r
          → slice_get (ka ++ (kc ++ (kb ++ kd))) (cond p i (cond q (length kc + i) (cond r (i - length kb) i))) ≡ slice_get (ka ++ (kb ++ (kc ++ kd))) i
      by true e q g r h = get-left ka (kc ++ (kb ++ kd)) i (less i (length ka) e) ∙ sym (get-left ka (kb ++ (kc ++ kd)) i (less i (length ka) e))
      by false e true g r h =
          let low : length ka ≤ i = not_less i (length ka) e in
          let high : i < length ka + length kb = less i (length ka + length kb) g in
          let there : length kc + i ≡ length ka + (length kc + (i - length ka)) = omega (arith, low) in
          let here : length ka + (i - length ka) ≡ i = omega (arith, low) in
          ap (slice_get (ka ++ (kc ++ (kb ++ kd)))) there ∙ second (i - length ka) (omega (arith, low, high)) ∙ ap (slice_get (ka ++ (kb ++ (kc ++ kd)))) here
      by false e false g true h =
          let low : length ka + length kb ≤ i = not_less i (length ka + length kb) g in
          let high : i < length ka + length kb + length kc = less i (length ka + length kb + length kc) h in
          let there : i - length kb ≡ length ka + (i - (length ka + length kb)) = omega (arith, low) in
          let here : length ka + (length kb + (i - (length ka + length kb))) ≡ i = omega (arith, low) in
          ap (slice_get (ka ++ (kc ++ (kb ++ kd)))) there ∙ third (i - (length ka + length kb)) (omega (arith, low, high)) ∙ ap (slice_get (ka ++ (kb ++ (kc ++ kd)))) here
      by false e false g false h =
          let low : length ka + length kb + length kc ≤ i = not_less i (length ka + length kb + length kc) h in
          let there : i ≡ length ka + (length kc + (length kb + (i - (length ka + length kb + length kc)))) = omega (arith, low) in
          let here : length ka + (length kb + (length kc + (i - (length ka + length kb + length kc)))) ≡ i = omega (arith, low) in
          ap (slice_get (ka ++ (kc ++ (kb ++ kd)))) there ∙ fourth (i - (length ka + length kb + length kc)) ∙ ap (slice_get (ka ++ (kb ++ (kc ++ kd)))) here

blocks : (kinds : ℕ → List Kind) (ts bs cs ds : List ℕ) → flat_map kinds (ts ++ (bs ++ (cs ++ ds))) ≡ flat_map kinds ts ++ (flat_map kinds bs ++ (flat_map kinds cs ++ flat_map kinds ds))
blocks kinds ts bs cs ds = flat_map-append kinds ts (bs ++ (cs ++ ds)) ∙ ap (λ l. flat_map kinds ts ++ l) (flat_map-append kinds bs (cs ++ ds) ∙ ap (λ l. flat_map kinds bs ++ l) (flat_map-append kinds cs ds))

module _ (kinds : ℕ → List Kind) (q r : Query) (before first second after : List ℕ) (from : q.sources ≡ before ++ (first ++ (second ++ after))) (to : r.sources ≡ before ++ (second ++ (first ++ after)))
    (turn : AreTurned (turned (columns_in kinds before) (columns_in kinds first) (columns_in kinds second)) q r) where
  abbrev f : ℕ → ℕ
  f = turned (columns_in kinds before) (columns_in kinds first) (columns_in kinds second)

  moved-kinds : (i : ℕ) → slice_get (product_kinds kinds r) (f i) ≡ slice_get (product_kinds kinds q) i
  moved-kinds i =
      ap (λ l. slice_get l (f i)) (ap (flat_map kinds) to ∙ blocks kinds before second first after)
      ∙ kind-turned (flat_map kinds before) (flat_map kinds first) (flat_map kinds second) (flat_map kinds after) i
      ∙ ap (λ l. slice_get l i) (sym (ap (flat_map kinds) from ∙ blocks kinds before first second after))

  pub kinds-turned : query_kinds kinds r ≡ query_kinds kinds q
  kinds-turned = told-same f (product_kinds kinds q) (product_kinds kinds r) moved-kinds q r turn q.grouped refl

  pub room-turned : has_room kinds r ≡ has_room kinds q
  room-turned = λ i. tables i && (nat_le ((ap (λ (l : List Expr). length l) turn.conds ∙ length-map q.conds (renamed f)) i + length (turn.having i)) 40
      && (nat_le ((ap (λ (l : List ℕ). length l) turn.groups ∙ length-map q.groups f) i) 65535
      && (nat_le ((ap (λ (l : List Aggregate). length l) turn.aggregates ∙ length-map q.aggregates (renamed_aggregate f)) i) 65535 && is_short (turn.order i))))
    where
      swap : (a b c d : Bool) → (a && (c && (b && d))) ≡ (a && (b && (c && d)))
      swap true true true d = refl
      swap true true false d = refl
      swap true false true d = refl
      swap true false false d = refl
      swap false b c d = refl

      split : (ts us vs ws : List ℕ) → list_all (λ t. is_table (kinds t)) (ts ++ (us ++ (vs ++ ws))) ≡ (list_all (λ t. is_table (kinds t)) ts && (list_all (λ t. is_table (kinds t)) us && (list_all (λ t. is_table (kinds t)) vs && list_all (λ t. is_table (kinds t)) ws)))
      split ts us vs ws = list_all-append (λ t. is_table (kinds t)) ts (us ++ (vs ++ ws)) ∙ ap (λ b. list_all (λ t. is_table (kinds t)) ts && b) (list_all-append (λ t. is_table (kinds t)) us (vs ++ ws) ∙ ap (λ b. list_all (λ t. is_table (kinds t)) us && b) (list_all-append (λ t. is_table (kinds t)) vs ws))

      tables : list_all (λ t. is_table (kinds t)) r.sources ≡ list_all (λ t. is_table (kinds t)) q.sources
      tables = ap (list_all (λ t. is_table (kinds t))) to ∙ split before second first after
          ∙ swap (list_all (λ t. is_table (kinds t)) before) (list_all (λ t. is_table (kinds t)) first) (list_all (λ t. is_table (kinds t)) second) (list_all (λ t. is_table (kinds t)) after)
          ∙ sym (ap (list_all (λ t. is_table (kinds t))) from ∙ split before first second after)
