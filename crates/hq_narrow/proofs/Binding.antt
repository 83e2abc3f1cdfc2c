-- A query over the columns that are taken of its sources has the kinds that it has over all of them.
use Rattle.std.proofs.Common.{◌≡◌, ℕ, zero, suc, ◌+◌, ◌<◌, ◌≤◌, nat_le, Bool, true, false, cond, ◌&&◌, ◌||◌, ◌-◌, List, [], ◌∷◌, ◌++◌, length, map, flat_map, Option, Some, None, is_some, slice_get, refl, sym, ◌∙◌, ap, arith, length-append, IsTrue}
use Rattle.std.specs.List.{list_all}
use Rattle.std.proofs.lemmas.List.{length-map}
use Rattle.hq_value.specs.declared.kind.Kind.{Kind}
use Rattle.hq_value.specs.declared.kind.Kind.TheVariants as kind
use Rattle.hq_value.specs.Tables.{all_below}
use Rattle.hq_algebra.specs.declared.expr.Expr.{Expr, Row_of-Expr, end_of-Expr, more_of-Expr}
use Rattle.hq_algebra.specs.declared.expr.Expr.TheVariants as expr
use Rattle.hq_algebra.specs.declared.aggregate.Aggregate.{Aggregate}
use Rattle.hq_algebra.specs.declared.aggregate.Aggregate.TheVariants as agg
use Rattle.hq_algebra.specs.declared.query.Query.{Query}
use Rattle.hq_algebra.specs.Rules.{is_empty}
use Rattle.hq_algebra.specs.Bound.{is_table, are_few, has_room, has_places, is_bound}
use Rattle.hq_algebra.specs.Kinds.{◌>>=◌, every, is_of, are_alike, has_kind, kind_if, column_kind, expr_kind, kind_in, item_kind, some_if, aggregate_kind}
use Rattle.hq_algebra.specs.Operators.{keys_kinds, items_kinds, values_kinds}
use Rattle.hq_algebra.specs.Queries.{product_kinds, are_conditions, query_kinds}
use Rattle.hq_algebra.specs.Plans.{is_short}
use Rattle.hq_laws.specs.Placed.{further}
use Rattle.hq_laws.specs.Turned.{renamed, renamed_in, renamed_aggregate, AreTurned, columns_in}
use Rattle.hq_laws.proofs.EquatedKinds.{get-left, get-right}
use Rattle.hq_laws.proofs.Lists.{both_true}
use Rattle.hq_laws.proofs.Turning.{all-map}
use Rattle.hq_laws.proofs.Typing.{length-every}
use Rattle.hq_narrow.specs.declared.taken.Taken.{Taken}
use Rattle.hq_narrow.specs.Narrow.{taken_at, place_from, places, are_there}
use Rattle.hq_narrow.specs.Widened.{HaveKinds}
use Rattle.hq_narrow.proofs.Guarding.{kind-taken, place-first, place-second, place-further, place-below, map-map-tables}

-- the kinds, where those of each column are found at its new place
module _ (f : ℕ → ℕ) (from to : List Kind) (same : (i : ℕ) → slice_get to (f i) ≡ slice_get from i) where
  mutual
    pub kind-renamed : (e : Expr) → expr_kind to (renamed f e) ≡ expr_kind from e
    kind-renamed (expr.Column place) = ap column_kind (same place)
    kind-renamed (expr.Literal v) = refl
    kind-renamed (expr.Arith' step p left q right) = λ i. kind_if (is_of kind.Int (kind_in-renamed left i) && is_of kind.Int (kind_in-renamed right i)) kind.Int
    kind-renamed (expr.Compare' test p left q right) = λ i. kind_if (are_alike (kind_in-renamed left i) (kind_in-renamed right i)) kind.Bool
    kind-renamed (expr.And' p left q right) = λ i. kind_if (is_of kind.Bool (kind_in-renamed left i) && is_of kind.Bool (kind_in-renamed right i)) kind.Bool
    kind-renamed (expr.Or' p left q right) = λ i. kind_if (is_of kind.Bool (kind_in-renamed left i) && is_of kind.Bool (kind_in-renamed right i)) kind.Bool
    kind-renamed (expr.Not' p of) = λ i. kind_if (is_of kind.Bool (kind_in-renamed of i)) kind.Bool
    kind-renamed (expr.IsNull' p of) = λ i. kind_if (has_kind (kind_in-renamed of i)) kind.Bool

    kind_in-renamed : {m : _} (of : Row_of-Expr m) → kind_in to (renamed_in f of) ≡ kind_in from of
    kind_in-renamed end_of-Expr = refl
    kind_in-renamed (more_of-Expr e rest) = kind-renamed e

  every-map : {A B : Type 0} (g h : A → Option B) (k : A → A) → ((x : A) → g (k x) ≡ h x) → (xs : List A) → every g (map k xs) ≡ every h xs
  every-map g h k e [] = refl
  every-map g h k e (x ∷ xs) = λ i. e x i >>= (λ y. every-map g h k e xs i >>= (λ ys. Some (y ∷ ys)))

  items-kept : (items : List Expr) → items_kinds to (map (renamed f) items) ≡ items_kinds from items
  items-kept = every-map (λ e. item_kind (expr_kind to e)) (λ e. item_kind (expr_kind from e)) (renamed f) (λ e. ap item_kind (kind-renamed e))

  aggregate-kept : (a : Aggregate) → aggregate_kind to (renamed_aggregate f a) ≡ aggregate_kind from a
  aggregate-kept agg.CountAll = refl
  aggregate-kept (agg.Count e) = λ i. some_if (has_kind (kind-renamed e i)) kind.Int
  aggregate-kept (agg.Sum e) = λ i. some_if (is_of kind.Int (kind-renamed e i)) kind.Int
  aggregate-kept (agg.Min e) = λ i. item_kind (kind-renamed e i)
  aggregate-kept (agg.Max e) = λ i. item_kind (kind-renamed e i)

  conditions-kept : (conds : List Expr) → are_conditions to (map (renamed f) conds) ≡ are_conditions from conds
  conditions-kept conds = all-map (λ e. is_of kind.Bool (expr_kind to e)) (renamed f) conds ∙ (λ i. list_all (λ e. is_of kind.Bool (kind-renamed e i)) conds)

  groups-kept : (groups : List ℕ) (aggs : List Aggregate) → (keys_kinds to (map f groups) >>= (λ keys. values_kinds to (map (renamed_aggregate f) aggs) >>= (λ values. Some (keys ++ values)))) ≡ (keys_kinds from groups >>= (λ keys. values_kinds from aggs >>= (λ values. Some (keys ++ values))))
  groups-kept groups aggs = λ i. every-map (slice_get to) (slice_get from) f same groups i >>= (λ keys. every-map (aggregate_kind to) (aggregate_kind from) (renamed_aggregate f) aggregate-kept aggs i >>= (λ values. Some (keys ++ values)))

  module _ (q r : Query) (turn : AreTurned f q r) where
    -- the kinds that a query tells over its columns
    abbrev told : Bool → List Kind → List ℕ → List Aggregate → List Expr → List Expr → List Expr → Option (List Kind)
    told b kinds groups aggs conds having items =
        cond b (keys_kinds kinds groups >>= (λ keys. values_kinds kinds aggs >>= (λ values. Some (keys ++ values)))) (Some kinds) >>= (λ seen. items_kinds seen items >>= (λ found. some_if (are_conditions kinds conds && are_conditions seen having) found))

    no-having : q.grouped ≡ false → q.having ≡ []
    no-having e = empty q.having (last (is_empty q.groups && is_empty q.aggregates) (is_empty q.having) (by q.grouped e q.plain))
      where
        by : (b : Bool) → b ≡ false → (b || (is_empty q.groups && is_empty q.aggregates && is_empty q.having)) ≡ true → (is_empty q.groups && is_empty q.aggregates && is_empty q.having) ≡ true
        by true e h = cc
        by false e h = h

        last : (a b : Bool) → (a && b) ≡ true → b ≡ true
        last true b h = h
        last false b h = cc

        empty : (es : List Expr) → is_empty es ≡ true → es ≡ []
        empty [] h = refl
        empty (x ∷ es) h = let u : false ≡ true = h in cc

    told-same : (b : Bool) → q.grouped ≡ b → told r.grouped to r.groups r.aggregates r.conds r.having r.items ≡ told q.grouped from q.groups q.aggregates q.conds q.having q.items
    told-same true e =
        (λ i. told ((turn.grouped ∙ e) i) to (turn.groups i) (turn.aggregates i) (turn.conds i) (turn.having i) ((turn.items ∙ ap (λ c. cond c q.items (map (renamed f) q.items)) e) i))
        ∙ (λ i. groups-kept q.groups q.aggregates i >>= (λ seen. items_kinds seen q.items >>= (λ found. some_if (conditions-kept q.conds i && are_conditions seen q.having) found)))
        ∙ (λ i. told (sym e i) from q.groups q.aggregates q.conds q.having q.items)
    told-same false e =
        (λ i. told ((turn.grouped ∙ e) i) to r.groups r.aggregates (turn.conds i) ((turn.having ∙ no-having e) i) ((turn.items ∙ ap (λ c. cond c q.items (map (renamed f) q.items)) e) i))
        ∙ (λ i. items-kept q.items i >>= (λ found. some_if (conditions-kept q.conds i && true) found))
        ∙ (λ i. told (sym e i) from q.groups q.aggregates q.conds (sym (no-having e) i) q.items)

-- before a place or behind it
data Split (n i : ℕ) : Type 0 where
  First : i < n → Split n i
  Second : (j : ℕ) → i ≡ n + j → Split n i

split : (n i : ℕ) → Split n i
split n i = by (nat_le n i) refl
  where
    low : (n i : ℕ) → nat_le n i ≡ true → n ≤ i
    low n i h = grind arith

    high : (n i : ℕ) → nat_le n i ≡ false → i < n
    high n i h = grind arith

    by : (b : Bool) → nat_le n i ≡ b → Split n i
    by true e = let l = low n i e in Second (i - n) (omega (arith, l))
    by false e = First (high n i e)

-- the kinds of the columns that are taken of all sources
module _ (kinds found : ℕ → List Kind) (ts : List Taken) where
  abbrev tables : List ℕ → List ℕ
  tables vs = map (λ v. (taken_at ts v).table) vs

  abbrev no_kinds : List Kind
  no_kinds = []

  none-there : (i j : ℕ) → slice_get no_kinds i ≡ slice_get no_kinds j
  none-there i j = none i ∙ sym (none j)
    where
      none : (i : ℕ) → slice_get no_kinds i ≡ None
      none zero = refl
      none (suc i) = refl

  module _ (s : ℕ) (vs : List ℕ) (have : keys_kinds (kinds (taken_at ts s).table) (taken_at ts s).columns ≡ Some (found s)) (there : all_below (length (kinds (taken_at ts s).table)) (taken_at ts s).columns ≡ true) where
    abbrev columns : List ℕ
    columns = (taken_at ts s).columns

    abbrev own : List Kind
    own = kinds (taken_at ts s).table

    abbrev more : List ℕ
    more = further (length own) (places kinds (map (taken_at ts) vs))

    abbrev all : List Kind
    all = flat_map kinds (tables vs)

    abbrev m : ℕ
    m = columns_in kinds (tables vs)

    abbrev whole : ℕ
    whole = columns_in kinds (tables (s ∷ vs))

    many : length (found s) ≡ length columns
    many = length-every (slice_get own) columns (found s) have

    total : whole ≡ length own + m
    total = length-append own all

    placed-next : ((j : ℕ) → slice_get all (place_from (places kinds (map (taken_at ts) vs)) m j) ≡ slice_get (flat_map found vs) j) → (i : ℕ) → slice_get (own ++ all) (place_from (columns ++ more) whole i) ≡ slice_get (found s ++ flat_map found vs) i
    placed-next rest i = by (split (length columns) i)
      where
        by : Split (length columns) i → slice_get (own ++ all) (place_from (columns ++ more) whole i) ≡ slice_get (found s ++ flat_map found vs) i
        by (First h) =
            let c = many in
            ap (slice_get (own ++ all)) (place-first columns more (length own) whole i h)
            ∙ get-left own all (place_from columns (length own) i) (place-below columns (length own) i there h)
            ∙ kind-taken own columns (found s) have i
            ∙ sym (get-left (found s) (flat_map found vs) i (omega (arith, c, h)))
        by (Second j e) =
            ap (slice_get (own ++ all)) (ap (place_from (columns ++ more) whole) e ∙ place-second columns more whole j ∙ ap (λ c. place_from more c j) total ∙ place-further (places kinds (map (taken_at ts) vs)) (length own) m j)
            ∙ get-right own all (place_from (places kinds (map (taken_at ts) vs)) m j)
            ∙ rest j
            ∙ sym (get-right (found s) (flat_map found vs) j)
            ∙ ap (slice_get (found s ++ flat_map found vs)) (ap (λ n. n + j) many ∙ sym e)

  kinds-placed : (vs : List ℕ) → HaveKinds kinds found ts vs → are_there kinds (map (taken_at ts) vs) ≡ true → (i : ℕ)
      → slice_get (flat_map kinds (tables vs)) (place_from (places kinds (map (taken_at ts) vs)) (columns_in kinds (tables vs)) i) ≡ slice_get (flat_map found vs) i
  kinds-placed [] have there i = none-there 0 i
  kinds-placed (s ∷ vs) have there i =
      let b : (all_below (length (kinds (taken_at ts s).table)) (taken_at ts s).columns ≡ true) × (are_there kinds (map (taken_at ts) vs) ≡ true) = both_true (all_below (length (kinds (taken_at ts s).table)) (taken_at ts s).columns) _ there in
      placed-next s vs have.0 b.0 (λ j. kinds-placed vs have.1 b.1 j) i

  module _ (q r : Query) (from : q.sources ≡ map (λ (t : Taken). t.table) ts) (to : map (taken_at ts) r.sources ≡ ts) (there : are_there kinds ts ≡ true) (have : HaveKinds kinds found ts r.sources)
      (turn : AreTurned (place_from (places kinds ts) (columns_in kinds q.sources)) r q) where
    abbrev place : ℕ → ℕ
    place = place_from (places kinds ts) (columns_in kinds q.sources)

    sources : q.sources ≡ tables r.sources
    sources = from ∙ ap (map (λ (t : Taken). t.table)) (sym to) ∙ map-map-tables ts r.sources

    placed : (i : ℕ) → slice_get (product_kinds kinds q) (place i) ≡ slice_get (product_kinds found r) i
    placed i = (λ t. slice_get (flat_map kinds (sources t)) (place_from (places kinds (sym to t)) (columns_in kinds (sources t)) i)) ∙ kinds-placed r.sources have (ap (are_there kinds) to ∙ there) i

    pub kinds-taken : query_kinds kinds q ≡ query_kinds found r
    kinds-taken = told-same place (product_kinds found r) (product_kinds kinds q) placed r q turn r.grouped refl

    pub bound-taken : is_bound kinds q ≡ true → list_all (λ v. is_table (found v)) r.sources ≡ true → is_bound found r ≡ true
    bound-taken h each =
        let a : (is_some (query_kinds kinds q) ≡ true) × ((has_room kinds q && (has_places q && nat_le (length q.conds) 8)) ≡ true) = both_true (is_some (query_kinds kinds q)) _ h in
        let b : (has_room kinds q ≡ true) × ((has_places q && nat_le (length q.conds) 8) ≡ true) = both_true (has_room kinds q) _ a.1 in
        let c : (has_places q ≡ true) × (nat_le (length q.conds) 8 ≡ true) = both_true (has_places q) _ b.1 in
        let d : (list_all (λ t. is_table (kinds t)) q.sources ≡ true) × ((are_few q && (is_short q.groups && (is_short q.aggregates && is_short q.order))) ≡ true) = both_true (list_all (λ t. is_table (kinds t)) q.sources) _ b.0 in
        let conds : length q.conds ≡ length r.conds = ap (λ (l : List Expr). length l) turn.conds ∙ length-map r.conds (renamed place) in
        let groups : length q.groups ≡ length r.groups = ap (λ (l : List ℕ). length l) turn.groups ∙ length-map r.groups place in
        let aggs : length q.aggregates ≡ length r.aggregates = ap (λ (l : List Aggregate). length l) turn.aggregates ∙ length-map r.aggregates (renamed_aggregate place) in
        let few : (nat_le (length r.conds + length r.having) 40 && (nat_le (length r.groups) 65535 && (nat_le (length r.aggregates) 65535 && is_short r.order))) ≡ true =
        (λ i. nat_le (sym conds i + length (sym turn.having i)) 40 && (nat_le (sym groups i) 65535 && (nat_le (sym aggs i) 65535 && is_short (sym turn.order i)))) ∙ d.1 in
        let room : has_places r ≡ true = (λ i. nat_le (sym groups i + (sym aggs i + sym aggs i)) 65535) ∙ c.0 in
        λ i. (ap (λ (o : Option (List Kind)). is_some o) (sym kinds-taken) ∙ a.0) i && ((each i && few i) && (room i && (ap (λ n. nat_le n 8) (sym conds) ∙ c.1) i))
