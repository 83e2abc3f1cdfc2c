-- Both plans serve their query, and what serves a query in another order serves it.
use Rattle.std.proofs.Common.{◌≡◌, ℕ, ◌+◌, nat_le, Bool, true, false, cond, not, ◌&&◌, ◌||◌, List, [], ◌∷◌, ◌++◌, length, map, Option, Some, is_some, refl, sym, ◌∙◌, ap, subst, IsTrue, arith, ◌<◌, ◌≤◌, drop, slice_index, suc}
use Rattle.hq_value.specs.declared.kind.Kind.{Kind}
use Rattle.hq_algebra.specs.declared.expr.Expr.{Expr}
use Rattle.hq_algebra.specs.declared.query.Query.{Query}
use Rattle.hq_algebra.specs.declared.plan.Plan.{Plan}
use Rattle.hq_algebra.specs.Bound.{has_room, has_places, is_bound}
use Rattle.hq_algebra.specs.Plans.{is_short, is_well_formed}
use Rattle.hq_algebra.specs.Kinds.{◌>>=◌, some_if}
use Rattle.hq_algebra.specs.Operators.{items_kinds}
use Rattle.hq_algebra.specs.Queries.{product_kinds, group_kinds, are_conditions, query_kinds}
use Rattle.hq_algebra.specs.Rules.{is_empty}
use Rattle.hq_meaning.specs.Mean.{mean}
use Rattle.hq_meaning.specs.Plans.{Parts, all_rows}
use Rattle.hq_laws.specs.Equated.{keys_equated, moves_rows, is_equated, are_equated}
use Rattle.hq_laws.specs.Gathered.{gathered_plan, tables_of}
use Rattle.hq_laws.specs.Placed.{stays_by, sides_stay, own_homes, homes_after}
use Rattle.hq_laws.specs.Room.{kinds_sent, is_sendable}
use Rattle.hq_laws.specs.Guards.{with_guards, guarded}
use Rattle.hq_laws.specs.Sources.{Source, SourcesStand, fit_filters}
use Rattle.hq_laws.specs.Spread as law
use Rattle.hq_laws.specs.Spread.{Joining, source_of, sources_of, spread_plan}
use Rattle.hq_laws.specs.Turned.{FitTables}
use Rattle.hq_laws.proofs.EquatedJoins.{equated-implied, equated-joinable, equated-placed}
use Rattle.hq_laws.proofs.FromGuards.{tested-from}
use Rattle.hq_laws.proofs.Gathering.{gathered-plan-means}
use Rattle.hq_laws.proofs.GatheredForm.{gathered-well_formed}
use Rattle.hq_laws.proofs.Guarded.{gathered-guards, spread-guards}
use Rattle.hq_laws.proofs.Guarding.{guards-imply, guards-fit, guarded-tables}
use Rattle.hq_laws.proofs.Lists.{both_true}
use Rattle.hq_laws.proofs.Renaming.{kinds-turned, room-turned}
use Rattle.hq_laws.proofs.Scanning.{count-map}
use Rattle.hq_laws.proofs.SpreadClosed.{spread-well_formed}
use Rattle.hq_laws.proofs.Spreading.{spread-plan-means}
use Rattle.hq_laws.proofs.TurnedGuards.{guards-turned}
use Rattle.hq_laws.proofs.Turning.{mean-turned, tables-fit}
use Rattle.hq_listing.specs.Listing.{listed, listing_plan}
use Rattle.hq_listing.proofs.Form.{listing-well_formed}
use Rattle.hq_listing.proofs.Means.{listing-plan-means}
use Rattle.hq_listing.proofs.Guarded.{listing-guards}
use Rattle.hq_whole.specs.Gathers.{gathered_of}
use Rattle.hq_whole.specs.Choices.{way_of, first_of, joining_of, joinings, built_of, stands_by, all_stand}
use Rattle.hq_whole.specs.Joined.{AreJoined}
use Rattle.hq_whole.specs.Places.{Reordered}
use Rattle.hq_whole.specs.Serves.{Serves, Means, Guards}
use Rattle.hq_whole.specs.Tables.{Defs, kinds_by, keys_by, KeepRules}
use Rattle.hq_whole.specs.declared.spreading.Built.{Built}
use Rattle.hq_whole.specs.declared.step.Step.{Step}

-- what a bound query says
record Bound (kinds : ℕ → List Kind) (q : Query) : Type 0 where
  fits : is_some (query_kinds kinds q) ≡ true
  room : has_room kinds q ≡ true
  places : has_places q ≡ true
  few : nat_le (length q.conds) 8 ≡ true

bound-parts : (kinds : ℕ → List Kind) (q : Query) → is_bound kinds q ≡ true → Bound kinds q
bound-parts kinds q h =
    let a : (is_some (query_kinds kinds q) ≡ true) × ((has_room kinds q && (has_places q && nat_le (length q.conds) 8)) ≡ true) = both_true (is_some (query_kinds kinds q)) _ h in
    let b : (has_room kinds q ≡ true) × ((has_places q && nat_le (length q.conds) 8) ≡ true) = both_true (has_room kinds q) _ a.1 in
    let c : (has_places q ≡ true) × (nat_le (length q.conds) 8 ≡ true) = both_true (has_places q) _ b.1 in
    record { fits = a.0; room = b.0; places = c.0; few = c.1 }

pub places-of : (kinds : ℕ → List Kind) (q : Query) → is_bound kinds q ≡ true → has_places q ≡ true
places-of kinds q h = (bound-parts kinds q h).places

guards-few : (kinds : ℕ → List Kind) (q : Query) → Bound kinds q → fit_filters kinds (with_guards kinds q.conds 0 q.sources) ≡ true
guards-few kinds q b = guards-fit kinds q b.fits (low (length q.conds) 8 b.few)
  where
    low : (m n : ℕ) → nat_le m n ≡ true → m ≤ n
    low m n h = grind arith

-- with exactly the guards of a source exactly its tests stand above its Scan
pub serves-from : (defs : Defs) (q : Query) (plan : Plan) → Means defs q plan → is_well_formed plan ≡ true → Guards defs q plan → Serves defs q plan
serves-from defs q plan means form guards = record { means = means; form = form; scans = tested-from (kinds_by defs) q.conds 0 q.sources plan.slices guards; guards = guards }

gathered-plan-serves : (defs : Defs) (q : Query) → is_bound (kinds_by defs) q ≡ true → Serves defs q (gathered_plan (kinds_by defs) q (with_guards (kinds_by defs) q.conds 0 q.sources))
gathered-plan-serves defs q h =
    let b : Bound (kinds_by defs) q = bound-parts (kinds_by defs) q h in
    let ss : List Source = with_guards (kinds_by defs) q.conds 0 q.sources in
    let tables : q.sources ≡ tables_of ss = sym (guarded-tables (kinds_by defs) q.conds 0 q.sources) in
    serves-from defs q (gathered_plan (kinds_by defs) q ss)
    (λ parts owner owned rules. gathered-plan-means (kinds_by defs) q ss parts owner tables owned rules.0 (guards-imply (kinds_by defs) q))
    (gathered-well_formed (kinds_by defs) q ss tables b.fits b.room (guards-few (kinds_by defs) q b))
    (gathered-guards (kinds_by defs) q)

pub gathered-serves : (defs : Defs) (q : Query) → is_bound (kinds_by defs) q ≡ true → Serves defs q (gathered_of (kinds_by defs) q (with_guards (kinds_by defs) q.conds 0 q.sources) q.sources)
gathered-serves defs q h = subst (λ (ts : List ℕ). Serves defs q (gathered_of (kinds_by defs) q (with_guards (kinds_by defs) q.conds 0 q.sources) ts)) (guarded-tables (kinds_by defs) q.conds 0 q.sources) (gathered-plan-serves defs q h)

-- the steps, as the laws have them
module _ (kinds : ℕ → List Kind) (conds : List Expr) where
  joined-tables : (w : ℕ) (steps : List Step) → map (λ (j : Joining). j.table) (joinings kinds conds w steps) ≡ map (λ (s : Step). s.table) steps
  joined-tables w [] = refl
  joined-tables w (s ∷ steps) = ap (λ l. s.table ∷ l) (joined-tables (w + length (kinds s.table)) steps)

  joined-sources : (w : ℕ) (steps : List Step) → map source_of (joinings kinds conds w steps) ≡ with_guards kinds conds w (map (λ (s : Step). s.table) steps)
  joined-sources w [] = refl
  joined-sources w (s ∷ steps) = ap (λ l. source_of (joining_of kinds conds w s) ∷ l) (joined-sources (w + length (kinds s.table)) steps)

  module _ (own : ℕ → List ℕ) where
    -- a step that stands is equated, and its sides stay by its keys
    one-stands : (w : ℕ) (homes : List (List ℕ)) (s : Step) → stands_by w (length (kinds s.table)) (own s.table) conds homes s ≡ true
        → (is_equated kinds conds w (joining_of kinds conds w s) ≡ true) × (stays_by (way_of s.way) (own s.table) s.left_keys s.right_keys homes ≡ true)
    one-stands w homes s h = parts (keys_equated w (length (kinds s.table)) conds s.left_keys s.right_keys) (is_short s.left_keys) (not (moves_rows (way_of s.way)) || not (is_empty s.left_keys)) _ h
      where
        parts : (a b c d : Bool) → (a && b && c && d) ≡ true → ((a && (b && c)) ≡ true) × (d ≡ true)
        parts true b c d h = both_true (b && c) d h
        parts false b c d h = cc

    all-equated : (w : ℕ) (homes : List (List ℕ)) (steps : List Step) → all_stand kinds own conds w homes steps ≡ true → are_equated kinds conds w (joinings kinds conds w steps) ≡ true
    all-equated w homes [] h = refl
    all-equated w homes (s ∷ steps) h =
        let b = both_true (stands_by w (length (kinds s.table)) (own s.table) conds homes s) _ h in
        λ i. (one-stands w homes s b.0).0 i && all-equated (w + length (kinds s.table)) (homes_after (way_of s.way) w (length (kinds s.table)) (own s.table) s.left_keys s.right_keys homes) steps b.1 i

    all-stay : (w : ℕ) (homes : List (List ℕ)) (steps : List Step) → all_stand kinds own conds w homes steps ≡ true → sides_stay kinds own w homes (joinings kinds conds w steps) ≡ true
    all-stay w homes [] h = refl
    all-stay w homes (s ∷ steps) h =
        let b = both_true (stands_by w (length (kinds s.table)) (own s.table) conds homes s) _ h in
        λ i. (one-stands w homes s b.0).1 i && all-stay (w + length (kinds s.table)) (homes_after (way_of s.way) w (length (kinds s.table)) (own s.table) s.left_keys s.right_keys homes) steps b.1 i

-- what the laws of plans ask of sources that are joined by steps which may be taken
record Joins (defs : Defs) (q : Query) (s : Source) (js : List Joining) : Type 0 where
  tables : q.sources ≡ s.table ∷ map (λ (j : Joining). j.table) js
  same : sources_of s js ≡ with_guards (kinds_by defs) q.conds 0 q.sources
  implied : SourcesStand (kinds_by defs) q.conds 0 (sources_of s js)
  fit : fit_filters (kinds_by defs) (sources_of s js) ≡ true
  equated : are_equated (kinds_by defs) q.conds (length (kinds_by defs s.table)) js ≡ true
  stay : sides_stay (kinds_by defs) (keys_by defs) (length (kinds_by defs s.table)) (own_homes (length (kinds_by defs s.table)) (keys_by defs s.table)) js ≡ true

joins-of : (defs : Defs) (q : Query) (t : ℕ) (steps : List Step) → Bound (kinds_by defs) q → q.sources ≡ t ∷ map (λ (s : Step). s.table) steps
    → all_stand (kinds_by defs) (keys_by defs) q.conds (length (kinds_by defs t)) (own_homes (length (kinds_by defs t)) (keys_by defs t)) steps ≡ true
    → Joins defs q (first_of (kinds_by defs) q.conds t) (joinings (kinds_by defs) q.conds (length (kinds_by defs t)) steps)
joins-of defs q t steps b sources stand =
    let kinds : ℕ → List Kind = kinds_by defs in
    let w : ℕ = length (kinds t) in
    let s : Source = first_of kinds q.conds t in
    let js : List Joining = joinings kinds q.conds w steps in
    let zero : w ≡ 0 + w = omega arith in
    let same : sources_of s js ≡ with_guards kinds q.conds 0 q.sources =
    ap (λ l. s ∷ l) (joined-sources kinds q.conds w steps ∙ ap (λ n. with_guards kinds q.conds n (map (λ (s : Step). s.table) steps)) zero) ∙ ap (with_guards kinds q.conds 0) (sym sources) in
    record {
      tables = sources ∙ ap (λ l. t ∷ l) (sym (joined-tables kinds q.conds w steps));
      same = same;
      implied = subst (SourcesStand kinds q.conds 0) (sym same) (guards-imply kinds q);
      fit = ap (fit_filters kinds) same ∙ guards-few kinds q b;
      equated = all-equated kinds q.conds (keys_by defs) w (own_homes w (keys_by defs t)) steps stand;
      stay = all-stay kinds q.conds (keys_by defs) w (own_homes w (keys_by defs t)) steps stand;
    }

spread-serves : (defs : Defs) (q : Query) (s : Source) (js : List Joining) (sent : List Kind) → Bound (kinds_by defs) q → Joins defs q s js
    → kinds_sent (kinds_by defs) q ≡ Some sent → is_sendable sent ≡ true → Serves defs q (spread_plan (kinds_by defs) sent q s js)
spread-serves defs q s js sent b j found some =
    let kinds : ℕ → List Kind = kinds_by defs in
    let w : ℕ = length (kinds s.table) in
    serves-from defs q (spread_plan kinds sent q s js)
    (λ parts owner owned rules. spread-plan-means kinds (keys_by defs) sent q s js parts owner j.tables owned rules.0 rules.1 (equated-implied kinds q.conds w js j.equated)
    j.implied (equated-placed kinds (keys_by defs) q.conds w (own_homes w (keys_by defs s.table)) js j.equated j.stay))
    (spread-well_formed kinds sent q s js j.tables b.fits b.room found some (equated-joinable kinds q s.table js j.tables b.fits j.equated) j.fit)
    (spread-guards kinds sent q s js j.same)

-- the kinds of a query's columns, where it is not grouped
columns-there : (kinds : ℕ → List Kind) (q : Query) (out : List Kind) → q.grouped ≡ false → items_kinds (product_kinds kinds q) q.items ≡ Some out → is_some (query_kinds kinds q) ≡ true → query_kinds kinds q ≡ Some out
columns-there kinds q out plain items fits = given ∙ by (are_conditions (product_kinds kinds q) q.conds && are_conditions (product_kinds kinds q) q.having) (sym (ap (λ (o : Option (List Kind)). is_some o) given) ∙ fits)
  where
    given : query_kinds kinds q ≡ some_if (are_conditions (product_kinds kinds q) q.conds && are_conditions (product_kinds kinds q) q.having) out
    given =
        ap (λ (b : Bool). (cond b (group_kinds (product_kinds kinds q) q) (Some (product_kinds kinds q))) >>= (λ s. items_kinds s q.items >>= (λ found. some_if (are_conditions (product_kinds kinds q) q.conds && are_conditions s q.having) found))) plain
        ∙ ap (λ (o : Option (List Kind)). o >>= (λ found. some_if (are_conditions (product_kinds kinds q) q.conds && are_conditions (product_kinds kinds q) q.having) found)) items

    by : (b : Bool) → is_some (some_if b out) ≡ true → some_if b out ≡ Some out
    by true h = refl
    by false h = cc

listing-serves : (defs : Defs) (q : Query) (s : Source) (js : List Joining) (out : List Kind) → Bound (kinds_by defs) q → Joins defs q s js
    → q.grouped ≡ false → query_kinds (kinds_by defs) q ≡ Some out → Serves defs q (listing_plan (kinds_by defs) out q s js)
listing-serves defs q s js out b j plain found =
    let kinds : ℕ → List Kind = kinds_by defs in
    let w : ℕ = length (kinds s.table) in
    serves-from defs q (listing_plan kinds out q s js)
    (λ parts owner owned rules. listing-plan-means kinds (keys_by defs) out q s js parts owner plain j.tables owned rules.0 rules.1 (equated-implied kinds q.conds w js j.equated)
    j.implied (equated-placed kinds (keys_by defs) q.conds w (own_homes w (keys_by defs s.table)) js j.equated j.stay))
    (listing-well_formed kinds out q s js plain j.tables found b.room (equated-joinable kinds q s.table js j.tables b.fits j.equated) j.fit)
    (listing-guards q plain kinds out s js j.same)

sources-split : (sources : List ℕ) (steps : List Step) → 0 < length sources → map (λ (s : Step). s.table) steps ≡ drop 1 sources → sources ≡ slice_index sources 0 ∷ map (λ (s : Step). s.table) steps
sources-split [] steps h e = absurd (omega arith)
sources-split (t ∷ ts) steps h e = ap (λ us. t ∷ us) (sym e)

step-count : (steps : List Step) → length (map (λ (s : Step). s.table) steps) ≡ length steps
step-count [] = refl
step-count (s ∷ steps) = ap suc (step-count steps)

pub steps-few : (sources : List ℕ) (steps : List Step) → length sources ≤ 8 → map (λ (s : Step). s.table) steps ≡ drop 1 sources → length steps < 8
steps-few [] steps h e = let n : length steps ≡ 0 = sym (step-count steps) ∙ ap length e in omega (arith, n)
steps-few (t ∷ ts) steps h e = let n : length steps ≡ length ts = sym (step-count steps) ∙ ap length e in omega (arith, n, h)

-- what is built of the steps that were chosen
pub joined-same : (kinds : ℕ → List Kind) (q : Query) (conds : List Expr) (sources : List ℕ) (listed steps : List Step) (b : law.Built) → conds ≡ q.conds → sources ≡ q.sources → listed ≡ steps
    → b ≡ law.with_sources kinds (law.first_source kinds (first_of kinds conds (slice_index sources 0))) (joinings kinds conds (length (kinds (slice_index sources 0))) listed)
    → b ≡ law.with_sources kinds (law.first_source kinds (first_of kinds q.conds (slice_index q.sources 0))) (joinings kinds q.conds (length (kinds (slice_index q.sources 0))) steps)
joined-same kinds q conds sources listed steps b ec es el built =
    built ∙ (λ i. law.with_sources kinds (law.first_source kinds (first_of kinds (ec i) (slice_index (es i) 0))) (joinings kinds (ec i) (length (kinds (slice_index (es i) 0))) (el i)))

joined-joins : (defs : Defs) (q : Query) (b : Built) → is_bound (kinds_by defs) q ≡ true → (j : AreJoined defs q b)
    → Joins defs q (first_of (kinds_by defs) q.conds (slice_index q.sources 0)) (joinings (kinds_by defs) q.conds (length (kinds_by defs (slice_index q.sources 0))) j.steps)
joined-joins defs q b bound j = joins-of defs q (slice_index q.sources 0) j.steps (bound-parts (kinds_by defs) q bound) (sources-split q.sources j.steps q.some_sources j.tables) j.stand

pub joined-serves : (defs : Defs) (q : Query) (sent : List Kind) (b : Built) (plan : Plan) → is_bound (kinds_by defs) q ≡ true → kinds_sent (kinds_by defs) q ≡ Some sent → is_sendable sent ≡ true
    → AreJoined defs q b → plan ≡ law.closed sent q (built_of b) → Serves defs q plan
joined-serves defs q sent b plan bound found some j e =
    subst (Serves defs q) (sym (e ∙ ap (law.closed sent q) j.built))
    (spread-serves defs q (first_of (kinds_by defs) q.conds (slice_index q.sources 0)) (joinings (kinds_by defs) q.conds (length (kinds_by defs (slice_index q.sources 0))) j.steps) sent (bound-parts (kinds_by defs) q bound) (joined-joins defs q b bound j) found some)

pub listed-serves : (defs : Defs) (q : Query) (out : List Kind) (b : Built) (plan : Plan) → is_bound (kinds_by defs) q ≡ true → q.grouped ≡ false → items_kinds (product_kinds (kinds_by defs) q) q.items ≡ Some out
    → AreJoined defs q b → plan ≡ listed out q (built_of b) → Serves defs q plan
listed-serves defs q out b plan bound plain items j e =
    subst (Serves defs q) (sym (e ∙ ap (listed out q) j.built))
    (listing-serves defs q (first_of (kinds_by defs) q.conds (slice_index q.sources 0)) (joinings (kinds_by defs) q.conds (length (kinds_by defs (slice_index q.sources 0))) j.steps) out (bound-parts (kinds_by defs) q bound) (joined-joins defs q b bound j)
    plain (columns-there (kinds_by defs) q out plain items (bound-parts (kinds_by defs) q bound).fits))

-- in another order
pub turned-serves : (defs : Defs) (q r : Query) (plan : Plan) → Reordered (kinds_by defs) q r → Serves defs r plan → Serves defs q plan
turned-serves defs q r plan o served =
    serves-from defs q plan
    (λ parts owner owned rules. served.means parts owner owned rules ∙ mean-turned (kinds_by defs) q r o.before o.first o.second o.after (all_rows parts owner) o.from o.to o.turned (tables-fit (kinds_by defs) parts owner rules.0))
    served.form
    (λ p. served.guards p ∙ count-map p (guarded (kinds_by defs)) (with_guards (kinds_by defs) r.conds 0 r.sources)
    ∙ guards-turned (kinds_by defs) q r o.before o.first o.second o.after o.from o.to o.turned (λ s. p (guarded (kinds_by defs) s))
    ∙ sym (count-map p (guarded (kinds_by defs)) (with_guards (kinds_by defs) q.conds 0 q.sources)))

pub turned-bound : (kinds : ℕ → List Kind) (q r : Query) → Reordered kinds q r → is_bound kinds q ≡ true → is_bound kinds r ≡ true
turned-bound kinds q r o h =
    (λ i. is_some (kinds-turned kinds q r o.before o.first o.second o.after o.from o.to o.turned i) && (room-turned kinds q r o.before o.first o.second o.after o.from o.to o.turned i && (places i && nat_le (conds i) 8))) ∙ h
  where
    map-length : {A B : Type 0} (f : A → B) (xs : List A) → length (map f xs) ≡ length xs
    map-length f [] = refl
    map-length f (x ∷ xs) = ap suc (map-length f xs)

    conds : length r.conds ≡ length q.conds
    conds = ap (λ (l : List Expr). length l) o.turned.conds ∙ map-length _ q.conds

    places : has_places r ≡ has_places q
    places = (λ i. nat_le ((ap (λ (l : List ℕ). length l) o.turned.groups ∙ map-length _ q.groups) i + ((ap length o.turned.aggregates ∙ map-length _ q.aggregates) i + (ap length o.turned.aggregates ∙ map-length _ q.aggregates) i)) 65535)
