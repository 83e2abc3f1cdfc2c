-- A query in another order holds the same guards on its sources.
use Rattle.std.proofs.Common.{◌≡◌, ℕ, ◌+◌, ◌-◌, ◌<◌, ◌≤◌, nat_le, nat_lt, Bool, true, false, cond, ◌&&◌, List, [], ◌∷◌, ◌++◌, map, filter, flat_map, length, count_by, refl, sym, ◌∙◌, ap, arith, length-append}
use Rattle.hq_value.specs.declared.kind.Kind.{Kind}
use Rattle.hq_algebra.specs.declared.expr.Expr.{Expr, Row_of-Expr, end_of-Expr, more_of-Expr}
use Rattle.hq_algebra.specs.declared.expr.Expr.TheVariants as expr
use Rattle.hq_algebra.specs.declared.query.Query.{Query}
use Rattle.hq_algebra.specs.Shape.{has_column}
use Rattle.hq_laws.specs.Guards.{is_inside, inside_in, is_guard, guards_of, with_guards}
use Rattle.hq_laws.specs.Sources.{Source}
use Rattle.hq_laws.specs.Tests.{members, members_in}
use Rattle.hq_laws.specs.Turned.{turned, renamed, renamed_in, AreTurned, columns_in}
use Rattle.hq_laws.proofs.Lists.{both_true}
use Rattle.hq_laws.proofs.Regroup.{flat_map-append}
use Rattle.hq_laws.proofs.Renaming.{column-renamed}
use Rattle.hq_laws.proofs.Scanning.{tally, tally-append, counted}

-- the members of a renamed condition are its members, renamed
module _ (f : ℕ → ℕ) where
  map-append : (g : Expr → Expr) (xs ys : List Expr) → map g (xs ++ ys) ≡ map g xs ++ map g ys
  map-append g [] ys = refl
  map-append g (x ∷ xs) ys = ap (λ l. g x ∷ l) (map-append g xs ys)

  mutual
    members-renamed : (e : Expr) → members (renamed f e) ≡ map (renamed f) (members e)
    members-renamed (expr.Column place) = refl
    members-renamed (expr.Literal v) = refl
    members-renamed (expr.Arith' step p left q right) = refl
    members-renamed (expr.Compare' test p left q right) = refl
    members-renamed (expr.And' p left q right) = (λ i. members_in-renamed left i ++ members_in-renamed right i) ∙ sym (map-append (renamed f) (members_in left) (members_in right))
    members-renamed (expr.Or' p left q right) = refl
    members-renamed (expr.Not' p of) = refl
    members-renamed (expr.IsNull' p of) = refl

    members_in-renamed : {m : _} (of : Row_of-Expr m) → members_in (renamed_in f of) ≡ map (renamed f) (members_in of)
    members_in-renamed end_of-Expr = refl
    members_in-renamed (more_of-Expr e rest) = members-renamed e

  all-renamed : (conds : List Expr) → flat_map members (map (renamed f) conds) ≡ map (renamed f) (flat_map members conds)
  all-renamed [] = refl
  all-renamed (e ∷ conds) = (λ i. members-renamed e i ++ all-renamed conds i) ∙ sym (map-append (renamed f) (members e) (flat_map members conds))

-- n columns from place w on go to place v on, and no others do
record Goes (to : ℕ → ℕ) (w v n : ℕ) : Type 0 where
  inside : (i : ℕ) → w ≤ i → i < w + n → to i + w ≡ i + v
  low : (i : ℕ) → v ≤ to i → to i < v + n → w ≤ i
  high : (i : ℕ) → v ≤ to i → to i < v + n → i < w + n

module _ (to : ℕ → ℕ) (w v n : ℕ) (goes : Goes to w v n) where
  goes-head : (m : ℕ) → m ≤ n → Goes to w v m
  goes-head m less = record {
    inside = λ i l h. goes.inside i l (omega (arith, h, less));
    low = λ i l h. goes.low i l (omega (arith, h, less));
    high = λ i l h. let a = goes.low i l (omega (arith, h, less)) in let b = goes.high i l (omega (arith, h, less)) in let c = goes.inside i a b in omega (arith, a, b, c, l, h);
  }

  goes-tail : (o m : ℕ) → o + m ≤ n → Goes to (w + o) (v + o) m
  goes-tail o m less = record {
    inside = λ i l h. let c = goes.inside i (omega (arith, l)) (omega (arith, h, less)) in omega (arith, c);
    low = λ i l h. let a = goes.low i (omega (arith, l)) (omega (arith, h, less)) in let b = goes.high i (omega (arith, l)) (omega (arith, h, less)) in let c = goes.inside i a b in omega (arith, a, b, c, l, h);
    high = λ i l h. let a = goes.low i (omega (arith, l)) (omega (arith, h, less)) in let b = goes.high i (omega (arith, l)) (omega (arith, h, less)) in let c = goes.inside i a b in omega (arith, a, b, c, l, h);
  }

-- the guards of a source whose columns go there
module _ (to : ℕ → ℕ) (kinds : List Kind) (w v : ℕ) (goes : Goes to w v (length kinds)) where
  is_in : (m i k : ℕ) → nat_le m i && nat_lt i (m + k) ≡ true → (m ≤ i) × (i < m + k)
  is_in m i k h = let b : (nat_le m i ≡ true) × (nat_lt i (m + k) ≡ true) = both_true (nat_le m i) _ h in (grind (arith, b.0), grind (arith, b.1))

  are_in : (m i k : ℕ) → m ≤ i → i < m + k → nat_le m i && nat_lt i (m + k) ≡ true
  are_in m i k l h = (λ t. first t && second t)
    where
      first : nat_le m i ≡ true
      first = grind (arith, l)

      second : nat_lt i (m + k) ≡ true
      second = grind (arith, h)

  same_truth : (a b : Bool) → (a ≡ true → b ≡ true) → (b ≡ true → a ≡ true) → a ≡ b
  same_truth true true f g = refl
  same_truth true false f g = sym (f refl)
  same_truth false true f g = g refl
  same_truth false false f g = refl

  within : (i : ℕ) → (nat_le v (to i) && nat_lt (to i) (v + length kinds)) ≡ (nat_le w i && nat_lt i (w + length kinds))
  within i = same_truth _ _
      (λ h. let b = is_in v (to i) (length kinds) h in are_in w i (length kinds) (goes.low i b.0 b.1) (goes.high i b.0 b.1))
      (λ h. let b = is_in w i (length kinds) h in let c = goes.inside i b.0 b.1 in are_in v (to i) (length kinds) (omega (arith, b.0, b.1, c)) (omega (arith, b.0, b.1, c)))

  lowered : (i : ℕ) → (nat_le w i && nat_lt i (w + length kinds)) ≡ true → to i - v ≡ i - w
  lowered i h = let b = is_in w i (length kinds) h in let c = goes.inside i b.0 b.1 in omega (arith, b.0, b.1, c)

  mutual
    inside-turned : (e : Expr) → is_inside v (length kinds) (renamed to e) ≡ is_inside w (length kinds) e
    inside-turned (expr.Column place) = within place
    inside-turned (expr.Literal u) = refl
    inside-turned (expr.Arith' step p left q right) = λ t. in-turned left t && in-turned right t
    inside-turned (expr.Compare' test p left q right) = λ t. in-turned left t && in-turned right t
    inside-turned (expr.And' p left q right) = λ t. in-turned left t && in-turned right t
    inside-turned (expr.Or' p left q right) = λ t. in-turned left t && in-turned right t
    inside-turned (expr.Not' p of) = in-turned of
    inside-turned (expr.IsNull' p of) = in-turned of

    in-turned : {m : _} (of : Row_of-Expr m) → inside_in v (length kinds) (renamed_in to of) ≡ inside_in w (length kinds) of
    in-turned end_of-Expr = refl
    in-turned (more_of-Expr e rest) = inside-turned e

  guard-turned : (e : Expr) → is_guard kinds v (renamed to e) ≡ is_guard kinds w e
  guard-turned e = λ t. column-renamed to e t && inside-turned e t

  rest-same : (rest : Row_of-Expr 0) → renamed_in (λ i. i - v) (renamed_in to rest) ≡ renamed_in (λ i. i - w) rest
  rest-same end_of-Expr = refl

  mutual
    guard-same : (e : Expr) → is_inside w (length kinds) e ≡ true → renamed (λ i. i - v) (renamed to e) ≡ renamed (λ i. i - w) e
    guard-same (expr.Column place) h = ap expr.Column (lowered place h)
    guard-same (expr.Literal u) h = refl
    guard-same (expr.Arith' step p left q right) h = let b = both_true (inside_in w (length kinds) left) (inside_in w (length kinds) right) h in λ t. expr.Arith' step p (in-same left b.0 t) q (in-same right b.1 t)
    guard-same (expr.Compare' test p left q right) h = let b = both_true (inside_in w (length kinds) left) (inside_in w (length kinds) right) h in λ t. expr.Compare' test p (in-same left b.0 t) q (in-same right b.1 t)
    guard-same (expr.And' p left q right) h = let b = both_true (inside_in w (length kinds) left) (inside_in w (length kinds) right) h in λ t. expr.And' p (in-same left b.0 t) q (in-same right b.1 t)
    guard-same (expr.Or' p left q right) h = let b = both_true (inside_in w (length kinds) left) (inside_in w (length kinds) right) h in λ t. expr.Or' p (in-same left b.0 t) q (in-same right b.1 t)
    guard-same (expr.Not' p of) h = λ t. expr.Not' p (in-same of h t)
    guard-same (expr.IsNull' p of) h = λ t. expr.IsNull' p (in-same of h t)

    in-same : (of : Row_of-Expr 1) → inside_in w (length kinds) of ≡ true → renamed_in (λ i. i - v) (renamed_in to of) ≡ renamed_in (λ i. i - w) of
    in-same (more_of-Expr e rest) h = λ t. more_of-Expr (guard-same e h t) (rest-same rest t)

  kept-same : (es : List Expr) → map (renamed (λ i. i - v)) (filter (is_guard kinds v) (map (renamed to) es)) ≡ map (renamed (λ i. i - w)) (filter (is_guard kinds w) es)
  kept-same [] = refl
  kept-same (e ∷ es) =
      ap (λ b. map (renamed (λ i. i - v)) (cond b (renamed to e ∷ filter (is_guard kinds v) (map (renamed to) es)) (filter (is_guard kinds v) (map (renamed to) es)))) (guard-turned e)
      ∙ by (is_guard kinds w e) refl (kept-same es)
    where
      by : (b : Bool) → is_guard kinds w e ≡ b → map (renamed (λ i. i - v)) (filter (is_guard kinds v) (map (renamed to) es)) ≡ map (renamed (λ i. i - w)) (filter (is_guard kinds w) es)
          → map (renamed (λ i. i - v)) (cond b (renamed to e ∷ filter (is_guard kinds v) (map (renamed to) es)) (filter (is_guard kinds v) (map (renamed to) es))) ≡ map (renamed (λ i. i - w)) (cond b (e ∷ filter (is_guard kinds w) es) (filter (is_guard kinds w) es))
      by true h rest = λ t. guard-same e (both_true (has_column e) _ h).1 t ∷ rest t
      by false h rest = rest

  guards-same : (conds : List Expr) → guards_of kinds v (map (renamed to) conds) ≡ guards_of kinds w conds
  guards-same conds = ap (λ es. map (renamed (λ i. i - v)) (filter (is_guard kinds v) es)) (all-renamed to conds) ∙ kept-same (flat_map members conds)

-- so it is with sources whose columns go there
module _ (kinds : ℕ → List Kind) where
  columns-more : (t : ℕ) (ts : List ℕ) → columns_in kinds (t ∷ ts) ≡ length (kinds t) + columns_in kinds ts
  columns-more t ts = length-append (kinds t) (flat_map kinds ts)

  block-same : (to : ℕ → ℕ) (conds : List Expr) (w v : ℕ) (ts : List ℕ) → Goes to w v (columns_in kinds ts) → with_guards kinds (map (renamed to) conds) v ts ≡ with_guards kinds conds w ts
  block-same to conds w v [] goes = refl
  block-same to conds w v (t ∷ ts) goes =
      let m = columns-more t ts in
      λ i. (record { table = t; tests = guards-same to (kinds t) w v (goes-head to w v (columns_in kinds (t ∷ ts)) goes (length (kinds t)) (omega (arith, m))) conds i })
      ∷ block-same to conds (w + length (kinds t)) (v + length (kinds t)) ts (goes-tail to w v (columns_in kinds (t ∷ ts)) goes (length (kinds t)) (columns_in kinds ts) (omega (arith, m))) i

  guarded-append : (conds : List Expr) (w : ℕ) (xs ys : List ℕ) → with_guards kinds conds w (xs ++ ys) ≡ with_guards kinds conds w xs ++ with_guards kinds conds (w + columns_in kinds xs) ys
  guarded-append conds w [] ys = ap (λ n. with_guards kinds conds n ys) (omega arith)
  guarded-append conds w (x ∷ xs) ys =
      let m = columns-more x xs in
      ap (λ l. (record { table = x; tests = guards_of (kinds x) w conds }) ∷ l)
      (guarded-append conds (w + length (kinds x)) xs ys ∙ ap (λ n. with_guards kinds conds (w + length (kinds x)) xs ++ with_guards kinds conds n ys) (omega (arith, m)))

-- where a column goes
data Turns (a b c i j : ℕ) : Type 0 where
  Before : i < a → j ≡ i → Turns a b c i j
  First : a ≤ i → i < a + b → j ≡ c + i → Turns a b c i j
  Second : a + b ≤ i → i < a + b + c → j + b ≡ i → Turns a b c i j
  After : a + b + c ≤ i → j ≡ i → Turns a b c i j

turns : (a b c i : ℕ) → Turns a b c i (turned a b c i)
turns a b c i = by (nat_lt i a) refl (nat_lt i (a + b)) refl (nat_lt i (a + b + c)) refl
  where
    less : (m n : ℕ) → nat_lt m n ≡ true → m < n
    less m n h = grind arith

    not_less : (m n : ℕ) → nat_lt m n ≡ false → n ≤ m
    not_less m n h = grind arith

    by : (p : Bool) → nat_lt i a ≡ p → (q : Bool) → nat_lt i (a + b) ≡ q → (r : Bool) → nat_lt i (a + b + c) ≡ r → Turns a b c i (cond p i (cond q (c + i) (cond r (i - b) i)))
    by true e q f r g = Before (less i a e) refl
    by false e true f r g = First (not_less i a e) (less i (a + b) f) refl
    by false e false f true g = let l : a + b ≤ i = not_less i (a + b) f in Second l (less i (a + b + c) g) (omega (arith, l))
    by false e false f false g = After (not_less i (a + b + c) g) refl

module _ (a b c : ℕ) where
  before-goes : Goes (turned a b c) 0 0 a
  before-goes = record { inside = λ i l h. inside i (turns a b c i) l h; low = λ i l h. low i (turns a b c i) l h; high = λ i l h. high i (turns a b c i) l h }
    where
      inside : (i : ℕ) {j : ℕ} → Turns a b c i j → 0 ≤ i → i < 0 + a → j + 0 ≡ i + 0
      inside i (Before l e) m h = omega (arith, l, e, m, h)
      inside i (First l k e) m h = omega (arith, l, k, e, m, h)
      inside i (Second l k e) m h = omega (arith, l, k, e, m, h)
      inside i (After l e) m h = omega (arith, l, e, m, h)

      low : (i : ℕ) {j : ℕ} → Turns a b c i j → 0 ≤ j → j < 0 + a → 0 ≤ i
      low i t m h = omega arith

      high : (i : ℕ) {j : ℕ} → Turns a b c i j → 0 ≤ j → j < 0 + a → i < 0 + a
      high i (Before l e) m h = omega (arith, l, e, m, h)
      high i (First l k e) m h = omega (arith, l, k, e, m, h)
      high i (Second l k e) m h = omega (arith, l, k, e, m, h)
      high i (After l e) m h = omega (arith, l, e, m, h)

  first-goes : Goes (turned a b c) (0 + a) (0 + a + c) b
  first-goes = record { inside = λ i l h. inside i (turns a b c i) l h; low = λ i l h. low i (turns a b c i) l h; high = λ i l h. high i (turns a b c i) l h }
    where
      inside : (i : ℕ) {j : ℕ} → Turns a b c i j → 0 + a ≤ i → i < 0 + a + b → j + (0 + a) ≡ i + (0 + a + c)
      inside i (Before l e) m h = omega (arith, l, e, m, h)
      inside i (First l k e) m h = omega (arith, l, k, e, m, h)
      inside i (Second l k e) m h = omega (arith, l, k, e, m, h)
      inside i (After l e) m h = omega (arith, l, e, m, h)

      low : (i : ℕ) {j : ℕ} → Turns a b c i j → 0 + a + c ≤ j → j < 0 + a + c + b → 0 + a ≤ i
      low i (Before l e) m h = omega (arith, l, e, m, h)
      low i (First l k e) m h = omega (arith, l, k, e, m, h)
      low i (Second l k e) m h = omega (arith, l, k, e, m, h)
      low i (After l e) m h = omega (arith, l, e, m, h)

      high : (i : ℕ) {j : ℕ} → Turns a b c i j → 0 + a + c ≤ j → j < 0 + a + c + b → i < 0 + a + b
      high i (Before l e) m h = omega (arith, l, e, m, h)
      high i (First l k e) m h = omega (arith, l, k, e, m, h)
      high i (Second l k e) m h = omega (arith, l, k, e, m, h)
      high i (After l e) m h = omega (arith, l, e, m, h)

  second-goes : Goes (turned a b c) (0 + a + b) (0 + a) c
  second-goes = record { inside = λ i l h. inside i (turns a b c i) l h; low = λ i l h. low i (turns a b c i) l h; high = λ i l h. high i (turns a b c i) l h }
    where
      inside : (i : ℕ) {j : ℕ} → Turns a b c i j → 0 + a + b ≤ i → i < 0 + a + b + c → j + (0 + a + b) ≡ i + (0 + a)
      inside i (Before l e) m h = omega (arith, l, e, m, h)
      inside i (First l k e) m h = omega (arith, l, k, e, m, h)
      inside i (Second l k e) m h = omega (arith, l, k, e, m, h)
      inside i (After l e) m h = omega (arith, l, e, m, h)

      low : (i : ℕ) {j : ℕ} → Turns a b c i j → 0 + a ≤ j → j < 0 + a + c → 0 + a + b ≤ i
      low i (Before l e) m h = omega (arith, l, e, m, h)
      low i (First l k e) m h = omega (arith, l, k, e, m, h)
      low i (Second l k e) m h = omega (arith, l, k, e, m, h)
      low i (After l e) m h = omega (arith, l, e, m, h)

      high : (i : ℕ) {j : ℕ} → Turns a b c i j → 0 + a ≤ j → j < 0 + a + c → i < 0 + a + b + c
      high i (Before l e) m h = omega (arith, l, e, m, h)
      high i (First l k e) m h = omega (arith, l, k, e, m, h)
      high i (Second l k e) m h = omega (arith, l, k, e, m, h)
      high i (After l e) m h = omega (arith, l, e, m, h)

  after-goes : (n : ℕ) → Goes (turned a b c) (0 + a + b + c) (0 + a + c + b) n
  after-goes n = record { inside = λ i l h. inside i (turns a b c i) l h; low = λ i l h. low i (turns a b c i) l h; high = λ i l h. high i (turns a b c i) l h }
    where
      inside : (i : ℕ) {j : ℕ} → Turns a b c i j → 0 + a + b + c ≤ i → i < 0 + a + b + c + n → j + (0 + a + b + c) ≡ i + (0 + a + c + b)
      inside i (Before l e) m h = omega (arith, l, e, m, h)
      inside i (First l k e) m h = omega (arith, l, k, e, m, h)
      inside i (Second l k e) m h = omega (arith, l, k, e, m, h)
      inside i (After l e) m h = omega (arith, l, e, m, h)

      low : (i : ℕ) {j : ℕ} → Turns a b c i j → 0 + a + c + b ≤ j → j < 0 + a + c + b + n → 0 + a + b + c ≤ i
      low i (Before l e) m h = omega (arith, l, e, m, h)
      low i (First l k e) m h = omega (arith, l, k, e, m, h)
      low i (Second l k e) m h = omega (arith, l, k, e, m, h)
      low i (After l e) m h = omega (arith, l, e, m, h)

      high : (i : ℕ) {j : ℕ} → Turns a b c i j → 0 + a + c + b ≤ j → j < 0 + a + c + b + n → i < 0 + a + b + c + n
      high i (Before l e) m h = omega (arith, l, e, m, h)
      high i (First l k e) m h = omega (arith, l, k, e, m, h)
      high i (Second l k e) m h = omega (arith, l, k, e, m, h)
      high i (After l e) m h = omega (arith, l, e, m, h)

-- the sources of the query in another order have the same guards
pub guards-turned : (kinds : ℕ → List Kind) (q r : Query) (before first second after : List ℕ) → q.sources ≡ before ++ (first ++ (second ++ after)) → r.sources ≡ before ++ (second ++ (first ++ after))
    → AreTurned (turned (columns_in kinds before) (columns_in kinds first) (columns_in kinds second)) q r
    → (p : Source → Bool) → count_by p (with_guards kinds r.conds 0 r.sources) ≡ count_by p (with_guards kinds q.conds 0 q.sources)
guards-turned kinds q r before first second after from to turn p =
    let a : ℕ = columns_in kinds before in
    let b : ℕ = columns_in kinds first in
    let c : ℕ = columns_in kinds second in
    let right : tally p (with_guards kinds r.conds 0 r.sources) ≡ tally p (with_guards kinds (map (renamed (turned a b c)) q.conds) 0 (before ++ (second ++ (first ++ after)))) = (λ i. tally p (with_guards kinds (turn.conds i) 0 (to i))) in
    let left : tally p (with_guards kinds q.conds 0 q.sources) ≡ tally p (with_guards kinds q.conds 0 (before ++ (first ++ (second ++ after)))) = (λ i. tally p (with_guards kinds q.conds 0 (from i))) in
    let r4 = four (map (renamed (turned a b c)) q.conds) before second first after in
    let l4 = four q.conds before first second after in
    let e1 : tally p (with_guards kinds (map (renamed (turned a b c)) q.conds) 0 before) ≡ tally p (with_guards kinds q.conds 0 before) = ap (tally p) (block-same kinds (turned a b c) q.conds 0 0 before (before-goes a b c)) in
    let e2 : tally p (with_guards kinds (map (renamed (turned a b c)) q.conds) (0 + a) second) ≡ tally p (with_guards kinds q.conds (0 + a + b) second) = ap (tally p) (block-same kinds (turned a b c) q.conds (0 + a + b) (0 + a) second (second-goes a b c)) in
    let e3 : tally p (with_guards kinds (map (renamed (turned a b c)) q.conds) (0 + a + c) first) ≡ tally p (with_guards kinds q.conds (0 + a) first) = ap (tally p) (block-same kinds (turned a b c) q.conds (0 + a) (0 + a + c) first (first-goes a b c)) in
    let e4 : tally p (with_guards kinds (map (renamed (turned a b c)) q.conds) (0 + a + c + b) after) ≡ tally p (with_guards kinds q.conds (0 + a + b + c) after) = ap (tally p) (block-same kinds (turned a b c) q.conds (0 + a + b + c) (0 + a + c + b) after (after-goes a b c (columns_in kinds after))) in
    let x = counted p (with_guards kinds r.conds 0 r.sources) in
    let y = counted p (with_guards kinds q.conds 0 q.sources) in
    omega (arith, right, left, r4, l4, e1, e2, e3, e4, x, y)
  where
    four : (conds : List Expr) (ws xs ys zs : List ℕ) → tally p (with_guards kinds conds 0 (ws ++ (xs ++ (ys ++ zs))))
        ≡ tally p (with_guards kinds conds 0 ws) + (tally p (with_guards kinds conds (0 + columns_in kinds ws) xs)
        + (tally p (with_guards kinds conds (0 + columns_in kinds ws + columns_in kinds xs) ys) + tally p (with_guards kinds conds (0 + columns_in kinds ws + columns_in kinds xs + columns_in kinds ys) zs)))
    four conds ws xs ys zs =
        let m : ℕ = 0 + columns_in kinds ws in
        let n : ℕ = m + columns_in kinds xs in
        ap (tally p) (guarded-append kinds conds 0 ws (xs ++ (ys ++ zs))) ∙ tally-append p (with_guards kinds conds 0 ws) (with_guards kinds conds m (xs ++ (ys ++ zs)))
        ∙ ap (λ k. tally p (with_guards kinds conds 0 ws) + k)
        (ap (tally p) (guarded-append kinds conds m xs (ys ++ zs)) ∙ tally-append p (with_guards kinds conds m xs) (with_guards kinds conds n (ys ++ zs))
        ∙ ap (λ k. tally p (with_guards kinds conds m xs) + k)
        (ap (tally p) (guarded-append kinds conds n ys zs) ∙ tally-append p (with_guards kinds conds n ys) (with_guards kinds conds (n + columns_in kinds ys) zs)))
