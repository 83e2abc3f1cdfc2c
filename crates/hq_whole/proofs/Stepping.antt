-- Steps one after the other.
use Rattle.std.proofs.Common.{◌≡◌, ◌≢◌, ℕ, zero, suc, ◌+◌, ◌≤◌, ◌<◌, nat_lt, Bool, true, false, cond, not, ◌&&◌, ◌||◌, List, [], ◌∷◌, ◌++◌, length, map, take, drop, get_or, append_assoc, refl, sym, ◌∙◌, ap, arith, IsTrue}
use Rattle.hq_value.specs.Tables.{all_below}
use Rattle.hq_value.specs.declared.kind.Kind.{Kind}
use Rattle.hq_algebra.specs.declared.expr.Expr.{Expr}
use Rattle.hq_algebra.specs.Plans.{is_short}
use Rattle.hq_algebra.specs.Rules.{is_empty}
use Rattle.std.specs.List.{list_any}
use Rattle.hq_laws.specs.Equated.{equates, keys_equated, moves_rows}
use Rattle.hq_laws.specs.Placed.{stays_by, homes_after, same_keys}
use Rattle.hq_laws.proofs.Lists.{both_true}
use Rattle.hq_whole.specs.Choices.{way_of, key_equated, stands_by, all_stand, copies}
use Rattle.hq_whole.specs.declared.step.Step.{Step}
use Rattle.hq_whole.specs.declared.step.Way.{Way}
use Rattle.hq_whole.specs.declared.step.Way.TheVariants as way

-- the right keys of a step that stands are columns of its table
pub right-below : (w v : ℕ) (conds : List Expr) (lk rk : List ℕ) → keys_equated w v conds lk rk ≡ true → all_below v rk ≡ true
right-below w v conds [] [] h = refl
right-below w v conds [] (j ∷ js) h = cc
right-below w v conds (i ∷ is) [] h = cc
right-below w v conds (i ∷ is) (j ∷ js) h =
    let b : ((nat_lt i w && (nat_lt j v && list_any (equates i (w + j)) conds)) ≡ true) × (keys_equated w v conds is js ≡ true) = both_true (nat_lt i w && (nat_lt j v && list_any (equates i (w + j)) conds)) _ h in
    let c : (nat_lt i w ≡ true) × ((nat_lt j v && list_any (equates i (w + j)) conds) ≡ true) = both_true (nat_lt i w) _ b.0 in
    λ t. (both_true (nat_lt j v) _ c.1).0 t && right-below w v conds is js b.1 t

pub keys-below : (w v : ℕ) (own : List ℕ) (conds : List Expr) (homes : List (List ℕ)) (s : Step) → stands_by w v own conds homes s ≡ true → all_below v s.right_keys ≡ true
keys-below w v own conds homes s h = right-below w v conds s.left_keys s.right_keys (first (keys_equated w v conds s.left_keys s.right_keys) (is_short s.left_keys) (not (moves_rows (way_of s.way)) || not (is_empty s.left_keys)) _ h)
  where
    first : (a b c d : Bool) → (a && b && c && d) ≡ true → a ≡ true
    first true b c d h = refl
    first false b c d h = cc

-- keys of another number are not equated
pub lengths-differ : (w v : ℕ) (conds : List Expr) (lk rk : List ℕ) → length lk ≢ length rk → false ≡ keys_equated w v conds lk rk
lengths-differ w v conds [] [] h = absurd (h refl)
lengths-differ w v conds [] (j ∷ js) h = refl
lengths-differ w v conds (i ∷ is) [] h = refl
lengths-differ w v conds (i ∷ is) (j ∷ js) h = by (nat_lt i w && (nat_lt j v && list_any (equates i (w + j)) conds)) _ (lengths-differ w v conds is js (λ e. h (ap suc e)))
  where
    by : (a b : Bool) → false ≡ b → false ≡ (a && b)
    by true b e = e
    by false b e = refl

-- a copy without keys stands
pub copies-stand : (w v : ℕ) (own : List ℕ) (conds : List Expr) (homes : List (List ℕ)) (s : Step) → s.left_keys ≡ [] → s.right_keys ≡ [] → copies s.way ≡ true → stands_by w v own conds homes s ≡ true
copies-stand w v own conds homes s left right copied = (λ t. keys_equated w v conds (left t) (right t) && is_short (left t) && (not (moves_rows (way_of s.way)) || not (is_empty (left t))) && stays_by (way_of s.way) own (left t) (right t) homes) ∙ by s.way copied
  where
    by : (way : Way) → copies way ≡ true → (true && true && (not (moves_rows (way_of way)) || false) && stays_by (way_of way) own [] [] homes) ≡ true
    by way.CopyRight h = refl
    by way.CopyLeft h = refl
    by way.MoveBoth h = cc
    by way.MoveLeft h = cc
    by way.MoveRight h = cc
    by way.Stay h = cc

-- one step more behind those that stand
module _ (kinds : ℕ → List Kind) (own : ℕ → List ℕ) (conds : List Expr) where
  pub one-stands : (w : ℕ) (homes : List (List ℕ)) (s : Step) (rest : List Step) → stands_by w (length (kinds s.table)) (own s.table) conds homes s ≡ true
      → all_stand kinds own conds w homes (s ∷ rest) ≡ all_stand kinds own conds (w + length (kinds s.table)) (homes_after (way_of s.way) w (length (kinds s.table)) (own s.table) s.left_keys s.right_keys homes) rest
  one-stands w homes s rest h = ap (λ b. b && all_stand kinds own conds (w + length (kinds s.table)) (homes_after (way_of s.way) w (length (kinds s.table)) (own s.table) s.left_keys s.right_keys homes) rest) h

-- with one step more, the steps stand as far as they did
pub step-more : (kinds : ℕ → List Kind) (own : ℕ → List ℕ) (conds : List Expr) (w0 : ℕ) (homes0 : List (List ℕ)) (steps new : List Step) (s : Step) (w v table : ℕ) (homes next : List (List ℕ))
    → ((rest : List Step) → all_stand kinds own conds w0 homes0 (steps ++ rest) ≡ all_stand kinds own conds w homes rest)
    → new ≡ steps ++ s ∷ [] → s.table ≡ table → v ≡ w + length (kinds table)
    → stands_by w (length (kinds table)) (own table) conds homes s ≡ true → next ≡ homes_after (way_of s.way) w (length (kinds table)) (own table) s.left_keys s.right_keys homes
    → (rest : List Step) → all_stand kinds own conds w0 homes0 (new ++ rest) ≡ all_stand kinds own conds v next rest
step-more kinds own conds w0 homes0 steps new s w v table homes next before pushed et ev stands en rest =
    let here : stands_by w (length (kinds s.table)) (own s.table) conds homes s ≡ true = (λ i. stands_by w (length (kinds (et i))) (own (et i)) conds homes s) ∙ stands in
    ap (λ (l : List Step). all_stand kinds own conds w0 homes0 (l ++ rest)) pushed
    ∙ ap (all_stand kinds own conds w0 homes0) (append_assoc steps (s ∷ []) rest)
    ∙ before (s ∷ rest) ∙ one-stands kinds own conds w homes s rest here
    ∙ (λ i. all_stand kinds own conds (w + length (kinds (et i))) (homes_after (way_of s.way) w (length (kinds (et i))) (own (et i)) s.left_keys s.right_keys homes) rest)
    ∙ (λ i. all_stand kinds own conds (sym ev i) (sym en i) rest)

-- a step stands by what it was tried by
pub stands-there : (w columns : ℕ) (v : ℕ) (keys own : List ℕ) (conds : List Expr) (lent homes : List (List ℕ)) (s : Step) → columns ≡ v → keys ≡ own → lent ≡ homes → stands_by w columns keys conds lent s ≡ true → stands_by w v own conds homes s ≡ true
stands-there w columns v keys own conds lent homes s ev ek eh h = (λ i. stands_by w (sym ev i) (sym ek i) conds (sym eh i) s) ∙ h

take-one : (ss : List ℕ) (i : ℕ) → i < length ss → take (suc i) ss ≡ take i ss ++ get_or ss i 0 ∷ []
take-one [] i l = absurd (omega (arith, l))
take-one (x ∷ ss) zero l = refl
take-one (x ∷ ss) (suc i) l = ap (λ (t : List ℕ). x ∷ t) (take-one ss i (omega (arith, l)))

tables-next : (ss : List ℕ) (i : ℕ) → 1 ≤ i → i < length ss → drop 1 (take i ss) ++ get_or ss i 0 ∷ [] ≡ drop 1 (take (i + 1) ss)
tables-next [] i m l = absurd (omega (arith, l))
tables-next (x ∷ ss) zero m l = absurd (omega (arith, m))
tables-next (x ∷ ss) (suc i) m l =
    let one : suc (suc i) ≡ suc i + 1 = omega arith in
    sym (take-one ss i (omega (arith, l))) ∙ ap (λ (n : ℕ). drop 1 (take n (x ∷ ss))) one

map-append : (xs ys : List Step) → map (λ (s : Step). s.table) (xs ++ ys) ≡ map (λ (s : Step). s.table) xs ++ map (λ (s : Step). s.table) ys
map-append [] ys = refl
map-append (x ∷ xs) ys = ap (λ (t : List ℕ). x.table ∷ t) (map-append xs ys)

pub tables-more : (ss : List ℕ) (i : ℕ) (steps new : List Step) (s : Step) → map (λ (s : Step). s.table) steps ≡ drop 1 (take i ss) → new ≡ steps ++ s ∷ [] → s.table ≡ get_or ss i 0 → 1 ≤ i → i < length ss
    → map (λ (s : Step). s.table) new ≡ drop 1 (take (i + 1) ss)
tables-more ss i steps new s before pushed et m l =
    ap (map (λ (s : Step). s.table)) pushed ∙ map-append steps (s ∷ []) ∙ (λ j. before j ++ et j ∷ []) ∙ tables-next ss i m l
