-- A row goes to its node.
use Rattle.std.proofs.Common.{◌≡◌, ◌≢◌, ◌==◌, ◌+◌, ◌<◌, ◌≤◌, ℕ, Bool, true, false, cond, All, List, [], ◌∷◌, ◌++◌, length, replicate, zero, suc, slice_set, slice_index, filter, map, get_or, drop, nat_lt, ◌&&◌, Result, Ok, Err, refl, ap, sym, ◌∙◌, append_assoc, arith}
use Rattle.std.specs.List.{range_with_len, list_all}
use Rattle.std.specs.Result.{IfOk}
use Rattle.std.proofs.lemmas.Bool.Decides.{nat_tests}
use Rattle.std.proofs.lemmas.List.{get_or-set_same, get_or-set_other}
use Rattle.std.proofs.lemmas.List.Elements.{filter-append}
use Rattle.std.proofs.lemmas.List.FromFn.{map-range_with_len_more}
use Rattle.hq_value.specs.Bucket.{HasColumns}
use Rattle.hq_value.specs.declared.value.Value.{Value}
use Rattle.hq_algebra.specs.declared.plan.Motion.TheVariants as motion
use Rattle.hq_meaning.specs.Nodes.{home, moved, nodes_of, lowest}
use Rattle.hq_motion.specs.Lists.{list_at}
use Rattle.hq_motion.specs.Split.{nodes_up, split}

-- the lists with the row, and then what the rows behind it add
pub row-home : (keys owner : List ℕ) (row : List Value) (rest : List (List Value)) (lists : List (List (List Value))) (k n : ℕ)
    → k ≡ home owner keys row → k < length lists
    → list_at lists n ++ moved (motion.Redistribute keys) owner (row ∷ rest) n ≡ list_at (slice_set lists k (list_at lists k ++ row ∷ [])) n ++ moved (motion.Redistribute keys) owner rest n
row-home keys owner row rest lists k n is within = by (k == n) refl
  where
    same-node : (k == n) ≡ true → k ≡ n
    same-node e = grind (arith, nat_tests)

    other-node : (k == n) ≡ false → n ≢ k
    other-node e = grind (arith, nat_tests)

    by : (here : Bool) → (k == n) ≡ here → list_at lists n ++ moved (motion.Redistribute keys) owner (row ∷ rest) n ≡ list_at (slice_set lists k (list_at lists k ++ row ∷ [])) n ++ moved (motion.Redistribute keys) owner rest n
    by true e =
        let same : k ≡ n = same-node e in
        let test : (home owner keys row == n) ≡ true = ap (λ m. m == n) (sym is) ∙ e in
        let set : list_at (slice_set lists k (list_at lists k ++ row ∷ [])) n ≡ list_at lists n ++ row ∷ [] =
        ap (λ m. list_at (slice_set lists k (list_at lists k ++ row ∷ [])) m) (sym same) ∙ get_or-set_same lists k (list_at lists k ++ row ∷ []) [] within ∙ ap (λ m. list_at lists m ++ row ∷ []) same in
        ap (λ v. list_at lists n ++ cond v (row ∷ moved (motion.Redistribute keys) owner rest n) (moved (motion.Redistribute keys) owner rest n)) test
        ∙ sym (append_assoc (list_at lists n) (row ∷ []) (moved (motion.Redistribute keys) owner rest n)) ∙ ap (λ rows. rows ++ moved (motion.Redistribute keys) owner rest n) (sym set)
    by false e =
        let test : (home owner keys row == n) ≡ false = ap (λ m. m == n) (sym is) ∙ e in
        let set : list_at (slice_set lists k (list_at lists k ++ row ∷ [])) n ≡ list_at lists n = get_or-set_other lists k n (list_at lists k ++ row ∷ []) [] (other-node e) in
        ap (λ v. list_at lists n ++ cond v (row ∷ moved (motion.Redistribute keys) owner rest n) (moved (motion.Redistribute keys) owner rest n)) test
        ∙ ap (λ rows. rows ++ moved (motion.Redistribute keys) owner rest n) (sym set)

-- 16 empty lists
pub none-yet : (n : ℕ) → list_at ([] ∷ [] ∷ [] ∷ [] ∷ [] ∷ [] ∷ [] ∷ [] ∷ [] ∷ [] ∷ [] ∷ [] ∷ [] ∷ [] ∷ [] ∷ [] ∷ []) n ≡ []
none-yet n = replicated 16 n
  where
    replicated : (m n : ℕ) → list_at (replicate m []) n ≡ []
    replicated zero n = refl
    replicated (suc m) zero = refl
    replicated (suc m) (suc n) = replicated m n

-- each row has the columns of the keys
abbrev pub AllKeyed : List ℕ → List (List Value) → Type 0
AllKeyed keys rows = All (HasColumns keys) rows

pub keyed-rest : (keys : List ℕ) (row : List Value) (rest : List (List Value)) → AllKeyed keys (row ∷ rest) → AllKeyed keys rest
keyed-rest keys row rest h = λ k d within. h (suc k) d (omega (arith, within))

same-list : (ns : List ℕ) → map (λ n. n) ns ≡ ns
same-list [] = refl
same-list (n ∷ ns) = ap (λ l. n ∷ l) (same-list ns)

-- one number more
pub up-more : (p : ℕ → Bool) (n : ℕ) → filter p (range_with_len 0 (n + 1)) ≡ filter p (range_with_len 0 n) ++ cond (p n) (n ∷ []) []
up-more p n =
    ap (filter p) (sym (same-list (range_with_len 0 (n + 1))) ∙ map-range_with_len_more (λ n. n) 0 n n (omega arith) ∙ ap (λ l. l ++ n ∷ []) (same-list (range_with_len 0 n)))
    ∙ filter-append p (range_with_len 0 n) (n ∷ [])

-- a node and its list
abbrev entry : ℕ → List (List Value) → ℕ × List (List Value)
entry n list = (n, list)

-- with the list of one node more
pub found-more : (lists : List (List (List Value))) (p : ℕ → Bool) (n : ℕ) (list : List (List Value)) → list ≡ list_at lists n
    → map (λ n. entry n (list_at lists n)) (filter p (range_with_len 0 n)) ++ cond (p n) (entry n list ∷ []) [] ≡ map (λ n. entry n (list_at lists n)) (filter p (range_with_len 0 (n + 1)))
found-more lists p n list e =
    by (p n) ∙ sym (map-append (filter p (range_with_len 0 n)) (cond (p n) (n ∷ []) [])) ∙ ap (map (λ n. entry n (list_at lists n))) (sym (up-more p n))
  where
    map-append : (xs ys : List ℕ) → map (λ n. entry n (list_at lists n)) (xs ++ ys) ≡ map (λ n. entry n (list_at lists n)) xs ++ map (λ n. entry n (list_at lists n)) ys
    map-append [] ys = refl
    map-append (x ∷ xs) ys = ap (λ (l : List (ℕ × List (List Value))). entry x (list_at lists x) ∷ l) (map-append xs ys)

    by : (b : Bool) → map (λ n. entry n (list_at lists n)) (filter p (range_with_len 0 n)) ++ cond b (entry n list ∷ []) [] ≡ map (λ n. entry n (list_at lists n)) (filter p (range_with_len 0 n)) ++ map (λ n. entry n (list_at lists n)) (cond b (n ∷ []) [])
    by true = ap (λ (l : List (List Value)). map (λ n. entry n (list_at lists n)) (filter p (range_with_len 0 n)) ++ entry n l ∷ []) e
    by false = refl

pub drop-here : (lists : List (List (List Value))) (n : ℕ) (list : List (List Value)) (rest : List (List (List Value))) → drop n lists ≡ list ∷ rest → list ≡ list_at lists n
drop-here [] zero list rest h = cc
drop-here [] (suc n) list rest h = cc
drop-here (l ∷ lists) zero list rest h = let e : l ≡ list = cc in sym e
drop-here (l ∷ lists) (suc n) list rest h = drop-here lists n list rest h

pub drop-there : (lists : List (List (List Value))) (n : ℕ) (list : List (List Value)) (rest : List (List (List Value))) → drop n lists ≡ list ∷ rest → rest ≡ drop (n + 1) lists
drop-there lists n list rest h = let one : suc n ≡ n + 1 = omega arith in by lists n h ∙ ap (λ (m : ℕ). drop m lists) one
  where
    by : (ls : List (List (List Value))) (n : ℕ) → drop n ls ≡ list ∷ rest → rest ≡ drop (suc n) ls
    by [] zero h = cc
    by [] (suc n) h = cc
    by (l ∷ ls) zero h = let e : ls ≡ rest = cc in sym e
    by (l ∷ ls) (suc n) h = by ls n h

-- the lists of three motions
same-number : (n : ℕ) → (n == n) ≡ true
same-number n = grind (arith, nat_tests)

pub gathered : (owner up : List ℕ) (rows : List (List Value)) → up ≡ nodes_of owner → (slice_index up 0, rows) ∷ [] ≡ split motion.Gather owner rows
gathered owner up rows e =
    ap (λ (ns : List ℕ). (slice_index ns 0, rows) ∷ []) e
    ∙ ap (λ (b : Bool). (lowest owner, cond b rows []) ∷ []) (sym (same-number (lowest owner)))

kept-same : {X : Type 0} (f g : ℕ → X) (p : ℕ → Bool) (ns : List ℕ) → list_all (λ n. nat_lt n 16) ns ≡ true → ((n : ℕ) → n < 16 → f n ≡ g n) → map f (filter p ns) ≡ map g (filter p ns)
kept-same f g p [] h same = refl
kept-same f g p (n ∷ ns) h same = by (p n) (parts (nat_lt n 16) _ h).0 (kept-same f g p ns (parts (nat_lt n 16) _ h).1 same)
  where
    parts : (a b : Bool) → (a && b) ≡ true → (a ≡ true) × (b ≡ true)
    parts true b h = (refl, h)
    parts false b h = cc

    by : (b : Bool) → nat_lt n 16 ≡ true → map f (filter p ns) ≡ map g (filter p ns) → map f (cond b (n ∷ filter p ns) (filter p ns)) ≡ map g (cond b (n ∷ filter p ns) (filter p ns))
    by true less rest = λ i. same n (grind (arith, less)) i ∷ rest i
    by false less rest = rest

pub redistributed : (owner keys : List ℕ) (marks : List Bool) (rows : List (List Value)) (lists : List (List (List Value))) → nodes_of owner ≡ nodes_up marks
    → ((n : ℕ) → n < 16 → list_at lists n ≡ moved (motion.Redistribute keys) owner rows n) → map (λ n. (n, list_at lists n)) (nodes_up marks) ≡ split (motion.Redistribute keys) owner rows
redistributed owner keys marks rows lists e same =
    kept-same (λ n. (n, list_at lists n)) (λ n. (n, moved (motion.Redistribute keys) owner rows n)) (λ n. get_or marks n false) (range_with_len 0 16) refl (λ n h. ap (λ (l : List (List Value)). (n, l)) (same n h))
    ∙ ap (map (λ n. (n, moved (motion.Redistribute keys) owner rows n))) (sym e)

-- what is given is equal to what is asked
pub if_ok-then : {A B E : Type 0} (view : A → B) (r : Result A E) (x y : B) → x ≡ y → IfOk r (λ a. view a ≡ x) → IfOk r (λ a. view a ≡ y)
if_ok-then view (Ok a) x y e h = h ∙ e
if_ok-then view (Err b) x y e h = tt
