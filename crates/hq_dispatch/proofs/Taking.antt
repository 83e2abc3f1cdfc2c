-- Tasks give their rows, one after the other.
use Rattle.std.proofs.Common.{◌≡◌, ◌∙◌, ℕ, zero, suc, ◌+◌, ◌<◌, ◌≤◌, ◌⊎◌, inl, inr, List, [], ◌∷◌, ◌++◌, length, take, drop, slice_index_or, slice_set, refl, sym, ap, subst, append_assoc, arith}
use Rattle.std.proofs.lemmas.Bool.{cases_lt, cases_eq}
use Rattle.std.proofs.lemmas.List.{get_or-set_same, get_or-set_other, length-set, map-append}
use Rattle.hq_detect.specs.declared.bench.Bench.{Bench}
use Rattle.hq_exec.specs.declared.end.FlowEnd.TheVariants as flow
use Rattle.hq_dispatch.specs.Ended.{benches_of}
use Rattle.hq_dispatch.specs.Parcels.{bytes_at, parcel_at}
use Rattle.hq_dispatch.specs.Settled.{HasSameHead, AreSameHeads, IsLack, Lacks}
use Rattle.hq_dispatch.specs.declared.end.QueryEnd.{QueryEnd}
use Rattle.hq_dispatch.specs.declared.end.QueryEnd.TheVariants as end
use Rattle.hq_dispatch.specs.declared.parcels.Parcels.{Parcels}
use Rattle.hq_dispatch.specs.declared.task.Task.{Task}

-- an item does not hang on what stands for none
one-item : {X : Type 0} (xs : List X) (n : ℕ) (d e : X) → n < length xs → slice_index_or xs n d ≡ slice_index_or xs n e
one-item [] n d e within = absurd (omega (arith, within))
one-item (x ∷ xs) zero d e within = refl
one-item (x ∷ xs) (suc n) d e within = one-item xs n d e (omega (arith, within))

-- what holds of each task holds with one more
pub all-behind : {X : Type 0} (P : X → Type 0) (xs : List X) (x : X) → ((k : ℕ) (d : X) → k < length xs → P (slice_index_or xs k d)) → P x → (k : ℕ) (d : X) → k < length (xs ++ x ∷ []) → P (slice_index_or (xs ++ x ∷ []) k d)
all-behind P [] x all own zero d less = own
all-behind P [] x all own (suc k) d less = absurd (omega (arith, less))
all-behind P (y ∷ xs) x all own zero d less = all zero d (omega arith)
all-behind P (y ∷ xs) x all own (suc k) d less = all-behind P xs x (λ k d l. all (suc k) d (omega (arith, l))) own k d (omega (arith, less))

-- a list behind the others
pub parcel-last : (all : List Parcels) (p : Parcels) (n k : ℕ) → length all ≡ n → parcel_at (all ++ p ∷ []) n k ≡ bytes_at p.lists.items k
parcel-last [] p zero k e = refl
parcel-last [] p (suc n) k e = absurd (omega (arith, e))
parcel-last (q ∷ all) p zero k e = absurd (omega (arith, e))
parcel-last (q ∷ all) p (suc n) k e = parcel-last all p n k (omega (arith, e))

pub parcel-front : (all : List Parcels) (p : Parcels) (n k : ℕ) → n < length all → parcel_at (all ++ p ∷ []) n k ≡ parcel_at all n k
parcel-front [] p n k within = absurd (omega (arith, within))
parcel-front (q ∷ all) p zero k within = refl
parcel-front (q ∷ all) p (suc n) k within = parcel-front all p n k (omega (arith, within))

-- one task more gave its rows
module _ {S H L : Type 0} (old now : List (Task S H L)) (n : ℕ) (x y : Task S H L) (within : n < length now) (rest : (k : ℕ) (d : Task S H L) → n ≤ k → slice_index_or now k d ≡ slice_index_or old k d) (x_is : x ≡ slice_index_or now n x) where
  old-is : (d : Task S H L) → x ≡ slice_index_or old n d
  old-is d = x_is ∙ one-item now n x d within ∙ rest n d (omega arith)

  pub heads-more : AreSameHeads old now → HasSameHead x y → AreSameHeads old (slice_set now n y)
  heads-more heads head = record {
    count = length-set now n y ∙ heads.count;
    each = λ k d. by k d (cases_eq k n);
  }
    where
      by : (k : ℕ) (d : Task S H L) → (k ≡ n) ⊎ (k ≡ n → ⊥) → HasSameHead (slice_index_or old k d) (slice_index_or (slice_set now n y) k d)
      by k d (inl e) =
          subst (λ (m : ℕ). HasSameHead (slice_index_or old m d) (slice_index_or (slice_set now n y) m d)) (sym e)
          (subst (λ (t : Task S H L). HasSameHead t (slice_index_or (slice_set now n y) n d)) (old-is d)
          (subst (λ (t : Task S H L). HasSameHead x t) (sym (get_or-set_same now n y d within)) head))
      by k d (inr ne) = subst (λ (t : Task S H L). HasSameHead (slice_index_or old k d) t) (sym (get_or-set_other now n k y d ne)) (heads.each k d)

  pub rest-more : (k : ℕ) (d : Task S H L) → n + 1 ≤ k → slice_index_or (slice_set now n y) k d ≡ slice_index_or old k d
  rest-more k d le = get_or-set_other now n k y d (λ e. omega (arith, e, le)) ∙ rest k d (omega (arith, le))

  pub taken-more : (all : List Parcels) (p : Parcels) → length all ≡ n → p ≡ x.parcels → ((k : ℕ) (d : Task S H L) → k < n → (m : ℕ) → parcel_at all k m ≡ bytes_at (slice_index_or old k d).parcels.lists.items m)
      → (k : ℕ) (d : Task S H L) → k < n + 1 → (m : ℕ) → parcel_at (all ++ p ∷ []) k m ≡ bytes_at (slice_index_or old k d).parcels.lists.items m
  taken-more all p many p_is taken k d less m = by (cases_eq k n)
    where
      under : (k n : ℕ) → k < n + 1 → (k ≡ n → ⊥) → k < n
      under k n less ne = grind arith

      below : (k n : ℕ) → k < n + 1 → (k ≡ n → ⊥) → length all ≡ n → k < length all
      below k n less ne e = let u = under k n less ne in omega (arith, u, e)

      by : (k ≡ n) ⊎ (k ≡ n → ⊥) → parcel_at (all ++ p ∷ []) k m ≡ bytes_at (slice_index_or old k d).parcels.lists.items m
      by (inl e) =
          ap (λ (j : ℕ). parcel_at (all ++ p ∷ []) j m) e ∙ parcel-last all p n m many ∙ ap (λ (q : Parcels). bytes_at q.lists.items m) p_is
          ∙ ap (λ (t : Task S H L). bytes_at t.parcels.lists.items m) (old-is d) ∙ ap (λ (j : ℕ). bytes_at (slice_index_or old j d).parcels.lists.items m) (sym e)
      by (inr ne) = parcel-front all p k m (below k n less ne many) ∙ taken k d (under k n less ne) m

  pub done-more : x.end ≡ flow.Done → ((k : ℕ) (d : Task S H L) → k < n → (slice_index_or old k d).end ≡ flow.Done) → (k : ℕ) (d : Task S H L) → k < n + 1 → (slice_index_or old k d).end ≡ flow.Done
  done-more own done k d less = by (cases_lt k n)
    where
      by : (k < n) ⊎ (n ≤ k) → (slice_index_or old k d).end ≡ flow.Done
      by (inl l) = done k d l
      by (inr g) =
          let e : k ≡ n = omega (arith, g, less) in
          ap (λ (j : ℕ). (slice_index_or old j d).end) e ∙ ap (λ (t : Task S H L). t.end) (sym (old-is d)) ∙ own

  pub lacks-so : n < length old → (f : QueryEnd) → IsLack x.end f → Lacks old f
  lacks-so there end.Numeric h = (n, there, λ d. ap (λ (t : Task S H L). t.end) (sym (old-is d)) ∙ h)
  lacks-so there end.NoMemory h = tt
  lacks-so there _ h = absurd h

-- what each task may do, told by the tasks of a slice
pub accepts-so : {X : Type 0} (P : ℕ → X → Type 0) (xs ys : List X) (m : ℕ) → ys ≡ xs → m ≡ length xs → m ≤ 16 → ((n : ℕ) (d : X) → n < m → P n (slice_index_or xs n d)) → (i : ℕ) (x : X) → i < length ys → x ≡ slice_index_or ys i x → (i < 16) × P i x
accepts-so {X} P xs ys m same many few each i x within is =
    let l : length ys ≡ length xs = ap (λ (l : List X). length l) same in
    (omega (arith, within, l, many, few), subst (P i) (sym (is ∙ ap (λ (l : List X). slice_index_or l i x) same)) (each i x (omega (arith, within, l, many))))

taken-at : {X : Type 0} (m : ℕ) (zs : List X) (n : ℕ) (d : X) → n < m → slice_index_or (take m zs) n d ≡ slice_index_or zs n d
taken-at zero zs n d less = absurd (omega (arith, less))
taken-at (suc m) [] n d less = refl
taken-at (suc m) (z ∷ zs) zero d less = refl
taken-at (suc m) (z ∷ zs) (suc n) d less = taken-at m zs n d (omega (arith, less))

front-at : {X : Type 0} (xs ys : List X) (n : ℕ) (d : X) → n < length xs → slice_index_or (xs ++ ys) n d ≡ slice_index_or xs n d
front-at [] ys n d less = absurd (omega (arith, less))
front-at (x ∷ xs) ys zero d less = refl
front-at (x ∷ xs) ys (suc n) d less = front-at xs ys n d (omega (arith, less))

-- what a call left of a task
pub record Left {X : Type 0} (R : ℕ → X → X → Type 0) (n : ℕ) (old new : X) : Type 0 where
  pub before : X
  pub after : X
  pub left : R n before after
  pub before_is : before ≡ old
  pub after_is : after ≡ new

pub ran-so : {X : Type 0} (R : ℕ → X → X → Type 0) (xs old new : List X) (m : ℕ) → xs ≡ old → m ≡ length old → length new ≡ length xs → ((n : ℕ) (d : X) → n < length xs → Left R n (slice_index_or xs n d) (slice_index_or new n d)) → (n : ℕ) (d : X) → n < m
    → R n (slice_index_or old n d) (slice_index_or (take m (new ++ drop (length new) old)) n d)
ran-so {X} R xs old new m same many count each n d within =
    let l : length xs ≡ length old = ap (λ (l : List X). length l) same in
    let k = each n d (omega (arith, within, l, many)) in
    subst (λ (b : X). R n (slice_index_or old n d) b) (sym (taken-at m (new ++ drop (length new) old) n d within ∙ front-at new (drop (length new) old) n d (omega (arith, within, l, many, count))))
    (subst (λ (a : X). R n a (slice_index_or new n d)) (ap (λ (l : List X). slice_index_or l n d) same) (subst (λ (a : X). R n a (slice_index_or new n d)) k.before_is (subst (R n k.before) k.after_is k.left)))

-- lengths as one item moves on
pub some-so : (a b l : ℕ) → a + 1 ≡ b → b ≡ l → 0 < l
some-so a b l e f = omega (arith, e, f)

pub len-so : (t u b c i : ℕ) → t + b ≡ i → u ≡ t + 1 → c + 1 ≡ b → u + c ≡ i
len-so t u b c i all more less = omega (arith, all, more, less)

pub room-so : (t u b c k m : ℕ) → t + b ≤ k → u ≡ t + 1 → c + 1 ≡ b → k ≤ m → u + c ≤ m
room-so t u b c k m all more less wide = omega (arith, all, more, less, wide)

pub kept-so : (i k m : ℕ) → i ≤ k → m ≡ k → i ≤ m
kept-so i k m le e = omega (arith, le, e)

pub wide-so : (i k m : ℕ) → i ≤ k → k ≤ m → i ≤ m
wide-so i k m le wide = omega (arith, le, wide)

pub one-more : {X : Type 0} (xs new : List X) (x : X) (n : ℕ) → new ≡ xs ++ x ∷ [] → length xs ≡ n → length new ≡ n + 1
one-more xs new x n e many = ap (λ l. length l) e ∙ by xs x n many
  where
    by : {X : Type 0} (xs : List X) (x : X) (n : ℕ) → length xs ≡ n → length (xs ++ x ∷ []) ≡ n + 1
    by [] x n e = omega (arith, e)
    by (y ∷ xs) x zero e = absurd (omega (arith, e))
    by (y ∷ xs) x (suc n) e = let r = by xs x n (omega (arith, e)) in omega (arith, r)

-- one bench more has its task
pub benches-more : {S H L : Type 0} (tasks new : List (Task S H L)) (t : Task S H L) (bench : Bench S H L) (benches rest all : List (Bench S H L)) → benches_of tasks ++ benches ≡ all → 0 < length benches → bench ≡ slice_index_or benches 0 bench → rest ≡ take 0 benches ++ drop 1 benches
    → t.bench ≡ bench → new ≡ tasks ++ t ∷ [] → benches_of new ++ rest ≡ all
benches-more tasks new t bench [] rest all is some here left own more = absurd (omega (arith, some))
benches-more {S} {H} {L} tasks new t bench (b ∷ benches) rest all is some here left own more =
    (λ i. benches_of (more i) ++ left i) ∙ ap (λ (l : List (Bench S H L)). l ++ benches) (map-append (λ (x : Task S H L). x.bench) tasks (t ∷ [])) ∙ append_assoc (benches_of tasks) (t.bench ∷ []) benches
    ∙ ap (λ (x : Bench S H L). benches_of tasks ++ x ∷ benches) (own ∙ here) ∙ is

pub within-so : {X : Type 0} (n m : ℕ) (xs : List X) → n < m → m ≡ length xs → n < length xs
within-so n m xs less e = omega (arith, less, e)

pub there-so : {S H L : Type 0} (old now : List (Task S H L)) (n : ℕ) → AreSameHeads old now → n < length now → n < length old
there-so old now n heads within = let c = heads.count in omega (arith, within, c)

pub taken-as : {S H L : Type 0} (all new : List Parcels) (p : Parcels) (old : List (Task S H L)) (n : ℕ) → new ≡ all ++ p ∷ [] → ((k : ℕ) (d : Task S H L) → k < n + 1 → (m : ℕ) → parcel_at (all ++ p ∷ []) k m ≡ bytes_at (slice_index_or old k d).parcels.lists.items m)
    → (k : ℕ) (d : Task S H L) → k < n + 1 → (m : ℕ) → parcel_at new k m ≡ bytes_at (slice_index_or old k d).parcels.lists.items m
taken-as all new p old n e each k d less m = ap (λ (l : List Parcels). parcel_at l k m) e ∙ each k d less m
