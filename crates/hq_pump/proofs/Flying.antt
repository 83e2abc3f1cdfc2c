-- What is flying, and what a call of a sound link that tells how rough it is leaves of that.
use Rattle.std.proofs.Common.{◌≡◌, ◌⊎◌, ℕ, ◌+◌, ◌<◌, ◌≤◌, List, [], ◌∷◌, ◌++◌, take, Option, Some, None, Ok, refl, sym, ap, subst, ◌∙◌, arith, inl, inr}
use Rattle.hq_link.specs.declared.link.Got.TheVariants.{Bytes}
use Rattle.hq_link.specs.Link.{LinkState, Told, IsIn, added, IsHead, IsInTurn, IsLowered, HasFallen, KeepsPromise, WhereTold, AreThinned, IsNext}

-- a datagram is flying
pub record Flies (link : LinkState) (x : List ℕ) : Type 0 where
  pub all : List (List ℕ)
  pub told : link.flying ≡ Some all
  pub among : IsIn x all

in_more : (z y : List ℕ) (xs : List (List ℕ)) → IsIn z xs → IsIn z (xs ++ y ∷ [])
in_more z y [] h = absurd h
in_more z y (d ∷ xs) (inl e) = inl e
in_more z y (d ∷ xs) (inr h) = inr (in_more z y xs h)

in_last : (y : List ℕ) (xs : List (List ℕ)) → IsIn y (xs ++ y ∷ [])
in_last y [] = inl refl
in_last y (d ∷ xs) = inr (in_last y xs)

-- one that was sent is flying, and so are the others
pub flies_sent : (old new : LinkState) (bytes x : List ℕ) → new.flying ≡ added old.flying bytes → Flies old x → Flies new x
flies_sent old new bytes x is f = record { all = f.all ++ bytes ∷ []; told = is ∙ ap (λ (t : Told). added t bytes) f.told; among = in_more x bytes f.all f.among }

pub flies_new : (old new : LinkState) (bytes : List ℕ) (all : List (List ℕ)) → old.flying ≡ Some all → new.flying ≡ added old.flying bytes → Flies new bytes
flies_new old new bytes all was is = record { all = all ++ bytes ∷ []; told = is ∙ ap (λ (t : Told). added t bytes) was; among = in_last bytes all }

head_or : (old new : Told) (x z : List ℕ) (all : List (List ℕ)) → old ≡ Some all → IsIn z all → IsHead old x new → (z ≡ x) ⊎ ((ys : List (List ℕ)) × (new ≡ Some ys) × IsIn z ys)
head_or None new x z all e among head = absurd cc
head_or (Some []) new x z all e among head = absurd head
head_or (Some (y ∷ ys)) new x z all e among head =
    let same : all ≡ y ∷ ys = cc in
    elim (subst (IsIn z) same among) [ inl is ↦ inl (sym is ∙ head.0) | inr there ↦ inr (ys, head.1, there) ]

-- of those that were flying, all but the one that came in its turn still are
pub flies_on : (old new : LinkState) (x z : List ℕ) → IsHead old.flying x new.flying → Flies old z → (z ≡ x) ⊎ Flies new z
flies_on old new x z head f = elim (head_or old.flying new.flying x z f.all f.told f.among head) [
  | inl same ↦ inl same
  | inr there ↦ inr (record { all = there.0; told = there.1; among = there.2 })
]

-- nothing is flying
pub none_flies : (link : LinkState) (x : List ℕ) → link.flying ≡ Some [] → Flies link x → ⊥
none_flies link x none f =
    let both : Some f.all ≡ Some [] = sym f.told ∙ none in
    let same : f.all ≡ [] = cc in
    subst (IsIn x) same f.among

-- what is told stays told
pub told_sent : (old new : Told) (bytes : List ℕ) (all : List (List ℕ)) → old ≡ Some all → new ≡ added old bytes → (ys : List (List ℕ)) × (new ≡ Some ys)
told_sent old new bytes all was is = (all ++ bytes ∷ [], is ∙ ap (λ (t : Told). added t bytes) was)

pub told_thinned : (old new : Told) (all : List (List ℕ)) → old ≡ Some all → AreThinned old new → (ys : List (List ℕ)) × (new ≡ Some ys)
told_thinned None new all was thinned = absurd cc
told_thinned (Some xs) None all was thinned = absurd thinned
told_thinned (Some xs) (Some ys) all was thinned = (ys, refl)

pub lowered_some : (a b : Option ℕ) (r : ℕ) → a ≡ Some r → IsLowered a b → (s : ℕ) × (b ≡ Some s) × (s ≤ r)
lowered_some None b r e lowered = absurd cc
lowered_some (Some x) None r e lowered = absurd lowered
lowered_some (Some x) (Some y) r e lowered = let same : x ≡ r = cc in (y, refl, omega (arith, same, lowered))

pub fallen_some : (a b : Option ℕ) (r : ℕ) → a ≡ Some r → HasFallen a b → (s : ℕ) × (b ≡ Some s) × (s < r)
fallen_some None b r e fallen = absurd cc
fallen_some (Some x) None r e fallen = absurd fallen
fallen_some (Some x) (Some y) r e fallen = let same : x ≡ r = cc in (y, refl, omega (arith, same, fallen))

pub where_some : (a : Option ℕ) (r : ℕ) (P : Type 0) → a ≡ Some r → WhereTold a P → P
where_some None r P e w = absurd cc
where_some (Some x) r P e w = w

-- what a datagram that came leaves: it came in its turn with no trouble, or so much less may be rough
pub data HowCame (old : LinkState) (x : List ℕ) (new : LinkState) (r : ℕ) : Type 0 where
  plain : (s : ℕ) → new.rough ≡ Some s → s ≤ r → IsInTurn old x new → new.troubles ≡ old.troubles → HowCame old x new r
  rough : (s : ℕ) → new.rough ≡ Some s → s < r → new.troubles ≤ old.troubles + 1 → HowCame old x new r

pub how_came : (old new : LinkState) (n : ℕ) (into : List ℕ) (r : ℕ) → old.rough ≡ Some r → IsNext old (Ok (Bytes n)) into new → HowCame old (take n into) new r
how_came old new n into r is next =
    let low = lowered_some old.rough new.rough r is next.rough in
    let one = where_some old.rough r (new.troubles ≤ old.troubles + 1) is next.one in
    elim (where_some old.rough r (KeepsPromise old (Ok (Bytes n)) into new) is next.promise) [
      | inl turn ↦ plain low.0 low.1 low.2 turn.0 turn.1
      | inr fallen ↦ (let f = fallen_some old.rough new.rough r is fallen in rough f.0 f.1 f.2 one)
    ]
