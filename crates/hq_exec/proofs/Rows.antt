-- Facts of each row of two lists.
use Rattle.std.proofs.Common.{◌≡◌, ℕ, zero, suc, ◌<◌, ◌≤◌, List, [], ◌∷◌, ◌++◌, length, get_or, take, drop, Ok, Err, Result, refl, sym, ap, subst, arith}
use Rattle.std.specs.Prelude.{IfOk, All}
use Rattle.std.specs.List.{AllByRecursion, remove}
use Rattle.hq_value.specs.Causes.{Rose}
use Rattle.std.proofs.lemmas.List.Elements.{All-head, All-tail}

pub both-parts : {A : Type 0} (P : A → Type 0) (xs ys : List A) → AllByRecursion P (xs ++ ys) → AllByRecursion P xs × AllByRecursion P ys
both-parts P [] ys h = (tt, h)
both-parts P (x ∷ xs) ys h = let more : AllByRecursion P xs × AllByRecursion P ys = both-parts P xs ys h.1 in ((h.0, more.0), more.1)

pub joined-parts : {A : Type 0} (P : A → Type 0) (xs ys : List A) → AllByRecursion P xs → AllByRecursion P ys → AllByRecursion P (xs ++ ys)
joined-parts P [] ys g h = h
joined-parts P (x ∷ xs) ys g h = (g.0, joined-parts P xs ys g.1 h)

-- a list by its first member and the others
pub first-and-others : {A : Type 0} (xs : List A) (x : A) → 0 < length xs → x ≡ get_or xs 0 x → xs ≡ x ∷ remove xs 0
first-and-others [] x low is = absurd (omega arith)
first-and-others (y ∷ ys) x low is = ap (λ z. z ∷ ys) (sym is)

-- a fact of what is given from another
pub ok-so : {T E : Type 0} (r : Result T E) (P Q : T → Type 0) → ((x : T) → P x → Q x) → IfOk r P → IfOk r Q
ok-so (Ok x) P Q f h = f x h
ok-so (Err e) P Q f h = tt

-- what holds of the member at each place holds of each member
pub each-of : {A : Type 0} (P : A → Type 0) (xs : List A) → All P xs → AllByRecursion P xs
each-of P [] all = tt
each-of P (x ∷ xs) all = (All-head P x xs all, each-of P xs (All-tail P x xs all))

-- a count that rose later rose
pub rose-later : (a b c : ℕ) → a ≤ b → Rose b c → Rose a c
rose-later a b c low rose = omega arith
