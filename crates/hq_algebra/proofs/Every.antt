-- What each item of a list gives, found item after item.
use Rattle.std.proofs.Common.{◌≡◌, ℕ, suc, ◌+◌, ◌<◌, List, [], ◌∷◌, ◌++◌, length, get_or, drop, Option, Some, None, refl, ap, sym, ◌∙◌, append_assoc, add-one}
use Rattle.std.proofs.lemmas.List.{append-nil}
use Rattle.std.proofs.Math.Seq.{drop-cons, drop-length}
use Rattle.hq_value.specs.declared.kind.Kind.{Kind}
use Rattle.hq_algebra.specs.declared.aggregate.Aggregate.{Aggregate}
use Rattle.hq_algebra.specs.Kinds.{◌>>=◌, every, layout, aggregate_kind, partial_columns}

-- the found ones stand in front of the others
abbrev pub with_front : {B : Type 0} → List B → Option (List B) → Option (List B)
with_front front (Some ys) = Some (front ++ ys)
with_front front None = None

more_front : {B : Type 0} (front : List B) (more : List B) (o : Option (List B)) → with_front front (o >>= (λ ys. Some (more ++ ys))) ≡ with_front (front ++ more) o
more_front front more None = refl
more_front front more (Some ys) = ap Some (sym (append_assoc front more ys))

drop_next : {A : Type 0} (xs : List A) (i : ℕ) (x : A) → i < length xs → x ≡ get_or xs i x → drop i xs ≡ x ∷ drop (i + 1) xs
drop_next xs i x h e = rw add-one (drop-cons xs i x h ∙ ap (λ y. y ∷ drop (suc i) xs) (sym e))

pub every-goes_on : {A B : Type 0} (f : A → Option B) (front : List B) (xs : List A) (i : ℕ) (x : A) (y : B) (whole : Option (List B)) → i < length xs → x ≡ get_or xs i x → f x ≡ Some y → with_front front (every f (drop i xs)) ≡ whole → with_front (front ++ y ∷ []) (every f (drop (i + 1) xs)) ≡ whole
every-goes_on f front xs i x y whole h e g before = sym (more_front front (y ∷ []) (every f (drop (i + 1) xs))) ∙ (ap (λ o. with_front front (o >>= (λ z. every f (drop (i + 1) xs) >>= (λ zs. Some (z ∷ zs))))) (sym g) ∙ (ap (λ zs. with_front front (every f zs)) (sym (drop_next xs i x h e)) ∙ before))

pub every-stops : {A B : Type 0} (f : A → Option B) (front : List B) (xs : List A) (i : ℕ) (x : A) (whole : Option (List B)) → i < length xs → x ≡ get_or xs i x → f x ≡ None → with_front front (every f (drop i xs)) ≡ whole → whole ≡ None
every-stops f front xs i x whole h e g before = sym before ∙ (ap (λ zs. with_front front (every f zs)) (drop_next xs i x h e) ∙ ap (λ o. with_front front (o >>= (λ z. every f (drop (i + 1) xs) >>= (λ zs. Some (z ∷ zs))))) g)

pub every-done : {A B : Type 0} (f : A → Option B) (front : List B) (xs : List A) (whole : Option (List B)) → with_front front (every f (drop (length xs) xs)) ≡ whole → whole ≡ Some front
every-done f front xs whole before = sym before ∙ (ap (λ zs. with_front front (every f zs)) (drop-length xs) ∙ ap Some (append-nil front))

pub layout-goes_on : (kinds front : List Kind) (xs : List Aggregate) (i : ℕ) (x : Aggregate) (k : Kind) (whole : Option (List Kind)) → i < length xs → x ≡ get_or xs i x → aggregate_kind kinds x ≡ Some k → with_front front (layout kinds (drop i xs)) ≡ whole → with_front (front ++ partial_columns x k) (layout kinds (drop (i + 1) xs)) ≡ whole
layout-goes_on kinds front xs i x k whole h e g before = sym (more_front front (partial_columns x k) (layout kinds (drop (i + 1) xs))) ∙ (ap (λ o. with_front front (o >>= (λ z. layout kinds (drop (i + 1) xs) >>= (λ zs. Some (partial_columns x z ++ zs))))) (sym g) ∙ (ap (λ zs. with_front front (layout kinds zs)) (sym (drop_next xs i x h e)) ∙ before))

pub layout-stops : (kinds front : List Kind) (xs : List Aggregate) (i : ℕ) (x : Aggregate) (whole : Option (List Kind)) → i < length xs → x ≡ get_or xs i x → aggregate_kind kinds x ≡ None → with_front front (layout kinds (drop i xs)) ≡ whole → whole ≡ None
layout-stops kinds front xs i x whole h e g before = sym before ∙ (ap (λ zs. with_front front (layout kinds zs)) (drop_next xs i x h e) ∙ ap (λ o. with_front front (o >>= (λ z. layout kinds (drop (i + 1) xs) >>= (λ zs. Some (partial_columns x z ++ zs))))) g)

pub layout-done : (kinds front : List Kind) (xs : List Aggregate) (whole : Option (List Kind)) → with_front front (layout kinds (drop (length xs) xs)) ≡ whole → whole ≡ Some front
layout-done kinds front xs whole before = sym before ∙ (ap (λ zs. with_front front (layout kinds zs)) (drop-length xs) ∙ ap Some (append-nil front))
