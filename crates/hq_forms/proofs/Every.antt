-- What each item of a list gives, found item after item.
use Rattle.std.proofs.Common.{◌≡◌, ℕ, suc, ◌+◌, ◌<◌, List, [], ◌∷◌, ◌++◌, length, get_or, drop, Option, Some, None, refl, ap, sym, ◌∙◌, append_assoc, add-one}
use Rattle.std.proofs.lemmas.List.{append-nil}
use Rattle.std.proofs.Math.Seq.{drop-cons, drop-length}
use Rattle.hq_sql.specs.Texts.{in_front}
use Rattle.hq_forms.specs.Forms.{◌>>=◌, every}

-- the found ones stand in front of the others
abbrev pub with_front : {B : Type 0} → List B → Option (List B) → Option (List B)
with_front front (Some ys) = Some (front ++ ys)
with_front front None = None

more_front : {B : Type 0} (front : List B) (y : B) (o : Option (List B)) → with_front front (in_front y o) ≡ with_front (front ++ y ∷ []) o
more_front front y None = refl
more_front front y (Some ys) = ap Some (sym (append_assoc front (y ∷ []) ys))

pub drop_next : {A : Type 0} (xs : List A) (i : ℕ) (x : A) → i < length xs → x ≡ get_or xs i x → drop i xs ≡ x ∷ drop (i + 1) xs
drop_next xs i x h e = rw add-one (drop-cons xs i x h ∙ ap (λ y. y ∷ drop (suc i) xs) (sym e))

pub goes_on : {A B : Type 0} (f : A → Option B) (front : List B) (xs : List A) (i : ℕ) (x : A) (y : B) (whole : Option (List B)) → i < length xs → x ≡ get_or xs i x → f x ≡ Some y
    → with_front front (every f (drop i xs)) ≡ whole → with_front (front ++ y ∷ []) (every f (drop (i + 1) xs)) ≡ whole
goes_on f front xs i x y whole h e g before =
    sym (more_front front y (every f (drop (i + 1) xs))) ∙ (ap (λ o. with_front front (o >>= (λ z. in_front z (every f (drop (i + 1) xs))))) (sym g) ∙ (ap (λ zs. with_front front (every f zs)) (sym (drop_next xs i x h e)) ∙ before))

pub stops : {A B : Type 0} (f : A → Option B) (front : List B) (xs : List A) (i : ℕ) (x : A) (whole : Option (List B)) → i < length xs → x ≡ get_or xs i x → f x ≡ None
    → with_front front (every f (drop i xs)) ≡ whole → whole ≡ None
stops f front xs i x whole h e g before =
    sym before ∙ (ap (λ zs. with_front front (every f zs)) (drop_next xs i x h e) ∙ ap (λ o. with_front front (o >>= (λ z. in_front z (every f (drop (i + 1) xs))))) g)

pub done : {A B : Type 0} (f : A → Option B) (front : List B) (xs : List A) (whole : Option (List B)) → with_front front (every f (drop (length xs) xs)) ≡ whole → whole ≡ Some front
done f front xs whole before = sym before ∙ (ap (λ zs. with_front front (every f zs)) (drop-length xs) ∙ ap Some (append-nil front))
