-- What is read is what was written, and what is written is read again: how this goes from parts to the whole.
--     Takes ok put get       whatever is read has its bytes in front, and is ok
--     Again get text x       x is read where its text stands in front
use Rattle.std.proofs.Common.{◌≡◌, ◌⊎◌, ℕ, zero, suc, ◌+◌, ◌^◌, ◌<◌, ◌≤◌, Bool, true, false, cond, nat_eq, List, [], ◌∷◌, ◌++◌, length, Option, Some, None, refl, sym, ap, subst, ◌∙◌, append_assoc, arith}
use Rattle.std.specs.Prelude.{flat_map}
use Rattle.std.specs.List.{AllByRecursion}
use Rattle.std.specs.Int.{Width, w16, to_be_bytes}
use Rattle.std.proofs.lemmas.Bool.{eqb-true}
use Rattle.hq_planwire.specs.Bytes.{short, list_bytes}
use Rattle.hq_planwire.specs.Ranges.{IsShort, Always, HaveRoom}
use Rattle.hq_planwire.specs.Reading.{Reader, ◌>>=◌, made_at, both_at, then_at, items_at, byte_at, number_at, list_at, coded_at}
use Rattle.hq_planwire.proofs.Numbers.{IsBytes, IsBytes-tail, bind_some, some_is, IsWide, wide16, number_taken, number_again}

-- x was taken from the front, and is ok
pub record Took {A : Type 0} (ok : A → Type 0) (put : A → List ℕ) (bytes : List ℕ) (x : A) (rest : List ℕ) : Type 0 where
  pub parts : bytes ≡ put x ++ rest
  pub rest_fits : IsBytes rest
  pub fits : ok x

abbrev pub Takes : {A : Type 0} → (A → Type 0) → (A → List ℕ) → Reader A → Type 0
Takes {A} ok put get = (bytes : List ℕ) (x : A × List ℕ) → IsBytes bytes → get bytes ≡ Some x → Took ok put bytes x.0 x.1

abbrev pub Again : {A : Type 0} → Reader A → List ℕ → A → Type 0
Again get text x = (rest : List ℕ) → get (text ++ rest) ≡ Some (x, rest)

-- ---- what is read was written

pub made_takes : {A B : Type 0} {ok_a : A → Type 0} {put_a : A → List ℕ} {get : Reader A} (ok : B → Type 0) (put : B → List ℕ) (front : List ℕ) (f : A → B)
    → Takes ok_a put_a get → ((a : A) → ok_a a → ok (f a)) → ((a : A) → put (f a) ≡ front ++ put_a a)
    → (bytes : List ℕ) (x : B × List ℕ) → IsBytes bytes → made_at f get bytes ≡ Some x → Took ok put (front ++ bytes) x.0 x.1
made_takes {A} {B} {ok_a} {put_a} {get} ok put front f takes is_ok spelled bytes x fits e =
    let p = bind_some (get bytes) (λ a. Some (f a.0, a.1)) x e in
    let a = p.0.0 in
    let rest = p.0.1 in
    let t = takes bytes p.0 fits p.1 in
    subst (λ (y : B × List ℕ). Took ok put (front ++ bytes) y.0 y.1) (some_is (f a, rest) x p.2) (record {
      parts = ap (λ (l : List ℕ). front ++ l) t.parts ∙ sym (append_assoc front (put_a a) rest) ∙ ap (λ (l : List ℕ). l ++ rest) (sym (spelled a));
      rest_fits = t.rest_fits;
      fits = is_ok a t.fits;
    })

pub both_takes : {A B C : Type 0} {ok_a : A → Type 0} {put_a : A → List ℕ} {get_a : Reader A} {ok_b : B → Type 0} {put_b : B → List ℕ} {get_b : Reader B}
    (ok : C → Type 0) (put : C → List ℕ) (front : List ℕ) (f : A → B → C)
    → Takes ok_a put_a get_a → Takes ok_b put_b get_b → ((a : A) (b : B) → ok_a a → ok_b b → ok (f a b)) → ((a : A) (b : B) → put (f a b) ≡ front ++ (put_a a ++ put_b b))
    → (bytes : List ℕ) (x : C × List ℕ) → IsBytes bytes → both_at f get_a get_b bytes ≡ Some x → Took ok put (front ++ bytes) x.0 x.1
both_takes {A} {B} {C} {ok_a} {put_a} {get_a} {ok_b} {put_b} {get_b} ok put front f takes_a takes_b is_ok spelled bytes x fits e =
    let p = bind_some (get_a bytes) (λ a. get_b a.1 >>= λ b. Some (f a.0 b.0, b.1)) x e in
    let a = p.0.0 in
    let t = takes_a bytes p.0 fits p.1 in
    let q = bind_some (get_b p.0.1) (λ b. Some (f a b.0, b.1)) x p.2 in
    let b = q.0.0 in
    let rest = q.0.1 in
    let u = takes_b p.0.1 q.0 t.rest_fits q.1 in
    let inside : bytes ≡ (put_a a ++ put_b b) ++ rest = t.parts ∙ ap (λ (l : List ℕ). put_a a ++ l) u.parts ∙ sym (append_assoc (put_a a) (put_b b) rest) in
    subst (λ (y : C × List ℕ). Took ok put (front ++ bytes) y.0 y.1) (some_is (f a b, rest) x q.2) (record {
      parts = ap (λ (l : List ℕ). front ++ l) inside ∙ sym (append_assoc front (put_a a ++ put_b b) rest) ∙ ap (λ (l : List ℕ). l ++ rest) (sym (spelled a b));
      rest_fits = u.rest_fits;
      fits = is_ok a b t.fits u.fits;
    })

pub then_takes : {A B : Type 0} {ok_a : A → Type 0} {put_a : A → List ℕ} {get_a : Reader A} {ok_b : B → Type 0} {put_b : B → List ℕ} {get_b : Reader B}
    → Takes ok_a put_a get_a → Takes ok_b put_b get_b → Takes (λ (x : A × B). ok_a x.0 × ok_b x.1) (λ (x : A × B). put_a x.0 ++ put_b x.1) (then_at get_a get_b)
then_takes {A} {B} {ok_a} {put_a} {get_a} {ok_b} {put_b} {get_b} takes_a takes_b =
    both_takes (λ (x : A × B). ok_a x.0 × ok_b x.1) (λ (x : A × B). put_a x.0 ++ put_b x.1) [] (λ a b. (a, b)) takes_a takes_b (λ a b h k. (h, k)) (λ a b. refl)

pub number_takes : (w : Width) (limit : ℕ) → IsWide w limit → Takes (λ n. n < limit) (to_be_bytes w) (number_at w)
number_takes w limit wide bytes x fits e =
    let t = number_taken w limit wide bytes x.0 x.1 fits e in
    record { parts = t.parts; rest_fits = t.rest_fits; fits = t.below }

pub byte_takes : Takes (λ n. n < 256) (λ n. n ∷ []) byte_at
unfolding byte_at
byte_takes [] x fits e = absurd cc
byte_takes (b ∷ rest) x fits e =
    subst (λ (y : ℕ × List ℕ). Took (λ n. n < 256) (λ n. n ∷ []) (b ∷ rest) y.0 y.1) (some_is (b, rest) x e) (record { parts = refl; rest_fits = IsBytes-tail b rest fits; fits = fits 0 })

pub items_take : {A : Type 0} {ok : A → Type 0} {put : A → List ℕ} {get : Reader A} → Takes ok put get → (count : ℕ) (bytes : List ℕ) (x : List A × List ℕ) → IsBytes bytes → items_at get count bytes ≡ Some x
    → (length x.0 ≡ count) × Took (AllByRecursion ok) (flat_map put) bytes x.0 x.1
unfolding items_at
items_take {A} {ok} {put} {get} takes zero bytes x fits e =
    subst (λ (y : List A × List ℕ). (length y.0 ≡ 0) × Took (AllByRecursion ok) (flat_map put) bytes y.0 y.1) (some_is ([], bytes) x e) (refl, record { parts = refl; rest_fits = fits; fits = tt })
items_take {A} {ok} {put} {get} takes (suc count) bytes x fits e =
    let p = bind_some (get bytes) (λ a. items_at get count a.1 >>= λ xs. Some (a.0 ∷ xs.0, xs.1)) x e in
    let t = takes bytes p.0 fits p.1 in
    let q = bind_some (items_at get count p.0.1) (λ xs. Some (p.0.0 ∷ xs.0, xs.1)) x p.2 in
    let u = items_take takes count p.0.1 q.0 t.rest_fits q.1 in
    let inside : bytes ≡ (put p.0.0 ++ flat_map put q.0.0) ++ q.0.1 = t.parts ∙ ap (λ (l : List ℕ). put p.0.0 ++ l) u.1.parts ∙ sym (append_assoc (put p.0.0) (flat_map put q.0.0) q.0.1) in
    subst (λ (y : List A × List ℕ). (length y.0 ≡ suc count) × Took (AllByRecursion ok) (flat_map put) bytes y.0 y.1) (some_is (p.0.0 ∷ q.0.0, q.0.1) x q.2)
    (ap suc u.0, record { parts = inside; rest_fits = u.1.rest_fits; fits = (t.fits, u.1.fits) })

pub list_takes : {A : Type 0} {ok : A → Type 0} {put : A → List ℕ} {get : Reader A} → Takes ok put get → Takes (HaveRoom ok) (list_bytes put) (list_at get)
list_takes {A} {ok} {put} {get} takes bytes x fits e =
    let p = bind_some (number_at w16 bytes) (λ n. items_at get n.0 n.1) x e in
    let n = number_taken w16 (2 ^ 16) wide16 bytes p.0.0 p.0.1 fits p.1 in
    let t = items_take takes p.0.0 p.0.1 x n.rest_fits p.2 in
    let inside : bytes ≡ (short p.0.0 ++ flat_map put x.0) ++ x.1 = n.parts ∙ ap (λ (l : List ℕ). short p.0.0 ++ l) t.1.parts ∙ sym (append_assoc (short p.0.0) (flat_map put x.0) x.1) in
    record {
      parts = inside ∙ ap (λ (k : ℕ). (short k ++ flat_map put x.0) ++ x.1) (sym t.0);
      rest_fits = t.1.rest_fits;
      fits = t.1.fits;
    }

-- what a byte stands for has that byte
pub coded_takes : {A : Type 0} (meaning : ℕ → Option A) (put : A → List ℕ) → ((b : ℕ) (x : A) → meaning b ≡ Some x → put x ≡ b ∷ []) → Takes Always put (coded_at meaning)
coded_takes {A} meaning put means bytes x fits e =
    let p = bind_some (byte_at bytes) (λ b. meaning b.0 >>= λ x. Some (x, b.1)) x e in
    let t = byte_takes bytes p.0 fits p.1 in
    let q = bind_some (meaning p.0.0) (λ y. Some (y, p.0.1)) x p.2 in
    subst (λ (y : A × List ℕ). Took Always put bytes y.0 y.1) (some_is (q.0, p.0.1) x q.2)
    (record { parts = t.parts ∙ ap (λ (l : List ℕ). l ++ p.0.1) (sym (means p.0.0 q.0 q.1)); rest_fits = t.rest_fits; fits = tt })

-- one more byte that stands for something
pub one_code : {A : Type 0} (put : A → List ℕ) (b k : ℕ) (y x : A) (others : Option A) → put y ≡ k ∷ [] → (others ≡ Some x → put x ≡ b ∷ []) → cond (nat_eq b k) (Some y) others ≡ Some x → put x ≡ b ∷ []
one_code {A} put b k y x others is later h = by (nat_eq b k) refl h
  where
    by : (t : Bool) → nat_eq b k ≡ t → cond t (Some y) others ≡ Some x → put x ≡ b ∷ []
    by true e h = ap put (sym (some_is y x h)) ∙ is ∙ ap (λ (n : ℕ). n ∷ []) (sym (eqb-true b k e))
    by false e h = later h

-- one more variant that a byte tells
pub one_tag : {A : Type 0} (ok : A → Type 0) (put : A → List ℕ) (bytes : List ℕ) (x : A × List ℕ) (b k : ℕ) (first others : Option (A × List ℕ))
    → (first ≡ Some x → Took ok put (k ∷ bytes) x.0 x.1) → (others ≡ Some x → Took ok put (b ∷ bytes) x.0 x.1) → cond (nat_eq b k) first others ≡ Some x → Took ok put (b ∷ bytes) x.0 x.1
one_tag {A} ok put bytes x b k first others now later h = by (nat_eq b k) refl h
  where
    by : (t : Bool) → nat_eq b k ≡ t → cond t first others ≡ Some x → Took ok put (b ∷ bytes) x.0 x.1
    by true e h = subst (λ (n : ℕ). Took ok put (n ∷ bytes) x.0 x.1) (sym (eqb-true b k e)) (now h)
    by false e h = later h

-- a variant without fields
pub bare_takes : {A : Type 0} (ok : A → Type 0) (put : A → List ℕ) (front : List ℕ) (y : A) → ok y → put y ≡ front → (bytes : List ℕ) (x : A × List ℕ) → IsBytes bytes → Some (y, bytes) ≡ Some x → Took ok put (front ++ bytes) x.0 x.1
bare_takes {A} ok put front y is_ok spelled bytes x fits e =
    subst (λ (z : A × List ℕ). Took ok put (front ++ bytes) z.0 z.1) (some_is (y, bytes) x e) (record { parts = ap (λ (l : List ℕ). l ++ bytes) (sym spelled); rest_fits = fits; fits = is_ok })

-- the variant that a byte tells, where each variant takes its bytes behind that byte
pub tag_takes : {A : Type 0} (ok : A → Type 0) (put : A → List ℕ) (of : ℕ → Reader A)
    → ((b : ℕ) (bytes : List ℕ) (x : A × List ℕ) → IsBytes bytes → of b bytes ≡ Some x → Took ok put (b ∷ bytes) x.0 x.1)
    → (bytes : List ℕ) (x : A × List ℕ) → IsBytes bytes → (byte_at bytes >>= λ b. of b.0 b.1) ≡ Some x → Took ok put bytes x.0 x.1
tag_takes {A} ok put of takes bytes x fits e =
    let p = bind_some (byte_at bytes) (λ b. of b.0 b.1) x e in
    let t = byte_takes bytes p.0 fits p.1 in
    subst (λ (l : List ℕ). Took ok put l x.0 x.1) (sym t.parts) (takes p.0.0 p.0.1 x t.rest_fits p.2)

-- ---- what is written is read again

pub made_again : {A B : Type 0} (f : A → B) (get : Reader A) (text : List ℕ) (a : A) → Again get text a → Again (made_at f get) text (f a)
made_again {A} {B} f get text a h rest = ap (λ (o : Option (A × List ℕ)). o >>= λ a. Some (f a.0, a.1)) (h rest)

pub both_again : {A B C : Type 0} (f : A → B → C) (get_a : Reader A) (get_b : Reader B) (text_a text_b : List ℕ) (a : A) (b : B) → Again get_a text_a a → Again get_b text_b b → Again (both_at f get_a get_b) (text_a ++ text_b) (f a b)
both_again {A} {B} {C} f get_a get_b text_a text_b a b h k rest =
    ap (both_at f get_a get_b) (append_assoc text_a text_b rest)
    ∙ ap (λ (o : Option (A × List ℕ)). o >>= λ a. get_b a.1 >>= λ b. Some (f a.0 b.0, b.1)) (h (text_b ++ rest))
    ∙ ap (λ (o : Option (B × List ℕ)). o >>= λ b. Some (f a b.0, b.1)) (k rest)

pub items_again : {A : Type 0} (ok : A → Type 0) (put : A → List ℕ) (get : Reader A) → ((a : A) → ok a → Again get (put a) a) → (xs : List A) → AllByRecursion ok xs → Again (items_at get (length xs)) (flat_map put xs) xs
unfolding items_at
items_again ok put get again [] all rest = refl
items_again {A} ok put get again (x ∷ xs) all rest =
    ap (items_at get (suc (length xs))) (append_assoc (put x) (flat_map put xs) rest)
    ∙ ap (λ (o : Option (A × List ℕ)). o >>= λ a. items_at get (length xs) a.1 >>= λ xs. Some (a.0 ∷ xs.0, xs.1)) (again x all.0 (flat_map put xs ++ rest))
    ∙ ap (λ (o : Option (List A × List ℕ)). o >>= λ xs. Some (x ∷ xs.0, xs.1)) (items_again ok put get again xs all.1 rest)

pub list_again : {A : Type 0} (ok : A → Type 0) (put : A → List ℕ) (get : Reader A) → ((a : A) → ok a → Again get (put a) a) → (xs : List A) → IsShort (length xs) → HaveRoom ok xs → Again (list_at get) (list_bytes put xs) xs
list_again {A} ok put get again xs few room rest =
    ap (list_at get) (append_assoc (short (length xs)) (flat_map put xs) rest)
    ∙ ap (λ (o : Option (ℕ × List ℕ)). o >>= λ n. items_at get n.0 n.1) (number_again w16 (2 ^ 16) wide16 (length xs) (flat_map put xs ++ rest) few)
    ∙ items_again ok put get again xs room rest
