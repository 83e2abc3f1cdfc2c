-- One more element of a loop over a list.
use Rattle.std.proofs.Common.{◌≡◌, ℕ, zero, suc, ◌+◌, ◌<◌, Bool, true, false, ◌||◌, List, [], ◌∷◌, ◌++◌, map, take, length, get_or, Result, Ok, Err, refl, subst, sym, ◌∙◌, ap, arith}
use Rattle.std.specs.Prelude.{OnOk}
use Rattle.std.specs.List.{list_any}
use Rattle.std.proofs.lemmas.List.{map_more}
use Rattle.std.proofs.lemmas.List.Folds.{list_any_more}
use Rattle.hq_ops.specs.declared.end.Stop.{Stop}
use Rattle.hq_ops.specs.declared.end.Stop.TheVariants as stop
use Rattle.hq_ops.specs.Ends.{StopsAt}

pub map-step : {X Y : Type 0} (f : X → Y) (xs : List X) (i : ℕ) (x : X) (out outs : List Y) (y : Y)
    → i < length xs → x ≡ get_or xs i x → out ≡ map f (take i xs) → y ≡ f x → outs ≡ out ++ y ∷ [] → outs ≡ map f (take (i + 1) xs)
map-step f xs i x out outs y low at eo ey es = es ∙ (λ j. eo j ++ (ey ∙ ap f at) j ∷ []) ∙ sym (map_more f xs i x low)

pub any-step : {X : Type 0} (p : X → Bool) (xs : List X) (i : ℕ) (x : X)
    → i < length xs → x ≡ get_or xs i x → list_any p (take i xs) ≡ false → p x ≡ false → list_any p (take (i + 1) xs) ≡ false
any-step p xs i x low at none here = list_any_more p xs i x low ∙ (λ j. none j || (sym (ap p at) ∙ here) j)

or-true : (a b : Bool) → b ≡ true → (a || b) ≡ true
or-true true b h = refl
or-true false b h = h

-- one element passes
pub any-at : {X : Type 0} (p : X → Bool) (xs : List X) (i : ℕ) (x : X) → i < length xs → x ≡ get_or xs i x → p x ≡ true → list_any p xs ≡ true
any-at p [] i x low at h = absurd (omega (arith, low))
any-at p (y ∷ ys) zero x low at h = ap (λ b. b || list_any p ys) (sym (ap p at) ∙ h)
any-at p (y ∷ ys) (suc i) x low at h = or-true (p y) (list_any p ys) (any-at p ys i x (omega arith) at h)

-- a step that stops stops the whole
pub stops-on : (T : Type 0) {U : Type 0} (r : Result U Stop) (e f : Stop) (b c : Bool) → (b ≡ true → c ≡ true) → StopsAt {T = T} (Err e) b → r ≡ Err f → f ≡ e → StopsAt r c
stops-on T {U} r e f b c h at is same = subst (λ (s : Result U Stop). StopsAt s c) (sym (is ∙ ap Err same)) (by e at)
  where
    by : (e : Stop) → StopsAt {T = T} (Err e) b → StopsAt {T = U} (Err e) c
    by stop.Numeric at = h at
    by stop.NoMemory at = tt

-- what holds after a step that gave something and met no fault
pub on-ok : {T : Type 0} (r : Result T Stop) (b : Bool) {A B : Type 0} → StopsAt r b → OnOk r A → (b ≡ false → A → B) → OnOk r B
on-ok (Ok x) b s a f = f s a
on-ok (Err e) b s a f = tt

pub ok-on : {T E : Type 0} (r : Result T E) {A B : Type 0} → OnOk r A → (A → B) → OnOk r B
ok-on (Ok x) a f = f a
ok-on (Err e) a f = tt

pub none-long : {X : Type 0} (xs : List X) → length xs ≡ 0 → xs ≡ []
none-long [] e = refl
none-long (x ∷ xs) e = absurd (omega (arith, e))
