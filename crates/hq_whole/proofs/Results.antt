-- What is known of an answer that is Ok.
use Rattle.std.proofs.Common.{◌≡◌, ◌∙◌, Result, Ok, Err}
use Rattle.std.specs.Result.{IfOk}

-- what is given is equal to what is asked
pub if_ok-then : {A E : Type 0} (r : Result A E) (x y : A) → x ≡ y → IfOk r (λ a. a ≡ x) → IfOk r (λ a. a ≡ y)
if_ok-then (Ok a) x y e h = h ∙ e
if_ok-then (Err b) x y e h = tt

-- what is given of an answer gives more of it
pub ok_then : {A E : Type 0} (r : Result A E) (P Q : A → Type 0) → IfOk r P → ((a : A) → P a → Q a) → IfOk r Q
ok_then (Ok a) P Q p f = f a p
ok_then (Err e) P Q p f = tt

pub both_ok : {A E : Type 0} (r : Result A E) (P Q S : A → Type 0) → IfOk r P → IfOk r Q → ((a : A) → P a → Q a → S a) → IfOk r S
both_ok (Ok a) P Q S p q f = f a p q
both_ok (Err e) P Q S p q f = tt
