-- What an operator and those below it receive.
use Rattle.std.proofs.Common.{◌≡◌, ℕ, Bool, ◌||◌, List, [], ◌∷◌, ◌++◌, Option, flat_map, refl, sym, ap, ◌∙◌}
use Rattle.std.specs.List.{list_any}
use Rattle.hq_value.specs.declared.kind.Kind.{Kind}
use Rattle.hq_algebra.specs.declared.expr.Expr.{Expr}
use Rattle.hq_algebra.specs.declared.aggregate.Aggregate.{Aggregate}
use Rattle.hq_algebra.specs.declared.op.SortKey.{SortKey}
use Rattle.hq_algebra.specs.declared.op.Op.{Op}
use Rattle.hq_algebra.specs.declared.op.Op.TheVariants as op
use Rattle.hq_algebra.specs.declared.op.Op.TheBlock.{hidden-the_row-Op-0}
use denote.Hole.Carrier.{hidden}
use Rattle.hq_algebra.specs.Plans.{operators, received}
use Rattle.hq_meaning.specs.Slices.{receives}
use Rattle.hq_dispatch.proofs.Meaning.{or-false, or-or}
use Rattle.hq_dispatch.proofs.Ranges.{flat-append}

-- an operator that receives nothing itself, over another
abbrev pub StandsOver : Op → Op → Op → Type 0
StandsOver o first input = (operators o ≡ first ∷ operators input) × (received first ≡ [])

pub over-Filter : (cond : Expr) (input : Op) → StandsOver (op.Filter cond input) (op.Filter cond input) input
unfolding hidden-the_row-Op-0 hidden
over-Filter cond input = (refl, refl)

pub over-Project : (items : List Expr) (input : Op) → StandsOver (op.Project items input) (op.Project items input) input
unfolding hidden-the_row-Op-0 hidden
over-Project items input = (refl, refl)

pub over-Partial : (keys : List ℕ) (aggregates : List Aggregate) (input : Op) → StandsOver (op.Partial keys aggregates input) (op.Partial keys aggregates input) input
unfolding hidden-the_row-Op-0 hidden
over-Partial keys aggregates input = (refl, refl)

pub over-Final : (keys : ℕ) (aggregates : List Aggregate) (input : Op) → StandsOver (op.Final keys aggregates input) (op.Final keys aggregates input) input
unfolding hidden-the_row-Op-0 hidden
over-Final keys aggregates input = (refl, refl)

pub over-Distinct : (input : Op) → StandsOver (op.Distinct input) (op.Distinct input) input
unfolding hidden-the_row-Op-0 hidden
over-Distinct input = (refl, refl)

pub over-Sort : (order : List SortKey) (limit : Option ℕ) (input : Op) → StandsOver (op.Sort order limit input) (op.Sort order limit input) input
unfolding hidden-the_row-Op-0 hidden
over-Sort order limit input = (refl, refl)

pub over-Join : (lk rk : List ℕ) (left right : Op) → (operators (op.Join lk rk left right) ≡ op.Join lk rk left right ∷ (operators left ++ operators right)) × (received (op.Join lk rk left right) ≡ [])
unfolding hidden-the_row-Op-0 hidden
over-Join lk rk left right = (refl, refl)

any-append : (p : ℕ → Bool) (xs ys : List ℕ) → list_any p (xs ++ ys) ≡ (list_any p xs || list_any p ys)
any-append p [] ys = refl
any-append p (x ∷ xs) ys = ap (λ (b : Bool). p x || b) (any-append p xs ys) ∙ or-or (p x) (list_any p xs) (list_any p ys)

-- what holds below it holds of it
pub any-over : (p : ℕ → Bool) (o first input got : Op) (b : Bool) → o ≡ first → StandsOver first first input → got ≡ input → b ≡ list_any p (receives got) → b ≡ list_any p (receives o)
any-over p o first input got b is over same e =
    e ∙ ap (λ (x : Op). list_any p (receives x)) same
    ∙ ap (λ (l : List ℕ). list_any p (l ++ receives input)) (sym over.1)
    ∙ ap (λ (l : List Op). list_any p (flat_map received l)) (sym over.0)
    ∙ ap (λ (x : Op). list_any p (receives x)) (sym is)

pub any-Join : (p : ℕ → Bool) (o : Op) (lk rk : List ℕ) (left right gl gr : Op) (a b r : Bool) → o ≡ op.Join lk rk left right → gl ≡ left → gr ≡ right → a ≡ list_any p (receives gl) → b ≡ list_any p (receives gr) → r ≡ (a || b) → r ≡ list_any p (receives o)
any-Join p o lk rk left right gl gr a b r is same other e f g =
    let over = over-Join lk rk left right in
    g ∙ (λ i. (e ∙ ap (λ (x : Op). list_any p (receives x)) same) i || (f ∙ ap (λ (x : Op). list_any p (receives x)) other) i)
    ∙ sym (any-append p (receives left) (receives right))
    ∙ ap (list_any p) (sym (flat-append received (operators left) (operators right)))
    ∙ ap (λ (l : List ℕ). list_any p (l ++ flat_map received (operators left ++ operators right))) (sym over.1)
    ∙ ap (λ (l : List Op). list_any p (flat_map received l)) (sym over.0)
    ∙ ap (λ (x : Op). list_any p (receives x)) (sym is)

pub any-Receive : (p : ℕ → Bool) (o : Op) (slice : ℕ) (kinds : List Kind) (b : Bool) → o ≡ op.Receive slice kinds → b ≡ p slice → b ≡ list_any p (receives o)
any-Receive p o slice kinds b is e = e ∙ sym (or-false (p slice)) ∙ ap (λ (x : Op). list_any p (receives x)) (sym is)
