-- Tests over what references point to, and over the operators of all slices.
use Rattle.std.proofs.Common.{◌≡◌, ℕ, suc, ◌+◌, ◌-◌, ◌^◌, Bool, true, false, ◌&&◌, ◌||◌, ◌==◌, List, [], ◌∷◌, ◌++◌, length, map, refl, sym, ap, ◌∙◌, append_assoc, append-nil, arith, min}
use Rattle.std.specs.Prelude.{flat_map, count_by}
use Rattle.std.specs.List.{list_all, list_any}
use Rattle.std.specs.Borrow.{Bor}
use Rattle.std.proofs.lemmas.List.{map-append}
use Rattle.hq_algebra.specs.declared.op.Op.{Op}
use Rattle.hq_algebra.specs.declared.plan.Slice.{Slice}
use Rattle.hq_algebra.specs.Plans.{operators, all_operators, receives_a_gather, ends_with_gather}
use Rattle.hq_planwire.specs.declared.slice_part.Part.{Part}
use Rattle.hq_planwire.specs.Rules.{the_ops, slices_of}

pub all-map : {X Y : Type 0} (p : X → Bool) (h : Y → X) (ys : List Y) → list_all p (map h ys) ≡ list_all (λ y. p (h y)) ys
all-map p h [] = refl
all-map p h (y ∷ ys) = ap (λ (b : Bool). p (h y) && b) (all-map p h ys)

pub any-map : {X Y : Type 0} (p : X → Bool) (h : Y → X) (ys : List Y) → list_any p (map h ys) ≡ list_any (λ y. p (h y)) ys
any-map p h [] = refl
any-map p h (y ∷ ys) = ap (λ (b : Bool). p (h y) || b) (any-map p h ys)

and_assoc : (a b c : Bool) → (a && (b && c)) ≡ ((a && b) && c)
and_assoc true b c = refl
and_assoc false b c = refl

or_assoc : (a b c : Bool) → (a || (b || c)) ≡ ((a || b) || c)
or_assoc true b c = refl
or_assoc false b c = refl

all-append : {X : Type 0} (p : X → Bool) (xs ys : List X) → list_all p (xs ++ ys) ≡ (list_all p xs && list_all p ys)
all-append p [] ys = refl
all-append p (x ∷ xs) ys = ap (λ (b : Bool). p x && b) (all-append p xs ys) ∙ and_assoc (p x) (list_all p xs) (list_all p ys)

any-append : {X : Type 0} (p : X → Bool) (xs ys : List X) → list_any p (xs ++ ys) ≡ (list_any p xs || list_any p ys)
any-append p [] ys = refl
any-append p (x ∷ xs) ys = ap (λ (b : Bool). p x || b) (any-append p xs ys) ∙ or_assoc (p x) (list_any p xs) (list_any p ys)

pub all-operators : (p : Op → Bool) (parts : List Part) → list_all p (all_operators (slices_of parts)) ≡ list_all (λ (x : Part). list_all p (operators x.slice.now.root)) parts
all-operators p [] = refl
all-operators p (x ∷ parts) =
    all-append p (operators x.slice.now.root) (all_operators (slices_of parts)) ∙ ap (λ (b : Bool). list_all p (operators x.slice.now.root) && b) (all-operators p parts)

pub any-operators : (p : Op → Bool) (parts : List Part) → list_any p (all_operators (slices_of parts)) ≡ list_any (λ (x : Part). list_any p (operators x.slice.now.root)) parts
any-operators p [] = refl
any-operators p (x ∷ parts) =
    any-append p (operators x.slice.now.root) (all_operators (slices_of parts)) ∙ ap (λ (b : Bool). list_any p (operators x.slice.now.root) || b) (any-operators p parts)

-- an operator, and then those below it
pub pushed : (w0 w1 w2 : List (Bor Op)) (r : Bor Op) (below : List Op) → w1 ≡ w0 ++ r ∷ [] → operators r.now ≡ r.now ∷ below → the_ops w2 ≡ the_ops w1 ++ below → the_ops w2 ≡ the_ops w0 ++ operators r.now
pushed w0 w1 w2 r below first is h =
    h ∙ ap (λ (l : List (Bor Op)). the_ops l ++ below) first ∙ ap (λ (l : List Op). l ++ below) (map-append (λ (x : Bor Op). x.now) w0 (r ∷ [])) ∙ append_assoc (the_ops w0) (r.now ∷ []) below
    ∙ ap (λ (l : List Op). the_ops w0 ++ l) (sym is)

-- the last of slices receives a gather
pub ends-last : (before slices : List Slice) (last : Slice) → ends_with_gather before (slices ++ last ∷ []) ≡ list_any (receives_a_gather (before ++ slices)) (operators last.root)
ends-last before [] last = ap (λ (l : List Slice). list_any (receives_a_gather l) (operators last.root)) (sym (append-nil before))
ends-last before (s ∷ []) last = refl
ends-last before (s ∷ t ∷ slices) last =
    ends-last (before ++ s ∷ []) (t ∷ slices) last ∙ ap (λ (l : List Slice). list_any (receives_a_gather l) (operators last.root)) (append_assoc before (s ∷ []) (t ∷ slices))
