-- The guards of a source as one condition.
use Rattle.std.proofs.Common.{◌≡◌, ℕ, zero, suc, ◌+◌, ◌-◌, ◌<◌, ◌≤◌, Bool, true, false, cond, ◌&&◌, not, List, [], ◌∷◌, ◌++◌, map, filter, flat_map, length, drop, get_or, Option, Some, None, refl, sym, ◌∙◌, ap, arith, drop-cons}
use Rattle.std.proofs.lemmas.List.Elements.{filter-append}
use Rattle.hq_value.specs.declared.kind.Kind.{Kind}
use Rattle.hq_algebra.specs.declared.expr.Expr.{Expr}
use Rattle.hq_algebra.specs.declared.expr.Expr.TheVariants as e
use Rattle.hq_algebra.specs.declared.expr.Expr.TheBlock.{hidden-the_row-Expr-0}
use Rattle.hq_algebra.specs.declared.op.Op.{Op}
use Rattle.hq_algebra.specs.declared.op.Op.TheVariants as op
use denote.Hole.Carrier.{hidden}
use Rattle.hq_laws.specs.Guards.{is_guard, guards_of}
use Rattle.hq_laws.specs.Sources.{all_of, source_op}
use Rattle.hq_laws.specs.Tests.{members}
use Rattle.hq_laws.specs.Turned.{renamed}
use Rattle.hq_value.specs.declared.operator.ArithKind.{ArithKind}
use Rattle.hq_value.specs.declared.operator.CompareKind.{CompareKind}
use Rattle.hq_whole.specs.Conjoined.{with_cond, conjoined, lowered_guards, under_filter}

pub conjoined-append : (xs ys : List Expr) (last : Option Expr) → conjoined (xs ++ ys) last ≡ conjoined xs (conjoined ys last)
conjoined-append [] ys last = refl
conjoined-append (x ∷ xs) ys last = ap (with_cond x) (conjoined-append xs ys last)

conjoined-all : (x : Expr) (xs : List Expr) → conjoined (x ∷ xs) None ≡ Some (all_of x xs)
conjoined-all x [] = refl
conjoined-all x (y ∷ ys) = ap (with_cond x) (conjoined-all y ys)

pub source-under : (kinds : ℕ → List Kind) (t : ℕ) (tests : List Expr) → under_filter (conjoined tests None) (op.Scan t (kinds t)) ≡ source_op kinds t tests
source-under kinds t [] = refl
source-under kinds t (x ∷ xs) = ap (λ c. under_filter c (op.Scan t (kinds t))) (conjoined-all x xs)

map-append : (g : Expr → Expr) (xs ys : List Expr) → map g (xs ++ ys) ≡ map g xs ++ map g ys
map-append g [] ys = refl
map-append g (x ∷ xs) ys = ap (λ l. g x ∷ l) (map-append g xs ys)

pub lowered-append : (kinds : List Kind) (w : ℕ) (xs ys : List Expr) → lowered_guards kinds w (xs ++ ys) ≡ lowered_guards kinds w xs ++ lowered_guards kinds w ys
lowered-append kinds w xs ys = ap (map (renamed (λ i. i - w))) (filter-append (is_guard kinds w) xs ys) ∙ map-append (renamed (λ i. i - w)) (filter (is_guard kinds w) xs) (filter (is_guard kinds w) ys)

-- the members of a conjunction, before the others
pub and-members : (kinds : List Kind) (w : ℕ) (x y : Expr) (others : Option Expr) → conjoined (lowered_guards kinds w (members (e.And x y))) others ≡ conjoined (lowered_guards kinds w (members x)) (conjoined (lowered_guards kinds w (members y)) others)
unfolding hidden-the_row-Expr-0 hidden
and-members kinds w x y others = ap (λ es. conjoined es others) (lowered-append kinds w (members x) (members y)) ∙ conjoined-append (lowered_guards kinds w (members x)) (lowered_guards kinds w (members y)) others

-- one condition more
pub one-more : (kinds : List Kind) (w : ℕ) (conds : List Expr) (c : Expr) (rest : List Expr) → conds ≡ c ∷ rest → conjoined (lowered_guards kinds w (members c)) (conjoined (guards_of kinds w rest) None) ≡ conjoined (guards_of kinds w conds) None
one-more kinds w conds c rest is =
    sym (conjoined-append (lowered_guards kinds w (members c)) (guards_of kinds w rest) None)
    ∙ ap (λ es. conjoined es None) (sym (lowered-append kinds w (members c) (flat_map members rest)))
    ∙ ap (λ cs. conjoined (guards_of kinds w cs) None) (sym is)

-- what is no conjunction is its one member
pub alone-Arith : (k : ArithKind) (x y : Expr) → members (e.Arith k x y) ≡ e.Arith k x y ∷ []
unfolding hidden-the_row-Expr-0 hidden
alone-Arith k x y = refl

pub alone-Compare : (k : CompareKind) (x y : Expr) → members (e.Compare k x y) ≡ e.Compare k x y ∷ []
unfolding hidden-the_row-Expr-0 hidden
alone-Compare k x y = refl

pub alone-Or : (x y : Expr) → members (e.Or x y) ≡ e.Or x y ∷ []
unfolding hidden-the_row-Expr-0 hidden
alone-Or x y = refl

pub alone-Not : (x : Expr) → members (e.Not x) ≡ e.Not x ∷ []
unfolding hidden-the_row-Expr-0 hidden
alone-Not x = refl

pub alone-IsNull : (x : Expr) → members (e.IsNull x) ≡ e.IsNull x ∷ []
unfolding hidden-the_row-Expr-0 hidden
alone-IsNull x = refl

drop-item : (es : List Expr) (i : ℕ) (x : Expr) → i < length es → x ≡ get_or es i x → drop i es ≡ x ∷ drop (suc i) es
drop-item [] i x l h = absurd (omega (arith, l))
drop-item (y ∷ es) zero x l h = ap (λ (z : Expr). z ∷ es) (sym h)
drop-item (y ∷ es) (suc i) x l h = drop-item es i x (omega (arith, l)) h

-- one condition more, from the back
pub guards-back : (kinds : List Kind) (w : ℕ) (conds : List Expr) (at : ℕ) (x : Expr) (old more : Option Expr) → 0 < at → at ≤ length conds → x ≡ get_or conds (at - 1) x
    → old ≡ conjoined (guards_of kinds w (drop at conds)) None → more ≡ conjoined (lowered_guards kinds w (members x)) old → more ≡ conjoined (guards_of kinds w (drop (at - 1) conds)) None
guards-back kinds w conds at x old more some within item before after =
    let one : suc (at - 1) ≡ at = omega (arith, some) in
    let split : drop (at - 1) conds ≡ x ∷ drop at conds = drop-item conds (at - 1) x (omega (arith, some, within)) item ∙ ap (λ (n : ℕ). x ∷ drop n conds) one in
    after ∙ ap (conjoined (lowered_guards kinds w (members x))) before ∙ one-more kinds w (drop (at - 1) conds) x (drop at conds) split

pub ruleset member_nodes = (and-members, alone-Arith, alone-Compare, alone-Or, alone-Not, alone-IsNull)
