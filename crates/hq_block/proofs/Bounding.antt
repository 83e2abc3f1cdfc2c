-- Bounds that are read are spelled so, and what is spelled so is read.
use Rattle.std.proofs.Common.{◌≡◌, ℕ, zero, suc, ◌+◌, ◌<◌, ◌≤◌, Bool, true, false, cond, nat_eq, List, [], ◌∷◌, ◌++◌, length, drop, get_or, Option, Some, None, refl, sym, ap, subst, ◌∙◌, append_assoc, append-nil}
use Rattle.std.specs.Ordering.{is_gt}
use Rattle.std.proofs.lemmas.Bool.{eqb-true}
use Rattle.std.proofs.lemmas.List.{drop_more, drop_all, nil_from_length}
use Rattle.hq_value.specs.declared.value.Value.{Value}
use Rattle.hq_value.specs.declared.value.Value.TheVariants as variant
use Rattle.hq_value.specs.declared.kind.Kind.{Kind}
use Rattle.hq_value.specs.declared.kind.Kind.TheVariants as kind
use Rattle.hq_value.specs.Order.{value_cmp}
use Rattle.hq_block.specs.declared.bounds.Bounds.{Bounds}
use Rattle.hq_block.specs.declared.bounds.Bounds.TheVariants as bound
use Rattle.hq_block.specs.declared.fault.Misread.{Misread}
use Rattle.hq_block.specs.declared.fault.Misread.TheVariants as misread
use Rattle.hq_block.specs.Row.{value_bytes, null_flag}
use Rattle.hq_block.specs.Bounds.{is_null, bound_bytes, bounds_bytes, IsRange, IsBound, AreBounds}
use Rattle.hq_block.specs.Reading.{◌>>=◌, Fails, value_at, range_at, ranged_at, text_bound_at, bound_at, bounds_at, all_bounds_at, with_front}
use Rattle.hq_block.proofs.Columns.{with_front-push}
use Rattle.hq_block.proofs.Flags.{IsBytes, IsBytes-tail}
use Rattle.hq_block.proofs.Numbers.{Takes, bind_some, guard_none, guard_some, some_is}
use Rattle.hq_block.proofs.Values.{value_takes, value_again}

flag-some : (v : Value) → null_flag v ≡ 0 → is_null v ≡ false
flag-some variant.Null e = cc
flag-some (variant.Bool b) e = refl
flag-some (variant.Int n) e = refl
flag-some (variant.Text t) e = refl

some-flag : (v : Value) → is_null v ≡ false → null_flag v ≡ 0
some-flag variant.Null e = cc
some-flag (variant.Bool b) e = refl
some-flag (variant.Int n) e = refl
some-flag (variant.Text t) e = refl

-- bounds of a column that may have a range
abbrev IsRanged : Kind → Bounds → Type 0
IsRanged k bound.Text = ⊥
IsRanged k bound.Empty = Unit {0}
IsRanged k (bound.Range least greatest) = IsRange k least greatest

pub record TakesBound (k : Kind) (bytes : List ℕ) (bounds : Bounds) (rest : List ℕ) : Type 0 where
  pub takes : Takes bytes (bound_bytes bounds) rest
  pub is : IsBound k bounds

record TakesRanged (k : Kind) (bytes : List ℕ) (bounds : Bounds) (rest : List ℕ) : Type 0 where
  takes : Takes bytes (bound_bytes bounds) rest
  is : IsRanged k bounds

-- a range without the byte in front of it
record TakesRange (k : Kind) (bytes : List ℕ) (bounds : Bounds) (rest : List ℕ) : Type 0 where
  takes : Takes (1 ∷ bytes) (bound_bytes bounds) rest
  is : IsRanged k bounds

range_takes : (k : Kind) (bytes : List ℕ) (x : Bounds × List ℕ) → IsBytes bytes → range_at k bytes ≡ Some x → TakesRange k bytes x.0 x.1
unfolding range_at
range_takes k bytes x fits e =
    let a = bind_some (value_at k bytes) (λ least. value_at k least.1 >>= λ greatest. cond (is_gt (value_cmp least.0 greatest.0)) None (Some (bound.Range least.0 greatest.0, greatest.1))) x e in
    let b = bind_some (value_at k a.0.1) (λ greatest. cond (is_gt (value_cmp a.0.0 greatest.0)) None (Some (bound.Range a.0.0 greatest.0, greatest.1))) x a.2 in
    let g = guard_none (is_gt (value_cmp a.0.0 b.0.0)) (Some (bound.Range a.0.0 b.0.0, b.0.1)) x b.2 in
    let t = value_takes k bytes a.0 fits a.1 in
    let u = value_takes k a.0.1 b.0 t.takes.rest_fits b.1 in
    let whole : 1 ∷ bytes ≡ (1 ∷ (value_bytes a.0.0 ++ value_bytes b.0.0)) ++ b.0.1 =
    ap (λ (l : List ℕ). 1 ∷ l) (t.takes.parts ∙ ap (λ (l : List ℕ). value_bytes a.0.0 ++ l) u.takes.parts ∙ sym (append_assoc (value_bytes a.0.0) (value_bytes b.0.0) b.0.1)) in
    subst (λ (y : Bounds × List ℕ). TakesRange k bytes y.0 y.1) (some_is (bound.Range a.0.0 b.0.0, b.0.1) x g.1)
    (record {
      takes = record { parts = whole; rest_fits = u.takes.rest_fits };
      is = record { low = record { some = flag-some a.0.0 t.not_null; of_kind = t.of_kind; in_range = t.in_range }; high = record { some = flag-some b.0.0 u.not_null; of_kind = u.of_kind; in_range = u.in_range }; ordered = g.0 };
    })

ranged_takes : (k : Kind) (bytes : List ℕ) (x : Bounds × List ℕ) → IsBytes bytes → ranged_at k bytes ≡ Some x → TakesRanged k bytes x.0 x.1
ranged_takes k [] x fits e = absurd cc
ranged_takes k (zero ∷ bytes) x fits e =
    subst (λ (y : Bounds × List ℕ). TakesRanged k (0 ∷ bytes) y.0 y.1) (some_is (bound.Empty, bytes) x e) (record { takes = record { parts = refl; rest_fits = IsBytes-tail 0 bytes fits }; is = tt })
ranged_takes k (suc zero ∷ bytes) x fits e = let t = range_takes k bytes x (IsBytes-tail 1 bytes fits) e in record { takes = t.takes; is = t.is }
ranged_takes k (suc (suc b) ∷ bytes) x fits e = absurd cc

text_takes : (bytes : List ℕ) (x : Bounds × List ℕ) → IsBytes bytes → text_bound_at bytes ≡ Some x → TakesBound kind.Text bytes x.0 x.1
text_takes [] x fits e = absurd cc
text_takes (zero ∷ bytes) x fits e = absurd cc
text_takes (suc zero ∷ bytes) x fits e = absurd cc
text_takes (suc (suc zero) ∷ bytes) x fits e =
    subst (λ (y : Bounds × List ℕ). TakesBound kind.Text (2 ∷ bytes) y.0 y.1) (some_is (bound.Text, bytes) x e) (record { takes = record { parts = refl; rest_fits = IsBytes-tail 2 bytes fits }; is = tt })
text_takes (suc (suc (suc b)) ∷ bytes) x fits e = absurd cc

ranged-bool : (b : Bounds) → IsRanged kind.Bool b → IsBound kind.Bool b
ranged-bool bound.Text is = is
ranged-bool bound.Empty is = is
ranged-bool (bound.Range l g) is = is

ranged-int : (b : Bounds) → IsRanged kind.Int b → IsBound kind.Int b
ranged-int bound.Text is = is
ranged-int bound.Empty is = is
ranged-int (bound.Range l g) is = is

pub bound_takes : (k : Kind) (bytes : List ℕ) (x : Bounds × List ℕ) → IsBytes bytes → bound_at k bytes ≡ Some x → TakesBound k bytes x.0 x.1
unfolding bound_at
bound_takes kind.Text bytes x fits e = text_takes bytes x fits e
bound_takes kind.Bool bytes x fits e = let t = ranged_takes kind.Bool bytes x fits e in record { takes = t.takes; is = ranged-bool x.0 t.is }
bound_takes kind.Int bytes x fits e = let t = ranged_takes kind.Int bytes x fits e in record { takes = t.takes; is = ranged-int x.0 t.is }

range_again : (k : Kind) (least greatest : Value) (rest : List ℕ) → IsRange k least greatest → range_at k ((value_bytes least ++ value_bytes greatest) ++ rest) ≡ Some (bound.Range least greatest, rest)
unfolding range_at
range_again k least greatest rest is =
    ap (range_at k) (append_assoc (value_bytes least) (value_bytes greatest) rest)
    ∙ ap (λ (r : Option (Value × List ℕ)). r >>= λ l. value_at k l.1 >>= λ g. cond (is_gt (value_cmp l.0 g.0)) None (Some (bound.Range l.0 g.0, g.1))) (value_again k least (value_bytes greatest ++ rest) is.low.of_kind is.low.in_range (some-flag least is.low.some))
    ∙ ap (λ (r : Option (Value × List ℕ)). r >>= λ g. cond (is_gt (value_cmp least g.0)) None (Some (bound.Range least g.0, g.1))) (value_again k greatest rest is.high.of_kind is.high.in_range (some-flag greatest is.high.some))
    ∙ ap (λ (b : Bool). cond b None (Some (bound.Range least greatest, rest))) is.ordered

pub bound_again : (k : Kind) (bounds : Bounds) (rest : List ℕ) → IsBound k bounds → bound_at k (bound_bytes bounds ++ rest) ≡ Some (bounds, rest)
unfolding bound_at
bound_again kind.Text bound.Text rest is = refl
bound_again kind.Text bound.Empty rest is = absurd is
bound_again kind.Text (bound.Range l g) rest is = absurd is
bound_again kind.Bool bound.Text rest is = absurd is
bound_again kind.Bool bound.Empty rest is = refl
bound_again kind.Bool (bound.Range l g) rest is = range_again kind.Bool l g rest is
bound_again kind.Int bound.Text rest is = absurd is
bound_again kind.Int bound.Empty rest is = refl
bound_again kind.Int (bound.Range l g) rest is = range_again kind.Int l g rest is

pub record TakesBounds (kinds : List Kind) (bytes : List ℕ) (bounds : List Bounds) (rest : List ℕ) : Type 0 where
  pub takes : Takes bytes (bounds_bytes bounds) rest
  pub are : AreBounds kinds bounds

pub bounds_takes : (kinds : List Kind) (bytes : List ℕ) (x : List Bounds × List ℕ) → IsBytes bytes → bounds_at kinds bytes ≡ Some x → TakesBounds kinds bytes x.0 x.1
unfolding bounds_at
bounds_takes [] bytes x fits e = subst (λ (y : List Bounds × List ℕ). TakesBounds [] bytes y.0 y.1) (some_is ([], bytes) x e) (record { takes = record { parts = refl; rest_fits = fits }; are = tt })
bounds_takes (k ∷ kinds) bytes x fits e =
    let a = bind_some (bound_at k bytes) (λ first. bounds_at kinds first.1 >>= λ others. Some (first.0 ∷ others.0, others.1)) x e in
    let b = bind_some (bounds_at kinds a.0.1) (λ others. Some (a.0.0 ∷ others.0, others.1)) x a.2 in
    let t = bound_takes k bytes a.0 fits a.1 in
    let u = bounds_takes kinds a.0.1 b.0 t.takes.rest_fits b.1 in
    let whole : bytes ≡ (bound_bytes a.0.0 ++ bounds_bytes b.0.0) ++ b.0.1 = t.takes.parts ∙ ap (λ (l : List ℕ). bound_bytes a.0.0 ++ l) u.takes.parts ∙ sym (append_assoc (bound_bytes a.0.0) (bounds_bytes b.0.0) b.0.1) in
    subst (λ (y : List Bounds × List ℕ). TakesBounds (k ∷ kinds) bytes y.0 y.1) (some_is (a.0.0 ∷ b.0.0, b.0.1) x b.2) (record { takes = record { parts = whole; rest_fits = u.takes.rest_fits }; are = (t.is, u.are) })

pub bounds_again : (kinds : List Kind) (bounds : List Bounds) (rest : List ℕ) → AreBounds kinds bounds → bounds_at kinds (bounds_bytes bounds ++ rest) ≡ Some (bounds, rest)
unfolding bounds_at
bounds_again [] [] rest are = refl
bounds_again [] (b ∷ bounds) rest are = absurd are
bounds_again (k ∷ kinds) [] rest are = absurd are
bounds_again (k ∷ kinds) (b ∷ bounds) rest are =
    ap (bounds_at (k ∷ kinds)) (append_assoc (bound_bytes b) (bounds_bytes bounds) rest)
    ∙ ap (λ (r : Option (Bounds × List ℕ)). r >>= λ first. bounds_at kinds first.1 >>= λ others. Some (first.0 ∷ others.0, others.1)) (bound_again k b (bounds_bytes bounds ++ rest) are.0)
    ∙ ap (λ (r : Option (List Bounds × List ℕ)). r >>= λ others. Some (b ∷ others.0, others.1)) (bounds_again kinds bounds rest are.1)

nothing : (l : List ℕ) → nat_eq (length l) 0 ≡ true → l ≡ []
nothing l e = nil_from_length l (eqb-true (length l) 0 e)

pub all_bounds_takes : (kinds : List Kind) (bytes : List ℕ) (bounds : List Bounds) → IsBytes bytes → all_bounds_at kinds bytes ≡ Some bounds → AreBounds kinds bounds × (bytes ≡ bounds_bytes bounds)
unfolding all_bounds_at
all_bounds_takes kinds bytes bounds fits e =
    let a = bind_some (bounds_at kinds bytes) (λ bounds. cond (nat_eq (length bounds.1) 0) (Some bounds.0) None) bounds e in
    let g = guard_some (nat_eq (length a.0.1) 0) (Some a.0.0) bounds a.2 in
    let t = bounds_takes kinds bytes a.0 fits a.1 in
    let same : a.0.0 ≡ bounds = some_is a.0.0 bounds g.1 in
    (subst (AreBounds kinds) same t.are, t.takes.parts ∙ ap (λ (l : List ℕ). bounds_bytes a.0.0 ++ l) (nothing a.0.1 g.0) ∙ append-nil (bounds_bytes a.0.0) ∙ ap bounds_bytes same)

pub all_bounds_again : (kinds : List Kind) (bounds : List Bounds) → AreBounds kinds bounds → all_bounds_at kinds (bounds_bytes bounds) ≡ Some bounds
unfolding all_bounds_at
all_bounds_again kinds bounds are =
    let read : bounds_at kinds (bounds_bytes bounds) ≡ Some (bounds, []) = ap (bounds_at kinds) (sym (append-nil (bounds_bytes bounds))) ∙ bounds_again kinds bounds [] are in
    rw read refl

-- reading bounds one after the other, as a loop does
abbrev Read : Type 0
Read = Option (List Bounds × List ℕ)

abbrev Then : Option (Bounds × List ℕ) → (List ℕ → Read) → Read
Then first next = first >>= λ x. next x.1 >>= λ others. Some (x.0 ∷ others.0, others.1)

bounds_at-step : (kinds : List Kind) (i : ℕ) (d : Kind) (bytes : List ℕ) → i < length kinds → bounds_at (drop i kinds) bytes ≡ Then (bound_at (get_or kinds i d) bytes) (bounds_at (drop (i + 1) kinds))
unfolding bounds_at
bounds_at-step kinds i d bytes below = ap (λ (ks : List Kind). bounds_at ks bytes) (drop_more kinds i d below)

pub goes_on : (front : List Bounds) (kinds : List Kind) (i : ℕ) (d : Kind) (bytes : List ℕ) (first : Bounds) (after : List ℕ) (total : Read) → i < length kinds
    → bound_at (get_or kinds i d) bytes ≡ Some (first, after) → with_front front (bounds_at (drop i kinds) bytes) ≡ total → with_front (front ++ first ∷ []) (bounds_at (drop (i + 1) kinds) after) ≡ total
goes_on front kinds i d bytes first after total below read so_far =
    sym (with_front-push front first (bounds_at (drop (i + 1) kinds) after))
    ∙ sym (ap (with_front front) (bounds_at-step kinds i d bytes below ∙ ap (λ (r : Option (Bounds × List ℕ)). Then r (bounds_at (drop (i + 1) kinds))) read))
    ∙ so_far

pub ends : (e : Misread) (front : List Bounds) (kinds : List Kind) (i : ℕ) (d : Kind) (bytes : List ℕ) (total : Read) → i < length kinds → Fails e (bound_at (get_or kinds i d) bytes) → with_front front (bounds_at (drop i kinds) bytes) ≡ total → Fails e total
ends misread.NoMemory front kinds i d bytes total below read so_far = tt
ends misread.Absent front kinds i d bytes total below read so_far =
    sym so_far ∙ ap (with_front front) (bounds_at-step kinds i d bytes below ∙ ap (λ (r : Option (Bounds × List ℕ)). Then r (bounds_at (drop (i + 1) kinds))) read)

pub is_done : (front : List Bounds) (kinds : List Kind) (i : ℕ) (bytes : List ℕ) (total : Read) → length kinds ≤ i → with_front front (bounds_at (drop i kinds) bytes) ≡ total → total ≡ Some (front, bytes)
unfolding bounds_at
is_done front kinds i bytes total end so_far =
    sym so_far ∙ ap (λ (ks : List Kind). with_front front (bounds_at ks bytes)) (drop_all i kinds end) ∙ ap (λ (l : List Bounds). Some (l, bytes)) (append-nil front)
