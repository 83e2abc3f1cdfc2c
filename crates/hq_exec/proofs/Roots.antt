-- The root of a slice, and how the slice ends.
use Rattle.std.proofs.Common.{◌≡◌, ◌∙◌, ℕ, zero, suc, ◌+◌, ◌<◌, ◌^◌, Bool, true, false, ◌&&◌, List, [], ◌∷◌, length, Option, Some, None, Ok, Err, Result, IsTrue, refl, sym, ap, subst, arith}
use Rattle.std.specs.Prelude.{option_map, slice_get, is_some, nat_le, IfOk, IsErrOf}
use Rattle.std.specs.List.{list_all}
use Rattle.std.proofs.lemmas.Option.{slice_get_within}
use Rattle.hq_value.specs.declared.kind.Kind.{Kind}
use Rattle.hq_value.specs.declared.entry.FileId.{FileId}
use Rattle.hq_value.specs.Causes.{GoesOnGiving}
use Rattle.hq_algebra.specs.declared.op.Op.{Op}
use Rattle.hq_algebra.specs.declared.plan.Plan.{Plan}
use Rattle.hq_algebra.specs.declared.plan.Slice.{Slice}
use Rattle.hq_algebra.specs.Operators.{op_kinds}
use Rattle.hq_algebra.specs.Plans.{operators, op_is_fine, are_bounded, filters_without_arith, is_writable, slice_is_fine, ends_with_result, are_well_formed, is_well_formed}
use Rattle.hq_planwire.specs.Wire.{IsPlan}
use Rattle.hq_planwire.proofs.PlanCodecs.{one_plan}
use Rattle.hq_fits.specs.Supplied.{AreFit}
use Rattle.hq_meaning.specs.Rows.{Row}
use Rattle.hq_exec.specs.declared.end.Ending.{Ending}
use Rattle.hq_exec.specs.declared.end.Ending.TheVariants as ending
use Rattle.hq_exec.specs.declared.end.FlowEnd.{FlowEnd}
use Rattle.hq_exec.specs.declared.end.SliceEnd.{SliceEnd}
use Rattle.hq_exec.specs.declared.end.SliceEnd.TheVariants as slice
use Rattle.hq_exec.specs.Ends.{IfBadBlock, IfDone, OnRead, IsNumericAt, IfBad, OnStore, OnHost, OffHost, IfRows, IsBadIn, end_of, as_flow}
use Rattle.hq_exec.specs.Files.{HeldState}
use Rattle.hq_exec.specs.Outs.{OutState}
use Rattle.hq_exec.specs.Ran.{HasRead, HasPut, Flowed}
use Rattle.hq_exec.specs.Slices.{IsSliceOf, HasSlice, slice_rows, slice_fault, slice_reads}

both-true : (a b : Bool) → (a && b) ≡ true → (a ≡ true) × (b ≡ true)
both-true true true e = (refl, refl)
both-true true false e = cc
both-true false b e = cc

some-slice : (slices : List Slice) (i : ℕ) (root : Op) → option_map (λ (s : Slice). s.root) (slice_get slices i) ≡ Some root → (s : Slice) × (slice_get slices i ≡ Some s) × (s.root ≡ root)
some-slice [] i root e = cc
some-slice (s ∷ slices) zero root e = (s, refl, some-root e)
  where
    some-root : Some s.root ≡ Some root → s.root ≡ root
    some-root e = cc
some-slice (s ∷ slices) (suc i) root e = some-slice slices i root e

-- the plan that was read has the slice
pub slice-within : (plan : Plan) (bytes : List ℕ) (i : ℕ) → IsPlan plan bytes → HasSlice bytes i → i < length plan.slices
slice-within plan bytes i is has =
    let s : IsSliceOf bytes i has.0 = has.1 in
    let found : (x : Slice) × (slice_get s.plan.slices i ≡ Some x) × (x.root ≡ has.0) = some-slice s.plan.slices i has.0 s.there in
    subst (λ (p : Plan). i < length p.slices) (one_plan s.plan plan bytes s.is_plan is) (slice_get_within s.plan.slices i found.0 found.1)

-- a slice has one root
pub one-root : (bytes : List ℕ) (i : ℕ) (root other : Op) → IsSliceOf bytes i root → IsSliceOf bytes i other → root ≡ other
one-root bytes i root other is also = by (one_plan is.plan also.plan bytes is.is_plan also.is_plan)
  where
    by : is.plan ≡ also.plan → root ≡ other
    by e = let same : Some root ≡ Some other = sym is.there ∙ ap (λ (p : Plan). option_map (λ (s : Slice). s.root) (slice_get p.slices i)) e ∙ also.there in cc

-- what holds of each member holds of the one at a place
all-at : {A : Type 0} (p : A → Bool) (xs : List A) (i : ℕ) (x : A) → list_all p xs ≡ true → slice_get xs i ≡ Some x → p x ≡ true
all-at p [] i x all e = cc
all-at p (y ∷ ys) zero x all e = let same : y ≡ x = cc in ap p (sym same) ∙ (both-true (p y) (list_all p ys) all).0
all-at p (y ∷ ys) (suc i) x all e = all-at p ys i x (both-true (p y) (list_all p ys) all).1 e

slices-fine : (slices : List Slice) → are_well_formed slices ≡ true → list_all slice_is_fine slices ≡ true
slices-fine slices e =
    (both-true (list_all slice_is_fine slices) _ (both-true (ends_with_result slices) _ (both-true (nat_le (length slices) 64) _ (both-true (nat_le 2 (length slices)) _ e).1).1).1).0

-- the rules on a slice
slice-rules : (s : Slice) → slice_is_fine s ≡ true → (list_all op_is_fine (operators s.root) ≡ true) × (is_some (op_kinds s.root) ≡ true)
slice-rules s e = both-true (list_all op_is_fine (operators s.root)) (is_some (op_kinds s.root)) (both-true (nat_le (length (operators s.root)) 64) _ e).1

slice-fine : (bytes : List ℕ) (i : ℕ) (root : Op) → (is : IsSliceOf bytes i root) → (s : Slice) × (slice_is_fine s ≡ true) × (s.root ≡ root)
slice-fine bytes i root is =
    let found : (x : Slice) × (slice_get is.plan.slices i ≡ Some x) × (x.root ≡ root) = some-slice is.plan.slices i root is.there in
    (found.0, all-at slice_is_fine is.plan.slices i found.0 (slices-fine is.plan.slices is.is_plan.well_formed) found.1, found.2)

-- the root has kinds, and its Filters no arithmetic
pub root-typed : (bytes : List ℕ) (i : ℕ) (root : Op) → IsSliceOf bytes i root → (kinds : List Kind) × (op_kinds root ≡ Some kinds)
root-typed bytes i root is = let f : (s : Slice) × (slice_is_fine s ≡ true) × (s.root ≡ root) = slice-fine bytes i root is in
    subst (λ (o : Op). (kinds : List Kind) × (op_kinds o ≡ Some kinds)) f.2 (by (op_kinds f.0.root) (slice-rules f.0 f.1).1)
  where
    by : (o : Option (List Kind)) → is_some o ≡ true → (kinds : List Kind) × (o ≡ Some kinds)
    by None e = cc
    by (Some kinds) e = (kinds, refl)

without-arith : (ops : List Op) → list_all op_is_fine ops ≡ true → list_all filters_without_arith ops ≡ true
without-arith [] e = refl
without-arith (o ∷ ops) e =
    let parts : (op_is_fine o ≡ true) × (list_all op_is_fine ops ≡ true) = both-true (op_is_fine o) (list_all op_is_fine ops) e in
    let own : (are_bounded o ≡ true) × ((filters_without_arith o && is_writable o) ≡ true) = both-true (are_bounded o) (filters_without_arith o && is_writable o) parts.0 in
    λ i. (both-true (filters_without_arith o) (is_writable o) own.1).0 i && without-arith ops parts.1 i

pub root-fine : (bytes : List ℕ) (i : ℕ) (root : Op) → IsSliceOf bytes i root → list_all filters_without_arith (operators root) ≡ true
root-fine bytes i root is = let f : (s : Slice) × (slice_is_fine s ≡ true) × (s.root ≡ root) = slice-fine bytes i root is in
    subst (λ (o : Op). list_all filters_without_arith (operators o) ≡ true) f.2 (without-arith (operators f.0.root) (slice-rules f.0 f.1).0)

-- how the slice ends
module _ {S : Type 0} (faulting given : S → ℕ) (sound : S → Type 0) (told : Type 0) (h : HeldState) (o : Op) (a b : S) (before after : OutState) where
  abbrev pub IfFlowed : Result Bool Ending → Type 0
  IfFlowed r = IfOk r (λ fault. Flowed faulting given sound told h o fault a b before after)

  pub ends-done : (r : Result Bool Ending) → IfFlowed r → IfDone (end_of r) (HasPut told o (slice_rows h o) before after)
  ends-done (Ok false) f = f.put refl
  ends-done (Ok true) f = tt
  ends-done (Err ending.Store) f = tt
  ends-done (Err (ending.BadBlock file at bytes)) f = tt
  ends-done (Err ending.NoMemory) f = tt

  pub ends-numeric : (r : Result Bool Ending) → IfFlowed r → told → IsNumericAt (end_of r) (slice_fault h o)
  ends-numeric (Ok false) f t = sym (f.faulting t)
  ends-numeric (Ok true) f t = sym (f.faulting t)
  ends-numeric (Err ending.Store) f t = tt
  ends-numeric (Err (ending.BadBlock file at bytes)) f t = tt
  ends-numeric (Err ending.NoMemory) f t = tt

  read-is : (r : HasRead faulting given sound told (slice_reads h o) a b) → told → given a < 2 ^ 64 → GoesOnGiving faulting given sound (slice_reads h o) a b
  read-is r t low = subst (λ (n : ℕ). GoesOnGiving faulting given sound n a b) (r.is t) (r.goes_on low)

  pub ends-read : (r : Result Bool Ending) → IfFlowed r → told → given a < 2 ^ 64 → OnRead (end_of r) (GoesOnGiving faulting given sound (slice_reads h o) a b)
  ends-read (Ok false) f t low = read-is f.read t low
  ends-read (Ok true) f t low = read-is f.read t low
  ends-read (Err ending.Store) f t low = tt
  ends-read (Err (ending.BadBlock file at bytes)) f t low = tt
  ends-read (Err ending.NoMemory) f t low = tt

pub ends-bad : (r : Result Bool Ending) (P : FileId → ℕ → List ℕ → Type 0) → IfBadBlock r P → IfBad (end_of r) P
ends-bad (Ok false) P h = tt
ends-bad (Ok true) P h = tt
ends-bad (Err ending.Store) P h = tt
ends-bad (Err (ending.BadBlock file at bytes)) P h = h
ends-bad (Err ending.NoMemory) P h = tt

pub ends-store : (r : Result Bool Ending) (P : Type 0) → (IsErrOf r ending.Store → P) → OnStore (end_of r) P
ends-store (Ok false) P h = tt
ends-store (Ok true) P h = tt
ends-store (Err ending.Store) P h = h refl
ends-store (Err (ending.BadBlock file at bytes)) P h = tt
ends-store (Err ending.NoMemory) P h = tt

pub ends-off : (r : Result Bool Ending) (P : Type 0) → P → OffHost (end_of r) P
ends-off (Ok false) P h = h
ends-off (Ok true) P h = h
ends-off (Err ending.Store) P h = h
ends-off (Err (ending.BadBlock file at bytes)) P h = h
ends-off (Err ending.NoMemory) P h = h

pub ends-no-host : (r : Result Bool Ending) (P : Type 0) → OnHost (end_of r) P
ends-no-host (Ok false) P = tt
ends-no-host (Ok true) P = tt
ends-no-host (Err ending.Store) P = tt
ends-no-host (Err (ending.BadBlock file at bytes)) P = tt
ends-no-host (Err ending.NoMemory) P = tt

-- what holds of the root holds of each operator that the plan has there
module _ (bytes : List ℕ) (i : ℕ) (root : Op) (mine : IsSliceOf bytes i root) where
  pub root-flowed : {S : Type 0} (faulting given : S → ℕ) (sound : S → Type 0) (told : Type 0) (h : HeldState) (r : Result Bool Ending) (a b : S) (before after : OutState) → IfFlowed faulting given sound told h root a b before after r
      → (other : Op) → IsSliceOf bytes i other → IfFlowed faulting given sound told h other a b before after r
  root-flowed faulting given sound told h r a b before after flowed other also = subst (λ (o : Op). IfFlowed faulting given sound told h o a b before after r) (one-root bytes i root other mine also) flowed

  pub root-bad : (r : Result Bool Ending) (buckets : List ℕ) → IfBadBlock r (IsBadIn root buckets) → (other : Op) → IsSliceOf bytes i other → IfBadBlock r (IsBadIn other buckets)
  root-bad r buckets bad other also = subst (λ (o : Op). IfBadBlock r (IsBadIn o buckets)) (one-root bytes i root other mine also) bad

-- how a slice ends whose reading ended so
module _ (r : Result Bool Ending) (end : FlowEnd) (is : end ≡ end_of r) where
  module _ {S : Type 0} (faulting given : S → ℕ) (sound : S → Type 0) (told : Type 0) (h : HeldState) (o : Op) (a b : S) (before after : OutState) (flowed : IfFlowed faulting given sound told h o a b before after r) where
    pub slice-put : IfDone end (HasPut told o (slice_rows h o) before after)
    slice-put = subst (λ (e : FlowEnd). IfDone e (HasPut told o (slice_rows h o) before after)) (sym is) (ends-done faulting given sound told h o a b before after r flowed)

    pub slice-numeric : told → IsNumericAt end (slice_fault h o)
    slice-numeric t = subst (λ (e : FlowEnd). IsNumericAt e (slice_fault h o)) (sym is) (ends-numeric faulting given sound told h o a b before after r flowed t)

    pub slice-read : given a < 2 ^ 64 → told → OnRead end (GoesOnGiving faulting given sound (slice_reads h o) a b)
    slice-read low t = subst (λ (e : FlowEnd). OnRead e (GoesOnGiving faulting given sound (slice_reads h o) a b)) (sym is) (ends-read faulting given sound told h o a b before after r flowed t low)

  pub slice-bad : (P : FileId → ℕ → List ℕ → Type 0) → IfBadBlock r P → IfBad end P
  slice-bad P bad = subst (λ (e : FlowEnd). IfBad e P) (sym is) (ends-bad r P bad)

  pub slice-store : (P : Type 0) → (IsErrOf r ending.Store → P) → OnStore end P
  slice-store P h = subst (λ (e : FlowEnd). OnStore e P) (sym is) (ends-store r P h)

  pub slice-off : (P : Type 0) → P → OffHost end P
  slice-off P h = subst (λ (e : FlowEnd). OffHost e P) (sym is) (ends-off r P h)

  pub slice-no-host : (P : Type 0) → OnHost end P
  slice-no-host P = subst (λ (e : FlowEnd). OnHost e P) (sym is) (ends-no-host r P)

-- a slice whose rows are put into a list
pub list-rows : (told : Type 0) (o : Op) (all rows : List Row) (before after : OutState) (r : SliceEnd) (end : FlowEnd) → as_flow r ≡ end → IfRows r (λ found. found ≡ rows) → IfDone end (HasPut told o all before after) → before.holds []
    → ((l : List Row) → after.holds l → rows ≡ l) → told → IfRows r (λ found. found ≡ all)
list-rows told o all rows before after (slice.Rows v) end is found put none listed t =
    let p : HasPut told o all before after = subst (λ (e : FlowEnd). IfDone e (HasPut told o all before after)) (sym is) put in found ∙ listed p.added (p.given [] none) ∙ p.are t
list-rows told o all rows before after slice.Numeric end is found put none listed t = tt
list-rows told o all rows before after slice.Store end is found put none listed t = tt
list-rows told o all rows before after slice.Host end is found put none listed t = tt
list-rows told o all rows before after (slice.BadBlock file at bytes) end is found put none listed t = tt
list-rows told o all rows before after slice.NoMemory end is found put none listed t = tt

pub list-fit : (told : Type 0) (o : Op) (all rows : List Row) (before after : OutState) (r : SliceEnd) (end : FlowEnd) → as_flow r ≡ end → IfRows r (λ found. found ≡ rows) → IfDone end (HasPut told o all before after) → before.holds []
    → ((l : List Row) → after.holds l → rows ≡ l) → (kinds : List Kind) → op_kinds o ≡ Some kinds → IfRows r (AreFit kinds)
list-fit told o all rows before after (slice.Rows v) end is found put none listed kinds typed =
    let p : HasPut told o all before after = subst (λ (e : FlowEnd). IfDone e (HasPut told o all before after)) (sym is) put in subst (λ (l : List Row). AreFit kinds l) (sym (found ∙ listed p.added (p.given [] none))) (p.fit kinds typed)
list-fit told o all rows before after slice.Numeric end is found put none listed kinds typed = tt
list-fit told o all rows before after slice.Store end is found put none listed kinds typed = tt
list-fit told o all rows before after slice.Host end is found put none listed kinds typed = tt
list-fit told o all rows before after (slice.BadBlock file at bytes) end is found put none listed kinds typed = tt
list-fit told o all rows before after slice.NoMemory end is found put none listed kinds typed = tt
