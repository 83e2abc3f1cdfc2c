-- A slice on its node, told by what the node works from.
use Rattle.std.proofs.Common.{◌≡◌, ◌∙◌, ℕ, ◌≤◌, List, [], Some, IsTrue, refl, sym, ap, subst}
use Rattle.std.specs.Global.{Vec}
use Rattle.std.specs.Prelude.{Vec as VecIn}
use Rattle.std.specs.List.{AllByRecursion}
use Rattle.hq_value.specs.Causes.{Rose, IsSteady, GoesOnGiving}
use Rattle.hq_value.specs.declared.kind.Kind.{Kind}
use Rattle.hq_value.specs.declared.value.Value.{Value}
use Rattle.hq_block.specs.Row.{IsStorable}
use Rattle.hq_algebra.specs.declared.op.Op.{Op}
use Rattle.hq_algebra.specs.declared.plan.Motion.{Motion}
use Rattle.hq_lane.specs.Lanes.{LaneState}
use Rattle.hq_snap.specs.Snaps.{TableSnapState}
use Rattle.hq_meaning.specs.Rows.{Row}
use Rattle.hq_exec.specs.declared.end.FlowEnd.{FlowEnd}
use Rattle.hq_exec.specs.declared.end.FlowEnd.TheVariants as flow
use Rattle.hq_exec.specs.declared.end.SliceEnd.{SliceEnd}
use Rattle.hq_exec.specs.declared.end.SliceEnd.TheVariants as slice_end
use Rattle.hq_exec.specs.Ends.{IfDone, OnRead, IsNumericAt, OnStore, OnHost, OffHost, IfBad, IsBadIn, as_flow}
use Rattle.hq_exec.specs.Ends as exec
use Rattle.hq_exec.specs.Files.{HeldState, held}
use Rattle.hq_exec.specs.Outs.{OutState}
use Rattle.hq_exec.specs.Ran.{HasPut}
use Rattle.hq_exec.specs.Slices.{IsSliceOf, HasSlice, HasInputs, HasSeals, HasOwn, slice_rows, slice_fault, slice_reads}
use Rattle.hq_dispatch.specs.Basis.{BasisState, buckets_at, node_held}
use Rattle.hq_dispatch.specs.Ends.{IfRows}
use Rattle.hq_dispatch.specs.Finished.{IsEndAt, end_at}
use Rattle.hq_dispatch.specs.Outside.{Outside}
use Rattle.hq_dispatch.specs.Parcels.{HasParcels}
use Rattle.hq_dispatch.specs.Running.{CanRead, HasFlowed, HasSent}
use Rattle.hq_dispatch.specs.declared.end.QueryEnd.{QueryEnd}

module _ (b : BasisState) (slice n : ℕ) (incoming : List (ℕ × Vec (List Value))) (plan : List ℕ) (tables : List TableSnapState) (own : List LaneState) (buckets : List ℕ)
    (plan_is : plan ≡ b.plan) (tables_is : tables ≡ b.tables) (own_is : own ≡ b.own) (buckets_are : buckets ≡ buckets_at b.owner n) where
  pub held-is : held tables own buckets incoming ≡ node_held b n incoming
  held-is = λ i. held (tables_is i) (own_is i) (buckets_are i) incoming

  there : (root : Op) → IsSliceOf plan slice root → IsSliceOf b.plan slice root
  there root is = subst (λ (p : List ℕ). IsSliceOf p slice root) plan_is is

  back : (root : Op) → IsSliceOf b.plan slice root → IsSliceOf plan slice root
  back root is = subst (λ (p : List ℕ). IsSliceOf p slice root) (sym plan_is) is

  module _ (seals files : _) (can : CanRead seals files b slice n incoming) where
    pub has-slice : HasSlice plan slice
    has-slice = (can.there.0, back can.there.0 can.there.1)

    pub has-inputs : (root : Op) → IsSliceOf plan slice root → HasInputs (held tables own buckets incoming) root
    has-inputs root is = subst (λ (h : HeldState). HasInputs h root) (sym held-is) (can.inputs root (there root is))

    pub has-seals : IsTrue seals → (root : Op) → IsSliceOf plan slice root → HasSeals (held tables own buckets incoming) root
    has-seals t root is = subst (λ (h : HeldState). HasSeals h root) (sym held-is) (can.seals_stand t root (there root is))

    pub has-own : IsTrue files → (root : Op) → IsSliceOf plan slice root → HasOwn (held tables own buckets incoming) root
    has-own t root is = subst (λ (h : HeldState). HasOwn h root) (sym held-is) (can.own_stand t root (there root is))

  module _ {S H L : Type 0} (o : Outside S H L) (seals files : _) (old new : S) (before after : H) (e : FlowEnd) (root : Op) (is : IsSliceOf b.plan slice root) where
    pub flowed-so : (IsTrue seals → IsTrue files → (root : Op) → IsSliceOf plan slice root → IsNumericAt e (slice_fault (held tables own buckets incoming) root))
        → (IsTrue seals → IsTrue files → (root : Op) → IsSliceOf plan slice root → OnRead e (GoesOnGiving o.faults o.given o.sound (slice_reads (held tables own buckets incoming) root) old new))
        → ((root : Op) → IsSliceOf plan slice root → IfBad e (IsBadIn root buckets)) → (IsTrue seals → IsTrue files → IfBad e (λ _ _ _. ⊥)) → OnStore e (Rose (o.faults old) (o.faults new)) → IsSteady o.faults o.sound old new
        → Rose (o.checks before) (o.checks after) → OnHost e (Rose (o.host_faults before) (o.host_faults after)) → OffHost e (o.host_faults after ≡ o.host_faults before) → OnHost e (o.host_sound before → ⊥)
        → o.host_faults before ≤ o.host_faults after → (o.host_sound before → o.host_sound after) → HasFlowed o (IsTrue seals × IsTrue files) (node_held b n incoming) root old new before after e
    flowed-so numeric gave bad never cause store checked host_cause host_held host_sure host_later host_sound = record {
      numeric = λ t. subst (λ (h : HeldState). IsNumericAt e (slice_fault h root)) held-is (numeric t.0 t.1 root (back root is));
      gave = λ t. subst (λ (h : HeldState). OnRead e (GoesOnGiving o.faults o.given o.sound (slice_reads h root) old new)) held-is (gave t.0 t.1 root (back root is));
      bad = subst (λ (l : List ℕ). IfBad e (IsBadIn root l)) buckets_are (bad root (back root is));
      never_bad = λ t. never t.0 t.1;
      cause = cause;
      store = store;
      checked = checked;
      host_cause = host_cause;
      host_held = host_held;
      host_sure = host_sure;
      host_later = host_later;
      host_sound = host_sound;
    }

  -- the rows that were put are those of the slice
  pub sent-so : {A : Type 0} (told : Type 0) (root : Op) → IsSliceOf b.plan slice root → (out : Motion) (owner : List ℕ) (kinds : List Kind) (before after : OutState) (lists : List (VecIn ℕ A)) (e : FlowEnd)
      → ((root : Op) → IsSliceOf plan slice root → IfDone e (HasPut told root (slice_rows (held tables own buckets incoming) root) before after)) → before.holds []
      → ((rows : List Row) → after.holds rows → HasParcels out owner rows lists × AllByRecursion (IsStorable kinds) rows) → IfDone e (HasSent told out owner kinds (slice_rows (node_held b n incoming) root) lists)
  sent-so told root is out owner kinds before after lists e put none holds = by e (put root (back root is))
    where
      by : (e : FlowEnd) → IfDone e (HasPut told root (slice_rows (held tables own buckets incoming) root) before after) → IfDone e (HasSent told out owner kinds (slice_rows (node_held b n incoming) root) lists)
      by flow.Done p =
          let has = holds p.added (p.given [] none) in
          record { sent = p.added; parcels = has.0; storable = has.1; are = λ t. p.are t ∙ ap (λ (h : HeldState). slice_rows h root) held-is }
      by flow.Numeric p = tt
      by flow.Store p = tt
      by flow.Host p = tt
      by (flow.BadBlock file at bytes) p = tt
      by flow.NoMemory p = tt

  -- and those of a list are
  pub rows-so : (seals files : _) (root : Op) → IsSliceOf b.plan slice root → (r : SliceEnd) (f : QueryEnd) → f ≡ end_at n r
      → (IsTrue seals → IsTrue files → (root : Op) → IsSliceOf plan slice root → exec.IfRows r (λ rows. rows ≡ slice_rows (held tables own buckets incoming) root))
      → IsTrue seals × IsTrue files → IfRows f (λ rows. rows ≡ slice_rows (node_held b n incoming) root)
  rows-so seals files root is r f ends rows t = subst (λ (g : QueryEnd). IfRows g (λ rows. rows ≡ slice_rows (node_held b n incoming) root)) (sym ends) (by r (rows t.0 t.1 root (back root is)))
    where
      by : (r : SliceEnd) → exec.IfRows r (λ rows. rows ≡ slice_rows (held tables own buckets incoming) root) → IfRows (end_at n r) (λ rows. rows ≡ slice_rows (node_held b n incoming) root)
      by (slice_end.Rows v) p = p ∙ ap (λ (h : HeldState). slice_rows h root) held-is
      by slice_end.Numeric p = tt
      by slice_end.Store p = tt
      by slice_end.Host p = tt
      by (slice_end.BadBlock file at bytes) p = tt
      by slice_end.NoMemory p = tt

-- rows in their receivers' bytes, by other names
pub packed-so : {A : Type 0} (out way : Motion) (owner homes : List ℕ) (kinds own : List Kind) (lists mine : List (VecIn ℕ A)) → out ≡ way → owner ≡ homes → Some own ≡ Some kinds → lists ≡ mine → (rows : List Row)
    → HasParcels way homes rows mine × AllByRecursion (IsStorable own) rows → HasParcels out owner rows lists × AllByRecursion (IsStorable kinds) rows
packed-so {A} out way owner homes kinds own lists mine way_is homes_are kinds_are mine_are rows h =
    let k : own ≡ kinds = cc in (
      subst (λ (l : List (VecIn ℕ A)). HasParcels out owner rows l) (sym mine_are)
          (subst (λ (m : Motion). HasParcels m owner rows mine) (sym way_is) (subst (λ (l : List ℕ). HasParcels way l rows mine) (sym homes_are) h.0)),
      subst (λ (l : List Kind). AllByRecursion (IsStorable l) rows) k h.1,
    )

-- how the query ends by it
pub end-is : (n : ℕ) (r : SliceEnd) (f : QueryEnd) → f ≡ end_at n r → IsEndAt n (as_flow r) f
end-is n r f ends = subst (IsEndAt n (as_flow r)) (sym ends) (by r)
  where
    by : (r : SliceEnd) → IsEndAt n (as_flow r) (end_at n r)
    by (slice_end.Rows v) = tt
    by slice_end.Numeric = tt
    by slice_end.Store = tt
    by slice_end.Host = refl
    by (slice_end.BadBlock file at bytes) = (refl, refl, refl, refl)
    by slice_end.NoMemory = tt
