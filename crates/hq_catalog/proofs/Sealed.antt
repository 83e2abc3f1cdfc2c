-- A sealed file, before and after it is committed.
use Rattle.std.proofs.Common.{◌≡◌, ◌<◌, ◌≤◌, ◌&&◌, Bool, true, false, cond, length, take, Option, Some, None, IsTrue, refl, sym, ◌∙◌, ap, subst, arith}
use Rattle.std.specs.Prelude.{IsSomeAnd, is_some}
use Rattle.std.proofs.lemmas.Bool.{ltb-true, ltb-false}
use Rattle.std.proofs.lemmas.List.{take_all}
use Rattle.hq_store.specs.FileStep.{FileState, SealState}
use Rattle.hq_lane.specs.BucketFiles.{BucketState, file_bytes, base_bytes, published, published_with, IsSealOf, IsSealed, IsSound}
use Rattle.hq_snap.specs.Snaps.{seal_len, seal_bytes}
use Rattle.hq_catalog.specs.Commits.{grows, seal_by, IsFresh}

pub both_told : (a b : Bool) → (a && b) ≡ true → (a ≡ true) × (b ≡ true)
both_told true b e = (refl, e)
both_told false b e = cc

long_by : (files seals : Bool) (f : BucketState) (o : Option FileState) → f.file ≡ o → IsSound files seals f → f.torn ≡ false → f.base < f.good → IsTrue files → length (file_bytes f.file) ≡ f.good
long_by files seals f None is sound whole lt t = absurd (omega (arith, lt, (sound.absent (ap is_some is)).0))
long_by files seals f (Some g) is sound whole lt t = ap (λ o. length (file_bytes o)) is ∙ sound.no_tail g is whole t ∙ sound.sure g is

fresh_by : (files seals : Bool) (f : BucketState) (o : Option SealState) → f.fresh ≡ o → IsSound files seals f → f.torn ≡ false → f.base < f.good → IsSomeAnd o (IsSealOf files seals f) → IsFresh (files && seals) f
fresh_by files seals f None is sound whole lt h = absurd h
fresh_by files seals f (Some z) is sound whole lt h = record {
  seal = z;
  is = is;
  len = h.len;
  id = sound.seal_id z is;
  bytes = λ t. (let b = both_told files seals t in h.bytes b.0 b.1);
  long = λ t. long_by files seals f f.file refl sound whole lt (both_told files seals t).0;
}

-- the fresh seal of a file that has grown
pub fresh_of : (files seals : Bool) (f : BucketState) → IsSound files seals f → IsSealed files seals f → grows f ≡ true → IsFresh (files && seals) f
fresh_of files seals f sound sealed e =
    let lt : f.base < f.good = ltb-true f.base f.good e in
    fresh_by files seals f f.fresh refl sound sealed.whole lt (sealed.grown lt)

-- what is left of a file whose fresh seal was `o`
record IsLeft (f : BucketState) (o : Option SealState) : Type 0 where
  pub file : (published_with f o).file ≡ f.file
  pub good : (published_with f o).good ≡ f.good
  pub torn : (published_with f o).torn ≡ f.torn
  pub fresh : (published_with f o).fresh ≡ None

left_by : (f : BucketState) (o : Option SealState) → f.fresh ≡ o → IsLeft f o
left_by f None is = record { file = refl; good = refl; torn = refl; fresh = is }
left_by f (Some z) is = record { file = refl; good = refl; torn = refl; fresh = refl }

left : (f : BucketState) → IsLeft f f.fresh
left f = left_by f f.fresh refl

base_by : (files seals : Bool) (f : BucketState) (o : Option SealState) (y : Bool) → f.fresh ≡ o → grows f ≡ y → IsSound files seals f → IsSealed files seals f → (published_with f o).base ≡ cond y f.good f.base
base_by files seals f None true is e sound sealed = absurd (subst (λ x. IsSomeAnd x (IsSealOf files seals f)) is (sealed.grown (ltb-true f.base f.good e)))
base_by files seals f None false is e sound sealed = refl
base_by files seals f (Some z) true is e sound sealed = (subst (λ x. IsSomeAnd x (IsSealOf files seals f)) is (sealed.grown (ltb-true f.base f.good e))).len
base_by files seals f (Some z) false is e sound sealed = (let r = sound.fresh_len z is in let h = ltb-false f.base f.good e in omega (arith, r.0, r.1, h))

-- how much of it is committed then
pub published_base : (files seals : Bool) (f : BucketState) → IsSound files seals f → IsSealed files seals f → (published f).base ≡ cond (grows f) f.good f.base
published_base files seals f sound sealed = base_by files seals f f.fresh (grows f) refl refl sound sealed

pub published_fresh : (f : BucketState) → (published f).fresh ≡ None
published_fresh f = (left f).fresh

clean_by : (f : BucketState) (y : Bool) → grows f ≡ y → f.base ≤ f.good → f.good ≡ cond y f.good f.base
clean_by f true e h = refl
clean_by f false e h = (let g = ltb-false f.base f.good e in omega (arith, g, h))

-- it is clean then
pub published_clean : (files seals : Bool) (f : BucketState) → IsSound files seals f → IsSealed files seals f → ((published f).torn ≡ false) × ((published f).good ≡ (published f).base)
published_clean files seals f sound sealed = (
  (left f).torn ∙ sealed.whole,
  (left f).good ∙ clean_by f (grows f) refl sound.base_le_good ∙ sym (published_base files seals f sound sealed),
)

len_by : (told : Bool) (f : BucketState) (old : Option SealState) (y : Bool) → (grows f ≡ true → IsFresh told f) → grows f ≡ y → f.base ≡ seal_len old → cond y f.good f.base ≡ seal_len (cond y f.fresh old)
len_by told f old true fresh e same = (let w = fresh e in sym (ap seal_len w.is ∙ w.len))
len_by told f old false fresh e same = same

-- as many bytes of it are committed as lie under its seal
pub published_len : (files seals : Bool) (f : BucketState) (old : Option SealState) → IsSound files seals f → IsSealed files seals f → f.base ≡ seal_len old → (published f).base ≡ seal_len (seal_by (Some f) old)
published_len files seals f old sound sealed same =
    published_base files seals f sound sealed ∙ len_by (files && seals) f old (grows f) (λ e. fresh_of files seals f sound sealed e) refl same

bytes_by : (told : Bool) (f : BucketState) (old : Option SealState) (y : Bool) → (grows f ≡ true → IsFresh told f) → IsTrue told → grows f ≡ y → base_bytes f ≡ seal_bytes old
    → take (cond y f.good f.base) (file_bytes f.file) ≡ seal_bytes (cond y f.fresh old)
bytes_by told f old true fresh t e same =
    let w = fresh e in
    take_all f.good (file_bytes f.file) (omega (arith, w.long t)) ∙ sym (w.bytes t) ∙ ap seal_bytes (sym w.is)
bytes_by told f old false fresh t e same = same

-- and these bytes
pub published_bytes : (files seals : Bool) (f : BucketState) (old : Option SealState) → IsSound files seals f → IsSealed files seals f → IsTrue (files && seals) → base_bytes f ≡ seal_bytes old
    → base_bytes (published f) ≡ seal_bytes (seal_by (Some f) old)
published_bytes files seals f old sound sealed t same =
    ap (λ k. take k (file_bytes (published f).file)) (published_base files seals f sound sealed)
    ∙ ap (λ o. take (cond (grows f) f.good f.base) (file_bytes o)) (left f).file
    ∙ bytes_by (files && seals) f old (grows f) (λ e. fresh_of files seals f sound sealed e) t refl same
