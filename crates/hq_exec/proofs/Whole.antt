-- The right rows of the Joins, and then the rows of the leaf, are all of a slice.
use Rattle.std.proofs.Common.{◌≡◌, ◌∙◌, ℕ, ◌+◌, ◌<◌, ◌^◌, Bool, true, false, cond, ◌||◌, List, [], ◌∷◌, ◌++◌, map, Option, Some, None, append_assoc, append-nil, length, length-append, suc, ◌&&◌, refl, sym, ap, subst, arith, lit<}
use Rattle.std.specs.Prelude.{flat_map, Contains}
use Rattle.std.proofs.lemmas.List.Elements.{Contains-append_left, Contains-append_right}
use Rattle.std.proofs.lemmas.List.Folds.{list_all-append}
use Rattle.std.specs.Global.{Vec}
use Rattle.std.specs.List.{AllByRecursion, list_all, range_with_len}
use Rattle.hq_value.specs.declared.value.Value.{Value}
use Rattle.hq_value.specs.declared.kind.Kind.{Kind}
use Rattle.hq_value.specs.Causes.{GoesOnGiving}
use Rattle.hq_value.proofs.Counting.{giving_more}
use Rattle.hq_algebra.specs.declared.expr.Expr.{Expr}
use Rattle.hq_algebra.specs.declared.op.Op.{Op}
use Rattle.hq_algebra.specs.declared.op.Op.TheVariants as op
use Rattle.hq_algebra.specs.Operators.{op_kinds}
use Rattle.hq_algebra.specs.Plans.{operators, filters_without_arith}
use Rattle.hq_fits.specs.Supplied.{AreFit}
use Rattle.hq_lane.specs.Scans.{IsFile}
use Rattle.hq_meaning.specs.Rows.{Row}
use Rattle.hq_exec.specs.Builds.{builds_read, leaf_kept, leaf_reads, leaf_rows, lists_of, AreBuilt}
use Rattle.hq_exec.specs.Files.{HeldState, here, has_bucket, lanes_in, lanes_bytes, own_files, bucket_files, given_files, files_of}
use Rattle.hq_exec.specs.Outs.{OutState}
use Rattle.hq_exec.specs.Ran.{HasRead, HasPut, Ran, Built, Flowed, Listed}
use Rattle.hq_exec.specs.Slices.{IsThere, IsGiven, HasInputs, HasFiles, SealsStand, HasSeals, OwnStand, HasOwn, slice_rows, slice_fault, slice_reads}
use Rattle.hq_exec.specs.Stages.{flowed, faulted, stages_of, builds_of, builds_fault, leaf_of}
use Rattle.hq_exec.specs.Inputs.{IsAlone, IsOver, IsBeside}
use Rattle.hq_exec.proofs.Feeds.{goes-more, given-none}
use Rattle.hq_exec.proofs.Meaning.{means, faults}
use Rattle.hq_exec.proofs.Passed.{LeafStands, kept-flows, kept-faults}
use Rattle.hq_exec.proofs.Leaves.{reads-are, leaf-has}
use Rattle.hq_exec.proofs.Rows.{both-parts, joined-parts}

-- what is read in two parts
pub read-both : {S : Type 0} (faulting given : S → ℕ) (sound : S → Type 0) (told : Type 0) (m n total : ℕ) (a b c : S) → m + n ≡ total → HasRead faulting given sound told m a b → HasRead faulting given sound told n b c → HasRead faulting given sound told total a c
read-both faulting given sound told m n total a b c e f g = record {
  gave = f.gave + g.gave;
  is = λ t. (λ i. f.is t i + g.is t i) ∙ e;
  goes_on = goes-more faulting given sound told [] f.gave g.gave a b c f.goes_on g.goes_on;
}

-- the files of the leaf are blocks of its kinds
module _ (h : HeldState) where
  given-bucket : (table b : ℕ) (kinds : List Kind) → HasFiles kinds (lanes_bytes (lanes_in h table) b) → HasFiles kinds (own_files h.own table b) → AllByRecursion (IsFile kinds) (given_files (lanes_in h table) h table b)
  given-bucket table b kinds seals own = by (has_bucket h.buckets b)
    where
      by : (has : Bool) → AllByRecursion (IsFile kinds) (cond has (bucket_files (lanes_in h table) h table b) [])
      by true = joined-parts (IsFile kinds) (lanes_bytes (lanes_in h table) b) (own_files h.own table b) seals own
      by false = tt

  each-bucket : (table : ℕ) (kinds : List Kind) → ((b : ℕ) → HasFiles kinds (lanes_bytes (lanes_in h table) b)) → ((b : ℕ) → b < 16 → HasFiles kinds (own_files h.own table b)) → (bs : List ℕ) → AllByRecursion (λ b. b < 16) bs
      → AllByRecursion (IsFile kinds) (flat_map (given_files (lanes_in h table) h table) bs)
  each-bucket table kinds seals own [] low = tt
  each-bucket table kinds seals own (b ∷ bs) low =
      joined-parts (IsFile kinds) (given_files (lanes_in h table) h table b) (flat_map (given_files (lanes_in h table) h table) bs) (given-bucket table b kinds (seals b) (own b low.0)) (each-bucket table kinds seals own bs low.1)

  low : AllByRecursion (λ b. b < 16) (range_with_len 0 16)
  low = (lit< tt, (lit< tt, (lit< tt, (lit< tt, (lit< tt, (lit< tt, (lit< tt, (lit< tt, (lit< tt, (lit< tt, (lit< tt, (lit< tt, (lit< tt, (lit< tt, (lit< tt, (lit< tt, tt))))))))))))))))

  leaf-stands : (o : Op) → HasInputs h o → HasSeals h o → HasOwn h o → LeafStands h (leaf_of o)
  leaf-stands o inputs seals own = by (leaf_of o) (leaf-has (IsGiven h) o inputs) (leaf-has (SealsStand h) o seals) (leaf-has (OwnStand h) o own)
    where
      by : (l : Op) → IsGiven h l → SealsStand h l → OwnStand h l → LeafStands h l
      by (op.Scan table kinds) given s w =
          subst (λ (k : List Kind). AllByRecursion (IsFile k) (files_of h table)) (sym given.kinds_are)
          (each-bucket table kinds s w (range_with_len 0 16) low)
      by (op.Receive slice kinds) given s w = tt
      by (op.Filter' c p input) given s w = tt
      by (op.Project' items p input) given s w = tt
      by (op.Join' lk rk p left q right) given s w = tt
      by (op.Partial' keys aggs p input) given s w = tt
      by (op.Final' n aggs p input) given s w = tt
      by (op.Distinct' p input) given s w = tt
      by (op.Sort' order limit p input) given s w = tt

  -- what the leaf gives passes through the stages as all rows of it would
  pub all-flow : (o : Op) → HasInputs h o → HasSeals h o → HasOwn h o → (builds : List (List Row)) → builds ≡ builds_of o (here h) → flowed (stages_of o builds) (leaf_kept o None h) ≡ slice_rows h o
  all-flow o inputs seals own builds are = ap (λ b. flowed (stages_of o b) (leaf_kept o None h)) are ∙ kept-flows h o (builds_of o (here h)) None (leaf-stands o inputs seals own) ∙ means h o

  pub all-fault : (o : Op) → HasInputs h o → HasSeals h o → HasOwn h o → list_all filters_without_arith (operators o) ≡ true → (builds : List (List Row)) → builds ≡ builds_of o (here h) → builds_fault o (here h) ≡ false
      → faulted (stages_of o builds) (leaf_kept o None h) ≡ slice_fault h o
  all-fault o inputs seals own fine builds are none =
      ap (λ b. faulted (stages_of o b) (leaf_kept o None h)) are ∙ kept-faults h o (builds_of o (here h)) None (leaf-stands o inputs seals own)
      ∙ ap (λ b. b || faulted (stages_of o (builds_of o (here h))) (leaf_rows o h)) (sym none) ∙ sym (faults h o fine)

  pub build-fault : (o : Op) → list_all filters_without_arith (operators o) ≡ true → builds_fault o (here h) ≡ true → slice_fault h o ≡ true
  build-fault o fine e = faults h o fine ∙ ap (λ b. b || faulted (stages_of o (builds_of o (here h))) (leaf_rows o h)) e

-- a slice faults where an evaluation below a right side does, or one of the stages over the rows that are kept
pub whole-fault-is : (h : HeldState) (o : Op) → HasInputs h o → HasSeals h o → HasOwn h o → list_all filters_without_arith (operators o) ≡ true
    → slice_fault h o ≡ (builds_fault o (here h) || faulted (stages_of o (builds_of o (here h))) (leaf_kept o None h))
whole-fault-is h o inputs seals own fine =
    faults h o fine ∙ ap (λ b. builds_fault o (here h) || b) (sym (kept-faults h o (builds_of o (here h)) None (leaf-stands h o inputs seals own)))

-- of right rows that are all that was added
only-built : (told : Type 0) (h : HeldState) (o : Op) (builds : List (Vec (List Value))) → (b : AreBuilt told h o false [] builds) → told → lists_of builds ≡ builds_of o (here h)
only-built told h o builds b t = ap lists_of b.added ∙ b.are t refl

module _ {S : Type 0} (faulting given : S → ℕ) (sound : S → Type 0) (told : Type 0) (h : HeldState) (o : Op) (inputs : HasInputs h o) (stand : told → HasSeals h o × HasOwn h o) (fine : list_all filters_without_arith (operators o) ≡ true) where
  -- whether an evaluation faulted
  whole-fault : (failed fault : Bool) (builds : List (Vec (List Value))) → AreBuilt told h o failed [] builds → (failed ≡ true → fault ≡ true) → (failed ≡ false → told → fault ≡ faulted (stages_of o (lists_of builds)) (leaf_kept o None h)) → told → fault ≡ slice_fault h o
  whole-fault true fault builds b stays by t = stays refl ∙ sym (build-fault h o fine (sym (b.faults t)))
  whole-fault false fault builds b stays by t = by refl t ∙ all-fault h o inputs (stand t).0 (stand t).1 fine (lists_of builds) (only-built told h o builds b t) (sym (b.faults t))

  whole-put : (failed fault : Bool) (builds : List (Vec (List Value))) (before after : OutState) → AreBuilt told h o failed [] builds → (failed ≡ true → fault ≡ true) → (failed ≡ false → fault ≡ false → HasPut told o (flowed (stages_of o (lists_of builds)) (leaf_kept o None h)) before after)
      → fault ≡ false → HasPut told o (slice_rows h o) before after
  whole-put true fault builds before after b stays put none = let no : false ≡ true = sym none ∙ stays refl in absurd cc
  whole-put false fault builds before after b stays put none =
      let p : HasPut told o (flowed (stages_of o (lists_of builds)) (leaf_kept o None h)) before after = put refl none in
      record { added = p.added; given = p.given; fit = p.fit; are = λ t. p.are t ∙ all-flow h o inputs (stand t).0 (stand t).1 (lists_of builds) (only-built told h o builds b t) }

  -- the right rows were found, and then the leaf was read
  pub flowed-whole : (failed fault : Bool) (builds : List (Vec (List Value))) (a b c : S) (before after : OutState) → Built faulting given sound told h o failed a b [] builds → Ran faulting given sound told h o (lists_of builds) failed fault b c before after
      → Flowed faulting given sound told h o fault a c before after
  flowed-whole failed fault builds a b c before after built ran = record {
    read = read-both faulting given sound told (builds_read o h) (leaf_reads o None h) (slice_reads h o) a b c (sym (reads-are h o None)) built.read ran.read;
    faulting = whole-fault failed fault builds built.built ran.stays ran.faulting;
    put = whole-put failed fault builds before after built.built ran.stays ran.put;
  }

  -- the same of rows that are listed
  pub listed-read : (failed fault : Bool) (builds : List (Vec (List Value))) (a b c : S) (rows : List Row) → Built faulting given sound told h o failed a b [] builds → Listed faulting given sound told h o (lists_of builds) failed fault b c rows
      → HasRead faulting given sound told (slice_reads h o) a c
  listed-read failed fault builds a b c rows built listed = read-both faulting given sound told (builds_read o h) (leaf_reads o None h) (slice_reads h o) a b c (sym (reads-are h o None)) built.read listed.read

  pub listed-fault : (failed fault : Bool) (builds : List (Vec (List Value))) (a b c : S) (rows : List Row) → Built faulting given sound told h o failed a b [] builds → Listed faulting given sound told h o (lists_of builds) failed fault b c rows
      → told → fault ≡ slice_fault h o
  listed-fault failed fault builds a b c rows built listed = whole-fault failed fault builds built.built listed.stays listed.faulting

  pub listed-rows : (failed fault : Bool) (builds : List (Vec (List Value))) (a b c : S) (rows : List Row) → Built faulting given sound told h o failed a b [] builds → Listed faulting given sound told h o (lists_of builds) failed fault b c rows
      → fault ≡ false → told → rows ≡ slice_rows h o
  listed-rows true fault builds a b c rows built listed none t = let no : false ≡ true = sym none ∙ listed.stays refl in absurd cc
  listed-rows false fault builds a b c rows built listed none t = listed.are refl none t ∙ all-flow h o inputs (stand t).0 (stand t).1 (lists_of builds) (only-built told h o builds built.built t)

  pub listed-fit : (failed fault : Bool) (builds : List (Vec (List Value))) (a b c : S) (rows : List Row) → Built faulting given sound told h o failed a b [] builds → Listed faulting given sound told h o (lists_of builds) failed fault b c rows
      → fault ≡ false → (kinds : List Kind) → op_kinds o ≡ Some kinds → AreFit kinds rows
  listed-fit true fault builds a b c rows built listed none = let no : false ≡ true = sym none ∙ listed.stays refl in absurd cc
  listed-fit false fault builds a b c rows built listed none = listed.fit refl none

-- the right rows of an operator without inputs, of one over another, and of a Join
module _ {S : Type 0} (faulting given : S → ℕ) (sound : S → Type 0) (told : Type 0) (h : HeldState) where
  pub built-alone : (o : Op) (a : S) (before : List (Vec (List Value))) → IsAlone o → Built faulting given sound told h o false a a before before
  built-alone o a before alone = record {
    read = record { gave = 0; is = λ t. sym (alone.reads h); goes_on = given-none faulting given sound told [] a };
    built = record { faults = λ t. sym (alone.fault (here h)); builds = []; added = sym (append-nil before); fit = λ e. alone.fit []; are = λ t e. sym (alone.builds (here h)) };
  }

  pub built-over : (o x : Op) (cond : Option Expr) (fault : Bool) (a b : S) (before after : List (Vec (List Value))) → IsOver o x cond → Built faulting given sound told h x fault a b before after → Built faulting given sound told h o fault a b before after
  built-over o x cond fault a b before after over built = record {
    read = record { gave = built.read.gave; is = λ t. built.read.is t ∙ sym (over.reads h); goes_on = built.read.goes_on };
    built = record {
      faults = λ t. built.built.faults t ∙ sym (over.fault (here h));
      builds = built.built.builds;
      added = built.built.added;
      fit = λ e. over.fit (lists_of built.built.builds) (built.built.fit e);
      are = λ t e. built.built.are t e ∙ sym (over.builds (here h));
    };
  }

  or-parts : (a b : Bool) → (a || b) ≡ false → (a ≡ false) × (b ≡ false)
  or-parts true b e = absurd cc
  or-parts false b e = (refl, e)

  pub built-beside : (o l r : Op) (failed fault more : Bool) (inner : List (Vec (List Value))) (v : Vec (List Value)) (a b c d : S) (before mid after : List (Vec (List Value))) → IsBeside o l r
      → HasInputs h r → (told → HasSeals h r × HasOwn h r) → list_all filters_without_arith (operators r) ≡ true
      → Built faulting given sound told h r failed a b [] inner → Listed faulting given sound told h r (lists_of inner) failed fault b c v.items → mid ≡ before ++ v ∷ [] → Built faulting given sound told h l more c d mid after
      → Built faulting given sound told h o (fault || more) a d before after
  built-beside o l r failed fault more inner v a b c d before mid after beside inputs stand fine right listed pushed left = record {
    read = read-both faulting given sound told (slice_reads h r) (builds_read l h) (builds_read o h) a c d (sym (beside.reads h)) (listed-read faulting given sound told h r inputs stand fine failed fault inner a b c v.items right listed) left.read;
    built = record {
      faults = λ t. (λ i. listed-fault faulting given sound told h r inputs stand fine failed fault inner a b c v.items right listed t i || left.built.faults t i) ∙ sym (beside.fault (here h));
      builds = v ∷ left.built.builds;
      added = left.built.added ∙ ap (λ (xs : List (Vec (List Value))). xs ++ left.built.builds) pushed ∙ append_assoc before (v ∷ []) left.built.builds;
      fit = λ e. beside.fit (lists_of (v ∷ left.built.builds)) (listed-fit faulting given sound told h r inputs stand fine failed fault inner a b c v.items right listed (or-parts fault more e).0) (left.built.fit (or-parts fault more e).1);
      are = λ t e. (λ i. listed-rows faulting given sound told h r inputs stand fine failed fault inner a b c v.items right listed (or-parts fault more e).0 t i ∷ left.built.are t (or-parts fault more e).1 i) ∙ sym (beside.builds (here h));
    };
  }

-- what holds of the operators of one over another, or of a Join, holds of those of its inputs
pub input-has : (P : Op → Type 0) (o x : Op) → operators o ≡ o ∷ operators x → AllByRecursion P (operators o) → AllByRecursion P (operators x)
input-has P o x e all = by (subst (λ (l : List Op). AllByRecursion P l) e all)
  where
    by : P o × AllByRecursion P (operators x) → AllByRecursion P (operators x)
    by h = h.1

pub sides-have : (P : Op → Type 0) (o l r : Op) → operators o ≡ o ∷ (operators l ++ operators r) → AllByRecursion P (operators o) → AllByRecursion P (operators l) × AllByRecursion P (operators r)
sides-have P o l r e all = both-parts P (operators l) (operators r) (by (subst (λ (l : List Op). AllByRecursion P l) e all))
  where
    by : P o × AllByRecursion P (operators l ++ operators r) → AllByRecursion P (operators l ++ operators r)
    by h = h.1

both-true : (a b : Bool) → (a && b) ≡ true → (a ≡ true) × (b ≡ true)
both-true true true e = (refl, refl)
both-true true false e = absurd cc
both-true false b e = absurd cc

pub input-fine : (o x : Op) → operators o ≡ o ∷ operators x → list_all filters_without_arith (operators o) ≡ true → list_all filters_without_arith (operators x) ≡ true
input-fine o x e fine = (both-true (filters_without_arith o) (list_all filters_without_arith (operators x)) (ap (list_all filters_without_arith) (sym e) ∙ fine)).1

pub sides-fine : (o l r : Op) → operators o ≡ o ∷ (operators l ++ operators r) → list_all filters_without_arith (operators o) ≡ true → (list_all filters_without_arith (operators l) ≡ true) × (list_all filters_without_arith (operators r) ≡ true)
sides-fine o l r e fine = both-true (list_all filters_without_arith (operators l)) (list_all filters_without_arith (operators r))
    (sym (list_all-append filters_without_arith (operators l) (operators r)) ∙ (both-true (filters_without_arith o) (list_all filters_without_arith (operators l ++ operators r)) (ap (list_all filters_without_arith) (sym e) ∙ fine)).1)

-- they are among them
pub input-in : (o x : Op) → operators o ≡ o ∷ operators x → (y : Op) → Contains (operators x) y → Contains (operators o) y
input-in o x e y c = subst (λ (l : List Op). Contains l y) (sym e) (Contains-append_right (o ∷ []) (operators x) y c)

pub left-in : (o l r : Op) → operators o ≡ o ∷ (operators l ++ operators r) → (y : Op) → Contains (operators l) y → Contains (operators o) y
left-in o l r e y c = subst (λ (xs : List Op). Contains xs y) (sym e) (Contains-append_right (o ∷ []) (operators l ++ operators r) y (Contains-append_left (operators l) (operators r) y c))

pub right-in : (o l r : Op) → operators o ≡ o ∷ (operators l ++ operators r) → (y : Op) → Contains (operators r) y → Contains (operators o) y
right-in o l r e y c = subst (λ (xs : List Op). Contains xs y) (sym e) (Contains-append_right (o ∷ []) (operators l ++ operators r) y (Contains-append_right (operators l) (operators r) y c))

-- they are fewer
pub input-less : (o x : Op) → operators o ≡ o ∷ operators x → length (operators x) < length (operators o)
input-less o x e = let n : length (operators o) ≡ suc (length (operators x)) = ap length e in omega arith

pub left-less : (o l r : Op) → operators o ≡ o ∷ (operators l ++ operators r) → length (operators l) < length (operators o)
left-less o l r e = let n : length (operators o) ≡ suc (length (operators l ++ operators r)) = ap length e in omega (arith, length-append (operators l) (operators r))

pub right-less : (o l r : Op) → operators o ≡ o ∷ (operators l ++ operators r) → length (operators r) < length (operators o)
right-less o l r e = let n : length (operators o) ≡ suc (length (operators l ++ operators r)) = ap length e in omega (arith, length-append (operators l) (operators r))
