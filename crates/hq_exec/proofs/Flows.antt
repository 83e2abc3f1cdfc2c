-- What is left of calls that run the operators of a slice.
use Rattle.std.proofs.Common.{◌≡◌, ◌∙◌, ℕ, Bool, true, false, ◌||◌, List, [], ◌∷◌, ◌++◌, Option, Some, None, Ok, Err, Result, refl, sym, ap, subst}
use Rattle.std.specs.Prelude.{IfOk, OnOk}
use Rattle.std.specs.Global.{Vec}
use Rattle.std.specs.List.{list_all}
use Rattle.hq_value.specs.declared.value.Value.{Value}
use Rattle.hq_value.specs.declared.kind.Kind.{Kind}
use Rattle.hq_block.specs.declared.skip.ColumnTest.{ColumnTest}
use Rattle.hq_algebra.specs.declared.expr.Expr.{Expr}
use Rattle.hq_algebra.specs.declared.op.Op.{Op}
use Rattle.hq_algebra.specs.declared.op.Op.TheVariants as op
use Rattle.hq_algebra.specs.Operators.{op_kinds}
use Rattle.hq_algebra.specs.Plans.{operators, filters_without_arith}
use Rattle.hq_fits.specs.Supplied.{AreFit}
use Rattle.hq_meaning.specs.Rows.{Row}
use Rattle.hq_exec.specs.declared.end.Ending.{Ending}
use Rattle.hq_exec.specs.Builds.{BuildsFit, kinds_at, kept_at, reads_at, lists_of, AreBuilt}
use Rattle.hq_exec.specs.Feeding.{Fed}
use Rattle.hq_exec.specs.Files.{HeldState, kept_in, reads_in, sent_rows}
use Rattle.hq_exec.specs.Inputs.{IsOver, IsBeside}
use Rattle.hq_exec.specs.Lines.{LineState, CanTake, Takes}
use Rattle.hq_exec.specs.Outs.{OutState}
use Rattle.hq_exec.specs.Ran.{HasPut, Ran, Built, Flowed, Listed}
use Rattle.hq_exec.specs.Skips.{tests_under}
use Rattle.hq_exec.specs.Slices.{HasInputs, HasSeals, HasOwn}
use Rattle.hq_exec.proofs.Feeds.{fed-none, fed-rows}
use Rattle.hq_exec.proofs.Whole.{built-over, built-beside, flowed-whole}

-- what is read of a leaf
module _ {S : Type 0} (faults given : S → ℕ) (sound : S → Type 0) (told : Type 0) (h : HeldState) where
  abbrev pub FedLeaf : Op → Option Expr → S → S → LineState → LineState → Type 0
  FedLeaf leaf above a b x y = Fed faults given sound told (kinds_at leaf) (kept_at leaf above h) [] (reads_at leaf above h) 0 a b x y

  pub scan-so : (r : Result Unit Ending) (leaf : Op) (table : ℕ) (kinds listed : List Kind) (above : Option Expr) (found tests : List ColumnTest) (a b : S) (x y : LineState) → leaf ≡ op.Scan table kinds → listed ≡ kinds → found ≡ tests → tests ≡ tests_under listed above
      → OnOk r (Fed faults given sound told kinds (kept_in found h table) [] (reads_in found h table) 0 a b x y) → OnOk r (FedLeaf leaf above a b x y)
  scan-so (Ok q) leaf table kinds listed above found tests a b x y is same all are f =
      subst (λ (l : Op). FedLeaf l above a b x y) (sym is)
      (subst (λ (ts : List ColumnTest). Fed faults given sound told kinds (kept_in ts h table) [] (reads_in ts h table) 0 a b x y) (all ∙ are ∙ ap (λ (ks : List Kind). tests_under ks above) same) f)
  scan-so (Err e) leaf table kinds listed above found tests a b x y is same all are f = tt

  pub received : (leaf : Op) (slice : ℕ) (kinds : List Kind) (above : Option Expr) (rows : List Row) (a : S) (x y : LineState) → leaf ≡ op.Receive slice kinds → rows ≡ sent_rows h slice → AreFit kinds rows → Takes kinds rows x y → CanTake kinds y
      → FedLeaf leaf above a a x y
  received leaf slice kinds above rows a x y is are fit takes can =
      subst (λ (l : Op). FedLeaf l above a a x y) (sym is) (subst (λ (l : List Row). Fed faults given sound told kinds l [] 0 0 a a x y) are (fed-rows faults given sound told kinds rows a x y fit takes can))

  -- an operator of another kind, which no leaf is
  pub nowhere : (leaf : Op) (above : Option Expr) (a : S) (x : LineState) → ((table : ℕ) (kinds : List Kind) → leaf ≡ op.Scan table kinds → ⊥) → ((slice : ℕ) (kinds : List Kind) → leaf ≡ op.Receive slice kinds → ⊥) → CanTake (kinds_at leaf) x → FedLeaf leaf above a a x x
  nowhere (op.Scan table kinds) above a x scan receive can = absurd (scan table kinds refl)
  nowhere (op.Receive slice kinds) above a x scan receive can = absurd (receive slice kinds refl)
  nowhere (op.Filter' c p input) above a x scan receive can = fed-none faults given sound told [] [] 0 a x can
  nowhere (op.Project' items p input) above a x scan receive can = fed-none faults given sound told [] [] 0 a x can
  nowhere (op.Join' lk rk p left q right) above a x scan receive can = fed-none faults given sound told [] [] 0 a x can
  nowhere (op.Partial' keys aggs p input) above a x scan receive can = fed-none faults given sound told [] [] 0 a x can
  nowhere (op.Final' n aggs p input) above a x scan receive can = fed-none faults given sound told [] [] 0 a x can
  nowhere (op.Distinct' p input) above a x scan receive can = fed-none faults given sound told [] [] 0 a x can
  nowhere (op.Sort' order limit p input) above a x scan receive can = fed-none faults given sound told [] [] 0 a x can

-- right rows that are all that was added fit
pub all-fit : (told : Type 0) (h : HeldState) (o : Op) (failed : Bool) (start builds slice : List (Vec (List Value))) → start ≡ [] → slice ≡ builds → AreBuilt told h o failed start builds → failed ≡ false → BuildsFit o (lists_of slice)
all-fit told h o failed start builds slice none same built e =
    subst (λ (l : List (Vec (List Value))). BuildsFit o (lists_of l)) (sym (same ∙ built.added ∙ ap (λ (l : List (Vec (List Value))). l ++ built.builds) none)) (built.fit e)

module _ {S : Type 0} (faulting given : S → ℕ) (sound : S → Type 0) (told : Type 0) (h : HeldState) (o : Op) where
  -- a list of what was put
  pub listed-of : (builds : List (List Row)) (failed fault : Bool) (a b : S) (before after : OutState) (rows : List Row) → Ran faulting given sound told h o builds failed fault a b before after → before.holds [] → ((l : List Row) → after.holds l → rows ≡ l)
      → Listed faulting given sound told h o builds failed fault a b rows
  listed-of builds failed fault a b before after rows ran none is = record {
    read = ran.read;
    stays = ran.stays;
    faulting = ran.faulting;
    fit = λ e f. fits (ran.put e f);
    are = λ e f. same (ran.put e f);
  }
    where
      fits : {all : List Row} → HasPut told o all before after → (kinds : List Kind) → op_kinds o ≡ Some kinds → AreFit kinds rows
      fits p kinds typed = subst (λ (l : List Row). AreFit kinds l) (sym (is p.added (p.given [] none))) (p.fit kinds typed)

      same : {all : List Row} → HasPut told o all before after → told → rows ≡ all
      same p t = is p.added (p.given [] none) ∙ p.are t

  pub over-so : (r : Result Bool Ending) (x : Op) (cond : Option Expr) (a b : S) (before after : List (Vec (List Value))) → IsOver o x cond → IfOk r (λ fault. Built faulting given sound told h x fault a b before after)
      → IfOk r (λ fault. Built faulting given sound told h o fault a b before after)
  over-so (Ok fault) x cond a b before after over f = built-over faulting given sound told h o x cond fault a b before after over f
  over-so (Err e) x cond a b before after over f = tt

  module _ (inputs : HasInputs h o) (stand : told → HasSeals h o × HasOwn h o) (fine : list_all filters_without_arith (operators o) ≡ true) where
    -- the right rows were found, and then the leaf was read
    pub flow-so : (r : Result Bool Ending) (failed : Bool) (start builds slice : List (Vec (List Value))) (a b c : S) (before after : OutState) → start ≡ [] → slice ≡ builds → Built faulting given sound told h o failed a b start builds
        → IfOk r (λ fault. Ran faulting given sound told h o (lists_of slice) failed fault b c before after) → IfOk r (λ fault. Flowed faulting given sound told h o fault a c before after)
    flow-so (Ok fault) failed start builds slice a b c before after none same built ran =
        flowed-whole faulting given sound told h o inputs stand fine failed fault builds a b c before after
        (subst (λ (l : List (Vec (List Value))). Built faulting given sound told h o failed a b l builds) none built) (subst (λ (l : List (Vec (List Value))). Ran faulting given sound told h o (lists_of l) failed fault b c before after) same ran)
    flow-so (Err e) failed start builds slice a b c before after none same built ran = tt

-- the right rows of a Join: those of its right side's Joins were found, its rows listed, and then those of the left side's
module _ {S : Type 0} (faulting given : S → ℕ) (sound : S → Type 0) (told : Type 0) (h : HeldState) where
  pub beside-built : (o l r : Op) (failed fault more either : Bool) (start inner slice : List (Vec (List Value))) (v : Vec (List Value)) (a b c d : S) (before mid after : List (Vec (List Value))) → IsBeside o l r
      → HasInputs h r → (told → HasSeals h r × HasOwn h r) → list_all filters_without_arith (operators r) ≡ true → either ≡ (fault || more) → start ≡ [] → slice ≡ inner
      → Built faulting given sound told h r failed a b start inner → Listed faulting given sound told h r (lists_of slice) failed fault b c v.items → mid ≡ before ++ v ∷ [] → Built faulting given sound told h l more c d mid after
      → Built faulting given sound told h o either a d before after
  beside-built o l r failed fault more either start inner slice v a b c d before mid after beside inputs stand fine is none same right listed pushed left =
      subst (λ (q : Bool). Built faulting given sound told h o q a d before after) (sym is)
      (built-beside faulting given sound told h o l r failed fault more inner v a b c d before mid after beside inputs stand fine
      (subst (λ (x : List (Vec (List Value))). Built faulting given sound told h r failed a b x inner) none right) (subst (λ (x : List (Vec (List Value))). Listed faulting given sound told h r (lists_of x) failed fault b c v.items) same listed) pushed left)
