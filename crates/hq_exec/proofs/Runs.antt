-- A leaf that was read, and pipes that were finished.
use Rattle.std.proofs.Common.{◌≡◌, ◌∙◌, ℕ, ◌+◌, Bool, true, false, ◌||◌, List, [], ◌∷◌, ◌++◌, append_assoc, append-nil, Option, Some, None, refl, sym, ap, subst, arith}
use Rattle.hq_value.specs.declared.value.Value.{Value}
use Rattle.hq_value.specs.declared.kind.Kind.{Kind}
use Rattle.hq_algebra.specs.declared.op.Op.{Op}
use Rattle.hq_algebra.specs.Operators.{op_kinds}
use Rattle.hq_fits.specs.Supplied.{AreFit}
use Rattle.hq_meaning.specs.Rows.{Row}
use Rattle.hq_ops.specs.declared.pipe.Pipe.{Pipe}
use Rattle.hq_algebra.specs.declared.expr.Expr.{Expr}
use Rattle.hq_exec.specs.Builds.{BuildsFit, kinds_at, kept_at, reads_at, leaf_kinds, leaf_kept, leaf_reads}
use Rattle.hq_exec.specs.Feeding.{Fed}
use Rattle.hq_exec.specs.Files.{HeldState}
use Rattle.hq_exec.specs.Lines.{LineState, HasFlowed, HasRun, IsReady, CanTake, HasGiven, HasEnded, Finishes}
use Rattle.hq_exec.specs.Outs.{OutState, Accepts}
use Rattle.hq_exec.proofs.Adding.{adds-both}
use Rattle.hq_exec.specs.Ran.{HasRead, HasPut, Ran}
use Rattle.hq_exec.specs.Stages.{Stage, flowed, faulted, stages_of, leaf_of, above_of}
use Rattle.hq_exec.proofs.Carrying.{carries}

-- the pipes before any row
begun : (o : Op) (builds : List (List Row)) (kinds : List Kind) (pipes : List Pipe) → op_kinds o ≡ Some kinds → BuildsFit o builds → HasFlowed (stages_of o builds) pipes [] [] → HasRun (leaf_kinds o) kinds (stages_of o builds) [] [] false pipes
begun o builds kinds pipes typed fit flow = record { carries = carries o builds kinds typed fit; fit = tt; runs = flow }

pub begun-ready : (o : Op) (builds : List (List Row)) (kinds leaf : List Kind) (failed : Bool) (pipes : List Pipe) (out : OutState) → op_kinds o ≡ Some kinds → leaf ≡ leaf_kinds o → (failed ≡ false → BuildsFit o builds) → HasFlowed (stages_of o builds) pipes [] [] → Accepts out.kinds kinds
    → CanTake leaf (record { failed = failed; pipes = pipes; out = out })
begun-ready o builds kinds leaf true pipes out typed is fit flow accepts = λ e. let no : true ≡ false = e in absurd cc
begun-ready o builds kinds leaf false pipes out typed is fit flow accepts = λ e. record {
  out = kinds;
  stages = stages_of o builds;
  pushed = [];
  put = [];
  run = subst (λ (k : List Kind). HasRun k kinds (stages_of o builds) [] [] false pipes) (sym is) (begun o builds kinds pipes typed (fit refl) flow);
  accepts = accepts;
}

module _ {S : Type 0} (faulting given : S → ℕ) (sound : S → Type 0) (told : Type 0) (h : HeldState) (o : Op) (builds : List (List Row)) where
  all-read : (all : List Row) (total : ℕ) (a b : S) (x y : LineState) → Fed faulting given sound told (leaf_kinds o) all [] total 0 a b x y → HasRead faulting given sound told total a b
  all-read all total a b x y f = record { gave = f.gave; is = λ t. by (f.reads_are t); goes_on = f.goes_on }
    where
      by : total ≡ f.gave + 0 → f.gave ≡ total
      by e = omega arith

  -- what was read of the leaf
  pub fed-leaf : (leaf : Op) (above : Option Expr) (a b : S) (x y : LineState) → leaf ≡ leaf_of o → above ≡ above_of o None
      → Fed faulting given sound told (kinds_at leaf) (kept_at leaf above h) [] (reads_at leaf above h) 0 a b x y → Fed faulting given sound told (leaf_kinds o) (leaf_kept o None h) [] (leaf_reads o None h) 0 a b x y
  fed-leaf leaf above a b x y e f fed =
      subst (λ (l : Op). Fed faulting given sound told (kinds_at l) (kept_at l (above_of o None) h) [] (reads_at l (above_of o None) h) 0 a b x y) e
      (subst (λ (v : Option Expr). Fed faulting given sound told (kinds_at leaf) (kept_at leaf v h) [] (reads_at leaf v h) 0 a b x y) f fed)

  pub ran-of : (failed fault : Bool) (kinds : List Kind) (pipes : List Pipe) (a b : S) (before : OutState) (line : LineState) (after : OutState) → op_kinds o ≡ Some kinds → (failed ≡ false → BuildsFit o builds) → HasFlowed (stages_of o builds) pipes [] []
      → Fed faulting given sound told (leaf_kinds o) (leaf_kept o None h) [] (leaf_reads o None h) 0 a b (record { failed = failed; pipes = pipes; out = before }) line
      → ((ks found : List Kind) (stages : List Stage) (pushed put : List Row) → HasRun ks found stages pushed put line.failed line.pipes → Finishes fault found stages pushed put line.out after)
      → Ran faulting given sound told h o builds failed (failed || fault) a b before after
  ran-of true fault kinds pipes a b before line after typed fit flow fed finish = record {
    read = all-read (leaf_kept o None h) (leaf_reads o None h) a b _ line fed;
    stays = λ e. refl;
    faulting = λ e. absurd cc;
    put = λ e. absurd cc;
  }
  ran-of false fault kinds pipes a b before line after typed fit flow fed finish = record {
    read = all-read (leaf_kept o None h) (leaf_reads o None h) a b _ line fed;
    stays = λ e. absurd cc;
    faulting = λ e t. faults fault ended ∙ ap (faulted (stages_of o builds)) (sym (fed.rows_are t ∙ append-nil fed.rows));
    put = λ e none. puts fault ended none;
  }
    where
      gave : HasGiven (leaf_kinds o) kinds (stages_of o builds) fed.rows [] (record { failed = false; pipes = pipes; out = before }) line
      gave = fed.takes kinds (stages_of o builds) [] [] (begun o builds kinds pipes typed (fit refl) flow)

      ended : Finishes fault kinds (stages_of o builds) fed.rows gave.added line.out after
      ended = finish (leaf_kinds o) kinds (stages_of o builds) fed.rows gave.added gave.run

      faults : (f : Bool) → Finishes f kinds (stages_of o builds) fed.rows gave.added line.out after → f ≡ faulted (stages_of o builds) fed.rows
      faults true e = sym e
      faults false e = sym e.fine

      puts : (f : Bool) → Finishes f kinds (stages_of o builds) fed.rows gave.added line.out after → f ≡ false → HasPut told o (flowed (stages_of o builds) (leaf_kept o None h)) before after
      puts true e none = absurd cc
      puts false e none = record {
        added = gave.added ++ e.added;
        given = adds-both gave.added e.added before line.out after gave.given e.given;
        fit = λ ks is. let same : kinds ≡ ks = cc in subst (λ (k : List Kind). AreFit k (gave.added ++ e.added)) same e.fit;
        are = λ t. e.all ∙ ap (flowed (stages_of o builds)) (sym (fed.rows_are t ∙ append-nil fed.rows));
      }

  -- it faulted before or now
  pub ran-either : (failed fault either : Bool) (a b : S) (before after : OutState) → either ≡ (failed || fault) → Ran faulting given sound told h o builds failed (failed || fault) a b before after → Ran faulting given sound told h o builds failed either a b before after
  ran-either failed fault either a b before after is ran = subst (λ (q : Bool). Ran faulting given sound told h o builds failed q a b before after) (sym is) ran
