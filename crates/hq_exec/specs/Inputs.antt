-- An operator and its inputs.
--     IsAlone o              it has no input
--     IsOver o x cond        it has the input x alone, and is a Filter of a condition or none
--     IsBeside o l r         it is a Join of l and r
--     HasInputsOf o inputs   so it is
use Rattle.std.specs.Prelude.{◌≡◌, ◌+◌, ℕ, Bool, true, false, ◌||◌, List, [], ◌∷◌, ◌++◌, Option, Some, None, option_map}
use Rattle.hq_value.specs.declared.kind.Kind.{Kind}
use Rattle.hq_algebra.specs.declared.expr.Expr.{Expr}
use Rattle.hq_algebra.specs.declared.op.Op.{Op}
use Rattle.hq_algebra.specs.Operators.{op_kinds}
use Rattle.hq_algebra.specs.Plans.{operators}
use Rattle.hq_fits.specs.Supplied.{AreFit}
use Rattle.hq_meaning.specs.Rows.{Row}
use Rattle.hq_meaning.specs.Slices.{Here, rows_of, op_faults}
use Rattle.hq_ops.specs.Pipes.{takes_rows}
use Rattle.hq_exec.specs.declared.inputs.Inputs.{Inputs}
use Rattle.hq_exec.specs.declared.inputs.Inputs.TheVariants as inputs
use Rattle.hq_exec.specs.Builds.{BuildsFit, builds_read}
use Rattle.hq_exec.specs.Files.{HeldState}
use Rattle.hq_exec.specs.Slices.{reads_of}
use Rattle.hq_exec.specs.Stages.{behind, stages_of, builds_of, builds_fault, leaf_of, above_of, first_of, others_of}

-- it has no input
pub record IsAlone (o : Op) : Type 0 where
  pub leaf : leaf_of o ≡ o
  pub above : (a : Option Expr) → above_of o a ≡ a
  pub stages : (builds : List (List Row)) → stages_of o builds ≡ []
  pub builds : (here : Here) → builds_of o here ≡ []
  pub fault : (here : Here) → builds_fault o here ≡ false
  pub reads : (h : HeldState) → builds_read o h ≡ 0
  pub fit : (builds : List (List Row)) → BuildsFit o builds

-- it has the input x alone, and is a Filter of a condition or none
pub record IsOver (o x : Op) (cond : Option Expr) : Type 0 where
  pub takes : takes_rows o ≡ true
  pub operators_are : operators o ≡ o ∷ operators x
  pub kinds : (out : List Kind) → op_kinds o ≡ Some out → (found : List Kind) × (op_kinds x ≡ Some found)
  pub leaf : leaf_of o ≡ leaf_of x
  pub above : (a : Option Expr) → above_of o a ≡ above_of x cond
  pub stages : (builds : List (List Row)) → stages_of o builds ≡ behind (stages_of x builds) o []
  pub builds : (here : Here) → builds_of o here ≡ builds_of x here
  pub fault : (here : Here) → builds_fault o here ≡ builds_fault x here
  pub reads : (h : HeldState) → builds_read o h ≡ builds_read x h
  pub fit : (builds : List (List Row)) → BuildsFit x builds → BuildsFit o builds

-- it is a Join of l and r
pub record IsBeside (o l r : Op) : Type 0 where
  pub takes : takes_rows o ≡ true
  pub operators_are : operators o ≡ o ∷ (operators l ++ operators r)
  pub left_kinds : (out : List Kind) → op_kinds o ≡ Some out → (found : List Kind) × (op_kinds l ≡ Some found)
  pub right_kinds : (out : List Kind) → op_kinds o ≡ Some out → (found : List Kind) × (op_kinds r ≡ Some found)
  pub leaf : leaf_of o ≡ leaf_of l
  pub above : (a : Option Expr) → above_of o a ≡ above_of l None
  pub stages : (builds : List (List Row)) → stages_of o builds ≡ behind (stages_of l (others_of builds)) o (first_of builds)
  pub builds : (here : Here) → builds_of o here ≡ rows_of r here ∷ builds_of l here
  pub fault : (here : Here) → builds_fault o here ≡ (op_faults r here || builds_fault l here)
  pub reads : (h : HeldState) → builds_read o h ≡ reads_of r h None + builds_read l h
  pub fit : (builds : List (List Row)) → ((kinds : List Kind) → op_kinds r ≡ Some kinds → AreFit kinds (first_of builds)) → BuildsFit l (others_of builds) → BuildsFit o builds

abbrev pub HasInputsOf : Op → Inputs → Type 0
HasInputsOf o inputs.Alone = IsAlone o
HasInputsOf o (inputs.One x cond) = IsOver o x.now (option_map (λ e. e.now) cond)
HasInputsOf o (inputs.Two l r) = IsBeside o l.now r.now
