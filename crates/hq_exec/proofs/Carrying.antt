-- What operators give fits their kinds, stage by stage.
use Rattle.std.proofs.Common.{◌≡◌, ◌∙◌, ℕ, ◌==◌, Bool, cond, List, [], ◌∷◌, ◌++◌, Option, Some, None, refl, sym, ap, subst}
use Rattle.hq_value.specs.declared.kind.Kind.{Kind}
use Rattle.hq_algebra.specs.declared.aggregate.Aggregate.{Aggregate}
use Rattle.hq_algebra.specs.declared.expr.Expr.{Expr}
use Rattle.hq_algebra.specs.declared.op.SortKey.{SortKey}
use Rattle.hq_algebra.specs.declared.op.Op.{Op, Row_of-Op, end_of-Op, more_of-Op}
use Rattle.hq_algebra.specs.declared.op.Op.TheVariants as op
use Rattle.hq_algebra.specs.declared.op.Op.TheBlock.{hidden-the_row-Op-0}
use denote.Hole.Carrier.{hidden}
use Rattle.hq_algebra.specs.Kinds.{◌>>=◌}
use Rattle.hq_algebra.specs.Operators.{op_kinds, kinds_of_input, filter_kinds, items_kinds, join_kinds, partial_kinds, final_kinds, sort_kinds}
use Rattle.hq_fits.specs.Supplied.{AreFit}
use Rattle.hq_fits.proofs.Operating.{rows-fit}
use Rattle.hq_meaning.specs.Operators.{filtered, projected, joined, partial, final, distinct, sorted}
use Rattle.hq_meaning.specs.Rows.{Row}
use Rattle.hq_meaning.specs.Slices.{Here}
use Rattle.hq_ops.specs.Pipes.{gives}
use Rattle.hq_exec.specs.Builds.{BuildsFit, InputBuildsFit, kinds_at, leaf_kinds}
use Rattle.hq_exec.specs.Lines.{Carries}
use Rattle.hq_exec.specs.Stages.{Stage, behind, stages_of, stages_in, leaf_in, first_of, others_of}

-- a node that received rows from two slices
abbrev two : List Row → List Row → Here
two rows build = record { tables = λ t. []; sent = λ s. cond (s == 0) rows build }

-- one operator over rows that fit
module _ (kinds out : List Kind) (rows : List Row) (fit : AreFit kinds rows) where
  abbrev here : Here
  here = two rows []

  filter-fits : (c : Expr) → filter_kinds c kinds ≡ Some out → AreFit out (filtered c rows)
  unfolding hidden-the_row-Op-0 hidden
  filter-fits c h = rows-fit here (op.Filter c (op.Receive 0 kinds)) out h (tt, (fit, tt))

  project-fits : (items : List Expr) → items_kinds kinds items ≡ Some out → AreFit out (projected items rows)
  unfolding hidden-the_row-Op-0 hidden
  project-fits items h = rows-fit here (op.Project items (op.Receive 0 kinds)) out h (tt, (fit, tt))

  partial-fits : (keys : List ℕ) (aggs : List Aggregate) → partial_kinds keys aggs kinds ≡ Some out → AreFit out (partial keys aggs rows)
  unfolding hidden-the_row-Op-0 hidden
  partial-fits keys aggs h = rows-fit here (op.Partial keys aggs (op.Receive 0 kinds)) out h (tt, (fit, tt))

  final-fits : (n : ℕ) (aggs : List Aggregate) → final_kinds n aggs kinds ≡ Some out → AreFit out (final n aggs rows)
  unfolding hidden-the_row-Op-0 hidden
  final-fits n aggs h = rows-fit here (op.Final n aggs (op.Receive 0 kinds)) out h (tt, (fit, tt))

  distinct-fits : kinds ≡ out → AreFit out (distinct rows)
  unfolding hidden-the_row-Op-0 hidden
  distinct-fits h = rows-fit here (op.Distinct (op.Receive 0 kinds)) out (ap Some h) (tt, (fit, tt))

  sort-fits : (order : List SortKey) (limit : Option ℕ) → sort_kinds order kinds ≡ Some out → AreFit out (sorted order limit rows)
  unfolding hidden-the_row-Op-0 hidden
  sort-fits order limit h = rows-fit here (op.Sort order limit (op.Receive 0 kinds)) out h (tt, (fit, tt))

join-fits : (lk rk : List ℕ) (ls rs out : List Kind) (rows build : List Row) → join_kinds lk rk ls rs ≡ Some out → AreFit ls rows → AreFit rs build → AreFit out (joined lk rk rows build)
unfolding hidden-the_row-Op-0 hidden
join-fits lk rk ls rs out rows build h fit right = rows-fit (two rows build) (op.Join lk rk (op.Receive 0 ls) (op.Receive 1 rs)) out h (tt, (fit, (right, tt)))

-- an operator behind others
carries-behind : (ss : List Stage) (kinds mid out : List Kind) (o : Op) (build : List Row) → Carries kinds ss mid → ((rows : List Row) → AreFit mid rows → AreFit out (gives o build rows)) → Carries kinds (behind ss o build) out
carries-behind [] kinds mid out o build e f = (out, (λ rows fit. f rows (subst (λ (k : List Kind). AreFit k rows) e fit)), refl)
carries-behind (s ∷ ss) kinds mid out o build c f = (c.0, c.1, carries-behind ss c.0 mid out o build c.2 f)

from-input : (o : Option (List Kind)) (f : List Kind → Option (List Kind)) (out : List Kind) → (o >>= f) ≡ Some out → (ks : List Kind) × (o ≡ Some ks) × (f ks ≡ Some out)
from-input None f out h = cc
from-input (Some ks) f out h = (ks, refl, h)

mutual
  pub carries : (o : Op) (builds : List (List Row)) (out : List Kind) → op_kinds o ≡ Some out → BuildsFit o builds → Carries (leaf_kinds o) (stages_of o builds) out
  carries (op.Scan table kinds) builds out h b = cc
  carries (op.Receive slice kinds) builds out h b = cc
  carries (op.Filter' c p input) builds out h b =
      let f : (ks : List Kind) × (kinds_of_input input ≡ Some ks) × (filter_kinds c ks ≡ Some out) = from-input (kinds_of_input input) (filter_kinds c) out h in
      carries-behind (stages_in input builds) (leaf_kinds (op.Filter' c p input)) f.0 out (op.Filter' c p input) [] (carries-in (op.Filter' c p input) input builds f.0 f.1 b) (λ rows fit. filter-fits f.0 out rows fit c f.2)
  carries (op.Project' items p input) builds out h b =
      let f : (ks : List Kind) × (kinds_of_input input ≡ Some ks) × (items_kinds ks items ≡ Some out) = from-input (kinds_of_input input) (λ ks. items_kinds ks items) out h in
      carries-behind (stages_in input builds) (leaf_kinds (op.Project' items p input)) f.0 out (op.Project' items p input) [] (carries-in (op.Project' items p input) input builds f.0 f.1 b) (λ rows fit. project-fits f.0 out rows fit items f.2)
  carries (op.Join' lk rk p left q right) builds out h b =
      let f : (ls : List Kind) × (kinds_of_input left ≡ Some ls) × ((kinds_of_input right >>= join_kinds lk rk ls) ≡ Some out) = from-input (kinds_of_input left) (λ ls. kinds_of_input right >>= join_kinds lk rk ls) out h in
      let g : (rs : List Kind) × (kinds_of_input right ≡ Some rs) × (join_kinds lk rk f.0 rs ≡ Some out) = from-input (kinds_of_input right) (join_kinds lk rk f.0) out f.2 in
      carries-behind (stages_in left (others_of builds)) (leaf_kinds (op.Join' lk rk p left q right)) f.0 out (op.Join' lk rk p left q right) (first_of builds) (carries-in (op.Join' lk rk p left q right) left (others_of builds) f.0 f.1 b.1)
      (λ rows fit. join-fits lk rk f.0 g.0 out rows (first_of builds) g.2 fit (b.0 g.0 g.1))
  carries (op.Partial' keys aggs p input) builds out h b =
      let f : (ks : List Kind) × (kinds_of_input input ≡ Some ks) × (partial_kinds keys aggs ks ≡ Some out) = from-input (kinds_of_input input) (partial_kinds keys aggs) out h in
      carries-behind (stages_in input builds) (leaf_kinds (op.Partial' keys aggs p input)) f.0 out (op.Partial' keys aggs p input) [] (carries-in (op.Partial' keys aggs p input) input builds f.0 f.1 b) (λ rows fit. partial-fits f.0 out rows fit keys aggs f.2)
  carries (op.Final' n aggs p input) builds out h b =
      let f : (ks : List Kind) × (kinds_of_input input ≡ Some ks) × (final_kinds n aggs ks ≡ Some out) = from-input (kinds_of_input input) (final_kinds n aggs) out h in
      carries-behind (stages_in input builds) (leaf_kinds (op.Final' n aggs p input)) f.0 out (op.Final' n aggs p input) [] (carries-in (op.Final' n aggs p input) input builds f.0 f.1 b) (λ rows fit. final-fits f.0 out rows fit n aggs f.2)
  carries (op.Distinct' p input) builds out h b =
      carries-behind (stages_in input builds) (leaf_kinds (op.Distinct' p input)) out out (op.Distinct' p input) [] (carries-in (op.Distinct' p input) input builds out h b) (λ rows fit. distinct-fits out out rows fit refl)
  carries (op.Sort' order limit p input) builds out h b =
      let f : (ks : List Kind) × (kinds_of_input input ≡ Some ks) × (sort_kinds order ks ≡ Some out) = from-input (kinds_of_input input) (sort_kinds order) out h in
      carries-behind (stages_in input builds) (leaf_kinds (op.Sort' order limit p input)) f.0 out (op.Sort' order limit p input) [] (carries-in (op.Sort' order limit p input) input builds f.0 f.1 b) (λ rows fit. sort-fits f.0 out rows fit order limit f.2)

  carries-in : {m : _} (outer : Op) (input : Row_of-Op m) (builds : List (List Row)) (out : List Kind) → kinds_of_input input ≡ Some out → InputBuildsFit input builds → Carries (kinds_at (leaf_in outer input)) (stages_in input builds) out
  carries-in outer end_of-Op builds out h b = cc
  carries-in outer (more_of-Op child rest) builds out h b = carries child builds out h b
