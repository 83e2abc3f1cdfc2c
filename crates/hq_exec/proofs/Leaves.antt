-- What is read below the right sides, and what is read of the leaf.
use Rattle.std.proofs.Common.{◌≡◌, ◌∙◌, ℕ, ◌+◌, List, [], ◌∷◌, ◌++◌, Option, Some, None, refl, sym, ap, zero-add, arith}
use Rattle.std.specs.List.{AllByRecursion}
use Rattle.std.specs.Prelude.{Contains}
use Rattle.std.proofs.lemmas.List.Elements.{Contains-append_left, Contains-append_right}
use Rattle.hq_algebra.specs.declared.expr.Expr.{Expr}
use Rattle.hq_algebra.specs.declared.op.Op.{Op, Row_of-Op, end_of-Op, more_of-Op}
use Rattle.hq_algebra.specs.declared.op.Op.TheVariants as op
use Rattle.hq_algebra.specs.Plans.{operators, operators_in}
use Rattle.hq_exec.specs.Builds.{reads_at, leaf_reads, builds_read, input_builds_read}
use Rattle.hq_exec.specs.Files.{HeldState}
use Rattle.hq_exec.specs.Slices.{reads_of, input_reads}
use Rattle.hq_exec.specs.Stages.{leaf_of, leaf_in, above_in}

module _ (h : HeldState) where
  joined-reads : (l r b f : ℕ) → l ≡ b + f → l + r ≡ (r + b) + f
  joined-reads l r b f e = omega arith

  mutual
    pub reads-are : (o : Op) (above : Option Expr) → reads_of o h above ≡ builds_read o h + leaf_reads o above h
    reads-are (op.Scan table kinds) above = sym (zero-add _)
    reads-are (op.Receive slice kinds) above = refl
    reads-are (op.Filter' c p input) above = reads-in (op.Filter' c p input) (Some c) refl input
    reads-are (op.Project' items p input) above = reads-in (op.Project' items p input) None refl input
    reads-are (op.Join' lk rk p left q right) above =
        joined-reads (input_reads left h None) (input_reads right h None) (input_builds_read left h) _ (reads-in (op.Join' lk rk p left q right) None refl left)
    reads-are (op.Partial' keys aggs p input) above = reads-in (op.Partial' keys aggs p input) None refl input
    reads-are (op.Final' n aggs p input) above = reads-in (op.Final' n aggs p input) None refl input
    reads-are (op.Distinct' p input) above = reads-in (op.Distinct' p input) None refl input
    reads-are (op.Sort' order limit p input) above = reads-in (op.Sort' order limit p input) None refl input

    reads-in : {m : _} (outer : Op) (above : Option Expr) → reads_at outer above h ≡ 0 → (input : Row_of-Op m) → input_reads input h above ≡ input_builds_read input h + reads_at (leaf_in outer input) (above_in input above) h
    reads-in outer above none end_of-Op = sym (ap (λ n. 0 + n) none)
    reads-in outer above none (more_of-Op child rest) = reads-are child above

-- what holds of each operator holds of the leaf
module _ (P : Op → Type 0) where
  first-part : (xs ys : List Op) → AllByRecursion P (xs ++ ys) → AllByRecursion P xs
  first-part [] ys all = tt
  first-part (x ∷ xs) ys all = (all.0, first-part xs ys all.1)

  mutual
    pub leaf-has : (o : Op) → AllByRecursion P (operators o) → P (leaf_of o)
    leaf-has (op.Scan table kinds) all = all.0
    leaf-has (op.Receive slice kinds) all = all.0
    leaf-has (op.Filter' c p input) all = leaf-has-in (op.Filter' c p input) input all.0 all.1
    leaf-has (op.Project' items p input) all = leaf-has-in (op.Project' items p input) input all.0 all.1
    leaf-has (op.Join' lk rk p left q right) all = leaf-has-in (op.Join' lk rk p left q right) left all.0 (first-part (operators_in left) (operators_in right) all.1)
    leaf-has (op.Partial' keys aggs p input) all = leaf-has-in (op.Partial' keys aggs p input) input all.0 all.1
    leaf-has (op.Final' n aggs p input) all = leaf-has-in (op.Final' n aggs p input) input all.0 all.1
    leaf-has (op.Distinct' p input) all = leaf-has-in (op.Distinct' p input) input all.0 all.1
    leaf-has (op.Sort' order limit p input) all = leaf-has-in (op.Sort' order limit p input) input all.0 all.1

    leaf-has-in : {m : _} (outer : Op) (input : Row_of-Op m) → P outer → AllByRecursion P (operators_in input) → P (leaf_in outer input)
    leaf-has-in outer end_of-Op own all = own
    leaf-has-in outer (more_of-Op child rest) own all = leaf-has child all

-- the leaf is one of the operators
contains-more : (x y : Op) (xs : List Op) → Contains xs x → Contains (y ∷ xs) x
contains-more x y xs c = Contains-append_right (y ∷ []) xs x c

mutual
  pub has-leaf : (o : Op) → Contains (operators o) (leaf_of o)
  has-leaf (op.Scan table kinds) = (0, omega arith, refl)
  has-leaf (op.Receive slice kinds) = (0, omega arith, refl)
  has-leaf (op.Filter' c p input) = has-leaf-in (op.Filter' c p input) input
  has-leaf (op.Project' items p input) = has-leaf-in (op.Project' items p input) input
  has-leaf (op.Join' lk rk p left q right) = Contains-append_left (op.Join' lk rk p left q right ∷ operators_in left) (operators_in right) _ (has-leaf-in (op.Join' lk rk p left q right) left)
  has-leaf (op.Partial' keys aggs p input) = has-leaf-in (op.Partial' keys aggs p input) input
  has-leaf (op.Final' n aggs p input) = has-leaf-in (op.Final' n aggs p input) input
  has-leaf (op.Distinct' p input) = has-leaf-in (op.Distinct' p input) input
  has-leaf (op.Sort' order limit p input) = has-leaf-in (op.Sort' order limit p input) input

  has-leaf-in : {m : _} (outer : Op) (input : Row_of-Op m) → Contains (outer ∷ operators_in input) (leaf_in outer input)
  has-leaf-in outer end_of-Op = (0, omega arith, refl)
  has-leaf-in outer (more_of-Op child rest) = contains-more (leaf_of child) outer (operators child) (has-leaf child)
