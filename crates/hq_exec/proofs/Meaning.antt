-- The stages give what the operators give.
use Rattle.std.proofs.Common.{◌≡◌, ◌∙◌, ℕ, Bool, true, false, ◌||◌, ◌&&◌, List, [], ◌∷◌, ◌++◌, refl, sym, ap, subst}
use Rattle.std.specs.List.{AllByRecursion, list_all, list_any}
use Rattle.std.proofs.lemmas.List.Folds.{list_all-append}
use Rattle.std.specs.Prelude.{not}
use Rattle.hq_algebra.specs.declared.expr.Expr.{Expr}
use Rattle.hq_algebra.specs.declared.op.Op.{Op, Row_of-Op, end_of-Op, more_of-Op}
use Rattle.hq_algebra.specs.declared.op.Op.TheVariants as op
use Rattle.hq_algebra.specs.Eval.{faults_at}
use Rattle.hq_algebra.specs.Plans.{operators, operators_in, filters_without_arith}
use Rattle.hq_algebra.specs.Shape.{has_arith}
use Rattle.hq_algebra.proofs.Faultless.{faultless}
use Rattle.hq_meaning.specs.Operators.{filtered, projected, project_faults, joined, partial, partial_faults, final, final_faults, distinct, sorted}
use Rattle.hq_meaning.specs.Rows.{Row, faults_in}
use Rattle.hq_meaning.specs.Slices.{Here, rows_of, input_rows, op_faults, input_faults}
use Rattle.hq_ops.specs.Pipes.{gives, fails}
use Rattle.hq_exec.specs.Builds.{rows_at, leaf_rows}
use Rattle.hq_exec.specs.Files.{HeldState, here}
use Rattle.hq_exec.specs.Stages.{Stage, flowed, faulted, behind, leaf_of, leaf_in, builds_of, builds_in, builds_fault, builds_fault_in, stages_of, stages_in}

pub flowed-behind : (ss : List Stage) (o : Op) (build rows : List Row) → flowed (behind ss o build) rows ≡ gives o build (flowed ss rows)
flowed-behind [] o build rows = refl
flowed-behind (s ∷ ss) o build rows = flowed-behind ss o build (gives s.op s.build rows)

or-false : (a : Bool) → (a || false) ≡ a
or-false true = refl
or-false false = refl

or-assoc : (a b c : Bool) → ((a || b) || c) ≡ (a || (b || c))
or-assoc true b c = refl
or-assoc false b c = refl

pub faulted-behind : (ss : List Stage) (o : Op) (build rows : List Row) → faulted (behind ss o build) rows ≡ (faulted ss rows || fails o (flowed ss rows))
faulted-behind [] o build rows = or-false (fails o rows)
faulted-behind (s ∷ ss) o build rows = ap (λ b. fails s.op rows || b) (faulted-behind ss o build (gives s.op s.build rows)) ∙ sym (or-assoc (fails s.op rows) (faulted ss (gives s.op s.build rows)) (fails o (flowed ss (gives s.op s.build rows))))

module _ (h : HeldState) where
  mutual
    pub means : (o : Op) → flowed (stages_of o (builds_of o (here h))) (leaf_rows o h) ≡ rows_of o (here h)
    means (op.Scan table kinds) = refl
    means (op.Receive slice kinds) = refl
    means (op.Filter' c p input) = flowed-behind (stages_in input (builds_in input (here h))) (op.Filter' c p input) [] (leaf_rows (op.Filter' c p input) h) ∙ ap (filtered c) (means-in (op.Filter' c p input) refl input)
    means (op.Project' items p input) = flowed-behind (stages_in input (builds_in input (here h))) (op.Project' items p input) [] (leaf_rows (op.Project' items p input) h) ∙ ap (projected items) (means-in (op.Project' items p input) refl input)
    means (op.Join' lk rk p left q right) = flowed-behind (stages_in left (builds_in left (here h))) (op.Join' lk rk p left q right) (input_rows right (here h)) (leaf_rows (op.Join' lk rk p left q right) h)
        ∙ ap (λ l. joined lk rk l (input_rows right (here h))) (means-in (op.Join' lk rk p left q right) refl left)
    means (op.Partial' keys aggs p input) = flowed-behind (stages_in input (builds_in input (here h))) (op.Partial' keys aggs p input) [] (leaf_rows (op.Partial' keys aggs p input) h) ∙ ap (partial keys aggs) (means-in (op.Partial' keys aggs p input) refl input)
    means (op.Final' n aggs p input) = flowed-behind (stages_in input (builds_in input (here h))) (op.Final' n aggs p input) [] (leaf_rows (op.Final' n aggs p input) h) ∙ ap (final n aggs) (means-in (op.Final' n aggs p input) refl input)
    means (op.Distinct' p input) = flowed-behind (stages_in input (builds_in input (here h))) (op.Distinct' p input) [] (leaf_rows (op.Distinct' p input) h) ∙ ap distinct (means-in (op.Distinct' p input) refl input)
    means (op.Sort' order limit p input) = flowed-behind (stages_in input (builds_in input (here h))) (op.Sort' order limit p input) [] (leaf_rows (op.Sort' order limit p input) h) ∙ ap (sorted order limit) (means-in (op.Sort' order limit p input) refl input)

    means-in : {m : _} (outer : Op) → rows_at outer h ≡ [] → (input : Row_of-Op m) → flowed (stages_in input (builds_in input (here h))) (rows_at (leaf_in outer input) h) ≡ input_rows input (here h)
    means-in outer none end_of-Op = none
    means-in outer none (more_of-Op child rest) = means child

both-true : (a b : Bool) → (a && b) ≡ true → (a ≡ true) × (b ≡ true)
both-true true true e = (refl, refl)
both-true true false e = cc
both-true false b e = cc

not-true : (b : Bool) → not b ≡ true → b ≡ false
not-true true e = cc
not-true false e = refl

-- a condition without arithmetic faults over no row
no-fault : (c : Expr) (rows : List Row) → has_arith c ≡ false → faults_in (c ∷ []) rows ≡ false
no-fault c [] e = refl
no-fault c (r ∷ rows) e = λ i. (faultless c r e i || false) || no-fault c rows e i

-- the faults below an operator, and its own
own-case : (ss : List Stage) (o : Op) (build leaf found : List Row) (b i : Bool) (own : List Row → Bool) → ((rows : List Row) → fails o rows ≡ own rows) → flowed ss leaf ≡ found → i ≡ (b || faulted ss leaf) → (i || own found) ≡ (b || faulted (behind ss o build) leaf)
own-case ss o build leaf found b i own same flow e =
    ap (λ x. x || own found) e ∙ or-assoc b (faulted ss leaf) (own found) ∙ ap (λ x. b || (faulted ss leaf || x)) (ap own (sym flow) ∙ sym (same (flowed ss leaf))) ∙ ap (λ x. b || x) (sym (faulted-behind ss o build leaf))

-- those of an operator that never faults
calm-case : (ss : List Stage) (o : Op) (build leaf : List Row) (b i : Bool) → ((rows : List Row) → fails o rows ≡ false) → i ≡ (b || faulted ss leaf) → i ≡ (b || faulted (behind ss o build) leaf)
calm-case ss o build leaf b i never e =
    e ∙ ap (λ x. b || x) (sym (or-false (faulted ss leaf)) ∙ ap (λ x. faulted ss leaf || x) (sym (never (flowed ss leaf))) ∙ sym (faulted-behind ss o build leaf))

joined-fault : (b f r : Bool) → ((b || f) || r) ≡ ((r || b) || f)
joined-fault true true true = refl
joined-fault true true false = refl
joined-fault true false true = refl
joined-fault true false false = refl
joined-fault false true true = refl
joined-fault false true false = refl
joined-fault false false true = refl
joined-fault false false false = refl

join-case : (ss : List Stage) (o : Op) (build leaf : List Row) (b i r : Bool) → ((rows : List Row) → fails o rows ≡ false) → i ≡ (b || faulted ss leaf) → (i || r) ≡ ((r || b) || faulted (behind ss o build) leaf)
join-case ss o build leaf b i r never e = calm-case ss o build leaf (r || b) (i || r) never (ap (λ x. x || r) e ∙ joined-fault b (faulted ss leaf) r)

module _ (h : HeldState) where
  mutual
    pub faults : (o : Op) → list_all filters_without_arith (operators o) ≡ true → op_faults o (here h) ≡ (builds_fault o (here h) || faulted (stages_of o (builds_of o (here h))) (leaf_rows o h))
    faults (op.Scan table kinds) fine = refl
    faults (op.Receive slice kinds) fine = refl
    faults (op.Filter' c p input) fine =
        let parts : (not (has_arith c) ≡ true) × (list_all filters_without_arith (operators_in input) ≡ true) = both-true (not (has_arith c)) _ fine in
        ap (λ b. input_faults input (here h) || b) (no-fault c (input_rows input (here h)) (not-true (has_arith c) parts.0)) ∙ or-false (input_faults input (here h))
        ∙ calm-case (stages_in input (builds_in input (here h))) (op.Filter' c p input) [] (leaf_rows (op.Filter' c p input) h) (builds_fault_in input (here h)) (input_faults input (here h)) (λ rows. refl) (faults-in (op.Filter' c p input) refl input parts.1)
    faults (op.Project' items p input) fine =
        own-case (stages_in input (builds_in input (here h))) (op.Project' items p input) [] (leaf_rows (op.Project' items p input) h) (input_rows input (here h)) (builds_fault_in input (here h)) (input_faults input (here h))
        (project_faults items) (λ rows. refl) (means-in h (op.Project' items p input) refl input) (faults-in (op.Project' items p input) refl input fine)
    faults (op.Join' lk rk p left q right) fine =
        let parts : (list_all filters_without_arith (operators_in left) ≡ true) × (list_all filters_without_arith (operators_in right) ≡ true) =
        both-true (list_all filters_without_arith (operators_in left)) _ (sym (list_all-append filters_without_arith (operators_in left) (operators_in right)) ∙ fine) in
        join-case (stages_in left (builds_in left (here h))) (op.Join' lk rk p left q right) (input_rows right (here h)) (leaf_rows (op.Join' lk rk p left q right) h) (builds_fault_in left (here h)) (input_faults left (here h)) (input_faults right (here h))
        (λ rows. refl) (faults-in (op.Join' lk rk p left q right) refl left parts.0)
    faults (op.Partial' keys aggs p input) fine =
        own-case (stages_in input (builds_in input (here h))) (op.Partial' keys aggs p input) [] (leaf_rows (op.Partial' keys aggs p input) h) (input_rows input (here h)) (builds_fault_in input (here h)) (input_faults input (here h))
        (partial_faults aggs) (λ rows. refl) (means-in h (op.Partial' keys aggs p input) refl input) (faults-in (op.Partial' keys aggs p input) refl input fine)
    faults (op.Final' n aggs p input) fine =
        own-case (stages_in input (builds_in input (here h))) (op.Final' n aggs p input) [] (leaf_rows (op.Final' n aggs p input) h) (input_rows input (here h)) (builds_fault_in input (here h)) (input_faults input (here h))
        (final_faults n aggs) (λ rows. refl) (means-in h (op.Final' n aggs p input) refl input) (faults-in (op.Final' n aggs p input) refl input fine)
    faults (op.Distinct' p input) fine =
        calm-case (stages_in input (builds_in input (here h))) (op.Distinct' p input) [] (leaf_rows (op.Distinct' p input) h) (builds_fault_in input (here h)) (input_faults input (here h)) (λ rows. refl) (faults-in (op.Distinct' p input) refl input fine)
    faults (op.Sort' order limit p input) fine =
        calm-case (stages_in input (builds_in input (here h))) (op.Sort' order limit p input) [] (leaf_rows (op.Sort' order limit p input) h) (builds_fault_in input (here h)) (input_faults input (here h)) (λ rows. refl) (faults-in (op.Sort' order limit p input) refl input fine)

    faults-in : {m : _} (outer : Op) → rows_at outer h ≡ [] → (input : Row_of-Op m) → list_all filters_without_arith (operators_in input) ≡ true
        → input_faults input (here h) ≡ (builds_fault_in input (here h) || faulted (stages_in input (builds_in input (here h))) (rows_at (leaf_in outer input) h))
    faults-in outer none end_of-Op fine = refl
    faults-in outer none (more_of-Op child rest) fine = faults child fine
