-- The plans are well formed, and read tables that are there.
use Rattle.std.proofs.Common.{◌≡◌, ◌∙◌, ℕ, List, [], ◌∷◌, true, refl, sym, ap, subst}
use Rattle.std.specs.List.{AllByRecursion}
use Rattle.hq_algebra.specs.declared.expr.Expr.TheBlock.{hidden-the_row-Expr-0}
use Rattle.hq_algebra.specs.declared.op.Op.TheBlock.{hidden-the_row-Op-0}
use Rattle.hq_algebra.specs.declared.plan.Plan.{Plan}
use Rattle.hq_algebra.specs.Plans.{is_well_formed, all_operators}
use denote.Hole.Carrier.{hidden}
use Rattle.hq_snap.specs.Snaps.{TableSnapState}
use Rattle.hq_dispatch.specs.Basis.{IsScanned}
use Rattle.hq_querytests.specs.Works.{plan_by, AreThere}
use Rattle.hq_querytests.specs.declared.plans.Work.{Work}
use Rattle.hq_querytests.specs.declared.plans.Work.TheVariants as work

well_formed : (w : Work) → is_well_formed (plan_by w) ≡ true
unfolding hidden-the_row-Op-0 hidden-the_row-Expr-0 hidden
well_formed work.All = refl
well_formed work.Group = refl
well_formed work.Join = refl

scanned : (w : Work) (tables : List TableSnapState) → AreThere tables → AllByRecursion (IsScanned tables) (all_operators (plan_by w).slices)
unfolding hidden-the_row-Op-0 hidden-the_row-Expr-0 hidden
scanned work.All tables there = (there.first, (tt, (tt, tt)))
scanned work.Group tables there = (tt, (there.first, (tt, (tt, (tt, tt)))))
scanned work.Join tables there = (there.first, (there.second, (tt, (tt, (tt, (tt, (tt, (tt, tt))))))))

-- the plan is one
pub plan_stands : (w : Work) (plan : Plan) → plan ≡ plan_by w → is_well_formed plan ≡ true
plan_stands w plan is = ap is_well_formed is ∙ well_formed w

-- its tables are there
pub tables_stand : (w : Work) (plan : Plan) (tables : List TableSnapState) → plan ≡ plan_by w → AreThere tables → AllByRecursion (IsScanned tables) (all_operators plan.slices)
tables_stand w plan tables is there = subst (λ (p : Plan). AllByRecursion (IsScanned tables) (all_operators p.slices)) (sym is) (scanned w tables there)
