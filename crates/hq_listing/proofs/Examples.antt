-- Plans of a small query that evaluate the select list on all nodes: what they mean, and what they do not mean.
use Rattle.std.proofs.Common.{Some, ◌≡◌, ◌≢◌, ℕ, List, [], ◌∷◌, true, false, refl}
use Rattle.hq_value.specs.declared.kind.Kind.{Kind}
use Rattle.hq_value.specs.declared.kind.Kind.TheVariants as kind
use Rattle.hq_algebra.specs.declared.plan.Plan.{Plan}
use Rattle.hq_algebra.specs.declared.expr.Expr.TheBlock.{hidden-the_row-Expr-0}
use Rattle.hq_algebra.specs.declared.op.Op.TheBlock.{hidden-the_row-Op-0}
use denote.Hole.Carrier.{hidden}
use Rattle.hq_algebra.specs.Plans.{is_well_formed}
use Rattle.hq_algebra.specs.Queries.{query_kinds}
use Rattle.hq_meaning.specs.Mean.{Rows}
use Rattle.hq_meaning.specs.Plans.{plan_mean}
use Rattle.hq_laws.specs.Spread.{Way, MoveBoth}
use Rattle.hq_laws.proofs.Examples.{plain, int, three, uv, by_columns, numbers, four, same_group, met}
use Rattle.hq_listing.specs.Listing.{listing_plan}

-- SELECT u.id, v.k FROM u JOIN v ON u.g = v.g: two columns travel to the last slice, where the other plan sends four
unfoldable two : List Kind
two = kind.Int ∷ kind.Int ∷ []

unfoldable listed_by : List Kind → List ℕ → Way → Plan
listed_by out keys way = listing_plan numbers out met (plain 0) ((record { table = 1; tests = []; left_keys = keys; right_keys = keys; way = way }) ∷ [])

met-columns : query_kinds numbers met ≡ Some two
unfolding plain met numbers two same_group hidden-the_row-Expr-0 hidden
met-columns = refl

moved-means : plan_mean (listed_by two (1 ∷ []) MoveBoth) (by_columns (0 ∷ [])) three ≡ Rows ((int 1 ∷ int 7 ∷ []) ∷ (int 1 ∷ int 9 ∷ []) ∷ (int 2 ∷ int 8 ∷ []) ∷ (int 3 ∷ int 7 ∷ []) ∷ (int 3 ∷ int 9 ∷ []) ∷ [])
unfolding plain listed_by met numbers two by_columns uv three int same_group hidden-the_row-Expr-0 hidden-the_row-Op-0 hidden
moved-means = refl

moved-well_formed : is_well_formed (listed_by two (1 ∷ []) MoveBoth) ≡ true
unfolding plain listed_by met numbers two same_group hidden-the_row-Expr-0 hidden-the_row-Op-0 hidden
moved-well_formed = refl

-- the last slice receives what is sent, and no more
four-malformed : is_well_formed (listed_by four (1 ∷ []) MoveBoth) ≡ false
unfolding plain listed_by met numbers four same_group hidden-the_row-Expr-0 hidden-the_row-Op-0 hidden
four-malformed = refl

-- keys that no condition equates lose pairs
other_keys : plan_mean (listed_by two (0 ∷ []) MoveBoth) (by_columns (0 ∷ [])) three ≢ Rows ((int 1 ∷ int 7 ∷ []) ∷ (int 1 ∷ int 9 ∷ []) ∷ (int 2 ∷ int 8 ∷ []) ∷ (int 3 ∷ int 7 ∷ []) ∷ (int 3 ∷ int 9 ∷ []) ∷ [])
unfolding plain listed_by met numbers two by_columns uv three int same_group hidden-the_row-Expr-0 hidden-the_row-Op-0 hidden
other_keys e = cc
