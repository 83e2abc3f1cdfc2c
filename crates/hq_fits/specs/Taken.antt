-- The columns into which a query's items go.
--     are_taken seen items kinds     each item can stand where a column of its kind is asked
use Rattle.std.specs.Prelude.{Bool, true, false, ◌&&◌, List, [], ◌∷◌}
use Rattle.hq_value.specs.declared.kind.Kind.{Kind}
use Rattle.hq_algebra.specs.declared.expr.Expr.{Expr}
use Rattle.hq_algebra.specs.Kinds.{is_of, expr_kind}

-- each item, over columns of the kinds that are seen, can stand where a column of its kind is asked; NULL alone can
-- stand anywhere
abbrev pub are_taken : List Kind → List Expr → List Kind → Bool
are_taken seen [] [] = true
are_taken seen (e ∷ items) (k ∷ kinds) = is_of k (expr_kind seen e) && are_taken seen items kinds
are_taken seen _ _ = false
