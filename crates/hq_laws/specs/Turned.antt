-- The sources of a query in another order, with its columns renamed.
--     turned a b c i              the new place of column i, where b columns behind the first a go behind the next c
--     renamed f e                 an expression with the place of each column renamed
--     AreTurned f q r             r is q with the columns of its sources renamed
use Rattle.std.specs.Prelude.{◌≡◌, ℕ, ◌+◌, ◌-◌, nat_lt, List, map, length, flat_map, if◌then◌else◌}
use Rattle.std.specs.List.{All}
use Rattle.hq_value.specs.declared.kind.Kind.{Kind}
use Rattle.hq_algebra.specs.declared.expr.Expr.{Expr, Row_of-Expr, end_of-Expr, more_of-Expr}
use Rattle.hq_algebra.specs.declared.expr.Expr.TheVariants as expr
use Rattle.hq_algebra.specs.declared.aggregate.Aggregate.{Aggregate}
use Rattle.hq_algebra.specs.declared.aggregate.Aggregate.TheVariants as agg
use Rattle.hq_algebra.specs.declared.query.Query.{Query}
use Rattle.hq_meaning.specs.Mean.{Database}

-- the new place of a column, where the b columns behind the first a go behind the c columns that follow them
abbrev pub turned : ℕ → ℕ → ℕ → ℕ → ℕ
turned a b c i = if nat_lt i a then i else (if nat_lt i (a + b) then c + i else (if nat_lt i (a + b + c) then i - b else i))

-- the place of each column renamed
abbrev mutual
  pub renamed : (ℕ → ℕ) → Expr → Expr
  renamed f (expr.Column place) = expr.Column (f place)
  renamed f (expr.Literal v) = expr.Literal v
  renamed f (expr.Arith' step p left q right) = expr.Arith' step p (renamed_in f left) q (renamed_in f right)
  renamed f (expr.Compare' test p left q right) = expr.Compare' test p (renamed_in f left) q (renamed_in f right)
  renamed f (expr.And' p left q right) = expr.And' p (renamed_in f left) q (renamed_in f right)
  renamed f (expr.Or' p left q right) = expr.Or' p (renamed_in f left) q (renamed_in f right)
  renamed f (expr.Not' p of) = expr.Not' p (renamed_in f of)
  renamed f (expr.IsNull' p of) = expr.IsNull' p (renamed_in f of)

  pub renamed_in : {m : _} → (ℕ → ℕ) → Row_of-Expr m → Row_of-Expr m
  renamed_in f end_of-Expr = end_of-Expr
  renamed_in f (more_of-Expr e rest) = more_of-Expr (renamed f e) (renamed_in f rest)

abbrev pub renamed_aggregate : (ℕ → ℕ) → Aggregate → Aggregate
renamed_aggregate f agg.CountAll = agg.CountAll
renamed_aggregate f (agg.Count e) = agg.Count (renamed f e)
renamed_aggregate f (agg.Sum e) = agg.Sum (renamed f e)
renamed_aggregate f (agg.Min e) = agg.Min (renamed f e)
renamed_aggregate f (agg.Max e) = agg.Max (renamed f e)

-- r is q with the columns of its sources renamed. Where q is grouped, HAVING and the items speak of the columns of the
-- groups, which keep their places
pub record AreTurned (f : ℕ → ℕ) (q r : Query) : Type 0 where
  pub conds : r.conds ≡ map (renamed f) q.conds
  pub grouped : r.grouped ≡ q.grouped
  pub groups : r.groups ≡ map f q.groups
  pub aggregates : r.aggregates ≡ map (renamed_aggregate f) q.aggregates
  pub having : r.having ≡ q.having
  pub items : r.items ≡ (if q.grouped then q.items else map (renamed f) q.items)
  pub distinct : r.distinct ≡ q.distinct
  pub order : r.order ≡ q.order
  pub limit : r.limit ≡ q.limit

-- the number of columns of these tables together
abbrev pub columns_in : (ℕ → List Kind) → List ℕ → ℕ
columns_in kinds ts = length (flat_map kinds ts)

-- each table's rows have its number of columns
abbrev pub FitTables : (ℕ → List Kind) → Database → Type 0
FitTables kinds db = (t : ℕ) → All (λ row. length row ≡ length (kinds t)) (db t)
