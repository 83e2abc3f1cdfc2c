-- New places of columns.
--     place_of to i           the new place of column i
--     moved_up i j ts         the source at place j before those from place i on
--     Reordered kinds q r     r is q with a part of its sources behind those that follow them, and its columns renamed
use Rattle.std.specs.Prelude.{◌≡◌, ℕ, suc, ◌-◌, List, [], ◌∷◌, ◌++◌, take, drop, map, slice_index, if◌then◌else◌}
use Rattle.hq_value.specs.declared.kind.Kind.{Kind}
use Rattle.hq_algebra.specs.declared.query.Query.{Query}
use Rattle.hq_algebra.specs.declared.expr.Expr.{Expr}
use Rattle.hq_laws.specs.Turned.{turned, renamed, AreTurned, columns_in}
use Rattle.hq_whole.specs.declared.renaming.Places.{Places}
use Rattle.hq_whole.specs.declared.renaming.Places.TheVariants as places

abbrev pub place_of : Places → ℕ → ℕ
place_of (places.Lowered by) i = i - by
place_of (places.Turned turn) i = turned turn.before turn.first turn.second i

-- r is q with a part of its sources behind those that follow them, and its columns renamed
pub record Reordered (kinds : ℕ → List Kind) (q r : Query) : Type 0 where
  pub before : List ℕ
  pub first : List ℕ
  pub second : List ℕ
  pub after : List ℕ
  pub from : q.sources ≡ before ++ (first ++ (second ++ after))
  pub to : r.sources ≡ before ++ (second ++ (first ++ after))
  pub turned : AreTurned (turned (columns_in kinds before) (columns_in kinds first) (columns_in kinds second)) q r

-- the source at place j before those from place i on
abbrev pub moved_up : ℕ → ℕ → List ℕ → List ℕ
moved_up i j ts = take i ts ++ (slice_index ts j ∷ [] ++ (drop i (take j ts) ++ drop (suc j) ts))

-- the select list with its columns renamed, where it does not speak of groups
abbrev pub turned_items : (ℕ → ℕ) → Query → List Expr
turned_items f q = if q.grouped then q.items else map (renamed f) q.items
