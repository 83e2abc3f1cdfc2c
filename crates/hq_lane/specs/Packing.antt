-- Rows appended to a place in blocks.
--     GrewByFirst told kinds count rows old new    it grew by the blocks of the first `count` rows
--     chosen_rows references                       the rows that the references lead to
use Rattle.std.specs.Prelude.{◌≡◌, ℕ, Bool, List, ◌++◌, map, take, drop}
use Rattle.std.specs.Borrow.{Bor}
use Rattle.hq_value.specs.declared.value.Value.{Value}
use Rattle.hq_value.specs.declared.kind.Kind.{Kind}
use Rattle.hq_block.specs.Block.{FileRows, pack}
use Rattle.hq_lane.specs.BucketFiles.{BucketState, IsGrown}

-- the place grew by the blocks of the first `count` rows: they are a file of these rows, and the packing of all rows
-- is these blocks and the packing of the others
pub record GrewByFirst (told : Bool) (kinds : List Kind) (count : ℕ) (rows : List (List Value)) (old new : BucketState) : Type 0 where
  pub added : List ℕ
  pub first : FileRows kinds added (take count rows)
  pub others : pack kinds rows ≡ added ++ pack kinds (drop count rows)
  pub grown : IsGrown told old added new

-- the rows that the references lead to
abbrev pub chosen_rows : List (Bor (List Value)) → List (List Value)
chosen_rows references = map (λ row. row.now) references
