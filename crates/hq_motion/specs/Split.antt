-- The rows that each receiver of a motion gets.
--     nodes_up marks               the nodes that are up, ascending
--     receivers motion owner       the nodes that get rows, ascending
--     split motion owner rows      each of them with its rows
--     CanMove motion rows          it is a motion between slices, and rows that go by keys have them
use Rattle.std.specs.Prelude.{ℕ, ◌<◌, Bool, false, All, List, [], ◌∷◌, map, filter, length, slice_index_or}
use Rattle.std.specs.List.{range_with_len}
use Rattle.hq_value.specs.Bucket.{HasColumns}
use Rattle.hq_value.specs.declared.value.Value.{Value}
use Rattle.hq_algebra.specs.declared.plan.Motion.{Motion}
use Rattle.hq_algebra.specs.declared.plan.Motion.TheVariants as motion
use Rattle.hq_meaning.specs.Nodes.{nodes_of, lowest, moved}

-- the nodes that are up, ascending
abbrev pub nodes_up : List Bool → List ℕ
nodes_up marks = filter (λ n. slice_index_or marks n false) (range_with_len 0 16)

-- the nodes that get rows, ascending
abbrev pub receivers : Motion → List ℕ → List ℕ
receivers motion.Gather owner = lowest owner ∷ []
receivers motion.Broadcast owner = nodes_of owner
receivers (motion.Redistribute keys) owner = nodes_of owner
receivers motion.Result owner = []

-- each of them with its rows
abbrev pub split : Motion → List ℕ → List (List Value) → List (ℕ × List (List Value))
split m owner rows = map (λ n. (n, moved m owner rows n)) (receivers m owner)

-- a motion between slices; rows that go by keys have them, and there is a key
abbrev pub CanMove : Motion → List (List Value) → Type 0
CanMove motion.Gather rows = Unit {0}
CanMove motion.Broadcast rows = Unit {0}
CanMove (motion.Redistribute keys) rows = (0 < length keys) × All (HasColumns keys) rows
CanMove motion.Result rows = ⊥
