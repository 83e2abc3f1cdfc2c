-- The nodes of a statement. `owner` is a list of 16: for each bucket the node that owns it.
--     nodes_of owner            the nodes in use, those that own a bucket, ascending
--     lowest owner              the lowest of them
--     home owner keys row       the node that owns the row's bucket by these columns
--     moved motion owner rows n what node n receives of the rows that all nodes of a slice give
use Rattle.std.specs.Prelude.{ℕ, ◌==◌, List, [], filter, slice_index, if◌then◌else◌}
use Rattle.std.specs.List.{list_any, range_with_len}
use Rattle.hq_value.specs.Bucket.{bucket_of}
use Rattle.hq_algebra.specs.declared.plan.Motion.{Motion}
use Rattle.hq_algebra.specs.declared.plan.Motion.TheVariants as motion
use Rattle.hq_meaning.specs.Rows.{Row}

-- the nodes in use, those that own a bucket, ascending
abbrev pub nodes_of : List ℕ → List ℕ
nodes_of owner = filter (λ n. list_any (λ m. m == n) owner) (range_with_len 0 16)

-- the lowest of them
abbrev pub lowest : List ℕ → ℕ
lowest owner = slice_index (nodes_of owner) 0

-- the node that owns the row's bucket by these columns
abbrev pub home : List ℕ → List ℕ → Row → ℕ
home owner keys row = slice_index owner (bucket_of row keys)

-- what node n receives of the rows that all nodes of a slice give, in their order
abbrev pub moved : Motion → List ℕ → List Row → ℕ → List Row
moved motion.Gather owner rows n = if n == lowest owner then rows else []
moved motion.Broadcast owner rows n = rows
moved (motion.Redistribute keys) owner rows n = filter (λ row. home owner keys row == n) rows
moved motion.Result owner rows n = []
