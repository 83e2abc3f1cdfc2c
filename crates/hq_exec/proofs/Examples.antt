-- The definitions at small places, and at what is none.
use Rattle.std.proofs.Common.{◌≡◌, ℕ, Bool, true, false, Option, Some, None, List, [], ◌∷◌, ◌++◌, pos, refl}
use Rattle.std.specs.Prelude.{flat_map}
use Rattle.hq_value.specs.declared.entry.FileId.{FileId}
use Rattle.hq_value.specs.declared.value.Value.{Value}
use Rattle.hq_value.specs.declared.value.Value.TheVariants as value
use Rattle.hq_value.specs.declared.kind.Kind.{Kind}
use Rattle.hq_value.specs.declared.kind.Kind.TheVariants as kind
use Rattle.hq_value.specs.declared.operator.ArithKind.TheVariants as arith
use Rattle.hq_value.specs.declared.operator.CompareKind.TheVariants as compare
use Rattle.hq_block.specs.declared.skip.ColumnTest.{ColumnTest}
use Rattle.hq_algebra.specs.declared.aggregate.Aggregate.TheVariants as agg
use Rattle.hq_algebra.specs.declared.expr.Expr.{Expr}
use Rattle.hq_algebra.specs.declared.expr.Expr.TheVariants as expr
use Rattle.hq_algebra.specs.declared.op.Op.{Op}
use Rattle.hq_algebra.specs.declared.op.Op.TheVariants as op
use Rattle.hq_algebra.specs.declared.expr.Expr.TheBlock.{hidden-the_row-Expr-0}
use Rattle.hq_algebra.specs.declared.op.Op.TheBlock.{hidden-the_row-Op-0}
use denote.Hole.Carrier.{hidden}
use Rattle.hq_store.specs.FileStep.{FileState, SealState}
use Rattle.hq_lane.specs.BucketFiles.{BucketState}
use Rattle.hq_lane.specs.Lanes.{LaneState}
use Rattle.hq_snap.specs.Snaps.{TableSnapState}
use Rattle.hq_meaning.specs.Rows.{Row}
use Rattle.hq_exec.specs.Files.{HeldState, buckets_files, files_of, lanes_in}
use Rattle.hq_exec.specs.Skips.{tests_in, tests_under}
use Rattle.hq_exec.specs.Stages.{flowed, faulted, leaf_of, above_of, stages_of}

abbrev int : ℕ → Value
int n = value.Int (pos n)

-- a number and a text
abbrev kinds : List Kind
kinds = kind.Int ∷ kind.Text ∷ []

-- the first column is above 250
abbrev above : Expr
above = expr.Compare compare.Greater (expr.Column 0) (expr.Literal (int 250))

abbrev is_x : Expr
is_x = expr.Compare compare.Equal (expr.Column 1) (expr.Literal (value.Text (120 ∷ [])))

abbrev above_test : ColumnTest
above_test = record { column = 0; compare = compare.Greater; value = int 250 }

-- a test of a number is one, also beside a test of a text, which is none
one_test : tests_in kinds (expr.And above is_x) ≡ above_test ∷ []
unfolding hidden-the_row-Expr-0 hidden-the_row-Op-0 hidden
one_test = refl

-- a literal on the left is no test, nor is what is below an OR, nor a comparison with NULL
turned_is_none : tests_in kinds (expr.Compare compare.Less (expr.Literal (int 250)) (expr.Column 0)) ≡ []
unfolding hidden-the_row-Expr-0 hidden-the_row-Op-0 hidden
turned_is_none = refl

either_is_none : tests_in kinds (expr.Or above above) ≡ []
unfolding hidden-the_row-Expr-0 hidden-the_row-Op-0 hidden
either_is_none = refl

null_is_none : tests_in kinds (expr.Compare compare.Equal (expr.Column 0) (expr.Literal value.Null)) ≡ []
unfolding hidden-the_row-Expr-0 hidden-the_row-Op-0 hidden
null_is_none = refl

no_filter_no_test : tests_under kinds None ≡ []
no_filter_no_test = refl

-- a table of two lanes; bucket 5 has a file in each, bucket 2 in the second
abbrev sealed : List ℕ → SealState
sealed bytes = record { id = record { table = 3; lane = 0; bucket = 0 }; bytes = bytes; len = 0 }

abbrev first_lane : List (Option SealState)
first_lane = None ∷ None ∷ None ∷ None ∷ None ∷ Some (sealed (51 ∷ [])) ∷ []

abbrev second_lane : List (Option SealState)
second_lane = None ∷ None ∷ Some (sealed (22 ∷ [])) ∷ None ∷ None ∷ Some (sealed (52 ∷ [])) ∷ []

abbrev table : TableSnapState
table = record { table = 3; def = record { name = []; columns = []; keys = [] }; lanes = first_lane ∷ second_lane ∷ [] }

-- an own file with two committed bytes and one behind them
abbrev own_file : BucketState
own_file = record { id = record { table = 3; lane = 1; bucket = 0 }; file = Some (record { id = record { table = 3; lane = 1; bucket = 0 }; bytes = 7 ∷ 7 ∷ 9 ∷ []; sure = 3; sealed = 2; flushed = false }); base = 2; good = 3; torn = false; fresh = None }

abbrev lane_of : ℕ → LaneState
lane_of t = record { table = t; number = 1; files = own_file ∷ [] }

abbrev node : List ℕ → HeldState
node buckets = record { tables = table ∷ []; own = lane_of 4 ∷ lane_of 3 ∷ []; buckets = buckets; incoming = [] }

-- the buckets are read in ascending order, each once, whatever the order in which they are given
ascending_buckets : files_of (node (5 ∷ 2 ∷ 5 ∷ [])) 3 ≡ [] ∷ (22 ∷ []) ∷ [] ∷ (51 ∷ []) ∷ (52 ∷ []) ∷ [] ∷ []
ascending_buckets = refl

-- own rows come behind the committed ones, those of another table's lane do not
own_behind : files_of (node (0 ∷ [])) 3 ≡ [] ∷ [] ∷ (9 ∷ []) ∷ []
own_behind = refl

no_bucket_no_file : files_of (node []) 3 ≡ []
no_bucket_no_file = refl

-- the rows of a Scan, those above 250, and twice their first column
abbrev scan : Op
scan = op.Scan 3 kinds

abbrev twice : Expr
twice = expr.Arith arith.Plus (expr.Column 0) (expr.Column 0)

abbrev root : Op
root = op.Project (twice ∷ []) (op.Filter above scan)

abbrev rows : List Row
rows = (int 251 ∷ value.Null ∷ []) ∷ (int 250 ∷ value.Null ∷ []) ∷ []

its_leaf : leaf_of root ≡ scan
unfolding hidden-the_row-Expr-0 hidden-the_row-Op-0 hidden
its_leaf = refl

its_filter : above_of root None ≡ Some above
unfolding hidden-the_row-Expr-0 hidden-the_row-Op-0 hidden
its_filter = refl

-- a Filter that is not directly above a Scan has no test for it
no_filter : above_of (op.Filter above (op.Distinct scan)) None ≡ None
unfolding hidden-the_row-Expr-0 hidden-the_row-Op-0 hidden
no_filter = refl

flows : flowed (stages_of root []) rows ≡ (int 502 ∷ []) ∷ []
unfolding hidden-the_row-Expr-0 hidden-the_row-Op-0 hidden
flows = refl

-- a sum that leaves 64 bits faults, where its row passes the Filter
faults : faulted (stages_of root []) ((int 9223372036854775807 ∷ value.Null ∷ []) ∷ []) ≡ true
unfolding hidden-the_row-Expr-0 hidden-the_row-Op-0 hidden
faults = refl

no_fault : faulted (stages_of root []) ((int 1 ∷ value.Null ∷ []) ∷ []) ≡ false
unfolding hidden-the_row-Expr-0 hidden-the_row-Op-0 hidden
no_fault = refl

-- the right rows stand by their Join, the root's first
abbrev joined : Op
joined = op.Distinct (op.Join (0 ∷ []) (0 ∷ []) (op.Join (0 ∷ []) (0 ∷ []) scan scan) scan)

joins : flowed (stages_of joined (((int 1 ∷ int 8 ∷ []) ∷ []) ∷ ((int 1 ∷ int 9 ∷ []) ∷ []) ∷ [])) ((int 1 ∷ []) ∷ (int 2 ∷ []) ∷ []) ≡ (int 1 ∷ int 1 ∷ int 9 ∷ int 1 ∷ int 8 ∷ []) ∷ []
unfolding hidden-the_row-Expr-0 hidden-the_row-Op-0 hidden
joins = refl
