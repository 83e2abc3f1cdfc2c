-- The right rows of the Joins of a slice.
--     BuildsFit op builds       they fit the kinds of the right sides
--     builds_read op h          how many bytes are read below the right sides
--     leaf_kinds op             the kinds of the leaf
--     leaf_rows, leaf_kept      the rows of the leaf, and those of the blocks that the tests do not skip
--     leaf_reads op h above     how many bytes are read of it
--     AreBuilt told h op fault before after    the right rows were added
use Rattle.std.specs.Prelude.{◌≡◌, ◌+◌, ℕ, Bool, false, List, [], ◌∷◌, ◌++◌, map, Option, Some, None}
use Rattle.std.specs.Global.{Vec}
use Rattle.hq_value.specs.declared.value.Value.{Value}
use Rattle.hq_value.specs.declared.kind.Kind.{Kind}
use Rattle.hq_algebra.specs.declared.expr.Expr.{Expr}
use Rattle.hq_algebra.specs.declared.op.Op.{Op, Row_of-Op, end_of-Op, more_of-Op}
use Rattle.hq_algebra.specs.declared.op.Op.TheVariants as op
use Rattle.hq_algebra.specs.Operators.{kinds_of_input}
use Rattle.hq_meaning.specs.Rows.{Row}
use Rattle.hq_fits.specs.Supplied.{AreFit}
use Rattle.hq_exec.specs.Files.{HeldState, table_rows, kept_in, reads_in, sent_rows, here}
use Rattle.hq_exec.specs.Skips.{tests_under}
use Rattle.hq_exec.specs.Slices.{input_reads}
use Rattle.hq_exec.specs.Stages.{leaf_of, above_of, builds_of, builds_fault, first_of, others_of}

-- they fit the kinds of the right sides
abbrev mutual
  pub BuildsFit : Op → List (List Row) → Type 0
  BuildsFit (op.Scan table kinds) builds = Unit {0}
  BuildsFit (op.Receive slice kinds) builds = Unit {0}
  BuildsFit (op.Filter' cond p input) builds = InputBuildsFit input builds
  BuildsFit (op.Project' items p input) builds = InputBuildsFit input builds
  BuildsFit (op.Join' lk rk p left q right) builds = ((kinds : List Kind) → kinds_of_input right ≡ Some kinds → AreFit kinds (first_of builds)) × InputBuildsFit left (others_of builds)
  BuildsFit (op.Partial' keys aggs p input) builds = InputBuildsFit input builds
  BuildsFit (op.Final' n aggs p input) builds = InputBuildsFit input builds
  BuildsFit (op.Distinct' p input) builds = InputBuildsFit input builds
  BuildsFit (op.Sort' order limit p input) builds = InputBuildsFit input builds

  pub InputBuildsFit : {m : _} → Row_of-Op m → List (List Row) → Type 0
  InputBuildsFit end_of-Op builds = Unit {0}
  InputBuildsFit (more_of-Op child rest) builds = BuildsFit child builds

-- how many bytes are read below the right sides
abbrev mutual
  pub builds_read : Op → HeldState → ℕ
  builds_read (op.Scan table kinds) h = 0
  builds_read (op.Receive slice kinds) h = 0
  builds_read (op.Filter' cond p input) h = input_builds_read input h
  builds_read (op.Project' items p input) h = input_builds_read input h
  builds_read (op.Join' lk rk p left q right) h = input_reads right h None + input_builds_read left h
  builds_read (op.Partial' keys aggs p input) h = input_builds_read input h
  builds_read (op.Final' n aggs p input) h = input_builds_read input h
  builds_read (op.Distinct' p input) h = input_builds_read input h
  builds_read (op.Sort' order limit p input) h = input_builds_read input h

  pub input_builds_read : {m : _} → Row_of-Op m → HeldState → ℕ
  input_builds_read end_of-Op h = 0
  input_builds_read (more_of-Op child rest) h = builds_read child h

-- the kinds of a leaf
abbrev pub kinds_at : Op → List Kind
kinds_at (op.Scan table kinds) = kinds
kinds_at (op.Receive slice kinds) = kinds
kinds_at _ = []

abbrev pub leaf_kinds : Op → List Kind
leaf_kinds o = kinds_at (leaf_of o)

-- the rows of a leaf
abbrev pub rows_at : Op → HeldState → List Row
rows_at (op.Scan table kinds) h = table_rows h table
rows_at (op.Receive slice kinds) h = sent_rows h slice
rows_at _ h = []

abbrev pub leaf_rows : Op → HeldState → List Row
leaf_rows o h = rows_at (leaf_of o) h

-- those of the blocks that the tests of the Filter directly above it do not skip
abbrev pub kept_at : Op → Option Expr → HeldState → List Row
kept_at (op.Scan table kinds) above h = kept_in (tests_under kinds above) h table
kept_at (op.Receive slice kinds) above h = sent_rows h slice
kept_at _ above h = []

abbrev pub leaf_kept : Op → Option Expr → HeldState → List Row
leaf_kept o above h = kept_at (leaf_of o) (above_of o above) h

-- how many bytes are read of it
abbrev pub reads_at : Op → Option Expr → HeldState → ℕ
reads_at (op.Scan table kinds) above h = reads_in (tests_under kinds above) h table
reads_at _ above h = 0

abbrev pub leaf_reads : Op → Option Expr → HeldState → ℕ
leaf_reads o above h = reads_at (leaf_of o) (above_of o above) h

-- the lists of rows of Vecs
abbrev pub lists_of : List (Vec (List Value)) → List (List Row)
lists_of builds = map (λ (b : Vec (List Value)). b.items) builds

-- the right rows were added to others, unless an evaluation faulted
pub record AreBuilt (told : Type 0) (h : HeldState) (o : Op) (fault : Bool) (before after : List (Vec (List Value))) : Type 0 where
  pub faults : told → fault ≡ builds_fault o (here h)
  pub builds : List (Vec (List Value))
  pub added : after ≡ before ++ builds
  pub fit : fault ≡ false → BuildsFit o (lists_of builds)
  pub are : told → fault ≡ false → lists_of builds ≡ builds_of o (here h)
