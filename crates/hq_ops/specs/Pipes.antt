-- An operator that is given its rows bit by bit.
--     takes_rows op               it is no Scan and no Receive
--     is_streamed op              it gives what comes of rows at once: a Filter, a Project or a Join
--     gives op build rows         what it gives over its rows; `build` has a Join's right rows
--     fails op rows               some evaluation of it over its rows faults
use Rattle.std.specs.Prelude.{Bool, true, false, List}
use Rattle.hq_algebra.specs.declared.op.Op.{Op}
use Rattle.hq_algebra.specs.declared.op.Op.TheVariants as op
use Rattle.hq_meaning.specs.Rows.{Row}
use Rattle.hq_meaning.specs.Operators.{filtered, projected, project_faults, joined, partial, partial_faults, final, final_faults, distinct, sorted}

-- it is no Scan and no Receive
abbrev pub takes_rows : Op → Bool
takes_rows (op.Scan table kinds) = false
takes_rows (op.Receive slice kinds) = false
takes_rows _ = true

-- it gives what comes of rows at once
abbrev pub is_streamed : Op → Bool
is_streamed (op.Filter' cond _ input) = true
is_streamed (op.Project' items _ input) = true
is_streamed (op.Join' lk rk _ left _ right) = true
is_streamed _ = false

-- what it gives over its rows
abbrev pub gives : Op → List Row → List Row → List Row
gives (op.Scan table kinds) build rows = rows
gives (op.Receive slice kinds) build rows = rows
gives (op.Filter' cond _ input) build rows = filtered cond rows
gives (op.Project' items _ input) build rows = projected items rows
gives (op.Join' lk rk _ left _ right) build rows = joined lk rk rows build
gives (op.Partial' keys aggs _ input) build rows = partial keys aggs rows
gives (op.Final' n aggs _ input) build rows = final n aggs rows
gives (op.Distinct' _ input) build rows = distinct rows
gives (op.Sort' order limit _ input) build rows = sorted order limit rows

-- some evaluation of it over its rows faults; a condition has no arithmetic, so a Filter never does
abbrev pub fails : Op → List Row → Bool
fails (op.Project' items _ input) rows = project_faults items rows
fails (op.Partial' keys aggs _ input) rows = partial_faults aggs rows
fails (op.Final' n aggs _ input) rows = final_faults n aggs rows
fails _ rows = false
