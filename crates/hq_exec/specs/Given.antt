-- What an operator gives, as a result.
--     end_as result       the end of the operator
use Rattle.std.specs.Prelude.{List, Result, Ok, Err}
use Rattle.std.specs.Global.{Vec}
use Rattle.hq_value.specs.declared.value.Value.{Value}
use Rattle.hq_ops.specs.declared.end.OpEnd.{OpEnd}
use Rattle.hq_ops.specs.declared.end.OpEnd.TheVariants as end
use Rattle.hq_exec.specs.declared.end.Halt.{Halt}
use Rattle.hq_exec.specs.declared.end.Halt.TheVariants as halt

-- the end of the operator
abbrev pub end_as : Result (Vec (List Value)) Halt → OpEnd
end_as (Ok rows) = end.Rows rows
end_as (Err halt.Numeric) = end.Numeric
end_as (Err halt.NoMemory) = end.NoMemory
