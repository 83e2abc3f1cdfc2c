-- What a reading call returns: what there is, or Syntax where there is none, unless memory ran out.
use Rattle.std.specs.Prelude.{◌≡◌, Option, Some, None, Result, Ok, Err}
use Rattle.hq_expr.specs.declared.fault.ParseFault.{ParseFault}
use Rattle.hq_expr.specs.declared.fault.ParseFault.TheVariants.{Syntax, NoMemory}

abbrev pub Gives : {X : Type 0} → Result X ParseFault → Option X → Type 0
Gives (Ok x) found = found ≡ Some x
Gives (Err Syntax) found = found ≡ None
Gives (Err NoMemory) found = Unit {0}
