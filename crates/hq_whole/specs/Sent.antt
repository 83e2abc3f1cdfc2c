-- What the slice before the last one of a plan sends.
--     IsSendable found sent      what is sent is what was found, and is a column or more
--     IsSent kinds q sent        it is what the slice sends
use Rattle.std.specs.Prelude.{◌≡◌, ℕ, List, Option, Some, None, IsTrue}
use Rattle.hq_value.specs.declared.kind.Kind.{Kind}
use Rattle.hq_algebra.specs.declared.query.Query.{Query}
use Rattle.hq_laws.specs.Room.{kinds_sent, is_sendable}

abbrev pub IsSendable : Option (List Kind) → Option (List Kind) → Type 0
IsSendable found None = Unit {0}
IsSendable found (Some sent) = (found ≡ Some sent) × IsTrue (is_sendable sent)

abbrev pub IsSent : (ℕ → List Kind) → Query → Option (List Kind) → Type 0
IsSent kinds q sent = IsSendable (kinds_sent kinds q) sent
