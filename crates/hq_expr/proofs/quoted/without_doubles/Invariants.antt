use Rattle.std.proofs.Common.{◌≡◌, ◌++◌, length, false, string_bytes}
use denote.Shadow.{shadow}
use denote.Text.{Utf8}
use Rattle.hq_expr.specs.Lexemes.{without_doubles}
use Rattle.hq_expr.proofs.quoted.without_doubles.Given as goal

abbrev pub invariant-pieces : goal.invariant-pieces
invariant-pieces l = shadow (Utf8 l.rest) × (string_bytes l.text ++ without_doubles false l.rest ≡ without_doubles false l.content)

abbrev pub decreases-pieces : goal.decreases-pieces
decreases-pieces l = length l.rest
