use Rattle.std.proofs.Common.{◌≡◌, map, drop}
use Rattle.std.specs.Char.{to_ascii_lowercase}
use Rattle.hq_expr.specs.Lexemes as spec
use Rattle.hq_expr.proofs.word.look_up.Given as goal

abbrev pub invariant-loop-word : goal.invariant-loop-word
invariant-loop-word l =
    spec.look_up (map to_ascii_lowercase l.run) (map (λ e. (map to_ascii_lowercase e.0.now, e.1)) l.entries)
    ≡ spec.look_up (map to_ascii_lowercase l.run) (map (λ e. (map to_ascii_lowercase e.0.now, e.1)) (drop l.word-index l.entries))
