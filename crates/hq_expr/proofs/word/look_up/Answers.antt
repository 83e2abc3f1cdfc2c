use Rattle.std.proofs.Common.{map, sym, ap, ◌∙◌}
use Rattle.std.specs.Char.{to_ascii_lowercase}
use Rattle.std.specs.Str.{bytes_eq}
use Rattle.hq_expr.proofs.Reserved.{found_at, passed_at}
use Rattle.hq_expr.proofs.word.look_up.Goals as goal

pub returns-then-is_same : goal.returns-then-is_same
returns-then-is_same c =
    found_at (map to_ascii_lowercase c.args.run.now) c.args.entries.now c.loop-word.word-index _ _ c.loop-word-test.true c.loop-word.invariant
    (ap (λ v. bytes_eq (map to_ascii_lowercase c.args.run.now) (map to_ascii_lowercase v)) (sym c.as_bytes.ensures.value) ∙ sym c.is_same.ensures ∙ c.if-is_same.true)

pub loop-word-preserved : goal.loop-word-preserved
loop-word-preserved c =
    passed_at (map to_ascii_lowercase c.args.run.now) c.args.entries.now c.loop-word.word-index _ _ c.loop-word-test.true c.loop-word.invariant
    (ap (λ v. bytes_eq (map to_ascii_lowercase c.args.run.now) (map to_ascii_lowercase v)) (sym c.as_bytes.ensures.value) ∙ sym c.is_same.ensures ∙ c.if-is_same.false)
