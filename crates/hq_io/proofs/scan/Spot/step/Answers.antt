use Rattle.std.proofs.Common.{sym, arith, ◌∙◌, subst, take, ◌+◌}
use Rattle.hq_io.specs.Scanning.{Passes}
use Rattle.hq_io.proofs.Scanning.{CutAt-found, Passes-past, ends-not, ends-byte}
use Rattle.hq_io.proofs.scan.Spot.step.Goals as goal

pub returns-then-ends_piece : goal.returns-then-ends_piece
returns-then-ends_piece c =
    let is = ends-byte _ _ (sym c.ends_piece.ensures ∙ c.if-ends_piece.true) in
    CutAt-found c.args.self c.args.bytes.now c.in-Some.at c.in-Some.ensures.0 c.in-Some.ensures.1 is.0 is.1

pub returns : goal.returns
returns c =
    let past = Passes-past c.args.self c.args.bytes.now c.in-Some.at c.in-Some.ensures.0 c.in-Some.ensures.1 (ends-not _ _ (sym c.ends_piece.ensures ∙ c.if-ends_piece.false)) in
    (omega arith, omega (arith, c.in-Some.ensures.0), subst (Passes c.args.self (take (c.in-Some.at + 1) c.args.bytes.now)) (sym c.after.ensures) past)
