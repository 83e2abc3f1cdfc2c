use Rattle.std.proofs.Common.{◌&&◌, ◌∙◌, ap, sym, length}
use Rattle.hq_laws.specs.Guards.{is_inside}
use Rattle.hq_whole.proofs.Nodes.{inside-Arith, inside-Compare, inside-And, inside-Or}
use Rattle.hq_whole.proofs.source.+is_inside.Goals as goal

pub returns-in-Arith : goal.returns-in-Arith
returns-in-Arith t c =
    c.both.ensures ∙ (λ i. (c.is_inside.ensures ∙ ap (is_inside c.args.width (length c.args.kinds.now)) c.get.ensures) i && (c.is_inside-in-Arith.ensures ∙ ap (is_inside c.args.width (length c.args.kinds.now)) c.get-in-Arith.ensures) i)
    ∙ sym (inside-Arith c.args.width (length c.args.kinds.now) c.in-Arith.kind c.in-Arith.left c.in-Arith.right) ∙ ap (is_inside c.args.width (length c.args.kinds.now)) (sym c.in-Arith.is)

pub returns-in-Compare : goal.returns-in-Compare
returns-in-Compare t c =
    c.both-in-Compare.ensures ∙ (λ i. (c.is_inside-in-Compare.ensures ∙ ap (is_inside c.args.width (length c.args.kinds.now)) c.get-in-Compare.ensures) i && (c.is_inside-in-Compare-2.ensures ∙ ap (is_inside c.args.width (length c.args.kinds.now)) c.get-in-Compare-2.ensures) i)
    ∙ sym (inside-Compare c.args.width (length c.args.kinds.now) c.in-Compare.kind c.in-Compare.left c.in-Compare.right) ∙ ap (is_inside c.args.width (length c.args.kinds.now)) (sym c.in-Compare.is)

pub returns-in-And : goal.returns-in-And
returns-in-And t c =
    c.both-in-And.ensures ∙ (λ i. (c.is_inside-in-And.ensures ∙ ap (is_inside c.args.width (length c.args.kinds.now)) c.get-in-And.ensures) i && (c.is_inside-in-And-2.ensures ∙ ap (is_inside c.args.width (length c.args.kinds.now)) c.get-in-And-2.ensures) i)
    ∙ sym (inside-And c.args.width (length c.args.kinds.now) c.in-And.left c.in-And.right) ∙ ap (is_inside c.args.width (length c.args.kinds.now)) (sym c.in-And.is)

pub returns-in-Or : goal.returns-in-Or
returns-in-Or t c =
    c.both-in-Or.ensures ∙ (λ i. (c.is_inside-in-Or.ensures ∙ ap (is_inside c.args.width (length c.args.kinds.now)) c.get-in-Or.ensures) i && (c.is_inside-in-Or-2.ensures ∙ ap (is_inside c.args.width (length c.args.kinds.now)) c.get-in-Or-2.ensures) i)
    ∙ sym (inside-Or c.args.width (length c.args.kinds.now) c.in-Or.left c.in-Or.right) ∙ ap (is_inside c.args.width (length c.args.kinds.now)) (sym c.in-Or.is)
