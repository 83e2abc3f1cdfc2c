use Rattle.std.proofs.Common.{ℕ, ◌∙◌, ap, sym}
use Rattle.hq_algebra.specs.declared.expr.Expr.TheVariants as e
use Rattle.hq_laws.specs.Turned.{renamed}
use Rattle.hq_narrow.specs.Narrow.{place_from}
use Rattle.hq_whole.proofs.Nodes.{renamed-Arith, renamed-Compare, renamed-And, renamed-Or, renamed-Not, renamed-IsNull}
use Rattle.hq_whole.proofs.Results.{if_ok-then}
use Rattle.hq_planner.proofs.renaming.+widened.Goals as goal

pub returns-in_ok-right-in-Arith : goal.returns-in_ok-right-in-Arith
returns-in_ok-right-in-Arith t c =
    let f : ℕ → ℕ = place_from c.args.columns.now c.args.width in
    if_ok-then c.arith.result (e.Arith c.in-Arith.kind c.in_ok-left-in-Arith.left c.in_ok-right-in-Arith.right) (renamed f c.args.e.now)
    ((λ i. e.Arith c.in-Arith.kind ((c.in_ok-left-in-Arith.ensures ∙ ap (renamed f) c.get.ensures) i) ((c.in_ok-right-in-Arith.ensures ∙ ap (renamed f) c.get-in-Arith.ensures) i))
    ∙ sym (renamed-Arith f c.in-Arith.kind c.in-Arith.left c.in-Arith.right) ∙ ap (renamed f) (sym c.in-Arith.is))
    c.arith.ensures

pub returns-in_ok-right-in-Compare : goal.returns-in_ok-right-in-Compare
returns-in_ok-right-in-Compare t c =
    let f : ℕ → ℕ = place_from c.args.columns.now c.args.width in
    if_ok-then c.compare.result (e.Compare c.in-Compare.kind c.in_ok-left-in-Compare.left c.in_ok-right-in-Compare.right) (renamed f c.args.e.now)
    ((λ i. e.Compare c.in-Compare.kind ((c.in_ok-left-in-Compare.ensures ∙ ap (renamed f) c.get-in-Compare.ensures) i) ((c.in_ok-right-in-Compare.ensures ∙ ap (renamed f) c.get-in-Compare-2.ensures) i))
    ∙ sym (renamed-Compare f c.in-Compare.kind c.in-Compare.left c.in-Compare.right) ∙ ap (renamed f) (sym c.in-Compare.is))
    c.compare.ensures

pub returns-in_ok-right-in-And : goal.returns-in_ok-right-in-And
returns-in_ok-right-in-And t c =
    let f : ℕ → ℕ = place_from c.args.columns.now c.args.width in
    if_ok-then c.and.result (e.And c.in_ok-left-in-And.left c.in_ok-right-in-And.right) (renamed f c.args.e.now)
    ((λ i. e.And ((c.in_ok-left-in-And.ensures ∙ ap (renamed f) c.get-in-And.ensures) i) ((c.in_ok-right-in-And.ensures ∙ ap (renamed f) c.get-in-And-2.ensures) i))
    ∙ sym (renamed-And f c.in-And.left c.in-And.right) ∙ ap (renamed f) (sym c.in-And.is))
    c.and.ensures

pub returns-in_ok-right-in-Or : goal.returns-in_ok-right-in-Or
returns-in_ok-right-in-Or t c =
    let f : ℕ → ℕ = place_from c.args.columns.now c.args.width in
    if_ok-then c.or.result (e.Or c.in_ok-left-in-Or.left c.in_ok-right-in-Or.right) (renamed f c.args.e.now)
    ((λ i. e.Or ((c.in_ok-left-in-Or.ensures ∙ ap (renamed f) c.get-in-Or.ensures) i) ((c.in_ok-right-in-Or.ensures ∙ ap (renamed f) c.get-in-Or-2.ensures) i))
    ∙ sym (renamed-Or f c.in-Or.left c.in-Or.right) ∙ ap (renamed f) (sym c.in-Or.is))
    c.or.ensures

pub returns-in_ok-of-in-Not : goal.returns-in_ok-of-in-Not
returns-in_ok-of-in-Not t c =
    let f : ℕ → ℕ = place_from c.args.columns.now c.args.width in
    if_ok-then c.not.result (e.Not c.in_ok-of-in-Not.of) (renamed f c.args.e.now)
    (ap e.Not (c.in_ok-of-in-Not.ensures ∙ ap (renamed f) c.get-in-Not.ensures) ∙ sym (renamed-Not f c.in-Not.of) ∙ ap (renamed f) (sym c.in-Not.is))
    c.not.ensures

pub returns-in_ok-of-in-IsNull : goal.returns-in_ok-of-in-IsNull
returns-in_ok-of-in-IsNull t c =
    let f : ℕ → ℕ = place_from c.args.columns.now c.args.width in
    if_ok-then c.is_null.result (e.IsNull c.in_ok-of-in-IsNull.of) (renamed f c.args.e.now)
    (ap e.IsNull (c.in_ok-of-in-IsNull.ensures ∙ ap (renamed f) c.get-in-IsNull.ensures) ∙ sym (renamed-IsNull f c.in-IsNull.of) ∙ ap (renamed f) (sym c.in-IsNull.is))
    c.is_null.ensures
