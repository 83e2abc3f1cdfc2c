use Rattle.std.proofs.Common.{ℕ, ◌∙◌, ap, sym}
use Rattle.hq_algebra.specs.declared.expr.Expr.TheVariants as e
use Rattle.hq_laws.specs.Turned.{renamed}
use Rattle.hq_narrow.specs.Narrow.{place_from}
use Rattle.hq_whole.proofs.Nodes.{renamed-Arith, renamed-Compare, renamed-And, renamed-Or, renamed-Not, renamed-IsNull}
use Rattle.hq_planner.proofs.renaming.+narrow.Goals as goal

pub returns-in_ok-arith-in-Arith : goal.returns-in_ok-arith-in-Arith
returns-in_ok-arith-in-Arith t c =
    let f : ℕ → ℕ = place_from c.args.columns.now c.args.width in
    ap (renamed f) c.in_ok-arith-in-Arith.ensures ∙ renamed-Arith f c.in-Arith.kind c.in_ok-left-in-Arith.left c.in_ok-right-in-Arith.right
    ∙ (λ i. e.Arith c.in-Arith.kind ((c.in_ok-left-in-Arith.ensures ∙ c.get.ensures) i) ((c.in_ok-right-in-Arith.ensures ∙ c.get-in-Arith.ensures) i)) ∙ sym c.in-Arith.is

pub returns-in_ok-compare-in-Compare : goal.returns-in_ok-compare-in-Compare
returns-in_ok-compare-in-Compare t c =
    let f : ℕ → ℕ = place_from c.args.columns.now c.args.width in
    ap (renamed f) c.in_ok-compare-in-Compare.ensures ∙ renamed-Compare f c.in-Compare.kind c.in_ok-left-in-Compare.left c.in_ok-right-in-Compare.right
    ∙ (λ i. e.Compare c.in-Compare.kind ((c.in_ok-left-in-Compare.ensures ∙ c.get-in-Compare.ensures) i) ((c.in_ok-right-in-Compare.ensures ∙ c.get-in-Compare-2.ensures) i)) ∙ sym c.in-Compare.is

pub returns-in_ok-and-in-And : goal.returns-in_ok-and-in-And
returns-in_ok-and-in-And t c =
    let f : ℕ → ℕ = place_from c.args.columns.now c.args.width in
    ap (renamed f) c.in_ok-and-in-And.ensures ∙ renamed-And f c.in_ok-left-in-And.left c.in_ok-right-in-And.right
    ∙ (λ i. e.And ((c.in_ok-left-in-And.ensures ∙ c.get-in-And.ensures) i) ((c.in_ok-right-in-And.ensures ∙ c.get-in-And-2.ensures) i)) ∙ sym c.in-And.is

pub returns-in_ok-or-in-Or : goal.returns-in_ok-or-in-Or
returns-in_ok-or-in-Or t c =
    let f : ℕ → ℕ = place_from c.args.columns.now c.args.width in
    ap (renamed f) c.in_ok-or-in-Or.ensures ∙ renamed-Or f c.in_ok-left-in-Or.left c.in_ok-right-in-Or.right
    ∙ (λ i. e.Or ((c.in_ok-left-in-Or.ensures ∙ c.get-in-Or.ensures) i) ((c.in_ok-right-in-Or.ensures ∙ c.get-in-Or-2.ensures) i)) ∙ sym c.in-Or.is

pub returns-in_ok-not-in-Not : goal.returns-in_ok-not-in-Not
returns-in_ok-not-in-Not t c =
    let f : ℕ → ℕ = place_from c.args.columns.now c.args.width in
    ap (renamed f) c.in_ok-not-in-Not.ensures ∙ renamed-Not f c.in_ok-of-in-Not.of ∙ (λ i. e.Not ((c.in_ok-of-in-Not.ensures ∙ c.get-in-Not.ensures) i)) ∙ sym c.in-Not.is

pub returns-in_ok-is_null-in-IsNull : goal.returns-in_ok-is_null-in-IsNull
returns-in_ok-is_null-in-IsNull t c =
    let f : ℕ → ℕ = place_from c.args.columns.now c.args.width in
    ap (renamed f) c.in_ok-is_null-in-IsNull.ensures ∙ renamed-IsNull f c.in_ok-of-in-IsNull.of ∙ (λ i. e.IsNull ((c.in_ok-of-in-IsNull.ensures ∙ c.get-in-IsNull.ensures) i)) ∙ sym c.in-IsNull.is
