use Rattle.std.proofs.Common.{◌∙◌, ap}
use Rattle.hq_planwire.proofs.Shapes.{with_arith, arith_shape, compare_shape, and_shape, or_shape, not_shape, is_null_shape}
use Rattle.hq_planwire.proofs.shape.+shape_of.Goals as goal

pub returns-in-Arith : goal.returns-in-Arith
returns-in-Arith t c = arith_shape c.in-Arith.kind c.args.e.now c.in-Arith.left c.in-Arith.right c.get.result.now c.get-in-Arith.result.now c.shape_of.result c.shape_of-in-Arith.result c.with_arith.result
    c.in-Arith.is c.get.ensures c.get-in-Arith.ensures c.shape_of.ensures c.shape_of-in-Arith.ensures (c.with_arith.ensures ∙ ap with_arith c.two.ensures)

pub returns-in-Compare : goal.returns-in-Compare
returns-in-Compare t c = compare_shape c.in-Compare.kind c.args.e.now c.in-Compare.left c.in-Compare.right c.get-in-Compare.result.now c.get-in-Compare-2.result.now c.shape_of-in-Compare.result c.shape_of-in-Compare-2.result c.two-in-Compare.result
    c.in-Compare.is c.get-in-Compare.ensures c.get-in-Compare-2.ensures c.shape_of-in-Compare.ensures c.shape_of-in-Compare-2.ensures c.two-in-Compare.ensures

pub returns-in-And : goal.returns-in-And
returns-in-And t c = and_shape c.args.e.now c.in-And.left c.in-And.right c.get-in-And.result.now c.get-in-And-2.result.now c.shape_of-in-And.result c.shape_of-in-And-2.result c.two-in-And.result
    c.in-And.is c.get-in-And.ensures c.get-in-And-2.ensures c.shape_of-in-And.ensures c.shape_of-in-And-2.ensures c.two-in-And.ensures

pub returns-in-Or : goal.returns-in-Or
returns-in-Or t c = or_shape c.args.e.now c.in-Or.left c.in-Or.right c.get-in-Or.result.now c.get-in-Or-2.result.now c.shape_of-in-Or.result c.shape_of-in-Or-2.result c.two-in-Or.result
    c.in-Or.is c.get-in-Or.ensures c.get-in-Or-2.ensures c.shape_of-in-Or.ensures c.shape_of-in-Or-2.ensures c.two-in-Or.ensures

pub returns-in-Not : goal.returns-in-Not
returns-in-Not t c = not_shape c.args.e.now c.in-Not.of c.get-in-Not.result.now c.shape_of-in-Not.result c.one.result c.in-Not.is c.get-in-Not.ensures c.shape_of-in-Not.ensures c.one.ensures

pub returns-in-IsNull : goal.returns-in-IsNull
returns-in-IsNull t c = is_null_shape c.args.e.now c.in-IsNull.of c.get-in-IsNull.result.now c.shape_of-in-IsNull.result c.one-in-IsNull.result c.in-IsNull.is c.get-in-IsNull.ensures c.shape_of-in-IsNull.ensures c.one-in-IsNull.ensures
