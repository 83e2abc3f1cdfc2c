use Rattle.std.proofs.lemmas.Result.{on_ok_weaker}
use Rattle.hq_planwire.proofs.Putting.{PutExpr, arith_put, compare_put, and_put, or_put, not_put, is_null_put}
use Rattle.hq_planwire.proofs.put.+put_expr.Goals as goal

pub returns-in_ok-put_expr-in-Arith : goal.returns-in_ok-put_expr-in-Arith
returns-in_ok-put_expr-in-Arith t c = on_ok_weaker c.put_expr-in-Arith.result
    (λ (k : PutExpr c.put_expr.new.out.items c.get-in-Arith.result.now c.put_expr-in-Arith.new.out.items). arith_put c.args.e.now c.in-Arith.left c.in-Arith.right c.get.result.now c.get-in-Arith.result.now c.in-Arith.kind c.arith_byte.result c.args.out.now.items c.put_bytes.new.out.items c.put_expr.new.out.items c.put_expr-in-Arith.new.out.items
    c.in-Arith.is c.get.ensures c.get-in-Arith.ensures c.arith_byte.ensures c.in_ok-put_bytes-in-Arith.ensures c.in_ok-put_expr-in-Arith.ensures k) c.put_expr-in-Arith.ensures

pub returns-in_ok-put_expr-in-Compare : goal.returns-in_ok-put_expr-in-Compare
returns-in_ok-put_expr-in-Compare t c = on_ok_weaker c.put_expr-in-Compare-2.result
    (λ (k : PutExpr c.put_expr-in-Compare.new.out.items c.get-in-Compare-2.result.now c.put_expr-in-Compare-2.new.out.items). compare_put c.args.e.now c.in-Compare.left c.in-Compare.right c.get-in-Compare.result.now c.get-in-Compare-2.result.now c.in-Compare.kind c.compare_byte.result c.args.out.now.items c.put_bytes-in-Compare.new.out.items c.put_expr-in-Compare.new.out.items c.put_expr-in-Compare-2.new.out.items
    c.in-Compare.is c.get-in-Compare.ensures c.get-in-Compare-2.ensures c.compare_byte.ensures c.in_ok-put_bytes-in-Compare.ensures c.in_ok-put_expr-in-Compare.ensures k) c.put_expr-in-Compare-2.ensures

pub returns-in_ok-put_expr-in-And : goal.returns-in_ok-put_expr-in-And
returns-in_ok-put_expr-in-And t c = on_ok_weaker c.put_expr-in-And-2.result
    (λ (k : PutExpr c.put_expr-in-And.new.out.items c.get-in-And-2.result.now c.put_expr-in-And-2.new.out.items). and_put c.args.e.now c.in-And.left c.in-And.right c.get-in-And.result.now c.get-in-And-2.result.now c.args.out.now.items c.put_byte-in-And.new.out.items c.put_expr-in-And.new.out.items c.put_expr-in-And-2.new.out.items
    c.in-And.is c.get-in-And.ensures c.get-in-And-2.ensures c.in_ok-put_byte-in-And.ensures c.in_ok-put_expr-in-And.ensures k) c.put_expr-in-And-2.ensures

pub returns-in_ok-put_expr-in-Or : goal.returns-in_ok-put_expr-in-Or
returns-in_ok-put_expr-in-Or t c = on_ok_weaker c.put_expr-in-Or-2.result
    (λ (k : PutExpr c.put_expr-in-Or.new.out.items c.get-in-Or-2.result.now c.put_expr-in-Or-2.new.out.items). or_put c.args.e.now c.in-Or.left c.in-Or.right c.get-in-Or.result.now c.get-in-Or-2.result.now c.args.out.now.items c.put_byte-in-Or.new.out.items c.put_expr-in-Or.new.out.items c.put_expr-in-Or-2.new.out.items
    c.in-Or.is c.get-in-Or.ensures c.get-in-Or-2.ensures c.in_ok-put_byte-in-Or.ensures c.in_ok-put_expr-in-Or.ensures k) c.put_expr-in-Or-2.ensures

pub returns-in_ok-put_byte-in-Not : goal.returns-in_ok-put_byte-in-Not
returns-in_ok-put_byte-in-Not t c = on_ok_weaker c.put_expr-in-Not.result
    (λ (k : PutExpr c.put_byte-in-Not.new.out.items c.get-in-Not.result.now c.put_expr-in-Not.new.out.items). not_put c.args.e.now c.in-Not.of c.get-in-Not.result.now c.args.out.now.items c.put_byte-in-Not.new.out.items c.put_expr-in-Not.new.out.items
    c.in-Not.is c.get-in-Not.ensures c.in_ok-put_byte-in-Not.ensures k) c.put_expr-in-Not.ensures

pub returns-in_ok-put_byte-in-IsNull : goal.returns-in_ok-put_byte-in-IsNull
returns-in_ok-put_byte-in-IsNull t c = on_ok_weaker c.put_expr-in-IsNull.result
    (λ (k : PutExpr c.put_byte-in-IsNull.new.out.items c.get-in-IsNull.result.now c.put_expr-in-IsNull.new.out.items). is_null_put c.args.e.now c.in-IsNull.of c.get-in-IsNull.result.now c.args.out.now.items c.put_byte-in-IsNull.new.out.items c.put_expr-in-IsNull.new.out.items
    c.in-IsNull.is c.get-in-IsNull.ensures c.in_ok-put_byte-in-IsNull.ensures k) c.put_expr-in-IsNull.ensures
