-- One row more.
use Rattle.std.proofs.Common.{◌≡◌, ◌∙◌, ◌-◌, length, ap, arith, length-drop}
use Rattle.hq_dispatch.proofs.Arriving.{next-row}
use Rattle.hq_dispatch.proofs.arrivals.read_rows.Goals as goal

pub rows-preserved : goal.rows-preserved
rows-preserved c =
    let left : length c.behind.result.now ≡ length c.args.bytes.now - c.rows.at = ap length c.behind.ensures ∙ length-drop c.rows.at c.args.bytes.now in
    let some = c.in-Some.ensures.within in
    record {
      within = omega (arith, left, some, c.rows.invariant.within);
      storable = c.read_one.ensures.storable;
      same = next-row c.args.rows.now.items c.rows.rows.items c.read_one.new.rows.items c.rows.at c.in-Some.len c.args.bytes.now c.behind.result.now c.behind.ensures c.in-Some.ensures.same c.rows.invariant.same;
    }

pub rows-smaller : goal.rows-smaller
rows-smaller c =
    let left : length c.behind.result.now ≡ length c.args.bytes.now - c.rows.at = ap length c.behind.ensures ∙ length-drop c.rows.at c.args.bytes.now in
    let within = c.in-Some.ensures.within in
    let some = c.in-Some.ensures.some in
    omega (arith, left, within, some, c.rows.invariant.within)
