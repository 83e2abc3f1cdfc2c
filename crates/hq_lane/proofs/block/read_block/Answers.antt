-- Nothing that goes on from these bytes within the range begins with a block.
use Rattle.std.proofs.Common.{rules, ◌≤◌, ◌-◌, IsErrOf, IsNone, arith}
use Rattle.hq_lane.specs.declared.block.Stop.TheVariants as stop
use Rattle.hq_lane.proofs.block.read_block.Goals as goal

pub returns-in_default-clause-bad : goal.returns-in_default-clause-bad
returns-in_default-clause-bad g c = λ _.
    let front = c.in_ok-len.ensures in
    let none : IsNone c.in_ok-len.field-0 = search rules in
    record {
      behind = omega arith;
      before = c.requires.before;
      within = omega (arith, front.long, c.read_front.new.bytes.ok.0);
      no_block = λ more fits. front.none none c.args.kinds.now more fits;
    }

pub returns-in_err-read_rest-clause-bad : goal.returns-in_err-read_rest-clause-bad
returns-in_err-read_rest-clause-bad g c = λ is_bad.
    let bad : IsErrOf c.read_rest.result stop.BadBlock = search rules in
    let short : c.in-Some.len ≤ c.args.to - c.args.at = search rules in
    let rest = c.read_rest.ensures in
    record {
      behind = omega arith;
      before = c.requires.before;
      within = omega (arith, rest.bad_long bad, short, c.requires.before);
      no_block = λ more fits. rest.bad bad more;
    }
