-- Why these bytes do not go on as a block.
use Rattle.std.proofs.Common.{◌≡◌, ◌≤◌, length, arith}
use Rattle.hq_lane.specs.Sizes.{size_at}
use Rattle.hq_lane.proofs.Fronts.{empty_begin_none, cut_off_begin_none}
use Rattle.hq_lane.proofs.block.block_size.Goals as goal

pub returns-then-size-eq0-clause-none : goal.returns-then-size-eq0-clause-none
returns-then-size-eq0-clause-none c = λ _ kinds more within.
    let says : c.in-Some.size ≡ size_at c.args.bytes.now = c.in-Some.ensures.value in
    let long : 16 ≤ length c.args.bytes.now = omega arith in
    empty_begin_none kinds c.args.bytes.now more long (omega (arith, says))

pub returns-then-left-len-clause-none : goal.returns-then-left-len-clause-none
returns-then-left-len-clause-none c = λ _ kinds more within.
    let says : c.in-Some.size ≡ size_at c.args.bytes.now = c.in-Some.ensures.value in
    let long : 16 ≤ length c.args.bytes.now = omega arith in
    cut_off_begin_none kinds c.args.bytes.now more c.args.left long (omega (arith, says)) within
