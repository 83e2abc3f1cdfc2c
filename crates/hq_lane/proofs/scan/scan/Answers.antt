-- More is read, and no bad block where the bytes are told.
use Rattle.std.proofs.Common.{ℕ, ◌+◌, ◌-◌, Err, List, vec_len, slice_range, sym, ap, subst, arith}
use Rattle.hq_value.specs.declared.value.Value.{Value}
use Rattle.hq_block.specs.Block.{FileRows}
use Rattle.hq_lane.proofs.Scanning.{read_none, read_more, never_bad, bad_in, file_fits, gave_none, gave_more}
use Rattle.hq_lane.specs.Scans.{HasRead}
use Rattle.hq_lane.proofs.scan.scan.Goals as goal

pub loop-at-init : goal.loop-at-init
loop-at-init g c = record {
  behind = omega arith;
  before = c.requires.order;
  read = subst (λ (rows : List (List Value)). HasRead (g.R.Readable.tells c.args.range.now) (slice_range (g.R.Readable.bytes c.args.range.now) c.args.from c.args.from) (c.args.from - c.args.from) c.args.kinds.now rows)
      (sym c.new-rows.ensures.items) (read_none (g.R.Readable.tells c.args.range.now) (g.R.Readable.bytes c.args.range.now) c.args.from c.args.kinds.now);
  gave = gave_none _ _ _ (c.args.from - c.args.from) _ (omega arith) (omega (arith, c.given-given.ensures));
}

pub loop-at-preserved : goal.loop-at-preserved
loop-at-preserved g c =
    let so_far = c.loop-at.invariant in
    let told = c.in-Ok.ensures in
    let used : ℕ = vec_len c.read_block.new.bytes in
    record {
      behind = omega arith;
      before = omega (arith, told.within, c.len.ensures);
      read = subst (λ (n : ℕ). HasRead (g.R.Readable.tells c.args.range.now) (slice_range (g.R.Readable.bytes c.args.range.now) c.args.from (c.loop-at.at + n)) (c.loop-at.at + n - c.args.from) c.args.kinds.now c.read_block.new.rows.items)
          (sym c.len.ensures)
          (read_more (g.R.Readable.tells c.args.range.now) (g.R.Readable.bytes c.args.range.now) c.args.from c.loop-at.at used c.args.kinds.now c.loop-at.rows.items c.read_block.new.rows.items so_far.behind so_far.read told.found);
      gave = gave_more _ _ _ (c.loop-at.at - c.args.from) used _ _ _ _ (omega (arith, c.len.ensures)) so_far.gave told.gave;
    }

pub returns-in-Err-BadBlock-clause-bad : goal.returns-in-Err-BadBlock-clause-bad
returns-in-Err-BadBlock-clause-bad g c =
    bad_in c.args.kinds.now c.args.from c.args.to c.loop-at.at c.read_block.new.bytes.items c.loop-at.invariant.behind (c.in-Err-BadBlock.ensures.bad (ap Err c.in-Err-BadBlock.field-0-is))

pub returns-in-Err-BadBlock-clause-never_bad : goal.returns-in-Err-BadBlock-clause-never_bad
returns-in-Err-BadBlock-clause-never_bad g c = λ t.
    let so_far = c.loop-at.invariant in
    let told = c.in-Err-BadBlock.ensures in
    let is = ap Err c.in-Err-BadBlock.field-0-is in
    never_bad c.args.kinds.now (g.R.Readable.bytes c.args.range.now) c.read_block.new.bytes.items c.args.from c.loop-at.at c.args.to c.loop-at.rows.items so_far.behind (told.some is)
    (c.requires.file t) (subst (λ (l : List ℕ). FileRows c.args.kinds.now l c.loop-at.rows.items) (so_far.read.are_told t) so_far.read.file) (told.bad_told is t) (told.bad is)

pub returns-clause-fit : goal.returns-clause-fit
returns-clause-fit g c = file_fits c.args.kinds.now c.loop-at.invariant.read.bytes c.loop-at.rows.items c.loop-at.invariant.read.file
