-- The bytes that were there, and those behind them.
use Rattle.std.proofs.Common.{◌∙◌, ◌+◌, ℕ, sym, ap, arith, slice_range}
use Rattle.hq_lane.proofs.Passing.{on_ok}
use Rattle.hq_lane.proofs.Scanning.{bytes_behind}
use Rattle.hq_lane.proofs.block.fill.Goals as goal

pub returns-clause-told : goal.returns-clause-told
returns-clause-told g c =
    let have : ℕ = c.len-have.result in
    on_ok c.add_bytes.result
    (λ told t. bytes_behind (g.R.Readable.bytes c.args.range.now) c.args.bytes.now.items c.add_bytes.new.bytes.items c.args.at have c.args.len (omega (arith, c.len-have.ensures, c.requires.have))
    (c.requires.told t ∙ ap (λ (n : ℕ). slice_range (g.R.Readable.bytes c.args.range.now) c.args.at (c.args.at + n)) (sym c.len-have.ensures)) (told t))
    c.add_bytes.ensures.told
