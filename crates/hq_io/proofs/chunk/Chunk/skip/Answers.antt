use Rattle.std.proofs.Common.{ap, ◌∙◌, drop}
use Rattle.hq_io.proofs.Chunks.{range-later}
use Rattle.hq_io.proofs.chunk.Chunk.skip.Goals as goal

pub returns : goal.returns
returns c =
    let fits = rw (← c.self.view_is) at c.requires in
    range-later c.self.inside.bytes.items c.self.inside.at c.self.inside.end c.args.count fits ∙ ap (drop c.args.count) c.self.view_is
