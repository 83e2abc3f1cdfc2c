use Rattle.std.proofs.Common.{◌≡◌, rules}
use Rattle.hq_ops.specs.Grouping.{key_by}
use Rattle.hq_ops.proofs.Guessing.{place-of}
use Rattle.hq_ops.proofs.gathering.guessed.Goals as goal

pub returns-clause-found : goal.returns-clause-found
returns-clause-found c =
    let is : c.in_ok-key.key.now ≡ key_by c.args.by.now c.args.row.now = search rules in
    place-of (key_by c.args.by.now c.args.row.now) c.in_ok-key.key.now c.args.keys.now.keys _ c.in_ok-index.index c.as_slice.ensures.unique c.as_slice.ensures.keys c.in_ok-key.ensures.lookup.0 c.in_ok-key.ensures.lookup.1 is
