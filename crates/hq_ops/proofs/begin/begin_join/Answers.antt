use Rattle.std.proofs.Common.{refl, ◌∙◌}
use Rattle.hq_ops.proofs.begin.begin_join.Goals as goal

pub returns : goal.returns
returns c op is = record {
  stands = record { gives_are = is.gives_are c.args.build.now; fails_are = is.fails_are; streams_are = is.streams };
  keys_are = c.in_ok-right.ensures.keys ∙ c.as_slice.ensures;
  rows_are = c.in_ok-right.ensures.rows;
  given_are = refl;
}
