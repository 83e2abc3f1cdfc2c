use Rattle.hq_whole.proofs.spreading.joined.Goals as goal

pub returns : goal.returns
returns c = record {
  slices = c.in_ok-root.ensures.slices;
  root = c.in_ok-root.ensures.root;
  kinds = c.in_ok-kinds.ensures;
  few = c.in_ok-root.ensures.few;
}
