use Rattle.hq_block.proofs.Begins.{block-begins, first_16, onward, one_head}
use Rattle.hq_block.proofs.Heads.{one_length}
use Rattle.hq_block.proofs.laws.blocks_begin_with_heads.Goals as goal

pub returns : goal.returns
returns c = record {
  begins = λ kinds rows bytes more is. let b = block-begins kinds rows bytes more is in (b.n, b.is, b.within, (b.head, b.says, b.length_is));
  first_16 = first_16;
  onward = onward;
  one_length = one_length;
  one_head = one_head;
}
