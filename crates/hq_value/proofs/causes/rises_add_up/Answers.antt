-- By the ends of their types.
use Rattle.hq_value.proofs.Counting.{rose_more, raised_more}
use Rattle.hq_value.proofs.causes.rises_add_up.Goals as goal

pub returns : goal.returns
returns c = record { at_least = rose_more; exactly = raised_more }
