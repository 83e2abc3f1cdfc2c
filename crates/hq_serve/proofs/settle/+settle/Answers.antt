use Rattle.hq_serve.proofs.Growing.{starts-same, starts-then, grew-same, grew-then}
use Rattle.hq_turns.proofs.Counting.{later-same, later-by}
use Rattle.hq_serve.proofs.settle.+settle.Goals as goal

pub returns-in-Ask-clause-begins : goal.returns-in-Ask-clause-begins
returns-in-Ask-clause-begins g t c = starts-then _ _ _ c.ask_once-next.ensures.begins c.settle.ensures.begins

pub returns-in-Ask-clause-alone : goal.returns-in-Ask-clause-alone
returns-in-Ask-clause-alone g t c alone = grew-then _ _ _ _ (c.ask_once-next.ensures.alone alone) (c.settle.ensures.alone alone)

pub returns-in-Ask-clause-later : goal.returns-in-Ask-clause-later
returns-in-Ask-clause-later g t c = later-by _ _ _ c.ask_once-next.ensures.later c.settle.ensures.later
