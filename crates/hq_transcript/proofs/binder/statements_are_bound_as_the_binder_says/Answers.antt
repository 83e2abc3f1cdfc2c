use Rattle.hq_transcript.proofs.Binders.{select-refused, insert-refused, select-bound, tuples-bound, rows-bound}
use Rattle.hq_transcript.proofs.binder.statements_are_bound_as_the_binder_says.Goals as goal

pub returns : goal.returns
returns c = record { select_refused = select-refused; insert_refused = insert-refused; select = select-bound; tuples = tuples-bound; rows = rows-bound }
