use Rattle.hq_log.proofs.Nexts.{next_place-Clean, next_place-Dirty, next_place-Unborn, next_place-AllOut}
use Rattle.hq_log.proofs.laws.the_next_place.Goals as goal

pub returns : goal.returns
returns c = record { clean = next_place-Clean; dirty = next_place-Dirty; unborn = next_place-Unborn; all_out = next_place-AllOut }
