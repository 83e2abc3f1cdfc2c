use Rattle.hq_laws.proofs.Turning.{mean-turned, tables-fit}
use Rattle.hq_laws.proofs.Renaming.{kinds-turned, room-turned}
use Rattle.hq_laws.proofs.TurnedGuards.{guards-turned}
use Rattle.hq_laws.proofs.orders.sources_may_change_places.Goals as goal

pub returns-clause-mean : goal.returns-clause-mean
returns-clause-mean c = mean-turned

pub returns-clause-fit : goal.returns-clause-fit
returns-clause-fit c = tables-fit

pub returns-clause-kinds : goal.returns-clause-kinds
returns-clause-kinds c = kinds-turned

pub returns-clause-room : goal.returns-clause-room
returns-clause-room c = room-turned

pub returns-clause-guards : goal.returns-clause-guards
returns-clause-guards c = guards-turned
