use Rattle.std.proofs.Common.{arith}
use Rattle.hq_planwire.proofs.Walks.{fit_true, fit_false}
use Rattle.hq_planwire.proofs.rules.+fit_from.Goals as goal

pub returns-then-fits_before : goal.returns-then-fits_before
returns-then-fits_before t c = fit_true c.args.parts.now c.args.place c.index-parts-place.result c.fits_before.result c.fit_from.result (omega arith) c.index-parts-place.is c.fits_before.ensures c.if-fits_before.true c.fit_from.ensures

pub returns-else-fits_before : goal.returns-else-fits_before
returns-else-fits_before t c = fit_false c.args.parts.now c.args.place c.index-parts-place.result c.fits_before.result (omega arith) c.index-parts-place.is c.fits_before.ensures c.if-fits_before.false
