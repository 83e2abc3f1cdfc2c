use Rattle.std.proofs.Common.{sym, subst, inl}
use Rattle.hq_pump.specs.Seen.{seen}
use Rattle.hq_pump.specs.Pumping.{AreOpen, AreShort}
use Rattle.hq_pump.proofs.Over.{new_open}
use Rattle.hq_pump.proofs.run.start.Goals as goal

pub pump-requires-clause-open_ones : goal.pump-requires-clause-open_ones
pump-requires-clause-open_ones g c = subst AreOpen (sym c.in-Ok.ensures.made) (new_open c.args.query c.args.motion c.args.to (seen c.args.streams.items))

pub returns-clause-short : goal.returns-clause-short
returns-clause-short g c = inl (subst AreShort c.in-Ok.ensures.made c.in-Ok.ensures.short)
