-- The query stands after the slices so far.
use Rattle.std.proofs.Common.{◌≡◌, vec_len}
use Rattle.hq_dispatch.specs.Basis.{asked}
use Rattle.hq_dispatch.specs.Ended.{benches_of}
use Rattle.hq_dispatch.specs.Outside.{outside}
use Rattle.hq_dispatch.specs.Standing.{Stands}
use Rattle.hq_dispatch.proofs.query.spread_all.Given as goal

abbrev pub invariant-loop-slice : goal.invariant-loop-slice
invariant-loop-slice g l = record {
  len : vec_len l.tasks ≡ vec_len l.initial.tasks;
  stands : Stands (outside g.S.Store.faults g.S.Store.given g.S.Store.sound g.H.Host.checks g.H.Host.faults g.H.Host.sound g.L.Link.state)
      (asked l.plan l.basis l.marks l.query g.S.Seal.SealCopy.tells g.S.File.StoredFile.tells) (benches_of l.initial.tasks.items) l.slice l.tasks.items;
}
