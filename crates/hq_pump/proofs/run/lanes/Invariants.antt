use Rattle.std.proofs.Common.{◌≡◌, ◌++◌, ◌<◌, map, length}
use Rattle.std.specs.Prelude.{All}
use Rattle.hq_pump.specs.Seen.{seen}
use Rattle.hq_pump.specs.Pumping.{new_lane, AreShort}
use Rattle.hq_pump.proofs.run.lanes.Given as goal

abbrev pub invariant-streams : goal.invariant-streams
invariant-streams l = record {
  made : map (new_lane l.query l.motion l.to) (seen l.fn.streams.items) ≡ l.lanes.items ++ map (new_lane l.query l.motion l.to) (seen l.streams.items);
  below : All (λ stream. stream.0 < 16) l.streams.items;
  short : AreShort l.lanes.items;
}

abbrev pub decreases-streams : goal.decreases-streams
decreases-streams l = length l.streams.items
