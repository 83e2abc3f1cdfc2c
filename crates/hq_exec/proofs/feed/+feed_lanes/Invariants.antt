use Rattle.std.proofs.Common.{length}
use Rattle.hq_exec.proofs.feed.+feed_lanes.Given as goal

abbrev pub decreases-feed_lanes : goal.decreases-feed_lanes
decreases-feed_lanes g l = length l.lanes.now
