use Rattle.std.proofs.Common.{length}
use Rattle.hq_exec.proofs.feed.+feed_own.Given as goal

abbrev pub decreases-feed_own : goal.decreases-feed_own
decreases-feed_own g l = length l.own.now
