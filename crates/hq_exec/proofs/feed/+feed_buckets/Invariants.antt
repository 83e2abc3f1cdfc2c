use Rattle.std.proofs.Common.{◌-◌}
use Rattle.hq_exec.proofs.feed.+feed_buckets.Given as goal

abbrev pub decreases-feed_buckets : goal.decreases-feed_buckets
decreases-feed_buckets g l = 16 - l.bucket
