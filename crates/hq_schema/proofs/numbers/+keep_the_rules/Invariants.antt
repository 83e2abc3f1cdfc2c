use Rattle.std.proofs.Common.{length}
use Rattle.hq_schema.proofs.numbers.+keep_the_rules.Given as goal

abbrev pub decreases-keep_the_rules : goal.decreases-keep_the_rules
decreases-keep_the_rules l = length l.tables.now
