use Rattle.std.proofs.Common.{◌+◌, arith}
use Rattle.hq_link.proofs.PairLaws.{next_bytes, next_quiet, next_failed, skip_more}
use Rattle.hq_link.proofs.pair.UdpPairLink.next.Goals as goal

pub returns-in-Datagram : goal.returns-in-Datagram
returns-in-Datagram c =
    next_bytes c.args.self.now.counts c.loop-tried.self.counts c.came.new.self c.loop-tried._tried c.in-Datagram.len c.give.new.into _ c.loop-tried.invariant.skipped c.came.ensures c.give.ensures c.in-Datagram.ensures

pub returns-in-Nothing : goal.returns-in-Nothing
returns-in-Nothing c =
    next_quiet c.args.self.now.counts c.trouble-in-Nothing.new.self (c.loop-tried._tried + 1) c.loop-tried.into
    (skip_more c.args.self.now.counts c.loop-tried.self.counts c.trouble-in-Nothing.new.self c.loop-tried._tried c.loop-tried.invariant.skipped c.trouble-in-Nothing.ensures.troubled c.trouble-in-Nothing.ensures.later) (omega arith)

pub returns-in-Failed : goal.returns-in-Failed
returns-in-Failed c =
    next_failed c.args.self.now.counts c.loop-tried.self.counts c.fail.new.self c.loop-tried._tried _ c.loop-tried.into c.loop-tried.invariant.skipped c.fail.ensures.failed c.fail.ensures.later

pub returns : goal.returns
returns c = next_quiet c.args.self.now.counts c.loop-tried.self.counts c.loop-tried._tried c.loop-tried.into c.loop-tried.invariant.skipped (omega arith)
