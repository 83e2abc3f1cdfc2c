use Rattle.std.proofs.Common.{ℕ, get_or, ◌∙◌, arith}
use Rattle.std.proofs.lemmas.Option.{slice_get-get_or}
use Rattle.hq_exchange.specs.Lists.{bytes_at}
use Rattle.hq_exchange.proofs.Given.{given_more, left_more}
use Rattle.hq_exchange.proofs.lists.Lists.into_streams.Goals as goal

pub loop-from-preserved : goal.loop-from-preserved
loop-from-preserved c =
    let i : ℕ = c.loop-from.from-index in
    let here : ℕ = get_or c.args.senders.now i 0 in
    record {
      given = given_more c.loop-from.streams.items c.push.new.self.items c.take_out-bytes.result c.args.senders.now i (bytes_at c.args.self.lists.items) c.loop-from-test.true
          (c.take_out-bytes.ensures.bytes ∙ c.loop-from.invariant.left i here (omega arith) (slice_get-get_or c.args.senders.now i 0 c.loop-from-test.true))
          c.in_ok-push.ensures.items c.loop-from.invariant.given;
      left = left_more c.args.senders.now i (bytes_at c.args.self.lists.items) (bytes_at c.loop-from.lists.items) (bytes_at c.take_out-bytes.new.lists.items) c.requires.apart c.loop-from-test.true c.take_out-bytes.ensures.others c.loop-from.invariant.left;
    }
