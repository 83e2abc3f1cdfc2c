-- The stream of one node more, and those of all.
use Rattle.std.proofs.Common.{◌≡◌, ◌∙◌, ℕ, List, false, map, filter, get_or, ap, arith}
use Rattle.std.specs.List.{range_with_len}
use Rattle.hq_dispatch.specs.Parcels.{list_of, parcel_at}
use Rattle.hq_dispatch.proofs.Parceling.{stream-more}
use Rattle.hq_dispatch.proofs.parcels.streams_to.Goals as goal

pub loop-sender-preserved : goal.loop-sender-preserved
loop-sender-preserved c =
    stream-more c.loop-sender.streams.items c.add_stream.new.streams.items (λ s. get_or c.args.sends.now s false) (λ s. parcel_at c.args.parcels.now s (list_of c.args.out.now c.args.node)) c.loop-sender.sender c.in_ok-add_stream.ensures c.loop-sender.invariant

pub returns : goal.returns
returns c =
    let all : c.loop-sender.sender ≡ 16 = omega (arith, c.loop-sender-test.false, c.loop-sender.auto.sender-end) in
    c.loop-sender.invariant ∙ ap (λ (m : ℕ). map {B = ℕ × List ℕ} (λ s. (s, parcel_at c.args.parcels.now s (list_of c.args.out.now c.args.node))) (filter (λ s. get_or c.args.sends.now s false) (range_with_len 0 m))) all
