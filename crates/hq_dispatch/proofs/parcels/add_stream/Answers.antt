-- A stream behind the others.
use Rattle.std.proofs.Common.{◌≡◌, true, rules}
use Rattle.hq_dispatch.specs.Parcels.{list_of, parcel_at}
use Rattle.hq_dispatch.proofs.Parceling.{stream-added}
use Rattle.hq_dispatch.proofs.parcels.add_stream.Goals as goal

pub returns : goal.returns
returns c =
    let on : c.args.sends ≡ true = search rules in
    stream-added c.args.streams.now.items c.push.new.self.items c.args.sender c.in_ok-bytes.bytes (parcel_at c.args.parcels.now c.args.sender (list_of c.args.out.now c.args.node)) c.args.sends on c.in_ok-push.ensures.items c.in_ok-bytes.ensures
