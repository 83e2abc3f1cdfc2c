-- The streams are those of the senders' rows.
use Rattle.std.proofs.Common.{false, slice_index_or}
use Rattle.hq_pump.specs.Seen.{seen}
use Rattle.hq_dispatch.specs.Parcels.{list_of, parcel_at}
use Rattle.hq_dispatch.proofs.Apart.{below, few, alone}
use Rattle.hq_dispatch.proofs.Receiving.{taken-so}
use Rattle.hq_dispatch.proofs.receive.receive.Goals as goal

pub take_streams-requires-clause-from : goal.take_streams-requires-clause-from
take_streams-requires-clause-from g c = below (λ s. parcel_at c.args.parcels.now s (list_of c.args.out.now c.args.node)) (λ s. slice_index_or c.args.sends.now s false) c.in-Ok.streams.items c.in-Ok.ensures

pub take_streams-requires-clause-few : goal.take_streams-requires-clause-few
take_streams-requires-clause-few g c = few (λ s. parcel_at c.args.parcels.now s (list_of c.args.out.now c.args.node)) (λ s. slice_index_or c.args.sends.now s false) c.in-Ok.streams.items c.in-Ok.ensures

pub take_streams-requires-clause-alone : goal.take_streams-requires-clause-alone
take_streams-requires-clause-alone g c = alone (λ s. parcel_at c.args.parcels.now s (list_of c.args.out.now c.args.node)) (λ s. slice_index_or c.args.sends.now s false) (seen c.in-Ok.streams.items) c.in-Ok.ensures

pub returns-clause-taken : goal.returns-clause-taken
returns-clause-taken g c =
    taken-so c.args.kinds.now c.args.out.now c.args.parcels.now c.args.sends.now c.args.node (g.L.Link.state c.args.link.now) (g.L.Link.state c.take_streams.new.link) (seen c.in-Ok.streams.items) c.take_streams.result c.in-Ok.ensures
    c.take_streams.ensures.storable c.take_streams.ensures.known c.take_streams.ensures.given
