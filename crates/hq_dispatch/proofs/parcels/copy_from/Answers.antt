-- The lists of the sender.
use Rattle.hq_motion.proofs.Splitting.{if_ok-then}
use Rattle.hq_dispatch.specs.Parcels.{list_of, bytes_at, parcel_at}
use Rattle.hq_dispatch.proofs.Parceling.{parcel-here}
use Rattle.hq_dispatch.proofs.parcels.copy_from.Goals as goal

pub returns : goal.returns
returns c =
    if_ok-then (λ bytes. bytes.items) c.copy_for.result (bytes_at c.index-parcels-sender.result.lists.items (list_of c.args.out.now c.args.node)) (parcel_at c.args.parcels.now c.args.sender (list_of c.args.out.now c.args.node))
    (parcel-here c.args.parcels.now c.args.sender (list_of c.args.out.now c.args.node) c.index-parcels-sender.result c.requires.there c.index-parcels-sender.is) c.copy_for.ensures
