use Rattle.hq_whole.specs.Tables.{kinds_by}
use Rattle.hq_whole.proofs.Building.{gathered-same}
use Rattle.hq_whole.proofs.gathering.gathered.Goals as goal

pub returns : goal.returns
returns c =
    gathered-same (kinds_by c.args.defs.now) c.args.query.now c.as_slice.result.now c.as_slice-sources.result.now c.in_ok-product.product c.in_ok-root.root c.in_ok-slices.slices c.push.new.self c.sending.result
    c.as_slice.ensures c.as_slice-sources.ensures c.in_ok-product.ensures c.in_ok-root.ensures c.in_ok-slices.ensures c.sending.ensures c.in_ok-push.ensures.ok
