use Rattle.hq_bind.proofs.Created.{made_is}
use Rattle.hq_bind.proofs.create.created.Goals as goal

pub new-requires : goal.new-requires
new-requires c = made_is c.args.create.now c.in_ok-name.name c.in_ok-columns.columns c.in_ok-keys.keys c.in_ok-name.ensures c.in_ok-columns.ensures c.in_ok-keys.ensures c.requires.some c.requires.allowed
