use Rattle.hq_bind.proofs.WholeReading.{read_whole}
use Rattle.hq_bind.proofs.select.read.Goals as goal

pub returns : goal.returns
returns c = read_whole c.args.defs.now c.args.select.now c.read_over.result c.in_ok-columns.columns c.in_ok-written.written c.in_ok-groups.groups
    c.in_ok-columns.ensures c.in_ok-written.ensures c.in_ok-groups.ensures c.read_over.ensures
