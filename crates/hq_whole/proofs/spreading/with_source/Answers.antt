use Rattle.std.proofs.Common.{◌++◌, List, length, arith, ap, length-append}
use Rattle.hq_value.specs.declared.kind.Kind.{Kind}
use Rattle.hq_whole.specs.Choices.{built_of}
use Rattle.hq_whole.specs.Tables.{kinds_by}
use Rattle.hq_whole.proofs.Building.{built-next}
use Rattle.hq_whole.proofs.spreading.with_source.Goals as goal

pub returns-clause-built : goal.returns-clause-built
returns-clause-built c =
    built-next (kinds_by c.args.defs.now) c.args.conds.now (built_of c.args.built) c.args.step.now c.len.result c.in_ok-source.source c.in_ok-others.others (built_of c.in_ok-next.next)
    c.len.ensures c.in_ok-source.ensures c.in_ok-others.ensures c.in_ok-next.ensures.slices c.in_ok-next.ensures.root c.in_ok-next.ensures.kinds

pub returns-clause-few : goal.returns-clause-few
returns-clause-few c = c.in_ok-next.ensures.few

pub returns-clause-columns : goal.returns-clause-columns
returns-clause-columns c =
    omega (arith, ap (λ (l : List Kind). length l) c.in_ok-next.ensures.kinds, length-append c.args.built.kinds c.in_ok-others.others, ap (λ (l : List Kind). length l) c.in_ok-others.ensures, c.few_columns.ensures)
