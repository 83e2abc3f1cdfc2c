use Rattle.std.proofs.Common.{◌≡◌, ℕ, List, None, ap, sym, ◌∙◌}
use Rattle.hq_value.specs.declared.kind.Kind.{Kind}
use Rattle.hq_algebra.specs.declared.op.Op.TheVariants as op
use Rattle.hq_laws.specs.Sources.{source_op}
use Rattle.hq_laws.specs.Guards.{guards_of}
use Rattle.hq_whole.specs.Conjoined.{conjoined, under_filter}
use Rattle.hq_whole.specs.Tables.{kinds_by}
use Rattle.hq_whole.proofs.Conjoining.{source-under}
use Rattle.hq_whole.proofs.Results.{if_ok-then}
use Rattle.hq_whole.proofs.source.source_op.Goals as goal

pub returns : goal.returns
returns c =
    let kinds : ℕ → List Kind = kinds_by c.args.defs.now in
    let found : c.in_ok-kinds.kinds ≡ kinds c.args.table = c.in_ok-kinds.ensures in
    let cond : c.in_ok-cond.cond ≡ conjoined (guards_of (kinds c.args.table) c.args.width c.args.conds.now) None = c.in_ok-cond.ensures ∙ ap (λ (k : List Kind). conjoined (guards_of k c.args.width c.args.conds.now) None) (c.as_slice.ensures ∙ found) in
    if_ok-then c.filtered.result (under_filter c.in_ok-cond.cond (op.Scan c.args.table c.in_ok-kinds.kinds)) (source_op kinds c.args.table (guards_of (kinds c.args.table) c.args.width c.args.conds.now))
    ((λ i. under_filter (cond i) (op.Scan c.args.table (found i))) ∙ source-under kinds c.args.table (guards_of (kinds c.args.table) c.args.width c.args.conds.now))
    c.filtered.ensures
