use Rattle.hq_expr.proofs.Quotes.{cut_behind}
use Rattle.hq_expr.proofs.quoted.up_to_quote.Goals as goal

pub range-requires-clause-end_boundary : goal.range-requires-clause-end_boundary
range-requires-clause-end_boundary c = cut_behind c.args.text.now c.args.place c.utf8.text c.requires
