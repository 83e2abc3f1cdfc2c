use Rattle.hq_expr.proofs.Quotes.{cut_inside}
use Rattle.hq_expr.proofs.quoted.between_quotes.Goals as goal

pub range-requires-clause-start_boundary : goal.range-requires-clause-start_boundary
range-requires-clause-start_boundary c = λ _. (cut_inside c.args.token.now c.utf8.token c.requires).0

pub range-requires-clause-end_boundary : goal.range-requires-clause-end_boundary
range-requires-clause-end_boundary c = (cut_inside c.args.token.now c.utf8.token c.requires).1
