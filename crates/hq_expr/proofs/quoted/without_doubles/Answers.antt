use Rattle.std.proofs.Common.{string_bytes}
use Rattle.hq_expr.proofs.Quotes.{one_piece}
use Rattle.hq_expr.proofs.quoted.without_doubles.Goals as goal

pub pieces-preserved : goal.pieces-preserved
pieces-preserved c = (
  c.behind_quote-rest.utf8,
  one_piece (string_bytes c.pieces.text) (string_bytes c.push_str.new.self) c.pieces.rest.now c.behind_quote-rest.result.now c.up_to_quote.result.now c.args.content.now c.in-Some.place
      c.in_ok-push_str.ensures.bytes c.up_to_quote.ensures c.behind_quote-rest.ensures c.in-Some.ensures c.pieces.invariant.1,
)
