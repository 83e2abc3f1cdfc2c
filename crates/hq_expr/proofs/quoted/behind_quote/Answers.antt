use Rattle.std.proofs.Common.{ap, sym, ◌∙◌, ◌+◌, slice_index}
use Rattle.hq_expr.specs.Lexemes.{is_quote}
use Rattle.hq_expr.proofs.Quotes.{cut_behind, cut_behind_second}
use Rattle.hq_expr.proofs.quoted.behind_quote.Goals as goal

pub range_from-requires : goal.range_from-requires
range_from-requires c = λ _.
    cut_behind_second c.args.text.now c.args.place c.utf8.text
    (ap (λ z. is_quote (slice_index z (c.args.place + 1))) (sym c.as_bytes.ensures.value) ∙ sym c.is_quote_at.ensures ∙ c.if-is_quote_at.true)

pub range_from-requires-else-is_quote_at : goal.range_from-requires-else-is_quote_at
range_from-requires-else-is_quote_at c = λ _. cut_behind c.args.text.now c.args.place c.utf8.text c.requires
