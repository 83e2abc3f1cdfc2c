use Rattle.std.proofs.Common.{length, sym, subst}
use Rattle.hq_lex.specs.Front.{IsQuoted}
use Rattle.hq_expr.proofs.Quotes.{token_cut}
use Rattle.hq_expr.proofs.lexing.quoted.Goals as goal

pub range-requires : goal.range-requires
range-requires c =
    let cut = token_cut c.args.text.now c.args.start c.args.end c.utf8.text c.requires in
    record { start_le_end = cut.ordered; start_boundary = λ _. cut.first; end_boundary = cut.last }

pub text_between-requires : goal.text_between-requires
text_between-requires c =
    let cut = token_cut c.args.text.now c.args.start c.args.end c.utf8.text c.requires in
    subst (λ z. IsQuoted z (length z)) (sym c.range.ensures.value) cut.quoted
