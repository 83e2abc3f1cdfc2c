use Rattle.std.proofs.Common.{◌≡◌, sym, arith}
use Rattle.hq_lex.proofs.TokenLaws.{step_past_end, step_found}
use Rattle.hq_expr.proofs.Texts.{lexed_all, fault_lexed, token_lexed, lexed_more}
use Rattle.hq_expr.proofs.lexing.lexemes.Goals as goal

pub returns-in-End-clause-found : goal.returns-in-End-clause-found
returns-in-End-clause-found c = lexed_all c.args.text.now c.lex.at c.lex.out.items c.lex.invariant.more (sym c.in-End.ensures.value)

pub returns-in-Fault-clause-refused : goal.returns-in-Fault-clause-refused
returns-in-Fault-clause-refused c = λ _ ls h.
    let b = c.lex.invariant.back ls h in
    fault_lexed c.args.text.now c.lex.at _ b.0 (sym c.in-Fault.ensures.value) b.1

pub lex-init : goal.lex-init
lex-init c = record { more = λ ls h. rw c.new-out.ensures.items h; back = λ ls h. (ls, h); within = omega arith }

pub lex-preserved : goal.lex-preserved
lex-preserved c = record {
  more = λ ls h. lexed_more c.args.text.now c.lex.at c.in-Token.start c.in-Token.end c.in-Token.kind c.lex.out.items c.push.new.out.items c.in_ok-next-in-Token.next ls c.lex.invariant.more
      c.in_ok-push-in-Token.ensures.ok (sym c.in-Token.ensures.value) c.in_ok-next-in-Token.ensures.ok h;
  back = λ ls h.
      let b = c.lex.invariant.back ls h in
      let found = token_lexed c.args.text.now c.lex.at c.in-Token.start c.in-Token.end c.in-Token.kind b.0 (sym c.in-Token.ensures.value) b.1 in
      (found.rest, found.lexed);
  within = omega (arith, c.in-Token.ensures.advances);
}

pub returns-clause-found : goal.returns-clause-found
returns-clause-found c = lexed_all c.args.text.now c.lex.at c.lex.out.items c.lex.invariant.more (step_past_end c.lex.at c.args.text.now (omega arith))

pub lexeme-requires-clause-token : goal.lexeme-requires-clause-token
lexeme-requires-clause-token c =
    (step_found c.lex.at c.args.text.now c.in-Token.kind c.in-Token.start c.in-Token.end c.lex.invariant.within (sym c.in-Token.ensures.value)).3
