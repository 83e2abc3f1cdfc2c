use Rattle.std.proofs.Common.{◌≡◌, sym, subst, arith}
use Rattle.hq_lex.specs.Cut.{NoTokenAt}
use Rattle.hq_lex.specs.Cut as cut
use Rattle.hq_lex.proofs.TokenLaws.{ended, step_past_end, token_more, on_ok}
use Rattle.hq_lex.proofs.cutting.cut.Goals as goal

pub returns-in-End-clause-found : goal.returns-in-End-clause-found
returns-in-End-clause-found c = ended c.args.text.now c.cut.at c.cut.out.items c.cut.invariant.more (sym c.in-End.ensures.value)

pub returns-in-Fault-clause-fault : goal.returns-in-Fault-clause-fault
returns-in-Fault-clause-fault c = λ at h.
    let e : c.in-Fault.at ≡ at = cc in
    subst (λ place. NoTokenAt c.args.text.now 0 place) e (c.cut.invariant.fault c.in-Fault.at (cut.here (sym c.in-Fault.ensures.value)))

pub cut-preserved : goal.cut-preserved
cut-preserved c = record {
  more = λ ts h. token_more c.args.text.now c.cut.at c.cut.out.items c.push.new.out.items _ ts c.cut.invariant.more
      (on_ok c.push.result c.push.ensures c.in_ok-push-in-Token.was) (sym c.in-Token.ensures.value) h;
  fault = λ place h. c.cut.invariant.fault place (cut.later (sym c.in-Token.ensures.value) h);
  within = omega (arith, c.in-Token.ensures.advances);
}

pub returns-clause-found : goal.returns-clause-found
returns-clause-found c = ended c.args.text.now c.cut.at c.cut.out.items c.cut.invariant.more (step_past_end c.cut.at c.args.text.now (omega arith))
