use Rattle.std.proofs.Common.{ℕ, Vec, Global, ap, sym, ◌∙◌, arith}
use Rattle.hq_exchange.proofs.Places.{read_at, set_others, none_there}
use Rattle.hq_exchange.proofs.lists.take_out.Goals as goal

pub returns-then-place-len-clause-bytes : goal.returns-then-place-len-clause-bytes
returns-then-place-len-clause-bytes c =
    ap (λ (v : Vec ℕ Global). v.items) c.replace.ensures.value ∙ read_at c.args.lists.now.items c.args.place c.index_mut.result.now (omega (arith, c.if-place-len.true, c.len.ensures)) c.index_mut.ensures.value

pub returns-then-place-len-clause-others : goal.returns-then-place-len-clause-others
returns-then-place-len-clause-others c = λ n differ. set_others c.args.lists.now.items c.args.place n c.replace.new.dest differ

pub returns-else-place-len-clause-bytes : goal.returns-else-place-len-clause-bytes
returns-else-place-len-clause-bytes c =
    c.new-else-place-len.ensures.items ∙ sym (none_there c.args.lists.now.items c.args.place (omega (arith, c.if-place-len.false, c.len.ensures)))
