use Rattle.std.proofs.Common.{ap, refl, ◌∙◌}
use Rattle.hq_io.specs.Gathering.{kind_of}
use Rattle.hq_io.specs.Reading.{Reading}
use Rattle.hq_io.specs.contracts.reader.StatementReader.{the_view}
use Rattle.hq_io.proofs.Cutting.{advance-cuts, advance-limit, advance-breaks, counted-is}
use Rattle.hq_io.proofs.Left.{end-left, stop-told, uncut-told}
use Rattle.std.proofs.Common.{sym}
use Rattle.hq_io.proofs.reader.StatementReader.advance.Goals as goal

pub returns-in-Ok-clause-piece : goal.returns-in-Ok-clause-piece
returns-in-Ok-clause-piece g c =
    let is = c.kind-kind.ensures ∙ ap (kind_of c.in-Ok.stop) c.deref.ensures.value in
    rw (← c.self.view_is) (λ n. advance-cuts _ c.in-Ok.stop (the_view c.self.inside) _ _ _ c.if-self.false c.is_rest-self-inside.ensures (counted-is _ _ _ _ c.counted.ensures.kind n ∙ is) c.in-Ok.ensures.stop n)

pub returns-in-Err-clause-fault : goal.returns-in-Err-clause-fault
returns-in-Err-clause-fault g c =
    let new : Reading = record { held = c.gather.new.chunk; ended = c.self.inside.ended; text = c.gather.new.text.items; pieces = c.self.inside.pieces; taken = c.gather.new.taken } in
    rw (← c.self.view_is) (advance-breaks (the_view c.self.inside) new _ _ c.if-self.false c.in-Err.ensures.held c.in-Err.ensures.fault)

pub returns-in-Ok-clause-limit : goal.returns-in-Ok-clause-limit
returns-in-Ok-clause-limit g c =
    let is = c.kind-kind.ensures ∙ ap (kind_of c.in-Ok.stop) c.deref.ensures.value in
    let new : Reading = record { held = c.gather.new.chunk; ended = c.is_rest-self-inside.result; text = c.gather.new.text.items; pieces = c.counted.new.pieces; taken = c.gather.new.taken } in
    rw (← c.self.view_is) (λ e. advance-limit _ c.in-Ok.stop (the_view c.self.inside) new _ _ _ _ c.if-self.false c.is_rest-self-inside.ensures refl c.in-Ok.ensures.more (rw is at c.counted.ensures.kind) c.in-Ok.ensures.stop e)

pub returns-in-Ok-clause-at_end : goal.returns-in-Ok-clause-at_end
returns-in-Ok-clause-at_end g c = λ before rest. end-left c.in-Ok.stop _ _ _ _ _ _ (sym c.is_rest-self-inside.ensures ∙ rest) c.in-Ok.ensures.stop

pub returns-in-Ok-clause-told : goal.returns-in-Ok-clause-told
returns-in-Ok-clause-told g c = stop-told c.in-Ok.stop _ _ _ _ _ _ _ c.in-Ok.ensures.stop

pub returns-in-Err-clause-told : goal.returns-in-Err-clause-told
returns-in-Err-clause-told g c = uncut-told _ _ _ _ _ _ c.in-Err.ensures.fault
