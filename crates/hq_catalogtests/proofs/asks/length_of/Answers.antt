-- An entry of the log for each of the history.
use Rattle.std.proofs.Common.{List, length, false, ap, sym, ◌∙◌, arith}
use Rattle.std.proofs.lemmas.List.{length-map}
use Rattle.hq_value.specs.declared.entry.Entry.{Entry}
use Rattle.hq_history.specs.declared.noted.Noted.{Noted}
use Rattle.hq_catalog.specs.History.{history}
use Rattle.hq_catalogtests.proofs.asks.length_of.Goals as goal

pub returns : goal.returns
returns c =
    let h = history false c.args.catalogue.now in
    let logged = ap (λ (es : List Entry). length es) (c.log.ensures ∙ sym c.stands.ensures.log) in
    omega (arith, logged, length-map h (λ (n : Noted). n.entry))
