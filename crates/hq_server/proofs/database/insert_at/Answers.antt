use Rattle.std.proofs.Common.{◌≡◌, ◌∙◌, true, false, length, ap, sym, subst, refl, inl, inr, slice_set}
use Rattle.hq_reply.specs.declared.reply.Reply.TheVariants.{Inserted}
use Rattle.hq_value.specs.Kinds.{are_fit, kinds_of}
use Rattle.hq_table.specs.Kept.{TableState}
use Rattle.hq_server.specs.Places.{Grows}
use Rattle.hq_server.proofs.Answering.{at-place, set-same}
use Rattle.hq_server.proofs.database.insert_at.Goals as goal

pub returns-then-not-fits-clause-answer : goal.returns-then-not-fits-clause-answer
returns-then-not-fits-clause-answer c =
    let table = c.index_mut-table.result.now in
    let at = at-place c.args.tables.now.items c.args.place table c.requires.place c.index_mut-table.ensures.value in
    let fit : are_fit (kinds_of table.columns) c.args.rows.items ≡ false = ap (are_fit (kinds_of table.columns)) (sym c.deref.ensures.value) ∙ sym c.fits.ensures.test ∙ c.if-not-fits.true in
    (table, at, inr (inl (refl, fit, set-same _ _ _ at)))

pub returns-in-Ok-clause-answer : goal.returns-in-Ok-clause-answer
returns-in-Ok-clause-answer c =
    let table = c.index_mut-table.result.now in
    let at = at-place c.args.tables.now.items c.args.place table c.requires.place c.index_mut-table.ensures.value in
    let fit : are_fit (kinds_of table.columns) c.args.rows.items ≡ true = ap (are_fit (kinds_of table.columns)) (sym c.deref.ensures.value) ∙ sym c.fits.ensures.test ∙ c.if-not-fits.false in
    let grows : Grows c.args.rows.items table c.insert.new.self = record {
      name = ap (λ (t : TableState). t.name) c.in-Ok.ensures.def;
      columns = ap (λ (t : TableState). t.columns) c.in-Ok.ensures.def;
      keys = ap (λ (t : TableState). t.keys) c.in-Ok.ensures.def;
      added = c.in-Ok.ensures.added;
    } in
    (table, at, inl (ap Inserted (c.len-count.ensures ∙ sym c.deref.ensures.len ∙ ap length c.deref.ensures.value), fit, (c.insert.new.self, grows, refl)))

pub returns-in-Err-clause-answer : goal.returns-in-Err-clause-answer
returns-in-Err-clause-answer c =
    let at = at-place c.args.tables.now.items c.args.place c.index_mut-table.result.now c.requires.place c.index_mut-table.ensures.value in
    (c.index_mut-table.result.now, at, inr (inr (refl, ap (slice_set c.args.tables.now.items c.args.place) c.in-Err.ensures.err ∙ set-same _ _ _ at)))
