use Rattle.std.proofs.Common.{◌∙◌, sym, ap, List, ℕ, ◌++◌}
use Rattle.std.specs.String.{string_bytes}
use Rattle.hq_load.specs.Scripts.{RowsLeft, row_text}
use Rattle.hq_load.proofs.Scripts.{rows_text-one, rows_text-more, taken-more, text-more}
use Rattle.hq_load.proofs.rows.Rows.write.Goals as goal

pub loop-init : goal.loop-init
loop-init c =
    let old = c.args.self.now in
    record {
      taken = c.write_one.ensures.next;
      text = c.in_ok-write_one.ensures.text
          ∙ ap (λ xs. string_bytes c.args.script.now ++ xs) (sym (rows_text-one old.seed old.session old.next));
    }

pub loop-preserved : goal.loop-preserved
loop-preserved c =
    let old = c.args.self.now in
    let row_of : RowsLeft → List ℕ = λ r. row_text r.seed r.session r.next in
    let row = ap row_of c.loop.invariant.taken in
    record {
      taken = taken-more old c.loop.self _ c.loop.counter c.loop.invariant.taken c.write_one-in-loop.ensures.next;
      text = text-more (string_bytes c.args.script.now) _ _ _ (string_bytes c.loop.script) _ _
          c.loop.invariant.text c.in_ok-push_str.ensures.bytes
          (c.in_ok-write_one-2.ensures.text ∙ ap (λ xs. string_bytes c.push_str.new.self ++ xs) row)
          (rows_text-more old.seed old.session old.next c.loop.counter c.loop.auto.counter);
    }
