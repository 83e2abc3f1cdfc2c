use Rattle.std.proofs.Common.{◌∙◌, ap, arith, ℕ, List, ◌+◌, ◌*◌, ◌%◌, ◌++◌}
use Rattle.std.proofs.lemmas.Result.{on_ok_weaker}
use Rattle.std.specs.String.{string_bytes}
use Rattle.hq_load.specs.Scripts.{RowsLeft, tuple_text, row_text}
use Rattle.hq_load.proofs.Scripts.{draw-gives, draw-moves}
use Rattle.hq_load.proofs.rows.Rows.write_one.Goals as goal

pub invariant_of-self : goal.invariant_of-self
invariant_of-self c =
    let moves = draw-moves _ _ _ c.self.inside.seed c.self.inside.session c.self.inside.next
    c.next_word-word.ensures c.self.invariant.0 in
    (moves, c.self.invariant.1, grind arith)

pub returns-clause-text : goal.returns-clause-text
returns-clause-text c =
    let session = c.self.inside.session in
    let next = c.self.inside.next in
    let gives = draw-gives _ _ _ c.self.inside.seed session next c.next_word-word.ensures c.self.invariant.0 in
    let of_word : ℕ → List ℕ = λ w. tuple_text (session * 1000000 + next) (w % 10) (w % 1000) in
    let of_rows : RowsLeft → List ℕ = λ r. row_text r.seed r.session r.next in
    let old = string_bytes c.args.script.now in
    on_ok_weaker c.write_tuple.result
    (λ e. e ∙ ap (λ w. old ++ of_word w) gives ∙ ap (λ r. old ++ of_rows r) c.self.view_is)
    c.write_tuple.ensures
