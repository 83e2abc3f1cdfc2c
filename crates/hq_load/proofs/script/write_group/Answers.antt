use Rattle.std.proofs.Common.{◌∙◌, ap, ℕ, List, ◌-◌, ◌*◌, ◌++◌, min}
use Rattle.std.specs.String.{string_bytes}
use Rattle.hq_load.specs.Scripts.{rows_text}
use Rattle.hq_load.proofs.Scripts.{group-text}
use Rattle.hq_load.proofs.script.write_group.Goals as goal

pub returns-clause-text : goal.returns-clause-text
returns-clause-text c =
    let taken = c.args.taken.now in
    let count = min 100 (c.args.rows - 100 * c.args.group) in
    let rows_of : ℕ → ℕ → List ℕ = λ from n. rows_text taken.seed taken.session from n in
    let same = ap (rows_of taken.next) c.min-count.ensures ∙ ap (λ from. rows_of from count) c.requires.next in
    group-text (string_bytes c.args.script.now) _ _ _ _ _ _ c.in_ok-push_str.ensures.bytes
    (c.in_ok-write.ensures.text ∙ ap (λ xs. string_bytes c.push_str.new.self ++ xs) same)
    c.in_ok-push_str-2.ensures.bytes
    (c.in_ok-push_str-3.ensures.bytes ∙ ap (λ xs. string_bytes c.push_str-2.new.self ++ xs) c.end_of.ensures)
