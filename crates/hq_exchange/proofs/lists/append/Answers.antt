use Rattle.std.proofs.Common.{◌≡◌, ℕ, List, ◌++◌, ap, ◌∙◌}
use Rattle.std.specs.Prelude.{slice_set}
use Rattle.hq_exchange.specs.Lists.{bytes_at}
use Rattle.hq_exchange.proofs.Places.{read_at, set_same, appended, on_error}
use Rattle.hq_exchange.proofs.lists.append.Goals as goal

pub returns-in_err-extend_from_slice-clause-refused :
    goal.returns-in_err-extend_from_slice-clause-refused
returns-in_err-extend_from_slice-clause-refused c =
    on_error c.from_residual.result ((n : ℕ) → bytes_at (slice_set c.args.lists.now.items c.args.place c.extend_from_slice.new.self) n ≡ bytes_at c.args.lists.now.items n)
    (λ n. set_same c.args.lists.now.items c.args.place n c.extend_from_slice.new.self (c.in_err-extend_from_slice.ensures.items ∙ read_at c.args.lists.now.items c.args.place c.index_mut.result.now c.requires.there c.index_mut.ensures.value))

pub returns-clause-more : goal.returns-clause-more
returns-clause-more c = λ n.
    appended c.args.lists.now.items c.args.place n c.extend_from_slice.new.self c.args.bytes.now c.requires.there
    (c.in_ok-extend_from_slice.ensures.items ∙ ap (λ (l : List ℕ). l ++ c.args.bytes.now) (read_at c.args.lists.now.items c.args.place c.index_mut.result.now c.requires.there c.index_mut.ensures.value))
