use Rattle.std.proofs.Common.{◌≡◌, ℕ, List, get_or, ap, sym, ◌∙◌, map}
use Rattle.std.specs.Prelude.{string_bytes}
use Rattle.std.specs.declared.alloc.Global.{Global}
use Rattle.hq_doors.specs.declared.words.Command.TheVariants as command
use Rattle.hq_server.proofs.Running.{same-file}
use Rattle.hq_server.proofs.run.run_only.Goals as goal

pub returns-clause-opened : goal.returns-clause-opened
returns-clause-opened g c = λ name runs.
    let files = same-file (map (string_bytes {Z = Global}) c.args.words.now) (command.Run c.args.files.now) name c.requires runs in
    let same : name ≡ c.as_str.result.now = sym (c.as_str.ensures.bytes ∙ c.file-item.is ∙ ap (λ (xs : List (List ℕ)). get_or xs 0 c.file-item.result) (c.as_slice.ensures ∙ files)) in
    rw same c.run_file.ensures.opened
