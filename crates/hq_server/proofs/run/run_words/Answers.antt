use Rattle.std.proofs.Common.{◌∷◌, [], ap, ◌∙◌, map, Err}
use Rattle.std.specs.Prelude.{string_bytes}
use Rattle.std.specs.declared.alloc.Global.{Global}
use Rattle.hq_doors.specs.declared.words.Command.TheVariants as command
use Rattle.hq_server.proofs.Running.{asks-file}
use Rattle.hq_server.proofs.run.run_words.Goals as goal

pub returns-in-Err-Usage-clause-usage : goal.returns-in-Err-Usage-clause-usage
returns-in-Err-Usage-clause-usage g c = λ _ name runs. c.read_words.ensures.no_form.0 (c.in-Err-Usage.is ∙ ap Err c.in-Err-Usage.field-0-is) (command.Run (name ∷ [])) runs

pub returns-in-Err-NoMemory-clause-no_form : goal.returns-in-Err-NoMemory-clause-no_form
returns-in-Err-NoMemory-clause-no_form g c = λ none.
    let usage = c.read_words.ensures.no_form.1 (asks-file (map (string_bytes {Z = Global}) c.args.words.now) none) in
    let memory = c.in-Err-NoMemory.is ∙ ap Err c.in-Err-NoMemory.field-0-is in
    absurd (cc)
