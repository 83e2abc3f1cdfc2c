use Rattle.std.proofs.lemmas.Str.{is_utf8-from_IsUtf8}
use Rattle.hq_planwire.proofs.Utf8.{is_utf8-false}
use Rattle.hq_planwire.proofs.fields.text_of.Goals as goal

pub returns-in_ok-from_str-in-Ok-clause-valid : goal.returns-in_ok-from_str-in-Ok-clause-valid
returns-in_ok-from_str-in-Ok-clause-valid c = is_utf8-from_IsUtf8 c.args.bytes.now c.in-Ok.ensures.cases.1

pub returns-in-Err-clause-err : goal.returns-in-Err-clause-err
returns-in-Err-clause-err c = λ _. is_utf8-false c.args.bytes.now c.in-Err.ensures.cases.0
