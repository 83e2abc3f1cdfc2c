use Rattle.std.proofs.Common.{ap, sym, subst, ◌∙◌}
use Rattle.hq_forms.specs.Forms.{◌>>=◌, form_of}
use Rattle.hq_forms.specs.Gives.{Gives}
use Rattle.hq_forms.proofs.Forms.{form_read, form_refused}
use Rattle.hq_forms.proofs.reading.read_form.Goals as goal

pub returns-in-Ok-clause-form : goal.returns-in-Ok-clause-form
returns-in-Ok-clause-form c = form_read c.args.text.now c.in-Ok.statement c.form.result c.in-Ok.ensures.found c.form.ensures.form

pub returns-in-Err-clause-form : goal.returns-in-Err-clause-form
returns-in-Err-clause-form c = form_refused c.args.text.now c.in-Err.fault c.in-Err.ensures.refused
