use Rattle.hq_sql.proofs.Texts.{parses-from, parses-to}
use Rattle.hq_forms.proofs.Forms.{form_found, form_given}
use Rattle.hq_forms.proofs.laws.forms_are_statements.Goals as goal

pub returns-clause-statements : goal.returns-clause-statements
returns-clause-statements c = λ text s. (parses-from text s, parses-to text s)

pub returns-clause-found : goal.returns-clause-found
returns-clause-found c = λ text f h. form_found text f h

pub returns-clause-read : goal.returns-clause-read
returns-clause-read c = λ text f s h is. form_given text f s h is
