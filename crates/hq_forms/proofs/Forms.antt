-- The form that a text is.
use Rattle.std.proofs.Common.{◌≡◌, ◌↔◌, ℕ, List, Option, Some, None, Result, Ok, Err, refl, sym, ap, subst, ◌∙◌}
use Rattle.std.specs.Result.{IsErrOf}
use Rattle.hq_expr.specs.declared.fault.ParseFault.{ParseFault}
use Rattle.hq_expr.specs.declared.fault.ParseFault.TheVariants.{Syntax, NoMemory}
use Rattle.hq_sql.specs.Statements.{Parses}
use Rattle.hq_sql.specs.declared.tree.Statement.{Statement}
use Rattle.hq_sql.specs.Texts.{statement_in}
use Rattle.hq_forms.specs.Forms.{◌>>=◌, form_of, form_in}
use Rattle.hq_forms.specs.Gives.{Gives}
use Rattle.hq_forms.specs.declared.form.Form.{Form}
use Rattle.hq_sql.proofs.Texts.{parses-from, parses-to, no_statement}

form_is : (text : List ℕ) (s : Statement) → Parses text s → form_in text ≡ form_of s
form_is text s h = ap (λ o. o >>= form_of) (parses-to text s h)

pub form_read : (text : List ℕ) (s : Statement) (r : Result Form ParseFault) → Parses text s → Gives r (form_of s) → Gives r (form_in text)
form_read text s r h gives = subst (Gives r) (sym (form_is text s h)) gives

-- what the reader refuses is no form
pub form_refused : (text : List ℕ) (fault : ParseFault) → (IsErrOf {T = Statement} (Err fault) Syntax → (s : Statement) → Parses text s → ⊥) → Gives {X = Form} (Err fault) (form_in text)
form_refused text Syntax refused = ap (λ o. o >>= form_of) (no_statement text (refused refl))
form_refused text NoMemory refused = tt

some_form : (o : Option Statement) (f : Form) → (o >>= form_of) ≡ Some f → (s : Statement) × (o ≡ Some s) × (form_of s ≡ Some f)
some_form None f h = cc
some_form (Some s) f h = (s, refl, h)

pub form_found : (text : List ℕ) (f : Form) → form_in text ≡ Some f → (s : Statement) × Parses text s × (form_of s ≡ Some f)
form_found text f h = let found = some_form (statement_in text) f h in (found.0, parses-from text found.0 found.1, found.2)

pub form_given : (text : List ℕ) (f : Form) (s : Statement) → Parses text s → form_of s ≡ Some f → form_in text ≡ Some f
form_given text f s h is = form_is text s h ∙ is
