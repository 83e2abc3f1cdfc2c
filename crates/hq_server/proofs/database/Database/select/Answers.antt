use Rattle.std.proofs.Common.{◌∙◌, ap, sym, subst, Some}
use Rattle.hq_forms.specs.declared.form.Form.TheVariants as form
use Rattle.hq_server.specs.Tables.{place_of}
use Rattle.hq_server.specs.Places.{Selects}
use Rattle.hq_server.specs.Stands.{AnswersTo, kept_names}
use Rattle.hq_server.proofs.Answering.{select-none-kept, select-kept}
use Rattle.hq_server.proofs.database.Database.select.Goals as goal

pub returns-in-Some : goal.returns-in-Some
returns-in-Some c =
    let kept = c.args.self.now in
    let name = c.args.name.now in
    let place = sym (c.place_of.ensures.place ∙ ap (λ ts. place_of name (kept_names ts)) (c.deref.ensures.value ∙ c.self.view_is)) ∙ c.in-Some.is in
    let answer = subst (λ ts. Selects c.in-Some.place ts c.select_at.result) (c.deref-in-Some.ensures.value ∙ c.self.view_is) c.select_at.ensures.answer in
    subst (λ ts. AnswersTo (Some (form.Select name)) kept c.select_at.result ts) (sym c.self.view_is) (select-kept c.sorting_forgets_the_order.ensures kept name c.in-Some.place c.select_at.result place answer)

pub returns-in-None : goal.returns-in-None
returns-in-None c = select-none-kept c.args.self.now c.args.name.now (sym (c.place_of.ensures.place ∙ ap (λ ts. place_of c.args.name.now (kept_names ts)) (c.deref.ensures.value ∙ c.self.view_is)) ∙ c.in-None.is)
