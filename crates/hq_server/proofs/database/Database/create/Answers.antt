use Rattle.std.proofs.Common.{◌<◌, ◌≤◌, length, [], ◌∷◌, ◌++◌, ◌∙◌, ap, sym, subst, is_some, Some}
use Rattle.hq_forms.specs.declared.form.Form.TheVariants as form
use Rattle.hq_server.specs.Tables.{place_of}
use Rattle.hq_server.specs.Stands.{kept_names}
use Rattle.hq_server.proofs.Answering.{create-exists-kept, create-many-kept, create-made-kept, no_memory-kept}
use Rattle.hq_server.proofs.database.Database.create.Goals as goal
use Rattle.hq_server.proofs.database.Database.create.Goals.{in-Ok, in-Err}

pub returns-then-is_some : goal.returns-then-is_some
returns-then-is_some c =
    let kept = c.deref.ensures.value ∙ c.self.view_is in
    let found = sym (ap is_some (c.place_of.ensures.place ∙ ap (λ ts. place_of c.args.name (kept_names ts)) kept)) ∙ sym c.is_some.ensures ∙ c.if-is_some.true in
    create-exists-kept c.args.self.now c.args.name c.args.columns c.args.keys found

pub returns-then-len-ge-MOST_TABLES : goal.returns-then-len-ge-MOST_TABLES
returns-then-len-ge-MOST_TABLES c =
    let kept = c.deref.ensures.value ∙ c.self.view_is in
    let found = sym (ap is_some (c.place_of.ensures.place ∙ ap (λ ts. place_of c.args.name (kept_names ts)) kept)) ∙ sym c.is_some.ensures ∙ c.if-is_some.false in
    create-many-kept c.args.self.now c.args.name c.args.columns c.args.keys found (subst (λ n. 64 ≤ n) (c.len.ensures ∙ sym c.deref.ensures.len ∙ ap length kept) c.if-len-ge-MOST_TABLES.true)

pub returns : goal.returns
returns c =
    let kept = c.deref.ensures.value ∙ c.self.view_is in
    let found = sym (ap is_some (c.place_of.ensures.place ∙ ap (λ ts. place_of c.args.name (kept_names ts)) kept)) ∙ sym c.is_some.ensures ∙ c.if-is_some.false in
    let few = subst (λ n. n < 64) (c.len.ensures ∙ sym c.deref.ensures.len ∙ ap length kept) c.if-len-ge-MOST_TABLES.false in
    elim c.match-add_table.branch [
      | in-Ok w ↦
          let made = w.in-Ok.ensures.ok in
          rw w.result-is (create-made-kept c.args.self.now c.add_table.new.tables.items c.args.name c.args.columns c.args.keys found few (made.0, made.1, made.2 ∙ ap (λ ts. ts ++ made.0 ∷ []) c.self.view_is))
      | in-Err w ↦ rw (w.result-is, w.in-Err.ensures.err ∙ c.self.view_is) (no_memory-kept (Some (form.Create c.args.name c.args.columns c.args.keys)) c.args.self.now)
    ]
