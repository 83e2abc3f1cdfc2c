use Rattle.std.proofs.Common.{◌∙◌, ap, sym, subst}
use Rattle.hq_server.specs.Tables.{place_of}
use Rattle.hq_server.specs.Places.{Inserts}
use Rattle.hq_server.specs.Stands.{kept_names}
use Rattle.hq_server.proofs.Answering.{insert-none-kept, insert-kept}
use Rattle.hq_server.proofs.database.Database.insert.Goals as goal

pub returns-in-Some : goal.returns-in-Some
returns-in-Some c =
    let kept = c.args.self.now in
    let new = c.insert_at.new.tables.items in
    let place = sym (c.place_of.ensures.place ∙ ap (λ ts. place_of c.args.name.now (kept_names ts)) (c.deref.ensures.value ∙ c.self.view_is)) ∙ c.in-Some.is in
    let moved = subst (λ rows. Inserts rows c.in-Some.place c.self.inside.tables.items c.insert_at.result new) c.into_vec.ensures c.insert_at.ensures.answer in
    let answer = subst (λ ts. Inserts c.args.rows c.in-Some.place ts c.insert_at.result new) c.self.view_is moved in
    insert-kept c.shares_are_the_rows.ensures.shared kept new c.args.name.now c.args.rows c.in-Some.place c.insert_at.result place answer

pub returns-in-None : goal.returns-in-None
returns-in-None c = insert-none-kept c.args.self.now c.args.name.now c.args.rows (sym (c.place_of.ensures.place ∙ ap (λ ts. place_of c.args.name.now (kept_names ts)) (c.deref.ensures.value ∙ c.self.view_is)) ∙ c.in-None.is)
