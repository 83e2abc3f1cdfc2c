-- What is prepared is settled; or memory is wanting, and nothing changes.
use Rattle.std.proofs.Common.{◌≡◌, ◌&&◌, Bool, List, length, refl, subst, sym, ap, arith}
use Rattle.hq_history.specs.declared.noted.Noted.{Noted}
use Rattle.hq_catalog.specs.State.{CatState}
use Rattle.hq_catalog.specs.History.{history}
use Rattle.hq_catalog.specs.CatStep.{CatStep}
use Rattle.hq_catalog.specs.Kept.{cat_of, told_by}
use Rattle.hq_catalog.specs.Plans.{Leads}
use Rattle.hq_catalog.proofs.Plans.{lacking}
use Rattle.hq_catalog.proofs.books.Books.answer.Goals as goal

pub settle-requires : goal.settle-requires
settle-requires g c = (omega arith, (omega arith, (c.prepare.ensures.kept, c.in-Ok.ensures.fits c.args.session c.requires.may)))

pub returns-in-Ok-clause-step : goal.returns-in-Ok-clause-step
returns-in-Ok-clause-step g c =
    let told : Bool = g.F.StoredFile.tells && g.Z.SealCopy.tells in
    let nodes = length c.args.self.now.marks in
    let same : cat_of c.prepare.new.self ≡ cat_of c.args.self.now = c.prepare.ensures.same in
    let old : told_by told c.prepare.new.self ≡ told_by told c.args.self.now = ap (λ (d : CatState). history told d) same in
    let many : length c.prepare.new.self.marks ≡ nodes = ap (λ (d : CatState). length d.marks) same in
    let leads = subst (λ (h : List Noted). Leads {F = g.row.F.Denot} {Z = g.row.Z.Denot} told h c.in-Ok.plan c.args.ask) (sym old) c.in-Ok.ensures.leads in
    let P = λ (h : List Noted). CatStep {F = g.row.F.Denot} {Z = g.row.Z.Denot} told nodes c.args.session c.args.statement h c.args.ask (told_by told c.settle.new.self) c.settle.result in
    subst P old (subst (λ n. CatStep {F = g.row.F.Denot} {Z = g.row.Z.Denot} told n c.args.session c.args.statement (told_by told c.prepare.new.self) c.args.ask (told_by told c.settle.new.self) c.settle.result) many (c.settle.ensures.step c.args.ask leads))

pub returns-in-Err-clause-step : goal.returns-in-Err-clause-step
returns-in-Err-clause-step g c =
    let told : Bool = g.F.StoredFile.tells && g.Z.SealCopy.tells in
    let nodes = length c.args.self.now.marks in
    lacking {F = g.row.F.Denot} {Z = g.row.Z.Denot} told nodes c.args.session c.args.statement (told_by told c.args.self.now) (told_by told c.prepare.new.self)
    (ap (λ (d : CatState). history told d) c.prepare.ensures.same) c.args.ask (c.in-Err.ensures.memory refl)
