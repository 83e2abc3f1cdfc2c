use Rattle.std.proofs.Common.{lit<, ◌∙◌, ◌&&◌, Bool, true≢false, sym, ap, subst, arith}
use Rattle.hq_catalog.specs.declared.ask.Ask.{Ask}
use Rattle.hq_turns.specs.Hand.{InHand, outstanding}
use Rattle.hq_turns.proofs.Counting.{later-same}
use Rattle.hq_session.specs.declared.awaited.Awaited.{Awaited}
use Rattle.hq_session.specs.Keeps.{weight}
use Rattle.hq_session.specs.Waits.{CanHear, Waits}
use Rattle.hq_session.proofs.session.Session.hear.Goals as goal

pub unreachable-requires : goal.unreachable-requires
unreachable-requires g c =
    subst (λ (x : Awaited). CanHear {F = g.row.F.Denot} {Z = g.row.Z.Denot} x c.args.answer) (sym c.replace.ensures.value ∙ c.in-Piece.is) c.requires.heard

pub on_create-requires : goal.on_create-requires
on_create-requires g c = (
  lit< tt,
  (
    lit< tt,
    (
      subst (λ (x : Awaited). CanHear {F = g.row.F.Denot} {Z = g.row.Z.Denot} x c.args.answer) (sym c.replace.ensures.value ∙ c.in-Create.is) c.requires.heard,
      c.requires.sound,
    ),
  ),
)

pub on_alter-requires : goal.on_alter-requires
on_alter-requires g c = (
  lit< tt,
  (
    lit< tt,
    (
      subst (λ (x : Awaited). CanHear {F = g.row.F.Denot} {Z = g.row.Z.Denot} x c.args.answer) (sym c.replace.ensures.value ∙ c.in-Alter.is) c.requires.heard,
      c.requires.sound,
    ),
  ),
)

pub on_done-requires : goal.on_done-requires
on_done-requires g c = (
  lit< tt,
  (
    lit< tt,
    (
      subst (λ (x : Awaited). CanHear {F = g.row.F.Denot} {Z = g.row.Z.Denot} x c.args.answer) (sym c.replace.ensures.value ∙ c.in-Ending.is) c.requires.heard,
      (c.requires.some, c.requires.sound),
    ),
  ),
)

pub returns-in-Create-clause-carries : goal.returns-in-Create-clause-carries
returns-in-Create-clause-carries g c rows now after a k w later heard =
    let told : Bool = g.F.StoredFile.tells && g.Z.SealCopy.tells in
    c.on_create.ensures.carries rows now after a k _
    (subst (λ (x : Awaited). Waits told now a c.args.self.now.txn k x) (sym c.replace.ensures.value ∙ c.in-Create.is) w) later heard

pub returns-in-Create-clause-hand : goal.returns-in-Create-clause-hand
returns-in-Create-clause-hand g c rows now after a k w lawful heard =
    let told : Bool = g.F.StoredFile.tells && g.Z.SealCopy.tells in
    let asks = subst (λ (x : Awaited). Waits told now a c.args.self.now.txn k x) (sym c.replace.ensures.value ∙ c.in-Create.is) w in
    c.on_create.ensures.hand rows now after a k asks
    (subst (λ (x : Ask g.row.F.Denot g.row.Z.Denot). InHand g.F.StoredFile.tells g.Z.SealCopy.tells c.args.self.now.number now.history (outstanding x c.args.self.now.txn.lanes)) asks.asked lawful.hand)
    heard

pub returns-in-Create-clause-fewer : goal.returns-in-Create-clause-fewer
returns-in-Create-clause-fewer g c = λ h. absurd (true≢false (sym h ∙ c.on_create.ensures.turn))

pub returns-in-Create-clause-later : goal.returns-in-Create-clause-later
returns-in-Create-clause-later g c = later-same _

pub returns-in-Alter-clause-carries : goal.returns-in-Alter-clause-carries
returns-in-Alter-clause-carries g c rows now after a k w later heard =
    let told : Bool = g.F.StoredFile.tells && g.Z.SealCopy.tells in
    c.on_alter.ensures.carries rows now after a k _
    (subst (λ (x : Awaited). Waits told now a c.args.self.now.txn k x) (sym c.replace.ensures.value ∙ c.in-Alter.is) w) later heard

pub returns-in-Alter-clause-hand : goal.returns-in-Alter-clause-hand
returns-in-Alter-clause-hand g c rows now after a k w lawful heard =
    let told : Bool = g.F.StoredFile.tells && g.Z.SealCopy.tells in
    let asks = subst (λ (x : Awaited). Waits told now a c.args.self.now.txn k x) (sym c.replace.ensures.value ∙ c.in-Alter.is) w in
    c.on_alter.ensures.hand rows now after a k asks
    (subst (λ (x : Ask g.row.F.Denot g.row.Z.Denot). InHand g.F.StoredFile.tells g.Z.SealCopy.tells c.args.self.now.number now.history (outstanding x c.args.self.now.txn.lanes)) asks.asked lawful.hand)
    heard

pub returns-in-Alter-clause-fewer : goal.returns-in-Alter-clause-fewer
returns-in-Alter-clause-fewer g c = λ h. absurd (true≢false (sym h ∙ c.on_alter.ensures.turn))

pub returns-in-Alter-clause-later : goal.returns-in-Alter-clause-later
returns-in-Alter-clause-later g c = later-same _

pub returns-in-Ending-clause-carries : goal.returns-in-Ending-clause-carries
returns-in-Ending-clause-carries g c rows now after a k w later heard =
    let told : Bool = g.F.StoredFile.tells && g.Z.SealCopy.tells in
    c.on_done.ensures.carries rows now after a k
    (subst (λ (x : Awaited). Waits told now a c.args.self.now.txn k x) (sym c.replace.ensures.value ∙ c.in-Ending.is) w) later heard

pub returns-in-Ending-clause-hand : goal.returns-in-Ending-clause-hand
returns-in-Ending-clause-hand g c rows now after a k w lawful heard =
    let told : Bool = g.F.StoredFile.tells && g.Z.SealCopy.tells in
    c.on_done.ensures.hand rows now after a k
    (subst (λ (x : Awaited). Waits told now a c.args.self.now.txn k x) (sym c.replace.ensures.value ∙ c.in-Ending.is) w) lawful heard

pub returns-in-Ending-clause-fewer : goal.returns-in-Ending-clause-fewer
returns-in-Ending-clause-fewer g c = λ h. omega (arith, c.on_done.ensures.fewer h, ap weight (sym c.replace.ensures.value ∙ c.in-Ending.is))
