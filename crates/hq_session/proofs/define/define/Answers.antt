use Rattle.std.proofs.Common.{◌≡◌, ◌⊎◌, ◌∙◌, [], ap, subst, sym}
use Rattle.hq_bind.specs.Bound.{parts_bound}
use Rattle.hq_reply.specs.declared.fault.Fault.{Fault}
use Rattle.hq_reply.specs.declared.fault.Fault.TheVariants as fault
use Rattle.hq_transcript.specs.Binding.{Refused}
use Rattle.hq_transcript.specs.Binds.{binds}
use Rattle.hq_session.proofs.Defining.{create-bound, create-refused}
use Rattle.hq_session.proofs.define.define.Goals as goal

pub returns-in-Ok-Create-clause-bound : goal.returns-in-Ok-Create-clause-bound
returns-in-Ok-Create-clause-bound c =
    create-bound [] c.args.create c.in-Ok-Create.table c.in-Ok-Create.ensures.allowed (sym (ap parts_bound c.in-Ok-Create.field-0-is) ∙ c.in-Ok-Create.ensures.bound)

pub returns-clause-refused : goal.returns-clause-refused
returns-clause-refused c =
    subst (λ (why : Fault). (why ≡ fault.NoMemory) ⊎ (binds.create c.args.create ≡ Refused why)) (sym c.fault_of.ensures.fault)
    (create-refused [] c.args.create c.in-Err.refusal c.in-Err.ensures.refused)
