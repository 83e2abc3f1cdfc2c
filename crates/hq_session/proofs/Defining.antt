-- What a CREATE TABLE is bound to, by the binder's definitions.
use Rattle.std.proofs.Common.{◌≡◌, ◌⊎◌, inl, inr, Some, None, sym, ◌∙◌, ap}
use Rattle.hq_value.specs.Tables.{Definition}
use Rattle.hq_sql.specs.declared.tree.Statement.TheVariants as statement
use Rattle.hq_sql.specs.declared.tree.CreateStatement.{CreateStatement}
use Rattle.hq_bind.specs.Scope.{Defs}
use Rattle.hq_bind.specs.declared.refusal.Refusal.{Refusal}
use Rattle.hq_bind.specs.declared.refusal.Refusal.TheVariants as refused
use Rattle.hq_bind.specs.Faults.{first_refusal}
use Rattle.hq_bind.specs.Bound.{bound_of, created, made}
use Rattle.hq_reply.specs.declared.fault.Fault.TheVariants as fault
use Rattle.hq_transcript.specs.Binding.{Refused, Bound as BoundTo}
use Rattle.hq_transcript.specs.Binds.{binding, binds, fault_of}

made-same : {a b : Definition} → made a ≡ made b → a ≡ b
made-same e = cc

pub create-bound : (defs : Defs) (create : CreateStatement) (table : Definition) → first_refusal defs (statement.Create create) ≡ None
    → made table ≡ bound_of defs (statement.Create create) → binds.create create ≡ BoundTo table
create-bound defs create table allowed is = ap (λ o. binding o (Some (created create))) allowed ∙ ap BoundTo (sym (made-same is))

pub create-refused : (defs : Defs) (create : CreateStatement) (why : Refusal) → (why ≡ refused.NoMemory) ⊎ (first_refusal defs (statement.Create create) ≡ Some why)
    → (fault_of why ≡ fault.NoMemory) ⊎ (binds.create create ≡ Refused (fault_of why))
create-refused defs create why (inl e) = inl (ap fault_of e)
create-refused defs create why (inr e) = inr (ap (λ o. binding o (Some (created create))) e)
