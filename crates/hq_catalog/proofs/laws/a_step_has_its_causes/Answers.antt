-- The causes of each answer.
use Rattle.hq_catalog.proofs.Causes as causes
use Rattle.hq_catalog.proofs.laws.a_step_has_its_causes.Goals as goal

pub returns-clause-one : goal.returns-clause-one
returns-clause-one g c = λ told nodes k m old new ask given step. causes.one {F = g.row.F.Denot} {Z = g.row.Z.Denot} told nodes k m old new ask given step

pub returns-clause-no_memory : goal.returns-clause-no_memory
returns-clause-no_memory g c = λ told nodes k m old new ask given step. causes.lacks {F = g.row.F.Denot} {Z = g.row.Z.Denot} told nodes k m old new ask given step

pub returns-clause-all_out : goal.returns-clause-all_out
returns-clause-all_out g c = λ told nodes k m old new ask given step. causes.all_out {F = g.row.F.Denot} {Z = g.row.Z.Denot} told nodes k m old new ask given step

pub returns-clause-nothing : goal.returns-clause-nothing
returns-clause-nothing g c = λ told nodes k m old new ask given step. causes.nothing {F = g.row.F.Denot} {Z = g.row.Z.Denot} told nodes k m old new ask given step

pub returns-clause-exists : goal.returns-clause-exists
returns-clause-exists g c = λ told nodes k m old new ask given step. causes.exists {F = g.row.F.Denot} {Z = g.row.Z.Denot} told nodes k m old new ask given step

pub returns-clause-too_many : goal.returns-clause-too_many
returns-clause-too_many g c = λ told nodes k m old new ask given step. causes.enough {F = g.row.F.Denot} {Z = g.row.Z.Denot} told nodes k m old new ask given step
