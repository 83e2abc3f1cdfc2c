-- What is flushed was whole.
use Rattle.std.proofs.Common.{ℕ, ◌<◌, ◌∙◌, subst, sym}
use Rattle.std.proofs.lemmas.Result.{on_ok_weaker}
use Rattle.hq_lane.specs.BucketFiles.{IsFlushed}
use Rattle.hq_lane.specs.Lanes.{LaneState, AreWhole, file_of}
use Rattle.hq_lane.proofs.lane.Lane.flush_all.Goals as goal

pub returns-clause-flushed : goal.returns-clause-flushed
returns-clause-flushed g c =
    let whole : AreWhole c.self.inside.files = subst (λ (s : LaneState). AreWhole s.files) (sym c.self.view_is) c.requires in
    on_ok_weaker c.flush_each.result
    (λ (flushed : (b : ℕ) → b < 16 → IsFlushed (file_of c.flush_each.new.files b)). λ b h. ((c.flush_each.ensures.kept b h).torn ∙ whole b h, flushed b h))
    c.flush_each.ensures.flushed

pub invariant_of-self : goal.invariant_of-self
invariant_of-self g c = λ b h. (c.flush_each.ensures.kept b h).id ∙ c.self.invariant b h
