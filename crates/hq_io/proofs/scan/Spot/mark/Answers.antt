use Rattle.std.proofs.Common.{sym, subst}
use Rattle.hq_io.specs.Scanning.{Stays}
use Rattle.hq_io.proofs.Scanning.{stays-outside, stays-text, stays-comment}
use Rattle.hq_io.proofs.scan.Spot.mark.Goals as goal

pub returns-in-Outside : goal.returns-in-Outside
returns-in-Outside c = subst (λ s. Stays s c.args.bytes.now c.memchr3.result) (sym c.in-Outside.is) (stays-outside _ _ c.memchr3.ensures)

pub returns-in-Text : goal.returns-in-Text
returns-in-Text c = subst (λ s. Stays s c.args.bytes.now c.memchr.result) (sym c.in-Text.is) (stays-text _ _ c.memchr.ensures)

pub returns-in-Comment : goal.returns-in-Comment
returns-in-Comment c = subst (λ s. Stays s c.args.bytes.now c.memchr-in-Comment.result) (sym c.in-Comment.is) (stays-comment _ _ c.memchr-in-Comment.ensures)
