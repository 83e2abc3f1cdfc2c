-- Words for proofs of worked scripts.
use Rattle.std.proofs.Common.{ℕ, Option, Some, List, [], ◌∷◌, map}
use Rattle.hq_reply.specs.declared.reply.Reply.{Reply}
use Rattle.hq_reply.specs.declared.reply.Reply.TheVariants as reply
use Rattle.hq_transcript.specs.Step.{Idle, Choice, Lent}
use Rattle.hq_transcript.specs.Transcript.{Standing}
use Rattle.hq_transcript.specs.Examples.{row}

abbrev pub lent : ℕ → Choice
lent n = record { answered = []; way = Lent n }

abbrev pub told : List Reply → List (Option Reply)
told replies = map Some replies

abbrev pub idle_at : ℕ → Standing
idle_at n = record { next = n; state = Idle; lanes = [] }

-- the reply to a count
abbrev pub counted : ℕ → Reply
counted n = reply.Rows (row n ∷ [])
