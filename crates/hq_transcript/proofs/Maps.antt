-- Serving by one account of the replies is serving by another that follows from it.
use Rattle.std.proofs.Common.{◌≡◌, ℕ, Bool, Option, List, [], ◌++◌}
use Rattle.hq_value.specs.declared.entry.Entry.{Entry}
use Rattle.hq_reply.specs.declared.reply.Reply.{Reply}
use Rattle.hq_transcript.specs.declared.why.EndWhy.{EndWhy}
use Rattle.hq_transcript.specs.Binding.{Binder}
use Rattle.hq_transcript.specs.Sights.{replay}
use Rattle.hq_transcript.specs.Reading.{pieces_in}
use Rattle.hq_transcript.specs.Transcript.{of_session, own, Replied}
use Rattle.hq_transcript.specs.Step.{AreBacks}
use Rattle.hq_transcript.specs.Serves.{Serves, RepliedOver}
use Rattle.hq_transcript.proofs.Answered.{ended-others}

pub serves-map : (P Q : ℕ → List (Option Reply) → Type 0) → ((j : ℕ) (replies : List (Option Reply)) → P j replies → Q j replies)
    → (why : EndWhy) (input : List ℕ) (left : Option (List ℕ)) (bytes : List ℕ) → Serves P why input left bytes → Serves Q why input left bytes
serves-map P Q f why input left bytes (j, replies, reaches, replied, wrote) = (j, replies, reaches, f j replies replied, wrote)

-- for one: what other sessions add behind the end of a session changes nothing of what it was served
pub replied-others : (binds : Binder) (told : Bool) (nodes : ℕ) (inputs : ℕ → List ℕ) (log more : List Entry) (k : ℕ) → of_session k more ≡ []
    → (j : ℕ) (replies : List (Option Reply)) → RepliedOver binds told nodes inputs log k j replies → RepliedOver binds told nodes inputs (log ++ more) k j replies
replied-others binds told nodes inputs log more k none j replies (pieces, later, whole, count, (end, replied, backs)) =
    let h : Replied binds told k (replay binds (λ i. pieces_in (inputs i)) nodes (log ++ more)) (log ++ more) pieces replies end × AreBacks end.lanes (own (log ++ more) k end.next) =
    ended-others binds told k nodes (λ i. pieces_in (inputs i)) log more pieces replies end none (replied, backs) in
    (pieces, later, whole, count, (end, h.0, h.1))
