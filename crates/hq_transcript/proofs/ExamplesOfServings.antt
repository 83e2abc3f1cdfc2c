-- How far sessions came, and what they wrote of their replies.
use Rattle.std.proofs.Common.{◌≡◌, ℕ, Some, [], ◌∷◌, codes, refl, inl, inr, arith}
use Rattle.hq_reply.specs.declared.reply.Reply.TheVariants as reply
use Rattle.hq_transcript.specs.declared.why.EndWhy.TheVariants.{End, SourceFault, SinkFault}
use Rattle.hq_transcript.specs.Reaching.{IsOverLimit, Reaches}
use Rattle.hq_transcript.specs.Serves.{Wrote}
use Rattle.hq_transcript.proofs.ExampleWords.{told}

-- the source failed behind the second `;`
pub shows_given : Reaches SourceFault (codes "a;b;c;") (Some (codes "c;")) 2
shows_given = (codes "a;b;", refl, refl)

-- the whole input, with its unended rest
pub shows_read : Reaches End (codes "a;b") (Some []) 2
shows_read = (refl, within, refl)
  where
    within : IsOverLimit (codes "a;b") → ⊥
    within (inl many) = absurd (omega (arith, many))
    within (inr long) = absurd (omega (arith, long))

pub not_read_whole : Reaches End (codes "a;b") (Some []) 1 → ⊥
not_read_whole h = let all : ◌≡◌ {A = ℕ} 1 2 = h.0 in cc

pub not_read_to_its_end : Reaches End (codes "a;b") (Some (codes "b")) 2 → ⊥
not_read_to_its_end h = cc

-- the sink failed within the second reply
pub shows_cut_off : Wrote SinkFault (told (reply.Created ∷ reply.Begun ∷ [])) (codes "CREATE TABLE\nBE")
shows_cut_off = (told (reply.Created ∷ []), reply.Begun, codes "BE", codes "GIN\n", refl, refl, refl)

pub not_cut_off : Wrote End (told (reply.Created ∷ reply.Begun ∷ [])) (codes "CREATE TABLE\nBE") → ⊥
not_cut_off h = cc
