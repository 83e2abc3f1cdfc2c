-- The faults among a session's replies, against the counts of its benches over all its statements.
--     faults_in test replies           how many replies are an error of this sort
--     total count nodes                the counts of all nodes together
--     RoseTogether n nodes before now  together they rose by at least n
--     HaveCauses replies kinds c d     no more faults were answered, and no more lanes went back with a tail, than the counts rose
--     MayEnd result ..                 the same, where the session may go on
--     Causes why ..                    a fault of the source or of the sink is the end only where its count rose
use Rattle.std.specs.Prelude.{◌≡◌, ◌⊎◌, ℕ, zero, suc, ◌+◌, ◌*◌, ◌-◌, ◌^◌, ◌<◌, ◌≤◌, ◌==◌, Bool, true, false, List, [], ◌∷◌, Option, Some, None, if◌then◌else◌, Result, IfErr}
use Rattle.hq_value.specs.Causes.{Rose, RoseBy}
use Rattle.hq_value.specs.declared.entry.EntryKind.{EntryKind}
use Rattle.hq_reply.specs.declared.fault.Fault.{Fault}
use Rattle.hq_reply.specs.declared.fault.Fault.TheVariants as fault
use Rattle.hq_reply.specs.declared.reply.Reply.{Reply}
use Rattle.hq_reply.specs.declared.reply.Reply.TheVariants as reply
use Rattle.hq_transcript.specs.declared.why.EndWhy.{EndWhy}
use Rattle.hq_transcript.specs.declared.why.EndWhy.TheVariants.{SourceFault, SinkFault}
use Rattle.hq_turns.specs.Counts.{Counts, Later}
use Rattle.hq_turns.specs.Ends.{tailed}

-- ---- sorts of faults

abbrev pub is_of_store : Fault → Bool
is_of_store fault.Store = true
is_of_store _ = false

-- host n failed, or every host did
abbrev pub is_of_host : ℕ → Fault → Bool
is_of_host n (fault.Host node) = node == n
is_of_host n fault.NoSegment = true
is_of_host n _ = false

abbrev pub is_of_link : ℕ → Fault → Bool
is_of_link n (fault.LinkFailed node) = node == n
is_of_link n _ = false

abbrev pub is_of_loss : ℕ → Fault → Bool
is_of_loss n (fault.LinkLost node) = node == n
is_of_loss n _ = false

-- ---- how many

abbrev pub faults_in : (Fault → Bool) → List (Option Reply) → ℕ
faults_in test [] = 0
faults_in test (Some (reply.Error why) ∷ replies) = if test why then suc (faults_in test replies) else faults_in test replies
faults_in test (r ∷ replies) = faults_in test replies

-- the counts of the first so many nodes together
abbrev pub total : (ℕ → ℕ) → ℕ → ℕ
total count zero = 0
total count (suc n) = total count n + count n

-- the counts of so many nodes together have risen by at least m, or one stands at its type's end
abbrev pub RoseTogether : ℕ → ℕ → (ℕ → ℕ) → (ℕ → ℕ) → Type 0
RoseTogether m nodes before now = ((n : ℕ) × (n < nodes) × (2 ^ 64 - 1 ≤ now n)) ⊎ (total before nodes + m ≤ total now nodes)

-- the faults of these replies, and the lanes of these entries that went back with a tail, came between c and d
pub record HaveCauses (replies : List (Option Reply)) (kinds : List EntryKind) (c d : Counts) : Type 0 where
  pub later : Later c d
  pub stores : RoseTogether (faults_in is_of_store replies) c.nodes c.stores d.stores
  pub tails : RoseBy (tailed kinds) (c.stores 0) (d.stores 0)
  pub hosts : (n : ℕ) → n < c.nodes → RoseBy (faults_in (is_of_host n) replies) (c.hosts n) (d.hosts n)
  pub links : (n : ℕ) → RoseBy (faults_in (is_of_link n) replies) (c.links n) (d.links n)
  pub losses : (n : ℕ) → RoseBy (32 * faults_in (is_of_loss n) replies) (c.troubles n) (d.troubles n)

-- ---- source and sink

-- a fault of the source or of the sink is the end only where its count rose
pub record Causes (why : EndWhy) (source source' sink sink' : ℕ) : Type 0 where
  pub source_later : source ≤ source'
  pub sink_later : sink ≤ sink'
  pub source_fault : why ≡ SourceFault → Rose source source'
  pub sink_fault : why ≡ SinkFault → Rose sink sink'

pub record MayEnd (result : Result Unit EndWhy) (source source' sink sink' : ℕ) : Type 0 where
  pub source_later : source ≤ source'
  pub sink_later : sink ≤ sink'
  pub causes : IfErr result (λ why. Causes why source source' sink sink')
