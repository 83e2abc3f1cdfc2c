-- The counts of a session's benches, and the cause of a fault between two moments.
--     Counts                 of each node the faults of its store, its host and its link, the checks of its host, and its link's troubles
--     counts_of .. benches   those of benches
--     Later c d              the nodes are the same, and no count fell from c to d
--     IsCause c d why        what this fault says came between c and d
--     is_plain why           this fault has no cause in the counts
--     IsCaused c d reply     so it did, if the reply is an error
use Rattle.std.specs.Prelude.{◌≡◌, ℕ, Bool, true, false, ◌<◌, ◌≤◌, List, length, Option, Some, None, slice_get}
use Rattle.std.specs.Option.{option_map_or}
use Rattle.hq_value.specs.Causes.{Rose, RoseBy}
use Rattle.hq_detect.specs.declared.bench.Bench.{Bench}
use Rattle.hq_link.specs.Link.{LinkState}
use Rattle.hq_reply.specs.declared.fault.Fault.{Fault}
use Rattle.hq_reply.specs.declared.fault.Fault.TheVariants as fault
use Rattle.hq_reply.specs.declared.reply.Reply.{Reply}
use Rattle.hq_reply.specs.declared.reply.Reply.TheVariants as reply

-- by the number of a node, 0 where there is no such node
pub record Counts : Type 0 where
  pub nodes : ℕ
  pub stores : ℕ → ℕ
  pub checks : ℕ → ℕ
  pub hosts : ℕ → ℕ
  pub links : ℕ → ℕ
  pub troubles : ℕ → ℕ

-- a count of node n's bench
abbrev pub count_at : {B : Type 0} → (B → ℕ) → List B → ℕ → ℕ
count_at count benches n = option_map_or count (slice_get benches n) 0

abbrev pub counts_of : {S H L : Type 0} → (S → ℕ) → (H → ℕ) → (H → ℕ) → (L → LinkState) → List (Bench S H L) → Counts
counts_of {S} {H} {L} stores checks hosts link benches = record {
  nodes = length benches;
  stores = count_at (λ (b : Bench S H L). stores b.store) benches;
  checks = count_at (λ (b : Bench S H L). checks b.host) benches;
  hosts = count_at (λ (b : Bench S H L). hosts b.host) benches;
  links = count_at (λ (b : Bench S H L). (link b.link).faults) benches;
  troubles = count_at (λ (b : Bench S H L). (link b.link).troubles) benches;
}

-- the same nodes, and no count fell
pub record Later (c d : Counts) : Type 0 where
  pub nodes : c.nodes ≡ d.nodes
  pub stores : (n : ℕ) → c.stores n ≤ d.stores n
  pub checks : (n : ℕ) → c.checks n ≤ d.checks n
  pub hosts : (n : ℕ) → c.hosts n ≤ d.hosts n
  pub links : (n : ℕ) → c.links n ≤ d.links n
  pub troubles : (n : ℕ) → c.troubles n ≤ d.troubles n

-- a store failed, some node's; the host or the link of this node failed; this node's link lost so much; every host failed. Other
-- faults have no cause in the counts
abbrev pub IsCause : Counts → Counts → Fault → Type 0
IsCause c d fault.Store = (n : ℕ) × Rose (c.stores n) (d.stores n)
IsCause c d (fault.Host n) = Rose (c.hosts n) (d.hosts n)
IsCause c d (fault.LinkLost n) = RoseBy 32 (c.troubles n) (d.troubles n)
IsCause c d (fault.LinkFailed n) = Rose (c.links n) (d.links n)
IsCause c d fault.NoSegment = (n : ℕ) → n < c.nodes → Rose (c.hosts n) (d.hosts n)
IsCause c d _ = Unit {0}

-- a fault that has no cause in the counts
abbrev pub is_plain : Fault → Bool
is_plain fault.Store = false
is_plain (fault.Host n) = false
is_plain (fault.LinkLost n) = false
is_plain (fault.LinkFailed n) = false
is_plain fault.NoSegment = false
is_plain _ = true

abbrev pub IsCaused : Counts → Counts → Option Reply → Type 0
IsCaused c d (Some (reply.Error why)) = IsCause c d why
IsCaused c d _ = Unit {0}
