-- Counts that rise, and causes that stay.
use Rattle.std.proofs.Common.{◌≡◌, ◌<◌, ◌≤◌, ◌+◌, ℕ, suc, Bool, true, false, List, [], ◌∷◌, ◌++◌, Option, Some, None, refl, sym, ◌∙◌, ap, subst, arith}
use Rattle.hq_value.specs.Causes.{Rose, RoseBy}
use Rattle.hq_value.specs.declared.entry.EntryKind.{EntryKind}
use Rattle.hq_value.specs.declared.entry.EntryKind.TheVariants as entry
use Rattle.hq_reply.specs.declared.fault.Fault.{Fault}
use Rattle.hq_reply.specs.declared.fault.Fault.TheVariants as fault
use Rattle.hq_reply.specs.declared.reply.Reply.{Reply}
use Rattle.hq_reply.specs.declared.reply.Reply.TheVariants as reply
use Rattle.hq_turns.specs.Counts.{Counts, Later, IsCause, IsCaused, is_plain}
use Rattle.hq_turns.specs.Ends.{tailed}

pub rose-later : (a b c : ℕ) → Rose a b → b ≤ c → Rose a c
rose-later a b c h l = omega (arith, h, l)

pub rose-before : (a b c : ℕ) → a ≤ b → Rose b c → Rose a c
rose-before a b c l h = omega (arith, h, l)

pub rose-by-later : (n a b c : ℕ) → RoseBy n a b → b ≤ c → RoseBy n a c
rose-by-later n a b c h l = omega (arith, h, l)

pub rose-by-before : (n a b c : ℕ) → a ≤ b → RoseBy n b c → RoseBy n a c
rose-by-before n a b c l h = omega (arith, h, l)

pub rose-by-none : (a b : ℕ) → a ≤ b → RoseBy 0 a b
rose-by-none a b l = omega (arith, l)

pub rose-by-more : (n a b c : ℕ) → RoseBy n a b → Rose b c → RoseBy (n + 1) a c
rose-by-more n a b c h k = omega (arith, h, k)

pub later-same : (c : Counts) → Later c c
later-same c = record { nodes = refl; stores = λ n. omega arith; checks = λ n. omega arith; hosts = λ n. omega arith; links = λ n. omega arith; troubles = λ n. omega arith }

pub later-by : (c d e : Counts) → Later c d → Later d e → Later c e
later-by c d e h k = record {
  nodes = h.nodes ∙ k.nodes;
  stores = λ n. omega (arith, h.stores n, k.stores n);
  checks = λ n. omega (arith, h.checks n, k.checks n);
  hosts = λ n. omega (arith, h.hosts n, k.hosts n);
  links = λ n. omega (arith, h.links n, k.links n);
  troubles = λ n. omega (arith, h.troubles n, k.troubles n);
}

-- a cause stays one, also from earlier on
pub cause-later : (c d e : Counts) (why : Fault) → IsCause c d why → Later d e → IsCause c e why
cause-later c d e fault.Store h l = (h.0, rose-later (c.stores h.0) (d.stores h.0) (e.stores h.0) h.1 (l.stores h.0))
cause-later c d e (fault.Host n) h l = rose-later (c.hosts n) (d.hosts n) (e.hosts n) h (l.hosts n)
cause-later c d e (fault.LinkLost n) h l = rose-by-later 32 (c.troubles n) (d.troubles n) (e.troubles n) h (l.troubles n)
cause-later c d e (fault.LinkFailed n) h l = rose-later (c.links n) (d.links n) (e.links n) h (l.links n)
cause-later c d e fault.NoSegment h l = λ n k. rose-later (c.hosts n) (d.hosts n) (e.hosts n) (h n k) (l.hosts n)
cause-later c d e _ h l = tt

pub caused-later : (c d e : Counts) (r : Option Reply) → IsCaused c d r → Later d e → IsCaused c e r
caused-later c d e (Some (reply.Error why)) h l = cause-later c d e why h l
caused-later c d e _ h l = tt

pub plain-cause : (c d : Counts) (why : Fault) → is_plain why ≡ true → IsCause c d why
plain-cause c d fault.Store h = cc
plain-cause c d (fault.Host n) h = cc
plain-cause c d (fault.LinkLost n) h = cc
plain-cause c d (fault.LinkFailed n) h = cc
plain-cause c d fault.NoSegment h = cc
plain-cause c d _ h = tt

-- one entry more that is no lane with a tail, and one that is
pub tails-more : (es : List EntryKind) (e : EntryKind) (n : ℕ) → tailed (e ∷ []) ≡ n → tailed (es ++ e ∷ []) ≡ tailed es + n
tails-more [] e n h = omega (arith, h)
tails-more (entry.Back t k false ∷ es) e n h = omega (arith, tails-more es e n h)
tails-more (entry.Back t k true ∷ es) e n h = tails-more es e n h
tails-more (_ ∷ es) e n h = tails-more es e n h

-- a cause is one from earlier on
pub cause-before : (b c d : Counts) (why : Fault) → Later b c → IsCause c d why → IsCause b d why
cause-before b c d fault.Store l h = (h.0, rose-before (b.stores h.0) (c.stores h.0) (d.stores h.0) (l.stores h.0) h.1)
cause-before b c d (fault.Host n) l h = rose-before (b.hosts n) (c.hosts n) (d.hosts n) (l.hosts n) h
cause-before b c d (fault.LinkLost n) l h = rose-by-before 32 (b.troubles n) (c.troubles n) (d.troubles n) (l.troubles n) h
cause-before b c d (fault.LinkFailed n) l h = rose-before (b.links n) (c.links n) (d.links n) (l.links n) h
cause-before b c d fault.NoSegment l h = λ n k. rose-before (b.hosts n) (c.hosts n) (d.hosts n) (l.hosts n) (h n (subst (λ m. n < m) l.nodes k))
cause-before b c d _ l h = tt
