-- The faults among replies are no more than the counts rose, one statement after another.
use Rattle.std.proofs.Common.{◌≡◌, ◌⊎◌, inl, inr, ℕ, zero, suc, ◌+◌, ◌*◌, ◌-◌, ◌^◌, ◌<◌, ◌≤◌, ◌==◌, Bool, true, false, cond, if◌then◌else◌, Option, Some, None, List, [], ◌∷◌, ◌++◌, length, refl, sym, ◌∙◌, ap, subst, arith, slice_get}
use Rattle.std.proofs.lemmas.Bool.{cases_lt}
use Rattle.hq_value.specs.Causes.{Rose, RoseBy}
use Rattle.hq_value.specs.declared.entry.EntryKind.{EntryKind}
use Rattle.hq_reply.specs.declared.fault.Fault.{Fault}
use Rattle.hq_reply.specs.declared.fault.Fault.TheVariants as fault
use Rattle.hq_reply.specs.declared.reply.Reply.{Reply}
use Rattle.hq_reply.specs.declared.reply.Reply.TheVariants as reply
use Rattle.hq_turns.specs.Counts.{Counts, Later, IsCause, IsCaused, count_at}
use Rattle.hq_turns.specs.Ends.{tailed}
use Rattle.hq_turns.proofs.Counting.{later-by, later-same}
use Rattle.hq_serve.specs.Causes.{faults_in, is_of_store, is_of_host, is_of_link, is_of_loss, total, RoseTogether, HaveCauses}

-- ---- counts

rose-none : (a b : ℕ) → a ≤ b → RoseBy 0 a b
rose-none a b l = omega (arith, l)

rose-once : (a b : ℕ) → Rose a b → RoseBy 1 a b
rose-once a b h = h

rose-then : (i j a b c : ℕ) → RoseBy i a b → RoseBy j b c → RoseBy (i + j) a c
rose-then i j a b c h k = omega (arith, h, k)

-- ---- how many

faults-push : (test : Fault → Bool) (replies : List (Option Reply)) (r : Option Reply) → faults_in test (replies ++ r ∷ []) ≡ faults_in test replies + faults_in test (r ∷ [])
faults-push test [] r = omega arith
faults-push test (Some (reply.Error why) ∷ replies) r = by (test why) (faults-push test replies r)
  where
    by : (b : Bool) → faults_in test (replies ++ r ∷ []) ≡ faults_in test replies + faults_in test (r ∷ [])
        → (if b then suc (faults_in test (replies ++ r ∷ [])) else faults_in test (replies ++ r ∷ [])) ≡ (if b then suc (faults_in test replies) else faults_in test replies) + faults_in test (r ∷ [])
    by true h = omega (arith, h)
    by false h = h
faults-push test (None ∷ replies) r = faults-push test replies r
faults-push test (Some _ ∷ replies) r = faults-push test replies r

-- ---- stores together

total-le : (f g : ℕ → ℕ) (nodes : ℕ) → ((n : ℕ) → f n ≤ g n) → total f nodes ≤ total g nodes
total-le f g zero h = omega arith
total-le f g (suc n) h = omega (arith, total-le f g n h, h n)

total-less : (f g : ℕ → ℕ) (nodes n : ℕ) → n < nodes → ((n : ℕ) → f n ≤ g n) → f n + 1 ≤ g n → total f nodes + 1 ≤ total g nodes
total-less f g zero n below h one = absurd (omega (arith, below))
total-less f g (suc nodes) n below h one = by (cases_lt n nodes) (λ l. total-less f g nodes n l h one)
  where
    by : (n < nodes) ⊎ (nodes ≤ n) → (n < nodes → total f nodes + 1 ≤ total g nodes) → total f nodes + f nodes + 1 ≤ total g nodes + g nodes
    by (inl l) less = omega (arith, less l, h nodes)
    by (inr l) less = omega (arith, total-le f g nodes h, subst (λ k. f k + 1 ≤ g k) (last l) one)
      where
        last : nodes ≤ n → n ≡ nodes
        last l = omega (arith, l, below)

together-none : (nodes : ℕ) (f g : ℕ → ℕ) → ((n : ℕ) → f n ≤ g n) → RoseTogether 0 nodes f g
together-none nodes f g h = inr (omega (arith, total-le f g nodes h))

together-once : (nodes n : ℕ) (f g : ℕ → ℕ) → n < nodes → ((n : ℕ) → f n ≤ g n) → Rose (f n) (g n) → RoseTogether 1 nodes f g
together-once nodes n f g below h rose = by (cases_lt (f n) (2 ^ 64 - 1))
  where
    by : (f n < 2 ^ 64 - 1) ⊎ (2 ^ 64 - 1 ≤ f n) → RoseTogether 1 nodes f g
    by (inl l) = inr (total-less f g nodes n below h (omega (arith, l, rose)))
    by (inr l) = inl (n, below, omega (arith, l, h n))

together-then : (nodes i j : ℕ) (f g h : ℕ → ℕ) → ((n : ℕ) → g n ≤ h n) → RoseTogether i nodes f g → RoseTogether j nodes g h → RoseTogether (i + j) nodes f h
together-then nodes i j f g h le (inl (n, below, full)) b = inl (n, below, omega (arith, full, le n))
together-then nodes i j f g h le (inr a) (inl full) = inl full
together-then nodes i j f g h le (inr a) (inr b) = inr (omega (arith, a, b))

-- ---- one reply

module _ (c d : Counts) (later : Later c d) where
  if-node : (n node : ℕ) (P : ℕ → Type 0) → P 0 → (node ≡ n → P 1) → P (if node == n then 1 else 0)
  if-node n node P none one = by (node == n) refl
    where
      by : (b : Bool) → (node == n) ≡ b → P (if b then 1 else 0)
      by true e = one (grind (arith, e))
      by false e = none

  one-store : (r : Option Reply) → ((n : ℕ) → c.nodes ≤ n → d.stores n ≡ 0) → IsCaused c d r → RoseTogether (faults_in is_of_store (r ∷ [])) c.nodes c.stores d.stores
  one-store None beyond h = together-none c.nodes c.stores d.stores later.stores
  one-store (Some (reply.Error fault.Store)) beyond h = by (cases_lt h.0 c.nodes)
    where
      by : (h.0 < c.nodes) ⊎ (c.nodes ≤ h.0) → RoseTogether 1 c.nodes c.stores d.stores
      by (inl l) = together-once c.nodes h.0 c.stores d.stores l later.stores h.1
      by (inr l) = absurd (never (c.stores h.0) (d.stores h.0) h.1 (beyond h.0 l))
        where
          never : (a b : ℕ) → Rose a b → b ≡ 0 → ⊥
          never a b rose none = omega (arith, rose, none)
  one-store (Some (reply.Error _)) beyond h = together-none c.nodes c.stores d.stores later.stores
  one-store (Some _) beyond h = together-none c.nodes c.stores d.stores later.stores

  one-host : (r : Option Reply) (n : ℕ) → n < c.nodes → IsCaused c d r → RoseBy (faults_in (is_of_host n) (r ∷ [])) (c.hosts n) (d.hosts n)
  one-host None n below h = rose-none (c.hosts n) (d.hosts n) (later.hosts n)
  one-host (Some (reply.Error (fault.Host node))) n below h =
      if-node n node (λ i. RoseBy i (c.hosts n) (d.hosts n)) (rose-none (c.hosts n) (d.hosts n) (later.hosts n)) (λ e. subst (λ k. RoseBy 1 (c.hosts k) (d.hosts k)) e h)
  one-host (Some (reply.Error fault.NoSegment)) n below h = h n below
  one-host (Some (reply.Error _)) n below h = rose-none (c.hosts n) (d.hosts n) (later.hosts n)
  one-host (Some _) n below h = rose-none (c.hosts n) (d.hosts n) (later.hosts n)

  one-link : (r : Option Reply) (n : ℕ) → IsCaused c d r → RoseBy (faults_in (is_of_link n) (r ∷ [])) (c.links n) (d.links n)
  one-link None n h = rose-none (c.links n) (d.links n) (later.links n)
  one-link (Some (reply.Error (fault.LinkFailed node))) n h =
      if-node n node (λ i. RoseBy i (c.links n) (d.links n)) (rose-none (c.links n) (d.links n) (later.links n)) (λ e. subst (λ k. RoseBy 1 (c.links k) (d.links k)) e h)
  one-link (Some (reply.Error _)) n h = rose-none (c.links n) (d.links n) (later.links n)
  one-link (Some _) n h = rose-none (c.links n) (d.links n) (later.links n)

  one-loss : (r : Option Reply) (n : ℕ) → IsCaused c d r → RoseBy (32 * faults_in (is_of_loss n) (r ∷ [])) (c.troubles n) (d.troubles n)
  one-loss None n h = rose-none (c.troubles n) (d.troubles n) (later.troubles n)
  one-loss (Some (reply.Error (fault.LinkLost node))) n h =
      if-node n node (λ i. RoseBy (32 * i) (c.troubles n) (d.troubles n)) (rose-none (c.troubles n) (d.troubles n) (later.troubles n)) (λ e. subst (λ k. RoseBy 32 (c.troubles k) (d.troubles k)) e h)
  one-loss (Some (reply.Error _)) n h = rose-none (c.troubles n) (d.troubles n) (later.troubles n)
  one-loss (Some _) n h = rose-none (c.troubles n) (d.troubles n) (later.troubles n)

-- ---- one reply more

thirty-two : (i j : ℕ) → 32 * (i + j) ≡ 32 * i + 32 * j
thirty-two i j = omega arith

pub none-rose : (c : Counts) (kinds : List EntryKind) → tailed kinds ≡ 0 → HaveCauses [] kinds c c
none-rose c kinds none = record {
  later = later-same c;
  stores = together-none c.nodes c.stores c.stores (λ n. omega arith);
  tails = subst (λ i. RoseBy i (c.stores 0) (c.stores 0)) (sym none) (rose-none (c.stores 0) (c.stores 0) (omega arith));
  hosts = λ n below. rose-none (c.hosts n) (c.hosts n) (omega arith);
  links = λ n. rose-none (c.links n) (c.links n) (omega arith);
  losses = λ n. rose-none (c.troubles n) (c.troubles n) (omega arith);
}

module _ (replies : List (Option Reply)) (kinds kinds' : List EntryKind) (b c d : Counts) (have : HaveCauses replies kinds b c) (later : Later c d) (n : ℕ)
    (tails : RoseBy n (c.stores 0) (d.stores 0)) (count : tailed kinds' ≡ tailed kinds + n) where
  -- lanes went back
  pub more-tails : HaveCauses replies kinds' b d
  more-tails = record {
    later = later-by b c d have.later later;
    stores = subst (λ i. RoseTogether i b.nodes b.stores d.stores) (plus-none (faults_in is_of_store replies))
        (together-then b.nodes (faults_in is_of_store replies) 0 b.stores c.stores d.stores later.stores have.stores (together-none b.nodes c.stores d.stores later.stores));
    tails = subst (λ i. RoseBy i (b.stores 0) (d.stores 0)) (sym count) (rose-then (tailed kinds) n (b.stores 0) (c.stores 0) (d.stores 0) have.tails tails);
    hosts = λ n below. rose-on (faults_in (is_of_host n) replies) (b.hosts n) (c.hosts n) (d.hosts n) (have.hosts n below) (later.hosts n);
    links = λ n. rose-on (faults_in (is_of_link n) replies) (b.links n) (c.links n) (d.links n) (have.links n) (later.links n);
    losses = λ n. rose-on (32 * faults_in (is_of_loss n) replies) (b.troubles n) (c.troubles n) (d.troubles n) (have.losses n) (later.troubles n);
  }
    where
      plus-none : (n : ℕ) → n + 0 ≡ n
      plus-none n = omega arith

      rose-on : (i a b c : ℕ) → RoseBy i a b → b ≤ c → RoseBy i a c
      rose-on i a b c h l = omega (arith, h, l)

  -- and a reply was given
  pub more-replies : (r : Option Reply) → ((n : ℕ) → c.nodes ≤ n → d.stores n ≡ 0) → IsCaused c d r → HaveCauses (replies ++ r ∷ []) kinds' b d
  more-replies r beyond caused = record {
    later = later-by b c d have.later later;
    stores = subst (λ i. RoseTogether i b.nodes b.stores d.stores) (sym (faults-push is_of_store replies r))
        (together-then b.nodes (faults_in is_of_store replies) (faults_in is_of_store (r ∷ [])) b.stores c.stores d.stores later.stores have.stores
        (subst (λ nodes. RoseTogether (faults_in is_of_store (r ∷ [])) nodes c.stores d.stores) (sym have.later.nodes) (one-store c d later r beyond caused)));
    tails = subst (λ i. RoseBy i (b.stores 0) (d.stores 0)) (sym count) (rose-then (tailed kinds) n (b.stores 0) (c.stores 0) (d.stores 0) have.tails tails);
    hosts = λ n below. subst (λ i. RoseBy i (b.hosts n) (d.hosts n)) (sym (faults-push (is_of_host n) replies r))
        (rose-then (faults_in (is_of_host n) replies) (faults_in (is_of_host n) (r ∷ [])) (b.hosts n) (c.hosts n) (d.hosts n) (have.hosts n below)
        (one-host c d later r n (subst (λ nodes. n < nodes) have.later.nodes below) caused));
    links = λ n. subst (λ i. RoseBy i (b.links n) (d.links n)) (sym (faults-push (is_of_link n) replies r))
        (rose-then (faults_in (is_of_link n) replies) (faults_in (is_of_link n) (r ∷ [])) (b.links n) (c.links n) (d.links n) (have.links n) (one-link c d later r n caused));
    losses = λ n. subst (λ i. RoseBy i (b.troubles n) (d.troubles n))
        (sym (thirty-two (faults_in (is_of_loss n) replies) (faults_in (is_of_loss n) (r ∷ []))) ∙ ap (λ i. 32 * i) (sym (faults-push (is_of_loss n) replies r)))
        (rose-then (32 * faults_in (is_of_loss n) replies) (32 * faults_in (is_of_loss n) (r ∷ [])) (b.troubles n) (c.troubles n) (d.troubles n) (have.losses n) (one-loss c d later r n caused));
  }

-- where there is no node there is no count
pub none-beyond : {B : Type 0} (count : B → ℕ) (benches : List B) (n : ℕ) → length benches ≤ n → count_at count benches n ≡ 0
none-beyond count [] n h = refl
none-beyond count (b ∷ benches) zero h = absurd (omega (arith, h))
none-beyond count (b ∷ benches) (suc n) h = none-beyond count benches n (omega (arith, h))
