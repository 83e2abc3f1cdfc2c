-- One statement behind another.
use Rattle.std.proofs.Common.{◌≡◌, ◌<◌, ◌≤◌, ◌+◌, ◌-◌, ◌^◌, ℕ, suc, Bool, true, List, [], ◌++◌, Option, Some, None, refl, sym, ◌∙◌, ap, subst, arith}
use Rattle.hq_value.specs.Causes.{Rose, RoseBy}
use Rattle.hq_history.specs.declared.noted.Noted.{Noted}
use Rattle.hq_history.specs.Deposits.{tables_left}
use Rattle.hq_txn.specs.Transactions.{Transaction}
use Rattle.hq_txn.specs.declared.state.TxnState.TheVariants as txn
use Rattle.hq_reply.specs.declared.fault.Fault.{Fault}
use Rattle.hq_reply.specs.declared.fault.Fault.TheVariants as fault
use Rattle.hq_reply.specs.declared.reply.Reply.{Reply}
use Rattle.hq_reply.specs.declared.reply.Reply.TheVariants as reply
use Rattle.hq_transcript.specs.Pieces.{Piece}
use Rattle.hq_transcript.specs.Tables.{Put}
use Rattle.hq_transcript.specs.Binding.{Binder}
use Rattle.hq_transcript.specs.Step.{State, Idle, Open, Failed, lanes_after}
use Rattle.hq_turns.specs.Counts.{Counts, Later, IsCause, is_plain}
use Rattle.hq_turns.specs.Now.{Now}
use Rattle.hq_turns.specs.Held.{slots, Holds}
use Rattle.hq_turns.specs.Ends.{Ended, Begins, txn_state, tailed}
use Rattle.hq_turns.specs.Following.{Follows, IsSame, IsQuiet}
use Rattle.hq_turns.proofs.Counting.{later-same}
use Rattle.hq_turns.proofs.Answering.{is-open}

pub goes-on : (binds : Binder) (told : Bool) (now next : Now) (r : Option Reply) (p : Piece) (t : Transaction) (c : Counts) → (t.state ≡ txn.Idle → t.lanes ≡ [])
    → Ended binds told now r t c → Follows binds now r c p next → Begins told next p t c
goes-on binds told now next r p t c none e f = record {
  piece = f.piece;
  entries = f.entries;
  change = f.change;
  before = record {
    state = state;
    lanes = e.lanes ∙ sym f.lanes ∙ sym (ap (lanes_after next.lanes) f.entries);
    idle = λ h. (none (state ∙ ap txn_state h), f.own_idle h);
    own = λ h. own h (is-open next.state (sym state ∙ h));
    tails = ap tailed f.entries;
    later = subst (λ d. Later d c) (sym f.counts) (later-same c);
  };
}
  where
    state : t.state ≡ txn_state next.state
    state = e.state ∙ ap txn_state (sym f.state)

    own : t.state ≡ txn.Open → (b : ℕ) × (next.state ≡ Open b) → Holds told (tables_left next.history) t.lanes next.found.own
    own h (b, is) =
        subst (λ (hs : List Noted). Holds told (tables_left hs) t.lanes next.found.own) (sym f.history)
        (subst (λ (xs : List Put). Holds told (tables_left now.history) t.lanes xs) (sym (f.own_open b is)) (e.own h))

-- ---- where no count rose there is no fault

same-never-rose : (a b : ℕ) → IsSame a b → Rose a b → ⊥
same-never-rose a b s r = omega (arith, s.same, s.below, r)

same-never-rose-by : (a b : ℕ) → IsSame a b → RoseBy 32 a b → ⊥
same-never-rose-by a b s r = omega (arith, s.same, s.below, r)

pub quiet-is-plain : (c d : Counts) (why : Fault) → IsQuiet c d → IsCause c d why → is_plain why ≡ true
quiet-is-plain c d fault.Store q h = absurd (same-never-rose (c.stores h.0) (d.stores h.0) (q.stores h.0) h.1)
quiet-is-plain c d (fault.Host n) q h = absurd (same-never-rose (c.hosts n) (d.hosts n) (q.hosts n) h)
quiet-is-plain c d (fault.LinkLost n) q h = absurd (same-never-rose-by (c.troubles n) (d.troubles n) (q.troubles n) h)
quiet-is-plain c d (fault.LinkFailed n) q h = absurd (same-never-rose (c.links n) (d.links n) (q.links n) h)
quiet-is-plain c d fault.NoSegment q h = absurd (same-never-rose (c.hosts 0) (d.hosts 0) (q.hosts 0) (h 0 q.some))
quiet-is-plain c d _ q h = refl

pub no-fault : (binds : Binder) (told : Bool) (now : Now) (why : Fault) (t : Transaction) (c : Counts) → IsQuiet now.counts c
    → Ended binds told now (Some (reply.Error why)) t c → is_plain why ≡ true
no-fault binds told now why t c q e = quiet-is-plain now.counts c why q e.cause
