-- How a statement ends: its lanes go back one by one, and then it replies.
use Rattle.std.proofs.Common.{◌≡◌, ◌⊎◌, inl, inr, ◌≤◌, ◌+◌, ℕ, suc, Bool, true, false, List, [], ◌∷◌, ◌++◌, Option, Some, None, refl, sym, ◌∙◌, ap, subst, arith, ◌==◌, map}
use Rattle.std.proofs.lemmas.List.{append-nil}
use Rattle.std.proofs.lemmas.List.Sums.{fold_push}
use Rattle.hq_value.specs.Causes.{Rose, RoseBy}
use Rattle.hq_value.specs.declared.entry.EntryKind.{EntryKind}
use Rattle.hq_value.specs.declared.entry.EntryKind.TheVariants as entry
use Rattle.hq_history.specs.Deposits.{tables_left}
use Rattle.hq_lane.specs.Lanes.{LaneState, are_clean}
use Rattle.hq_catalog.specs.declared.ask.Ask.{Ask}
use Rattle.hq_catalog.specs.declared.ask.Ask.TheVariants as ask
use Rattle.hq_txn.specs.Transactions.{Transaction}
use Rattle.hq_txn.specs.declared.state.TxnState.{TxnState}
use Rattle.hq_txn.specs.declared.state.TxnState.TheVariants as txn
use Rattle.hq_reply.specs.declared.fault.Fault.{Fault}
use Rattle.hq_reply.specs.declared.fault.Fault.TheVariants as fault
use Rattle.hq_reply.specs.declared.reply.Reply.{Reply}
use Rattle.hq_reply.specs.declared.reply.Reply.TheVariants as reply
use Rattle.hq_transcript.specs.Binding.{Binder}
use Rattle.hq_transcript.specs.Step.{State, Idle, Open, Failed, Lanes, without, lanes_by, lanes_after, AreBacks, mark_down}
use Rattle.hq_turns.specs.Counts.{Counts, Later, IsCause, IsCaused}
use Rattle.hq_turns.specs.Now.{Now}
use Rattle.hq_turns.specs.Held.{slot_of, slots}
use Rattle.hq_turns.specs.Ends.{Does, Ended, Owes, Fails, Tail, IsDue, txn_state, given_up, failed, state_behind, tailed}
use Rattle.hq_turns.specs.Asked.{AsksAtEnd, entry_of, is_mark}
use Rattle.hq_turns.proofs.Counting.{caused-later, cause-later, later-by, rose-by-later, rose-by-more, tails-more}

pub snoc-cons : {A : Type 0} (xs : List A) (x : A) (ys : List A) → (xs ++ x ∷ []) ++ ys ≡ xs ++ x ∷ ys
snoc-cons [] x ys = refl
snoc-cons (z ∷ xs) x ys = ap (λ zs. z ∷ zs) (snoc-cons xs x ys)

eq-same : (n : ℕ) → (n == n) ≡ true
eq-same n = grind arith

without-first : (t n : ℕ) (lanes : Lanes) → without t n ((t, n) ∷ lanes) ≡ lanes
without-first t n lanes = rw (eq-same t) (rw (eq-same n) refl)

-- the first lane is out of hand behind its Back
pub back-lanes : (lanes rest : Lanes) (es : List EntryKind) (t n : ℕ) (clean : Bool) → (t, n) ∷ rest ≡ lanes_after lanes es
    → rest ≡ lanes_after lanes (es ++ entry.Back t n clean ∷ [])
back-lanes lanes rest es t n clean h =
    sym (fold_push lanes_by lanes es (entry.Back t n clean) ∙ ap (λ ls. without t n ls) (sym h) ∙ without-first t n rest)

-- a Back that is not clean counts as one tail, and has the cut that failed
back-tails : (es : List EntryKind) (t n : ℕ) (clean : Bool) (a b c : ℕ) → RoseBy (tailed es) a b → b ≤ c → (clean ≡ false → Rose b c)
    → RoseBy (tailed (es ++ entry.Back t n clean ∷ [])) a c
back-tails es t n true a b c h l cut =
    subst (λ k. RoseBy k a c) (sym (tails-more es (entry.Back t n true) 0 refl)) (subst (λ k. RoseBy k a c) plus-none (rose-by-later (tailed es) a b c h l))
  where
    plus-none : tailed es ≡ tailed es + 0
    plus-none = omega arith
back-tails es t n false a b c h l cut =
    subst (λ k. RoseBy k a c) (sym (tails-more es (entry.Back t n false) 1 refl)) (rose-by-more (tailed es) a b c h (cut refl))

true-is-not-false : true ≡ false → ⊥
true-is-not-false h = cc

-- ---- states

idle-is-not-open : txn.Idle ≡ txn.Open → ⊥
idle-is-not-open h = cc

pub failed-is-not-open : (st : State) → txn_state (failed st) ≡ txn.Open → ⊥
failed-is-not-open Idle h = cc
failed-is-not-open (Open b) h = cc
failed-is-not-open (Failed b) h = cc

pub given-up-failed : (st : State) → given_up (txn_state st) ≡ txn_state (failed st)
given-up-failed Idle = refl
given-up-failed (Open b) = refl
given-up-failed (Failed b) = refl

given-up-is-not-open : (t : TxnState) → given_up t ≡ txn.Open → ⊥
given-up-is-not-open txn.Idle h = cc
given-up-is-not-open txn.Open h = cc
given-up-is-not-open txn.Failed h = cc

-- the state that is due behind an error
due-failed : (give : Bool) (t : TxnState) (before after : State) → after ≡ failed before → IsDue give t before → IsDue give (given_up t) after
due-failed true t before after h due = h ∙ ap failed due
due-failed false t before after h due = ap given_up due ∙ given-up-failed before ∙ ap txn_state (sym h)

module _ (binds : Binder) (told : Bool) (now : Now) where
  -- nothing goes back
  pub ends-at-once : (r : Option Reply) (t : Transaction) (c : Counts) → Owes binds told now false now.entries r t c → Ended binds told now r t c
  ends-at-once r t c o = record {
    does = subst (λ es. Does binds told now es r) (append-nil now.entries) (o.does [] refl);
    state = o.state;
    lanes = o.lanes;
    own = λ h. o.own refl h;
    cause = o.cause;
    tails = o.tails;
    later = o.later;
  }

  -- all went back
  pub ends-given : (r : Option Reply) (t after : Transaction) (c : Counts) → Owes binds told now true now.entries r t c → t.lanes ≡ []
      → after.state ≡ txn.Idle → after.lanes ≡ t.lanes → Ended binds told now r after c
  ends-given r t after c o none state lanes = record {
    does = subst (λ es. Does binds told now es r) (append-nil now.entries) (o.does [] (subst (λ ls. AreBacks (slots ls) []) (sym none) tt));
    state = state ∙ ap txn_state (sym o.state);
    lanes = ap slots lanes ∙ o.lanes;
    own = λ h. absurd (idle-is-not-open (sym state ∙ h));
    cause = o.cause;
    tails = o.tails;
    later = o.later;
  }

  -- the first lane goes back
  pub backs : {F Z : Type 0} (a : Ask F Z) (r : Option Reply) (t after : Transaction) (c d : Counts) (first lane : LaneState)
      → Owes binds told now true now.entries r t c → entry_of a ≡ Some (entry.Back lane.table lane.number (are_clean lane.files))
      → t.lanes ≡ first ∷ after.lanes → slot_of lane ≡ slot_of first
      → Later c d → (are_clean lane.files ≡ false → Rose (c.stores 0) (d.stores 0)) → AsksAtEnd binds told now a true r after d
  backs a r t after c d first lane o asked items slot later cut = record {
    kind = back;
    asked = asked;
    owes = record {
      does = λ es h. subst (λ es. Does binds told now es r) (sym (snoc-cons now.entries back es)) (o.does (back ∷ es) (subst (λ ls. AreBacks ls (back ∷ es)) (sym here) (refl, refl, h)));
      state = o.state;
      lanes = back-lanes now.lanes (slots after.lanes) now.entries lane.table lane.number (are_clean lane.files) (sym here ∙ o.lanes);
      own = λ e. absurd (true-is-not-false e);
      cause = caused-later now.counts c d r o.cause later;
      tails = back-tails now.entries lane.table lane.number (are_clean lane.files) (now.counts.stores 0) (c.stores 0) (d.stores 0) o.tails (later.stores 0) cut;
      later = later-by now.counts c d o.later later;
    };
    shut = λ g. absurd (true-is-not-false g);
    unmarked = λ h. absurd (true-is-not-false (sym h));
  }
    where
      back : EntryKind
      back = entry.Back lane.table lane.number (are_clean lane.files)

      here : slots t.lanes ≡ slot_of lane ∷ slots after.lanes
      here = ap slots items ∙ ap (λ l. l ∷ slots after.lanes) (sym slot)

  -- a statement that fails owes an error
  fails-with : (why w : Fault) (give : Bool) (es : List EntryKind) (t after : Transaction) (c : Counts) → Fails binds told now why give t c
      → ((rest : List EntryKind) → Tail give (slots t.lanes) rest → Does binds told now (es ++ rest) (Some (reply.Error w)))
      → lanes_after now.lanes es ≡ lanes_after now.lanes now.entries → tailed es ≡ tailed now.entries → IsCause now.counts c w
      → after.state ≡ given_up t.state → after.lanes ≡ t.lanes → Owes binds told now give es (Some (reply.Error w)) after c
  fails-with why w give es t after c f does same-lanes same-tails cause state lanes = record {
    does = subst (λ ls. (rest : List EntryKind) → Tail give (slots ls) rest → Does binds told now (es ++ rest) (Some (reply.Error w))) (sym lanes) does;
    state = subst (λ st. IsDue give st (state_behind now (Some (reply.Error w)))) (sym state) (due-failed give t.state now.state (state_behind now (Some (reply.Error w))) (f.leaves w) f.state);
    lanes = ap slots lanes ∙ f.lanes ∙ sym same-lanes;
    own = λ g h. absurd (given-up-is-not-open t.state (sym state ∙ h));
    cause = cause;
    tails = subst (λ n. RoseBy n (now.counts.stores 0) (c.stores 0)) (sym same-tails) f.tails;
    later = f.later;
  }

  -- a fault that marks no node
  pub fails-plain : (why : Fault) (give : Bool) (t after : Transaction) (c : Counts) → Fails binds told now why give t c → mark_down why ≡ []
      → after.state ≡ given_up t.state → after.lanes ≡ t.lanes → Owes binds told now give now.entries (Some (reply.Error why)) after c
  fails-plain why give t after c f none state lanes =
      fails-with why why give now.entries t after c f
      (λ es h. subst (λ (xs : List EntryKind). Does binds told now (xs ++ es) (Some (reply.Error why))) (ap (λ es. now.entries ++ es) none ∙ append-nil now.entries) (f.does es h))
      refl refl f.cause state lanes

  -- a host that failed is marked down
  pub fails-marked : {F Z : Type 0} (a : Ask F Z) (why : Fault) (n : ℕ) (give : Bool) (t after : Transaction) (c : Counts) → Fails binds told now why give t c
      → entry_of a ≡ Some (entry.Mark n false) → why ≡ fault.Host n → after.state ≡ given_up t.state → after.lanes ≡ t.lanes
      → AsksAtEnd binds told now a give (Some (reply.Error why)) after c
  fails-marked a why n give t after c f asked host state lanes = record {
    kind = entry.Mark n false;
    asked = asked;
    owes = fails-with why why give (now.entries ++ entry.Mark n false ∷ []) t after c f
        (λ es h. subst (λ (xs : List EntryKind). Does binds told now (xs ++ es) (Some (reply.Error why))) (ap (λ w. now.entries ++ mark_down w) host) (f.does es h))
        (fold_push lanes_by now.lanes now.entries (entry.Mark n false)) (tails-more now.entries (entry.Mark n false) 0 refl ∙ plus-none (tailed now.entries)) f.cause state lanes;
    shut = λ g h. given-up-is-not-open t.state (sym state ∙ h);
    unmarked = λ h. fails-with why fault.NoMemory give now.entries t after c f (f.unmarked n host) refl refl tt state lanes;
  }
    where
      plus-none : (k : ℕ) → k + 0 ≡ k
      plus-none k = omega arith

  -- what is owed is owed later too
  pub owes-later : (give : Bool) (es : List EntryKind) (r : Option Reply) (t : Transaction) (c d : Counts) → Owes binds told now give es r t c → Later c d → Owes binds told now give es r t d
  owes-later give es r t c d o later = record {
    does = o.does;
    state = o.state;
    lanes = o.lanes;
    own = o.own;
    cause = caused-later now.counts c d r o.cause later;
    tails = rose-by-later (tailed es) (now.counts.stores 0) (c.stores 0) (d.stores 0) o.tails (later.stores 0);
    later = later-by now.counts c d o.later later;
  }
