-- A turn that replies.
use Rattle.std.proofs.Common.{◌≡◌, Bool, true, false, [], Option, Some, None, refl, sym, ◌∙◌, ap, subst}
use Rattle.hq_txn.specs.Transactions.{Transaction}
use Rattle.hq_txn.specs.declared.state.TxnState.{TxnState}
use Rattle.hq_txn.specs.declared.state.TxnState.TheVariants as txn
use Rattle.hq_reply.specs.declared.fault.Fault.{Fault}
use Rattle.hq_reply.specs.declared.reply.Reply.{Reply}
use Rattle.hq_reply.specs.declared.reply.Reply.TheVariants as reply
use Rattle.hq_transcript.specs.Step.{mark_down}
use Rattle.hq_transcript.specs.Binds.{binds}
use Rattle.hq_turns.specs.Counts.{Counts, Later}
use Rattle.hq_turns.specs.Now.{Now}
use Rattle.hq_turns.specs.Ends.{Ended, Owes, Fails, given_up}
use Rattle.hq_turns.proofs.Ending.{ends-at-once, ends-given, fails-plain, owes-later}
use Rattle.hq_session.specs.declared.session.Session.{Session}
use Rattle.hq_session.specs.declared.turn.Turn.{Turn}
use Rattle.hq_session.specs.Keeps.{turn_of, is_ask}
use Rattle.hq_session.specs.Waits.{Outcome}

-- a transaction with the state that it has
pub same-state : (t : Transaction) (s : TxnState) → t.state ≡ s → t ≡ record t { state = s }
same-state t s e = ap (λ (x : TxnState). record t { state = x }) e

module _ {F Z : Type 0} (told : Bool) (now : Now) where
  outcome : (r : Option Reply) (s : Session F Z) (c : Counts) → Ended binds told now r s.txn c → Outcome told now s c (turn_of r)
  outcome (Some r) s c e = e
  outcome None s c e = e

  replied : (r : Option Reply) (s : Session F Z) (t : Transaction) (c : Counts) (u : Turn F Z) → Ended binds told now r t c → s.txn ≡ t → u ≡ turn_of r → Outcome told now s c u
  replied r s t c u e txn turn =
      subst (λ (v : Turn F Z). Outcome told now s c v) (sym turn) (outcome r s c (subst (λ (x : Transaction). Ended binds told now r x c) (sym txn) e))

  -- no lane goes back
  pub replies : (give : Bool) (r : Option Reply) (s : Session F Z) (t : Transaction) (c : Counts) (u : Turn F Z) → Owes binds told now give now.entries r t c
      → give ≡ false → s.txn ≡ t → u ≡ turn_of r → Outcome told now s c u
  replies give r s t c u o kept txn turn =
      replied r s t c u (ends-at-once binds told now r t c (subst (λ (g : Bool). Owes binds told now g now.entries r t c) kept o)) txn turn

  -- all went back
  pub replies-given : (r : Option Reply) (s : Session F Z) (t mid : Transaction) (c d : Counts) (u : Turn F Z) → Owes binds told now true now.entries r t c → Later c d
      → t.lanes ≡ [] → mid ≡ record t { state = txn.Idle } → s.txn ≡ mid → u ≡ turn_of r → Outcome told now s d u
  replies-given r s t mid c d u o later none is txn turn =
      replied r s mid d u (ends-given binds told now r t mid d (owes-later binds told now true now.entries r t c d o later) none
      (ap (λ (x : Transaction). x.state) is) (ap (λ (x : Transaction). x.lanes) is)) txn turn

  -- it is refused
  pub refuses : (why : Fault) (s : Session F Z) (t mid : Transaction) (c : Counts) (u : Turn F Z) → Fails binds told now why false t c → mark_down why ≡ []
      → mid ≡ record t { state = given_up t.state } → s.txn ≡ mid → u ≡ turn_of (Some (reply.Error why)) → Outcome told now s c u
  refuses why s t mid c u f none is txn turn =
      replies false (Some (reply.Error why)) s mid c u (fails-plain binds told now why false t mid c f none
      (ap (λ (x : Transaction). x.state) is) (ap (λ (x : Transaction). x.lanes) is)) refl txn turn

pub owes-given : (told : Bool) (now : Now) (give : Bool) (r : Option Reply) (t : Transaction) (c : Counts) → give ≡ true → Owes binds told now give now.entries r t c
    → Owes binds told now true now.entries r t c
owes-given told now give r t c e o = subst (λ (b : Bool). Owes binds told now b now.entries r t c) e o

pub never-asks : {F Z : Type 0} (r : Option Reply) (u : Turn F Z) → u ≡ turn_of r → is_ask u ≡ true → ⊥
never-asks {F} {Z} r u e h = by r (sym (ap is_ask e) ∙ h)
  where
    by : (r : Option Reply) → is_ask (turn_of {F = F} {Z = Z} r) ≡ true → ⊥
    by (Some r) h = cc
    by None h = cc

pub no-ask : {F Z : Type 0} (r : Option Reply) (u : Turn F Z) → u ≡ turn_of r → is_ask u ≡ false
no-ask {F} {Z} r u e = ap is_ask e ∙ by r
  where
    by : (r : Option Reply) → is_ask (turn_of {F = F} {Z = Z} r) ≡ false
    by (Some r) = refl
    by None = refl
