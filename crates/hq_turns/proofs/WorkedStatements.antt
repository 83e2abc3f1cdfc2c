-- Worked statements.
use Rattle.std.proofs.Common.{◌≡◌, ◌≤◌, ℕ, zero, suc, true, false, Option, Some, None, List, [], ◌∷◌, ◌++◌, subst, refl, inl, inr, pos, arith, true≢false, sym, ap}
use Rattle.std.proofs.lemmas.List.{append-nil}
use Rattle.hq_value.specs.Causes.{Rose}
use Rattle.hq_value.specs.declared.entry.EntryKind.{EntryKind}
use Rattle.hq_value.specs.declared.entry.EntryKind.TheVariants as entry
use Rattle.hq_reply.specs.declared.fault.Fault.{Fault}
use Rattle.hq_transcript.specs.Step.{Way, Lent, Swept, All_out, written, got, AreGivenBack, mark_down}
use Rattle.hq_reply.specs.declared.fault.Fault.TheVariants as fault
use Rattle.hq_reply.specs.declared.reply.Reply.TheVariants as reply
use Rattle.hq_txn.specs.declared.state.TxnState.TheVariants as txn
use Rattle.hq_transcript.specs.Binds.{binds}
use Rattle.hq_transcript.specs.Examples.{row}
use Rattle.hq_transcript.proofs.ExampleWords.{lent}
use Rattle.hq_transcript.proofs.NoAnswers.{answer_or_error}
use Rattle.hq_turns.specs.Counts.{Later}
use Rattle.hq_turns.specs.Ends.{Does, Ended}
use Rattle.hq_turns.specs.Examples.{selecting, storing, refusing, failures, bare}

pub shows-own-row : Does binds true selecting selecting.entries (Some (reply.Rows (row 1 ∷ [])))
shows-own-row = (lent 0, refl, inl (refl, refl))

pub own-left-out : Does binds true selecting selecting.entries (Some (reply.Rows [])) → ⊥
own-left-out h = elim (answer_or_error true false (true ∷ []) _ _ _ h) [ inl w ↦ cc | inr w ↦ cc ]

pub own-twice : Does binds true selecting selecting.entries (Some (reply.Rows (row 1 ∷ row 1 ∷ []))) → ⊥
own-twice h = elim (answer_or_error true false (true ∷ []) _ _ _ h) [ inl w ↦ cc | inr w ↦ cc ]

pub no-look : Does binds true selecting [] (Some (reply.Rows (row 1 ∷ []))) → ⊥
no-look (choice, asc, inl whole) = cc
no-look (choice, asc, inr early) = cc

later : (m n : ℕ) → m ≤ n → Later (failures m) (failures n)
later m n h = record {
  nodes = refl;
  stores = by;
  checks = λ n. omega arith;
  hosts = λ n. omega arith;
  links = λ n. omega arith;
  troubles = λ n. omega arith;
}
  where
    by : (k : ℕ) → (failures m).stores k ≤ (failures n).stores k
    by zero = h
    by (suc k) = omega arith

pub store-failed : Ended binds true storing (Some (reply.Error fault.Store)) (bare txn.Idle) (failures 2)
store-failed = record {
  does = (lent 0, refl, inr (record { why = fault.Store; front = entry.Look ∷ entry.Lend 0 0 ∷ []; rest = entry.Commit ∷ []; back = entry.Back 0 0 false ∷ []; answer = refl; outside = tt; begins = refl; unfinished = refl; ends = refl; given_back = (false, refl) }));
  state = refl;
  lanes = refl;
  own = λ h. cc;
  cause = (0, omega arith);
  tails = omega arith;
  later = later 0 2 (omega arith);
}

pub no-cause : Ended binds true storing (Some (reply.Error fault.Store)) (bare txn.Idle) (failures 0) → ⊥
no-cause h = never h.cause.0 h.cause.1
  where
    never : (n : ℕ) → Rose ((failures 0).stores n) ((failures 0).stores n) → ⊥
    never zero r = omega (arith, r)
    never (suc n) r = omega (arith, r)

cons-eq : {x y : EntryKind} {xs ys : List EntryKind} → x ∷ xs ≡ y ∷ ys → (x ≡ y) × (xs ≡ ys)
cons-eq e = (cc, cc)

-- a lane that was lent is given back
no-back : (front back : List EntryKind) → entry.Look ∷ entry.Lend 0 0 ∷ [] ≡ front ++ back → AreGivenBack (got front) true fault.Store back → ⊥
no-back [] back e g = cc
no-back (x ∷ []) back e g =
    let p = cons-eq e in
    let h : back ≡ [] = subst (λ y. AreGivenBack (got (y ∷ [])) true fault.Store back) (sym p.0) g in
    cc
no-back (x ∷ y ∷ []) back e g =
    let p = cons-eq e in
    let q = cons-eq p.1 in
    let h = subst (λ z. AreGivenBack (got (entry.Look ∷ z ∷ [])) true fault.Store back) (sym q.0) (subst (λ z. AreGivenBack (got (z ∷ y ∷ [])) true fault.Store back) (sym p.0) g) in
    given h.1 (sym q.1)
  where
    given : {b : EntryKind} → back ≡ b ∷ [] → back ≡ [] → ⊥
    given h k = cc
no-back (x ∷ y ∷ z ∷ more) back e g =
    let q = cons-eq (cons-eq e).1 in
    none q.1
  where
    none : {b : EntryKind} {bs : List EntryKind} → [] ≡ b ∷ bs → ⊥
    none h = cc

-- a whole course answers no fault of a store
not-stored : (w : Way) → reply.Error fault.Store ≡ (written false 0 w true 1 (entry.Look ∷ [])).answer → ⊥
not-stored (Lent n) h = cc
not-stored (Swept n) h = cc
not-stored All_out h = cc

store-error : (why : Fault) → reply.Error fault.Store ≡ reply.Error why → fault.Store ≡ why
store-error why h = cc

pub not-given-back : Does binds true storing (entry.Look ∷ entry.Lend 0 0 ∷ []) (Some (reply.Error fault.Store)) → ⊥
not-given-back (choice, asc, inl whole) = not-stored choice.way whole.1
not-given-back (choice, asc, inr early) =
    let w = store-error early.why early.answer in
    no-back early.front early.back
    (subst (λ front. entry.Look ∷ entry.Lend 0 0 ∷ [] ≡ front ++ early.back) (append-nil early.front)
    (subst (λ v. entry.Look ∷ entry.Lend 0 0 ∷ [] ≡ (early.front ++ mark_down v) ++ early.back) (sym w) early.ends))
    (subst (λ v. AreGivenBack (got early.front) true v early.back) (sym w) early.given_back)

pub refused : Ended binds true refusing (Some (reply.Error fault.TransactionFailed)) (bare txn.Failed) (failures 0)
refused = record {
  does = (refl, inl refl);
  state = refl;
  lanes = refl;
  own = λ h. cc;
  cause = tt;
  tails = omega arith;
  later = later 0 0 (omega arith);
}

pub no-ask : Does binds true refusing (entry.Look ∷ []) (Some (reply.Error fault.TransactionFailed)) → ⊥
no-ask h = cc

pub not-idle : Ended binds true refusing (Some (reply.Error fault.TransactionFailed)) (bare txn.Idle) (failures 0) → ⊥
not-idle h = not-failed h.state
  where
    not-failed : txn.Idle ≡ txn.Failed → ⊥
    not-failed h = cc
