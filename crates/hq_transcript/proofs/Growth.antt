-- What one more entry, or one more piece, leaves of a run as it was.
use Rattle.std.proofs.Common.{◌≡◌, ◌⊎◌, ℕ, zero, suc, ◌+◌, ◌-◌, ◌<◌, ◌≤◌, Bool, true, false, ◌&&◌, Option, Some, None, List, [], ◌∷◌, ◌++◌, length, map, filter, find, take, drop, slice_get, nat_lt, nat_le, ◌==◌, if◌then◌else◌, cond, refl, sym, ◌∙◌, ap, subst, inl, inr, arith, append_assoc, length-take}
use Rattle.std.proofs.lemmas.List.{append-nil, take-append-le}
use Rattle.std.proofs.lemmas.List.Sums.{fold-append}
use Rattle.std.proofs.lemmas.List.Elements.{filter-append}
use Rattle.hq_sql.specs.declared.tree.Statement.TheVariants as statement
use Rattle.hq_value.specs.declared.entry.Entry.{Entry}
use Rattle.hq_value.specs.declared.entry.EntryKind.{EntryKind}
use Rattle.hq_value.specs.declared.entry.EntryKind.TheVariants as entry
use Rattle.hq_reply.specs.declared.reply.Reply.{Reply}
use Rattle.hq_reply.specs.declared.reply.Reply.TheVariants as reply
use Rattle.hq_value.specs.declared.kind.Kind.{Kind}
use Rattle.hq_value.specs.declared.value.Value.{Value}
use Rattle.hq_history.specs.declared.noted.Noted.{Noted}
use Rattle.hq_transcript.specs.History.{after_noted, replay_history}
use Rattle.hq_transcript.specs.Pieces.{Piece, Reads, is_snapshot, begins_snapshot}
use Rattle.hq_value.specs.Tables.{Definition}
use Rattle.hq_transcript.specs.Tables.{Put}
use Rattle.hq_transcript.specs.Binding.{Binder}
use Rattle.hq_transcript.specs.Sights.{Sight, Replay, Found, replay, start, after, after_kind, sight_at, is_look_for, is_of_statement, look_of, own_from, own_puts, rows_put, found_by, stands_before}
use Rattle.hq_transcript.specs.Looks.{looked, looks_by_place}
use Rattle.hq_transcript.specs.Step.{State, Open, Step, begun, state_after, state_by, lanes_after}
use Rattle.hq_transcript.specs.Transcript.{own, Standing, Run, IsStep, behind}

-- ---- one entry more

pub replay-push : (binds : Binder) (inputs : ℕ → List Piece) (nodes : ℕ) (log : List Entry) (e : Entry) → replay binds inputs nodes (log ++ e ∷ []) ≡ after binds inputs (replay binds inputs nodes log) e
replay-push binds inputs nodes log e = fold-append (after binds inputs) (start nodes) log (e ∷ [])

-- the sight that an entry adds to the changes
abbrev pub noted : Sight → EntryKind → List Sight
noted s entry.Create = s ∷ []
noted s entry.Alter = s ∷ []
noted s _ = []

looks-after_kind : (tables : List Definition) (puts : List Put) (s : Sight) (r : Replay) (e : EntryKind) → (after_kind tables puts s r e).looks ≡ r.looks ++ looked s e
looks-after_kind tables puts s r entry.Look = refl
looks-after_kind tables puts s r _ = sym (append-nil r.looks)

changes-after_kind : (tables : List Definition) (puts : List Put) (s : Sight) (r : Replay) (e : EntryKind) → (after_kind tables puts s r e).changes ≡ r.changes ++ noted s e
changes-after_kind tables puts s r entry.Create = refl
changes-after_kind tables puts s r entry.Alter = refl
changes-after_kind tables puts s r _ = sym (append-nil r.changes)

-- By places: a Look at a place sees what the log before that place leaves.
module _ (binds : Binder) (inputs : ℕ → List Piece) (nodes : ℕ) where
  pub looks_are : (before es : List Entry) → (replay binds inputs nodes (before ++ es)).looks ≡ (replay binds inputs nodes before).looks ++ looks_by_place binds inputs nodes before es
  looks_are before [] = ap (λ l. (replay binds inputs nodes l).looks) (append-nil before) ∙ sym (append-nil (replay binds inputs nodes before).looks)
  looks_are before (e ∷ es) =
      ap (λ l. (replay binds inputs nodes l).looks) (sym (append_assoc before (e ∷ []) es))
      ∙ looks_are (before ++ e ∷ []) es
      ∙ ap (λ r. r.looks ++ looks_by_place binds inputs nodes (before ++ e ∷ []) es) (replay-push binds inputs nodes before e)
      ∙ ap (λ l. l ++ looks_by_place binds inputs nodes (before ++ e ∷ []) es) (looks-after_kind _ _ (sight_at (replay binds inputs nodes before) e) (replay binds inputs nodes before) e.kind)
      ∙ append_assoc (replay binds inputs nodes before).looks _ _

pub looks_are_by_place : (binds : Binder) (inputs : ℕ → List Piece) (nodes : ℕ) (log : List Entry) → (replay binds inputs nodes log).looks ≡ looks_by_place binds inputs nodes [] log
looks_are_by_place binds inputs nodes log = looks_are binds inputs nodes [] log

pub history-push : (file_rows : List Kind → List ℕ → List (List Value)) (nodes : ℕ) (history : List Noted) (n : Noted)
    → replay_history file_rows nodes (history ++ n ∷ []) ≡ after_noted file_rows (replay_history file_rows nodes history) n
history-push file_rows nodes history n = fold-append (after_noted file_rows) (start nodes) history (n ∷ [])

-- what an entry of a later statement, or of another session, leaves as it was
pub Later : ℕ → ℕ → Entry → Type 0
Later k n e = ((e.session == k) ≡ false) ⊎ (n ≤ e.statement)

pub later_by : (k n : ℕ) (e : Entry) → ((e.session == k) ≡ false) ⊎ (n ≤ e.statement) → Later k n e
unfolding Later
later_by k n e h = h

and_false : (c d : Bool) → d ≡ false → (c && d) ≡ false
and_false true d h = h
and_false false d h = refl

not_same : (st i n : ℕ) → i < n → n ≤ st → (st == i) ≡ false
not_same st i n h le = grind arith

not_upto : (st i n : ℕ) → i < n → n ≤ st → nat_le st i ≡ false
not_upto st i n h le = grind arith

misses_snapshot : (snapshot : Bool) (b st i n : ℕ) → i < n → n ≤ st → (if snapshot then nat_lt b st && nat_le st i else st == i) ≡ false
misses_snapshot true b st i n h le = and_false (nat_lt b st) (nat_le st i) (not_upto st i n h le)
misses_snapshot false b st i n h le = not_same st i n h le

later_misses : (k n : ℕ) (e : Entry) → Later k n e → (test : Bool) → (n ≤ e.statement → test ≡ false) → ((e.session == k) && test) ≡ false
unfolding Later
later_misses k n e (inl other) test h = ap (λ c. c && test) other
later_misses k n e (inr le) test h = and_false (e.session == k) test (h le)

find-miss : (p : Sight → Bool) (xs : List Sight) (s : Sight) (e : EntryKind) → p s ≡ false → find p (xs ++ looked s e) ≡ find p xs
find-miss p [] s entry.Look h = ap (λ c. cond c (Some s) None) h
find-miss p [] s _ h = refl
find-miss p (x ∷ xs) s e h = ap (λ o. cond (p x) (Some x) o) (find-miss p xs s e h)

find-miss-noted : (p : Sight → Bool) (xs : List Sight) (s : Sight) (e : EntryKind) → p s ≡ false → find p (xs ++ noted s e) ≡ find p xs
find-miss-noted p [] s entry.Create h = ap (λ c. cond c (Some s) None) h
find-miss-noted p [] s entry.Alter h = ap (λ c. cond c (Some s) None) h
find-miss-noted p [] s _ h = refl
find-miss-noted p (x ∷ xs) s e h = ap (λ o. cond (p x) (Some x) o) (find-miss-noted p xs s e h)

-- Whatever a Create makes and a Commit publishes, so over a log with its inputs and over a history alike.
module _ (binds : Binder) (told : Bool) (k n : ℕ) (pieces : List Piece) (tables : List Definition) (published : List Put) (r : Replay) (e : Entry) (later : Later k n e) where
  -- what the entry leaves
  abbrev pub next : Replay
  next = after_kind tables published (sight_at r e) r e.kind

  look_of-push : (b : ℕ) (snapshot : Bool) (i : ℕ) → i < n → look_of k b snapshot i next.looks ≡ look_of k b snapshot i r.looks
  look_of-push b snapshot i h =
      ap (look_of k b snapshot i) (looks-after_kind _ _ (sight_at r e) r e.kind)
      ∙ find-miss (is_look_for k b snapshot i) r.looks (sight_at r e) e.kind
      (later_misses k n e later (if snapshot then nat_lt b e.statement && nat_le e.statement i else e.statement == i) (misses_snapshot snapshot b e.statement i n h))

  change-push : (i : ℕ) → i < n → find (is_of_statement k i) next.changes ≡ find (is_of_statement k i) r.changes
  change-push i h =
      ap (find (is_of_statement k i)) (changes-after_kind _ _ (sight_at r e) r e.kind)
      ∙ find-miss-noted (is_of_statement k i) r.changes (sight_at r e) e.kind (later_misses k n e later (e.statement == i) (not_same e.statement i n h))

  own_from-push : (b : ℕ) (snapshot : Bool) (m : ℕ) (left : List Piece) (own : List Put) → length left ≤ n - m
      → own_from binds k b snapshot next.looks m left own ≡ own_from binds k b snapshot r.looks m left own
  own_from-push b snapshot m [] own h = refl
  own_from-push b snapshot m (p ∷ left) own h =
      ap (λ look. own_from binds k b snapshot next.looks (suc m) left (own ++ rows_put binds look own p)) (look_of-push b snapshot m (omega arith))
      ∙ own_from-push b snapshot (suc m) left _ (omega arith)

  own_puts-push : (b m : ℕ) → m < n → own_puts binds k pieces next.looks b m ≡ own_puts binds k pieces r.looks b m
  own_puts-push zero m h = refl
  own_puts-push (suc b) m h =
      own_from-push (suc b) (is_snapshot (suc b) pieces) (suc (suc b)) (take (m - suc (suc b)) (drop (suc b) pieces)) []
      (omega (arith, length-take (m - suc (suc b)) (drop (suc b) pieces)))

  found_by-push : (b m : ℕ) → m < n → found_by binds k pieces next b m ≡ found_by binds k pieces r b m
  found_by-push b m h =
      let same_look : look_of k b (is_snapshot b pieces) m next.looks ≡ look_of k b (is_snapshot b pieces) m r.looks = look_of-push b (is_snapshot b pieces) m h in
      λ i. record { look = same_look i; stands = stands_before m (same_look i); change = change-push m h i; own = own_puts-push b m h i }

  pub own-push : (log : List Entry) (m : ℕ) → m < n → own (log ++ e ∷ []) k m ≡ own log k m
  own-push log m h =
      let test : Entry → Bool = λ x. (x.session == k) && (x.statement == m) in
      let kept : filter test (e ∷ []) ≡ [] = ap (λ c. cond c (e ∷ []) []) (later_misses k n e later (e.statement == m) (not_same e.statement m n h)) in
      ap (λ l. map (λ (x : Entry). x.kind) l) (filter-append test log (e ∷ []) ∙ ap (λ l. filter test log ++ l) kept ∙ append-nil (filter test log))

  -- what a session ran stays so
  pub run-push : (log : List Entry) (s : Standing) (left : List Piece) (replies : List (Option Reply)) (end : Standing) → length left ≤ n - s.next
      → Run binds told k pieces r log s left replies end → Run binds told k pieces next (log ++ e ∷ []) s left replies end
  run-push log s [] [] end h run = run
  run-push log s [] (a ∷ replies) end h run = absurd run
  run-push log s (p ∷ left) [] end h run = absurd run
  run-push log s (p ∷ left) (a ∷ replies) end h run =
      let now : s.next < n = omega arith in
      let same : own log k s.next ≡ own (log ++ e ∷ []) k s.next = sym (own-push log s.next now) in (
        subst (λ (f : Found). Step binds told f s.state s.lanes p (own (log ++ e ∷ []) k s.next) a) (sym (found_by-push (begun s.state) s.next now))
            (subst (λ es. Step binds told (found_by binds k pieces r (begun s.state) s.next) s.state s.lanes p es a) same run.0),
        subst (λ es. Run binds told k pieces next (log ++ e ∷ []) (record { next = suc s.next; state = state_after s.state s.next p a; lanes = lanes_after s.lanes es }) left replies end) same
            (run-push log (behind binds told k pieces r log s p a) left replies end (omega arith) run.1),
      )

-- ---- one piece more

-- a run goes on by one piece
pub run_goes_on : (binds : Binder) (told : Bool) (k : ℕ) (pieces : List Piece) (r : Replay) (log : List Entry) (s : Standing) (left : List Piece) (replies : List (Option Reply)) (mid : Standing) (p : Piece) (a : Option Reply)
    → Run binds told k pieces r log s left replies mid → IsStep binds told k pieces r log mid p a
    → Run binds told k pieces r log s (left ++ p ∷ []) (replies ++ a ∷ []) (behind binds told k pieces r log mid p a)
run_goes_on binds told k pieces r log s [] [] mid p a here step =
    subst (λ (x : Standing). IsStep binds told k pieces r log x p a × (behind binds told k pieces r log mid p a ≡ behind binds told k pieces r log x p a)) here (step, refl)
run_goes_on binds told k pieces r log s [] (y ∷ ys) mid p a run step = absurd run
run_goes_on binds told k pieces r log s (x ∷ xs) [] mid p a run step = absurd run
run_goes_on binds told k pieces r log s (x ∷ xs) (y ∷ ys) mid p a run step = (run.0, run_goes_on binds told k pieces r log (behind binds told k pieces r log s x y) xs ys mid p a run.1 step)

-- the standing that a run reaches counts its pieces
pub run-next : (binds : Binder) (told : Bool) (k : ℕ) (pieces : List Piece) (r : Replay) (log : List Entry) (s : Standing) (left : List Piece) (replies : List (Option Reply)) (end : Standing)
    → Run binds told k pieces r log s left replies end → end.next ≡ s.next + length left
run-next binds told k pieces r log s [] [] end run = ap (λ (x : Standing). x.next) run ∙ omega arith
run-next binds told k pieces r log s [] (a ∷ replies) end run = absurd run
run-next binds told k pieces r log s (p ∷ left) [] end run = absurd run
run-next binds told k pieces r log s (p ∷ left) (a ∷ replies) end run = omega (arith, run-next binds told k pieces r log (behind binds told k pieces r log s p a) left replies end run.1)

pub get-append : (xs ys : List Piece) (i : ℕ) → i < length xs → slice_get (xs ++ ys) i ≡ slice_get xs i
get-append [] ys i h = absurd (omega arith)
get-append (x ∷ xs) ys zero h = refl
get-append (x ∷ xs) ys (suc i) h = get-append xs ys i (omega arith)

is_snapshot-push : (pieces : List Piece) (p : Piece) (b : ℕ) → b ≤ length pieces → is_snapshot b (pieces ++ p ∷ []) ≡ is_snapshot b pieces
is_snapshot-push pieces p zero h = refl
is_snapshot-push pieces p (suc b) h = ap begins_snapshot (get-append pieces (p ∷ []) b (omega arith))

pub part-append : (n b : ℕ) (xs ys : List Piece) → b + n ≤ length xs → take n (drop b (xs ++ ys)) ≡ take n (drop b xs)
part-append n zero xs ys h = take-append-le n xs ys (omega arith)
part-append n (suc b) [] ys h = absurd (omega arith)
part-append n (suc b) (x ∷ xs) ys h = part-append n b xs ys (omega arith)

own_puts-pieces : (binds : Binder) (k : ℕ) (pieces : List Piece) (p : Piece) (looks : List Sight) (b m : ℕ) → b ≤ length pieces → m ≤ length pieces + 1
    → own_puts binds k (pieces ++ p ∷ []) looks b m ≡ own_puts binds k pieces looks b m
own_puts-pieces binds k pieces p looks zero m h i = refl
own_puts-pieces binds k pieces p looks (suc b) m h i =
    λ j. own_from binds k (suc b) (is_snapshot-push pieces p (suc b) h j) looks (suc (suc b)) (part-append (m - suc (suc b)) (suc b) pieces (p ∷ []) (omega arith) j) []

pub found_by-pieces : (binds : Binder) (k : ℕ) (pieces : List Piece) (p : Piece) (r : Replay) (b m : ℕ) → b ≤ length pieces → m ≤ length pieces + 1
    → found_by binds k (pieces ++ p ∷ []) r b m ≡ found_by binds k pieces r b m
found_by-pieces binds k pieces p r b m h i =
    let same : look_of k b (is_snapshot b (pieces ++ p ∷ [])) m r.looks ≡ look_of k b (is_snapshot b pieces) m r.looks = ap (λ s. look_of k b s m r.looks) (is_snapshot-push pieces p b h) in
    λ j. record { look = same j; stands = stands_before m (same j); change = find (is_of_statement k m) r.changes; own = own_puts-pieces binds k pieces p r.looks b m h i j }

begun_by : (state : State) (m : ℕ) (r : Reply) → begun state ≤ m → begun (state_by state m r) ≤ m
begun_by state m reply.Begun h = omega arith
begun_by state m reply.Committed h = omega arith
begun_by state m reply.RolledBack h = omega arith
begun_by (Open b) m (reply.Error why) h = h
begun_by state m _ h = h

pub begun_after : (state : State) (m : ℕ) (p : Piece) (a : Option Reply) → begun state ≤ m → begun (state_after state m p a) ≤ m
begun_after state m p None h = h
begun_after (Open b) m (Reads statement.Commit) (Some r) h = omega arith
begun_after state m p (Some r) h = begun_by state m r h

-- a run of the pieces so far is one of them with one more
pub run-pieces : (binds : Binder) (told : Bool) (k : ℕ) (pieces : List Piece) (p : Piece) (r : Replay) (log : List Entry) (s : Standing) (left : List Piece) (replies : List (Option Reply)) (end : Standing)
    → begun s.state < s.next → s.next + length left ≤ length pieces + 1 → Run binds told k pieces r log s left replies end → Run binds told k (pieces ++ p ∷ []) r log s left replies end
run-pieces binds told k pieces p r log s [] [] end b h run = run
run-pieces binds told k pieces p r log s [] (a ∷ replies) end b h run = absurd run
run-pieces binds told k pieces p r log s (x ∷ left) [] end b h run = absurd run
run-pieces binds told k pieces p r log s (x ∷ left) (a ∷ replies) end b h run = (
  subst (λ (f : Found). Step binds told f s.state s.lanes x (own log k s.next) a) (sym (found_by-pieces binds k pieces p r (begun s.state) s.next (omega arith) (omega arith))) run.0,
  run-pieces binds told k pieces p r log (behind binds told k pieces r log s x a) left replies end (omega (arith, begun_after s.state s.next x a (omega arith))) (omega arith) run.1,
)

-- where a run stands its transaction began before
pub run-begun : (binds : Binder) (told : Bool) (k : ℕ) (pieces : List Piece) (r : Replay) (log : List Entry) (s : Standing) (left : List Piece) (replies : List (Option Reply)) (end : Standing)
    → begun s.state < s.next → Run binds told k pieces r log s left replies end → begun end.state < end.next
run-begun binds told k pieces r log s [] [] end h run = subst (λ (x : Standing). begun x.state < x.next) (sym run) h
run-begun binds told k pieces r log s [] (a ∷ replies) end h run = absurd run
run-begun binds told k pieces r log s (p ∷ left) [] end h run = absurd run
run-begun binds told k pieces r log s (p ∷ left) (a ∷ replies) end h run =
    run-begun binds told k pieces r log (behind binds told k pieces r log s p a) left replies end (omega (arith, begun_after s.state s.next p a (omega arith))) run.1
