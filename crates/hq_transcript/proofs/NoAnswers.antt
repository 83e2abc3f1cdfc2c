-- What a wrong body would answer is no step.
use Rattle.std.proofs.Common.{◌≡◌, ◌⊎◌, ℕ, Bool, true, false, Option, Some, None, List, [], ◌∷◌, ◌++◌, refl, sym, ◌∙◌, ap, subst, inl, inr, codes, ◌==◌, ◌||◌, if◌then◌else◌, true≢false, eqb, get_or}
use Rattle.std.specs.Fmt.{digits}
use denote.Hole.Carrier.{hidden}
use Rattle.hq_algebra.specs.declared.expr.Expr.TheBlock.{hidden-the_row-Expr-0}
use Rattle.hq_expr.specs.declared.tree.SqlExpr.TheBlock.{hidden-the_row-SqlExpr-0}
use Rattle.hq_expr.specs.declared.tree.SqlExpr.TheVariants as e
use Rattle.hq_reply.specs.declared.fault.Fault.{Fault}
use Rattle.hq_reply.specs.declared.fault.Fault.TheVariants as fault
use Rattle.hq_value.specs.declared.entry.Entry.{Entry}
use Rattle.hq_value.specs.declared.entry.EntryKind.{EntryKind}
use Rattle.hq_value.specs.declared.entry.EntryKind.TheVariants as entry
use Rattle.hq_reply.specs.declared.reply.Reply.{Reply}
use Rattle.hq_reply.specs.declared.reply.Reply.TheVariants as reply
use Rattle.hq_bind.specs.Findings.{of_aggregate, of_two, of_compared, of_not, of_null_test}
use Rattle.hq_transcript.specs.Pieces.{Piece, Blank}
use Rattle.hq_transcript.specs.Binds.{binds}
use Rattle.hq_transcript.specs.Sights.{replay, found_by}
use Rattle.hq_transcript.specs.Step.{Idle, Open, Choice, Way, Lent, Swept, All_out, written, Step, Course, Follows, mark_down, IsOutside, is_in_use, is_mark_up, over_nodes, No_lane, got, got_by, AreGivenBack, AreBacks}
use Rattle.hq_transcript.specs.Transcript.{Transcript, Standing, own, at_start, in_order, Ended, Run}
use Rattle.hq_transcript.specs.Examples.{at, alone, int_column, create, insert, source, item, from, select, int, row, begin, begin_snapshot, commit, rollback, make_t, one, all_t, count_t, a}
use Rattle.std.specs.List.{list_any}
use Rattle.std.proofs.lemmas.List.{append-nil}
use Rattle.std.proofs.Math.Dec.{T, eqb_refl}
use Rattle.hq_reply.specs.Texts.{replies_text}
use Rattle.hq_transcript.proofs.ExampleWords.{told, counted}
use Rattle.hq_transcript.specs.Scripts.{input_filled, log_filled, inputs_snapshot, log_snapshot}
use Rattle.hq_transcript.proofs.ExamplesOfStatements.{input_undone, log_undone}
use Rattle.hq_transcript.proofs.ExamplesOfSessions.{input_segments, log_segments, inputs_torn, log_torn, inputs_writers, log_writers}

-- a course's answer, or an error from outside
abbrev pub ByCourse : (Choice → Course) → Reply → Type 0
ByCourse course r = ((choice : Choice) × (r ≡ (course choice).answer)) ⊎ ((why : Fault) × (r ≡ reply.Error why))

pub answer_or_error : (told idle : Bool) (up : List Bool) (course : Choice → Course) (entries : List EntryKind) (r : Reply) → Follows told idle up course entries r → ByCourse course r
answer_or_error told idle up course entries r (choice, asc, inl whole) = inl (choice, whole.1)
answer_or_error told idle up course entries r (choice, asc, inr early) = inr (early.why, early.answer)

-- a row of another number
pub wrong_rows : Step binds true (found_by binds 1 input_filled (replay binds (alone input_filled) 1 log_filled) 0 3) Idle [] all_t (own log_filled 1 3) (Some (reply.Rows (row 1 ∷ row 2 ∷ row 3 ∷ []))) → ⊥
wrong_rows h = elim (answer_or_error true false (true ∷ []) _ _ _ h) [ inl w ↦ cc | inr w ↦ cc ]

-- a snapshot's later count moves
pub moving_snapshot : Step binds true (found_by binds 1 (inputs_snapshot 1) (replay binds inputs_snapshot 1 log_snapshot) 1 3) (Open 1) [] count_t (own log_snapshot 1 3) (Some (counted 2)) → ⊥
unfolding hidden-the_row-Expr-0 hidden-the_row-SqlExpr-0 hidden of_aggregate of_two of_compared of_not of_null_test
moving_snapshot h = elim (answer_or_error true false (true ∷ []) _ _ _ h) [ inl w ↦ cc | inr w ↦ cc ]

-- own rows left out, and counted twice
pub own_left_out : Step binds true (found_by binds 1 input_undone (replay binds (alone input_undone) 1 log_undone) 3 5) (Open 3) ((0, 0) ∷ []) count_t (own log_undone 1 5) (Some (counted 1)) → ⊥
unfolding hidden-the_row-Expr-0 hidden-the_row-SqlExpr-0 hidden of_aggregate of_two of_compared of_not of_null_test
own_left_out h = elim (answer_or_error true false (true ∷ []) _ _ _ h) [ inl w ↦ cc | inr w ↦ cc ]

pub own_twice : Step binds true (found_by binds 1 input_undone (replay binds (alone input_undone) 1 log_undone) 3 5) (Open 3) ((0, 0) ∷ []) count_t (own log_undone 1 5) (Some (counted 3)) → ⊥
unfolding hidden-the_row-Expr-0 hidden-the_row-SqlExpr-0 hidden of_aggregate of_two of_compared of_not of_null_test
own_twice h = elim (answer_or_error true false (true ∷ []) _ _ _ h) [ inl w ↦ cc | inr w ↦ cc ]

-- outside a snapshot a second SELECT keeps the first look: it has no Look entry of its own, or its rows are not those of its Look
abbrev pub inputs_looks : ℕ → List Piece
unfolding hidden-the_row-SqlExpr-0 hidden
inputs_looks k = if k == 1 then begin ∷ count_t ∷ count_t ∷ [] else (if k == 2 then make_t ∷ one 5 ∷ [] else [])

abbrev pub first_looks : List Entry
first_looks = at 2 1 entry.Create ∷ at 1 2 entry.Look ∷ at 2 2 entry.Look ∷ at 2 2 (entry.Lend 0 0) ∷ at 2 2 entry.Commit ∷ []

pub old_look : Step binds true (found_by binds 1 (inputs_looks 1) (replay binds inputs_looks 1 (first_looks ++ at 1 3 entry.Look ∷ [])) 1 3) (Open 1) [] count_t (entry.Look ∷ []) (Some (counted 0)) → ⊥
unfolding hidden-the_row-Expr-0 hidden-the_row-SqlExpr-0 hidden of_aggregate of_two of_compared of_not of_null_test
old_look h = elim (answer_or_error true false (true ∷ []) _ _ _ h) [ inl w ↦ cc | inr w ↦ cc ]

pub no_look : Step binds true (found_by binds 1 (inputs_looks 1) (replay binds inputs_looks 1 first_looks) 1 3) (Open 1) [] count_t [] (Some (counted 0)) → ⊥
unfolding hidden-the_row-Expr-0 hidden-the_row-SqlExpr-0 hidden of_aggregate of_two of_compared of_not of_null_test
no_look h = cc

-- one lane of two is published: the second table's row is missed behind the COMMIT
abbrev pub s : List ℕ
s = codes "s"

abbrev pub count_s : Piece
unfolding hidden-the_row-SqlExpr-0 hidden
count_s = select (from (item e.CountAll ∷ []) (source s ∷ []))

abbrev pub input_two : List Piece
unfolding hidden-the_row-SqlExpr-0 hidden
input_two = make_t ∷ create s (int_column a ∷ []) [] ∷ begin ∷ one 1 ∷ insert s ((int 1 ∷ []) ∷ []) ∷ commit ∷ count_s ∷ []

abbrev pub log_two : List Entry
log_two =
    at 1 1 entry.Create ∷ at 1 2 entry.Create ∷ at 1 4 entry.Look ∷ at 1 4 (entry.Lend 0 0) ∷ at 1 5 entry.Look ∷ at 1 5 (entry.Lend 1 0)
    ∷ at 1 6 entry.Commit ∷ at 1 7 entry.Look ∷ []

pub one_lane_of_two : Step binds true (found_by binds 1 input_two (replay binds (alone input_two) 1 log_two) 0 7) Idle [] count_s (own log_two 1 7) (Some (counted 0)) → ⊥
unfolding hidden-the_row-Expr-0 hidden-the_row-SqlExpr-0 hidden of_aggregate of_two of_compared of_not of_null_test
one_lane_of_two h = elim (answer_or_error true false (true ∷ []) _ _ _ h) [ inl w ↦ cc | inr w ↦ cc ]

-- 58030 where nothing was asked of a store, and beside a Commit
pub store_at_begin : Step binds true (found_by binds 1 (inputs_writers 1) (replay binds inputs_writers 1 log_writers) 0 1) Idle [] begin [] (Some (reply.Error fault.Store)) → ⊥
store_at_begin h = cc

pub store_at_create : Step binds true (found_by binds 1 input_filled (replay binds (alone input_filled) 1 log_filled) 0 1) Idle [] make_t (own log_filled 1 1) (Some (reply.Error fault.Store)) → ⊥
store_at_create h = cc

pub store_at_empty_commit : Step binds true (found_by binds 1 (inputs_writers 1) (replay binds inputs_writers 1 log_writers) 1 3) (Open 1) [] commit [] (Some (reply.Error fault.Store)) → ⊥
store_at_empty_commit h = cc

pub store_beside_commit : Step binds true (found_by binds 1 (inputs_writers 1) (replay binds inputs_writers 1 log_writers) 1 3) (Open 1) ((0, 0) ∷ []) commit (own log_writers 1 3) (Some (reply.Error fault.Store)) → ⊥
store_beside_commit (inl h) = cc
store_beside_commit (inr h) = h.0

-- a segment is blamed only where it is marked down for it
no_mark : (front back : List EntryKind) → entry.Look ∷ [] ≡ front ++ entry.Mark 0 false ∷ [] ++ back → ⊥
no_mark [] back e = cc
no_mark (x ∷ []) back e = cc
no_mark (x ∷ y ∷ front) back e = cc

pub host_without_mark : Step binds true (found_by binds 1 input_segments (replay binds (alone input_segments) 3 log_segments) 0 3) Idle [] all_t (own log_segments 1 3) (Some (reply.Error (fault.Host 0))) → ⊥
host_without_mark (choice, asc, inl whole) = cc
host_without_mark (choice, asc, inr early) =
    let why : early.why ≡ fault.Host 0 = cc in
    no_mark early.front early.back (subst (λ f. entry.Look ∷ [] ≡ early.front ++ mark_down f ++ early.back) why early.ends)

-- a bad block where the store tells its bytes
pub bad_block_told : Step binds true (found_by binds 1 input_filled (replay binds (alone input_filled) 1 log_filled) 0 3) Idle [] all_t (own log_filled 1 3) (Some (reply.Error fault.BadBlock)) → ⊥
bad_block_told (choice, asc, inl whole) = cc
bad_block_told (choice, asc, inr early) =
    let why : early.why ≡ fault.BadBlock = cc in
    let told : true ≡ false = subst (λ f. IsOutside true (is_in_use (true ∷ []) early.front) f) why early.outside in cc

-- Whole bytes that no session writes: row 1's, with another number in them
not_itself : (n : ℕ) → eqb n n ≡ false → ⊥
not_itself n h = subst T h (eqb_refl n)

differs : (xs ys : List ℕ) (i : ℕ) → xs ≡ ys → eqb (get_or xs i 0) (get_or ys i 0) ≡ false → ⊥
differs xs ys i same apart =
    let at_i : get_or xs i 0 ≡ get_or ys i 0 = ap (λ l. get_or l i 0) same in
    not_itself (get_or ys i 0) (subst (λ n. eqb n (get_or ys i 0) ≡ false) at_i apart)

abbrev IsOrError : Reply → Reply → Type 0
IsOrError given r = (r ≡ given) ⊎ ((why : Fault) × (r ≡ reply.Error why))

by_way : (w : Way) (before : List EntryKind) (r : Reply) → r ≡ (written false 0 w true 3 before).answer → IsOrError (reply.Inserted 3) r
by_way (Lent n) before r h = inl h
by_way (Swept n) before r h = inl h
by_way All_out before r h = inr (fault.TooManyWriters, h)

abbrev pub wrong : List ℕ
wrong = codes "CREATE TABLE\nINSERT 3\n1\n2\n3\nSELECT 3\n"

abbrev texts : List Reply → List ℕ
texts replies = replies_text (told replies)

abbrev Ran : List Reply → Standing → Type 0
Ran replies end = Run binds true 1 input_filled (replay binds (alone input_filled) 1 log_filled) log_filled at_start input_filled (told replies) end

third : (c : Reply) (end : Standing) → Ran (reply.Created ∷ reply.Inserted 3 ∷ c ∷ []) end → wrong ≡ texts (reply.Created ∷ reply.Inserted 3 ∷ c ∷ []) → ⊥
unfolding digits
third c end run e =
    elim (answer_or_error true false (true ∷ []) _ _ c run.1.1.0) [
      | inl w ↦ differs wrong (texts (reply.Created ∷ reply.Inserted 3 ∷ reply.Rows (row 1 ∷ row 2 ∷ row 2 ∷ []) ∷ [])) 26
          (e ∙ ap (λ x. texts (reply.Created ∷ reply.Inserted 3 ∷ x ∷ [])) w.1) refl
      | inr w ↦ differs wrong (texts (reply.Created ∷ reply.Inserted 3 ∷ reply.Error w.0 ∷ [])) 22
          (e ∙ ap (λ x. texts (reply.Created ∷ reply.Inserted 3 ∷ x ∷ [])) w.1) refl
    ]

error_second : (b c : Reply) (why : Fault) → b ≡ reply.Error why → wrong ≡ texts (reply.Created ∷ b ∷ c ∷ []) → ⊥
error_second b c why is_b e = differs wrong (texts (reply.Created ∷ reply.Error why ∷ c ∷ [])) 13 (e ∙ ap (λ x. texts (reply.Created ∷ x ∷ c ∷ [])) is_b) refl

second : (b c : Reply) (end : Standing) → Ran (reply.Created ∷ b ∷ c ∷ []) end → wrong ≡ texts (reply.Created ∷ b ∷ c ∷ []) → ⊥
second b c end run e =
    elim (answer_or_error true true (true ∷ []) _ _ b run.1.0) [
      | inl w ↦ elim (by_way (w.0.way) (entry.Look ∷ []) b w.1) [
        | inl is_b ↦ third c end (subst (λ x. Ran (reply.Created ∷ x ∷ c ∷ []) end) is_b run) (subst (λ x. wrong ≡ texts (reply.Created ∷ x ∷ c ∷ [])) is_b e)
        | inr v ↦ error_second b c v.0 v.1 e
      ]
      | inr w ↦ error_second b c w.0 w.1 e
    ]

no_other_number_by : (replies : List (Option Reply)) → Ended binds true 1 (replay binds (alone input_filled) 1 log_filled) log_filled input_filled replies → wrong ≡ replies_text replies → ⊥
no_other_number_by [] h e = h.1.0
no_other_number_by (None ∷ _) h e = h.1.0.0
no_other_number_by (Some a ∷ []) h e = h.1.0.1
no_other_number_by (Some a ∷ None ∷ _) h e = h.1.0.1.0
no_other_number_by (Some a ∷ Some b ∷ []) h e = h.1.0.1.1
no_other_number_by (Some a ∷ Some b ∷ None ∷ _) h e = h.1.0.1.1.0
no_other_number_by (Some a ∷ Some b ∷ Some c ∷ d ∷ more) h e = h.1.0.1.1.1
no_other_number_by (Some a ∷ Some b ∷ Some c ∷ []) h e =
    let is_a : a ≡ reply.Created = h.1.0.0.1 in
    second b c h.0 (subst (λ x. Ran (x ∷ b ∷ c ∷ []) h.0) is_a h.1.0) (subst (λ x. wrong ≡ texts (x ∷ b ∷ c ∷ [])) is_a e)

pub no_other_number : Transcript binds true 1 (alone input_filled) log_filled 1 input_filled wrong → ⊥
no_other_number h = no_other_number_by h.0 h.1 h.2

-- a host that did not answer is not blamed: where every node was marked down, HQ001 names one that answered in this statement
abbrev pub all_down : List Entry
all_down = at 1 1 entry.Create ∷ at 1 2 entry.Look ∷ at 1 2 (entry.Mark 0 false) ∷ at 1 3 entry.Look ∷ at 1 3 (entry.Mark 0 false) ∷ []

no_answer : (front back : List EntryKind) → entry.Look ∷ entry.Mark 0 false ∷ [] ≡ front ++ entry.Mark 0 false ∷ [] ++ back → list_any (is_mark_up 0) front ≡ true → ⊥
no_answer [] back e h = cc
no_answer (x ∷ []) back e h = let first : x ≡ entry.Look = cc in let none : false ≡ true = subst (λ y. (is_mark_up 0 y || false) ≡ true) first h in cc
no_answer (x ∷ y ∷ []) back e h = cc
no_answer (x ∷ y ∷ z ∷ front) back e h = cc

is_host : Reply → Bool
is_host (reply.Error (fault.Host n)) = true
is_host _ = false

no_host : (ns : List ℕ) → reply.Error (fault.Host 0) ≡ (over_nodes (entry.Look ∷ []) (false ∷ []) ns (λ before. record { entries = before; answer = reply.Rows [] })).answer → ⊥
unfolding is_host
no_host [] e = true≢false (ap is_host e)
no_host (n ∷ ns) e = true≢false (ap is_host e)

pub blamed_unanswered : Step binds true (found_by binds 1 input_filled (replay binds (alone input_filled) 1 all_down) 0 3) Idle [] all_t (entry.Look ∷ entry.Mark 0 false ∷ []) (Some (reply.Error (fault.Host 0))) → ⊥
blamed_unanswered (choice, asc, inl whole) = no_host choice.answered whole.1
blamed_unanswered (choice, asc, inr early) =
    let why : early.why ≡ fault.Host 0 = cc in
    let used : list_any (is_mark_up 0) early.front ≡ true = subst (λ f. IsOutside true (is_in_use (false ∷ []) early.front) f) why early.outside in
    no_answer early.front early.back (subst (λ f. entry.Look ∷ entry.Mark 0 false ∷ [] ≡ early.front ++ mark_down f ++ early.back) why early.ends) used

-- in a snapshot a later transaction's Look is none of an earlier statement: without a Look of its own it answers only 53200
abbrev pub input_unlooked : List Piece
unfolding hidden-the_row-SqlExpr-0 hidden
input_unlooked = begin_snapshot ∷ count_t ∷ rollback ∷ count_t ∷ []

abbrev pub log_unlooked : List Entry
log_unlooked = at 1 4 entry.Look ∷ []

pub store_before_look : Step binds true (found_by binds 1 input_unlooked (replay binds (alone input_unlooked) 1 log_unlooked) 1 2) (Open 1) [] count_t (own log_unlooked 1 2) (Some (reply.Error fault.Store)) → ⊥
unfolding hidden-the_row-Expr-0 hidden-the_row-SqlExpr-0 hidden of_aggregate of_two of_compared of_not of_null_test
store_before_look h = cc

-- want of memory is no answer to BEGIN
pub no_memory_at_begin : Step binds true (found_by binds 1 (inputs_writers 1) (replay binds inputs_writers 1 log_writers) 0 1) Idle [] begin [] (Some (reply.Error fault.NoMemory)) → ⊥
no_memory_at_begin h = cc

-- a link is not blamed whose node was marked down at the look
pub link_not_in_use : Step binds true (found_by binds 1 input_segments (replay binds (alone input_segments) 3 log_segments) 0 3) Idle [] all_t (own log_segments 1 3) (Some (reply.Error (fault.LinkLost 1))) → ⊥
link_not_in_use (choice, asc, inl whole) = cc
link_not_in_use (choice, asc, inr early) =
    let why : early.why ≡ fault.LinkLost 1 = cc in
    let used : false ≡ true = subst (λ f. IsOutside true (is_in_use (true ∷ false ∷ true ∷ []) early.front) f) why early.outside in
    true≢false (sym used)

-- no node is marked up where one was up at the look
pub mark_beside_a_node : Step binds true (found_by binds 1 input_filled (replay binds (alone input_filled) 1 log_filled) 0 3) Idle [] all_t (entry.Look ∷ entry.Mark 0 true ∷ []) (Some (reply.Rows (row 1 ∷ row 2 ∷ row 2 ∷ []))) → ⊥
mark_beside_a_node (choice, asc, inl whole) = cc
mark_beside_a_node (choice, asc, inr early) = cc

-- outside a transaction a lane that was got goes back
no_store : (w : Way) (before : List EntryKind) → reply.Error fault.Store ≡ (written false 0 w true 1 before).answer → ⊥
no_store (Lent n) before h = cc
no_store (Swept n) before h = cc
no_store All_out before h = cc

kept : (front back : List EntryKind) → entry.Look ∷ entry.Lend 0 0 ∷ [] ≡ front ++ back → AreGivenBack (got front) true fault.Store back → ⊥
kept [] back e h = cc
kept (x ∷ []) back e h =
    let first : x ≡ entry.Look = cc in
    let none : back ≡ [] = subst (λ y. AreGivenBack (got_by No_lane y) true fault.Store back) first h in
    cc
kept (x ∷ y ∷ []) back e h =
    let first : x ≡ entry.Look = cc in
    let second : y ≡ entry.Lend 0 0 = cc in
    let given : AreGivenBack (got_by (got_by No_lane entry.Look) (entry.Lend 0 0)) true fault.Store back =
    subst (λ z. AreGivenBack (got_by (got_by No_lane entry.Look) z) true fault.Store back) second (subst (λ z. AreGivenBack (got_by (got_by No_lane z) y) true fault.Store back) first h) in
    let one : back ≡ entry.Back 0 0 given.0 ∷ [] = given.1 in
    cc
kept (x ∷ y ∷ z ∷ front) back e h = cc

pub lane_kept : Step binds true (found_by binds 2 (inputs_torn 2) (replay binds inputs_torn 1 log_torn) 0 1) Idle [] (one 1) (entry.Look ∷ entry.Lend 0 0 ∷ []) (Some (reply.Error fault.Store)) → ⊥
lane_kept (choice, asc, inl whole) = no_store choice.way (entry.Look ∷ []) whole.1
lane_kept (choice, asc, inr early) =
    let why : early.why ≡ fault.Store = cc in
    let ends : entry.Look ∷ entry.Lend 0 0 ∷ [] ≡ (early.front ++ []) ++ early.back = subst (λ f. entry.Look ∷ entry.Lend 0 0 ∷ [] ≡ early.front ++ mark_down f ++ early.back) why early.ends in
    kept early.front early.back (ends ∙ ap (λ l. l ++ early.back) (append-nil early.front)) (subst (λ f. AreGivenBack (got early.front) true f early.back) why early.given_back)

-- lanes go back in the order in which they were lent
pub backs_turned_round : Step binds true (found_by binds 1 input_two (replay binds (alone input_two) 1 log_two) 3 6) (Open 3) ((0, 0) ∷ (1, 0) ∷ []) rollback (entry.Back 1 0 true ∷ entry.Back 0 0 true ∷ []) (Some reply.RolledBack) → ⊥
unfolding hidden-the_row-SqlExpr-0 hidden
backs_turned_round h = let apart : ◌≡◌ {A = ℕ} 1 0 = h.0.0 in cc

-- a session that ends gives its lanes back
abbrev pub input_open : List Piece
input_open = begin ∷ one 1 ∷ []

abbrev pub inputs_open : ℕ → List Piece
inputs_open k = if k == 1 then input_open else (if k == 2 then make_t ∷ [] else [])

abbrev pub log_open : List Entry
log_open = at 2 1 entry.Create ∷ at 1 2 entry.Look ∷ at 1 2 (entry.Lend 0 0) ∷ []

pub open_at_the_end : Ended binds true 1 (replay binds inputs_open 1 log_open) log_open input_open (told (reply.Begun ∷ reply.Inserted 1 ∷ [])) → ⊥
open_at_the_end h = subst (λ (s : Standing). AreBacks s.lanes (own log_open 1 s.next)) h.1.0.1.1 h.2

-- a session has no entries but those of its statements
pub entry_of_no_statement : Ended binds true 1 (replay binds (alone (Blank ∷ Blank ∷ [])) 1 (at 1 9 entry.Look ∷ [])) (at 1 9 entry.Look ∷ []) (Blank ∷ Blank ∷ []) (None ∷ None ∷ []) → ⊥
entry_of_no_statement h =
    let order : false ≡ true = subst (λ (s : Standing). in_order 1 s.next (at 1 9 entry.Look ∷ []) ≡ true) h.1.0.1.1 h.1.1 in
    true≢false (sym order)
