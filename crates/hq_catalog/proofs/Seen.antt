-- What a session sees of the places of lanes: those that it has. An entry of another session changes none of these.
use Rattle.std.proofs.Common.{◌≡◌, ◌≢◌, ◌⊎◌, ℕ, zero, suc, ◌==◌, ◌||◌, eqb, Bool, true, false, cond, List, [], ◌∷◌, map, Option, Some, None, option_map, slice_get, slice_set, get_or, refl, sym, ◌∙◌, ap, arith, inl, inr}
use Rattle.std.specs.List.{list_any}
use Rattle.std.proofs.lemmas.Bool.{eqb-true}
use Rattle.std.proofs.lemmas.Grind.{common_steps}
use Rattle.std.proofs.lemmas.List.Quantifiers.{position-Some}
use Rattle.std.proofs.Math.Seq.{map-set_same}
use Rattle.hq_value.specs.declared.entry.Entry.{Entry}
use Rattle.hq_value.specs.declared.entry.EntryKind.{EntryKind}
use Rattle.hq_value.specs.declared.entry.EntryKind.TheVariants as entry
use Rattle.hq_log.specs.declared.place.Place.{Place}
use Rattle.hq_log.specs.declared.place.Place.TheVariants.{Unborn, Clean, Dirty, Out, Sweeping}
use Rattle.hq_log.specs.declared.place.Next.TheVariants as which
use Rattle.hq_log.specs.Places.{is_unborn, is_clean, is_dirty, is_out_to, is_swept_by, is_held_by, passes_at, next_place}
use Rattle.hq_log.specs.Pools.{pool, places_after, home, committed}
use Rattle.hq_log.specs.Legal.{IsAt, IsLawful, IsFirstDirty, HasNoLane}
use Rattle.hq_log.proofs.Nexts.{next_place-Clean, next_place-Dirty, next_place-Unborn}
use Rattle.hq_catalog.specs.Stands.{is_restart}

pub is_same : (t : ℕ) → (t == t) ≡ true
is_same t = grind (arith, common_steps)

pub is_other : (u t : ℕ) → u ≢ t → (u == t) ≡ false
is_other u t h = grind (arith, common_steps)

-- what session k sees of a place: whether it has the lane itself
abbrev pub seen_by : ℕ → Place → Place
seen_by k Unborn = Clean
seen_by k Clean = Clean
seen_by k Dirty = Clean
seen_by k (Out j) = cond (k == j) (Out j) Clean
seen_by k (Sweeping j) = cond (k == j) (Sweeping j) Clean

held_out : (k j : ℕ) (b : Bool) → (k == j) ≡ b → is_held_by k (cond b (Out j) Clean) ≡ (k == j)
held_out k j true e = refl
held_out k j false e = sym e

held_sweeping : (k j : ℕ) (b : Bool) → (k == j) ≡ b → is_held_by k (cond b (Sweeping j) Clean) ≡ (k == j)
held_sweeping k j true e = refl
held_sweeping k j false e = sym e

held_seen : (k : ℕ) (p : Place) → is_held_by k (seen_by k p) ≡ is_held_by k p
held_seen k Unborn = refl
held_seen k Clean = refl
held_seen k Dirty = refl
held_seen k (Out j) = held_out k j (k == j) refl
held_seen k (Sweeping j) = held_sweeping k j (k == j) refl

out_out : (k j : ℕ) (b : Bool) → (k == j) ≡ b → is_out_to k (cond b (Out j) Clean) ≡ (k == j)
out_out k j true e = refl
out_out k j false e = sym e

out_sweeping : (k j : ℕ) (b : Bool) → is_out_to k (cond b (Sweeping j) Clean) ≡ false
out_sweeping k j true = refl
out_sweeping k j false = refl

out_seen : (k : ℕ) (p : Place) → is_out_to k (seen_by k p) ≡ is_out_to k p
out_seen k Unborn = refl
out_seen k Clean = refl
out_seen k Dirty = refl
out_seen k (Out j) = out_out k j (k == j) refl
out_seen k (Sweeping j) = out_sweeping k j (k == j)

swept_out : (k j : ℕ) (b : Bool) → is_swept_by k (cond b (Out j) Clean) ≡ false
swept_out k j true = refl
swept_out k j false = refl

swept_sweeping : (k j : ℕ) (b : Bool) → (k == j) ≡ b → is_swept_by k (cond b (Sweeping j) Clean) ≡ (k == j)
swept_sweeping k j true e = refl
swept_sweeping k j false e = sym e

swept_seen : (k : ℕ) (p : Place) → is_swept_by k (seen_by k p) ≡ is_swept_by k p
swept_seen k Unborn = refl
swept_seen k Clean = refl
swept_seen k Dirty = refl
swept_seen k (Out j) = swept_out k j (k == j)
swept_seen k (Sweeping j) = swept_sweeping k j (k == j) refl

mapped_any : (f : Place → Place) (test : Place → Bool) → ((p : Place) → test (f p) ≡ test p) → (ps : List Place) → list_any test (map f ps) ≡ list_any test ps
mapped_any f test h [] = refl
mapped_any f test h (p ∷ ps) = ap (λ b. b || list_any test (map f ps)) (h p) ∙ ap (λ b. test p || b) (mapped_any f test h ps)

same_any : (k : ℕ) (test : Place → Bool) → ((p : Place) → test (seen_by k p) ≡ test p) → (ps qs : List Place) → map (seen_by k) qs ≡ map (seen_by k) ps → list_any test qs ≡ list_any test ps
same_any k test h ps qs e = sym (mapped_any (seen_by k) test h qs) ∙ ap (list_any test) e ∙ mapped_any (seen_by k) test h ps

-- a session sees the same of two lists of places
abbrev pub SeesSame : ℕ → List Place → List Place → Type 0
SeesSame k ps qs = map (seen_by k) qs ≡ map (seen_by k) ps

pub same_held : (k : ℕ) (ps qs : List Place) → SeesSame k ps qs → list_any (is_held_by k) qs ≡ list_any (is_held_by k) ps
same_held k = same_any k (is_held_by k) (held_seen k)

pub same_out : (k : ℕ) (ps qs : List Place) → SeesSame k ps qs → list_any (is_out_to k) qs ≡ list_any (is_out_to k) ps
same_out k = same_any k (is_out_to k) (out_seen k)

pub same_swept : (k : ℕ) (ps qs : List Place) → SeesSame k ps qs → list_any (is_swept_by k) qs ≡ list_any (is_swept_by k) ps
same_swept k = same_any k (is_swept_by k) (swept_seen k)

get_map : (f : Place → Place) (ps : List Place) (n : ℕ) → slice_get (map f ps) n ≡ option_map f (slice_get ps n)
get_map f [] n = refl
get_map f (p ∷ ps) zero = refl
get_map f (p ∷ ps) (suc n) = get_map f ps n

out_from : (k j : ℕ) (b : Bool) → cond b (Out j) Clean ≡ Out k → Out j ≡ Out k
out_from k j true e = e
out_from k j false e = cc

no_out_from : (k j : ℕ) (b : Bool) → cond b (Sweeping j) Clean ≡ Out k → ⊥
no_out_from k j true e = cc
no_out_from k j false e = cc

is_out_from : (k : ℕ) (p : Place) → seen_by k p ≡ Out k → p ≡ Out k
is_out_from k Unborn e = cc
is_out_from k Clean e = cc
is_out_from k Dirty e = cc
is_out_from k (Out j) e = out_from k j (k == j) e
is_out_from k (Sweeping j) e = absurd (no_out_from k j (k == j) e)

sweeping_from : (k j : ℕ) (b : Bool) → cond b (Sweeping j) Clean ≡ Sweeping k → Sweeping j ≡ Sweeping k
sweeping_from k j true e = e
sweeping_from k j false e = cc

no_sweeping_from : (k j : ℕ) (b : Bool) → cond b (Out j) Clean ≡ Sweeping k → ⊥
no_sweeping_from k j true e = cc
no_sweeping_from k j false e = cc

is_sweeping_from : (k : ℕ) (p : Place) → seen_by k p ≡ Sweeping k → p ≡ Sweeping k
is_sweeping_from k Unborn e = cc
is_sweeping_from k Clean e = cc
is_sweeping_from k Dirty e = cc
is_sweeping_from k (Out j) e = absurd (no_sweeping_from k j (k == j) e)
is_sweeping_from k (Sweeping j) e = sweeping_from k j (k == j) e

found_from : (k : ℕ) (own : Place) → ((p : Place) → seen_by k p ≡ own → p ≡ own) → (o : Option Place) → option_map (seen_by k) o ≡ Some own → o ≡ Some own
found_from k own h None e = cc
found_from k own h (Some p) e = ap Some (h p (let x : seen_by k p ≡ own = cc in x))

at_same : (k : ℕ) (own : Place) → seen_by k own ≡ own → ((p : Place) → seen_by k p ≡ own → p ≡ own) → (ps qs : List Place) (n : ℕ) → SeesSame k ps qs → slice_get ps n ≡ Some own → slice_get qs n ≡ Some own
at_same k own self h ps qs n e at = found_from k own h (slice_get qs n)
    (sym (get_map (seen_by k) qs n) ∙ ap (λ xs. slice_get xs n) e ∙ get_map (seen_by k) ps n ∙ ap (option_map (seen_by k)) at ∙ ap Some self)

-- a lane that the session has to write stays so
pub out_same : (k : ℕ) (ps qs : List Place) (n : ℕ) → SeesSame k ps qs → slice_get ps n ≡ Some (Out k) → slice_get qs n ≡ Some (Out k)
out_same k = at_same k (Out k) (ap (λ b. cond b (Out k) Clean) (is_same k)) (is_out_from k)

-- and so does one that it has to sweep
pub swept_same : (k : ℕ) (ps qs : List Place) (n : ℕ) → SeesSame k ps qs → slice_get ps n ≡ Some (Sweeping k) → slice_get qs n ≡ Some (Sweeping k)
swept_same k = at_same k (Sweeping k) (ap (λ b. cond b (Sweeping k) Clean) (is_same k)) (is_sweeping_from k)

clean_seen : (k : ℕ) (p : Place) → is_clean p ≡ true → seen_by k p ≡ Clean
clean_seen k Unborn e = refl
clean_seen k Clean e = refl
clean_seen k Dirty e = refl
clean_seen k (Out j) e = cc
clean_seen k (Sweeping j) e = cc

dirty_seen : (k : ℕ) (p : Place) → is_dirty p ≡ true → seen_by k p ≡ Clean
dirty_seen k Unborn e = refl
dirty_seen k Clean e = refl
dirty_seen k Dirty e = refl
dirty_seen k (Out j) e = cc
dirty_seen k (Sweeping j) e = cc

unborn_seen : (k : ℕ) (p : Place) → is_unborn p ≡ true → seen_by k p ≡ Clean
unborn_seen k Unborn e = refl
unborn_seen k Clean e = refl
unborn_seen k Dirty e = refl
unborn_seen k (Out j) e = cc
unborn_seen k (Sweeping j) e = cc

passes_get : (test : Place → Bool) (ps : List Place) (n : ℕ) → passes_at test ps n ≡ true → test (get_or ps n Unborn) ≡ true
passes_get test [] n e = cc
passes_get test (p ∷ ps) zero e = e
passes_get test (p ∷ ps) (suc n) e = passes_get test ps n e

at_get : (ps : List Place) (n : ℕ) (p : Place) → slice_get ps n ≡ Some p → get_or ps n Unborn ≡ p
at_get [] n p e = cc
at_get (q ∷ ps) zero p e = cc
at_get (q ∷ ps) (suc n) p e = at_get ps n p e

out_other : (k j : ℕ) → j ≢ k → seen_by k (Out j) ≡ Clean
out_other k j d = ap (λ b. cond b (Out j) Clean) (is_other k j (λ e. d (sym e)))

sweeping_other : (k j : ℕ) → j ≢ k → seen_by k (Sweeping j) ≡ Clean
sweeping_other k j d = ap (λ b. cond b (Sweeping j) Clean) (is_other k j (λ e. d (sym e)))

home_seen : (k : ℕ) (clean : Bool) → seen_by k (home clean) ≡ Clean
home_seen k true = refl
home_seen k false = refl

-- one place of one table is set, of which the session has no lane before and behind
set_seen : (k t u n : ℕ) (q : Place) (ps us : List Place) (b : Bool) → (b ≡ true → ps ≡ us) → seen_by k q ≡ Clean → seen_by k (get_or us n Unborn) ≡ Clean → SeesSame k ps (cond b (slice_set ps n q) ps)
set_seen k t u n q ps us true same new old = map-set_same (seen_by k) ps n q Unborn (new ∙ sym (ap (λ xs. seen_by k (get_or xs n Unborn)) (same refl) ∙ old))
set_seen k t u n q ps us false same new old = refl

set_in : (k : ℕ) (log : List Entry) (t u n : ℕ) (q : Place) → seen_by k q ≡ Clean → seen_by k (get_or (pool log u) n Unborn) ≡ Clean → SeesSame k (pool log t) (cond (eqb t u) (slice_set (pool log t) n q) (pool log t))
set_in k log t u n q new old = set_seen k t u n q (pool log t) (pool log u) (eqb t u) (λ e. ap (pool log) (eqb-true t u e)) new old

committed_one : (k j i : ℕ) → j ≢ k → (b : Bool) → (j == i) ≡ b → seen_by k (cond b Clean (Out i)) ≡ seen_by k (Out i)
committed_one k j i d true e = sym (out_other k i (λ x. d (eqb-true j i e ∙ x)))
committed_one k j i d false e = refl

committed_seen : (k j : ℕ) → j ≢ k → (p : Place) → seen_by k (committed j p) ≡ seen_by k p
committed_seen k j d Unborn = refl
committed_seen k j d Clean = refl
committed_seen k j d Dirty = refl
committed_seen k j d (Out i) = committed_one k j i d (j == i) refl
committed_seen k j d (Sweeping i) = refl

all_committed : (k j : ℕ) → j ≢ k → (ps : List Place) → SeesSame k ps (map (committed j) ps)
all_committed k j d [] = refl
all_committed k j d (p ∷ ps) = ap (λ q. q ∷ map (seen_by k) (map (committed j) ps)) (committed_seen k j d p) ∙ ap (λ qs. seen_by k p ∷ qs) (all_committed k j d ps)

lend_seen : (k : ℕ) (log : List Entry) (u n : ℕ) → (next_place (pool log u) ≡ which.Clean n) ⊎ (next_place (pool log u) ≡ which.Unborn n) → seen_by k (get_or (pool log u) n Unborn) ≡ Clean
lend_seen k log u n (inl e) = clean_seen k (get_or (pool log u) n Unborn) (passes_get is_clean (pool log u) n (next_place-Clean (pool log u) n e).0)
lend_seen k log u n (inr e) = unborn_seen k (get_or (pool log u) n Unborn) (passes_get is_unborn (pool log u) n (next_place-Unborn (pool log u) n e).0.0)

sweep_seen : (k j : ℕ) (log : List Entry) (u n : ℕ) → (HasNoLane log j u × (next_place (pool log u) ≡ which.Dirty n)) ⊎ IsFirstDirty log u n → seen_by k (get_or (pool log u) n Unborn) ≡ Clean
sweep_seen k j log u n (inl h) = dirty_seen k (get_or (pool log u) n Unborn) (passes_get is_dirty (pool log u) n (next_place-Dirty (pool log u) n h.1).0.0)
sweep_seen k j log u n (inr h) = dirty_seen k (get_or (pool log u) n Unborn) (position-Some is_dirty (pool log u) n Unborn h.1).1

back_seen : (k j : ℕ) → j ≢ k → (log : List Entry) (u n : ℕ) → IsAt log u n (Out j) ⊎ IsAt log u n (Sweeping j) → seen_by k (get_or (pool log u) n Unborn) ≡ Clean
back_seen k j d log u n (inl h) = ap (seen_by k) (at_get (pool log u) n (Out j) h) ∙ out_other k j d
back_seen k j d log u n (inr h) = ap (seen_by k) (at_get (pool log u) n (Sweeping j) h) ∙ sweeping_other k j d

-- an entry of another session changes nothing of what the session sees
pub entry_seen : (nodes k j : ℕ) → j ≢ k → (log : List Entry) (kind : EntryKind) → IsLawful nodes log j kind → is_restart kind ≡ false → (t : ℕ) → SeesSame k (pool log t) (places_after t (pool log t) j kind)
entry_seen nodes k j d log (entry.Lend u n) law runs t = set_in k log t u n (Out j) (out_other k j d) (lend_seen k log u n law.1)
entry_seen nodes k j d log (entry.Sweep u n) law runs t = set_in k log t u n (Sweeping j) (sweeping_other k j d) (sweep_seen k j log u n law)
entry_seen nodes k j d log (entry.Adopt u n) law runs t = set_in k log t u n (Out j) (out_other k j d) (ap (seen_by k) (at_get (pool log u) n (Sweeping j) law) ∙ sweeping_other k j d)
entry_seen nodes k j d log (entry.Back u n clean) law runs t = set_in k log t u n (home clean) (home_seen k clean) (back_seen k j d log u n law)
entry_seen nodes k j d log entry.Commit law runs t = all_committed k j d (pool log t)
entry_seen nodes k j d log entry.Look law runs t = refl
entry_seen nodes k j d log entry.Create law runs t = refl
entry_seen nodes k j d log (entry.Full u) law runs t = refl
entry_seen nodes k j d log entry.Idle law runs t = refl
entry_seen nodes k j d log (entry.Mark node up) law runs t = refl
entry_seen nodes k j d log entry.Alter law runs t = refl
entry_seen nodes k j d log entry.Restart law runs t = cc
