-- What one entry more changes of what a statement finds.
use Rattle.std.proofs.Common.{◌≡◌, ◌⊎◌, inl, inr, ℕ, zero, suc, ◌+◌, ◌-◌, ◌<◌, ◌≤◌, Bool, true, false, ◌&&◌, Option, Some, None, List, [], ◌∷◌, ◌++◌, length, map, filter, find, take, drop, nat_lt, nat_le, ◌==◌, if◌then◌else◌, cond, refl, sym, ◌∙◌, ap, subst, arith, length-take}
use Rattle.std.proofs.lemmas.List.{append-nil}
use Rattle.std.proofs.lemmas.List.Elements.{filter-append}
use Rattle.hq_value.specs.declared.entry.Entry.{Entry}
use Rattle.hq_value.specs.declared.entry.EntryKind.{EntryKind}
use Rattle.hq_value.specs.declared.entry.EntryKind.TheVariants as entry
use Rattle.hq_value.specs.Tables.{Definition}
use Rattle.hq_transcript.specs.Pieces.{Piece, is_snapshot}
use Rattle.hq_transcript.specs.Tables.{Put}
use Rattle.hq_transcript.specs.Binding.{Binder}
use Rattle.hq_transcript.specs.Looks.{looked}
use Rattle.hq_transcript.specs.Sights.{Sight, Replay, Found, after_kind, sight_at, is_look_for, is_of_statement, look_of, own_from, own_puts, rows_put, found_by, stands_before}
use Rattle.hq_transcript.specs.Transcript.{own}
use Rattle.hq_transcript.proofs.Growth.{noted}
use Rattle.hq_turns.specs.Now.{found_with}

-- the entry is one that a statement finds its own sight by
abbrev pub finds : EntryKind → Bool
finds entry.Look = true
finds entry.Create = true
finds entry.Alter = true
finds _ = false

-- the statement has no such sight yet
abbrev pub IsNew : Found → EntryKind → Type 0
IsNew found entry.Look = found.look ≡ None
IsNew found entry.Create = found.change ≡ None
IsNew found entry.Alter = found.change ≡ None
IsNew found _ = Unit {0}

looks-after : (tables : List Definition) (puts : List Put) (s : Sight) (r : Replay) (e : EntryKind) → (after_kind tables puts s r e).looks ≡ r.looks ++ looked s e
looks-after tables puts s r entry.Look = refl
looks-after tables puts s r _ = sym (append-nil r.looks)

pub changes-after : (tables : List Definition) (puts : List Put) (s : Sight) (r : Replay) (e : EntryKind) → (after_kind tables puts s r e).changes ≡ r.changes ++ noted s e
changes-after tables puts s r entry.Create = refl
changes-after tables puts s r entry.Alter = refl
changes-after tables puts s r _ = sym (append-nil r.changes)

find-past : (p : Sight → Bool) (xs : List Sight) (s : Sight) → p s ≡ false → find p (xs ++ s ∷ []) ≡ find p xs
find-past p [] s h = ap (λ c. cond c (Some s) None) h
find-past p (x ∷ xs) s h = ap (λ o. cond (p x) (Some x) o) (find-past p xs s h)

-- where none was found it is found last
find-last : (p : Sight → Bool) (xs : List Sight) (s : Sight) → p s ≡ true → find p xs ≡ None → find p (xs ++ s ∷ []) ≡ Some s
find-last p [] s h none = ap (λ c. cond c (Some s) None) h
find-last p (x ∷ xs) s h none = by (p x) none (find-last p xs s h)
  where
    by : (b : Bool) → cond b (Some x) (find p xs) ≡ None → (find p xs ≡ None → find p (xs ++ s ∷ []) ≡ Some s) → cond b (Some x) (find p (xs ++ s ∷ [])) ≡ Some s
    by true e f = cc
    by false e f = f e

look-past : (p : Sight → Bool) (xs : List Sight) (s : Sight) (e : EntryKind) → p s ≡ false → find p (xs ++ looked s e) ≡ find p xs
look-past p xs s entry.Look h = find-past p xs s h
look-past p xs s _ h = ap (find p) (append-nil xs)

pub change-past : (p : Sight → Bool) (xs : List Sight) (s : Sight) (e : EntryKind) → p s ≡ false → find p (xs ++ noted s e) ≡ find p xs
change-past p xs s entry.Create h = find-past p xs s h
change-past p xs s entry.Alter h = find-past p xs s h
change-past p xs s _ h = ap (find p) (append-nil xs)

second : (c d : Bool) → d ≡ false → (c && d) ≡ false
second true d h = h
second false d h = refl

both-are : (c d : Bool) → c ≡ true → d ≡ true → (c && d) ≡ true
both-are true d h g = g
both-are false d h g = cc

is-self : (n : ℕ) → (n == n) ≡ true
is-self n = grind arith

same-number : (a b : ℕ) → a ≡ b → (a == b) ≡ true
same-number a b h = subst (λ x. (a == x) ≡ true) h (is-self a)

above : (i m : ℕ) → i < m → (m == i) ≡ false
above i m h = grind (arith, h)

not-upto : (i m : ℕ) → i < m → nat_le m i ≡ false
not-upto i m h = grind (arith, h)

-- no look of statement m is that of an earlier one
misses-earlier : (snapshot : Bool) (b i m : ℕ) → i < m → (if snapshot then nat_lt b m && nat_le m i else m == i) ≡ false
misses-earlier true b i m h = second (nat_lt b m) (nat_le m i) (not-upto i m h)
misses-earlier false b i m h = above i m h

-- it is its own
meets : (snapshot : Bool) (b m : ℕ) → b < m → (if snapshot then nat_lt b m && nat_le m m else m == m) ≡ true
meets true b m h = both-are (nat_lt b m) (nat_le m m) (grind (arith, h)) (grind arith)
meets false b m h = is-self m

not-before : (m : ℕ) → nat_lt m m ≡ false
not-before m = grind arith

-- what a transaction has put before statement m is known by the looks of the statements before it
module _ (binds : Binder) (k : ℕ) (old new : List Sight) (m : ℕ)
    (same : (b : ℕ) (snapshot : Bool) (i : ℕ) → i < m → look_of k b snapshot i new ≡ look_of k b snapshot i old) where
  own_from-same : (b : ℕ) (snapshot : Bool) (i : ℕ) (left : List Piece) (puts : List Put) → length left ≤ m - i
      → own_from binds k b snapshot new i left puts ≡ own_from binds k b snapshot old i left puts
  own_from-same b snapshot i [] puts h = refl
  own_from-same b snapshot i (p ∷ left) puts h =
      ap (λ look. own_from binds k b snapshot new (suc i) left (puts ++ rows_put binds look puts p)) (same b snapshot i (omega (arith, h)))
      ∙ own_from-same b snapshot (suc i) left _ (omega (arith, h))

  pub own_puts-same : (pieces : List Piece) (b : ℕ) → own_puts binds k pieces new b m ≡ own_puts binds k pieces old b m
  own_puts-same pieces zero = refl
  own_puts-same pieces (suc b) =
      own_from-same (suc b) (is_snapshot (suc b) pieces) (suc (suc b)) (take (m - suc (suc b)) (drop (suc b) pieces)) []
      (omega (arith, length-take (m - suc (suc b)) (drop (suc b) pieces)))

module _ (binds : Binder) (k m : ℕ) (pieces : List Piece) (tables : List Definition) (puts : List Put) (r : Replay) (e : Entry) where
  abbrev next : Replay
  next = after_kind tables puts (sight_at r e) r e.kind

  -- ---- an entry of another session

  module _ (other : (e.session == k) ≡ false) where
    look-other : (b : ℕ) (snapshot : Bool) (i : ℕ) → look_of k b snapshot i next.looks ≡ look_of k b snapshot i r.looks
    look-other b snapshot i =
        ap (look_of k b snapshot i) (looks-after tables puts (sight_at r e) r e.kind)
        ∙ look-past (is_look_for k b snapshot i) r.looks (sight_at r e) e.kind
        (ap (λ c. c && (if snapshot then nat_lt b e.statement && nat_le e.statement i else e.statement == i)) other)

    change-other : find (is_of_statement k m) next.changes ≡ find (is_of_statement k m) r.changes
    change-other =
        ap (find (is_of_statement k m)) (changes-after tables puts (sight_at r e) r e.kind)
        ∙ change-past (is_of_statement k m) r.changes (sight_at r e) e.kind (ap (λ c. c && (e.statement == m)) other)

    pub found-other : (b : ℕ) → found_by binds k pieces next b m ≡ found_by binds k pieces r b m
    found-other b =
        let look : look_of k b (is_snapshot b pieces) m next.looks ≡ look_of k b (is_snapshot b pieces) m r.looks = look-other b (is_snapshot b pieces) m in
        let puts' : own_puts binds k pieces next.looks b m ≡ own_puts binds k pieces r.looks b m =
        own_puts-same binds k r.looks next.looks m (λ b snapshot i h. look-other b snapshot i) pieces b in
        λ j. record { look = look j; stands = stands_before m (look j); change = change-other j; own = puts' j }

    pub own-other : (log : List Entry) → own (log ++ e ∷ []) k m ≡ own log k m
    own-other log =
        let test : Entry → Bool = λ x. (x.session == k) && (x.statement == m) in
        let none : filter test (e ∷ []) ≡ [] = ap (λ c. cond (c && (e.statement == m)) (e ∷ []) []) other in
        ap (λ l. map (λ (x : Entry). x.kind) l) (filter-append test log (e ∷ []) ∙ ap (λ l. filter test log ++ l) none ∙ append-nil (filter test log))

  -- ---- an entry of the statement

  module _ (session : e.session ≡ k) (statement : e.statement ≡ m) where
    pub own-more : (log : List Entry) → own (log ++ e ∷ []) k m ≡ own log k m ++ e.kind ∷ []
    own-more log =
        let test : Entry → Bool = λ x. (x.session == k) && (x.statement == m) in
        let some : filter test (e ∷ []) ≡ e ∷ [] =
        ap (λ c. cond c (e ∷ []) []) (both-are (e.session == k) (e.statement == m) (same-number e.session k session) (same-number e.statement m statement)) in
        ap (λ l. map (λ (x : Entry). x.kind) l) (filter-append test log (e ∷ []) ∙ ap (λ l. filter test log ++ l) some)
        ∙ map-one (filter test log)
      where
        map-one : (xs : List Entry) → map (λ (x : Entry). x.kind) (xs ++ e ∷ []) ≡ map (λ (x : Entry). x.kind) xs ++ e.kind ∷ []
        map-one [] = refl
        map-one (x ∷ xs) = ap (λ ys. x.kind ∷ ys) (map-one xs)

    earlier-look : (b : ℕ) (snapshot : Bool) (i : ℕ) → i < m → look_of k b snapshot i next.looks ≡ look_of k b snapshot i r.looks
    earlier-look b snapshot i h =
        ap (look_of k b snapshot i) (looks-after tables puts (sight_at r e) r e.kind)
        ∙ look-past (is_look_for k b snapshot i) r.looks (sight_at r e) e.kind
        (second (e.session == k) (if snapshot then nat_lt b e.statement && nat_le e.statement i else e.statement == i)
        (subst (λ st. (if snapshot then nat_lt b st && nat_le st i else st == i) ≡ false) (sym statement) (misses-earlier snapshot b i m h)))

    same-own : (b : ℕ) → own_puts binds k pieces next.looks b m ≡ own_puts binds k pieces r.looks b m
    same-own b = own_puts-same binds k r.looks next.looks m earlier-look pieces b

    meets-look : (b : ℕ) (snapshot : Bool) → b < m → is_look_for k b snapshot m (sight_at r e) ≡ true
    meets-look b snapshot h =
        both-are (e.session == k) (if snapshot then nat_lt b e.statement && nat_le e.statement m else e.statement == m) (same-number e.session k session)
        (subst (λ st. (if snapshot then nat_lt b st && nat_le st m else st == m) ≡ true) (sym statement) (meets snapshot b m h))

    meets-change : is_of_statement k m (sight_at r e) ≡ true
    meets-change = both-are (e.session == k) (e.statement == m) (same-number e.session k session) (same-number e.statement m statement)

    pub found-own : (b : ℕ) → b < m → IsNew (found_by binds k pieces r b m) e.kind
        → found_by binds k pieces next b m ≡ found_with (sight_at r e) (found_by binds k pieces r b m) e.kind
    found-own b below fresh = by e.kind refl fresh
      where
        snapshot : Bool
        snapshot = is_snapshot b pieces

        -- it is found by these looks and changes
        from : List Sight → List Sight → Found
        from looks changes = record {
          look = look_of k b (is_snapshot b pieces) m looks;
          stands = stands_before m (look_of k b (is_snapshot b pieces) m looks);
          change = find (is_of_statement k m) changes;
          own = own_puts binds k pieces r.looks b m;
        }

        next-from : found_by binds k pieces next b m ≡ from next.looks next.changes
        next-from = λ j. record {
          look = look_of k b (is_snapshot b pieces) m next.looks;
          stands = stands_before m (look_of k b (is_snapshot b pieces) m next.looks);
          change = find (is_of_statement k m) next.changes;
          own = same-own b j;
        }

        looks-by : (kind : EntryKind) → e.kind ≡ kind → next.looks ≡ r.looks ++ looked (sight_at r e) kind
        looks-by kind is = looks-after tables puts (sight_at r e) r e.kind ∙ ap (λ x. r.looks ++ looked (sight_at r e) x) is

        changes-by : (kind : EntryKind) → e.kind ≡ kind → next.changes ≡ r.changes ++ noted (sight_at r e) kind
        changes-by kind is = changes-after tables puts (sight_at r e) r e.kind ∙ ap (λ x. r.changes ++ noted (sight_at r e) x) is

        -- the look is there, and the changes are as they were
        by-look : next.looks ≡ r.looks ++ sight_at r e ∷ [] → next.changes ≡ r.changes → look_of k b snapshot m r.looks ≡ None
            → found_by binds k pieces next b m ≡ record (found_by binds k pieces r b m) { look = Some (sight_at r e) }
        by-look looks changes none =
            let look : look_of k b snapshot m next.looks ≡ Some (sight_at r e) =
            ap (look_of k b snapshot m) looks ∙ find-last (is_look_for k b snapshot m) r.looks (sight_at r e) (meets-look b snapshot below) none in
            let stands : stands_before m (Some (sight_at r e)) ≡ stands_before m (look_of k b snapshot m r.looks) =
            ap (λ st. nat_lt st m) statement ∙ not-before m ∙ sym (ap (stands_before m) none) in
            next-from
            ∙ (λ j. record { look = look j; stands = stands_before m (look j); change = find (is_of_statement k m) (changes j); own = own_puts binds k pieces r.looks b m })
            ∙ (λ j. record { look = Some (sight_at r e); stands = stands j; change = find (is_of_statement k m) r.changes; own = own_puts binds k pieces r.looks b m })

        -- the change is there, and the looks are as they were
        by-change : next.looks ≡ r.looks → next.changes ≡ r.changes ++ sight_at r e ∷ [] → find (is_of_statement k m) r.changes ≡ None
            → found_by binds k pieces next b m ≡ record (found_by binds k pieces r b m) { change = Some (sight_at r e) }
        by-change looks changes none =
            let change : find (is_of_statement k m) next.changes ≡ Some (sight_at r e) =
            ap (find (is_of_statement k m)) changes ∙ find-last (is_of_statement k m) r.changes (sight_at r e) meets-change none in
            next-from ∙ ap (λ xs. from xs next.changes) looks
            ∙ (λ j. record {
              look = look_of k b snapshot m r.looks;
              stands = stands_before m (look_of k b snapshot m r.looks);
              change = change j;
              own = own_puts binds k pieces r.looks b m;
            })

        by-none : next.looks ≡ r.looks → next.changes ≡ r.changes → found_by binds k pieces next b m ≡ found_by binds k pieces r b m
        by-none looks changes = next-from ∙ ap (λ xs. from xs next.changes) looks ∙ ap (λ xs. from r.looks xs) changes

        by : (kind : EntryKind) → e.kind ≡ kind → IsNew (found_by binds k pieces r b m) kind
            → found_by binds k pieces next b m ≡ found_with (sight_at r e) (found_by binds k pieces r b m) kind
        by entry.Look is none = by-look (looks-by entry.Look is) (changes-by entry.Look is ∙ append-nil r.changes) none
        by entry.Create is none = by-change (looks-by entry.Create is ∙ append-nil r.looks) (changes-by entry.Create is) none
        by entry.Alter is none = by-change (looks-by entry.Alter is ∙ append-nil r.looks) (changes-by entry.Alter is) none
        by _ is none = by-none (looks-by _ is ∙ append-nil r.looks) (changes-by _ is ∙ append-nil r.changes)
