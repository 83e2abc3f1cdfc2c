-- A session's deposits stay its own: behind one entry more, and over the rest of its input.
use Rattle.std.proofs.Common.{◌≡◌, ℕ, zero, suc, ◌+◌, ◌-◌, ◌<◌, ◌≤◌, Bool, true, false, not, ◌&&◌, ◌||◌, Option, Some, None, List, [], ◌∷◌, ◌++◌, length, fold, take, nat_le, ◌==◌, if◌then◌else◌, refl, sym, ◌∙◌, ap, subst, arith, length-take-le}
use Rattle.std.proofs.lemmas.List.{take-append-le}
use Rattle.std.specs.List.{list_all}
use Rattle.hq_value.specs.declared.value.Value.{Value}
use Rattle.hq_value.specs.declared.kind.Kind.{Kind}
use Rattle.hq_sql.specs.declared.tree.Statement.TheVariants as statement
use Rattle.hq_value.specs.declared.entry.EntryKind.{EntryKind}
use Rattle.hq_value.specs.declared.entry.EntryKind.TheVariants as entry
use Rattle.hq_transcript.specs.Pieces.{Piece, Reads, piece_at, is_begin, last_begin, last_begin_from, is_snapshot, begins_snapshot}
use Rattle.hq_transcript.specs.Binding.{Binder}
use Rattle.hq_transcript.specs.Sights.{Sight, Replay, changed, published, own_puts, own_from}
use Rattle.hq_history.specs.declared.noted.Noted.{Noted}
use Rattle.hq_transcript.specs.History.{after_noted, HasRows, IsOwn, AreOwn, is_within, leaves}
use Rattle.hq_transcript.proofs.Growth.{get-append, part-append}

module _ (binds : Binder) (k : ℕ) (file_rows : List Kind → List ℕ → List (List Value)) where
  -- one entry more
  pub are-own-push : (pieces : List Piece) (r : Replay) (history : List Noted) (n : Noted) → AreOwn file_rows binds k pieces r history
      → (n.entry.session ≡ k → IsOwn file_rows binds k pieces (fold (after_noted file_rows) r history) n n.entry.kind) → AreOwn file_rows binds k pieces r (history ++ n ∷ [])
  are-own-push pieces r [] n own now = (now, tt)
  are-own-push pieces r (x ∷ history) n own now = (own.0, are-own-push pieces (after_noted file_rows r x) history n own.1 now)

begin_below : (b n : ℕ) (xs : List Piece) → b < n → last_begin_from b n xs < n + length xs
begin_below b n [] h = omega (arith, h)
begin_below b n (x ∷ xs) h = by (is_begin x) (begin_below n (suc n) xs (omega arith)) (begin_below b (suc n) xs (omega (arith, h)))
  where
    by : (c : Bool) → last_begin_from n (suc n) xs < suc n + length xs → last_begin_from b (suc n) xs < suc n + length xs
        → last_begin_from (if c then n else b) (suc n) xs < n + suc (length xs)
    by true here rest = omega (arith, here)
    by false here rest = omega (arith, rest)

snapshot-more : (pieces more : List Piece) (b : ℕ) → b ≤ length pieces → is_snapshot b (pieces ++ more) ≡ is_snapshot b pieces
snapshot-more pieces more zero h = refl
snapshot-more pieces more (suc b) h = ap begins_snapshot (get-append pieces more b (omega arith))

module _ (binds : Binder) (k : ℕ) (pieces more : List Piece) where
  own_puts-more : (looks : List Sight) (b m : ℕ) → b ≤ length pieces → m ≤ length pieces + 1 → own_puts binds k (pieces ++ more) looks b m ≡ own_puts binds k pieces looks b m
  own_puts-more looks zero m h i = refl
  own_puts-more looks (suc b) m h i =
      λ j. own_from binds k (suc b) (snapshot-more pieces more (suc b) h j) looks (suc (suc b)) (part-append (m - suc (suc b)) (suc b) pieces more (omega arith) j) []

  begin-more : (m : ℕ) → m ≤ length pieces → last_begin m (pieces ++ more) ≡ last_begin m pieces
  begin-more m h = ap (last_begin_from 0 1) (take-append-le (m - 1) pieces more (omega arith))

  begin-within : (m : ℕ) → m ≤ length pieces → last_begin m pieces ≤ length pieces
  begin-within m h = omega (arith, begin_below 0 1 (take (m - 1) pieces) (omega arith), length-take-le (m - 1) pieces (omega arith))

  published-same : (looks : List Sight) (m : ℕ) (p : Option Piece) → m ≤ length pieces → published binds k (pieces ++ more) looks m p ≡ published binds k pieces looks m p
  published-same looks m None h = refl
  published-same looks m (Some (Reads statement.Commit)) h =
      ap (λ b. own_puts binds k (pieces ++ more) looks b m) (begin-more m h) ∙ own_puts-more looks (last_begin m pieces) m (begin-within m h) (omega arith)
  published-same looks m (Some p) h = refl

  piece-more : (m : ℕ) → m ≤ length pieces → piece_at m (pieces ++ more) ≡ piece_at m pieces
  piece-more zero h = refl
  piece-more (suc m) h = get-append pieces more m (omega arith)

  module _ (file_rows : List Kind → List ℕ → List (List Value)) where
    own-more : (r : Replay) (n : Noted) (kind : EntryKind) → n.entry.statement ≤ length pieces → IsOwn file_rows binds k pieces r n kind → IsOwn file_rows binds k (pieces ++ more) r n kind
    own-more r n entry.Commit h own =
        subst (λ puts. HasRows file_rows r.tables n.deposit puts)
        (sym (ap (λ p. published binds k (pieces ++ more) r.looks n.entry.statement p) (piece-more n.entry.statement h) ∙ published-same r.looks n.entry.statement (piece_at n.entry.statement pieces) h)) own
    own-more r n entry.Create h own = own ∙ ap (changed binds r.tables) (sym (piece-more n.entry.statement h))
    own-more r n entry.Alter h own = own ∙ ap (changed binds r.tables) (sym (piece-more n.entry.statement h))
    own-more r n _ h own = tt

    own-past : (r : Replay) (n : Noted) (kind : EntryKind) → leaves kind ≡ false → IsOwn file_rows binds k (pieces ++ more) r n kind
    own-past r n entry.Commit h = cc
    own-past r n entry.Create h = cc
    own-past r n entry.Alter h = cc
    own-past r n _ h = tt

    both : (a b : Bool) → (a && b) ≡ true → (a ≡ true) × (b ≡ true)
    both true b h = (refl, h)
    both false b h = cc

    -- the rest of the input changes nothing of what the session has left
    pub are-own-more : (r : Replay) (history : List Noted) → list_all (is_within k (length pieces)) history ≡ true → AreOwn file_rows binds k pieces r history → AreOwn file_rows binds k (pieces ++ more) r history
    are-own-more r [] within own = tt
    are-own-more r (n ∷ history) within own =
        let parts : (is_within k (length pieces) n ≡ true) × (list_all (is_within k (length pieces)) history ≡ true) = both (is_within k (length pieces) n) (list_all (is_within k (length pieces)) history) within in (
          λ same. by same (n.entry.session == k) refl (nat_le n.entry.statement (length pieces)) refl (leaves n.entry.kind) refl parts.0,
          are-own-more (after_noted file_rows r n) history parts.1 own.1,
        )
      where
        by : n.entry.session ≡ k → (s : Bool) → (n.entry.session == k) ≡ s → (le : Bool) → nat_le n.entry.statement (length pieces) ≡ le → (d : Bool) → leaves n.entry.kind ≡ d
            → (not s || (le || not d)) ≡ true → IsOwn file_rows binds k (pieces ++ more) r n n.entry.kind
        by same false e le f d g h = absurd (other same e)
          where
            other : n.entry.session ≡ k → (n.entry.session == k) ≡ false → ⊥
            other same e = grind (arith, same, e)
        by same true e true f d g h = own-more r n n.entry.kind (grind (arith, f)) (own.0 same)
        by same true e false f false g h = own-past r n n.entry.kind g
        by same true e false f true g h = cc
