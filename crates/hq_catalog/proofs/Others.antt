-- What a session may ask it may still ask, once others have added to the history.
use Rattle.std.proofs.Common.{◌≡◌, ◌≢◌, ◌⊎◌, ℕ, zero, suc, ◌<◌, ◌≤◌, ◌==◌, ◌&&◌, eqb, Bool, true, false, cond, List, [], ◌∷◌, ◌++◌, length, take, Option, Some, slice_get, refl, sym, ◌∙◌, ap, subst, arith, inl, inr, eq-eqb, length-append}
use Rattle.std.specs.List.{AllByRecursion}
use Rattle.std.proofs.lemmas.Bool.{eqb-true}
use Rattle.std.proofs.lemmas.List.{append-nil, append_assoc, take-append-le}
use Rattle.std.proofs.lemmas.List.Sums.{fold-append}
use Rattle.std.proofs.Math.ListN.{get_or-append}
use Rattle.hq_value.specs.declared.entry.Entry.{Entry}
use Rattle.hq_value.specs.declared.entry.FileId.{FileId}
use Rattle.hq_value.specs.declared.table.Column.{Column}
use Rattle.hq_value.specs.Tables.{Definition}
use Rattle.hq_value.specs.Kinds.{kinds_of}
use Rattle.hq_block.specs.Block.{FileRows}
use Rattle.hq_log.specs.declared.place.Place.{Place}
use Rattle.hq_log.specs.declared.place.Place.TheVariants.{Out, Sweeping}
use Rattle.hq_log.specs.Pools.{pool, places_after, unborn_places}
use Rattle.hq_log.specs.Legal.{IsAt, IsLawful, AreLawful, IsLegal}
use Rattle.hq_lane.specs.Lanes.{LaneState, id_of, file_of}
use Rattle.hq_lane.specs.BucketFiles.{own_bytes}
use Rattle.hq_history.specs.declared.noted.Noted.{Noted}
use Rattle.hq_history.specs.declared.noted.Growth.{Growth}
use Rattle.hq_history.specs.declared.noted.Deposit.{Deposit}
use Rattle.hq_history.specs.declared.noted.Deposit.TheVariants.{Nothing, Made, Added, Published}
use Rattle.hq_history.specs.History.{entries_of, by, GrewByOthers}
use Rattle.hq_history.specs.Deposits.{tables_left, tables_after, with_added, growths_in, is_same_file, length_left, length_after, bytes_left, bytes_of}
use Rattle.hq_history.proofs.Files.{length_left-push, bytes_left-push}
use Rattle.hq_catalog.specs.declared.ask.Ask.{Ask}
use Rattle.hq_catalog.specs.declared.ask.Ask.TheVariants as ask
use Rattle.hq_catalog.specs.Files.{def_in, def_at, no_table, FitBytes, GoTo}
use Rattle.hq_catalog.specs.Lanes.{Agrees}
use Rattle.hq_catalog.specs.Asks.{MayCommitOne, MayAsk, lane_at}
use Rattle.hq_catalog.specs.Stands.{IsOwnGrowth, IsOwnStep, AreOwnSteps}
use Rattle.hq_catalog.proofs.Seen.{SeesSame, entry_seen, out_same, swept_same, same_held, same_out, same_swept}

-- more columns, and the same keys
pub record IsWider (old new : Definition) : Type 0 where
  pub more : List Column
  pub columns : new.columns ≡ old.columns ++ more
  pub keys : new.keys ≡ old.keys

same_wider : (def : Definition) → IsWider def def
same_wider def = record { more = []; columns = sym (append-nil def.columns); keys = refl }

wider_wider : (a b c : Definition) → IsWider a b → IsWider b c → IsWider a c
wider_wider a b c x y = record { more = x.more ++ y.more; columns = y.columns ∙ ap (λ cs. cs ++ y.more) x.columns ∙ append_assoc a.columns x.more y.more; keys = y.keys ∙ x.keys }

fit_wider : (old new : Definition) (b : ℕ) (bytes : List ℕ) → IsWider old new → FitBytes old b bytes → FitBytes new b bytes
fit_wider old new b bytes w f = record {
  columns = f.columns;
  within = omega (arith, f.within, ap (λ (cs : List Column). length cs) w.columns, length-append old.columns w.more);
  rows = f.rows;
  file = subst (λ cs. FileRows (kinds_of cs) bytes f.rows) (sym (ap (take f.columns) w.columns ∙ take-append-le f.columns old.columns w.more f.within)) f.file;
  bucket = subst (λ keys. GoTo keys b f.rows) (sym w.keys) f.bucket;
}

-- session k has lane n of table t
abbrev pub Has : ℕ → List Noted → ℕ → ℕ → Type 0
Has k seen t n = IsAt (entries_of seen) t n (Out k) ⊎ IsAt (entries_of seen) t n (Sweeping k)

-- the history goes on, and nothing of what the session has changes
pub record GoesOn (k : ℕ) (seen next : List Noted) : Type 0 where
  pub mine : (t : ℕ) → SeesSame k (pool (entries_of seen) t) (pool (entries_of next) t)
  pub longer : length seen ≤ length next
  pub tables : length (tables_left seen) ≤ length (tables_left next)
  pub wider : (t : ℕ) → t < length (tables_left seen) → IsWider (def_at seen t) (def_at next t)
  pub lengths : (t n : ℕ) → Has k seen t n → (b : ℕ) → length_left next (id_of t n b) ≡ length_left seen (id_of t n b)
  pub bytes : (t n : ℕ) → Has k seen t n → (b : ℕ) → bytes_left next (id_of t n b) ≡ bytes_left seen (id_of t n b)

has_next : (k : ℕ) (seen next : List Noted) → GoesOn k seen next → (t n : ℕ) → Has k seen t n → Has k next t n
has_next k seen next g t n (inl h) = inl (out_same k (pool (entries_of seen) t) (pool (entries_of next) t) n (g.mine t) h)
has_next k seen next g t n (inr h) = inr (swept_same k (pool (entries_of seen) t) (pool (entries_of next) t) n (g.mine t) h)

still : (k : ℕ) (seen : List Noted) → GoesOn k seen seen
still k seen = record { mine = λ t. refl; longer = omega arith; tables = omega arith; wider = λ t h. same_wider (def_at seen t); lengths = λ t n h b. refl; bytes = λ t n h b. refl }

further : (k : ℕ) (a b c : List Noted) → GoesOn k a b → GoesOn k b c → GoesOn k a c
further k a b c x y = record {
  mine = λ t. y.mine t ∙ x.mine t;
  longer = omega (arith, x.longer, y.longer);
  tables = omega (arith, x.tables, y.tables);
  wider = λ t h. wider_wider (def_at a t) (def_at b t) (def_at c t) (x.wider t h) (y.wider t (omega (arith, h, x.tables)));
  lengths = λ t n h i. y.lengths t n (has_next k a b x t n h) i ∙ x.lengths t n h i;
  bytes = λ t n h i. y.bytes t n (has_next k a b x t n h) i ∙ x.bytes t n h i;
}

pub entries-append : (xs ys : List Noted) → entries_of (xs ++ ys) ≡ entries_of xs ++ entries_of ys
entries-append [] ys = refl
entries-append (x ∷ xs) ys = ap (λ (es : List Entry). x.entry ∷ es) (entries-append xs ys)

pub pool-push : (log : List Entry) (e : Entry) (t : ℕ) → pool (log ++ e ∷ []) t ≡ places_after t (pool log t) e.session e.kind
pool-push log e t = fold-append (λ places (e : Entry). places_after t places e.session e.kind) unborn_places log (e ∷ [])

pub tables-push : (history : List Noted) (n : Noted) → tables_left (history ++ n ∷ []) ≡ tables_after (tables_left history) n.deposit
tables-push history n = fold-append (λ tables (n : Noted). tables_after tables n.deposit) [] history (n ∷ [])

length-with_added : (u : ℕ) (column : Column) (tables : List Definition) → length (with_added u column tables) ≡ length tables
length-with_added zero column [] = refl
length-with_added (suc u) column [] = refl
length-with_added zero column (x ∷ xs) = refl
length-with_added (suc u) column (x ∷ xs) = ap suc (length-with_added u column xs)

wider_added : (u : ℕ) (column : Column) (tables : List Definition) (t : ℕ) → IsWider (def_in tables t) (def_in (with_added u column tables) t)
wider_added zero column [] t = same_wider (def_in [] t)
wider_added (suc u) column [] t = same_wider (def_in [] t)
wider_added zero column (x ∷ xs) zero = record { more = column ∷ []; columns = refl; keys = refl }
wider_added zero column (x ∷ xs) (suc t) = same_wider (def_in xs t)
wider_added (suc u) column (x ∷ xs) zero = same_wider x
wider_added (suc u) column (x ∷ xs) (suc t) = wider_added u column xs t

fewer : (tables : List Definition) (deposit : Deposit) → length tables ≤ length (tables_after tables deposit)
fewer tables Nothing = omega arith
fewer tables (Made def) = omega (arith, length-append tables (def ∷ []))
fewer tables (Added u column) = omega (arith, length-with_added u column tables)
fewer tables (Published growths) = omega arith

wider_after : (tables : List Definition) (deposit : Deposit) (t : ℕ) → t < length tables → IsWider (def_in tables t) (def_in (tables_after tables deposit) t)
wider_after tables Nothing t h = same_wider (def_in tables t)
wider_after tables (Made def) t h = subst (λ (x : Definition). IsWider (def_in tables t) x) (sym (get_or-append tables (def ∷ []) no_table t h)) (same_wider (def_in tables t))
wider_after tables (Added u column) t h = wider_added u column tables t
wider_after tables (Published growths) t h = same_wider (def_in tables t)

and_both : (a b : Bool) → (a && b) ≡ true → (a ≡ true) × (b ≡ true)
and_both true b e = (refl, e)
and_both false b e = cc

pub same_is : (a b : FileId) → is_same_file a b ≡ true → (a.table ≡ b.table) × (a.lane ≡ b.lane) × (a.bucket ≡ b.bucket)
same_is a b e =
    let h = and_both (eqb a.table b.table && eqb a.lane b.lane) (eqb a.bucket b.bucket) e in
    let g = and_both (eqb a.table b.table) (eqb a.lane b.lane) h.0 in
    (eqb-true a.table b.table g.0, eqb-true a.lane b.lane g.1, eqb-true a.bucket b.bucket h.1)

false_unless : (b : Bool) → (b ≡ true → ⊥) → b ≡ false
false_unless true h = absurd (h refl)
false_unless false h = refl

-- growths of other files leave a file as it is
pub absent : (file : FileId) (gs : List Growth) → AllByRecursion (λ (g : Growth). is_same_file g.file file ≡ false) gs → (bytes_of file gs ≡ []) × ((m : ℕ) → length_after file m gs ≡ m)
absent file [] h = (refl, λ m. refl)
absent file (g ∷ gs) h =
    let rest = absent file gs h.1 in (
      ap (λ b. cond b (g.bytes ++ bytes_of file gs) (bytes_of file gs)) h.0 ∙ rest.0,
      λ m. ap (λ b. length_after file (cond b g.after m) gs) h.0 ∙ rest.1 m,
    )

out_is : (o : Option Place) (j k : ℕ) → o ≡ Some (Out j) → o ≡ Some (Out k) → j ≡ k
out_is o j k a b = (let e : Some (Out j) ≡ Some (Out k) = sym a ∙ b in cc)

out_or_swept : (o : Option Place) (j k : ℕ) → o ≡ Some (Out j) → o ≡ Some (Sweeping k) → ⊥
out_or_swept o j k a b = (let e : Some (Out j) ≡ Some (Sweeping k) = sym a ∙ b in cc)

apart : (k j : ℕ) → j ≢ k → (seen : List Noted) (t n : ℕ) → Has k seen t n → IsAt (entries_of seen) t n (Out j) → ⊥
apart k j d seen t n (inl h) at = d (out_is (slice_get (pool (entries_of seen) t) n) j k at h)
apart k j d seen t n (inr h) at = out_or_swept (slice_get (pool (entries_of seen) t) n) j k at h

not_own : (told : Bool) (k j : ℕ) → j ≢ k → (seen : List Noted) (t n b : ℕ) → Has k seen t n → (gs : List Growth) → AllByRecursion (IsOwnGrowth told seen j) gs → AllByRecursion (λ (g : Growth). is_same_file g.file (id_of t n b) ≡ false) gs
not_own told k j d seen t n b h [] own = tt
not_own told k j d seen t n b h (g ∷ gs) own = (
  false_unless (is_same_file g.file (id_of t n b)) (λ e. let s = same_is g.file (id_of t n b) e in
      apart k j d seen t n h (subst (λ x. IsAt (entries_of seen) x n (Out j)) s.0 (subst (λ x. IsAt (entries_of seen) g.file.table x (Out j)) s.1 own.0.lane))),
  not_own told k j d seen t n b h gs own.1,
)

-- an entry of another session
goes_on_one : (told : Bool) (nodes k : ℕ) (seen : List Noted) (x : Noted) → x.entry.session ≢ k → IsLawful nodes (entries_of seen) x.entry.session x.entry.kind → IsOwnStep told seen x → GoesOn k seen (seen ++ x ∷ [])
goes_on_one told nodes k seen x d law own =
    let none = λ (t n : ℕ) (h : Has k seen t n) (b : ℕ). absent (id_of t n b) (growths_in x.deposit) (not_own told k x.entry.session d seen t n b h (growths_in x.deposit) own.growths) in
    record {
      mine = λ t. subst (SeesSame k (pool (entries_of seen) t)) (sym (ap (λ log. pool log t) (entries-append seen (x ∷ [])) ∙ pool-push (entries_of seen) x.entry t))
          (entry_seen nodes k x.entry.session d (entries_of seen) x.entry.kind law own.runs t);
      longer = omega (arith, length-append seen (x ∷ []));
      tables = omega (arith, fewer (tables_left seen) x.deposit, ap (λ (ts : List Definition). length ts) (tables-push seen x));
      wider = λ t h. subst (λ (ts : List Definition). IsWider (def_at seen t) (def_in ts t)) (sym (tables-push seen x)) (wider_after (tables_left seen) x.deposit t h);
      lengths = λ t n h b. length_left-push seen x (id_of t n b) ∙ (none t n h b).1 (length_left seen (id_of t n b));
      bytes = λ t n h b. bytes_left-push seen x (id_of t n b) ∙ ap (λ bs. bytes_left seen (id_of t n b) ++ bs) (none t n h b).0 ∙ append-nil (bytes_left seen (id_of t n b));
    }

by_first : (k : ℕ) (n : Noted) (rest : List Noted) (b : Bool) → (n.entry.session == k) ≡ b → cond b (n ∷ rest) rest ≡ [] → (n.entry.session ≢ k) × (rest ≡ [])
by_first k n rest true e none = absurd (cc)
by_first k n rest false e none = (λ same. absurd (let y : true ≡ false = sym (eq-eqb n.entry.session k same) ∙ e in cc), none)

-- entries of other sessions
goes_on_all : (told : Bool) (nodes k : ℕ) (seen ns : List Noted) → by k ns ≡ [] → AreLawful nodes (entries_of seen) (entries_of ns) → AreOwnSteps told seen ns → GoesOn k seen (seen ++ ns)
goes_on_all told nodes k seen [] none law own = subst (GoesOn k seen) (sym (append-nil seen)) (still k seen)
goes_on_all told nodes k seen (n ∷ ns) none law own =
    let first = by_first k n (by k ns) (n.entry.session == k) refl none in
    let one = goes_on_one told nodes k seen n first.0 law.0 own.0 in
    let law' = subst (λ log. AreLawful nodes log (entries_of ns)) (sym (entries-append seen (n ∷ []))) law.1 in
    let rest = goes_on_all told nodes k (seen ++ n ∷ []) ns first.1 law' own.1 in
    subst (GoesOn k seen) (append_assoc seen (n ∷ []) ns) (further k seen (seen ++ n ∷ []) ((seen ++ n ∷ []) ++ ns) one rest)

lawful_rest : (nodes : ℕ) (before xs ys : List Entry) → AreLawful nodes before (xs ++ ys) → AreLawful nodes (before ++ xs) ys
lawful_rest nodes before [] ys h = subst (λ log. AreLawful nodes log ys) (sym (append-nil before)) h
lawful_rest nodes before (x ∷ xs) ys h = subst (λ log. AreLawful nodes log ys) (append_assoc before (x ∷ []) xs) (lawful_rest nodes (before ++ x ∷ []) xs ys h.1)

own_rest : (told : Bool) (before xs ys : List Noted) → AreOwnSteps told before (xs ++ ys) → AreOwnSteps told (before ++ xs) ys
own_rest told before [] ys h = subst (λ log. AreOwnSteps told log ys) (sym (append-nil before)) h
own_rest told before (x ∷ xs) ys h = subst (λ log. AreOwnSteps told log ys) (append_assoc before (x ∷ []) xs) (own_rest told (before ++ x ∷ []) xs ys h.1)

-- a legal history that grew by others
pub goes_on : (told : Bool) (nodes k : ℕ) (seen history : List Noted) → GrewByOthers k seen history → IsLegal nodes (entries_of history) → AreOwnSteps told [] history → GoesOn k seen history
goes_on told nodes k seen history grew legal own =
    let log : entries_of history ≡ entries_of seen ++ entries_of grew.0 = ap entries_of grew.1 ∙ entries-append seen grew.0 in
    let law = lawful_rest nodes [] (entries_of seen) (entries_of grew.0) (subst (λ es. AreLawful nodes [] es) log legal) in
    let mine = own_rest told [] seen grew.0 (subst (AreOwnSteps told []) grew.1 own) in
    subst (GoesOn k seen) (sym grew.1) (goes_on_all told nodes k seen grew.0 grew.2 law mine)

agrees_next : (told : Bool) (k : ℕ) (seen next : List Noted) (l : LaneState) → GoesOn k seen next → Has k seen l.table l.number → Agrees told seen l → Agrees told next l
agrees_next told k seen next l g h a = record {
  base = λ b lt. a.base b lt ∙ sym (g.lengths l.table l.number h b);
  bytes = λ t b lt. a.bytes t b lt ∙ sym (g.bytes l.table l.number h b);
}

one_next : (files seals : Bool) (k : ℕ) (seen next : List Noted) (l : LaneState) → GoesOn k seen next → MayCommitOne files seals k seen l → MayCommitOne files seals k next l
one_next files seals k seen next l g m = record {
  made = omega (arith, m.made, g.tables);
  out = out_same k (pool (entries_of seen) l.table) (pool (entries_of next) l.table) l.number (g.mine l.table) m.out;
  agrees = agrees_next (files && seals) k seen next l g (inl m.out) m.agrees;
  sealed = m.sealed;
  blocks = λ t b lt. fit_wider (def_at seen l.table) (def_at next l.table) b (own_bytes (file_of l.files b)) (g.wider l.table m.made) (m.blocks t b lt);
}

-- what the session may ask
pub may_still : {F Z : Type 0} (files seals : Bool) (k nodes : ℕ) (seen next : List Noted) → GoesOn k seen next → (a : Ask F Z) → MayAsk {F = F} {Z = Z} files seals k a seen nodes → MayAsk {F = F} {Z = Z} files seals k a next nodes
may_still files seals k nodes seen next g (ask.Look scope have) m = record { once = m.once; reached = λ i d lt. omega (arith, m.reached i d lt, g.longer) }
may_still files seals k nodes seen next g (ask.Create def) m = tt
may_still files seals k nodes seen next g (ask.Alter table column) m = tt
may_still files seals k nodes seen next g (ask.Lend t) m = record {
  made = omega (arith, m.made, g.tables);
  no_lane = same_held k (pool (entries_of seen) t) (pool (entries_of next) t) (g.mine t) ∙ m.no_lane;
}
may_still files seals k nodes seen next g (ask.Adopt l) m = record {
  swept = swept_same k (pool (entries_of seen) l.table) (pool (entries_of next) l.table) l.number (g.mine l.table) m.swept;
  none_out = same_out k (pool (entries_of seen) l.table) (pool (entries_of next) l.table) (g.mine l.table) ∙ m.none_out;
  agrees = agrees_next (files && seals) k seen next l g (inr m.swept) m.agrees;
  clean = m.clean;
  no_seal = m.no_seal;
}
may_still files seals k nodes seen next g (ask.Commit lanes) m = record {
  some = m.some;
  each = λ i lt. one_next files seals k seen next (lane_at lanes.items i) g (m.each i lt);
  once = m.once;
  all = λ t n at. m.all t n (out_same k (pool (entries_of next) t) (pool (entries_of seen) t) n (sym (g.mine t)) at);
  none_swept = λ t. same_swept k (pool (entries_of seen) t) (pool (entries_of next) t) (g.mine t) ∙ m.none_swept t;
}
may_still files seals k nodes seen next g (ask.Back l) m = record {
  held = has_next k seen next g l.table l.number m.held;
  agrees = agrees_next (files && seals) k seen next l g m.held m.agrees;
  no_seal = m.no_seal;
}
may_still files seals k nodes seen next g ask.SweepAny m = tt
may_still files seals k nodes seen next g (ask.Mark node up) m = m
