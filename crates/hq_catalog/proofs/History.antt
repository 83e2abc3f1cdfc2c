-- The history of a catalogue, and what it is once the catalogue has one entry more.
use Rattle.std.proofs.Common.{◌≡◌, ◌≢◌, ℕ, suc, ◌+◌, ◌<◌, ◌≤◌, ◌==◌, Bool, true, false, cond, List, [], ◌∷◌, ◌++◌, length, map, Some, None, refl, sym, ◌∙◌, ap, arith, eq-eqb}
use Rattle.std.specs.List.{AllByRecursion, filter, find}
use Rattle.std.proofs.lemmas.Bool.{eqb-true}
use Rattle.std.proofs.lemmas.List.{append-nil}
use Rattle.hq_value.specs.declared.entry.Entry.{Entry}
use Rattle.hq_value.specs.declared.entry.EntryKind.{EntryKind}
use Rattle.hq_value.specs.declared.entry.EntryKind.TheVariants as entry
use Rattle.hq_value.specs.declared.entry.FileId.{FileId}
use Rattle.hq_history.specs.declared.noted.Noted.{Noted}
use Rattle.hq_history.specs.declared.noted.Deposit.{Deposit}
use Rattle.hq_history.specs.declared.noted.Deposit.TheVariants.{Nothing, Published}
use Rattle.hq_history.specs.History.{entries_of}
use Rattle.hq_history.specs.Deposits.{growths_in}
use Rattle.hq_catalog.specs.declared.kept.Change.{Change}
use Rattle.hq_catalog.specs.declared.kept.Change.TheVariants as change
use Rattle.hq_catalog.specs.declared.kept.Grown.{Grown}
use Rattle.hq_catalog.specs.Files.{is_among, last_change, last_change_from}
use Rattle.hq_catalog.specs.State.{TableState, CatState}
use Rattle.hq_catalog.specs.History.{history, history_from, deposit_at, deposit_of, is_change_at, is_grown_at, growth_of}
use Rattle.hq_catalog.specs.Kept.{place_of, IsPast}

entries_from : (told : Bool) (c : CatState) (i : ℕ) (es : List Entry) → entries_of (history_from told c i es) ≡ es
entries_from told c i [] = refl
entries_from told c i (e ∷ es) = ap (λ (xs : List Entry). e ∷ xs) (entries_from told c (suc i) es)

-- the entries of the history are the log
pub history-entries : (told : Bool) (c : CatState) → entries_of (history told c) ≡ c.log
history-entries told c = entries_from told c 0 c.log

length_from : (told : Bool) (c : CatState) (i : ℕ) (es : List Entry) → length (history_from told c i es) ≡ length es
length_from told c i [] = refl
length_from told c i (e ∷ es) = ap suc (length_from told c (suc i) es)

pub length-history : (told : Bool) (c : CatState) → length (history told c) ≡ length c.log
length-history told c = length_from told c 0 c.log

-- the deposits of the first m places are the same
abbrev pub SameDeposits : Bool → CatState → CatState → ℕ → Type 0
SameDeposits told c d m = (i : ℕ) (kind : EntryKind) → i < m → deposit_at told d i kind ≡ deposit_at told c i kind

abbrev noted_as : Entry → Deposit → Noted
noted_as e d = record { entry = e; deposit = d }

from_grows : (told : Bool) (c d : CatState) (i m : ℕ) (es : List Entry) (n : Noted) → i + length es ≡ m → SameDeposits told c d m → deposit_at told d m n.entry.kind ≡ n.deposit
    → history_from told d i (es ++ n.entry ∷ []) ≡ history_from told c i es ++ n ∷ []
from_grows told c d i m [] n e same new = ap (λ (x : Deposit). noted_as n.entry x ∷ []) (ap (λ j. deposit_at told d j n.entry.kind) (let x : i ≡ m = omega (arith, e) in x) ∙ new)
from_grows told c d i m (x ∷ es) n e same new =
    let rest = from_grows told c d (suc i) m es n (omega (arith, e)) same new in
    ap (λ (y : Deposit). noted_as x y ∷ history_from told d (suc i) (es ++ n.entry ∷ [])) (same i x.kind (omega (arith, e)))
    ∙ ap (λ (xs : List Noted). noted_as x (deposit_at told c i x.kind) ∷ xs) rest

-- one entry more
pub history-push : (told : Bool) (c d : CatState) (n : Noted) → d.log ≡ c.log ++ n.entry ∷ [] → SameDeposits told c d (length c.log) → deposit_at told d (length c.log) n.entry.kind ≡ n.deposit
    → history told d ≡ history told c ++ n ∷ []
history-push told c d n log same new = ap (λ es. history_from told d 0 es) log ∙ from_grows told c d 0 (length c.log) c.log n (let e : 0 + length c.log ≡ length c.log = omega arith in e) same new

pub other_place : (i j : ℕ) → i ≢ j → (i == j) ≡ false
other_place i j d = (let f : (b : Bool) → (i == j) ≡ b → (i == j) ≡ false = off in f (i == j) refl)
  where
    off : (b : Bool) → (i == j) ≡ b → (i == j) ≡ false
    off true e = absurd (d (eqb-true i j e))
    off false e = e

not_at : (i : ℕ) (x : Change) → place_of x ≢ i → is_change_at i x ≡ false
not_at i (change.Made place def) d = other_place place i d
not_at i (change.Added place table column) d = other_place place i d

-- what was left before is not found at a later place
pub none_found : (i : ℕ) (xs : List Change) → AllByRecursion (λ (x : Change). place_of x < i) xs → find (is_change_at i) xs ≡ None
none_found i [] h = refl
none_found i (x ∷ xs) h = ap (λ b. cond b (Some x) (find (is_change_at i) xs)) (not_at i x (λ e. absurd (omega (arith, e, h.0)))) ∙ none_found i xs h.1

found_push : (i : ℕ) (xs : List Change) (x : Change) → place_of x ≢ i → find (is_change_at i) (xs ++ x ∷ []) ≡ find (is_change_at i) xs
found_push i [] x d = ap (λ b. cond b (Some x) None) (not_at i x d)
found_push i (y ∷ ys) x d = ap (λ r. cond (is_change_at i y) (Some y) r) (found_push i ys x d)

is_at : (x : Change) → is_change_at (place_of x) x ≡ true
is_at (change.Made place def) = eq-eqb place place refl
is_at (change.Added place table column) = eq-eqb place place refl

pub found_last : (i : ℕ) (xs : List Change) (x : Change) → AllByRecursion (λ (x : Change). place_of x < i) xs → place_of x ≡ i → find (is_change_at i) (xs ++ x ∷ []) ≡ Some x
found_last i [] x h e = ap (λ b. cond b (Some x) None) (ap (λ j. is_change_at j x) (sym e) ∙ is_at x)
found_last i (y ∷ ys) x h e = ap (λ b. cond b (Some y) (find (is_change_at i) (ys ++ x ∷ []))) (not_at i y (λ f. absurd (omega (arith, f, h.0)))) ∙ found_last i ys x h.1 e

pub further_changes : (i j : ℕ) (xs : List Change) → i ≤ j → AllByRecursion (λ (x : Change). place_of x < i) xs → AllByRecursion (λ (x : Change). place_of x < j) xs
further_changes i j [] le h = tt
further_changes i j (x ∷ xs) le h = (omega (arith, h.0), further_changes i j xs le h.1)

pub push_changes : (i : ℕ) (xs : List Change) (x : Change) → AllByRecursion (λ (x : Change). place_of x < i) xs → place_of x < i → AllByRecursion (λ (x : Change). place_of x < i) (xs ++ x ∷ [])
push_changes i [] x h lt = (lt, tt)
push_changes i (y ∷ ys) x h lt = (h.0, push_changes i ys x h.1 lt)

-- an entry that is no Commit leaves nothing where no change is found
pub nothing_left : (told : Bool) (c : CatState) (i : ℕ) (kind : EntryKind) → kind ≢ entry.Commit → find (is_change_at i) c.changes ≡ None → deposit_at told c i kind ≡ Nothing
nothing_left told c i entry.Commit d e = absurd (d refl)
nothing_left told c i entry.Create d e = ap deposit_of e
nothing_left told c i entry.Alter d e = ap deposit_of e
nothing_left told c i entry.Look d e = refl
nothing_left told c i (entry.Lend t n) d e = refl
nothing_left told c i (entry.Full t) d e = refl
nothing_left told c i (entry.Sweep t n) d e = refl
nothing_left told c i entry.Idle d e = refl
nothing_left told c i (entry.Adopt t n) d e = refl
nothing_left told c i (entry.Back t n clean) d e = refl
nothing_left told c i (entry.Mark node up) d e = refl
nothing_left told c i entry.Restart d e = refl

-- deposits are the same where the changes found there and the growths are
deposit_same : (told : Bool) (c d : CatState) (i : ℕ) (kind : EntryKind) → find (is_change_at i) d.changes ≡ find (is_change_at i) c.changes
    → map (growth_of told d.tables) (filter (is_grown_at i) d.grown) ≡ map (growth_of told c.tables) (filter (is_grown_at i) c.grown) → deposit_at told d i kind ≡ deposit_at told c i kind
deposit_same told c d i entry.Commit e f = ap Published f
deposit_same told c d i entry.Create e f = ap deposit_of e
deposit_same told c d i entry.Alter e f = ap deposit_of e
deposit_same told c d i entry.Look e f = refl
deposit_same told c d i (entry.Lend t n) e f = refl
deposit_same told c d i (entry.Full t) e f = refl
deposit_same told c d i (entry.Sweep t n) e f = refl
deposit_same told c d i entry.Idle e f = refl
deposit_same told c d i (entry.Adopt t n) e f = refl
deposit_same told c d i (entry.Back t n clean) e f = refl
deposit_same told c d i (entry.Mark node up) e f = refl
deposit_same told c d i entry.Restart e f = refl

map_picked : (told : Bool) (old new : List TableState) (i : ℕ) (g : Grown) (gs : List Grown) (b : Bool) → (b ≡ true → growth_of told new g ≡ growth_of told old g)
    → map (growth_of told new) (filter (is_grown_at i) gs) ≡ map (growth_of told old) (filter (is_grown_at i) gs)
    → map (growth_of told new) (cond b (g ∷ filter (is_grown_at i) gs) (filter (is_grown_at i) gs)) ≡ map (growth_of told old) (cond b (g ∷ filter (is_grown_at i) gs) (filter (is_grown_at i) gs))
map_picked told old new i g gs true e f = ap (λ x. x ∷ map (growth_of told new) (filter (is_grown_at i) gs)) (e refl) ∙ ap (λ xs. growth_of told old g ∷ xs) f
map_picked told old new i g gs false e f = f

-- each growth has the bytes that it had
abbrev pub SameGrowths : Bool → List TableState → List TableState → List Grown → Type 0
SameGrowths told old new gs = AllByRecursion (λ (g : Grown). growth_of told new g ≡ growth_of told old g) gs

pub growths_same : (told : Bool) (old new : List TableState) (i : ℕ) (gs : List Grown) → SameGrowths told old new gs
    → map (growth_of told new) (filter (is_grown_at i) gs) ≡ map (growth_of told old) (filter (is_grown_at i) gs)
growths_same told old new i [] h = refl
growths_same told old new i (g ∷ gs) h = map_picked told old new i g gs (is_grown_at i g) (λ _. h.0) (growths_same told old new i gs h.1)

filter_none : (i : ℕ) (gs : List Grown) → AllByRecursion (λ (g : Grown). g.place ≢ i) gs → filter (is_grown_at i) gs ≡ []
filter_none i [] h = refl
filter_none i (g ∷ gs) h = ap (λ b. cond b (g ∷ filter (is_grown_at i) gs) (filter (is_grown_at i) gs)) (other_place g.place i h.0) ∙ filter_none i gs h.1

filter_all : (i : ℕ) (gs : List Grown) → AllByRecursion (λ (g : Grown). g.place ≡ i) gs → filter (is_grown_at i) gs ≡ gs
filter_all i [] h = refl
filter_all i (g ∷ gs) h =
    let here : (g.place == i) ≡ true = eq-eqb g.place i h.0 in
    ap (λ b. cond b (g ∷ filter (is_grown_at i) gs) (filter (is_grown_at i) gs)) here ∙ ap (λ (xs : List Grown). g ∷ xs) (filter_all i gs h.1)

cond_append : {A : Type 0} (b : Bool) (x : A) (xs ys zs : List A) → xs ≡ ys ++ zs → cond b (x ∷ xs) xs ≡ cond b (x ∷ ys) ys ++ zs
cond_append true x xs ys zs e = ap (λ l. x ∷ l) e
cond_append false x xs ys zs e = e

filter_append : (i : ℕ) (xs ys : List Grown) → filter (is_grown_at i) (xs ++ ys) ≡ filter (is_grown_at i) xs ++ filter (is_grown_at i) ys
filter_append i [] ys = refl
filter_append i (x ∷ xs) ys = cond_append (is_grown_at i x) x (filter (is_grown_at i) (xs ++ ys)) (filter (is_grown_at i) xs) (filter (is_grown_at i) ys) (filter_append i xs ys)

not_past : (told : Bool) (tables : List TableState) (m : ℕ) (gs : List Grown) → AllByRecursion (IsPast told tables m) gs → AllByRecursion (λ (g : Grown). g.place ≢ m) gs
not_past told tables m [] h = tt
not_past told tables m (g ∷ gs) h = ((λ e. absurd (omega (arith, e, h.0.past))), not_past told tables m gs h.1)

now_not : (i m : ℕ) (gs : List Grown) → i < m → AllByRecursion (λ (g : Grown). g.place ≡ m) gs → AllByRecursion (λ (g : Grown). g.place ≢ i) gs
now_not i m [] lt h = tt
now_not i m (g ∷ gs) lt h = ((λ e. absurd (omega (arith, e, h.0))), now_not i m gs lt h.1)

-- growths added at place m are found there alone
pub grown_before : (i m : ℕ) (gs news : List Grown) → i < m → AllByRecursion (λ (g : Grown). g.place ≡ m) news → filter (is_grown_at i) (gs ++ news) ≡ filter (is_grown_at i) gs
grown_before i m gs news lt h = filter_append i gs news ∙ ap (λ xs. filter (is_grown_at i) gs ++ xs) (filter_none i news (now_not i m news lt h)) ∙ append-nil (filter (is_grown_at i) gs)

pub grown_now : (told : Bool) (tables : List TableState) (m : ℕ) (gs news : List Grown) → AllByRecursion (IsPast told tables m) gs → AllByRecursion (λ (g : Grown). g.place ≡ m) news → filter (is_grown_at m) (gs ++ news) ≡ news
grown_now told tables m gs news past now = filter_append m gs news ∙ ap (λ xs. xs ++ filter (is_grown_at m) news) (filter_none m gs (not_past told tables m gs past)) ∙ filter_all m news now

-- no deposit changes where the seals keep the bytes of the growths, and what is new stands at the next place
pub deposits_stay : (told : Bool) (c d : CatState) (news : List Grown) → ((i : ℕ) → i < length c.log → find (is_change_at i) d.changes ≡ find (is_change_at i) c.changes)
    → d.grown ≡ c.grown ++ news → AllByRecursion (λ (g : Grown). g.place ≡ length c.log) news → SameGrowths told c.tables d.tables c.grown → SameDeposits told c d (length c.log)
deposits_stay told c d news changes grown now same i kind lt = deposit_same told c d i kind (changes i lt)
    (ap (λ gs. map (growth_of told d.tables) (filter (is_grown_at i) gs)) grown ∙ ap (map (growth_of told d.tables)) (grown_before i (length c.log) c.grown news lt now) ∙ growths_same told c.tables d.tables i c.grown same)

pub changes_stay : (i : ℕ) (xs : List Change) (x : Change) (m : ℕ) → place_of x ≡ m → i < m → find (is_change_at i) (xs ++ x ∷ []) ≡ find (is_change_at i) xs
changes_stay i xs x m e lt = found_push i xs x (λ f. absurd (omega (arith, e, f)))

change_from_push : (p found : ℕ) (file : FileId) (ns : List Noted) (n : Noted)
    → last_change_from p found file (ns ++ n ∷ []) ≡ cond (is_among file (growths_in n.deposit)) (suc (p + length ns)) (last_change_from p found file ns)
change_from_push p found file [] n = ap (λ j. cond (is_among file (growths_in n.deposit)) (suc j) found) (let e : p ≡ p + 0 = omega arith in e)
change_from_push p found file (x ∷ ns) n =
    change_from_push (suc p) (cond (is_among file (growths_in x.deposit)) (suc p) found) file ns n
    ∙ ap (λ k. cond (is_among file (growths_in n.deposit)) (suc k) (last_change_from (suc p) (cond (is_among file (growths_in x.deposit)) (suc p) found) file ns)) (let e : suc p + length ns ≡ p + suc (length ns) = omega arith in e)

-- where the last change is, after one entry more
pub last_change-push : (ns : List Noted) (n : Noted) (file : FileId) → last_change (ns ++ n ∷ []) file ≡ cond (is_among file (growths_in n.deposit)) (suc (length ns)) (last_change ns file)
last_change-push ns n file = change_from_push 0 0 file ns n ∙ ap (λ k. cond (is_among file (growths_in n.deposit)) (suc k) (last_change ns file)) (let e : 0 + length ns ≡ length ns = omega arith in e)
