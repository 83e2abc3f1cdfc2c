-- A step that adds to no file keeps what holds of a catalogue.
use Rattle.std.proofs.Common.{◌≡◌, ℕ, suc, ◌<◌, ◌≤◌, Bool, true, false, cond, List, [], ◌∷◌, ◌++◌, length, map, take, drop, replicate, Option, sym, ◌∙◌, ap, subst, arith, length-append}
use Rattle.std.specs.List.{AllByRecursion, find}
use Rattle.std.proofs.lemmas.List.{append-nil, append_assoc}
use Rattle.std.proofs.lemmas.List.Sums.{fold-append}
use Rattle.hq_value.specs.declared.entry.Entry.{Entry}
use Rattle.hq_value.specs.declared.entry.FileId.{FileId}
use Rattle.hq_log.specs.Pools.{pool, places_after}
use Rattle.hq_log.specs.Marks.{marks, marks_after}
use Rattle.hq_log.specs.Legal.{IsLawful, IsLegal}
use Rattle.hq_log.proofs.Logs.{IsLegal-push, length-marks}
use Rattle.hq_store.specs.FileStep.{SealState}
use Rattle.hq_lane.specs.Lanes.{id_of}
use Rattle.hq_history.specs.declared.noted.Noted.{Noted}
use Rattle.hq_history.specs.declared.noted.Growth.{Growth}
use Rattle.hq_history.specs.Deposits.{tables_left, tables_after, growths_in, length_left, length_after, bytes_left, bytes_of, IsDeposit, IsHistory}
use Rattle.hq_history.proofs.Files.{IsHistory-push, length_left-push, bytes_left-push}
use Rattle.hq_snap.specs.Snaps.{seal_bytes}
use Rattle.hq_catalog.specs.declared.kept.Change.{Change}
use Rattle.hq_catalog.specs.declared.kept.Grown.{Grown}
use Rattle.hq_catalog.specs.Files.{is_among, last_change}
use Rattle.hq_catalog.specs.State.{TableState, CatState, table_in, places_in, seal_of, change_of}
use Rattle.hq_catalog.specs.History.{history, deposit_at, is_change_at}
use Rattle.hq_catalog.specs.Stands.{HasSeal, IsOwnGrowth, IsOwnStep, AreOwnSteps, is_restart}
use Rattle.hq_catalog.specs.Kept.{IsTable, IsPast, IsCatalogue, place_of}
use Rattle.hq_catalog.proofs.History.{SameDeposits, SameGrowths, history-push, deposits_stay, last_change-push}
use Rattle.hq_catalog.proofs.Others.{pool-push, tables-push}

-- the catalogue stays one, and its history has one entry more
abbrev pub Keeps : Bool → CatState → CatState → Noted → Type 0
Keeps told c d n = IsCatalogue told d × (history told d ≡ history told c ++ n ∷ [])

marks-push : (nodes : ℕ) (log : List Entry) (e : Entry) → marks nodes (log ++ e ∷ []) ≡ marks_after (marks nodes log) e.kind
marks-push nodes log e = fold-append (λ ms (x : Entry). marks_after ms x.kind) (replicate nodes true) log (e ∷ [])

pub own_pushed : (told : Bool) (before ns : List Noted) (n : Noted) → AreOwnSteps told before ns → IsOwnStep told (before ++ ns) n → AreOwnSteps told before (ns ++ n ∷ [])
own_pushed told before [] n are last = (subst (λ h. IsOwnStep told h n) (append-nil before) last, tt)
own_pushed told before (x ∷ ns) n are last = (are.0, own_pushed told (before ++ x ∷ []) ns n are.1 (subst (λ h. IsOwnStep told h n) (sym (append_assoc before (x ∷ []) ns)) last))

-- what holds of the marks, and how many they are
pub marks_kept : (ms new : List Bool) (log : List Entry) (e : Entry) → ms ≡ marks (length ms) log → new ≡ marks_after ms e.kind → (length new ≡ length ms) × (new ≡ marks (length new) (log ++ e ∷ []))
marks_kept ms new log e old after =
    let now : new ≡ marks (length ms) (log ++ e ∷ []) = after ∙ ap (λ x. marks_after x e.kind) old ∙ sym (marks-push (length ms) log e) in
    let same : length new ≡ length ms = ap length now ∙ length-marks (length ms) (log ++ e ∷ []) in
    (same, now ∙ ap (λ k. marks k (log ++ e ∷ [])) (sym same))

-- what the history says of a file stays
length_same : (h : List Noted) (n : Noted) (file : FileId) → growths_in n.deposit ≡ [] → length_left (h ++ n ∷ []) file ≡ length_left h file
length_same h n file none = length_left-push h n file ∙ ap (length_after file (length_left h file)) none

bytes_same : (h : List Noted) (n : Noted) (file : FileId) → growths_in n.deposit ≡ [] → bytes_left (h ++ n ∷ []) file ≡ bytes_left h file
bytes_same h n file none = bytes_left-push h n file ∙ ap (λ gs. bytes_left h file ++ bytes_of file gs) none ∙ append-nil (bytes_left h file)

change_same : (h : List Noted) (n : Noted) (file : FileId) → growths_in n.deposit ≡ [] → last_change (h ++ n ∷ []) file ≡ last_change h file
change_same h n file none = last_change-push h n file ∙ ap (λ gs. cond (is_among file gs) (suc (length h)) (last_change h file)) none

seal_same : (told : Bool) (h : List Noted) (n : Noted) (file : FileId) (s : Option SealState) → growths_in n.deposit ≡ [] → HasSeal told h file s → HasSeal told (h ++ n ∷ []) file s
seal_same told h n file s none has = record {
  len = has.len ∙ sym (length_same h n file none);
  bytes = λ t. has.bytes t ∙ sym (bytes_same h n file none);
  some = λ lt. has.some (subst (λ k. 0 < k) (change_same h n file none) lt);
  none = λ e. has.none (sym (change_same h n file none) ∙ e);
  id = has.id;
}

further_past : (told : Bool) (old new : List TableState) (i j : ℕ) (gs : List Grown) → i ≤ j → ((g : Grown) → seal_of new g.file ≡ seal_of old g.file) → AllByRecursion (IsPast told old i) gs → AllByRecursion (IsPast told new j) gs
further_past told old new i j [] le same h = tt
further_past told old new i j (g ∷ gs) le same h = (
  record { past = omega (arith, h.0.past, le); under = λ t. subst (λ s. g.after ≤ length (seal_bytes s)) (sym (same g)) (h.0.under t) },
  further_past told old new i j gs le same h.1,
)

abbrev grown_with : Bool → Grown → Option SealState → Growth
grown_with told g s = record { file = g.file; before = g.before; after = g.after; bytes = cond told (drop g.before (take g.after (seal_bytes s))) [] }

same_growths : (told : Bool) (old new : List TableState) (gs : List Grown) → ((g : Grown) → seal_of new g.file ≡ seal_of old g.file) → SameGrowths told old new gs
same_growths told old new [] same = tt
same_growths told old new (g ∷ gs) same = (
  ap (grown_with told g) (same g),
  same_growths told old new gs same,
)

-- from c to d by the entry n, which adds to no file
pub record IsQuiet (told : Bool) (c d : CatState) (n : Noted) : Type 0 where
  pub log : d.log ≡ c.log ++ n.entry ∷ []
  pub grown : d.grown ≡ c.grown
  pub found : (i : ℕ) → i < length c.log → find (is_change_at i) d.changes ≡ find (is_change_at i) c.changes
  pub changes : AllByRecursion (λ (x : Change). place_of x < length d.log) d.changes
  pub deposit : deposit_at told d (length c.log) n.entry.kind ≡ n.deposit
  pub none : growths_in n.deposit ≡ []
  pub lawful : IsLawful (length c.marks) c.log n.entry.session n.entry.kind
  pub carried : IsDeposit told (history told c) n
  pub runs : is_restart n.entry.kind ≡ false
  pub marks : d.marks ≡ marks_after c.marks n.entry.kind
  pub definitions : map (λ (t : TableState). t.def) d.tables ≡ tables_after (map (λ (t : TableState). t.def) c.tables) n.deposit
  pub places : (t : ℕ) → places_in d.tables t ≡ places_after t (places_in c.tables t) n.entry.session n.entry.kind
  pub tables : (t : ℕ) → t < length d.tables → IsTable told t (table_in d.tables t)
  pub few : length d.tables ≤ 64
  pub seals : (t n b : ℕ) → seal_of d.tables (id_of t n b) ≡ seal_of c.tables (id_of t n b)
  pub changed : (t n b : ℕ) → change_of d.tables (id_of t n b) ≡ change_of c.tables (id_of t n b)

pub quiet : (told : Bool) (c d : CatState) (n : Noted) → IsCatalogue told c → IsQuiet told c d n → Keeps told c d n
quiet told c d n ok q =
    let h = history told c in
    let same : (g : Grown) → seal_of d.tables g.file ≡ seal_of c.tables g.file = λ g. q.seals g.file.table g.file.lane g.file.bucket in
    let stay : SameDeposits told c d (length c.log) = deposits_stay told c d [] q.found (q.grown ∙ sym (append-nil c.grown)) tt (same_growths told c.tables d.tables c.grown same) in
    let grows : history told d ≡ h ++ n ∷ [] = history-push told c d n q.log stay q.deposit in
    let ms = marks_kept c.marks d.marks c.log n.entry ok.marks q.marks in
    let longer : length c.log ≤ length d.log = omega (arith, ap (λ (es : List Entry). length es) q.log, length-append c.log (n.entry ∷ [])) in (
      record {
        few = q.few;
        legal = subst (λ es. IsLegal (length d.marks) es) (sym q.log) (subst (λ k. IsLegal k (c.log ++ n.entry ∷ [])) (sym ms.0) ((IsLegal-push (length c.marks) c.log n.entry).1 (ok.legal, q.lawful)));
        deposits = subst (IsHistory told) (sym grows) ((IsHistory-push told h n).1 (ok.deposits, q.carried));
        own = subst (AreOwnSteps told []) (sym grows) (own_pushed told [] h n ok.own
            (record { growths = subst (λ gs. AllByRecursion (IsOwnGrowth told h n.entry.session) gs) (sym q.none) tt; runs = q.runs }));
        marks = ms.1 ∙ ap (λ es. marks (length d.marks) es) (sym q.log);
        definitions = q.definitions ∙ ap (λ ds. tables_after ds n.deposit) ok.definitions ∙ sym (tables-push h n) ∙ ap tables_left (sym grows);
        places = λ t. q.places t ∙ ap (λ ps. places_after t ps n.entry.session n.entry.kind) (ok.places t) ∙ sym (pool-push c.log n.entry t) ∙ ap (λ es. pool es t) (sym q.log);
        tables = q.tables;
        seals = λ t i b. subst (λ x. HasSeal told x (id_of t i b) (seal_of d.tables (id_of t i b))) (sym grows)
            (subst (HasSeal told (h ++ n ∷ []) (id_of t i b)) (sym (q.seals t i b)) (seal_same told h n (id_of t i b) (seal_of c.tables (id_of t i b)) q.none (ok.seals t i b)));
        changed = λ t i b. q.changed t i b ∙ ok.changed t i b ∙ sym (change_same h n (id_of t i b) q.none) ∙ ap (λ x. last_change x (id_of t i b)) (sym grows);
        changes = q.changes;
        grown = subst (AllByRecursion (IsPast told d.tables (length d.log))) (sym q.grown) (further_past told c.tables d.tables (length c.log) (length d.log) c.grown longer same ok.grown);
      },
      grows,
    )
