-- Logs with one entry more.
use Rattle.std.proofs.Common.{◌≡◌, ◌↔◌, ℕ, Bool, true, false, cond, List, [], ◌∷◌, ◌++◌, length, replicate, fold, refl, sym, ◌∙◌, subst, append_assoc, append-nil, length-set, set, eqb}
use Rattle.std.proofs.lemmas.List.{length-map, length-replicate}
use Rattle.hq_value.specs.declared.entry.Entry.{Entry}
use Rattle.hq_value.specs.declared.entry.EntryKind.{EntryKind}
use Rattle.hq_value.specs.declared.entry.EntryKind.TheVariants as entry
use Rattle.hq_log.specs.declared.place.Place.{Place}
use Rattle.hq_log.specs.declared.place.Place.TheVariants.{Out, Sweeping}
use Rattle.hq_log.specs.Pools.{pool, places_after, unborn_places, committed, home, restarted}
use Rattle.hq_log.specs.Marks.{marks, marks_after}
use Rattle.hq_log.specs.Legal.{IsLawful, AreLawful, IsLegal}

length-chosen : {A : Type 0} (b : Bool) (xs : List A) (n : ℕ) (x : A) → length (cond b (set xs n x) xs) ≡ length xs
length-chosen true xs n x = length-set xs n x
length-chosen false xs n x = refl

pub length-places_after : (t : ℕ) (places : List Place) (k : ℕ) (kind : EntryKind) → length (places_after t places k kind) ≡ length places
length-places_after t places k (entry.Lend u n) = length-chosen (eqb t u) places n (Out k)
length-places_after t places k (entry.Sweep u n) = length-chosen (eqb t u) places n (Sweeping k)
length-places_after t places k (entry.Adopt u n) = length-chosen (eqb t u) places n (Out k)
length-places_after t places k (entry.Back u n clean) = length-chosen (eqb t u) places n (home clean)
length-places_after t places k entry.Commit = length-map places (committed k)
length-places_after t places k entry.Look = refl
length-places_after t places k entry.Create = refl
length-places_after t places k (entry.Full u) = refl
length-places_after t places k entry.Idle = refl
length-places_after t places k (entry.Mark node up) = refl
length-places_after t places k entry.Alter = refl
length-places_after t places k entry.Restart = length-map places restarted

-- a fold whose steps keep the length keeps it
length-fold : {A B : Type 0} (step : List A → B → List A) → ((xs : List A) (y : B) → length (step xs y) ≡ length xs) → (ys : List B) (xs : List A) → length (fold step xs ys) ≡ length xs
length-fold step keeps [] xs = refl
length-fold step keeps (y ∷ ys) xs = length-fold step keeps ys (step xs y) ∙ keeps xs y

pub length-pool : (log : List Entry) (t : ℕ) → length (pool log t) ≡ 64
length-pool log t = length-fold (λ places e. places_after t places e.session e.kind) (λ places e. length-places_after t places e.session e.kind) log unborn_places

length-marks_after : (marks : List Bool) (kind : EntryKind) → length (marks_after marks kind) ≡ length marks
length-marks_after marks (entry.Mark node up) = length-set marks node up
length-marks_after marks entry.Look = refl
length-marks_after marks entry.Create = refl
length-marks_after marks (entry.Lend u n) = refl
length-marks_after marks (entry.Full u) = refl
length-marks_after marks (entry.Sweep u n) = refl
length-marks_after marks entry.Idle = refl
length-marks_after marks (entry.Adopt u n) = refl
length-marks_after marks entry.Commit = refl
length-marks_after marks (entry.Back u n clean) = refl
length-marks_after marks entry.Alter = refl
length-marks_after marks entry.Restart = length-replicate (length marks) true

pub length-marks : (nodes : ℕ) (log : List Entry) → length (marks nodes log) ≡ nodes
length-marks nodes log = length-fold (λ marks e. marks_after marks e.kind) (λ marks e. length-marks_after marks e.kind) log (replicate nodes true) ∙ length-replicate nodes true

-- entries are lawful where the first ones and the last one are
pub AreLawful-push : (nodes : ℕ) (before es : List Entry) (e : Entry) → AreLawful nodes before (es ++ e ∷ []) → AreLawful nodes before es × IsLawful nodes (before ++ es) e.session e.kind
AreLawful-push nodes before [] e h = (tt, subst (λ log. IsLawful nodes log e.session e.kind) (sym (append-nil before)) h.0)
AreLawful-push nodes before (x ∷ es) e h =
    let rest = AreLawful-push nodes (before ++ x ∷ []) es e h.1 in
    ((h.0, rest.0), subst (λ log. IsLawful nodes log e.session e.kind) (append_assoc before (x ∷ []) es) rest.1)

pub AreLawful-pushed : (nodes : ℕ) (before es : List Entry) (e : Entry) → AreLawful nodes before es → IsLawful nodes (before ++ es) e.session e.kind → AreLawful nodes before (es ++ e ∷ [])
AreLawful-pushed nodes before [] e are last = (subst (λ log. IsLawful nodes log e.session e.kind) (append-nil before) last, tt)
AreLawful-pushed nodes before (x ∷ es) e are last =
    (are.0, AreLawful-pushed nodes (before ++ x ∷ []) es e are.1 (subst (λ log. IsLawful nodes log e.session e.kind) (sym (append_assoc before (x ∷ []) es)) last))

pub IsLegal-push : (nodes : ℕ) (log : List Entry) (e : Entry) → IsLegal nodes (log ++ e ∷ []) ↔ (IsLegal nodes log × IsLawful nodes log e.session e.kind)
IsLegal-push nodes log e = (AreLawful-push nodes [] log e, λ h. AreLawful-pushed nodes [] log e h.0 h.1)
