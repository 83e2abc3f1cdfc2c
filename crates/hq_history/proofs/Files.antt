-- What deposits leave, by one entry more.
use Rattle.std.proofs.Common.{◌≡◌, ◌↔◌, ◌&&◌, ◌||◌, ◌+◌, ℕ, zero, suc, Bool, true, false, not, cond, eqb, List, [], ◌∷◌, ◌++◌, length, map, sym, refl, ap, ◌∙◌, subst, arith, length-append}
use Rattle.std.specs.List.{All, list_any}
use Rattle.std.proofs.lemmas.Bool.{eqb-true, not-true}
use Rattle.std.proofs.lemmas.List.{append-nil, append_assoc}
use Rattle.std.proofs.lemmas.Grind.{flat_map-append}
use Rattle.hq_value.specs.declared.entry.FileId.{FileId}
use Rattle.hq_value.specs.declared.entry.EntryKind.{EntryKind}
use Rattle.hq_value.specs.Tables.{are_distinct}
use Rattle.hq_history.specs.declared.noted.Noted.{Noted}
use Rattle.hq_history.specs.declared.noted.Growth.{Growth}
use Rattle.hq_history.specs.declared.noted.Deposit.{Deposit}
use Rattle.hq_history.specs.declared.noted.Deposit.TheVariants.{Nothing, Made, Added, Published}
use Rattle.hq_history.specs.Deposits.{growths_left, growths_in, is_same_file, length_left, length_after, bytes_left, bytes_of, IsGrowth, MayCarry, IsDeposit, AreDeposits, IsHistory}

-- deposits may be carried where those of the first entries and of the last may
AreDeposits-push : (told : Bool) (before ns : List Noted) (n : Noted) → AreDeposits told before (ns ++ n ∷ []) → AreDeposits told before ns × IsDeposit told (before ++ ns) n
AreDeposits-push told before [] n h = (tt, subst (λ log. IsDeposit told log n) (sym (append-nil before)) h.0)
AreDeposits-push told before (x ∷ ns) n h =
    let rest = AreDeposits-push told (before ++ x ∷ []) ns n h.1 in
    ((h.0, rest.0), subst (λ log. IsDeposit told log n) (append_assoc before (x ∷ []) ns) rest.1)

AreDeposits-pushed : (told : Bool) (before ns : List Noted) (n : Noted) → AreDeposits told before ns → IsDeposit told (before ++ ns) n → AreDeposits told before (ns ++ n ∷ [])
AreDeposits-pushed told before [] n are last = (subst (λ log. IsDeposit told log n) (append-nil before) last, tt)
AreDeposits-pushed told before (x ∷ ns) n are last =
    (are.0, AreDeposits-pushed told (before ++ x ∷ []) ns n are.1 (subst (λ log. IsDeposit told log n) (sym (append_assoc before (x ∷ []) ns)) last))

pub IsHistory-push : (told : Bool) (history : List Noted) (n : Noted) → IsHistory told (history ++ n ∷ []) ↔ (IsHistory told history × IsDeposit told history n)
IsHistory-push told history n = (AreDeposits-push told [] history n, λ h. AreDeposits-pushed told [] history n h.0 h.1)

pub growths_left-push : (history : List Noted) (n : Noted) → growths_left (history ++ n ∷ []) ≡ growths_left history ++ growths_in n.deposit
growths_left-push history n = flat_map-append (λ (x : Noted). growths_in x.deposit) history (n ∷ []) ∙ ap (λ l. growths_left history ++ l) (append-nil (growths_in n.deposit))

length_after-append : (file : FileId) (m : ℕ) (gs hs : List Growth) → length_after file m (gs ++ hs) ≡ length_after file (length_after file m gs) hs
length_after-append file m [] hs = refl
length_after-append file m (g ∷ gs) hs = length_after-append file (cond (is_same_file g.file file) g.after m) gs hs

pub length_left-push : (history : List Noted) (n : Noted) (file : FileId) → length_left (history ++ n ∷ []) file ≡ length_after file (length_left history file) (growths_in n.deposit)
length_left-push history n file = ap (length_after file 0) (growths_left-push history n) ∙ length_after-append file 0 (growths_left history) (growths_in n.deposit)

bytes_step : (b : Bool) (bytes xs ys zs : List ℕ) → xs ≡ ys ++ zs → cond b (bytes ++ xs) xs ≡ cond b (bytes ++ ys) ys ++ zs
bytes_step true bytes xs ys zs e = ap (λ l. bytes ++ l) e ∙ sym (append_assoc bytes ys zs)
bytes_step false bytes xs ys zs e = e

bytes_of-append : (file : FileId) (gs hs : List Growth) → bytes_of file (gs ++ hs) ≡ bytes_of file gs ++ bytes_of file hs
bytes_of-append file [] hs = refl
bytes_of-append file (g ∷ gs) hs = bytes_step (is_same_file g.file file) g.bytes (bytes_of file (gs ++ hs)) (bytes_of file gs) (bytes_of file hs) (bytes_of-append file gs hs)

pub bytes_left-push : (history : List Noted) (n : Noted) (file : FileId) → bytes_left (history ++ n ∷ []) file ≡ bytes_left history file ++ bytes_of file (growths_in n.deposit)
bytes_left-push history n file = ap (bytes_of file) (growths_left-push history n) ∙ bytes_of-append file (growths_left history) (growths_in n.deposit)

and_both : (a b : Bool) → (a && b) ≡ true → (a ≡ true) × (b ≡ true)
and_both true b e = (refl, e)
and_both false b e = cc

or_none : (a b : Bool) → (a || b) ≡ false → (a ≡ false) × (b ≡ false)
or_none true b e = cc
or_none false b e = (refl, e)

same_is : (a b : FileId) → is_same_file a b ≡ true → a ≡ b
same_is a b e =
    let h = and_both (eqb a.table b.table && eqb a.lane b.lane) (eqb a.bucket b.bucket) e in
    let g = and_both (eqb a.table b.table) (eqb a.lane b.lane) h.0 in
    λ i. record { table = eqb-true a.table b.table g.0 i; lane = eqb-true a.lane b.lane g.1 i; bucket = eqb-true a.bucket b.bucket h.1 i }

flipped : (a b : FileId) (x : Bool) → is_same_file b a ≡ x → is_same_file a b ≡ false → x ≡ false
flipped a b true e none =
    let p = same_is b a e in
    let q : is_same_file a b ≡ is_same_file b a = ap (λ x. is_same_file x b) (sym p) ∙ ap (is_same_file b) p in
    sym e ∙ sym q ∙ none
flipped a b false e none = refl

-- growths of other files leave a file as it is
absent : (file : FileId) (gs : List Growth) → list_any (is_same_file file) (map (λ (g : Growth). g.file) gs) ≡ false → (bytes_of file gs ≡ []) × ((m : ℕ) → length_after file m gs ≡ m)
absent file [] h = (refl, λ m. refl)
absent file (g ∷ gs) h =
    let o = or_none (is_same_file file g.file) (list_any (is_same_file file) (map (λ (x : Growth). x.file) gs)) h in
    let other : is_same_file g.file file ≡ false = flipped file g.file (is_same_file g.file file) refl o.0 in
    let rest = absent file gs o.1 in (
      ap (λ b. cond b (g.bytes ++ bytes_of file gs) (bytes_of file gs)) other ∙ rest.0,
      λ m. ap (λ b. length_after file (cond b g.after m) gs) other ∙ rest.1 m,
    )

grown_bytes : (history : List Noted) (file : FileId) (gs : List Growth) → All (IsGrowth true history) gs → are_distinct is_same_file (map (λ (g : Growth). g.file) gs) ≡ true → length (bytes_of file gs) + length_left history file ≡ length_after file (length_left history file) gs
grown_bytes history file [] all once = omega arith
grown_bytes history file (g ∷ gs) all once =
    let d = and_both (not (list_any (is_same_file g.file) (map (λ (x : Growth). x.file) gs))) (are_distinct is_same_file (map (λ (x : Growth). x.file) gs)) once in
    by_one (is_same_file g.file file) refl (grown_bytes history file gs (λ k y lt. all (suc k) y (omega arith)) d.1) (not-true (list_any (is_same_file g.file) (map (λ (x : Growth). x.file) gs)) d.0)
  where
    by_one : (b : Bool) → is_same_file g.file file ≡ b
        → length (bytes_of file gs) + length_left history file ≡ length_after file (length_left history file) gs
        → list_any (is_same_file g.file) (map (λ (x : Growth). x.file) gs) ≡ false
        → length (cond b (g.bytes ++ bytes_of file gs) (bytes_of file gs)) + length_left history file ≡ length_after file (cond b g.after (length_left history file)) gs
    by_one true e rest none =
        let p = same_is g.file file e in
        let a = absent file gs (subst (λ f. list_any (is_same_file f) (map (λ (x : Growth). x.file) gs) ≡ false) p none) in
        let one = all zero g (omega arith) in
        let begins : g.before ≡ length_left history file = one.begins ∙ ap (length_left history) p in
        let more = one.bytes in
        let up = one.grows in
        let l : length (g.bytes ++ bytes_of file gs) ≡ length g.bytes = length-append g.bytes (bytes_of file gs) ∙ ap (λ xs. length g.bytes + length xs) a.0 ∙ omega arith in
        let r : length_after file g.after gs ≡ g.after = a.1 g.after in
        omega (arith, l, r, begins, more, up)
    by_one false e rest none = rest

whole_step : (history : List Noted) (n : Noted) (file : FileId) (kind : EntryKind) (deposit : Deposit) → MayCarry true history kind deposit → length (bytes_left history file) ≡ length_left history file
    → length (bytes_left history file ++ bytes_of file (growths_in deposit)) ≡ length_after file (length_left history file) (growths_in deposit)
whole_step history n file kind Nothing may e = ap length (append-nil (bytes_left history file)) ∙ e
whole_step history n file kind (Made table) may e = ap length (append-nil (bytes_left history file)) ∙ e
whole_step history n file kind (Added m column) may e = ap length (append-nil (bytes_left history file)) ∙ e
whole_step history n file kind (Published gs) may e =
    let h = may.1 in
    let g = grown_bytes history file gs h.each h.once in
    let l = length-append (bytes_left history file) (bytes_of file gs) in
    omega (arith, l, g, e)

whole_from : (before ns : List Noted) (file : FileId) → AreDeposits true before ns → length (bytes_left before file) ≡ length_left before file → length (bytes_left (before ++ ns) file) ≡ length_left (before ++ ns) file
whole_from before [] file h e = subst (λ l. length (bytes_left l file) ≡ length_left l file) (sym (append-nil before)) e
whole_from before (n ∷ ns) file h e =
    let one = ap length (bytes_left-push before n file) ∙ whole_step before n file n.entry.kind n.deposit h.0 e ∙ sym (length_left-push before n file) in
    subst (λ l. length (bytes_left l file) ≡ length_left l file) (append_assoc before (n ∷ []) ns) (whole_from (before ++ n ∷ []) ns file h.1 one)

-- a file has as many bytes as its length says
pub bytes_are_whole : (history : List Noted) (file : FileId) → IsHistory true history → length (bytes_left history file) ≡ length_left history file
bytes_are_whole history file h = whole_from [] history file h refl
