-- What a Commit of lanes adds to files.
use Rattle.std.proofs.Common.{◌≡◌, ◌≢◌, ℕ, zero, suc, ◌+◌, ◌<◌, ◌&&◌, ◌||◌, eqb, Bool, true, false, cond, List, [], ◌∷◌, ◌++◌, length, Option, Some, None, flat_map, refl, sym, ◌∙◌, ap, subst, arith, eq-eqb}
use Rattle.std.specs.List.{AllByRecursion}
use Rattle.std.proofs.lemmas.Bool.{eqb-true}
use Rattle.std.proofs.lemmas.List.{append-nil, append_assoc}
use Rattle.hq_value.specs.declared.entry.FileId.{FileId}
use Rattle.hq_lane.specs.Lanes.{LaneState, id_of, file_of}
use Rattle.hq_lane.specs.BucketFiles.{BucketState, own_bytes}
use Rattle.hq_history.specs.declared.noted.Growth.{Growth}
use Rattle.hq_history.specs.Deposits.{is_same_file, length_after, bytes_of}
use Rattle.hq_catalog.specs.Commits.{grows, HasIds, is_lane, the_lane, the_file, AreApart}
use Rattle.hq_catalog.specs.Files.{is_among}
use Rattle.hq_catalog.specs.Lanes.{growth_of, growth_if_any, growths_in_lane, growths_of}
use Rattle.hq_catalog.proofs.History.{other_place}

abbrev pub has_grown : Option BucketState → Bool
has_grown None = false
has_grown (Some f) = grows f

abbrev pub grown_to : Option BucketState → ℕ → ℕ
grown_to None x = x
grown_to (Some f) x = cond (grows f) f.good x

abbrev pub grown_by : Bool → Option BucketState → List ℕ
grown_by told None = []
grown_by told (Some f) = cond (grows f) (cond told (own_bytes f) []) []

-- of this file the growths are those of o
pub record Does (told : Bool) (file : FileId) (o : Option BucketState) (gs : List Growth) : Type 0 where
  pub among : is_among file gs ≡ has_grown o
  pub len : (x : ℕ) → length_after file x gs ≡ grown_to o x
  pub bytes : bytes_of file gs ≡ grown_by told o

or_assoc : (a b c : Bool) → (a || (b || c)) ≡ ((a || b) || c)
or_assoc true b c = refl
or_assoc false b c = refl

among_append : (file : FileId) (xs ys : List Growth) → is_among file (xs ++ ys) ≡ (is_among file xs || is_among file ys)
among_append file [] ys = refl
among_append file (x ∷ xs) ys = ap (λ b. is_same_file x.file file || b) (among_append file xs ys) ∙ or_assoc (is_same_file x.file file) (is_among file xs) (is_among file ys)

len_append : (file : FileId) (m : ℕ) (xs ys : List Growth) → length_after file m (xs ++ ys) ≡ length_after file (length_after file m xs) ys
len_append file m [] ys = refl
len_append file m (x ∷ xs) ys = len_append file (cond (is_same_file x.file file) x.after m) xs ys

bytes_step : (b : Bool) (bytes xs ys zs : List ℕ) → xs ≡ ys ++ zs → cond b (bytes ++ xs) xs ≡ cond b (bytes ++ ys) ys ++ zs
bytes_step true bytes xs ys zs e = ap (λ l. bytes ++ l) e ∙ sym (append_assoc bytes ys zs)
bytes_step false bytes xs ys zs e = e

bytes_append : (file : FileId) (xs ys : List Growth) → bytes_of file (xs ++ ys) ≡ bytes_of file xs ++ bytes_of file ys
bytes_append file [] ys = refl
bytes_append file (x ∷ xs) ys = bytes_step (is_same_file x.file file) x.bytes (bytes_of file (xs ++ ys)) (bytes_of file xs) (bytes_of file ys) (bytes_append file xs ys)

or_false : (b : Bool) → (b || false) ≡ b
or_false true = refl
or_false false = refl

-- growths of other files before or behind change nothing
after_none : (told : Bool) (file : FileId) (o : Option BucketState) (xs ys : List Growth) → Does told file None xs → Does told file o ys → Does told file o (xs ++ ys)
after_none told file o xs ys none does = record {
  among = among_append file xs ys ∙ ap (λ b. b || is_among file ys) none.among ∙ does.among;
  len = λ x. len_append file x xs ys ∙ ap (λ k. length_after file k ys) (none.len x) ∙ does.len x;
  bytes = bytes_append file xs ys ∙ ap (λ l. l ++ bytes_of file ys) none.bytes ∙ does.bytes;
}

before_none : (told : Bool) (file : FileId) (o : Option BucketState) (xs ys : List Growth) → Does told file o xs → Does told file None ys → Does told file o (xs ++ ys)
before_none told file o xs ys does none = record {
  among = among_append file xs ys ∙ ap (λ b. is_among file xs || b) none.among ∙ or_false (is_among file xs) ∙ does.among;
  len = λ x. len_append file x xs ys ∙ none.len (length_after file x xs) ∙ does.len x;
  bytes = bytes_append file xs ys ∙ ap (λ l. bytes_of file xs ++ l) none.bytes ∙ append-nil (bytes_of file xs) ∙ does.bytes;
}

-- the growth of one file
one_by : (told : Bool) (f : BucketState) (file : FileId) (b : Bool) → grows f ≡ b → is_same_file f.id file ≡ true → Does told file (Some f) (cond b (growth_of told f ∷ []) [])
one_by told f file true e same = record {
  among = ap (λ y. y || false) same ∙ sym e;
  len = λ x. ap (λ y. cond y f.good x) same ∙ sym (ap (λ y. cond y f.good x) e);
  bytes = ap (λ y. cond y (cond told (own_bytes f) [] ++ []) []) same ∙ append-nil (cond told (own_bytes f) []) ∙ sym (ap (λ y. cond y (cond told (own_bytes f) []) []) e);
}
one_by told f file false e same = record {
  among = sym e;
  len = λ x. sym (ap (λ y. cond y f.good x) e);
  bytes = sym (ap (λ y. cond y (cond told (own_bytes f) []) []) e);
}

one : (told : Bool) (f : BucketState) (file : FileId) → is_same_file f.id file ≡ true → Does told file (Some f) (growth_if_any told f)
one told f file same = one_by told f file (grows f) refl same

other_by : (told : Bool) (f : BucketState) (file : FileId) (b : Bool) → is_same_file f.id file ≡ false → Does told file None (cond b (growth_of told f ∷ []) [])
other_by told f file true d = record {
  among = ap (λ y. y || false) d;
  len = λ x. ap (λ y. cond y f.good x) d;
  bytes = ap (λ y. cond y (cond told (own_bytes f) [] ++ []) []) d;
}
other_by told f file false d = record { among = refl; len = λ x. refl; bytes = refl }

other : (told : Bool) (f : BucketState) (file : FileId) → is_same_file f.id file ≡ false → Does told file None (growth_if_any told f)
other told f file d = other_by told f file (grows f) d

nothing : (told : Bool) (file : FileId) → Does told file None []
nothing told file = record { among = refl; len = λ x. refl; bytes = refl }

-- growths of files that are all others
all_other : (told : Bool) (file : FileId) (fs : List BucketState) → ((i : ℕ) → i < length fs → is_same_file (file_of fs i).id file ≡ false) → Does told file None (flat_map (growth_if_any told) fs)
all_other told file [] h = nothing told file
all_other told file (f ∷ fs) h = after_none told file None (growth_if_any told f) (flat_map (growth_if_any told) fs) (other told f file (h 0 (omega arith))) (all_other told file fs (λ i lt. h (suc i) (omega arith)))

-- the files have the ids of their places, the first of which is j
abbrev HaveIdsFrom : ℕ → ℕ → ℕ → List BucketState → Type 0
HaveIdsFrom t n j fs = (i : ℕ) → i < length fs → (file_of fs i).id ≡ id_of t n (j + i)

ids_rest : (t n j : ℕ) (f : BucketState) (fs : List BucketState) → HaveIdsFrom t n j (f ∷ fs) → HaveIdsFrom t n (suc j) fs
ids_rest t n j f fs ids i lt = ids (suc i) (omega arith) ∙ ap (id_of t n) (let e : j + suc i ≡ suc j + i = omega arith in e)

other_bucket : (t n i j : ℕ) → i ≢ j → is_same_file (id_of t n i) (id_of t n j) ≡ false
other_bucket t n i j d = ap (λ b. (eqb t t && eqb n n) && b) (other_place i j d) ∙ and_false (eqb t t && eqb n n)
  where
    and_false : (b : Bool) → (b && false) ≡ false
    and_false true = refl
    and_false false = refl

same_file : (file : FileId) → is_same_file file file ≡ true
same_file file = ap (λ b. (b && eqb file.lane file.lane) && eqb file.bucket file.bucket) (eq-eqb file.table file.table refl)
    ∙ ap (λ b. b && eqb file.bucket file.bucket) (eq-eqb file.lane file.lane refl) ∙ eq-eqb file.bucket file.bucket refl

-- each file of a lane
in_files : (told : Bool) (t n j b : ℕ) (fs : List BucketState) → HaveIdsFrom t n j fs → Does told (id_of t n (j + b)) (Some (file_of fs b)) (flat_map (growth_if_any told) fs)
in_files told t n j b [] ids = record { among = refl; len = λ x. refl; bytes = refl }
in_files told t n j zero (f ∷ fs) ids = before_none told (id_of t n (j + 0)) (Some f) (growth_if_any told f) (flat_map (growth_if_any told) fs)
    (one told f (id_of t n (j + 0)) (ap (λ x. is_same_file x (id_of t n (j + 0))) (ids 0 (omega arith)) ∙ same_file (id_of t n (j + 0))))
    (all_other told (id_of t n (j + 0)) fs (λ i lt. ap (λ x. is_same_file x (id_of t n (j + 0))) (ids (suc i) (omega arith)) ∙ other_bucket t n (j + suc i) (j + 0) (λ e. absurd (omega (arith, e)))))
in_files told t n j (suc b) (f ∷ fs) ids =
    let e : suc j + b ≡ j + suc b = omega arith in
    after_none told (id_of t n (j + suc b)) (Some (file_of fs b)) (growth_if_any told f) (flat_map (growth_if_any told) fs)
    (other told f (id_of t n (j + suc b)) (ap (λ x. is_same_file x (id_of t n (j + suc b))) (ids 0 (omega arith)) ∙ other_bucket t n (j + 0) (j + suc b) (λ e. absurd (omega (arith, e)))))
    (subst (λ i. Does told (id_of t n i) (Some (file_of fs b)) (flat_map (growth_if_any told) fs)) e (in_files told t n (suc j) b fs (ids_rest t n j f fs ids)))

ids_from : (l : LaneState) → HasIds l → HaveIdsFrom l.table l.number 0 l.files
ids_from l ids i lt = ids i lt ∙ ap (id_of l.table l.number) (let e : i ≡ 0 + i = omega arith in e)

in_lane : (told : Bool) (l : LaneState) (b : ℕ) → HasIds l → Does told (id_of l.table l.number b) (Some (file_of l.files b)) (growths_in_lane told l)
in_lane told l b ids = subst (λ i. Does told (id_of l.table l.number i) (Some (file_of l.files b)) (growths_in_lane told l)) (let e : 0 + b ≡ b = omega arith in e) (in_files told l.table l.number 0 b l.files (ids_from l ids))

pub lane_is : (t n : ℕ) (l : LaneState) → is_lane t n l ≡ true → (l.table ≡ t) × (l.number ≡ n)
lane_is t n l e = by (eqb l.table t) (eqb l.number n) refl refl e
  where
    by : (a b : Bool) → eqb l.table t ≡ a → eqb l.number n ≡ b → (a && b) ≡ true → (l.table ≡ t) × (l.number ≡ n)
    by true true x y e = (eqb-true l.table t x, eqb-true l.number n y)
    by true false x y e = cc
    by false b x y e = cc

other_lane : (t n b i : ℕ) (l : LaneState) → is_lane t n l ≡ false → is_same_file (id_of l.table l.number i) (id_of t n b) ≡ false
other_lane t n b i l e = ap (λ w. w && eqb i b) e

not_in_lane : (told : Bool) (t n b : ℕ) (l : LaneState) → HasIds l → is_lane t n l ≡ false → Does told (id_of t n b) None (growths_in_lane told l)
not_in_lane told t n b l ids e = all_other told (id_of t n b) l.files (λ i lt. ap (λ x. is_same_file x (id_of t n b)) (ids i lt) ∙ other_lane t n b i l e)

lanes_by : (told : Bool) (t n b : ℕ) (l : LaneState) (ls : List LaneState) → HasIds l → the_lane ls l.table l.number ≡ None → Does told (id_of t n b) (the_file (the_lane ls t n) b) (growths_of told ls)
    → (y : Bool) → is_lane t n l ≡ y → Does told (id_of t n b) (the_file (cond y (Some l) (the_lane ls t n)) b) (growths_in_lane told l ++ growths_of told ls)
lanes_by told t n b l ls ids gone rest true e =
    let is = lane_is t n l e in
    let none : the_lane ls t n ≡ None = sym (ap (λ x. the_lane ls x l.number) is.0 ∙ ap (λ x. the_lane ls t x) is.1) ∙ gone in
    before_none told (id_of t n b) (Some (file_of l.files b)) (growths_in_lane told l) (growths_of told ls)
    (subst (λ x. Does told (id_of x n b) (Some (file_of l.files b)) (growths_in_lane told l)) is.0 (subst (λ x. Does told (id_of l.table x b) (Some (file_of l.files b)) (growths_in_lane told l)) is.1 (in_lane told l b ids)))
    (subst (λ o. Does told (id_of t n b) (the_file o b) (growths_of told ls)) none rest)
lanes_by told t n b l ls ids gone rest false e = after_none told (id_of t n b) (the_file (the_lane ls t n) b) (growths_in_lane told l) (growths_of told ls) (not_in_lane told t n b l ids e) rest

-- what the growths of lanes do to each file
pub in_lanes : (told : Bool) (t n b : ℕ) (ls : List LaneState) → AllByRecursion HasIds ls → AreApart ls → Does told (id_of t n b) (the_file (the_lane ls t n) b) (growths_of told ls)
in_lanes told t n b [] ids apart = nothing told (id_of t n b)
in_lanes told t n b (l ∷ ls) ids apart = lanes_by told t n b l ls ids.0 apart.0 (in_lanes told t n b ls ids.1 apart.1) (is_lane t n l) refl

-- no file grows twice
abbrev pub GrowOnce : List Growth → Type 0
GrowOnce [] = Unit {0}
GrowOnce (g ∷ gs) = (is_among g.file gs ≡ false) × GrowOnce gs

once_append : (xs ys : List Growth) → GrowOnce xs → GrowOnce ys → AllByRecursion (λ (g : Growth). is_among g.file ys ≡ false) xs → GrowOnce (xs ++ ys)
once_append [] ys a b c = b
once_append (x ∷ xs) ys a b c = (among_append x.file xs ys ∙ ap (λ y. y || is_among x.file ys) a.0 ∙ c.0, once_append xs ys a.1 b c.1)

each_of_one : (P : FileId → Type 0) (told : Bool) (f : BucketState) (b : Bool) → P f.id → AllByRecursion (λ (g : Growth). P g.file) (cond b (growth_of told f ∷ []) [])
each_of_one P told f true p = (p, tt)
each_of_one P told f false p = tt

once_one : (told : Bool) (f : BucketState) (b : Bool) → GrowOnce (cond b (growth_of told f ∷ []) [])
once_one told f true = (refl, tt)
once_one told f false = tt

once_files : (told : Bool) (t n j : ℕ) (fs : List BucketState) → HaveIdsFrom t n j fs → GrowOnce (flat_map (growth_if_any told) fs)
once_files told t n j [] ids = tt
once_files told t n j (f ∷ fs) ids = once_append (growth_if_any told f) (flat_map (growth_if_any told) fs) (once_one told f (grows f)) (once_files told t n (suc j) fs (ids_rest t n j f fs ids))
    (each_of_one (λ file. is_among file (flat_map (growth_if_any told) fs) ≡ false) told f (grows f)
    ((all_other told f.id fs (λ i lt. ap (λ x. is_same_file x f.id) (ids (suc i) (omega arith)) ∙ ap (is_same_file (id_of t n (j + suc i))) (ids 0 (omega arith)) ∙ other_bucket t n (j + suc i) (j + 0) (λ e. absurd (omega (arith, e))))).among))

all_append : (P : Growth → Type 0) (xs ys : List Growth) → AllByRecursion P xs → AllByRecursion P ys → AllByRecursion P (xs ++ ys)
all_append P [] ys a b = b
all_append P (x ∷ xs) ys a b = (a.0, all_append P xs ys a.1 b)

each_of_files : (P : FileId → Type 0) (told : Bool) (fs : List BucketState) → ((i : ℕ) → i < length fs → P (file_of fs i).id) → AllByRecursion (λ (g : Growth). P g.file) (flat_map (growth_if_any told) fs)
each_of_files P told [] h = tt
each_of_files P told (f ∷ fs) h = all_append (λ (g : Growth). P g.file) (growth_if_any told f) (flat_map (growth_if_any told) fs) (each_of_one P told f (grows f) (h 0 (omega arith))) (each_of_files P told fs (λ i lt. h (suc i) (omega arith)))

pub once_lanes : (told : Bool) (ls : List LaneState) → AllByRecursion HasIds ls → AreApart ls → GrowOnce (growths_of told ls)
once_lanes told [] ids apart = tt
once_lanes told (l ∷ ls) ids apart = once_append (growths_in_lane told l) (growths_of told ls) (once_files told l.table l.number 0 l.files (ids_from l ids.0)) (once_lanes told ls ids.1 apart.1)
    (each_of_files (λ file. is_among file (growths_of told ls) ≡ false) told l.files (λ i lt.
    subst (λ file. is_among file (growths_of told ls) ≡ false) (sym (ids.0 i lt))
    ((in_lanes told l.table l.number i ls ids.1 apart.1).among ∙ ap (λ o. has_grown (the_file o i)) apart.0)))

-- a fact of each growth of a file that has grown
if_grown : (P : Growth → Type 0) (told : Bool) (f : BucketState) (b : Bool) → grows f ≡ b → (grows f ≡ true → P (growth_of told f)) → AllByRecursion P (cond b (growth_of told f ∷ []) [])
if_grown P told f true e h = (h e, tt)
if_grown P told f false e h = tt

each_growth : (P : Growth → Type 0) (told : Bool) (fs : List BucketState) → ((i : ℕ) → i < length fs → grows (file_of fs i) ≡ true → P (growth_of told (file_of fs i))) → AllByRecursion P (flat_map (growth_if_any told) fs)
each_growth P told [] h = tt
each_growth P told (f ∷ fs) h = all_append P (growth_if_any told f) (flat_map (growth_if_any told) fs) (if_grown P told f (grows f) refl (h 0 (omega arith))) (each_growth P told fs (λ i lt. h (suc i) (omega arith)))

pub each_growth_of : (P : Growth → Type 0) (told : Bool) (ls : List LaneState)
    → AllByRecursion (λ (l : LaneState). (i : ℕ) → i < length l.files → grows (file_of l.files i) ≡ true → P (growth_of told (file_of l.files i))) ls → AllByRecursion P (growths_of told ls)
each_growth_of P told [] h = tt
each_growth_of P told (l ∷ ls) h = all_append P (growths_in_lane told l) (growths_of told ls) (each_growth P told l.files h.0) (each_growth_of P told ls h.1)
