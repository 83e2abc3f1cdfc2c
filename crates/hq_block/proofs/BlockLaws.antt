-- A block that is read is spelled so, and what is spelled so is read.
use Rattle.std.proofs.Common.{◌≡◌, ℕ, zero, suc, ◌+◌, ◌-◌, ◌^◌, ◌<◌, ◌≤◌, true, false, cond, nat_eq, ltb, List, [], ◌∷◌, ◌++◌, length, take, drop, map, Option, Some, None, refl, sym, ap, subst, ◌∙◌, append_assoc, append-nil, arith}
use Rattle.std.specs.Prelude.{◌&&◌, ◌||◌}
use Rattle.std.specs.List.{AllByRecursion}
use Rattle.std.specs.Cmp.Lexicographic.{pointwise}
use Rattle.std.proofs.lemmas.Bool.{ltb-false, le-ltb, eqb-true, eq-eqb}
use Rattle.std.proofs.lemmas.List.{take_at, drop_at, take-append-drop, length-append, length-take, nil_from_length, append_cancel_right}
use Rattle.hq_value.specs.declared.value.Value.{Value}
use Rattle.hq_value.specs.declared.kind.Kind.{Kind}
use Rattle.hq_value.specs.Kinds.{Fits}
use Rattle.hq_block.specs.declared.fault.Misread.{Misread}
use Rattle.hq_block.specs.declared.fault.Misread.TheVariants as misread
use Rattle.hq_block.specs.declared.fault.BlockFault.TheVariants as fault
use Rattle.hq_block.specs.declared.head.Head.{Head}
use Rattle.hq_block.specs.Fault.{block_fault}
use Rattle.hq_block.specs.Row.{IsStorable, row_bytes}
use Rattle.hq_block.specs.Block.{head_bytes, body_bytes, bounds_in, padded, IsBlockOf, IsBlock}
use Rattle.hq_block.specs.Reading.{◌>>=◌, Fails, row_at, wide_row_at, rows_at, rows_in, head_at, block_at}
use Rattle.hq_block.proofs.Bools.{both_true}
use Rattle.hq_block.proofs.Flags.{IsBytes}
use Rattle.hq_block.proofs.Heads.{head_takes, head_again, rules_of}
use Rattle.hq_block.proofs.Lengths.{rows_below, length-take_kinds}
use Rattle.hq_block.proofs.Numbers.{IsBytes-drop, IsBytes-take, Takes, bind_some, guard_none, guard_some, some_is}
use Rattle.hq_block.proofs.Padding.{bounds_in-padded}
use Rattle.hq_block.proofs.RowLaws.{row_takes, row_again}
use Rattle.hq_block.proofs.Values.{neither}

-- rows were taken from the front, and NULLs put behind each
pub record TakesRows (kinds : List Kind) (width count : ℕ) (bytes : List ℕ) (rows : List (List Value)) (rest : List ℕ) : Type 0 where
  pub own : List (List Value)
  pub filled : rows ≡ map (padded width) own
  pub takes : Takes bytes (body_bytes own) rest
  pub storable : AllByRecursion (IsStorable kinds) own
  pub count_is : length own ≡ count

-- a row read, with NULLs behind it
abbrev pad_read : ℕ → Option (List Value × List ℕ) → Option (List Value × List ℕ)
pad_read width read = read >>= λ x. Some (padded width x.0, x.1)

rows_takes : (kinds : List Kind) (width count : ℕ) (bytes : List ℕ) (x : List (List Value) × List ℕ) → IsBytes bytes → rows_at kinds width count bytes ≡ Some x → TakesRows kinds width count bytes x.0 x.1
unfolding rows_at wide_row_at
rows_takes kinds width zero bytes x fits e =
    subst (λ (y : List (List Value) × List ℕ). TakesRows kinds width 0 bytes y.0 y.1) (some_is ([], bytes) x e) (record { own = []; filled = refl; takes = record { parts = refl; rest_fits = fits }; storable = tt; count_is = refl })
rows_takes kinds width (suc count) bytes x fits e =
    let a = bind_some (pad_read width (row_at kinds bytes)) (λ first. rows_at kinds width count first.1 >>= λ others. Some (first.0 ∷ others.0, others.1)) x e in
    let first = bind_some (row_at kinds bytes) (λ row. Some (padded width row.0, row.1)) a.0 a.1 in
    let row = first.0.0 in
    let middle = first.0.1 in
    let wide : (padded width row, middle) ≡ a.0 = some_is (padded width row, middle) a.0 first.2 in
    let rest-read : (rows_at kinds width count middle >>= λ others. Some (padded width row ∷ others.0, others.1)) ≡ Some x = subst (λ (y : List Value × List ℕ). (rows_at kinds width count y.1 >>= λ others. Some (y.0 ∷ others.0, others.1)) ≡ Some x) (sym wide) a.2 in
    let b = bind_some (rows_at kinds width count middle) (λ others. Some (padded width row ∷ others.0, others.1)) x rest-read in
    let rows = b.0.0 in
    let rest = b.0.1 in
    let t = row_takes kinds bytes (row, middle) fits first.1 in
    let u = rows_takes kinds width count middle (rows, rest) t.takes.rest_fits b.1 in
    let whole : bytes ≡ (row_bytes row ++ body_bytes u.own) ++ rest = t.takes.parts ∙ ap (λ (l : List ℕ). row_bytes row ++ l) u.takes.parts ∙ sym (append_assoc (row_bytes row) (body_bytes u.own) rest) in
    subst (λ (y : List (List Value) × List ℕ). TakesRows kinds width (suc count) bytes y.0 y.1) (some_is (padded width row ∷ rows, rest) x b.2)
    (record { own = row ∷ u.own; filled = ap (λ (l : List (List Value)). padded width row ∷ l) u.filled; takes = record { parts = whole; rest_fits = u.takes.rest_fits }; storable = (t.storable, u.storable); count_is = ap suc u.count_is })

rows_again : (kinds : List Kind) (width : ℕ) (own : List (List Value)) (rest : List ℕ) → AllByRecursion (IsStorable kinds) own → rows_at kinds width (length own) (body_bytes own ++ rest) ≡ Some (map (padded width) own, rest)
unfolding rows_at wide_row_at
rows_again kinds width [] rest ok = refl
rows_again kinds width (row ∷ own) rest ok =
    ap (λ (l : List ℕ). rows_at kinds width (suc (length own)) l) (append_assoc (row_bytes row) (body_bytes own) rest)
    ∙ ap (λ (r : Option (List Value × List ℕ)). pad_read width r >>= λ x. rows_at kinds width (length own) x.1 >>= λ y. Some (x.0 ∷ y.0, y.1)) (row_again kinds row (body_bytes own ++ rest) ok.0)
    ∙ ap (λ (r : Option (List (List Value) × List ℕ)). r >>= λ y. Some (padded width row ∷ y.0, y.1)) (rows_again kinds width own rest ok.1)

nothing : (l : List ℕ) → nat_eq (length l) 0 ≡ true → l ≡ []
nothing l e = nil_from_length l (eqb-true (length l) 0 e)

pub same_list : (xs ys : List ℕ) → pointwise nat_eq xs ys ≡ true → xs ≡ ys
same_list [] [] e = refl
same_list [] (y ∷ ys) e = cc
same_list (x ∷ xs) [] e = cc
same_list (x ∷ xs) (y ∷ ys) e =
    let b = both_true (nat_eq x y) (pointwise nat_eq xs ys) e in
    λ i. eqb-true x y b.0 i ∷ same_list xs ys b.1 i

pub list_itself : (xs : List ℕ) → pointwise nat_eq xs xs ≡ true
list_itself [] = refl
list_itself (x ∷ xs) = rw (eq-eqb x x refl) (list_itself xs)

-- the bounds and the rows of a body were taken
record TakesBody (kinds : List Kind) (width : ℕ) (head : Head) (body : List ℕ) (rows : List (List Value)) : Type 0 where
  own : List (List Value)
  filled : rows ≡ map (padded width) own
  storable : AllByRecursion (IsStorable kinds) own
  count_is : head.rows ≡ length own
  bounds_are : head.bounds ≡ length (bounds_in head.version kinds own)
  spelled : body ≡ bounds_in head.version kinds own ++ body_bytes own

body_takes : (kinds : List Kind) (width : ℕ) (head : Head) (body : List ℕ) (rows : List (List Value)) → head.bounds ≤ length body → IsBytes body → rows_in kinds width head body ≡ Some rows → TakesBody kinds width head body rows
unfolding rows_in
body_takes kinds width head body rows within fits e =
    let a = bind_some (rows_at kinds width head.rows (drop head.bounds body)) (λ rows. cond (nat_eq (length rows.1) 0 && pointwise nat_eq (bounds_in head.version kinds rows.0) (take head.bounds body)) (Some rows.0) None) rows e in
    let found = a.0.0 in
    let left = a.0.1 in
    let g = guard_some (nat_eq (length left) 0 && pointwise nat_eq (bounds_in head.version kinds found) (take head.bounds body)) (Some found) rows a.2 in
    let tests = both_true (nat_eq (length left) 0) (pointwise nat_eq (bounds_in head.version kinds found) (take head.bounds body)) g.0 in
    let t = rows_takes kinds width head.rows (drop head.bounds body) (found, left) (IsBytes-drop head.bounds body fits) a.1 in
    let same : found ≡ rows = some_is found rows g.1 in
    let own_bounds : bounds_in head.version kinds t.own ≡ take head.bounds body = sym (ap (bounds_in head.version kinds) t.filled ∙ bounds_in-padded head.version kinds width t.own) ∙ same_list (bounds_in head.version kinds found) (take head.bounds body) tests.1 in
    let own_rows : drop head.bounds body ≡ body_bytes t.own = t.takes.parts ∙ ap (λ (l : List ℕ). body_bytes t.own ++ l) (nothing left tests.0) ∙ append-nil (body_bytes t.own) in
    let long : length (take head.bounds body) ≡ head.bounds = omega (arith, length-take head.bounds body) in
    record {
      own = t.own;
      filled = sym same ∙ t.filled;
      storable = t.storable;
      count_is = sym t.count_is;
      bounds_are = sym long ∙ ap length (sym own_bounds);
      spelled = sym (take-append-drop head.bounds body) ∙ (λ i. sym own_bounds i ++ own_rows i);
    }

body_again : (kinds : List Kind) (width : ℕ) (head : Head) (own : List (List Value)) → AllByRecursion (IsStorable kinds) own → head.rows ≡ length own → head.bounds ≡ length (bounds_in head.version kinds own) → rows_in kinds width head (bounds_in head.version kinds own ++ body_bytes own) ≡ Some (map (padded width) own)
unfolding rows_in
body_again kinds width head own ok rows_are bounds_are =
    let bounds : List ℕ = bounds_in head.version kinds own in
    let all : rows_at kinds width head.rows (body_bytes own) ≡ Some (map (padded width) own, []) =
    ap (λ (n : ℕ). rows_at kinds width n (body_bytes own)) rows_are ∙ ap (rows_at kinds width (length own)) (sym (append-nil (body_bytes own))) ∙ rows_again kinds width own [] ok in
    let same : pointwise nat_eq (bounds_in head.version kinds (map (padded width) own)) bounds ≡ true = ap (λ (l : List ℕ). pointwise nat_eq l bounds) (bounds_in-padded head.version kinds width own) ∙ list_itself bounds in
    rw (take_at bounds (body_bytes own) head.bounds (sym bounds_are), drop_at bounds (body_bytes own) head.bounds (sym bounds_are), all, same) refl

-- a block was taken from the front
pub record TakesBlock (kinds : List Kind) (bytes : List ℕ) (rows : List (List Value)) (rest : List ℕ) : Type 0 where
  pub block : List ℕ
  pub takes : Takes bytes block rest
  pub is : IsBlock kinds rows block

pub block_takes : (kinds : List Kind) (bytes : List ℕ) (x : List (List Value) × List ℕ) → IsBytes bytes → block_at kinds bytes ≡ Some x → TakesBlock kinds bytes x.0 x.1
unfolding block_at
block_takes kinds bytes x fits e =
    let a = bind_some (head_at bytes) (λ head. cond (ltb (length kinds) head.0.columns || ltb (length head.1) head.0.size) None (rows_in (take head.0.columns kinds) (length kinds) head.0 (take head.0.size head.1) >>= λ rows. Some (rows, drop head.0.size head.1))) x e in
    let head = a.0.0 in
    let after = a.0.1 in
    let kinds' : List Kind = take head.columns kinds in
    let g = guard_none (ltb (length kinds) head.columns || ltb (length after) head.size) (rows_in kinds' (length kinds) head (take head.size after) >>= λ rows. Some (rows, drop head.size after)) x a.2 in
    let tests = neither (ltb (length kinds) head.columns) (ltb (length after) head.size) g.0 in
    let enough : head.columns ≤ length kinds = ltb-false _ _ tests.0 in
    let within : head.size ≤ length after = ltb-false _ _ tests.1 in
    let b = bind_some (rows_in kinds' (length kinds) head (take head.size after)) (λ rows. Some (rows, drop head.size after)) x g.1 in
    let t = head_takes bytes (head, after) fits a.1 in
    let r = rules_of head t.rules in
    let body_long : length (take head.size after) ≡ head.size = omega (arith, within, length-take head.size after) in
    let u = body_takes kinds' (length kinds) head (take head.size after) b.0 (omega (arith, body_long, r.within)) (IsBytes-take head.size after t.takes.rest_fits) b.1 in
    let body : List ℕ = bounds_in head.version kinds' u.own ++ body_bytes u.own in
    let whole : bytes ≡ (head_bytes head ++ body) ++ drop head.size after =
    t.takes.parts ∙ ap (λ (l : List ℕ). head_bytes head ++ l) (sym (take-append-drop head.size after) ∙ ap (λ (l : List ℕ). l ++ drop head.size after) u.spelled) ∙ sym (append_assoc (head_bytes head) body (drop head.size after)) in
    let sized : head.size ≡ head.bounds + length (body_bytes u.own) = omega (arith, body_long, ap length u.spelled, length-append (bounds_in head.version kinds' u.own) (body_bytes u.own), u.bounds_are) in
    let of : IsBlockOf head kinds' u.own (head_bytes head ++ body) = record { rules = t.rules; column_count = sym (length-take_kinds head.columns kinds enough); row_count = u.count_is; bounds_length = u.bounds_are; size = sized; storable = u.storable; spelled = refl } in
    subst (λ (y : List (List Value) × List ℕ). TakesBlock kinds bytes y.0 y.1) (some_is (b.0, drop head.size after) x b.2)
    (record { block = head_bytes head ++ body; takes = record { parts = whole; rest_fits = IsBytes-drop head.size after t.takes.rest_fits }; is = record { head = head; own = u.own; within = enough; is = of; filled = u.filled } })

storable_fit : (kinds : List Kind) (rows : List (List Value)) → AllByRecursion (IsStorable kinds) rows → AllByRecursion (Fits kinds) rows
storable_fit kinds [] ok = tt
storable_fit kinds (row ∷ rows) ok = (ok.0.fits, storable_fit kinds rows ok.1)

-- a block has fewer rows than bytes
pub few_rows : (head : Head) (kinds : List Kind) (rows : List (List Value)) (bytes : List ℕ) → IsBlockOf head kinds rows bytes → head.rows < 2 ^ 32
few_rows head kinds rows bytes is =
    let r = rules_of head is.rules in
    let below : length rows ≤ length (body_bytes rows) = rows_below kinds rows (omega (arith, r.some_columns, is.column_count)) (storable_fit kinds rows is.storable) in
    omega (arith, below, is.row_count, is.size, r.short)

pub block_again : (kinds : List Kind) (rows : List (List Value)) (block rest : List ℕ) → IsBlock kinds rows block → block_at kinds (block ++ rest) ≡ Some (rows, rest)
unfolding block_at
block_again kinds rows block rest is =
    let head = is.head in
    let of = is.is in
    let kinds' : List Kind = take head.columns kinds in
    let body : List ℕ = bounds_in head.version kinds' is.own ++ body_bytes is.own in
    let body_long : length body ≡ head.size = omega (arith, length-append (bounds_in head.version kinds' is.own) (body_bytes is.own), of.bounds_length, of.size) in
    let parts : block ++ rest ≡ head_bytes head ++ (body ++ rest) = ap (λ (l : List ℕ). l ++ rest) of.spelled ∙ append_assoc (head_bytes head) body rest in
    let read : head_at (head_bytes head ++ (body ++ rest)) ≡ Some (head, body ++ rest) = head_again head (body ++ rest) of.rules (few_rows head kinds' is.own block of) in
    let enough : ltb (length kinds) head.columns ≡ false = le-ltb _ _ is.within in
    let within : ltb (length (body ++ rest)) head.size ≡ false = le-ltb _ _ (omega (arith, length-append body rest, body_long)) in
    let all : rows_in kinds' (length kinds) head body ≡ Some rows = body_again kinds' (length kinds) head is.own of.storable of.row_count of.bounds_length ∙ ap (λ (l : List (List Value)). Some l) (sym is.filled) in
    ap (block_at kinds) parts
    ∙ rw (read, enough, within, take_at body rest head.size body_long, drop_at body rest head.size body_long, all) refl

-- a block that is spelled in front is read
block_in_front : (kinds : List Kind) (rows : List (List Value)) (bytes : List ℕ) (len : ℕ) → IsBlock kinds rows (take len bytes) → block_at kinds bytes ≡ Some (rows, drop len bytes)
block_in_front kinds rows bytes len is = ap (block_at kinds) (sym (take-append-drop len bytes)) ∙ block_again kinds rows (take len bytes) (drop len bytes) is

pub no_block : (kinds : List Kind) (bytes : List ℕ) → block_at kinds bytes ≡ None → (rows : List (List Value)) (len : ℕ) → IsBlock kinds rows (take len bytes) → ⊥
no_block kinds bytes none rows len is = let some : block_at kinds bytes ≡ Some (rows, drop len bytes) = block_in_front kinds rows bytes len is in cc

pub rest_is_shorter : (kinds : List Kind) (rows : List (List Value)) (bytes rest : List ℕ) → IsBytes bytes → block_at kinds bytes ≡ Some (rows, rest) → length rest ≤ length bytes
rest_is_shorter kinds rows bytes rest fits e =
    let t = block_takes kinds bytes (rows, rest) fits e in
    longer bytes t.block rest t.takes.parts
  where
    longer : (all front rest : List ℕ) → all ≡ front ++ rest → length rest ≤ length all
    longer all front rest e = omega (arith, ap length e, length-append front rest)

pub block_found : (kinds : List Kind) (rows : List (List Value)) (bytes rest : List ℕ) → IsBytes bytes → block_at kinds bytes ≡ Some (rows, rest) → IsBlock kinds rows (take (length bytes - length rest) bytes)
block_found kinds rows bytes rest fits e =
    let t = block_takes kinds bytes (rows, rest) fits e in
    subst (IsBlock kinds rows) (sym (front_is bytes t.block rest t.takes.parts)) t.is
  where
    front_is : (all front rest : List ℕ) → all ≡ front ++ rest → take (length all - length rest) all ≡ front
    front_is all front rest e = ap (take (length all - length rest)) e ∙ take_at front rest (length all - length rest) (omega (arith, ap length e, length-append front rest))

-- no block begins another
pub blocks_are_apart : (kinds : List Kind) (rows others : List (List Value)) (a b x y : List ℕ) → IsBlock kinds rows a → IsBlock kinds others b → a ++ x ≡ b ++ y → (a ≡ b) × (rows ≡ others) × (x ≡ y)
blocks_are_apart kinds rows others a b x y is also same =
    let both : (rows, x) ≡ (others, y) = some_is (rows, x) (others, y) (sym (block_again kinds rows a x is) ∙ ap (block_at kinds) same ∙ block_again kinds others b y also) in
    let after : x ≡ y = ap (λ (p : List (List Value) × List ℕ). p.1) both in
    let fronts : a ≡ b = append_cancel_right a b y (ap (λ (l : List ℕ). a ++ l) (sym after) ∙ same) in
    (fronts, ap (λ (p : List (List Value) × List ℕ). p.0) both, after)

-- what a fault says of what was read
pub no_block_read : {Y : Type 0} (e : Misread) (read : Option Y) → block_fault e ≡ fault.NotABlock → Fails e read → read ≡ None
no_block_read misread.Absent read same fails = fails
no_block_read misread.NoMemory read same fails = absurd cc
