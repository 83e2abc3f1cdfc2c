-- The rows that an INSERT makes fit the columns of its table.
use Rattle.std.proofs.Common.{◌≡◌, ℕ, zero, suc, ◌+◌, ◌<◌, ◌≤◌, ◌==◌, Bool, true, false, not, ◌||◌, ◌&&◌, cond, nat_eq, nat_lt, List, [], ◌∷◌, ◌++◌, length, map, slice_get, Option, Some, None, refl, sym, ap, subst, ◌∙◌, append_assoc, length-append, lt-ltb, arith}
use Rattle.std.specs.Prelude.{position, flat_map}
use Rattle.std.specs.List.{list_any, list_all, position_or_len, range_with_len}
use Rattle.std.specs.Option.{option_map_or}
use Rattle.std.proofs.lemmas.Bool.{ltb-true}
use Rattle.std.proofs.lemmas.List.{length-map}
use Rattle.hq_value.specs.Tables.{Definition, are_distinct, same_names, is_column}
use Rattle.hq_value.specs.Kinds.{kinds_of, is_of_kind, fits, are_fit}
use Rattle.hq_value.specs.declared.kind.Kind.{Kind}
use Rattle.hq_value.specs.declared.kind.Kind.TheVariants as kind
use Rattle.hq_value.specs.declared.table.Column.{Column}
use Rattle.hq_value.specs.declared.value.Value.{Value}
use Rattle.hq_value.specs.declared.value.Value.TheVariants as value
use Rattle.hq_expr.specs.declared.tree.Literal.{Literal}
use Rattle.hq_expr.specs.declared.tree.Literal.TheVariants as lit
use Rattle.hq_algebra.specs.Kinds.{is_of}
use Rattle.hq_algebra.specs.declared.kinds.ExprKind.{ExprKind}
use Rattle.hq_bind.specs.Scope.{Name}
use Rattle.hq_bind.specs.Findings.{literal_kind}
use Rattle.hq_bind.specs.Targets.{column_named, kind_named, kinds_named, targets, place_among, places_among, own_places, places, value_of, value_at, row_of, column_names}
use Rattle.hq_bind.specs.Faults.{kinds_fit, literals_misfit, is_no_column, tuples_refusal, tuple_faults, with_list}
use Rattle.hq_bind.proofs.Faultless.{faultless}
use Rattle.hq_bind.proofs.OverSources.{both_true}
use Rattle.hq_bind.proofs.Grouped.{or_parts, not_false, first_within}
use Rattle.hq_bind.proofs.Created.{same_is, same_itself, distinct_first}
use Rattle.hq_bind.proofs.Ready.{not_zero}

value_fits : (k : Kind) (l : Literal) → is_of k (literal_kind l) ≡ true → is_of_kind k (value_of l) ≡ true
value_fits kind.Bool lit.Null h = refl
value_fits kind.Int lit.Null h = refl
value_fits kind.Text lit.Null h = refl
value_fits kind.Bool (lit.Bool b) h = refl
value_fits kind.Int (lit.Bool b) h = cc
value_fits kind.Text (lit.Bool b) h = cc
value_fits kind.Bool (lit.Int n) h = cc
value_fits kind.Int (lit.Int n) h = refl
value_fits kind.Text (lit.Int n) h = cc
value_fits kind.Bool (lit.Text t) h = cc
value_fits kind.Int (lit.Text t) h = cc
value_fits kind.Text (lit.Text t) h = refl

null_fits : (k : Kind) → is_of_kind k value.Null ≡ true
null_fits kind.Bool = refl
null_fits kind.Int = refl
null_fits kind.Text = refl

-- ---- all columns in order

own_here : (front : List Literal) (l : Literal) (ls : List Literal) → slice_get (front ++ l ∷ ls) (length front) ≡ Some l
own_here [] l ls = refl
own_here (x ∷ front) l ls = own_here front l ls

own_row : (ks : List Kind) (front ls : List Literal) (at : ℕ) → at ≡ length front → kinds_fit ks (map literal_kind ls) ≡ true
    → fits ks (map (value_at (front ++ ls)) (map Some (range_with_len at (length ks)))) ≡ true
own_row [] front [] at e h = refl
own_row [] front (l ∷ ls) at e h = cc
own_row (k ∷ ks) front [] at e h = cc
own_row (k ∷ ks) front (l ∷ ls) at e h =
    let t = both_true (is_of k (literal_kind l)) (kinds_fit ks (map literal_kind ls)) h in
    let here : slice_get (front ++ l ∷ ls) at ≡ Some l = ap (slice_get (front ++ l ∷ ls)) e ∙ own_here front l ls in
    let first : is_of_kind k (value_at (front ++ l ∷ ls) (Some at)) ≡ true = rw here (value_fits k l t.0) in
    let again = own_row ks (front ++ l ∷ []) ls (suc at) (omega (arith, e, length-append front (l ∷ []))) t.1 in
    let same : (front ++ l ∷ []) ++ ls ≡ front ++ l ∷ ls = append_assoc front (l ∷ []) ls in
    let rest : fits ks (map (value_at (front ++ l ∷ ls)) (map Some (range_with_len (suc at) (length ks)))) ≡ true = subst (λ (z : List Literal). fits ks (map (value_at z) (map Some (range_with_len (suc at) (length ks)))) ≡ true) same again in
    let next : at + 1 ≡ suc at = omega arith in
    rw (first, next, rest) refl

-- ---- the columns that are named

-- a name that is a column's has one kind
one_kind : (columns : List Column) (name : Name) → is_column columns name ≡ true → (k : Kind) × (kind_named columns name ≡ k ∷ [])
one_kind [] name h = cc
one_kind (c ∷ columns) name h = go (same_names c.name name) refl h (one_kind columns name)
  where
    go : (b : Bool) → same_names c.name name ≡ b → (b || is_column columns name) ≡ true → (is_column columns name ≡ true → (k : Kind) × (kind_named columns name ≡ k ∷ [])) → (k : Kind) × (kind_named (c ∷ columns) name ≡ k ∷ [])
    go true e h again = (c.kind, rw e refl)
    go false e h again = let r = again h in (r.0, rw e r.1)

-- the literal at the place of a column's name is of its kind
named_fits : (columns : List Column) (c : Column) (k : Kind) (names : List Name) (ls : List Literal) → kind_named columns c.name ≡ k ∷ [] → list_any (is_no_column columns) names ≡ false
    → kinds_fit (kinds_named columns names) (map literal_kind ls) ≡ true → list_any (λ (name : Name). same_names c.name name) names ≡ true
    → is_of_kind k (value_at ls (Some (position_or_len (λ (name : Name). same_names c.name name) names))) ≡ true
named_fits columns c k [] ls own found fit h = cc
named_fits columns c k (n ∷ names) ls own found fit h =
    let p = or_parts (is_no_column columns n) (list_any (is_no_column columns) names) found in
    let j = one_kind columns n (not_false (is_column columns n) p.0) in
    let whole : kinds_fit (j.0 ∷ kinds_named columns names) (map literal_kind ls) ≡ true = subst (λ (z : List Kind). kinds_fit (z ++ kinds_named columns names) (map literal_kind ls) ≡ true) j.1 fit in
    each ls j.0 j.1 whole (same_names c.name n) refl h (λ rest g. named_fits columns c k names rest own p.1 g)
  where
    each : (ls : List Literal) (j : Kind) → kind_named columns n ≡ j ∷ [] → kinds_fit (j ∷ kinds_named columns names) (map literal_kind ls) ≡ true → (b : Bool) → same_names c.name n ≡ b
        → (b || list_any (λ (name : Name). same_names c.name name) names) ≡ true
        → ((rest : List Literal) → kinds_fit (kinds_named columns names) (map literal_kind rest) ≡ true → list_any (λ (name : Name). same_names c.name name) names ≡ true
        → is_of_kind k (value_at rest (Some (position_or_len (λ (name : Name). same_names c.name name) names))) ≡ true)
        → is_of_kind k (value_at ls (Some (position_or_len (λ (name : Name). same_names c.name name) (n ∷ names)))) ≡ true
    each [] j e w b s h again = cc
    each (l ∷ ls) j e w true s h again =
        let t = both_true (is_of j (literal_kind l)) (kinds_fit (kinds_named columns names) (map literal_kind ls)) w in
        let same : c.name ≡ n = same_is c.name n s in
        let kinds : k ∷ [] ≡ j ∷ [] = sym own ∙ ap (kind_named columns) same ∙ e in
        let one : j ≡ k = cc in
        rw s (value_fits k l (subst (λ (z : Kind). is_of z (literal_kind l) ≡ true) one t.0))
    each (l ∷ ls) j e w false s h again =
        let t = both_true (is_of j (literal_kind l)) (kinds_fit (kinds_named columns names) (map literal_kind ls)) w in
        let n : 1 + position_or_len (λ (name : Name). same_names c.name name) names ≡ suc (position_or_len (λ (name : Name). same_names c.name name) names) = omega arith in
        rw (s, n) (again ls t.1 h)

past_all : {X : Type 0} (f : X → Bool) (xs : List X) → list_any f xs ≡ false → position_or_len f xs ≡ length xs
past_all f [] h = refl
past_all f (x ∷ xs) h =
    let t = or_parts (f x) (list_any f xs) h in
    let more = past_all f xs t.1 in
    rw t.0 (omega (arith, more))

not_below : (n : ℕ) → nat_lt n n ≡ false
not_below n = go (nat_lt n n) refl
  where
    go : (b : Bool) → nat_lt n n ≡ b → b ≡ false
    go true e = let l = ltb-true n n e in absurd (omega (arith, l))
    go false e = refl

place_fits : (columns : List Column) (c : Column) (k : Kind) (names : List Name) (ls : List Literal) → kind_named columns c.name ≡ k ∷ [] → list_any (is_no_column columns) names ≡ false
    → kinds_fit (kinds_named columns names) (map literal_kind ls) ≡ true → is_of_kind k (value_at ls (place_among names c)) ≡ true
place_fits columns c k names ls own found fit = go (list_any (λ (name : Name). same_names c.name name) names) refl
  where
    go : (b : Bool) → list_any (λ (name : Name). same_names c.name name) names ≡ b → is_of_kind k (value_at ls (place_among names c)) ≡ true
    go true e = rw (lt-ltb (position_or_len (λ (name : Name). same_names c.name name) names) (length names) (first_within (λ (name : Name). same_names c.name name) names e)) (named_fits columns c k names ls own found fit e)
    go false e = rw (past_all (λ (name : Name). same_names c.name name) names e, not_below (length names)) (null_fits k)

-- ---- a column has the kind of its name

apart : (f : Name → Bool) (front : List Column) (c : Column) (rest : List Column) → list_any f (column_names (front ++ c ∷ rest)) ≡ false → f c.name ≡ false
apart f [] c rest h = (or_parts (f c.name) (list_any f (column_names rest)) h).0
apart f (x ∷ front) c rest h = apart f front c rest (or_parts (f x.name) (list_any f (column_names (front ++ c ∷ rest))) h).1

own_kind : (front : List Column) (c : Column) (rest : List Column) → are_distinct same_names (column_names (front ++ c ∷ rest)) ≡ true → kind_named (front ++ c ∷ rest) c.name ≡ c.kind ∷ []
own_kind [] c rest h = rw (same_itself c.name) refl
own_kind (x ∷ front) c rest h =
    let t = distinct_first same_names x.name (column_names (front ++ c ∷ rest)) h in
    rw (apart (same_names x.name) front c rest t.0) (own_kind front c rest t.1)

named_row : (front rest : List Column) (names : List Name) (ls : List Literal) → are_distinct same_names (column_names (front ++ rest)) ≡ true → list_any (is_no_column (front ++ rest)) names ≡ false
    → kinds_fit (kinds_named (front ++ rest) names) (map literal_kind ls) ≡ true → fits (kinds_of rest) (map (value_at ls) (places_among rest names)) ≡ true
named_row front [] names ls d found fit = refl
named_row front (c ∷ rest) names ls d found fit =
    let first = place_fits (front ++ c ∷ rest) c c.kind names ls (own_kind front c rest d) found fit in
    let same : (front ++ c ∷ []) ++ rest ≡ front ++ c ∷ rest = append_assoc front (c ∷ []) rest in
    let more = named_row (front ++ c ∷ []) rest names ls (subst (λ (z : List Column). are_distinct same_names (column_names z) ≡ true) (sym same) d)
    (subst (λ (z : List Column). list_any (is_no_column z) names ≡ false) (sym same) found) (subst (λ (z : List Column). kinds_fit (kinds_named z names) (map literal_kind ls) ≡ true) (sym same) fit) in
    rw (first, more) refl

-- ---- rows

row_fits : (columns : List Column) (names : List Name) (ls : List Literal) → are_distinct same_names (column_names columns) ≡ true → list_any (is_no_column columns) names ≡ false
    → kinds_fit (targets columns names) (map literal_kind ls) ≡ true → fits (kinds_of columns) (row_of (places columns names) ls) ≡ true
row_fits columns [] ls d found fit =
    subst (λ (n : ℕ). fits (kinds_of columns) (map (value_at ls) (map Some (range_with_len 0 n))) ≡ true) (length-map columns (λ (c : Column). c.kind)) (own_row (kinds_of columns) [] ls 0 refl fit)
row_fits columns (n ∷ names) ls d found fit =
    let z = not_zero (length names) in
    let named : kinds_fit (kinds_named columns (n ∷ names)) (map literal_kind ls) ≡ true = rw z at fit in
    rw z (named_row [] columns (n ∷ names) ls d found named)

rows_fit : (columns : List Column) (names : List Name) (tuples : List (List Literal)) → are_distinct same_names (column_names columns) ≡ true → list_any (is_no_column columns) names ≡ false
    → list_any (literals_misfit (targets columns names)) tuples ≡ false → are_fit (kinds_of columns) (map (row_of (places columns names)) tuples) ≡ true
rows_fit columns names [] d found fit = refl
rows_fit columns names (ls ∷ tuples) d found fit =
    let t = or_parts (literals_misfit (targets columns names) ls) (list_any (literals_misfit (targets columns names)) tuples) fit in
    rw (row_fits columns names ls d found (not_false (kinds_fit (targets columns names) (map literal_kind ls)) t.0), rows_fit columns names tuples d found t.1) refl

pub values_fit : (table : ℕ × Definition) (names : List Name) (tuples : List (List Literal)) → are_distinct same_names (column_names table.1.columns) ≡ true → tuples_refusal table names tuples ≡ None
    → are_fit (kinds_of table.1.columns) (map (row_of (places table.1.columns names)) tuples) ≡ true
values_fit table names tuples d none =
    let columns = table.1.columns in
    let f = faultless (with_list columns names (tuple_faults (targets columns names) tuples)) none in
    rows_fit columns names tuples d f.undefined_column f.type_mismatch
