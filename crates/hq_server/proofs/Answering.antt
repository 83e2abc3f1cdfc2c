-- Answers to statements, by the place of the table.
use Rattle.std.proofs.Common.{◌≡◌, ◌≤◌, ◌<◌, ◌+◌, ◌∷◌, ◌++◌, [], ℕ, zero, suc, Bool, true, false, cond, List, Option, Some, None, is_some, length, slice_get, slice_set, nat_le, get_or, refl, ap, sym, subst, ◌∙◌, inl, inr, arith}
use Rattle.std.proofs.lemmas.Option.{slice_get-get_or}
use Rattle.std.proofs.lemmas.Bool.Decides.{nat_tests}
use Rattle.hq_value.specs.declared.value.Value.{Value}
use Rattle.hq_value.specs.declared.table.Column.{Column}
use Rattle.hq_forms.specs.declared.form.Form.TheVariants as form
use Rattle.hq_reply.specs.declared.reply.Reply.{Reply}
use Rattle.hq_reply.specs.declared.reply.Reply.TheVariants.{Created, Error, Rows}
use Rattle.hq_reply.specs.declared.fault.Fault.TheVariants as fault
use Rattle.hq_value.specs.Order.{in_row_order, SameBag}
use Rattle.hq_value.proofs.Order.{SameBag-append}
use Rattle.hq_value.specs.Bucket.{Buckets, share, rows_of}
use Rattle.hq_table.specs.Kept.{TableState}
use Rattle.hq_value.specs.Kinds.{are_fit, kinds_of}
use Rattle.hq_server.specs.Tables.{Table, is_named, table_named, with_rows, add_rows, select_reply, IsAnswer, one_more, place_of, names}
use Rattle.hq_server.specs.Places.{Grows, Inserts, Selects}
use Rattle.hq_server.specs.Stands.{Holds, Stands, AnswersTo, IsEmpty, kept_names}

pub no_memory : (s : Option form.the_data) (tables : List Table) → IsAnswer s tables (Error fault.NoMemory) tables
no_memory s tables = inr (refl, refl)

some-more : (o : Option ℕ) → is_some (one_more o) ≡ is_some o
some-more None = refl
some-more (Some n) = refl

pub is_named-some : (name : List ℕ) (tables : List Table) → is_some (table_named name tables) ≡ is_some (place_of name (names tables))
is_named-some name [] = refl
is_named-some name (t ∷ ts) = by (is_named name t) (is_named-some name ts)
  where
    by : (b : Bool) → is_some (table_named name ts) ≡ is_some (place_of name (names ts)) → is_some (cond b (Some t) (table_named name ts)) ≡ is_some (cond b (Some 0) (one_more (place_of name (names ts))))
    by true h = refl
    by false h = h ∙ sym (some-more (place_of name (names ts)))

pub table_named-none : (name : List ℕ) (tables : List Table) → place_of name (names tables) ≡ None → table_named name tables ≡ None
table_named-none name tables h = by (table_named name tables) (is_named-some name tables ∙ ap is_some h)
  where
    by : (o : Option Table) → is_some o ≡ false → o ≡ None
    by None e = refl
    by (Some t) e = cc

more-some : (o : Option ℕ) (i : ℕ) → one_more o ≡ Some i → (j : ℕ) × (o ≡ Some j) × (i ≡ suc j)
more-some None i h = cc
more-some (Some j) i h = (j, refl, by h)
  where
    value : Option ℕ → ℕ
    value (Some n) = n
    value None = 0

    by : ◌≡◌ {A = Option ℕ} (Some (j + 1)) (Some i) → i ≡ suc j
    by e = omega (arith, ap value e)

-- the table at the place of a name is the one of that name, and rows are added there
abbrev Found : List ℕ → List Table → ℕ → Table → Type 0
Found name tables i table = (table_named name tables ≡ Some table) × ((rows : List (List Value)) → add_rows name rows tables ≡ slice_set tables i (with_rows rows table))

pub place-found : (name : List ℕ) (tables : List Table) (i : ℕ) (table : Table) → place_of name (names tables) ≡ Some i → slice_get tables i ≡ Some table → Found name tables i table
place-found name [] i table h g = cc
place-found name (t ∷ ts) i table h g = by (is_named name t) refl h (λ k. place-found name ts k table)
  where
    value : Option ℕ → ℕ
    value (Some n) = n
    value None = 0

    there : Option Table → Table
    there (Some found) = found
    there None = t

    first : (k : ℕ) → k ≡ 0 → is_named name t ≡ true → slice_get (t ∷ ts) k ≡ Some table → Found name (t ∷ ts) k table
    first zero z e g =
        let same : t ≡ table = ap there g in
        (rw e (ap Some same), λ rows. rw e (ap (λ x. with_rows rows x ∷ ts) same))
    first (suc k) z e g = absurd (omega (arith, z))

    later : (j k : ℕ) → place_of name (names ts) ≡ Some j → k ≡ suc j → is_named name t ≡ false → slice_get (t ∷ ts) k ≡ Some table → ((k : ℕ) → place_of name (names ts) ≡ Some k → slice_get ts k ≡ Some table → Found name ts k table) → Found name (t ∷ ts) k table
    later j zero p z e g rest = absurd (omega (arith, z))
    later j (suc k) p z e g rest =
        let same : j ≡ k = omega (arith, z) in
        let found : Found name ts k table = rest k (p ∙ ap Some same) g in
        (rw e found.0, λ rows. rw e (ap (λ xs. t ∷ xs) (found.1 rows)))

    by : (b : Bool) → is_named name t ≡ b → cond b (Some 0) (one_more (place_of name (names ts))) ≡ Some i → ((k : ℕ) → place_of name (names ts) ≡ Some k → slice_get ts k ≡ Some table → Found name ts k table) → Found name (t ∷ ts) i table
    by true e h rest = first i (sym (ap value h)) e g
    by false e h rest = let m = more-some (place_of name (names ts)) i h in later m.0 i m.1 m.2 e g rest

pub create-exists : (tables : List Table) (name : List ℕ) (columns : List Column) (keys : List ℕ) → is_some (place_of name (names tables)) ≡ true → IsAnswer (Some (form.Create name columns keys)) tables (Error fault.TableExists) tables
create-exists tables name columns keys h = let e : is_some (table_named name tables) ≡ true = is_named-some name tables ∙ h in inl (rw e refl, rw e refl)

pub create-many : (tables : List Table) (name : List ℕ) (columns : List Column) (keys : List ℕ) → is_some (place_of name (names tables)) ≡ false → 64 ≤ length tables → IsAnswer (Some (form.Create name columns keys)) tables (Error fault.TooManyTables) tables
create-many tables name columns keys h many =
    let e : is_some (table_named name tables) ≡ false = is_named-some name tables ∙ h in
    let f : nat_le 64 (length tables) ≡ true = grind (arith, nat_tests) in
    inl (rw (e, f) refl, rw (e, f) refl)

pub create-made : (tables new : List Table) (name : List ℕ) (columns : List Column) (keys : List ℕ) → is_some (place_of name (names tables)) ≡ false → length tables < 64 → new ≡ tables ++ record { name = name; columns = columns; keys = keys; rows = [] } ∷ [] → IsAnswer (Some (form.Create name columns keys)) tables Created new
create-made tables new name columns keys h few made =
    let e : is_some (table_named name tables) ≡ false = is_named-some name tables ∙ h in
    let f : nat_le 64 (length tables) ≡ false = grind (arith, nat_tests) in
    inl (rw (e, f) refl, made ∙ rw (e, f) refl)

pub insert-none : (tables : List Table) (name : List ℕ) (rows : List (List Value)) → place_of name (names tables) ≡ None → IsAnswer (Some (form.Insert name rows)) tables (Error fault.UndefinedTable) tables
insert-none tables name rows h = let e : table_named name tables ≡ None = table_named-none name tables h in inl (rw e refl, rw e refl)

pub select-none : (tables : List Table) (name : List ℕ) → place_of name (names tables) ≡ None → IsAnswer (Some (form.Select name)) tables (Error fault.UndefinedTable) tables
select-none tables name h = let e : table_named name tables ≡ None = table_named-none name tables h in inl (rw e refl, refl)

-- what is kept, and the tables that it stands for
pub Stands-names : (kept : List TableState) (tables : List Table) → Stands kept tables → kept_names kept ≡ names tables
Stands-names [] [] s = refl
Stands-names [] (t ∷ ts) s = absurd s
Stands-names (k ∷ ks) [] s = absurd s
Stands-names (k ∷ ks) (t ∷ ts) s = ap (λ n. n ∷ kept_names ks) s.0.name ∙ ap (λ ns. t.name ∷ ns) (Stands-names ks ts s.1)

pub Stands-length : (kept : List TableState) (tables : List Table) → Stands kept tables → length kept ≡ length tables
Stands-length [] [] s = refl
Stands-length [] (t ∷ ts) s = absurd s
Stands-length (k ∷ ks) [] s = absurd s
Stands-length (k ∷ ks) (t ∷ ts) s = ap suc (Stands-length ks ts s.1)

abbrev kept_there : TableState → Option TableState → TableState
kept_there k (Some found) = found
kept_there k None = k

Stands-get : (kept : List TableState) (tables : List Table) (i : ℕ) (k : TableState) → Stands kept tables → slice_get kept i ≡ Some k → (t : Table) × (slice_get tables i ≡ Some t) × Holds k t
Stands-get [] tables zero k s g = cc
Stands-get [] tables (suc i) k s g = cc
Stands-get (k' ∷ ks) [] i k s g = absurd s
Stands-get (k' ∷ ks) (t ∷ ts) zero k s g = (t, refl, subst (λ x. Holds x t) (ap (kept_there k') g) s.0)
Stands-get (k' ∷ ks) (t ∷ ts) (suc i) k s g = Stands-get ks ts i k s.1 g

Stands-set : (kept : List TableState) (tables : List Table) (i : ℕ) (k : TableState) (t : Table) → Stands kept tables → Holds k t → Stands (slice_set kept i k) (slice_set tables i t)
Stands-set [] [] i k t s h = tt
Stands-set [] (u ∷ us) i k t s h = absurd s
Stands-set (j ∷ js) [] i k t s h = absurd s
Stands-set (j ∷ js) (u ∷ us) zero k t s h = (h, s.1)
Stands-set (j ∷ js) (u ∷ us) (suc i) k t s h = (s.0, Stands-set js us i k t s.1 h)

Stands-push : (kept : List TableState) (tables : List Table) (k : TableState) (t : Table) → Stands kept tables → Holds k t → Stands (kept ++ k ∷ []) (tables ++ t ∷ [])
Stands-push [] [] k t s h = (h, tt)
Stands-push [] (u ∷ us) k t s h = absurd s
Stands-push (j ∷ js) [] k t s h = absurd s
Stands-push (j ∷ js) (u ∷ us) k t s h = (s.0, Stands-push js us k t s.1 h)

abbrev Shares : Type 0
Shares = (keys : List ℕ) (rows : List (List Value)) (kept : Buckets) → SameBag (rows_of (λ b. kept b ++ share keys rows b)) (rows_of kept ++ rows)

abbrev Sorts : Type 0
Sorts = (xs ys : List (List Value)) → SameBag xs ys → in_row_order xs ≡ in_row_order ys

grown-holds : (shares : Shares) (rows : List (List Value)) (kept grown : TableState) (t : Table) → Holds kept t → Grows rows kept grown → Holds grown (with_rows rows t)
grown-holds shares rows kept grown t h g = record {
  name = g.name ∙ h.name;
  columns = g.columns ∙ h.columns;
  keys = g.keys ∙ h.keys;
  buckets = λ b. h.buckets b ++ share kept.keys rows b;
  keeps = g.added h.buckets h.keeps;
  rows = λ x. shares kept.keys rows h.buckets x ∙ SameBag-append (rows_of h.buckets) t.rows rows rows h.rows (λ y. refl) x;
}

pub still : (s : Option form.the_data) (kept : List TableState) (reply : Reply) → ((tables : List Table) → Stands kept tables → IsAnswer s tables reply tables) → AnswersTo s kept reply kept
still s kept reply is = λ tables stands. (tables, is tables stands, stands)

pub no_memory-kept : (s : Option form.the_data) (kept : List TableState) → AnswersTo s kept (Error fault.NoMemory) kept
no_memory-kept s kept = still s kept (Error fault.NoMemory) (λ tables stands. no_memory s tables)

pub create-exists-kept : (kept : List TableState) (name : List ℕ) (columns : List Column) (keys : List ℕ) → is_some (place_of name (kept_names kept)) ≡ true → AnswersTo (Some (form.Create name columns keys)) kept (Error fault.TableExists) kept
create-exists-kept kept name columns keys h = still (Some (form.Create name columns keys)) kept (Error fault.TableExists) (λ tables stands. create-exists tables name columns keys (ap (λ ns. is_some (place_of name ns)) (sym (Stands-names kept tables stands)) ∙ h))

pub create-many-kept : (kept : List TableState) (name : List ℕ) (columns : List Column) (keys : List ℕ) → is_some (place_of name (kept_names kept)) ≡ false → 64 ≤ length kept → AnswersTo (Some (form.Create name columns keys)) kept (Error fault.TooManyTables) kept
create-many-kept kept name columns keys h many = still (Some (form.Create name columns keys)) kept (Error fault.TooManyTables) (λ tables stands. create-many tables name columns keys (ap (λ ns. is_some (place_of name ns)) (sym (Stands-names kept tables stands)) ∙ h) (subst (λ n. 64 ≤ n) (Stands-length kept tables stands) many))

pub create-made-kept : (kept new : List TableState) (name : List ℕ) (columns : List Column) (keys : List ℕ) → is_some (place_of name (kept_names kept)) ≡ false → length kept < 64 → (k : TableState) × IsEmpty name columns keys k × (new ≡ kept ++ k ∷ []) → AnswersTo (Some (form.Create name columns keys)) kept Created new
create-made-kept kept new name columns keys h few (k, empty, made) = λ tables stands.
    let t : Table = record { name = name; columns = columns; keys = keys; rows = [] } in
    let holds : Holds k t = record { name = empty.name_is; columns = empty.columns_are; keys = empty.keys_are; buckets = λ b. []; keeps = empty.empty; rows = λ x. refl } in (
      tables ++ t ∷ [],
      create-made tables (tables ++ t ∷ []) name columns keys (ap (λ ns. is_some (place_of name ns)) (sym (Stands-names kept tables stands)) ∙ h) (subst (λ n. n < 64) (Stands-length kept tables stands) few) refl,
      rw made (Stands-push kept tables k t stands holds),
    )

place-kept : (kept : List TableState) (tables : List Table) (name : List ℕ) (found : Option ℕ) → Stands kept tables → place_of name (kept_names kept) ≡ found → place_of name (names tables) ≡ found
place-kept kept tables name found stands h = ap (place_of name) (sym (Stands-names kept tables stands)) ∙ h

pub insert-none-kept : (kept : List TableState) (name : List ℕ) (rows : List (List Value)) → place_of name (kept_names kept) ≡ None → AnswersTo (Some (form.Insert name rows)) kept (Error fault.UndefinedTable) kept
insert-none-kept kept name rows h = still (Some (form.Insert name rows)) kept (Error fault.UndefinedTable) (λ tables stands. insert-none tables name rows (place-kept kept tables name None stands h))

pub select-none-kept : (kept : List TableState) (name : List ℕ) → place_of name (kept_names kept) ≡ None → AnswersTo (Some (form.Select name)) kept (Error fault.UndefinedTable) kept
select-none-kept kept name h = still (Some (form.Select name)) kept (Error fault.UndefinedTable) (λ tables stands. select-none tables name (place-kept kept tables name None stands h))

pub insert-kept : (shares : Shares) (kept new : List TableState) (name : List ℕ) (rows : List (List Value)) (i : ℕ) (reply : Reply) → place_of name (kept_names kept) ≡ Some i → Inserts rows i kept reply new → AnswersTo (Some (form.Insert name rows)) kept reply new
insert-kept shares kept new name rows i reply h (k, at, inl (is, fit, (grown, g, set))) = λ tables stands.
    let found = Stands-get kept tables i k stands at in
    let f = place-found name tables i found.0 (place-kept kept tables name (Some i) stands h) found.1 in
    let fit' : are_fit (kinds_of found.0.columns) rows ≡ true = ap (λ cs. are_fit (kinds_of cs) rows) (sym found.2.columns) ∙ fit in (
      slice_set tables i (with_rows rows found.0),
      inl (is ∙ sym (rw (f.0, fit') refl), sym (f.1 rows) ∙ sym (rw (f.0, fit') refl)),
      rw set (Stands-set kept tables i grown (with_rows rows found.0) stands (grown-holds shares rows k grown found.0 found.2 g)),
    )
insert-kept shares kept new name rows i reply h (k, at, inr (inl (is, fit, same))) = λ tables stands.
    let found = Stands-get kept tables i k stands at in
    let f = place-found name tables i found.0 (place-kept kept tables name (Some i) stands h) found.1 in
    let fit' : are_fit (kinds_of found.0.columns) rows ≡ false = ap (λ cs. are_fit (kinds_of cs) rows) (sym found.2.columns) ∙ fit in
    (tables, inl (is ∙ sym (rw (f.0, fit') refl), sym (rw (f.0, fit') refl)), rw same stands)
insert-kept shares kept new name rows i reply h (k, at, inr (inr (is, same))) = λ tables stands. (tables, inr (is, refl), rw same stands)

pub select-kept : (sorts : Sorts) (kept : List TableState) (name : List ℕ) (i : ℕ) (reply : Reply) → place_of name (kept_names kept) ≡ Some i → Selects i kept reply → AnswersTo (Some (form.Select name)) kept reply kept
select-kept sorts kept name i reply h (k, at, inl is) = λ tables stands.
    let found = Stands-get kept tables i k stands at in
    let f = place-found name tables i found.0 (place-kept kept tables name (Some i) stands h) found.1 in
    let rows = found.2 in
    (tables, inl (is rows.buckets rows.keeps ∙ ap Rows (sorts (rows_of rows.buckets) found.0.rows rows.rows) ∙ ap select_reply (sym f.0), refl), stands)
select-kept sorts kept name i reply h (k, at, inr is) = λ tables stands. (tables, inr (is, refl), stands)

-- the table at a place, read as an item
pub at-place : (kept : List TableState) (i : ℕ) (k : TableState) → i < length kept → k ≡ get_or kept i k → slice_get kept i ≡ Some k
at-place kept i k below is = slice_get-get_or kept i k below ∙ ap Some (sym is)

pub set-same : (kept : List TableState) (i : ℕ) (k : TableState) → slice_get kept i ≡ Some k → slice_set kept i k ≡ kept
set-same [] zero k g = cc
set-same [] (suc i) k g = cc
set-same (j ∷ js) zero k g = ap (λ x. x ∷ js) (sym (ap (kept_there j) g))
set-same (j ∷ js) (suc i) k g = ap (λ xs. j ∷ xs) (set-same js i k g)
