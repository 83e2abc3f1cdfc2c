-- A statement that is read fits.
use Rattle.std.proofs.Common.{◌≡◌, inl, inr, ℕ, zero, suc, ◌+◌, ◌≤◌, Bool, true, false, ◌&&◌, nat_le, List, [], ◌∷◌, ◌++◌, length, map, Option, Some, None, refl, sym, ap, subst, ◌∙◌, le-leb, length-append, arith}
use Rattle.std.proofs.lemmas.List.{length-map}
use Rattle.std.specs.List.{list_all, flat_map}
use Rattle.std.proofs.lemmas.List.Folds.{list_all-append}
use Rattle.hq_expr.specs.Lists.{Listed}
use Rattle.hq_expr.specs.Lists as lists
use Rattle.hq_expr.specs.Shape.{is_item, is_condition}
use Rattle.hq_expr.specs.declared.lexeme.Lexeme.{Lexeme}
use Rattle.hq_expr.specs.declared.tree.SqlExpr.{SqlExpr}
use Rattle.hq_expr.specs.declared.tree.Literal.{Literal}
use Rattle.hq_value.specs.declared.table.Column.{Column}
use Rattle.hq_expr.proofs.Shapes.{item_shaped, condition_shaped}
use Rattle.hq_sql.specs.Rules.{Spells, Repeated}
use Rattle.hq_sql.specs.Rules as rules
use Rattle.hq_sql.specs.Grammar as g
use Rattle.hq_sql.specs.Grammar.{given, on_of, sources_of, select_of, counts_one_source}
use Rattle.hq_sql.specs.Statements.{IsStatement, Parses}
use Rattle.hq_sql.specs.Fits.{fits, select_fits, input_fits, item_fits, sources_fit, has_some}
use Rattle.hq_sql.specs.declared.tree.Statement.{Statement}
use Rattle.hq_sql.specs.declared.tree.Statement.TheVariants as statement
use Rattle.hq_sql.specs.declared.tree.InsertInput.{InsertInput}
use Rattle.hq_sql.specs.declared.tree.InsertInput.TheVariants as input
use Rattle.hq_sql.specs.declared.tree.InsertStatement.{InsertStatement}
use Rattle.hq_sql.specs.declared.tree.CreateStatement.{CreateStatement}
use Rattle.hq_sql.specs.declared.tree.SelectStatement.{SelectStatement}
use Rattle.hq_sql.specs.declared.tree.Item.{Item}
use Rattle.hq_sql.specs.declared.sources.Joined.{Joined}
use Rattle.hq_sql.specs.declared.sources.SourceList.{SourceList}
use Rattle.hq_sql.specs.declared.select.Selected.{Selected}
use Rattle.hq_sql.specs.declared.select.Grouped.{Grouped}
use Rattle.hq_sql.specs.declared.select.Ordered.{Ordered}

both : (a b : Bool) → a ≡ true → b ≡ true → (a && b) ≡ true
both a b h h' = rw (h, h') refl

-- what holds of each member holds of a list
listed_all : {X : Type 0} {Member : List Lexeme → X → List Lexeme → Type 0} (p : X → Bool) → ((ts rest : List Lexeme) (x : X) → Member ts x rest → p x ≡ true)
    → {ts rest : List Lexeme} {xs : List X} → Listed Member ts xs rest → list_all p xs ≡ true
listed_all p each (lists.one {ts = ts} {rest = rest} {x = x} h) = rw (each ts rest x h) refl
listed_all p each (lists.more {ts = ts} {mid = mid} {x = x} h t) = rw (each ts _ x h, listed_all p each t) refl

listed_some : {X : Type 0} {Member : List Lexeme → X → List Lexeme → Type 0} {ts rest : List Lexeme} {xs : List X} → Listed Member ts xs rest → has_some xs ≡ true
listed_some (lists.one h) = refl
listed_some (lists.more {xs = xs} h t) = le-leb 1 (suc (length xs)) (omega arith)

repeated_all : {X : Type 0} {Member : List Lexeme → X → List Lexeme → Type 0} (p : X → Bool) → ((ts rest : List Lexeme) (x : X) → Member ts x rest → p x ≡ true)
    → {ts rest : List Lexeme} {xs : List X} → Repeated Member ts xs rest → list_all p xs ≡ true
repeated_all p each rules.end = refl
repeated_all p each (rules.more {ts = ts} {mid = mid} {x = x} h t) = rw (each ts mid x h, repeated_all p each t) refl

-- ---- SELECT

item_read : (ts rest : List Lexeme) (x : Item) → Spells g.item ts x rest → item_fits x ≡ true
unfolding g.item
item_read ts rest x h = subst (λ (i : Item). item_fits i ≡ true) h.5 (item_shaped ts h.2 h.0 h.3)

items_read : (ts rest : List Lexeme) (xs : List Item) → Spells g.items ts xs rest → list_all item_fits xs ≡ true
unfolding g.items
items_read ts rest xs (inl h) = let none : xs ≡ [] = sym h.5 ∙ h.4.0 in rw none refl
items_read ts rest xs (inr h) = listed_all item_fits item_read h

-- the condition of a source is one
abbrev on_fits : Joined → Bool
on_fits joined = list_all (is_condition false) (given joined.on)

and_true : (b : Bool) → b ≡ true → (b && true) ≡ true
and_true b h = rw h refl

joined_read : (ts rest : List Lexeme) (x : Joined) → Spells g.more_source ts x rest → on_fits x ≡ true
unfolding g.more_source
joined_read ts rest x (inl h) = subst (λ (j : Joined). on_fits j ≡ true) (h.4.5 ∙ h.5) refl
joined_read ts rest x (inr h) =
    let inner = h.4 in
    let on = inner.4 in
    let cond : is_condition false inner.1 ≡ true = subst (λ (c : SqlExpr). is_condition false c ≡ true) on.5 (condition_shaped false on.2 inner_rest (on.1) on.4) in
    subst (λ (j : Joined). on_fits j ≡ true) (inner.5 ∙ h.5) (and_true (is_condition false inner.1) cond)
  where
    inner_rest : List Lexeme
    inner_rest = rest

on_step : (j : Joined) (js : List Joined) (b : Bool) → on_fits j ≡ b → (b && list_all on_fits js) ≡ true
    → (list_all on_fits js ≡ true → list_all (is_condition false) (on_of js) ≡ true) → list_all (is_condition false) (given j.on ++ on_of js) ≡ true
on_step j js false e h again = cc
on_step j js true e h again = rw (list_all-append (is_condition false) (given j.on) (on_of js), e) (again h)

ons_fit : (others : List Joined) → list_all on_fits others ≡ true → list_all (is_condition false) (on_of others) ≡ true
ons_fit [] h = refl
ons_fit (j ∷ js) h = on_step j js (on_fits j) refl h (ons_fit js)

-- each further source has a condition at most
few_given : {A : Type 0} (o : Option A) → length (given o) ≤ 1
few_given (Some x) = omega arith
few_given None = omega arith

few_ons : (others : List Joined) → length (on_of others) ≤ length others
few_ons [] = omega arith
few_ons (j ∷ js) = omega (arith, few_given j.on, few_ons js, length-append (given j.on) (on_of js))

filter_read : (ts rest : List Lexeme) (x : Option SqlExpr) → Spells g.filter ts x rest → list_all (is_condition false) (given x) ≡ true
unfolding g.filter
filter_read ts rest x (inl h) =
    let inner = h.3 in
    let cond : is_condition false h.0 ≡ true = subst (λ (c : SqlExpr). is_condition false c ≡ true) inner.5 (condition_shaped false inner.2 h.2 inner.1 inner.4) in
    subst (λ (o : Option SqlExpr). list_all (is_condition false) (given o) ≡ true) h.5 (and_true (is_condition false h.0) cond)
filter_read ts rest x (inr h) = rw h.0 refl

having_read : (ts rest : List Lexeme) (x : Option SqlExpr) → Spells g.having ts x rest → list_all (is_condition true) (given x) ≡ true
unfolding g.having
having_read ts rest x (inl h) =
    let inner = h.3 in
    let cond : is_condition true h.0 ≡ true = subst (λ (c : SqlExpr). is_condition true c ≡ true) inner.5 (condition_shaped true inner.2 h.2 inner.1 inner.4) in
    subst (λ (o : Option SqlExpr). list_all (is_condition true) (given o) ≡ true) h.5 (and_true (is_condition true h.0) cond)
having_read ts rest x (inr h) = rw h.0 refl

from_read : (ts rest : List Lexeme) (x : SourceList) → Spells g.from ts x rest → list_all on_fits x.others ≡ true
unfolding g.from
from_read ts rest x h =
    let inner = h.4 in subst (λ (s : SourceList). list_all on_fits s.others ≡ true) (inner.5 ∙ h.5) (repeated_all on_fits joined_read inner.4)

record HeadFits (x : Selected) : Type 0 where
  items : list_all item_fits x.items ≡ true
  ons : list_all on_fits x.from.others ≡ true

head_read : (ts rest : List Lexeme) (x : Selected) → Spells g.head ts x rest → HeadFits x
unfolding g.head
head_read ts rest x h =
    let inner = h.4 in let parts = inner.4 in
    subst HeadFits (inner.5 ∙ h.5) (rw (sym parts.5) (record { items = items_read inner.2 parts.2 parts.0 parts.3; ons = from_read parts.2 rest parts.1 parts.4 }))

record MiddleFits (x : Grouped) : Type 0 where
  filter : list_all (is_condition false) (given x.filter) ≡ true
  having : list_all (is_condition true) (given x.having) ≡ true

middle_read : (ts rest : List Lexeme) (x : Grouped) → Spells g.middle ts x rest → MiddleFits x
unfolding g.middle
middle_read ts rest x h =
    let parts = h.4 in
    subst MiddleFits h.5 (rw (sym parts.5) (record { filter = filter_read ts h.2 h.0 h.3; having = having_read parts.2 rest parts.1 parts.4 }))

select_made : (head : Selected) (middle : Grouped) (tail : Ordered) → HeadFits head → MiddleFits middle → counts_one_source (select_of head (middle, tail)) ≡ true
    → select_fits (select_of head (middle, tail)) ≡ true
select_made head middle tail h m one =
    let conds : list_all (is_condition false) (on_of head.from.others ++ given middle.filter) ≡ true =
    rw (list_all-append (is_condition false) (on_of head.from.others) (given middle.filter), ons_fit head.from.others h.ons, m.filter) refl in
    let others : length (map (λ (joined : Joined). joined.source) head.from.others) ≡ length head.from.others = length-map head.from.others (λ (joined : Joined). joined.source) in
    let some : nat_le 1 (length (sources_of head.from)) ≡ true = le-leb 1 _ (omega arith) in
    let few : nat_le (length (on_of head.from.others ++ given middle.filter)) (length (sources_of head.from)) ≡ true =
    le-leb _ _ (omega (arith, others, few_ons head.from.others, few_given middle.filter, length-append (on_of head.from.others) (given middle.filter))) in
    both _ _ h.items (both _ _ conds (both _ _ m.having (both _ _ (both _ _ some few) one)))

pub select_read : (ts rest : List Lexeme) (x : SelectStatement) → Spells g.select ts x rest → select_fits x ≡ true
unfolding g.select
select_read ts rest x h =
    let inner = h.0 in let parts = inner.4 in
    let made : select_of inner.0 (parts.0, parts.1) ≡ x = ap (select_of inner.0) parts.5 ∙ inner.5 in
    subst (λ (s : SelectStatement). select_fits s ≡ true) made
    (select_made inner.0 parts.0 parts.1 (head_read ts inner.2 inner.0 inner.3) (middle_read inner.2 parts.2 parts.0 parts.3)
    (subst (λ (s : SelectStatement). counts_one_source s ≡ true) (sym made) h.1))

-- ---- INSERT, CREATE

tuple_read : (ts rest : List Lexeme) (x : List Literal) → Spells g.tuple ts x rest → has_some x ≡ true
unfolding g.tuple
tuple_read ts rest x h =
    let inner = h.4 in subst (λ (xs : List Literal). has_some xs ≡ true) (inner.5 ∙ h.5) (listed_some inner.3)

input_read : (ts rest : List Lexeme) (x : InsertInput) → Spells g.insert_input ts x rest → input_fits x ≡ true
unfolding g.insert_input
input_read ts rest x (inl h) =
    let inner = h.3 in
    let tuples : (has_some h.0 && list_all has_some h.0) ≡ true =
    subst (λ (xs : List (List Literal)). (has_some xs && list_all has_some xs) ≡ true) inner.5 (both _ _ (listed_some inner.4) (listed_all has_some tuple_read inner.4)) in
    subst (λ (i : InsertInput). input_fits i ≡ true) h.5 tuples
input_read ts rest x (inr h) = subst (λ (i : InsertInput). input_fits i ≡ true) h.5 (select_read ts h.2 h.0 h.3)

insert_read : (ts rest : List Lexeme) (x : InsertStatement) → Spells g.insert ts x rest → input_fits x.input ≡ true
unfolding g.insert
insert_read ts rest x h =
    let inner = h.4.4 in let parts = inner.4 in
    let is : (inner.1).1 ≡ parts.1 = ap (λ (p : List (List ℕ) × InsertInput). p.1) (sym parts.5) in
    subst (λ (s : InsertStatement). input_fits s.input ≡ true) (inner.5 ∙ h.4.5 ∙ h.5) (rw is (input_read parts.2 rest parts.1 parts.4))

create_read : (ts rest : List Lexeme) (x : CreateStatement) → Spells g.create ts x rest → has_some x.columns ≡ true
unfolding g.create
create_read ts rest x h =
    let inner = h.4.4 in let parts = inner.4 in let columns = parts.3 in
    let is : (inner.1).0 ≡ parts.0 = ap (λ (p : List Column × List (List ℕ)). p.0) (sym parts.5) in
    let some : has_some parts.0 ≡ true = subst (λ (xs : List Column). has_some xs ≡ true) (columns.4.5 ∙ columns.5) (listed_some {Member = Spells g.column} columns.4.3) in
    subst (λ (s : CreateStatement). has_some s.columns ≡ true) (inner.5 ∙ h.4.5 ∙ h.5) (rw is some)

-- ---- statements

pub statement_read : (ls : List Lexeme) (s : Statement) → IsStatement ls s → fits s ≡ true
unfolding g.statement_rule g.alter g.transaction
statement_read ls s (inl h) = subst (λ (s : Statement). fits s ≡ true) h.5 (create_read ls h.2 h.0 h.3)
statement_read ls s (inr (inl h)) = subst (λ (s : Statement). fits s ≡ true) (h.4.4.5 ∙ h.4.5 ∙ h.5) refl
statement_read ls s (inr (inr (inl h))) = subst (λ (s : Statement). fits s ≡ true) h.5 (insert_read ls h.2 h.0 h.3)
statement_read ls s (inr (inr (inr (inl h)))) = subst (λ (s : Statement). fits s ≡ true) h.5 (select_read ls h.2 h.0 h.3)
statement_read ls s (inr (inr (inr (inr (inl h))))) = subst (λ (s : Statement). fits s ≡ true) (h.4.5 ∙ h.5) refl
statement_read ls s (inr (inr (inr (inr (inr (inl h)))))) = subst (λ (s : Statement). fits s ≡ true) (sym h.4.0 ∙ h.5) refl
statement_read ls s (inr (inr (inr (inr (inr (inr h)))))) = subst (λ (s : Statement). fits s ≡ true) (sym h.4.0 ∙ h.5) refl

pub parsed_fits : (text : List ℕ) (s : Statement) → Parses text s → fits s ≡ true
parsed_fits text s h = statement_read h.1 s h.3
