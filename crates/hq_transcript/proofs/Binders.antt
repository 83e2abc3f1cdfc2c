-- What the binder's definitions say is bound is what the binder here binds.
use Rattle.std.proofs.Common.{◌≡◌, ℕ, Bool, true, false, Option, Some, None, List, length, option_map, refl, sym, ◌∙◌, ap, true≢false, lt-ltb, le-leb, ltb-true, leb-true}
use Rattle.std.proofs.Math.Bool.{Bool-set}
use Rattle.std.proofs.Math.Bridge.{le_prop}
use Rattle.hq_value.specs.declared.value.Value.{Value}
use Rattle.hq_value.specs.Tables.{Definition}
use Rattle.hq_sql.specs.declared.tree.Statement.TheVariants as statement
use Rattle.hq_sql.specs.declared.tree.InsertStatement.{InsertStatement}
use Rattle.hq_sql.specs.declared.tree.SelectStatement.{SelectStatement}
use Rattle.hq_algebra.specs.declared.query.Query.{Query}
use Rattle.hq_algebra.specs.Kinds.{◌>>=◌}
use Rattle.hq_bind.specs.declared.refusal.Refusal.{Refusal}
use Rattle.hq_bind.specs.Faults.{first_refusal}
use Rattle.hq_bind.specs.Bound.{BoundParts, parts_of, bound_of, query, values, insert_query}
use Rattle.hq_transcript.specs.Binding.{Refused, Bound, Values, Of_query}
use Rattle.hq_transcript.specs.Binds.{binding, binds, fault_of, insertion_in, numbered, query_in, query_of, test}

test-true : (b : Bool) (e : b ≡ true) → test b ≡ Some e
test-true true e = ap Some (Bool-set true true refl e)
test-true false e = absurd (true≢false (sym e))

-- a test that passes goes on
passes : {B : Type 0} (b : Bool) (e : b ≡ true) (more : b ≡ true → Option B) → (test b >>= more) ≡ more e
passes b e more = ap (λ found. found >>= more) (test-true b e)

-- a query is the one of its parts
query_of-parts : (q : Query) → query_of (parts_of q) ≡ Some q
query_of-parts q =
    passes _ (lt-ltb 0 (length q.sources) q.some_sources) _
    ∙ passes _ (le-leb (length q.sources) 8 q.few_sources) _
    ∙ passes _ (lt-ltb 0 (length q.items) q.some_items) _
    ∙ passes _ (le-leb (length q.items) 64 q.few_items) _
    ∙ passes _ q.conds_fault_never _
    ∙ passes _ q.having_faults_never _
    ∙ passes _ q.small _
    ∙ passes _ q.plain _
    ∙ passes _ q.counts_of_one _
    ∙ passes _ q.group_columns _
    ∙ passes _ q.order_columns _
    ∙ (λ i. Some (record {
      sources = q.sources;
      conds = q.conds;
      grouped = q.grouped;
      groups = q.groups;
      aggregates = q.aggregates;
      having = q.having;
      items = q.items;
      distinct = q.distinct;
      order = q.order;
      limit = q.limit;
      some_sources = le_prop (ltb-true 0 (length q.sources) (lt-ltb 0 (length q.sources) q.some_sources)) q.some_sources i;
      few_sources = le_prop (leb-true (length q.sources) 8 (le-leb (length q.sources) 8 q.few_sources)) q.few_sources i;
      some_items = le_prop (ltb-true 0 (length q.items) (lt-ltb 0 (length q.items) q.some_items)) q.some_items i;
      few_items = le_prop (leb-true (length q.items) 64 (le-leb (length q.items) 64 q.few_items)) q.few_items i;
      conds_fault_never = q.conds_fault_never;
      having_faults_never = q.having_faults_never;
      small = q.small;
      plain = q.plain;
      counts_of_one = q.counts_of_one;
      group_columns = q.group_columns;
      order_columns = q.order_columns;
    }))

module _ (tables : List Definition) where
  pub select-refused : (s : SelectStatement) (why : Refusal) → first_refusal (numbered 0 tables) (statement.Select s) ≡ Some why
      → binds.select tables s ≡ Refused (fault_of why)
  select-refused s why e = ap (λ o. binding o (query_in (bound_of (numbered 0 tables) (statement.Select s)))) e

  pub insert-refused : (i : InsertStatement) (why : Refusal) → first_refusal (numbered 0 tables) (statement.Insert i) ≡ Some why
      → binds.insert tables i ≡ Refused (fault_of why)
  insert-refused i why e = ap (λ o. binding o (insertion_in (bound_of (numbered 0 tables) (statement.Insert i)))) e

  pub select-bound : (s : SelectStatement) (q : Query) → first_refusal (numbered 0 tables) (statement.Select s) ≡ None
      → bound_of (numbered 0 tables) (statement.Select s) ≡ query (parts_of q) → binds.select tables s ≡ Bound q
  select-bound s q none is =
      ap (λ o. binding o (query_in (bound_of (numbered 0 tables) (statement.Select s)))) none
      ∙ ap (λ (parts : BoundParts). binding None (query_in parts)) is
      ∙ ap (λ (o : Option Query). binding None o) (query_of-parts q)

  insert-open : (i : InsertStatement) (parts : BoundParts) → first_refusal (numbered 0 tables) (statement.Insert i) ≡ None
      → bound_of (numbered 0 tables) (statement.Insert i) ≡ parts → binds.insert tables i ≡ binding None (insertion_in parts)
  insert-open i parts none is =
      ap (λ o. binding o (insertion_in (bound_of (numbered 0 tables) (statement.Insert i)))) none
      ∙ ap (λ (p : BoundParts). binding None (insertion_in p)) is

  pub tuples-bound : (i : InsertStatement) (t : ℕ) (rows : List (List Value)) → first_refusal (numbered 0 tables) (statement.Insert i) ≡ None
      → bound_of (numbered 0 tables) (statement.Insert i) ≡ values t rows → binds.insert tables i ≡ Bound (Values t rows)
  tuples-bound i t rows none is = insert-open i (values t rows) none is

  pub rows-bound : (i : InsertStatement) (t : ℕ) (places : List (Option ℕ)) (q : Query) → first_refusal (numbered 0 tables) (statement.Insert i) ≡ None
      → bound_of (numbered 0 tables) (statement.Insert i) ≡ insert_query t places (parts_of q) → binds.insert tables i ≡ Bound (Of_query t places q)
  rows-bound i t places q none is =
      insert-open i (insert_query t places (parts_of q)) none is
      ∙ ap (λ (o : Option Query). binding None (option_map (Of_query t places) o)) (query_of-parts q)
