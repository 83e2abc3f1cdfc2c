-- How statements are bound, by the definitions of the binder: the refusal that it says, or else what it says is bound.
--     query_of parts      the query of these parts, where they keep the rules of a query
--     binds               the binder
use Rattle.std.specs.Prelude.{ℕ, suc, ◌≡◌, ◌+◌, Bool, true, false, not, ◌&&◌, ◌||◌, nat_lt, nat_le, List, [], ◌∷◌, ◌++◌, length, Option, Some, None, option_map, refl}
use borrow.Author.Tests.{ltb-true, leb-true}
use Rattle.hq_value.specs.Tables.{Definition}
use Rattle.hq_sql.specs.declared.tree.Statement.{Statement}
use Rattle.hq_sql.specs.declared.tree.Statement.TheVariants as statement
use Rattle.hq_algebra.specs.declared.query.Query.{Query}
use Rattle.hq_algebra.specs.Rules.{is_empty, cannot_fault, are_small, arguments, fit_sources, are_below, are_within}
use Rattle.hq_algebra.specs.Kinds.{◌>>=◌}
use Rattle.hq_bind.specs.declared.refusal.Refusal.{Refusal}
use Rattle.hq_bind.specs.declared.refusal.Refusal.TheVariants as refused
use Rattle.hq_bind.specs.Scope.{Defs}
use Rattle.hq_bind.specs.Faults.{first_refusal}
use Rattle.hq_bind.specs.Bound.{QueryParts, BoundParts, made, query, values, insert_query, bound_of}
use Rattle.hq_reply.specs.declared.fault.Fault.{Fault}
use Rattle.hq_reply.specs.declared.fault.Fault.TheVariants as fault
use Rattle.hq_transcript.specs.Binding.{Binding, Refused, Bound, Binder, Insertion, Values, Of_query}

-- ---- refusals

-- a refusal, as it is answered
abbrev pub fault_of : Refusal → Fault
fault_of refused.UndefinedTable = fault.UndefinedTable
fault_of refused.DuplicateSource = fault.DuplicateSource
fault_of refused.Limit = fault.Limit
fault_of refused.DuplicateColumn = fault.DuplicateColumn
fault_of refused.UndefinedColumn = fault.UndefinedColumn
fault_of refused.AmbiguousColumn = fault.AmbiguousColumn
fault_of refused.TypeMismatch = fault.TypeMismatch
fault_of refused.NotGrouped = fault.NotGrouped
fault_of refused.NoMemory = fault.NoMemory

-- what no text spells, as arithmetic in a condition, is bound to nothing
abbrev pub binding : {B : Type 0} → Option Refusal → Option B → Binding B
binding (Some why) bound = Refused (fault_of why)
binding None (Some bound) = Bound bound
binding None None = Refused fault.Syntax

-- ---- queries

abbrev pub test : (b : Bool) → Option (b ≡ true)
test true = Some refl
test false = None

-- the query of these parts, where they keep the rules of a query
abbrev pub query_of : QueryParts → Option Query
query_of p = do
  some_sources ← test (nat_lt 0 (length p.sources))
  few_sources ← test (nat_le (length p.sources) 8)
  some_items ← test (nat_lt 0 (length p.items))
  few_items ← test (nat_le (length p.items) 64)
  conds_fault_never ← test (cannot_fault p.conds)
  having_faults_never ← test (cannot_fault p.having)
  small ← test (are_small (p.conds ++ p.having ++ p.items ++ arguments p.aggregates))
  plain ← test (p.grouped || (is_empty p.groups && is_empty p.aggregates && is_empty p.having))
  counts_of_one ← test (fit_sources p.sources p.aggregates)
  group_columns ← test (not p.grouped || are_below (length p.groups + length p.aggregates) (p.having ++ p.items))
  order_columns ← test (are_within p.order (length p.items))
  Some (record {
    sources = p.sources;
    conds = p.conds;
    grouped = p.grouped;
    groups = p.groups;
    aggregates = p.aggregates;
    having = p.having;
    items = p.items;
    distinct = p.distinct;
    order = p.order;
    limit = p.limit;
    some_sources = ltb-true 0 (length p.sources) some_sources;
    few_sources = leb-true (length p.sources) 8 few_sources;
    some_items = ltb-true 0 (length p.items) some_items;
    few_items = leb-true (length p.items) 64 few_items;
    conds_fault_never = conds_fault_never;
    having_faults_never = having_faults_never;
    small = small;
    plain = plain;
    counts_of_one = counts_of_one;
    group_columns = group_columns;
    order_columns = order_columns;
  })

-- ---- the binder

-- tables by their numbers, of which the first is n
abbrev pub numbered : ℕ → List Definition → Defs
numbered n [] = []
numbered n (table ∷ tables) = (n, table) ∷ numbered (suc n) tables

abbrev pub definition_in : BoundParts → Option Definition
definition_in (made table) = Some table
definition_in _ = None

abbrev pub query_in : BoundParts → Option Query
query_in (query parts) = query_of parts
query_in _ = None

abbrev pub insertion_in : BoundParts → Option Insertion
insertion_in (values t rows) = Some (Values t rows)
insertion_in (insert_query t places parts) = option_map (Of_query t places) (query_of parts)
insertion_in _ = None

-- a statement over tables, of whose parts `read` gives what is bound
abbrev pub bound_over : {B : Type 0} → (BoundParts → Option B) → List Definition → Statement → Binding B
bound_over read tables s = binding (first_refusal (numbered 0 tables) s) (read (bound_of (numbered 0 tables) s))

abbrev pub binds : Binder
binds = record {
  create = λ c. bound_over definition_in [] (statement.Create c);
  insert = λ tables i. bound_over insertion_in tables (statement.Insert i);
  select = λ tables s. bound_over query_in tables (statement.Select s);
}
