-- Rows that an operator takes, and what it gives at the end.
use Rattle.std.proofs.Common.{◌≡◌, ℕ, Bool, true, false, ◌||◌, List, [], ◌++◌, map, subst, refl, sym, ◌∙◌, ap, append_assoc, Ok, Err, Result}
use Rattle.std.specs.Prelude.{IfOk}
use Rattle.std.specs.Prelude.{Option}
use Rattle.std.specs.Global.{Vec}
use Rattle.std.specs.Borrow.{Bor}
use Rattle.std.specs.List.{list_any}
use Rattle.std.proofs.lemmas.List.{append-nil, map-append}
use Rattle.std.proofs.lemmas.List.Elements.{filter-append}
use Rattle.std.proofs.lemmas.List.Folds.{list_any-append}
use Rattle.std.proofs.lemmas.Grind.{flat_map-append}
use Rattle.hq_value.specs.declared.value.Value.{Value}
use Rattle.hq_algebra.specs.declared.aggregate.Aggregate.{Aggregate}
use Rattle.hq_algebra.specs.declared.expr.Expr.{Expr}
use Rattle.hq_algebra.specs.declared.op.Op.{Op}
use Rattle.hq_algebra.specs.declared.op.SortKey.{SortKey}
use Rattle.hq_algebra.specs.Eval.{is_true_at, value_at, faults_at}
use Rattle.hq_meaning.specs.Rows.{Row}
use Rattle.hq_meaning.specs.Operators.{filtered, projected, project_faults, joined, beside, sorted}
use Rattle.hq_ops.specs.declared.column.Column.{Column}
use Rattle.hq_ops.specs.declared.end.Stop.{Stop}
use Rattle.hq_ops.specs.declared.end.Stop.TheVariants as stop
use Rattle.hq_ops.specs.declared.gathered.Gathered.{Gathered}
use Rattle.hq_ops.specs.declared.chains.Chains.{Chains}
use Rattle.hq_ops.specs.declared.groups.GroupBy.{GroupBy}
use Rattle.hq_ops.specs.declared.groups.GroupBy.TheVariants as by
use Rattle.hq_ops.specs.declared.pipe.Pipe.{Pipe}
use Rattle.hq_ops.specs.declared.work.Work.{Work}
use Rattle.hq_ops.specs.declared.work.Work.TheVariants as work
use Rattle.hq_ops.specs.Beginnings.{IsPartialOf, IsFinalOf}
use Rattle.hq_ops.specs.Ends.{StopsAt, Gives, IsNumericAt, end_of, ended}
use Rattle.hq_ops.specs.Taking.{HasTakenAfter, GivesRest, FailsFor, EndsAs, IsFirstOf}
use Rattle.hq_ops.specs.Gathering.{HasGathered, row_faults, group_rows, group_leaves, some_fault}
use Rattle.hq_ops.specs.Grouped.{ArePartial, final_columns}
use Rattle.hq_ops.specs.Pipes.{gives, fails, is_streamed}
use Rattle.hq_ops.specs.Sorts.{StandFor}
use Rattle.hq_ops.specs.Works.{Stands, Holds, TookRows, TookFault, Took}
use Rattle.hq_ops.proofs.Grouped.{partial-is, partial-faults-are, partial-leaves-never, final-is, final-faults-are, final-reads-never}

or-none : (a b : Bool) → a ≡ false → b ≡ false → (a || b) ≡ false
or-none a b e f = λ i. e i || f i

or-left : (a b : Bool) → a ≡ true → (a || b) ≡ true
or-left a b e = ap (λ c. c || b) e

or-right : (a b : Bool) → b ≡ true → (a || b) ≡ true
or-right true b e = refl
or-right false b e = e

or-false : (a b : Bool) → a ≡ false → (a || b) ≡ b
or-false a b e = ap (λ c. c || b) e

or-nothing : (a b : Bool) → b ≡ false → (a || b) ≡ a
or-nothing true b e = refl
or-nothing false b e = e

-- what holds of some row still does where rows stand before and behind it
still-any : (p : Row → Bool) (before rows more : List Row) → list_any p rows ≡ true → list_any p (before ++ rows ++ more) ≡ true
still-any p before rows more e = list_any-append p (before ++ rows) more ∙ or-left _ _ (list_any-append p before rows ∙ or-right _ _ e)

-- Filter
pub took-filter : (op : Op) (build pushed given rows found : List Row) (cond : Bor Expr) → Holds op build pushed given (work.Filter cond) → found ≡ filtered cond.now rows → TookRows op build pushed given rows found (work.Filter cond)
took-filter op build pushed given rows found cond h e = record {
  holds = (h.0, (λ i. h.1 i ++ e i) ∙ sym (filter-append (is_true_at cond.now) pushed rows));
  streams = λ s. (e ∙ sym (h.0.gives_are rows), h.0.fails_are rows);
}

-- Project
pub took-project : (op : Op) (build pushed given rows found : List Row) (items : Bor (List Expr)) → Holds op build pushed given (work.Project items) → found ≡ projected items.now rows → project_faults items.now rows ≡ false
    → TookRows op build pushed given rows found (work.Project items)
took-project op build pushed given rows found items h e fine = record {
  holds = (h.0, (λ i. h.1 i ++ e i) ∙ sym (map-append (λ row. map (λ e. value_at e row) items.now) pushed rows), list_any-append (λ row. list_any (λ e. faults_at e row) items.now) pushed rows ∙ or-none _ _ h.2 fine);
  streams = λ s. (e ∙ sym (h.0.gives_are rows), h.0.fails_are rows ∙ fine);
}

pub project-fault : (op : Op) (build pushed given rows : List Row) (items : Bor (List Expr)) → Holds op build pushed given (work.Project items) → project_faults items.now rows ≡ true → TookFault op pushed rows
project-fault op build pushed given rows items h e = record {
  faults = λ more. h.0.fails_are (pushed ++ rows ++ more) ∙ still-any (λ row. list_any (λ e. faults_at e row) items.now) pushed rows more e;
  streams = λ s. h.0.fails_are rows ∙ e;
}

-- Join
pub took-left : (op : Op) (build pushed given rows found : List Row) (lk rk : Bor (List ℕ)) (right : Chains) → Holds op build pushed given (work.Join lk rk right) → found ≡ joined lk.now rk.now rows build
    → TookRows op build pushed given rows found (work.Join lk rk right)
took-left op build pushed given rows found lk rk right h e = record {
  holds = record {
    stands = h.stands;
    keys_are = h.keys_are;
    rows_are = h.rows_are;
    given_are = (λ i. h.given_are i ++ e i) ∙ sym (flat_map-append (beside lk.now rk.now build) pushed rows);
  };
  streams = λ s. (e ∙ sym (h.stands.gives_are rows), h.stands.fails_are rows);
}

-- a step that stops
pub took-stop : (T : Type 0) (op : Op) (build pushed given rows : List Row) (r : Result (Work × Vec (List Value)) Stop) (e f : Stop) (b : Bool) → (b ≡ true → TookFault op pushed rows) → StopsAt {T = T} (Err e) b → r ≡ Err f → f ≡ e → Took op build pushed given rows r
took-stop T op build pushed given rows r e f b fault at is same = subst (λ (s : Result (Work × Vec (List Value)) Stop). Took op build pushed given rows s) (sym (is ∙ ap Err same)) (by_stop e at)
  where
    by_stop : (e : Stop) → StopsAt {T = T} (Err e) b → Took op build pushed given rows (Err e)
    by_stop stop.Numeric at = fault at
    by_stop stop.NoMemory at = tt

-- nothing is given, and the operator gives all at the end
pub nothing-streams : (op : Op) (b : Bool) → is_streamed op ≡ b → b ≡ false → {P : Type 0} → is_streamed op ≡ true → P
nothing-streams op b e f s = let u : true ≡ false = sym s ∙ e ∙ f in absurd cc

pub nil-more : (given found : List Row) → given ≡ [] → found ≡ [] → given ++ found ≡ []
nil-more given found e f = λ i. e i ++ f i

pub took-grouped : (op : Op) (build pushed given rows found : List Row) (by : GroupBy) (g h : Gathered)
    → Holds op build pushed given (work.Group by g)
    → ((columns : List Column) (before : List Row) → HasGathered by columns before g.keys.keys g.tallies.items → HasGathered by columns (before ++ rows) h.keys.keys h.tallies.items)
    → found ≡ [] → TookRows op build pushed given rows found (work.Group by h)
took-grouped op build pushed given rows found by g h held more e = record {
  holds = (held.0, held.1, more held.0 pushed held.2, nil-more given found held.3 e);
  streams = nothing-streams op false held.1.streams_are refl;
}

pub group-fault : (op : Op) (build pushed given rows : List Row) (by : GroupBy) (g : Gathered) → Holds op build pushed given (work.Group by g)
    → list_any (row_faults (map (λ t. t.column) g.tallies.items)) rows ≡ true → TookFault op pushed rows
group-fault op build pushed given rows by g held e = record {
  faults = λ more. held.1.fails_are (pushed ++ rows ++ more)
      ∙ or-left _ _ (still-any (row_faults held.0) pushed rows more (ap (λ cs. list_any (row_faults cs) rows) (sym held.2.columns_are) ∙ e));
  streams = nothing-streams op false held.1.streams_are refl;
}

pub took-sorted : (op : Op) (build pushed given rows found : List Row) (order : Bor (List SortKey)) (limit : Option ℕ) (before after : Vec (List Value)) (all : List Row) → Holds op build pushed given (work.Sort order limit before)
    → all ≡ before.items ++ rows → StandFor order.now limit after.items all → found ≡ [] → TookRows op build pushed given rows found (work.Sort order limit after)
took-sorted op build pushed given rows found order limit before after all h e short f = record {
  holds = (h.0, (λ more. short more ∙ ap (λ l. sorted order.now limit (l ++ more)) e ∙ ap (sorted order.now limit) (append_assoc before.items rows more) ∙ h.1 (rows ++ more) ∙ ap (sorted order.now limit) (sym (append_assoc pushed rows more))), nil-more given found h.2 f);
  streams = nothing-streams op false h.0.streams_are refl;
}

-- what is given at the end
pub rest-streamed : (op : Op) (build pushed given found : List Row) (given_by : List Row → List Row) (failing : List Row → Bool) (s : Bool) → Stands given_by failing s op build → given ≡ given_by pushed → found ≡ [] → given ++ found ≡ gives op build pushed
rest-streamed op build pushed given found given_by failing s stands e f = ap (λ l. given ++ l) f ∙ append-nil given ∙ e ∙ sym (stands.gives_are pushed)

pub rest-kept : (op : Op) (build pushed given found : List Row) (given_by : List Row → List Row) (failing : List Row → Bool) (s : Bool) → Stands given_by failing s op build → given ≡ [] → found ≡ given_by pushed → given ++ found ≡ gives op build pushed
rest-kept op build pushed given found given_by failing s stands e f = (λ i. e i ++ f i) ∙ sym (stands.gives_are pushed)

pub keeps-nothing : (op : Op) (given_by : List Row → List Row) (failing : List Row → Bool) (build : List Row) → Stands given_by failing false op build → {P : Type 0} → is_streamed op ≡ true → P
keeps-nothing op given_by failing build stands = nothing-streams op false stands.streams_are refl

pub rest-faults : (op : Op) (build pushed given : List Row) (by : GroupBy) (g : Gathered) (columns : List Column) → Stands (group_rows by columns) (some_fault by columns) false op build → HasGathered by columns pushed g.keys.keys g.tallies.items
    → group_leaves by columns pushed ≡ fails op pushed
rest-faults op build pushed given by g columns stands gathered = sym (stands.fails_are pushed ∙ or-false (list_any (row_faults columns) pushed) (group_leaves by columns pushed) gathered.no_fault)

-- the beginnings
pub begins-partial : (op : Op) (build : List Row) (places : Bor (List ℕ)) (aggs : List Aggregate) (columns : List Column) (g : Gathered) → IsPartialOf places.now aggs op → ArePartial aggs columns
    → HasGathered (by.Columns places) columns [] g.keys.keys g.tallies.items → Holds op build [] [] (work.Group (by.Columns places) g)
begins-partial op build places aggs columns g is are gathered = (columns, stands, gathered, refl)
  where
    stands : Stands (group_rows (by.Columns places) columns) (some_fault (by.Columns places) columns) false op build
    stands = record {
      gives_are = λ rows. is.gives_are build rows ∙ sym (partial-is places aggs columns rows are);
      fails_are = λ rows. is.fails_are rows ∙ sym (or-nothing _ _ (partial-leaves-never places aggs columns rows are) ∙ partial-faults-are aggs columns rows are);
      streams_are = is.streams;
    }

pub begins-final : (op : Op) (build : List Row) (n : ℕ) (aggs : List Aggregate) (g : Gathered) → IsFinalOf n aggs op
    → HasGathered (by.First n) (final_columns aggs n) [] g.keys.keys g.tallies.items → Holds op build [] [] (work.Group (by.First n) g)
begins-final op build n aggs g is gathered = (final_columns aggs n, stands, gathered, refl)
  where
    stands : Stands (group_rows (by.First n) (final_columns aggs n)) (some_fault (by.First n) (final_columns aggs n)) false op build
    stands = record {
      gives_are = λ rows. is.gives_are build rows ∙ sym (final-is n aggs rows);
      fails_are = λ rows. is.fails_are rows ∙ sym (or-false _ _ (final-reads-never aggs n rows) ∙ final-faults-are n aggs rows);
      streams_are = is.streams;
    }

-- how a pipe ends without rows
pub ends-so : (why : Stop) (p : Pipe) → p.work ≡ work.Ended why → EndsAs (end_of why) p
ends-so stop.Numeric p e = e
ends-so stop.NoMemory p e = e

pub fails-so : (op : Op) (build pushed given rows more : List Row) (why : Stop) → Took op build pushed given rows (Err why) → FailsFor (end_of why) (fails op (pushed ++ rows ++ more))
fails-so op build pushed given rows more stop.Numeric t = t.faults more
fails-so op build pushed given rows more stop.NoMemory t = tt

pub nothing-after : (op : Op) (build pushed given : List Row) (why : Stop) (p : Pipe) → HasTakenAfter op build pushed given (end_of why) p
nothing-after op build pushed given stop.Numeric p = tt
nothing-after op build pushed given stop.NoMemory p = tt

pub streams-so : (op : Op) (build pushed given rows : List Row) (why : Stop) → Took op build pushed given rows (Err why) → is_streamed op ≡ true → Gives (end_of why) (gives op build rows) × IsNumericAt (end_of why) (fails op rows)
streams-so op build pushed given rows stop.Numeric t s = (tt, t.streams s)
streams-so op build pushed given rows stop.NoMemory t s = (tt, tt)

pub gives-rest : (r : Result (Vec (List Value)) Stop) (given all : List Row) → IfOk r (λ found. given ++ found.items ≡ all) → GivesRest (ended r) given all
gives-rest (Ok found) given all h = h
gives-rest (Err stop.Numeric) given all h = tt
gives-rest (Err stop.NoMemory) given all h = tt

-- what was given stays first
first-streamed : (op : Op) (build pushed more given : List Row) (given_by : List Row → List Row) (failing : List Row → Bool) (s : Bool) → Stands given_by failing s op build
    → given_by (pushed ++ more) ≡ given_by pushed ++ given_by more → given ≡ given_by pushed → IsFirstOf given (gives op build (pushed ++ more))
first-streamed op build pushed more given given_by failing s stands both e = (given_by more, stands.gives_are (pushed ++ more) ∙ both ∙ ap (λ l. l ++ given_by more) (sym e))

first-nothing : (given all : List Row) → given ≡ [] → IsFirstOf given all
first-nothing given all e = (all, ap (λ l. l ++ all) (sym e))

pub stays-first : (op : Op) (build pushed given more : List Row) (w : Work) → Holds op build pushed given w → IsFirstOf given (gives op build (pushed ++ more))
stays-first op build pushed given more (work.Filter cond) h = first-streamed op build pushed more given _ _ _ h.0 (filter-append (is_true_at cond.now) pushed more) h.1
stays-first op build pushed given more (work.Project items) h = first-streamed op build pushed more given _ _ _ h.0 (map-append (λ row. map (λ e. value_at e row) items.now) pushed more) h.1
stays-first op build pushed given more (work.Join lk rk right) h = first-streamed op build pushed more given _ _ _ h.stands (flat_map-append (beside lk.now rk.now build) pushed more) h.given_are
stays-first op build pushed given more (work.Group by g) h = first-nothing given _ h.3
stays-first op build pushed given more (work.Distinct seen) h = first-nothing given _ h.2
stays-first op build pushed given more (work.Sort order limit rows) h = first-nothing given _ h.2
stays-first op build pushed given more (work.Ended why) h = absurd h
