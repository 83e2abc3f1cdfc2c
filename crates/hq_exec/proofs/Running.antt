-- Rows that pass through pipes.
use Rattle.std.proofs.Common.{◌≡◌, ◌∙◌, ℕ, zero, suc, ◌+◌, ◌<◌, Bool, true, false, ◌||◌, List, [], ◌∷◌, ◌++◌, length, get_or, slice_set as set, append_assoc, append-nil, Option, Some, None, Ok, Err, Result, refl, sym, ap, subst, arith, add-one}
use Rattle.hq_value.specs.declared.value.Value.{Value}
use Rattle.hq_value.specs.declared.kind.Kind.{Kind}
use Rattle.hq_value.specs.Kinds.{Fits}
use Rattle.hq_algebra.specs.declared.op.Op.{Op}
use Rattle.hq_fits.specs.Supplied.{AreFit}
use Rattle.hq_meaning.specs.Rows.{Row}
use Rattle.hq_ops.specs.declared.pipe.Pipe.{Pipe}
use Rattle.hq_ops.specs.declared.end.OpEnd.{OpEnd}
use Rattle.hq_ops.specs.Ends.{IsNumericAt}
use Rattle.hq_ops.specs.Pipes.{gives, fails}
use Rattle.hq_ops.specs.Taking.{HasTaken, HasTakenAfter, GivesRest, FailsFor, IsFirstOf}
use Rattle.hq_ops.proofs.Pipes.{stays-first}
use Rattle.hq_exec.specs.declared.end.Halt.{Halt}
use Rattle.hq_exec.specs.declared.end.Halt.TheVariants as halt
use Rattle.hq_exec.specs.Given.{end_as}
use Rattle.hq_exec.specs.Lines.{HasFlowed, HasPassed, Carries, LineState, RunsBy, HasRun, IsReady, CanTake, HasGiven, Takes, Finishes, CanPush, CanPass, HasGivenMore, Pushed, WasPassed, HasEnded, DrainedBy, Drained}
use Rattle.hq_exec.specs.Outs.{OutState, Suits, Accepts, Adds}
use Rattle.hq_exec.proofs.Adding.{adds-none, adds-both}
use Rattle.hq_exec.specs.Stages.{Stage, flowed, faulted, behind}
use Rattle.hq_exec.proofs.Rows.{both-parts, joined-parts}

or-left : (a b : Bool) → a ≡ true → (a || b) ≡ true
or-left a b e = ap (λ c. c || b) e

or-right : (a b : Bool) → b ≡ true → (a || b) ≡ true
or-right true b e = refl
or-right false b e = e

or-none : (a b : Bool) → a ≡ false → b ≡ false → (a || b) ≡ false
or-none a b e f = λ i. e i || f i

-- the rows that are still to be pushed behind the last pipe come out
pub passed-all : (ss : List Stage) (ps : List Pipe) (n : ℕ) (pushed rows put : List Row) → n ≡ length ps → HasPassed n ss ps pushed rows put → HasFlowed ss ps pushed (put ++ rows)
passed-all [] [] zero pushed rows put e h = ap (λ l. l ++ rows) h.2 ∙ sym h.1
passed-all (s ∷ ss) [] zero pushed rows put e h = absurd h.2
passed-all ss (p ∷ ps) zero pushed rows put e h = absurd (omega (arith, e))
passed-all ss [] (suc n) pushed rows put e h = absurd (omega (arith, e))
passed-all [] (p ∷ ps) (suc n) pushed rows put e h = absurd h
passed-all (s ∷ ss) (p ∷ ps) (suc n) pushed rows put e h = (h.0, h.1, passed-all ss ps n h.0 rows put (omega (arith, e)) h.2)

-- pipe n was pushed to
pub passed-step : (n : ℕ) (ss : List Stage) (ps : List Pipe) (d q : Pipe) (pushed rows found put : List Row) → n < length ps → HasPassed n ss ps pushed rows put
    → ((op : Op) (build before given : List Row) → HasTaken op build before given (get_or ps n d) → HasTaken op build (before ++ rows) (given ++ found) q)
    → HasPassed (suc n) ss (set ps n q) pushed found put
passed-step n ss [] d q pushed rows found put low h push = absurd (omega (arith, low))
passed-step zero [] (p ∷ ps) d q pushed rows found put low h push = absurd h.2
passed-step zero (s ∷ ss) (p ∷ ps) d q pushed rows found put low h push =
    (h.2.0 ++ found, subst (λ (l : List Row). HasTaken s.op s.build l (h.2.0 ++ found) q) (sym h.1) (push s.op s.build h.0 h.2.0 h.2.1), (h.2.0, refl, h.2.2))
passed-step (suc n) [] (p ∷ ps) d q pushed rows found put low h push = absurd h
passed-step (suc n) (s ∷ ss) (p ∷ ps) d q pushed rows found put low h push = (h.0, h.1, passed-step n ss ps d q h.0 rows found put (omega (arith, low)) h.2 push)

-- what a pipe gave stays, if more is pushed
gives-more : (o : Op) (build pushed given more : List Row) (p : Pipe) → HasTaken o build pushed given p → IsFirstOf given (gives o build (pushed ++ more))
gives-more o build pushed given more p h = stays-first o build pushed given more p.work h

-- pipe n faulted, whatever rows follow
pub passed-fault : (n : ℕ) (ss : List Stage) (ps : List Pipe) (d : Pipe) (pushed rows put more : List Row) → n < length ps → HasPassed n ss ps pushed rows put
    → ((op : Op) (build before given more : List Row) → HasTaken op build before given (get_or ps n d) → fails op (before ++ rows ++ more) ≡ true)
    → faulted ss (pushed ++ more) ≡ true
passed-fault n ss [] d pushed rows put more low h fault = absurd (omega (arith, low))
passed-fault zero [] (p ∷ ps) d pushed rows put more low h fault = absurd h.2
passed-fault zero (s ∷ ss) (p ∷ ps) d pushed rows put more low h fault =
    or-left _ _ (ap (λ l. fails s.op (l ++ more)) h.1 ∙ fault s.op s.build h.0 h.2.0 more h.2.1)
passed-fault (suc n) [] (p ∷ ps) d pushed rows put more low h fault = absurd h
passed-fault (suc n) (s ∷ ss) (p ∷ ps) d pushed rows put more low h fault =
    let first : IsFirstOf h.0 (gives s.op s.build (pushed ++ more)) = gives-more s.op s.build pushed h.0 more p h.1 in
    or-right _ _ (ap (λ l. faulted ss l) first.1 ∙ passed-fault n ss ps d h.0 rows put first.0 (omega (arith, low)) h.2 fault)

-- as many pipes as stages
pub flow-length : (ss : List Stage) (ps : List Pipe) (pushed put : List Row) → HasFlowed ss ps pushed put → length ps ≡ length ss
flow-length [] [] pushed put h = refl
flow-length [] (p ∷ ps) pushed put h = absurd h
flow-length (s ∷ ss) [] pushed put h = absurd h
flow-length (s ∷ ss) (p ∷ ps) pushed put h = ap suc (flow-length ss ps h.0 put h.2)

-- what came out fits the kinds that rows become
pub flow-fits : (ss : List Stage) (ps : List Pipe) (kinds out : List Kind) (pushed put : List Row) → Carries kinds ss out → AreFit kinds pushed → HasFlowed ss ps pushed put → AreFit out put
flow-fits [] [] kinds out pushed put c fit h = subst (λ (k : List Kind). AreFit k put) c (subst (λ (l : List Row). AreFit kinds l) (sym h) fit)
flow-fits [] (p ∷ ps) kinds out pushed put c fit h = absurd h
flow-fits (s ∷ ss) [] kinds out pushed put c fit h = absurd h
flow-fits (s ∷ ss) (p ∷ ps) kinds out pushed put c fit h = flow-fits ss ps c.0 out h.0 put c.2 (both-parts (Fits c.0) h.0 first.0 (subst (λ (l : List Row). AreFit c.0 l) first.1 all)).0 h.2
  where
    first : IsFirstOf h.0 (gives s.op s.build (pushed ++ []))
    first = gives-more s.op s.build pushed h.0 [] p h.1

    all : AreFit c.0 (gives s.op s.build (pushed ++ []))
    all = subst (λ (l : List Row). AreFit c.0 (gives s.op s.build l)) (sym (append-nil pushed)) (c.1 pushed fit)

-- rows become rows of those kinds
pub flowed-fits : (ss : List Stage) (kinds out : List Kind) (rows : List Row) → Carries kinds ss out → AreFit kinds rows → AreFit out (flowed ss rows)
flowed-fits [] kinds out rows c fit = subst (λ (k : List Kind). AreFit k rows) c fit
flowed-fits (s ∷ ss) kinds out rows c fit = flowed-fits ss c.0 out (gives s.op s.build rows) c.2 (c.1 rows fit)

pub suits : (wanted : Option (List Kind)) (out : List Kind) (rows : List Row) → Accepts wanted out → AreFit out rows → Suits wanted rows
suits None out rows a fit = tt
suits (Some kinds) out rows a fit = subst (λ (k : List Kind). AreFit k rows) (sym a) fit

-- the last pipe has given the rows, so they may be put
pub passed-suits : (n : ℕ) (ps : List Pipe) (rows : List Row) (wanted : Option (List Kind)) → CanPass n ps rows wanted → n ≡ length ps → Suits wanted rows
passed-suits n ps rows wanted can e =
    suits wanted can.out rows can.accepts (both-parts (Fits can.out) can.put rows (flow-fits can.stages ps can.kinds can.out can.pushed (can.put ++ rows) can.carries can.fit (passed-all can.stages ps n can.pushed rows can.put e can.passed))).1

pub can-step : (n m : ℕ) (ps : List Pipe) (d q : Pipe) (rows found : List Row) (wanted : Option (List Kind)) → m ≡ suc n → n < length ps → CanPass n ps rows wanted
    → ((op : Op) (build before given : List Row) → HasTaken op build before given (get_or ps n d) → HasTaken op build (before ++ rows) (given ++ found) q)
    → CanPass m (set ps n q) found wanted
can-step n m ps d q rows found wanted next low can push = record {
  kinds = can.kinds;
  out = can.out;
  stages = can.stages;
  pushed = can.pushed;
  put = can.put;
  passed = subst (λ (k : ℕ). HasPassed k can.stages (set ps n q) can.pushed found can.put) (sym next) (passed-step n can.stages ps d q can.pushed rows found can.put low can.passed push);
  carries = can.carries;
  fit = can.fit;
  accepts = can.accepts;
}

pub was-step : (r : Result Unit Halt) (n m : ℕ) (ps new : List Pipe) (d q : Pipe) (rows found : List Row) (before after : OutState) → m ≡ suc n → n < length ps
    → ((op : Op) (build before given : List Row) → HasTaken op build before given (get_or ps n d) → HasTaken op build (before ++ rows) (given ++ found) q)
    → WasPassed r m found (set ps n q) new before after → WasPassed r n rows ps new before after
was-step (Ok x) n m ps new d q rows found before after next low push w = λ stages pushed put h.
    w stages pushed put (subst (λ (k : ℕ). HasPassed k stages (set ps n q) pushed found put) (sym next) (passed-step n stages ps d q pushed rows found put low h push))
was-step (Err halt.Numeric) n m ps new d q rows found before after next low push w = (
  w.0,
  λ stages pushed put h.
      w.1 stages pushed put (subst (λ (k : ℕ). HasPassed k stages (set ps n q) pushed found put) (sym next) (passed-step n stages ps d q pushed rows found put low h push)),
)
was-step (Err halt.NoMemory) n m ps new d q rows found before after next low push w = tt

-- the rows are put
pub was-put : (n : ℕ) (ps : List Pipe) (rows : List Row) (before after : OutState) → n ≡ length ps → Adds rows before after → WasPassed (Ok tt) n rows ps ps before after
was-put n ps rows before after e given = λ stages pushed put h. record { added = rows; flowed = passed-all stages ps n pushed rows put e h; given = given }

-- pipe n ended without rows
pub was-stopped : (e : Halt) (n : ℕ) (ps new : List Pipe) (d : Pipe) (rows : List Row) (before after : OutState) → n < length ps → Adds [] before after
    → ((op : Op) (build before given more : List Row) → HasTaken op build before given (get_or ps n d) → FailsFor (end_as (Err e)) (fails op (before ++ rows ++ more)))
    → WasPassed (Err e) n rows ps new before after
was-stopped halt.Numeric n ps new d rows before after low same fault = (same, λ stages pushed put h more. passed-fault n stages ps d pushed rows put more low h fault)
was-stopped halt.NoMemory n ps new d rows before after low same fault = tt

-- a push to the first pipe
pub can-begin : (ps : List Pipe) (rows : List Row) (wanted : Option (List Kind)) → CanPush ps rows wanted → CanPass 0 ps rows wanted
can-begin ps rows wanted can = record {
  kinds = can.kinds;
  out = can.out;
  stages = can.stages;
  pushed = can.pushed ++ rows;
  put = can.put;
  passed = (can.pushed, refl, can.flowed);
  carries = can.carries;
  fit = joined-parts (Fits can.kinds) can.pushed rows can.fit can.more;
  accepts = can.accepts;
}

pub was-begun : (r : Result Unit Halt) (ps new : List Pipe) (rows : List Row) (before after : OutState) → WasPassed r 0 rows ps new before after → Pushed r rows ps new before after
was-begun (Ok x) ps new rows before after w = λ stages pushed put h. w stages (pushed ++ rows) put (pushed, refl, h)
was-begun (Err halt.Numeric) ps new rows before after w = (w.0, λ stages pushed put h more. w.1 stages (pushed ++ rows) put (pushed, refl, h) more)
was-begun (Err halt.NoMemory) ps new rows before after w = tt

-- the first pipe is finished: what it gives can be pushed to the others
module _ (p : Pipe) (ps : List Pipe) (found : List Row) (rest : (op : Op) (build pushed given : List Row) → HasTaken op build pushed given p → given ++ found ≡ gives op build pushed) where
  pub can-finish : (wanted : Option (List Kind)) → CanPush (p ∷ ps) [] wanted → CanPush ps found wanted
  can-finish wanted can = by can.stages can.carries can.flowed
    where
      by : (ss : List Stage) → Carries can.kinds ss can.out → HasFlowed ss (p ∷ ps) can.pushed can.put → CanPush ps found wanted
      by [] c h = absurd h
      by (s ∷ ss) c h =
          let parts : AreFit c.0 h.0 × AreFit c.0 found = both-parts (Fits c.0) h.0 found (subst (λ (l : List Row). AreFit c.0 l) (sym (rest s.op s.build can.pushed h.0 h.1)) (c.1 can.pushed can.fit)) in
          record { kinds = c.0; out = can.out; stages = ss; pushed = h.0; put = can.put; flowed = h.2; carries = c.2; fit = parts.0; more = parts.1; accepts = can.accepts }

  -- and then the others can be finished
  pub can-go-on : (qs : List Pipe) (before after : OutState) → CanPush (p ∷ ps) [] before.kinds → Pushed (Ok tt) found ps qs before after → after.kinds ≡ before.kinds → CanPush qs [] after.kinds
  can-go-on qs before after can push same =
      let mid : CanPush ps found before.kinds = can-finish before.kinds can in
      let more : HasGivenMore mid.stages qs (mid.pushed ++ found) mid.put before after = push mid.stages mid.pushed mid.put mid.flowed in
      record {
        kinds = mid.kinds;
        out = mid.out;
        stages = mid.stages;
        pushed = mid.pushed ++ found;
        put = mid.put ++ more.added;
        flowed = more.flowed;
        carries = mid.carries;
        fit = joined-parts (Fits mid.kinds) mid.pushed found mid.fit mid.more;
        more = tt;
        accepts = subst (λ (w : Option (List Kind)). Accepts w mid.out) (sym same) mid.accepts;
      }

  -- as many as before
  pub same-many : (qs : List Pipe) (before after : OutState) → CanPush (p ∷ ps) [] before.kinds → Pushed (Ok tt) found ps qs before after → length qs ≡ length ps
  same-many qs before after can push =
      let mid : CanPush ps found before.kinds = can-finish before.kinds can in
      let more : HasGivenMore mid.stages qs (mid.pushed ++ found) mid.put before after = push mid.stages mid.pushed mid.put mid.flowed in
      flow-length mid.stages qs (mid.pushed ++ found) (mid.put ++ more.added) more.flowed ∙ sym (flow-length mid.stages ps mid.pushed mid.put mid.flowed)

  module _ (fine : (op : Op) (build pushed given : List Row) → HasTaken op build pushed given p → fails op pushed ≡ false) where
    -- the others were pushed to and finished
    pub drained-step : (r : Result Unit Halt) (qs : List Pipe) (before between after : OutState) → Pushed (Ok tt) found ps qs before between → Drained r qs between after → Drained r (p ∷ ps) before after
    drained-step r qs before between after push drained = λ kinds out ss pushed put c fit h. by kinds out ss pushed put c fit h
      where
        end-by : (r : Result Unit Halt) (out : List Kind) (s : Stage) (ss : List Stage) (pushed mid put added : List Row) → mid ≡ gives s.op s.build pushed → fails s.op pushed ≡ false
            → Adds added before between → DrainedBy r out ss mid (put ++ added) between after → DrainedBy r out (s ∷ ss) pushed put before after
        end-by (Ok x) out s ss pushed mid put added is none given d = record {
          added = added ++ d.added;
          all = sym (append_assoc put added d.added) ∙ d.all ∙ ap (λ l. flowed ss l) is;
          fine = or-none _ _ none (ap (λ l. faulted ss l) (sym is) ∙ d.fine);
          fit = subst (λ (l : List Row). AreFit out l) (append_assoc put added d.added) d.fit;
          given = adds-both added d.added before between after given d.given;
        }
        end-by (Err halt.Numeric) out s ss pushed mid put added is none given d = or-right _ _ (ap (λ l. faulted ss l) (sym is) ∙ d)
        end-by (Err halt.NoMemory) out s ss pushed mid put added is none given d = tt

        by : (kinds out : List Kind) (ss : List Stage) (pushed put : List Row) → Carries kinds ss out → AreFit kinds pushed → HasFlowed ss (p ∷ ps) pushed put → DrainedBy r out ss pushed put before after
        by kinds out [] pushed put c fit h = absurd h
        by kinds out (s ∷ ss) pushed put c fit h =
            let all : h.0 ++ found ≡ gives s.op s.build pushed = rest s.op s.build pushed h.0 h.1 in
            let more : HasGivenMore ss qs (h.0 ++ found) put before between = push ss h.0 put h.2 in
            end-by r out s ss pushed (h.0 ++ found) put more.added all (fine s.op s.build pushed h.0 h.1) more.given
            (drained c.0 out ss (h.0 ++ found) (put ++ more.added) c.2 (subst (λ (l : List Row). AreFit c.0 l) (sym all) (c.1 pushed fit)) more.flowed)

  -- a push to the others ended without rows
  pub drained-stop : (e : Halt) (qs : List Pipe) (before after : OutState) → Pushed (Err e) found ps qs before after → Drained (Err e) (p ∷ ps) before after
  drained-stop halt.NoMemory qs before after push = λ kinds out ss pushed put c fit h. tt
  drained-stop halt.Numeric qs before after push = by
    where
      by : (kinds out : List Kind) (ss : List Stage) (pushed put : List Row) → Carries kinds ss out → AreFit kinds pushed → HasFlowed ss (p ∷ ps) pushed put → faulted ss pushed ≡ true
      by kinds out [] pushed put c fit h = absurd h
      by kinds out (s ∷ ss) pushed put c fit h =
          or-right _ _ (ap (λ l. faulted ss l) (sym (rest s.op s.build pushed h.0 h.1) ∙ sym (append-nil (h.0 ++ found))) ∙ push.1 ss h.0 put h.2 [])

-- the first pipe ended without rows
pub drained-first : (e : Halt) (p : Pipe) (ps : List Pipe) (before after : OutState) → ((op : Op) (build pushed given : List Row) → HasTaken op build pushed given p → IsNumericAt (end_as (Err e)) (fails op pushed))
    → Drained (Err e) (p ∷ ps) before after
drained-first halt.NoMemory p ps before after numeric = λ kinds out ss pushed put c fit h. tt
drained-first halt.Numeric p ps before after numeric = by
  where
    by : (kinds out : List Kind) (ss : List Stage) (pushed put : List Row) → Carries kinds ss out → AreFit kinds pushed → HasFlowed ss (p ∷ ps) pushed put → faulted ss pushed ≡ true
    by kinds out [] pushed put c fit h = absurd h
    by kinds out (s ∷ ss) pushed put c fit h = or-left _ _ (numeric s.op s.build pushed h.0 h.1)

-- no pipe is left
pub drained-none : (ps : List Pipe) (before : OutState) → length ps ≡ 0 → Drained (Ok tt) ps before before
drained-none [] before e = by
  where
    by : (kinds out : List Kind) (ss : List Stage) (pushed put : List Row) → Carries kinds ss out → AreFit kinds pushed → HasFlowed ss [] pushed put → HasEnded out ss pushed put before before
    by kinds out (s ∷ ss) pushed put c fit h = absurd h
    by kinds out [] pushed put c fit h = record {
      added = [];
      all = append-nil put ∙ h;
      fine = refl;
      fit = subst (λ (k : List Kind). AreFit k (put ++ [])) c (subst (λ (l : List Row). AreFit kinds l) (sym h ∙ sym (append-nil put)) fit);
      given = adds-none before;
    }
drained-none (p ∷ ps) before e = absurd (omega (arith, e))

-- a line that takes rows
pub ready-push : (kinds : List Kind) (line : LineState) (rows : List Row) → line.failed ≡ false → CanTake kinds line → AreFit kinds rows → CanPush line.pipes rows line.out.kinds
ready-push kinds line rows fine can more = let r : IsReady kinds line = can fine in record {
  kinds = kinds;
  out = r.out;
  stages = r.stages;
  pushed = r.pushed;
  put = r.put;
  flowed = subst (λ (b : Bool). RunsBy b r.stages line.pipes r.pushed r.put) fine r.run.runs;
  carries = r.run.carries;
  fit = r.run.fit;
  more = more;
  accepts = r.accepts;
}

-- nothing is pushed where an evaluation has faulted
pub takes-failed : (kinds : List Kind) (rows : List Row) (line : LineState) → line.failed ≡ true → AreFit kinds rows → Takes kinds rows line line
takes-failed kinds rows line failed more = λ out ss pushed put run. record {
  added = [];
  run = record {
    carries = run.carries;
    fit = joined-parts (Fits kinds) pushed rows run.fit more;
    runs = subst (λ (b : Bool). RunsBy b ss line.pipes (pushed ++ rows) (put ++ [])) (sym failed) (still ss pushed (subst (λ (b : Bool). RunsBy b ss line.pipes pushed put) failed run.runs));
  };
  given = adds-none line.out;
}
  where
    still : (ss : List Stage) (pushed : List Row) → ((more : List Row) → faulted ss (pushed ++ more) ≡ true) → (more : List Row) → faulted ss (pushed ++ rows ++ more) ≡ true
    still ss pushed f more = ap (λ l. faulted ss l) (append_assoc pushed rows more) ∙ f (rows ++ more)

pub takes-pushed : (kinds : List Kind) (rows : List Row) (f : Bool) (ps qs : List Pipe) (before after : OutState) → f ≡ false → AreFit kinds rows → Pushed (Ok tt) rows ps qs before after
    → Takes kinds rows (record { failed = f; pipes = ps; out = before }) (record { failed = f; pipes = qs; out = after })
takes-pushed kinds rows f ps qs before after fine more push = λ out ss pushed put run.
    let given : HasGivenMore ss qs (pushed ++ rows) put before after = push ss pushed put (subst (λ (b : Bool). RunsBy b ss ps pushed put) fine run.runs) in
    record {
      added = given.added;
      run = record {
        carries = run.carries;
        fit = joined-parts (Fits kinds) pushed rows run.fit more;
        runs = subst (λ (b : Bool). RunsBy b ss qs (pushed ++ rows) (put ++ given.added)) (sym fine) given.flowed;
      };
      given = given.given;
    }

pub takes-fault : (kinds : List Kind) (rows : List Row) (f : Bool) (ps qs : List Pipe) (before after : OutState) → f ≡ false → AreFit kinds rows → Pushed (Err halt.Numeric) rows ps qs before after
    → Takes kinds rows (record { failed = f; pipes = ps; out = before }) (record { failed = true; pipes = qs; out = after })
takes-fault kinds rows f ps qs before after fine more push = λ out ss pushed put run.
    record {
      added = [];
      run = record {
        carries = run.carries;
        fit = joined-parts (Fits kinds) pushed rows run.fit more;
        runs = push.1 ss pushed put (subst (λ (b : Bool). RunsBy b ss ps pushed put) fine run.runs);
      };
      given = push.0;
    }

-- a line that has taken rows can take more
pub takes-again : (kinds : List Kind) (rows : List Row) (a b : LineState) → (a.failed ≡ true → b.failed ≡ true) → b.out.kinds ≡ a.out.kinds → Takes kinds rows a b → CanTake kinds a → CanTake kinds b
takes-again kinds rows a b stays same takes can fine = by a.failed refl
  where
    by : (f : Bool) → a.failed ≡ f → IsReady kinds b
    by true e = let no : true ≡ false = sym (stays e) ∙ fine in absurd cc
    by false e =
        let r : IsReady kinds a = can e in
        let g : HasGiven kinds r.out r.stages (r.pushed ++ rows) r.put a b = takes r.out r.stages r.pushed r.put r.run in
        record { out = r.out; stages = r.stages; pushed = r.pushed ++ rows; put = r.put ++ g.added; run = g.run; accepts = subst (λ (w : Option (List Kind)). Accepts w r.out) (sym same) r.accepts }

-- a line that is finished
pub finishes-failed : (kinds out : List Kind) (ss : List Stage) (pushed put : List Row) (f : Bool) (ps : List Pipe) (before after : OutState) → f ≡ true → HasRun kinds out ss pushed put f ps → Finishes true out ss pushed put before after
finishes-failed kinds out ss pushed put f ps before after failed run = ap (λ l. faulted ss l) (sym (append-nil pushed)) ∙ subst (λ (b : Bool). RunsBy b ss ps pushed put) failed run.runs []

pub drained-by : (r : Result Unit Halt) (kinds out : List Kind) (ss : List Stage) (pushed put : List Row) (f : Bool) (ps : List Pipe) (before after : OutState) → f ≡ false → HasRun kinds out ss pushed put f ps → Drained r ps before after → DrainedBy r out ss pushed put before after
drained-by r kinds out ss pushed put f ps before after fine run drained = drained kinds out ss pushed put run.carries run.fit (subst (λ (b : Bool). RunsBy b ss ps pushed put) fine run.runs)

-- a pipe behind others
pub more-flow : (ss : List Stage) (ps : List Pipe) (o : Op) (build pushed : List Row) (p : Pipe) → HasFlowed ss ps pushed [] → HasTaken o build [] [] p → HasFlowed (behind ss o build) (ps ++ p ∷ []) pushed []
more-flow [] [] o build pushed p h taken = ([], subst (λ (l : List Row). HasTaken o build l [] p) h taken, refl)
more-flow [] (q ∷ ps) o build pushed p h taken = absurd h
more-flow (s ∷ ss) [] o build pushed p h taken = absurd h
more-flow (s ∷ ss) (q ∷ ps) o build pushed p h taken = (h.0, h.1, more-flow ss ps o build h.0 p h.2 taken)
