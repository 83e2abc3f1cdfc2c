-- How an exchange is over.
use Rattle.std.proofs.Common.{◌≡◌, ℕ, zero, suc, ◌<◌, Bool, true, false, ◌&&◌, List, [], ◌∷◌, length, map, Some, None, Result, Ok, Err, refl, sym, ap, subst, ◌∙◌, arith}
use Rattle.std.specs.Prelude.{slice_get, IfOk, IfErr}
use Rattle.hq_link.specs.declared.link.LinkFault.{LinkFault}
use Rattle.hq_link.specs.declared.link.LinkFault.TheVariants as fault
use Rattle.hq_link.specs.Link.{LinkState}
use Rattle.hq_pump.specs.declared.end.ExchangeEnd.{ExchangeEnd}
use Rattle.hq_pump.specs.declared.end.ExchangeEnd.TheVariants as end_variant
use Rattle.hq_pump.specs.declared.lane.Lane.{Lane}
use Rattle.hq_pump.specs.Exchange.{Exchange, IsReady, Run, is_done, is_sent}
use Rattle.hq_pump.specs.Pumping.{at, AreIdle, AreOpen, HasRun, IsOver, IsEnd, IsLost, all_done, first_open, new_lane}
use Rattle.hq_pump.proofs.Steps.{joined}
use Rattle.hq_pump.proofs.Turning.{one_open, done_at}
use Rattle.hq_pump.proofs.Start.{get_mapped}

there_below : {A : Type 0} (xs : List A) (i : ℕ) (x : A) → slice_get xs i ≡ Some x → i < length xs
there_below [] i x e = absurd cc
there_below (y ∷ xs) zero x e = omega arith
there_below (y ∷ xs) (suc i) x e = omega (arith, there_below xs i x e)

-- it is time to ask the link
pub ready_at : (lanes : List Lane) (link : LinkState) (base : ℕ) (taken : ℕ → List ℕ) → AreIdle lanes (length lanes) → all_done lanes ≡ false → IsReady (at lanes link base taken None)
ready_at lanes link base taken idle goes_on =
    let open_one = one_open lanes goes_on in
    record {
      idle = λ i lane e. idle i lane (there_below lanes i lane e) e;
      place = open_one.place;
      lane = open_one.lane;
      at = open_one.at;
      goes_on = open_one.goes_on;
      owes_none = refl;
      whole = refl;
    }

over_end : (s : Exchange) (f : LinkFault) (e : ExchangeEnd) → s.fault ≡ Some f → IsEnd s.base (first_open s.lanes) s.link.troubles f e → IsOver s (Err e)
over_end s f (end_variant.LinkLost seq troubles) is ends = ends
over_end s f end_variant.LinkFailed is ends = (ends.0, is ∙ ap Some ends.1)
over_end s f end_variant.NoMemory is ends = (ends.0, is ∙ ap Some ends.1)

over_lost : (s : Exchange) (e : ExchangeEnd) → ((f : LinkFault) → IsEnd s.base (first_open s.lanes) s.link.troubles f e) → IsOver s (Err e)
over_lost s (end_variant.LinkLost seq troubles) ends = ends fault.Failed
over_lost s end_variant.LinkFailed ends = let no : fault.NoMemory ≡ fault.Failed = (ends fault.NoMemory).1 in absurd cc
over_lost s end_variant.NoMemory ends = let no : fault.Failed ≡ fault.NoMemory = (ends fault.Failed).1 in absurd cc

-- it ended by a fault, or was lost
pub run_end : (start : Exchange) (lanes : List Lane) (link : LinkState) (base : ℕ) (taken : ℕ → List ℕ) (f : LinkFault) (e : ExchangeEnd) → Run start (at lanes link base taken (Some f)) → IsEnd base (first_open lanes) link.troubles f e → HasRun start link taken (Err e)
run_end start lanes link base taken f e run ends = record { over = at lanes link base taken (Some f); run = run; link_is = refl; taken_is = refl; how = over_end (at lanes link base taken (Some f)) f e refl ends }

pub run_lost : (start : Exchange) (lanes : List Lane) (link : LinkState) (base : ℕ) (taken : ℕ → List ℕ) (e : ExchangeEnd) → Run start (at lanes link base taken None) → ((f : LinkFault) → IsEnd base (first_open lanes) link.troubles f e) → HasRun start link taken (Err e)
run_lost start lanes link base taken e run ends = record { over = at lanes link base taken None; run = run; link_is = refl; taken_is = refl; how = over_lost (at lanes link base taken None) e ends }

pub run_done : (start : Exchange) (lanes : List Lane) (link : LinkState) (base : ℕ) (taken : ℕ → List ℕ) → Run start (at lanes link base taken None) → all_done lanes ≡ true → (IsLost base link.troubles → lanes ≡ []) → HasRun start link taken (Ok tt)
run_done start lanes link base taken run done fresh = record { over = at lanes link base taken None; run = run; link_is = refl; taken_is = refl; how = (done, refl, refl, fresh) }

-- streams of which none is done and all are, are none
pub none_open : (lanes first : List Lane) → AreOpen first → lanes ≡ first → all_done lanes ≡ true → lanes ≡ []
none_open lanes [] open_ones same done = same
none_open lanes (x ∷ xs) open_ones same done =
    let all : is_done x ≡ true = done_at lanes 0 x done (ap (λ (l : List Lane). slice_get l 0) same) in
    let no : true ≡ false = sym all ∙ open_ones 0 x refl in
    absurd cc

-- at the start none is done
pub new_open : (q m t : ℕ) (streams : List (ℕ × List ℕ)) → AreOpen (map (new_lane q m t) streams)
new_open q m t streams i lane e =
    let y = get_mapped (new_lane q m t) streams i lane e in
    subst (λ (l : Lane). is_done l ≡ false) y.2 (never (is_sent (new_lane q m t y.0)))
  where
    never : (b : Bool) → (b && false) ≡ false
    never true = refl
    never false = refl

-- what ran on from a later point ran from the start
pub run_on : (start now : Exchange) (link : LinkState) (taken : ℕ → List ℕ) (e : ExchangeEnd) → Run start now → HasRun now link taken (Err e) → HasRun start link taken (Err e)
run_on start now link taken e first ran = record { over = ran.over; run = joined start now ran.over first ran.run; link_is = ran.link_is; taken_is = ran.taken_is; how = ran.how }

pub ok_on : (r : Result ℕ ExchangeEnd) (a b : Exchange) (f : ℕ → Exchange) → Run a b → IfOk r (λ n. Run b (f n)) → IfOk r (λ n. Run a (f n))
ok_on (Ok n) a b f first then_run = joined a b (f n) first then_run
ok_on (Err e) a b f first then_run = tt

pub err_on : (r : Result ℕ ExchangeEnd) (a b : Exchange) (link : LinkState) (taken : ℕ → List ℕ) → Run a b → IfErr r (λ e. HasRun b link taken (Err e)) → IfErr r (λ e. HasRun a link taken (Err e))
err_on (Ok n) a b link taken first ran = tt
err_on (Err e) a b link taken first ran = run_on a b link taken e first ran
