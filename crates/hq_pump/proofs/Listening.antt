-- What is done once the link was asked.
use Rattle.std.proofs.Common.{◌≡◌, ℕ, Bool, cond, List, take, map, Option, Some, None, Ok, Err, refl, sym, subst}
use Rattle.std.specs.Prelude.{slice_get, slice_set}
use Rattle.hq_value.specs.declared.fault.Failed.{Failed}
use Rattle.hq_link.specs.declared.link.Got.TheVariants.{Quiet}
use Rattle.hq_link.specs.declared.link.LinkFault.{LinkFault}
use Rattle.hq_link.specs.declared.link.LinkFault.TheVariants as link_fault
use Rattle.hq_link.specs.Link.{LinkState, IsNext}
use Rattle.hq_link.specs.Reading.{gram_at}
use Rattle.hq_link.specs.Streams.{ack_in}
use Rattle.hq_send.specs.Sending.{is_new}
use Rattle.hq_pump.specs.declared.lane.Lane.{Lane}
use Rattle.hq_pump.specs.Exchange.{Exchange, IsItsOwn, IsReady, IsNobodys, is_told, misses, rests, fails, Run, acknowledged, asked_again}
use Rattle.hq_pump.specs.Pumping.{at, Arrives, Comes, heard, place_of}
use Rattle.hq_pump.proofs.Steps.{joined, one_step}
use Rattle.hq_pump.proofs.Turning.{nobodys}

pub missed_nobodys : (s : Exchange) (lanes : List Lane) (base count : ℕ) (into : List ℕ) (link : LinkState) (bytes : List ℕ) (taken : ℕ → List ℕ) → Comes s lanes base count into link bytes taken → place_of lanes bytes ≡ None → Run s (at lanes link base taken None)
missed_nobodys s lanes base count into link bytes taken comes none =
    subst (Run s) (λ k. record { lanes = comes.lanes_are k; link = link; base = comes.base_is k; taken = comes.taken_is k; owed = comes.ready.owes_none k; fault = None })
    (one_step s (record s { link = link; fault = None }) (misses (record {
      ready = comes.ready;
      count = count;
      into = into;
      link = link;
      fault = None;
      next = comes.next;
      nobodys = λ e. subst (λ (xs : List Lane). IsNobodys xs (gram_at (take count into))) (sym comes.lanes_are) (subst (λ b. IsNobodys lanes (gram_at b)) (sym comes.bytes_are) (nobodys lanes (gram_at bytes) none));
      memory = λ e. absurd cc;
      is = refl;
    })))

-- an acknowledgement came
pub told_run : (s : Exchange) (lanes : List Lane) (base now count : ℕ) (into : List ℕ) (link : LinkState) (bytes : List ℕ) (taken : ℕ → List ℕ) (place : ℕ) (lane left : Lane) (n : ℕ) (new : Bool) → Comes s lanes base count into link bytes taken → slice_get lanes place ≡ Some lane → ack_in lane.sender.route bytes ≡ Some n → left ≡ acknowledged lane n → new ≡ is_new lane.sender n → now ≡ link.troubles → Run s (at (slice_set lanes place left) link (cond new now base) taken None)
told_run s lanes base now count into link bytes taken place lane left n new comes there ack left_is new_is now_is =
    subst (Run s) (λ k. record { lanes = slice_set (comes.lanes_are k) place (sym left_is k); link = link; base = cond (sym new_is k) (sym now_is k) (comes.base_is k); taken = comes.taken_is k; owed = comes.ready.owes_none k; fault = comes.ready.whole k })
    (one_step s (record s { lanes = slice_set s.lanes place (acknowledged lane n); link = link; base = cond (is_new lane.sender n) link.troubles s.base }) (is_told (record {
      ready = comes.ready;
      place = place;
      lane = lane;
      n = n;
      count = count;
      into = into;
      link = link;
      next = comes.next;
      at = subst (λ (xs : List Lane). slice_get xs place ≡ Some lane) (sym comes.lanes_are) there;
      ack = subst (λ b. ack_in lane.sender.route b ≡ Some n) (sym comes.bytes_are) ack;
      is = refl;
    })))

-- a piece or a question came
pub heard_at : (s : Exchange) (lanes : List Lane) (base count : ℕ) (into : List ℕ) (link new : LinkState) (bytes : List ℕ) (before taken : ℕ → List ℕ) (place : ℕ) (lane left : Lane) (fault : Option LinkFault) → Comes s lanes base count into link bytes before → slice_get lanes place ≡ Some lane → IsItsOwn lane (gram_at bytes) → ((t : Exchange) (i n : ℕ) (raw : List ℕ) → Arrives t i lane n raw link bytes before → Run t (heard t i left new taken fault)) → Run s (at (slice_set lanes place left) new base taken fault)
heard_at s lanes base count into link new bytes before taken place lane left fault comes there own runs =
    subst (Run s) (λ k. record { lanes = slice_set (comes.lanes_are k) place left; link = new; base = comes.base_is k; taken = taken; owed = None; fault = fault })
    (runs s place count into (record {
      ready = comes.ready;
      lane_is = subst (λ (xs : List Lane). slice_get xs place ≡ Some lane) (sym comes.lanes_are) there;
      next = comes.next;
      bytes_are = comes.bytes_are;
      own = own;
      taken_is = comes.taken_is;
    }))

-- nothing came
pub rest_run : (lanes : List Lane) (old link : LinkState) (base : ℕ) (taken : ℕ → List ℕ) (into : List ℕ) (t : Exchange) → IsReady (at lanes old base taken None) → IsNext old (Ok Quiet) into link → Run (at (map asked_again lanes) link base taken None) t → Run (at lanes old base taken None) t
rest_run lanes old link base taken into t ready next run =
    joined (at lanes old base taken None) (at (map asked_again lanes) link base taken None) t
    (one_step (at lanes old base taken None) (at (map asked_again lanes) link base taken None) (rests (record { ready = ready; into = into; link = link; next = next; is = refl }))) run

-- the link failed
pub fail_run : (lanes : List Lane) (old link : LinkState) (base : ℕ) (taken : ℕ → List ℕ) (into : List ℕ) (failed : Failed) → IsReady (at lanes old base taken None) → IsNext old (Err failed) into link → Run (at lanes old base taken None) (at lanes link base taken (Some link_fault.Failed))
fail_run lanes old link base taken into failed ready next =
    one_step (at lanes old base taken None) (at lanes link base taken (Some link_fault.Failed)) (fails (record { ready = ready; failed = failed; into = into; link = link; next = next; is = refl }))
