-- What a link over sockets does is what a link may do.
use Rattle.std.proofs.Common.{◌≡◌, ◌⊎◌, ℕ, ◌+◌, ◌<◌, ◌≤◌, Bool, true, false, List, take, None, Result, Ok, Err, refl, sym, subst, ◌∙◌, arith, inl, inr}
use Rattle.hq_value.specs.Causes.{Rose, raised}
use Rattle.hq_value.specs.declared.fault.Failed.{Failed}
use Rattle.hq_link.specs.declared.counts.Counts.{Counts}
use Rattle.hq_link.specs.declared.link.Got.{Got}
use Rattle.hq_link.specs.declared.link.Got.TheVariants.{Bytes, Quiet}
use Rattle.hq_link.specs.Link.{IsNext, HasCome, IsInTurn, ack_count, other_count}
use Rattle.hq_link.specs.Pair.{pair_state, CameCounted, HasSkipped}

came_is : (old mid new : Counts) (tries : ℕ) (bytes : List ℕ) → HasSkipped old tries mid → CameCounted mid bytes new → HasCome (pair_state old) bytes (pair_state new)
came_is old mid new tries bytes skipped came = record {
  may = tt;
  turn = elim came.turn [
    | inl p ↦ inl (record { head = refl; acks = p.0 ∙ skipped.acks; others = p.1 ∙ skipped.others })
    | inr rose ↦ inr (omega (arith, rose, skipped.troubles))
  ];
  given = omega (arith, came.given, skipped.given);
}

pub next_bytes : (old mid new : Counts) (tries len : ℕ) (into bytes : List ℕ) → HasSkipped old tries mid → CameCounted mid bytes new → take len into ≡ bytes → len ≤ 1224 → IsNext (pair_state old) (Ok (Bytes len)) into (pair_state new)
next_bytes old mid new tries len into bytes skipped came is short = record {
  came = (short, subst (λ b. HasCome (pair_state old) b (pair_state new)) (sym is) (came_is old mid new tries bytes skipped came));
  may = tt;
  flying = tt;
  acks = omega (arith, came.acks, skipped.acks);
  others = omega (arith, came.others, skipped.others);
  troubles = omega (arith, came.troubles, skipped.troubles);
  faults = omega (arith, came.faults, skipped.faults);
  sound = λ e. absurd cc;
  works = λ e. absurd cc;
  rough = tt;
  one = tt;
  promise = tt;
}

pub next_quiet : (old new : Counts) (tries : ℕ) (into : List ℕ) → HasSkipped old tries new → 0 < tries → IsNext (pair_state old) (Ok Quiet) into (pair_state new)
next_quiet old new tries into skipped some = record {
  came = (skipped.rose some, skipped.given);
  may = tt;
  flying = tt;
  acks = omega (arith, skipped.acks);
  others = omega (arith, skipped.others);
  troubles = skipped.troubles;
  faults = omega (arith, skipped.faults);
  sound = λ e. absurd cc;
  works = λ e. absurd cc;
  rough = tt;
  one = tt;
  promise = tt;
}

-- one arrival more was skipped
pub skip_more : (old mid new : Counts) (tries : ℕ) → HasSkipped old tries mid → new ≡ record mid { troubles = raised mid.troubles 1 } → mid.troubles ≤ new.troubles → HasSkipped old (tries + 1) new
skip_more old mid new tries skipped is later =
    subst (λ (c : Counts). HasSkipped old (tries + 1) c) (sym is) (let le : mid.troubles ≤ raised mid.troubles 1 = subst (λ (c : Counts). mid.troubles ≤ c.troubles) is later in record {
      acks = skipped.acks;
      others = skipped.others;
      given = skipped.given;
      faults = skipped.faults;
      troubles = omega (arith, skipped.troubles, le);
      rose = λ lt. omega (arith, skipped.troubles, le);
    })

pub next_failed : (old mid new : Counts) (tries : ℕ) (failed : Failed) (into : List ℕ) → HasSkipped old tries mid → new ≡ record mid { faults = raised mid.faults 1 } → mid.faults ≤ new.faults → IsNext (pair_state old) (Err failed) into (pair_state new)
next_failed old mid new tries failed into skipped is later =
    subst (λ (c : Counts). IsNext (pair_state old) (Err failed) into (pair_state c)) (sym is) (let le : mid.faults ≤ raised mid.faults 1 = subst (λ (c : Counts). mid.faults ≤ c.faults) is later in record {
      came = (omega (arith, skipped.faults), skipped.given, inl refl);
      may = tt;
      flying = tt;
      acks = omega (arith, skipped.acks);
      others = omega (arith, skipped.others);
      troubles = skipped.troubles;
      faults = omega (arith, skipped.faults, le);
      sound = λ e. absurd cc;
      works = λ e. absurd cc;
      rough = tt;
      one = tt;
      promise = tt;
    })
