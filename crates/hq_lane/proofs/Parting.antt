-- The parts of a lane are one lane.
use Rattle.std.proofs.Common.{◌≡◌, ℕ, ◌<◌, Bool, false, List, slice_index, slice_index_or, refl, sym, ap, ◌∙◌, arith}
use Rattle.std.proofs.lemmas.Bool.{eqb-true, eq-eqb}
use Rattle.hq_lane.specs.Lanes.{LaneState, PartState, part_at, file_of, file_in, owns, ArePartsOf, AreOneLane, IsOnce, IsWholeOf, HaveSameHeads}

-- a part has what it had
owns-same : (parts new : List PartState) (n b : ℕ) → HaveSameHeads parts new → owns (part_at new n) b ≡ owns (part_at parts n) b
owns-same parts new n b same = ap (λ (here : List Bool). slice_index_or here b false) (same.here n)

is_once : (lane : LaneState) (owner : List ℕ) (parts new : List PartState) (b : ℕ) → b < 16 → slice_index owner b < 16 → ArePartsOf lane owner parts → HaveSameHeads parts new → IsOnce new b
is_once lane owner parts new b inside below are same =
    let o : ℕ = slice_index owner b in
    record {
      owner = o;
      within = omega (arith, below, same.sixteen, are.sixteen);
      here = owns-same parts new o b same ∙ are.owned o b below inside ∙ eq-eqb o o refl;
      only = λ n h own. sym (eqb-true o n (sym (are.owned n b (omega (arith, h, same.sixteen, are.sixteen)) inside) ∙ sym (owns-same parts new n b same) ∙ own));
    }

pub one_lane : (lane : LaneState) (owner : List ℕ) (parts new : List PartState) → ((b : ℕ) → b < 16 → slice_index owner b < 16) → ArePartsOf lane owner parts → HaveSameHeads parts new → AreOneLane new
one_lane lane owner parts new below are same = record {
  table = λ n h. same.table n ∙ are.table n (omega (arith, h, same.sixteen, are.sixteen)) ∙ sym (are.table 0 (omega arith)) ∙ sym (same.table 0);
  number = λ n h. same.number n ∙ are.number n (omega (arith, h, same.sixteen, are.sixteen)) ∙ sym (are.number 0 (omega arith)) ∙ sym (same.number 0);
  once = λ b h. is_once lane owner parts new b h (below b h) are same;
}

pub same_names : (lane whole : LaneState) (owner : List ℕ) (parts new : List PartState) → ArePartsOf lane owner parts → HaveSameHeads parts new → IsWholeOf new whole
    → (whole.table ≡ lane.table) × (whole.number ≡ lane.number)
same_names lane whole owner parts new are same is =
    (is.table ∙ same.table 0 ∙ are.table 0 (omega arith), is.number ∙ same.number 0 ∙ are.number 0 (omega arith))

pub owners_places : (lane whole : LaneState) (owner : List ℕ) (parts new : List PartState) → ((b : ℕ) → b < 16 → slice_index owner b < 16) → ArePartsOf lane owner parts → HaveSameHeads parts new → IsWholeOf new whole
    → (b : ℕ) → b < 16 → file_of whole.files b ≡ file_in new (slice_index owner b) b
unfolding is_once
owners_places lane whole owner parts new below are same is b h =
    let once = is_once lane owner parts new b h (below b h) are same in
    is.files once.owner b once.within h once.here
