-- What came of each sender is its stream.
use Rattle.std.proofs.Common.{◌≡◌, inl, Option, Result, Ok, Err, IfOk, OnOk, arith, ℕ, ◌<◌, ◌++◌, Bool, true, false, List, [], Some, None, filter, flat_map, slice_index_or, sym, ap, subst, ◌∙◌}
use Rattle.std.specs.Global.{Vec}
use Rattle.std.specs.Prelude.{slice_get}
use Rattle.std.specs.List.{AllByRecursion, range_with_len}
use Rattle.hq_value.specs.declared.kind.Kind.{Kind}
use Rattle.hq_value.specs.declared.value.Value.{Value}
use Rattle.hq_value.specs.Causes.{RoseBy}
use Rattle.hq_block.specs.Row.{IsStorable}
use Rattle.hq_algebra.specs.declared.plan.Motion.{Motion}
use Rattle.hq_link.specs.Link.{LinkState, Told, IsLowered}
use Rattle.hq_pump.specs.Pumping.{pieces_of}
use Rattle.hq_motion.specs.Bytes.{AreRows}
use Rattle.hq_pump.specs.Safe.{Grows, TakeAll, WhereKnown}
use Rattle.hq_dispatch.specs.Parcels.{list_of, parcel_at}
use Rattle.hq_dispatch.specs.Received.{AreGiven, AreOf, HasTaken, joined, streams_for}
use Rattle.hq_dispatch.specs.declared.parcels.Parcels.{Parcels}
use Rattle.hq_dispatch.proofs.Apart.{streams_of, there-at}

where-known : (may : Told) (P Q : Type 0) → (P → Q) → WhereKnown may P → WhereKnown may Q
where-known None P Q f w = w
where-known (Some xs) P Q f w = f w

-- where the link tells, the rows are those that were given
pub rows-known : (may : Told) (kinds : List Kind) (sends : List Bool) (streams : List (ℕ × List ℕ)) (first now : ℕ → List ℕ) (rows : List (List Value)) → ((n : ℕ) → first n ≡ []) → WhereKnown may (TakeAll streams first now)
    → ((given : ℕ → List (List Value)) → ((n : ℕ) → n < 16 → slice_index_or sends n false ≡ true → AreRows kinds (given n) (now n)) → rows ≡ flat_map given (filter (λ n. slice_index_or sends n false) (range_with_len 0 16)))
    → WhereKnown may ((given : ℕ → List (List Value)) → AreOf kinds sends given streams → rows ≡ flat_map given (filter (λ n. slice_index_or sends n false) (range_with_len 0 16)))
rows-known may kinds sends streams first now rows none whole is =
    where-known may (TakeAll streams first now) ((given : ℕ → List (List Value)) → AreOf kinds sends given streams → rows ≡ flat_map given (filter (λ n. slice_index_or sends n false) (range_with_len 0 16)))
    (λ all given of. is given (λ n within e.
    let there = of n within e in
    subst (AreRows kinds (given n)) (sym (all there.0 (n, there.1) there.2 ∙ ap (λ (l : List ℕ). l ++ there.1) (none n))) there.3))
    whole

-- rows given for the bytes of the senders are given for their streams
given-of : (kinds : List Kind) (sends : List Bool) (given : ℕ → List (List Value)) (f : ℕ → List ℕ) (streams : List (ℕ × List ℕ)) → streams ≡ streams_of f (λ s. slice_index_or sends s false) 0 16 → AreGiven kinds sends given f → AreOf kinds sends given streams
given-of kinds sends given f streams is each n within e =
    let there = there-at f (λ s. slice_index_or sends s false) 0 16 n (omega arith) (omega (arith, within)) e in
    (there.0, f n, ap (λ (l : List (ℕ × List ℕ)). slice_get l there.0) is ∙ there.1, each n within e)

-- a link that is left as it is brings nothing new
pub grows-same : (may : Told) (P : List ℕ → Type 0) → Grows may may P
grows-same None P = tt
grows-same (Some xs) P = λ x is. inl is

pub lowered-same : (rough : Option ℕ) → IsLowered rough rough
lowered-same None = tt
lowered-same (Some r) = omega arith

-- the rows that were taken are those of the senders
pub taken-so : {E : Type 0} (kinds : List Kind) (out : Motion) (parcels : List Parcels) (sends : List Bool) (node : ℕ) (old new : LinkState) (streams : List (ℕ × List ℕ)) (result : Result (Vec (List Value)) E) → streams ≡ streams_for out parcels sends node
    → IfOk result (λ rows. AllByRecursion (IsStorable kinds) rows.items) → IfOk result (λ rows. WhereKnown new.may ((given : ℕ → List (List Value)) → AreOf kinds sends given streams → rows.items ≡ joined sends given))
    → OnOk result (WhereKnown new.may (RoseBy (pieces_of streams) old.given new.given)) → IfOk result (λ rows. HasTaken kinds out parcels sends node old new rows.items)
taken-so kinds out parcels sends node old new streams (Err e) is storable known given = tt
taken-so kinds out parcels sends node old new streams (Ok rows) is storable known given = record {
  storable = storable;
  known = where-known new.may ((given : ℕ → List (List Value)) → AreOf kinds sends given streams → rows.items ≡ joined sends given) ((given : ℕ → List (List Value)) → AreGiven kinds sends given (λ s. parcel_at parcels s (list_of out node)) → rows.items ≡ joined sends given)
      (λ all given each. all given (given-of kinds sends given (λ s. parcel_at parcels s (list_of out node)) streams is each)) known;
  given = subst (λ (l : List (ℕ × List ℕ)). WhereKnown new.may (RoseBy (pieces_of l) old.given new.given)) is given;
}
