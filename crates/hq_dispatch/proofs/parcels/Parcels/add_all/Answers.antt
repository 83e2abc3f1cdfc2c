-- One row more.
use Rattle.std.proofs.Common.{◌≡◌, ◌+◌, ◌++◌, ◌∷◌, ◌∙◌, [], List, take, ap, sym, subst, append-nil, append_assoc}
use Rattle.std.specs.List.{AllByRecursion}
use Rattle.std.proofs.lemmas.List.{take_all}
use Rattle.hq_value.specs.declared.value.Value.{Value}
use Rattle.hq_block.specs.Row.{IsStorable}
use Rattle.hq_dispatch.specs.Parcels.{HasParcels}
use Rattle.hq_dispatch.proofs.Arriving.{all-joined}
use Rattle.hq_dispatch.proofs.Parceling.{take-row}
use Rattle.hq_dispatch.proofs.parcels.Parcels.add_all.Goals as goal

pub loop-row-init : goal.loop-row-init
loop-row-init c = record {
  added = λ others has. subst (λ (l : List (List Value)). HasParcels c.args.out.now c.args.owner.now l c.args.self.now.lists.items) (sym (append-nil others)) has;
  storable = tt;
}

pub loop-row-preserved : goal.loop-row-preserved
loop-row-preserved c =
    let rows : List (List Value) = c.args.rows.now in
    let more : take (c.loop-row.row-index + 1) rows ≡ take c.loop-row.row-index rows ++ c.row-item.result ∷ [] = take-row rows c.loop-row.row-index c.row-item.result c.loop-row-test.true c.row-item.is in
    record {
      added = λ others has. subst (λ (l : List (List Value)). HasParcels c.args.out.now c.args.owner.now l c.add.new.self.lists.items)
          (append_assoc others (take c.loop-row.row-index rows) (c.row-item.result ∷ []) ∙ ap (λ (l : List (List Value)). others ++ l) (sym more))
          (c.in_ok-add.ensures.added (others ++ take c.loop-row.row-index rows) (c.loop-row.invariant.added others has));
      storable = subst (AllByRecursion (IsStorable c.args.kinds.now)) (sym more) (all-joined (IsStorable c.args.kinds.now) (take c.loop-row.row-index rows) (c.row-item.result ∷ []) c.loop-row.invariant.storable (c.in_ok-add.ensures.storable, tt));
    }

pub returns : goal.returns
returns c =
    let all : take c.loop-row.row-index c.args.rows.now ≡ c.args.rows.now = take_all c.loop-row.row-index c.args.rows.now c.loop-row-test.false in
    record {
      storable = subst (AllByRecursion (IsStorable c.args.kinds.now)) all c.loop-row.invariant.storable;
      added = λ others has. subst (λ (l : List (List Value)). HasParcels c.args.out.now c.args.owner.now (others ++ l) c.loop-row.self.lists.items) all (c.loop-row.invariant.added others has);
    }
