use Rattle.std.proofs.Common.{◌<◌, ℕ, All, length, IsSomeAnd, ap, sym, subst, ◌∙◌}
use Rattle.std.proofs.lemmas.List.{length-map}
use Rattle.hq_value.specs.Kinds.{Fits}
use Rattle.hq_lane.specs.Lanes.{LaneState}
use Rattle.hq_value.specs.Kinds.{kinds_of}
use Rattle.hq_value.specs.Bucket.{share}
use Rattle.hq_table.specs.Kept.{TableState, bytes_in}
use Rattle.hq_table.specs.Home.{AreHome, files_of, rows_at}
use Rattle.hq_table.proofs.Inserting.{all-share, added-kept, still-kept, same-files, keys-within}
use Rattle.hq_table.proofs.table.Table.insert.Goals as goal

pub spread-requires : goal.spread-requires
spread-requires c =
    let columns = c.self.inside.def.columns in
    let fit : All (Fits (kinds_of columns)) c.args.rows.items = subst (λ (t : TableState). All (Fits (kinds_of t.columns)) c.args.rows.items) (sym c.self.view_is) c.requires.fit in
    subst (λ keys. All (λ row. All (λ key. key < length row) keys) c.args.rows.items) (sym c.keys.ensures) (keys-within (kinds_of columns) (length columns) c.self.inside.def.keys c.args.rows.items (length-map columns _) c.self.invariant.keyed fit)

pub append-lane-requires-clause-fit : goal.append-lane-requires-clause-fit
append-lane-requires-clause-fit c = λ b within.
    let columns = c.self.inside.def.columns in
    let keys = c.self.inside.def.keys in
    let rows = c.args.rows.items in
    let fit : All (Fits (kinds_of columns)) rows = subst (λ (t : TableState). All (Fits (kinds_of t.columns)) rows) (sym c.self.view_is) c.requires.fit in
    let shared = ap (λ bs. rows_at bs b) c.deref.ensures.value ∙ c.in_ok-buckets.ensures.shared b within ∙ ap (λ ks. share ks rows b) c.keys.ensures in
    subst (λ rs. All (Fits c.self.inside.kinds) rs) (sym shared) (subst (λ ks. All (Fits ks) (share keys rows b)) (sym c.self.invariant.kinds_are) (all-share (Fits (kinds_of columns)) keys 0 rows b fit))

pub invariant_of-self : goal.invariant_of-self
invariant_of-self c = record {
  some_columns = c.self.invariant.some_columns;
  few_columns = c.self.invariant.few_columns;
  keyed = c.self.invariant.keyed;
  kinds_are = c.self.invariant.kinds_are;
  sixteen = c.append-lane.ensures.sixteen;
  home = subst (λ l. IsSomeAnd l (λ (lane : LaneState). AreHome (files_of c.append-lane.new.seals.items) lane.files)) (sym c.put.ensures) c.append-lane.ensures.home;
  kept = still-kept c.files_grow_by_blocks.ensures.joined c.self.inside.kinds (rows_at c.deref.result.now) (bytes_in (files_of c.self.inside.seals.items)) (bytes_in (files_of c.append-lane.new.seals.items)) c.append-lane.result.1
      c.append-lane.ensures.added (same-files c.self.inside.seals.items c.append-lane.new.seals.items c.append-lane.result.1 c.append-lane.ensures.err) c.self.invariant.kept;
}

pub returns-clause-added : goal.returns-clause-added
returns-clause-added c =
    let columns = c.self.inside.def.columns in
    let rows = c.args.rows.items in
    let files = bytes_in (files_of c.self.inside.seals.items) in
    let files' = bytes_in (files_of c.append-lane.new.seals.items) in
    let shared = λ (b : ℕ) (within : b < 16). ap (λ bs. rows_at bs b) c.deref.ensures.value ∙ c.in_ok-buckets.ensures.shared b within ∙ ap (λ ks. share ks rows b) c.keys.ensures in
    rw (← c.self.view_is) (added-kept c.files_grow_by_blocks.ensures.joined c.self.inside.kinds (kinds_of columns) (rows_at c.deref.result.now) (share c.self.inside.def.keys rows) files files' c.append-lane.result.1 c.self.invariant.kinds_are shared c.append-lane.ensures.added)
