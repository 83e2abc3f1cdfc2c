-- A block more stands.
use Rattle.std.proofs.Common.{◌<◌, List, length, refl, subst, IsNone, arith, ◌∙◌}
use Rattle.hq_lane.specs.BucketFiles.{BucketState, IsGrown}
use Rattle.hq_value.specs.declared.value.Value.{Value}
use Rattle.hq_block.specs.Block.{IsBlock, block_bytes}
use Rattle.std.proofs.lemmas.Grind.{common_steps}
use Rattle.hq_lane.proofs.Growing.{grew_none, grew_more}
use Rattle.hq_value.proofs.Counting.{goes_on_still, goes_on_more}
use Rattle.hq_lane.proofs.bucket_file.BucketFile.append_rows.Goals as goal

pub loop-done-init : goal.loop-done-init
loop-done-init g c = record {
  within = omega arith;
  grown = grew_none g.F.StoredFile.tells c.args.kinds.now c.args.rows.now c.args.self.now;
  whole = c.requires.whole;
  missing = λ _. refl;
  store = goes_on_still g.S.Store.faults g.S.Store.given g.S.Store.sound c.args.store.now;
}

pub loop-done-preserved : goal.loop-done-preserved
loop-done-preserved g c =
    let told = c.in_ok-append_block.ensures in
    let below : c.loop-done.done < length c.args.rows.now = omega (arith, c.loop-done-test.true, c.len-in-loop-done.ensures) in
    let block = subst (λ (rows : List (List Value)). IsBlock c.args.kinds.now rows (block_bytes c.args.kinds.now rows)) c.first.ensures told.block in
    let grown = subst (λ (rows : List (List Value)). IsGrown g.F.StoredFile.tells c.loop-done.self (block_bytes c.args.kinds.now rows) c.append_block.new.self) c.first.ensures told.grown in
    record {
      within = grind (arith, common_steps);
      grown = grew_more g.F.StoredFile.tells c.args.kinds.now c.loop-done.done c.fitting_in_list-count.result c.args.rows.now _ c.args.self.now c.loop-done.self c.append_block.new.self c.loop-done.invariant.grown c.behind-rest.ensures below c.fitting_in_list-count.ensures.count block grown;
      whole = told.whole;
      missing = λ none. let same = told.missing none in same ∙ c.loop-done.invariant.missing (subst (λ (p : BucketState). IsNone p.file) same none);
      store = goes_on_more g.S.Store.faults g.S.Store.given g.S.Store.sound c.args.store.now c.loop-done.store c.append_block.new.store c.loop-done.invariant.store told.store;
    }
