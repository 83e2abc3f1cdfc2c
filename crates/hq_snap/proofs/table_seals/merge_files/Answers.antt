-- One seal more is put in its place.
use Rattle.std.proofs.Common.{◌≡◌, ◌+◌, ◌-◌, vec_len, arith, Some, slice_index_or, subst, sym}
use Rattle.std.proofs.lemmas.Grind.{common_steps}
use Rattle.hq_snap.proofs.Placed.{IsPutBack, more_back, all_back}
use Rattle.hq_snap.proofs.table_seals.merge_files.Goals as goal

pub loop-file-preserved : goal.loop-file-preserved
loop-file-preserved g c =
    let all = c.args.files.items in
    let was = c.loop-file.files in
    let now = c.pop.new.self in
    let ends : vec_len now + 1 ≡ vec_len was = c.in-Some.ensures.cases in
    let j = vec_len now in
    let f = c.in-Some.file in
    let got : Some f ≡ Some (slice_index_or was.items (vec_len was - 1) f) = c.in-Some.ensures.value f (omega arith) in
    let e : f ≡ slice_index_or all j f = (let t = got in let l = c.loop-file.invariant.left in grind (arith, common_steps)) in
    let so = subst (IsPutBack all c.args.lanes.now.items c.loop-file.lanes.items) (sym ends) c.loop-file.invariant.put in
    record {
      below = omega (arith, c.loop-file.invariant.below);
      left = (let r = c.in-Some.ensures.rest in let l = c.loop-file.invariant.left in grind (arith, common_steps));
      put = more_back all c.args.lanes.now.items c.loop-file.lanes.items c.put_file.new.lanes.items j f f e (omega (arith, c.loop-file.invariant.below)) so c.put_file.ensures.places c.put_file.ensures.put;
    }

pub returns-clause-merged : goal.returns-clause-merged
returns-clause-merged g c =
    let all = c.args.files.items in
    let none : vec_len c.loop-file.files ≡ 0 = c.in_default.ensures.cases.0 in
    all_back all c.args.lanes.now.items c.loop-file.lanes.items c.requires (subst (IsPutBack all c.args.lanes.now.items c.loop-file.lanes.items) none c.loop-file.invariant.put)
