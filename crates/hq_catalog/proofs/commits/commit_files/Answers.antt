-- One file more is committed.
use Rattle.std.proofs.Common.{◌≡◌, ◌+◌, ◌<◌, ◌++◌, length, sym, ◌∙◌, ap, subst, arith, inl, inr}
use Rattle.std.specs.List.{flat_map}
use Rattle.std.proofs.lemmas.List.{take_all}
use Rattle.hq_lane.specs.Lanes.{LaneState, file_of}
use Rattle.hq_lane.specs.BucketFiles.{BucketState, IsSound}
use Rattle.hq_snap.proofs.Elements.{below_or}
use Rattle.hq_catalog.specs.Commits.{grown_if_any}
use Rattle.hq_catalog.proofs.Committing.{committed_more, file_next, grown_more}
use Rattle.hq_catalog.proofs.commits.commit_files.Goals as goal

pub loop-bucket-preserved : goal.loop-bucket-preserved
loop-bucket-preserved g c =
    let inv = c.loop-bucket.invariant in
    let one = c.commit_file.ensures in
    let l : LaneState = c.args.lane.now in
    let i = c.loop-bucket.bucket in
    let p = c.args.place + 1 in
    let within : i < 16 = c.loop-bucket-test.true in
    let next : file_of c.loop-bucket.lane.files i ≡ file_of l.files i = file_next i p l c.loop-bucket.lane c.args.seals.now c.loop-bucket.seals c.args.changed.now c.loop-bucket.changed inv.committed within in
    let many : length l.files ≡ 16 = sym inv.committed.as_many ∙ one.sixteen in
    let here : IsSound g.F.StoredFile.tells g.Z.SealCopy.tells (file_of l.files i) = subst (λ (f : BucketState). IsSound g.F.StoredFile.tells g.Z.SealCopy.tells f) next one.sound in
    record {
      committed = committed_more i p l c.loop-bucket.lane c.commit_file.new.lane c.args.seals.now c.loop-bucket.seals c.commit_file.new.seals c.args.changed.now c.loop-bucket.changed c.commit_file.new.changed
          inv.committed within one.sixteen c.requires.seal_places (omega (arith, c.requires.within, c.requires.lanes)) c.requires.places one.lane one.seals one.changed;
      sixteen = λ _. many;
      sound = λ b h. elim (below_or b i) [
        | inl lt ↦ inv.sound b lt
        | inr le ↦ subst (λ k. IsSound g.F.StoredFile.tells g.Z.SealCopy.tells (file_of l.files k)) (let e : i ≡ b = omega (arith, h, le) in e) here
      ];
      grown = grown_more c.args.place i l.files (file_of c.loop-bucket.lane.files i) c.args.grown.now.items c.loop-bucket.grown.items c.commit_file.new.grown.items (omega (arith, within, many)) next inv.grown one.grown;
      grown_len = omega (arith, inv.grown_len, one.grown_len);
      grown_room = one.grown_room ∙ inv.grown_room;
    }

pub returns-clause-sixteen : goal.returns-clause-sixteen
returns-clause-sixteen g c = c.loop-bucket.invariant.sixteen (omega (arith, c.loop-bucket-test.false))

pub returns-clause-grown : goal.returns-clause-grown
returns-clause-grown g c =
    let inv = c.loop-bucket.invariant in
    let l : LaneState = c.args.lane.now in
    let many = inv.sixteen (omega (arith, c.loop-bucket-test.false)) in
    inv.grown ∙ ap (λ fs. c.args.grown.now.items ++ flat_map (grown_if_any c.args.place) fs) (take_all c.loop-bucket.bucket l.files (omega (arith, c.loop-bucket-test.false, many)))
