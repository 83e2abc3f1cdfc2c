use Rattle.std.proofs.Common.{arith, ◌<◌, ℕ, slice_set, ap, sym, refl, ◌∙◌}
use Rattle.hq_lane.specs.Lanes.{file_of}
use Rattle.hq_lane.specs.BucketFiles.{BucketState, base_bytes, good_bytes}
use Rattle.hq_table.specs.Kept.{bytes_in}
use Rattle.hq_table.specs.Home.{files_of, rows_at}
use Rattle.hq_table.proofs.Parts.{zeros, zeros-within, first-part, same-heads, place-before, place-after, good-is, added-told, whole-told}
use Rattle.hq_table.proofs.append.append.Goals as goal

pub write-written-requires-clause-whole : goal.write-written-requires-clause-whole
write-written-requires-clause-whole c = λ b within.
    let are = c.in-Ok.ensures.parts in
    let first = first-part c.in-Ok.parts.items c.index_mut.result.now are.sixteen c.index_mut.ensures.value in
    ap (λ (p : BucketState). p.torn) (place-before c.args.lane c.in-Ok.parts.items c.index_mut.result.now are first b within) ∙ (c.requires.home b within).whole

pub whole-whole-requires : goal.whole-whole-requires
whole-whole-requires c =
    let are = c.in-Ok.ensures.parts in
    let parts = c.in-Ok.parts.items in
    let first = first-part parts c.index_mut.result.now are.sixteen c.index_mut.ensures.value in
    (omega arith, (omega arith, c.parts_make_a_lane.ensures.one c.args.lane zeros parts (slice_set parts 0 c.write-written.new.part) zeros-within are (same-heads parts c.index_mut.result.now c.write-written.new.part first c.write-written.ensures.head)))

pub settle-ended-requires-clause-whole : goal.settle-ended-requires-clause-whole
settle-ended-requires-clause-whole c =
    let are = c.in-Ok.ensures.parts in
    let parts = c.in-Ok.parts.items in
    let now = c.index_mut.result.now in
    let new = c.write-written.new.part in
    let first = first-part parts now are.sixteen c.index_mut.ensures.value in
    let after = λ (b : ℕ) (within : b < 16). place-after c.whole-whole.result parts new b are.sixteen (c.parts_make_a_lane.ensures.places c.args.lane c.whole-whole.result zeros parts (slice_set parts 0 new) zeros-within are (same-heads parts now new first c.write-written.ensures.head) c.whole-whole.ensures b within) in
    whole-told c.args.kinds.now (rows_at c.args.buckets.now) (file_of now.files) (file_of new.files) (file_of c.whole-whole.result.files) c.write-written.result c.write-written.ensures.written after

pub settle-ended-requires-clause-no_seal : goal.settle-ended-requires-clause-no_seal
settle-ended-requires-clause-no_seal c = λ b within.
    let are = c.in-Ok.ensures.parts in
    let parts = c.in-Ok.parts.items in
    let now = c.index_mut.result.now in
    let new = c.write-written.new.part in
    let first = first-part parts now are.sixteen c.index_mut.ensures.value in
    let after = place-after c.whole-whole.result parts new b are.sixteen (c.parts_make_a_lane.ensures.places c.args.lane c.whole-whole.result zeros parts (slice_set parts 0 new) zeros-within are (same-heads parts now new first c.write-written.ensures.head) c.whole-whole.ensures b within) in
    let fresh = λ (p : BucketState). p.fresh in
    ap fresh after ∙ (c.write-written.ensures.grown b within).1.fresh ∙ ap fresh (place-before c.args.lane parts now are first b within) ∙ (c.requires.home b within).no_seal

pub settle-ended-requires-clause-under : goal.settle-ended-requires-clause-under
settle-ended-requires-clause-under c = λ b within.
    let are = c.in-Ok.ensures.parts in
    let parts = c.in-Ok.parts.items in
    let now = c.index_mut.result.now in
    let new = c.write-written.new.part in
    let first = first-part parts now are.sixteen c.index_mut.ensures.value in
    let after = place-after c.whole-whole.result parts new b are.sixteen (c.parts_make_a_lane.ensures.places c.args.lane c.whole-whole.result zeros parts (slice_set parts 0 new) zeros-within are (same-heads parts now new first c.write-written.ensures.head) c.whole-whole.ensures b within) in
    sym (ap base_bytes after ∙ (c.write-written.ensures.grown b within).1.committed refl ∙ ap base_bytes (place-before c.args.lane parts now are first b within) ∙ (c.requires.home b within).bytes_are)

pub returns-in-Ok-clause-added : goal.returns-in-Ok-clause-added
returns-in-Ok-clause-added c =
    let are = c.in-Ok.ensures.parts in
    let parts = c.in-Ok.parts.items in
    let now = c.index_mut.result.now in
    let new = c.write-written.new.part in
    let first = first-part parts now are.sixteen c.index_mut.ensures.value in
    let after = λ (b : ℕ) (within : b < 16). ap good_bytes (place-after c.whole-whole.result parts new b are.sixteen (c.parts_make_a_lane.ensures.places c.args.lane c.whole-whole.result zeros parts (slice_set parts 0 new) zeros-within are (same-heads parts now new first c.write-written.ensures.head) c.whole-whole.ensures b within)) in
    added-told c.args.kinds.now (rows_at c.args.buckets.now) (bytes_in (files_of c.args.seals.now.items)) (bytes_in (files_of c.settle-ended.new.seals.items)) (file_of now.files) (file_of new.files) (λ b. good_bytes (file_of c.whole-whole.result.files b)) c.settle-ended.result c.write-written.result
    c.settle-ended.ensures.written c.settle-ended.ensures.under c.write-written.ensures.written after
    (λ b within. ap good_bytes (place-before c.args.lane parts now are first b within) ∙ good-is _ _ (c.requires.home b within))
