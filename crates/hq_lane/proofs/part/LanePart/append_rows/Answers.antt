-- A file that is put back where it was.
use Rattle.std.proofs.Common.{◌≡◌, List, slice_set, ap, ◌∙◌}
use Rattle.std.proofs.lemmas.List.{set-get_or}
use Rattle.hq_lane.specs.BucketFiles.{BucketState}
use Rattle.hq_lane.specs.Lanes.{PartState}
use Rattle.hq_lane.proofs.part.LanePart.append_rows.Goals as goal

pub returns-clause-nothing : goal.returns-clause-nothing
returns-clause-nothing g c = λ none.
    let same = c.append_rows.ensures.nothing (c.all-rows.ensures ∙ none) in
    let fields = c.self.inside in
    let put : slice_set fields.files c.args.bucket c.append_rows.new.self ≡ fields.files = ap (slice_set fields.files c.args.bucket) same.1 ∙ set-get_or fields.files c.args.bucket c.index-self-bucket.result in
    let part : List BucketState → PartState = λ files. record { table = fields.table; number = fields.number; here = fields.here; files = files } in
    (same.0, ap part put ∙ c.self.view_is, same.2)
