-- Each place is with its owner.
use Rattle.std.proofs.Common.{ap, arith, false, slice_index_or, List, Bool, sym, ◌∙◌}
use Rattle.hq_lane.specs.BucketFiles.{BucketState}
use Rattle.hq_lane.specs.Lanes.{id_of, file_of}
use Rattle.hq_lane.proofs.lane.Lane.part.Goals as goal

pub returns-in-Ok-clause-parts : goal.returns-in-Ok-clause-parts
returns-in-Ok-clause-parts g c =
    let made = c.in-Ok.ensures in
    record {
      sixteen = omega (arith, c.share.new.parts.ok.0, c.share.ensures.sixteen);
      table = λ n h. c.share.ensures.table n ∙ made.table n h ∙ c.table.ensures;
      number = λ n h. c.share.ensures.number n ∙ made.number n h ∙ c.number.ensures;
      owned = λ n b h k. ap (λ (here : List Bool). slice_index_or here b false) (c.share.ensures.here n) ∙ made.owned n b h k;
      files = λ b h. rw (← c.take_apart-files.ensures.files) (c.share.ensures.moved b h);
    }

pub share-requires : goal.share-requires
share-requires g c =
    let made = c.in-Ok.ensures in
    let ids = c.take_apart-files.ensures.ids in
    (omega arith, (omega arith, (omega (arith, made.sixteen), (c.requires, λ n h b k. ap (λ (files : List BucketState). (file_of files b).id) c.take_apart-files.ensures.files ∙ ids b k ∙ (λ i. id_of (sym (made.table n h ∙ c.table.ensures) i) (sym (made.number n h ∙ c.number.ensures) i) b)))))
