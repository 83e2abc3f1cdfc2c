-- What a sweep leaves of a lane.
--     Swept told old new rose      all files are cut back, or the cut of one failed, which has this cause
use Rattle.std.specs.Prelude.{Bool, List}
use Rattle.hq_lane.specs.BucketFiles.{BucketState, IsCutBack}
use Rattle.hq_lane.specs.Lanes.{EachFile, AreClean, StopsAt}

-- all files are cut back, or the cut of one failed, which has this cause
pub data Swept (told : Bool) (old new : List BucketState) (rose : Type 0) : Type 0 where
  is_clean : EachFile (IsCutBack told) old new → AreClean new → Swept told old new rose
  is_stopped : StopsAt told old new → rose → Swept told old new rose
