use Rattle.std.proofs.Common.{◌≡◌, map, take, length, true}
use Rattle.hq_value.specs.Tables.{all_below}
use Rattle.hq_narrow.specs.Narrow.{place_from}
use Rattle.hq_planner.proofs.part.keys_among.Given as goal

abbrev pub invariant-loop-key : goal.invariant-loop-key
invariant-loop-key l = record {
  keys : map (place_from l.columns l.width) l.found ≡ take l.key-index l.keys;
  within : all_below (length l.columns) l.found ≡ true;
}
