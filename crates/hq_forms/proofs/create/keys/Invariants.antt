use Rattle.std.proofs.Common.{◌≡◌, drop, true, length, nat_eq}
use Rattle.hq_value.specs.Tables.{are_distinct, all_below}
use Rattle.hq_forms.specs.Forms.{every, place_in}
use Rattle.hq_forms.proofs.Every.{with_front}
use Rattle.hq_forms.proofs.create.keys.Given as goal

abbrev pub invariant-loop-name : goal.invariant-loop-name
invariant-loop-name l = record {
  found : with_front l.keys (every (place_in l.columns) (drop l.name-index l.names)) ≡ every (place_in l.columns) l.names;
  distinct : are_distinct nat_eq l.keys ≡ true;
  within : all_below (length l.columns) l.keys ≡ true;
}
