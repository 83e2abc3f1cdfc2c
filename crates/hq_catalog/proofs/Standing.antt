-- What holds of every catalogue.
use Rattle.std.proofs.Common.{ℕ, Bool}
use Rattle.hq_lane.specs.Lanes.{LaneState}
use Rattle.hq_pool.specs.declared.slot.Slot.{Slot}
use Rattle.hq_pool.specs.declared.slot.Slot.TheVariants as slot
use Rattle.hq_catalog.specs.State.{CatState, table_in}
use Rattle.hq_catalog.specs.History.{history}
use Rattle.hq_catalog.specs.Stands.{Stands, IsHome}
use Rattle.hq_catalog.specs.Kept.{IsCatalogue, IsAtHome, slot_at}
use Rattle.hq_catalog.proofs.History.{history-entries}
use Rattle.hq_catalog.proofs.Lends.{fresh_own}
use Rattle.hq_catalog.proofs.Moves.{given, given_clean}

home : (told : Bool) (c : CatState) (t n : ℕ) → IsCatalogue told c → (s : Slot LaneState) → IsAtHome told t n (table_in c.tables t).seals s → IsHome told (history told c) t n s
home told c t n ok slot.Unborn h = given_clean told c t n _ ok (fresh_own told t n (table_in c.tables t) h)
home told c t n ok (slot.Clean l) h = given_clean told c t n l ok h
home told c t n ok (slot.Dirty l) h = given told c t n l ok h
home told c t n ok (slot.Out k) h = tt
home told c t n ok (slot.Sweeping k) h = tt

pub stands : (told : Bool) (c : CatState) → IsCatalogue told c → Stands told c
stands told c ok = record {
  log = history-entries told c;
  few = ok.few;
  legal = ok.legal;
  deposits = ok.deposits;
  own = ok.own;
  marks = ok.marks;
  definitions = ok.definitions;
  numbers = λ t h. (ok.tables t h).number;
  places = ok.places;
  homes = λ t n h lt. home told c t n ok (slot_at (table_in c.tables t).slots n) ((ok.tables t h).homes n lt);
  seals = ok.seals;
  changes = ok.changed;
}
