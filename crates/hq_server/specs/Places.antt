-- What is done with the table at a place.
use Rattle.std.specs.Prelude.{◌≡◌, ◌⊎◌, ℕ, true, false, List, ◌++◌, length, slice_get, slice_set, Some}
use Rattle.hq_value.specs.declared.value.Value.{Value}
use Rattle.hq_value.specs.Order.{in_row_order}
use Rattle.hq_reply.specs.declared.reply.Reply.{Reply}
use Rattle.hq_reply.specs.declared.reply.Reply.TheVariants.{Rows, Inserted, Error}
use Rattle.hq_reply.specs.declared.fault.Fault.TheVariants as fault
use Rattle.hq_value.specs.Bucket.{Buckets, share, rows_of}
use Rattle.hq_table.specs.Kept.{TableState, Keeps}
use Rattle.hq_value.specs.Kinds.{are_fit, kinds_of}

-- the rows were added to the table, each to its bucket
pub record Grows (rows : List (List Value)) (old new : TableState) : Type 0 where
  pub name : new.name ≡ old.name
  pub columns : new.columns ≡ old.columns
  pub keys : new.keys ≡ old.keys
  pub added : (kept : Buckets) → Keeps old kept → Keeps new (λ b. kept b ++ share old.keys rows b)

-- the rows were added to the table there, or don't fit it, or there was no memory
abbrev pub Inserts : List (List Value) → ℕ → List TableState → Reply → List TableState → Type 0
Inserts rows place old reply new = (table : TableState) × (slice_get old place ≡ Some table)
    × (((reply ≡ Inserted (length rows)) × (are_fit (kinds_of table.columns) rows ≡ true) × ((grown : TableState) × Grows rows table grown × (new ≡ slice_set old place grown)))
    ⊎ ((reply ≡ Error fault.TypeMismatch) × (are_fit (kinds_of table.columns) rows ≡ false) × (new ≡ old))
    ⊎ ((reply ≡ Error fault.NoMemory) × (new ≡ old)))

-- the reply has the rows of the table there, or there was no memory
abbrev pub Selects : ℕ → List TableState → Reply → Type 0
Selects place tables reply = (table : TableState) × (slice_get tables place ≡ Some table)
    × (((kept : Buckets) → Keeps table kept → reply ≡ Rows (in_row_order (rows_of kept))) ⊎ (reply ≡ Error fault.NoMemory))
