-- Worked statements, as they are known at their ends.
--     selecting        in a transaction that has put 1 into a table, SELECT * FROM t, behind its Look
--     storing          INSERT INTO t VALUES (1) outside a transaction, whose store failed: its lane went back with a tail
--     refusing         INSERT INTO t VALUES (1) in a transaction that has failed
use Rattle.std.specs.Prelude.{ℕ, zero, suc, Bool, true, false, List, [], ◌∷◌, Some, None}
use Rattle.hq_value.specs.Tables.{Definition}
use Rattle.hq_value.specs.declared.entry.EntryKind.{EntryKind}
use Rattle.hq_value.specs.declared.entry.EntryKind.TheVariants as entry
use Rattle.hq_txn.specs.Transactions.{Transaction}
use Rattle.hq_txn.specs.declared.state.TxnState.{TxnState}
use Rattle.hq_txn.specs.declared.state.TxnState.TheVariants as txn
use Rattle.hq_transcript.specs.Tables.{Put}
use Rattle.hq_transcript.specs.Sights.{Sight, Found}
use Rattle.hq_transcript.specs.Step.{State, Idle, Open, Failed, Lanes}
use Rattle.hq_transcript.specs.Pieces.{Piece}
use Rattle.hq_transcript.specs.Examples.{int_column, row, one, all_t, t, a}
use Rattle.hq_turns.specs.Counts.{Counts}
use Rattle.hq_turns.specs.Now.{Now}

-- t (a INT) DISTRIBUTED BY (a)
abbrev pub table : Definition
table = record { name = t; columns = int_column a ∷ []; keys = 0 ∷ [] }

-- the table is there, without a row, and the one node is up
abbrev pub looked : Sight
looked = record { session = 1; statement = 4; tables = table ∷ []; puts = []; up = true ∷ [] }

abbrev pub put : ℕ → Put
put n = record { table = 0; keys = 0 ∷ []; rows = row n ∷ [] }

-- the count of node 0, and of no other
abbrev pub at_first : ℕ → ℕ → ℕ
at_first many zero = many
at_first many (suc n) = 0

-- one node, whose store has failed so often
abbrev pub failures : ℕ → Counts
failures many = record {
  nodes = 1;
  stores = at_first many;
  checks = λ n. 0;
  hosts = λ n. 0;
  links = λ n. 0;
  troubles = λ n. 0;
}

abbrev pub selecting : Now
selecting = record {
  found = record { look = Some looked; stands = false; change = None; own = put 1 ∷ [] };
  state = Open 2;
  lanes = (0, 0) ∷ [];
  number = 4;
  piece = Some all_t;
  entries = entry.Look ∷ [];
  counts = failures 0;
  history = [];
}

abbrev pub storing : Now
storing = record {
  found = record { look = Some looked; stands = false; change = None; own = [] };
  state = Idle;
  lanes = [];
  number = 4;
  piece = Some (one 1);
  entries = entry.Look ∷ entry.Lend 0 0 ∷ entry.Back 0 0 false ∷ [];
  counts = failures 0;
  history = [];
}

abbrev pub refusing : Now
refusing = record {
  found = record { look = None; stands = false; change = None; own = [] };
  state = Failed 2;
  lanes = [];
  number = 4;
  piece = Some (one 1);
  entries = [];
  counts = failures 0;
  history = [];
}

-- a transaction without lanes
abbrev pub bare : TxnState → Transaction
bare state = record { state = state; snapshot = false; lanes = []; spare = 0 }
