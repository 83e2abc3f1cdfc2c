-- A catalogue that stands for its history stands for the log and the inputs, where each session's deposits are its own.
use Rattle.std.proofs.Common.{◌≡◌, ◌≤◌, ℕ, Bool, true, List, sym, ◌∙◌, ap, arith}
use Rattle.hq_value.specs.declared.value.Value.{Value}
use Rattle.hq_value.specs.declared.kind.Kind.{Kind}
use Rattle.hq_value.specs.Tables.{Definition}
use Rattle.hq_history.specs.declared.noted.Noted.{Noted}
use Rattle.hq_history.specs.History.{entries_of}
use Rattle.hq_transcript.specs.Pieces.{Piece}
use Rattle.hq_transcript.specs.Tables.{width}
use Rattle.hq_transcript.specs.Binding.{Binder}
use Rattle.hq_transcript.specs.Sights.{start}
use Rattle.hq_transcript.specs.History.{replay_history, AreOwn}
use Rattle.hq_transcript.specs.Stands.{View, Stands, StandsFor}
use Rattle.hq_transcript.proofs.Folds.{tables-history}
use Rattle.hq_transcript.proofs.Bridge.{left_are_committed, tables_are_defined}

pub stands-by-history : (binds : Binder) (file_rows : List Kind → List ℕ → List (List Value)) (inputs : ℕ → List Piece) (told : Bool) (v : View) (history : List Noted)
    → StandsFor file_rows told v history → ((k : ℕ) → AreOwn file_rows binds k (inputs k) (start v.nodes) history)
    → Stands file_rows binds inputs v (entries_of history)
stands-by-history binds file_rows inputs told v history s own =
    let replayed : v.tables ≡ (replay_history file_rows v.nodes history).tables = s.defined ∙ sym (tables-history file_rows told v.nodes history s.deposits) in
    let wide : (t : ℕ) → width (replay_history file_rows v.nodes history).tables t ≤ width v.tables t = λ t. omega (arith, ap (λ (ts : List Definition). width ts t) replayed) in
    record {
      log_is = s.log_is;
      legal = s.legal;
      pools = s.pools;
      marked = s.marked;
      defined = replayed ∙ tables_are_defined binds true file_rows inputs v.nodes history own;
      rows = λ t b row. s.rows t b row ∙ left_are_committed binds true file_rows inputs v.nodes history own t b (width v.tables t) (wide t) row;
      homes = s.homes;
    }
