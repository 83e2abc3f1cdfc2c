-- The piece that a text is, as it is read.
use Rattle.std.proofs.Common.{◌≡◌, Bool, true, false, ℕ, List, Option, Some, None, refl, ◌∙◌, ap, subst, if◌then◌else◌}
use Rattle.hq_io.specs.Pieces as io
use Rattle.hq_io.specs.Pieces.{is_blank}
use Rattle.hq_sql.specs.Statements.{IsControl}
use Rattle.hq_sql.specs.Texts.{statement_in}
use Rattle.hq_sql.specs.declared.tree.Statement.{Statement}
use Rattle.hq_sql.specs.declared.tree.Statement.TheVariants as statement
use Rattle.hq_txn.specs.Transactions.{Transaction}
use Rattle.hq_reply.specs.declared.fault.Fault.TheVariants as fault
use Rattle.hq_transcript.specs.Pieces.{Piece, Blank, No_statement, Reads}
use Rattle.hq_transcript.specs.Reading.{piece_of, piece_read}
use Rattle.hq_transcript.specs.Binds.{binds}
use Rattle.hq_turns.specs.Counts.{Counts}
use Rattle.hq_turns.specs.Now.{Now}
use Rattle.hq_turns.specs.Ends.{Begins, Fails}
use Rattle.hq_turns.proofs.Answering.{no-statement-short}
use Rattle.hq_turns.proofs.Changing.{create-short, alter-short}
use Rattle.hq_turns.proofs.Working.{work-short}

blank-piece : (text : List ℕ) → is_blank text ≡ true → piece_of (io.statement text) ≡ Blank
blank-piece text e = ap (λ (b : Bool). if b then Blank else piece_read (statement_in text)) e

read-piece : (text : List ℕ) (o : Option Statement) → is_blank text ≡ false → statement_in text ≡ o → piece_of (io.statement text) ≡ piece_read o
read-piece text o e is = ap (λ (b : Bool). if b then Blank else piece_read (statement_in text)) e ∙ ap piece_read is

module _ (told : Bool) (now : Now) (text : List ℕ) (t : Transaction) (c : Counts) (b : Begins told now (piece_of (io.statement text)) t c) where
  begins-as : (p : Piece) → piece_of (io.statement text) ≡ p → Begins told now p t c
  begins-as p e = subst (λ (x : Piece). Begins told now x t c) e b

  pub begins-blank : is_blank text ≡ true → Begins told now Blank t c
  begins-blank e = begins-as Blank (blank-piece text e)

  pub begins-statement : (s : Statement) → is_blank text ≡ false → statement_in text ≡ Some s → Begins told now (Reads s) t c
  begins-statement s e is = begins-as (Reads s) (read-piece text (Some s) e is)

  pub begins-none : is_blank text ≡ false → statement_in text ≡ None → Begins told now No_statement t c
  begins-none e is = begins-as No_statement (read-piece text None e is)

  short-of : (s : Statement) → (IsControl s → ⊥) → Begins told now (Reads s) t c → Fails binds told now fault.NoMemory false t c
  short-of (statement.Create create) not b = create-short binds told now create t c b
  short-of (statement.Alter name column) not b = alter-short binds told now name column t c b
  short-of (statement.Insert i) not b = work-short binds told now (statement.Insert i) t c tt b
  short-of (statement.Select s) not b = work-short binds told now (statement.Select s) t c tt b
  short-of (statement.Begin snapshot) not b = absurd (not tt)
  short-of statement.Commit not b = absurd (not tt)
  short-of statement.Rollback not b = absurd (not tt)

  short-by : (o : Option Statement) → statement_in text ≡ o → is_blank text ≡ false → ((s : Statement) → statement_in text ≡ Some s → IsControl s → ⊥)
      → Fails binds told now fault.NoMemory false t c
  short-by None is e not = no-statement-short binds told now t c (begins-none e is)
  short-by (Some s) is e not = short-of s (not s is) (begins-statement s e is)

  -- there was no memory to read it
  pub begins-short : is_blank text ≡ false → ((s : Statement) → statement_in text ≡ Some s → IsControl s → ⊥) → Fails binds told now fault.NoMemory false t c
  begins-short e not = short-by (statement_in text) refl e not
