-- The words that statements begin with.
use Rattle.std.proofs.Common.{◌≡◌, Bool, refl}
use Rattle.hq_expr.specs.Reader.{sees}
use Rattle.hq_expr.specs.declared.cursor.Peek.{Peek}
use Rattle.hq_expr.specs.declared.mark.Mark.TheVariants as m
use Rattle.hq_sql.specs.Reading.{begins, or_next, is_empty}
use Rattle.hq_sql.specs.Grammar as g

pub create_begins : (k : Peek) (second : Bool) → or_next (is_empty g.create) (begins g.create k) second ≡ sees m.Create k
unfolding g.create
create_begins k second = refl

pub alter_begins : (k : Peek) → begins g.alter k ≡ sees m.Alter k
unfolding g.alter
alter_begins k = refl

pub insert_begins : (k : Peek) (second : Bool) → or_next (is_empty g.insert) (begins g.insert k) second ≡ sees m.Insert k
unfolding g.insert
insert_begins k second = refl

pub select_begins : (k : Peek) (second : Bool) → or_next (is_empty g.select) (begins g.select k) second ≡ sees m.Select k
unfolding g.select g.head
select_begins k second = refl
