use Rattle.std.proofs.Common.{refl}
use Rattle.hq_sql.proofs.Statements.{err_refused, ok_found, ok_refused, fault_of}
use Rattle.hq_sql.proofs.text.alone.Goals as goal

pub returns-in-Err-clause-refused : goal.returns-in-Err-clause-refused
returns-in-Err-clause-refused c = λ is s h.
    err_refused c.args.cursor.now.rest c.args.cursor.now c.statement.new.cursor c.statement.result c.in-Err.fault c.requires c.statement.ensures c.in-Err.is (fault_of _ _ is) s h

pub returns-then-is_done-clause-found : goal.returns-then-is_done-clause-found
returns-then-is_done-clause-found c =
    ok_found c.args.cursor.now.rest c.args.cursor.now c.statement.new.cursor c.statement.result c.in-Ok.statement c.requires c.statement.ensures c.in-Ok.is (c.if-is_done.ensures.0 refl)

pub returns-else-is_done-clause-refused : goal.returns-else-is_done-clause-refused
returns-else-is_done-clause-refused c = λ is s h.
    ok_refused c.args.cursor.now.rest c.args.cursor.now c.statement.new.cursor c.statement.result c.in-Ok.statement c.requires c.statement.ensures c.in-Ok.is
    (λ done. let e = c.if-is_done.ensures.1 done in cc) s h
