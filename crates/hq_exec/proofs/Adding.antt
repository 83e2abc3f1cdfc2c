-- Rows that are put behind others.
use Rattle.std.proofs.Common.{List, [], ◌++◌, append_assoc, append-nil, sym, subst}
use Rattle.hq_meaning.specs.Rows.{Row}
use Rattle.hq_exec.specs.Outs.{OutState, Adds}

pub adds-none : (out : OutState) → Adds [] out out
adds-none out = λ others h. subst out.holds (sym (append-nil others)) h

pub adds-both : (first next : List Row) (a b c : OutState) → Adds first a b → Adds next b c → Adds (first ++ next) a c
adds-both first next a b c f g = λ others h. subst c.holds (append_assoc others first next) (g (others ++ first) (f others h))
