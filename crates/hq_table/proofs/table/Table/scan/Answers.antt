use Rattle.std.proofs.Common.{◌≡◌, ℕ, ap, sym, subst}
use Rattle.hq_block.specs.Block.{FileRows}
use Rattle.hq_lane.specs.Scans.{IsFile}
use Rattle.hq_table.specs.Kept.{bytes_in}
use Rattle.hq_table.specs.Home.{files_of}
use Rattle.hq_table.proofs.Scanned.{map-ok}
use Rattle.hq_table.proofs.table.Table.scan.Goals as goal

pub scan-requires-clause-files : goal.scan-requires-clause-files
scan-requires-clause-files c = λ b within.
    subst (λ seals. IsFile c.self.inside.kinds (bytes_in (files_of seals) b)) (sym c.deref.ensures.value) (c.self.invariant.kept.0 b, c.self.invariant.kept.1 b within)

pub returns-clause-rows : goal.returns-clause-rows
returns-clause-rows c =
    let kinds = c.self.inside.kinds in
    let same : (b : ℕ) → bytes_in (files_of c.self.inside.seals.items) b ≡ bytes_in (files_of c.deref.result.now) b = λ b. ap (λ seals. bytes_in (files_of seals) b) (sym c.deref.ensures.value) in
    rw (← c.self.view_is) (map-ok c.scan.result (λ rows told kept keeps. told kept (λ b within.
    subst (λ bytes. FileRows kinds bytes (kept b)) (same b) (subst (λ ks. FileRows ks (bytes_in (files_of c.self.inside.seals.items) b) (kept b)) (sym c.self.invariant.kinds_are) (keeps b within)))) c.scan.ensures.rows)
