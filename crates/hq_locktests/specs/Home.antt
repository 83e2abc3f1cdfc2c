-- What the owner of a lock knows while passes are out.
use Rattle.std.specs.Prelude.{◌≡◌, ℕ, ◌+◌, length}
use Rattle.atomic_table.specs.Seated.{TableId}
use Rattle.hq_histlock.specs.Passes.{view, IsFirstOf}
use Rattle.hq_histlock.specs.declared.pass.Pass.{Pass}

-- pass 0 of the lock, with so many passes out
pub record IsHome (lock : TableId) (p : Pass) (out : ℕ) : Type 0 where
  pub first : IsFirstOf lock p
  pub made : length (view p).ended + out + (view p).first ≡ (view p).next
