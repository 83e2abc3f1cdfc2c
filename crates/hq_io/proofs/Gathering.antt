-- What was gathered, and more of it.
use Rattle.std.proofs.Common.{◌≡◌, ◌+◌, ◌<◌, ◌≤◌, ℕ, Bool, true, false, List, [], ◌++◌, length, refl, ap, arith, length-append}
use Rattle.hq_io.specs.Scanning.{Passes}
use Rattle.hq_io.specs.Gathering.{Kept, Gathered}
use Rattle.hq_io.specs.declared.scan.Spot.{Spot}
use Rattle.hq_io.specs.declared.scan.Spot.TheVariants as spots
use Rattle.hq_io.proofs.Scanning.{Passes-none, Passes-then}

pub Gathered-none : Gathered [] spots.Outside false []
Gathered-none = record { passes = Passes-none spots.Outside; kept = refl; fits = omega arith }

Kept-fits : (seen : List ℕ) (long : Bool) (text bytes : List ℕ) → Kept long seen text → length text + length bytes ≤ 65536 → Kept long (seen ++ bytes) (text ++ bytes)
Kept-fits seen true text bytes k less = (omega (arith, k.0, length-append seen bytes), omega (arith, k.1, length-append text bytes))
Kept-fits seen false text bytes k less = ap (λ t. t ++ bytes) k

pub Gathered-fits : (seen : List ℕ) (from to : Spot) (long : Bool) (text bytes : List ℕ) → Passes from bytes to → length text + length bytes ≤ 65536 → Gathered seen from long text → Gathered (seen ++ bytes) to long (text ++ bytes)
Gathered-fits seen from to long text bytes p less g = record { passes = Passes-then spots.Outside from to seen bytes g.passes p; kept = Kept-fits seen long text bytes g.kept less; fits = omega (arith, length-append text bytes) }

Kept-passes : (seen : List ℕ) (long : Bool) (text bytes : List ℕ) → Kept long seen text → 65536 < length text + length bytes → 65536 < length seen + length bytes
Kept-passes seen true text bytes k more = omega (arith, k.0)
Kept-passes seen false text bytes k more = omega (arith, ap length k)

-- the text is filled up, and more bytes were seen
pub Gathered-passes : (seen : List ℕ) (from to : Spot) (long : Bool) (text bytes first : List ℕ) → Passes from bytes to → 65536 < length text + length bytes → length text + length first ≡ 65536 → Gathered seen from long text → Gathered (seen ++ bytes) to true (text ++ first)
Gathered-passes seen from to long text bytes first p more full g = record { passes = Passes-then spots.Outside from to seen bytes g.passes p; kept = (omega (arith, length-append seen bytes, Kept-passes seen long text bytes g.kept more), omega (arith, length-append text first)); fits = omega (arith, length-append text first) }
