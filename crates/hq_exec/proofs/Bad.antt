-- Bytes that begin no block, told of more.
use Rattle.std.proofs.Common.{◌≡◌, ◌∙◌, ℕ, Bool, true, List, [], ◌∷◌, ◌++◌, Ok, Err, Result, IsTrue, refl, sym, ap, subst}
use Rattle.std.specs.Prelude.{Contains, IsErrOf}
use Rattle.hq_value.specs.declared.kind.Kind.{Kind}
use Rattle.hq_value.specs.declared.entry.FileId.{FileId}
use Rattle.hq_algebra.specs.declared.op.Op.{Op}
use Rattle.hq_algebra.specs.declared.op.Op.TheVariants as op
use Rattle.hq_algebra.specs.Plans.{operators}
use Rattle.hq_lane.specs.declared.scan_end.ScanFault.{ScanFault}
use Rattle.hq_lane.specs.declared.scan_end.ScanFault.TheVariants as fault
use Rattle.hq_lane.specs.Cursors as cursor
use Rattle.hq_lane.specs.Scans.{IsBadAt}
use Rattle.hq_exec.specs.declared.end.Ending.{Ending}
use Rattle.hq_exec.specs.declared.end.Ending.TheVariants as ending
use Rattle.hq_exec.specs.Ends.{IfBadBlock, IsBadBlock, IsBadOf, IsBadFor, IsBadLeaf, IsBadIn}
use Rattle.hq_exec.specs.Faults.{ended}
use Rattle.hq_exec.specs.Files.{has_bucket}
use Rattle.hq_exec.specs.Stages.{leaf_of}
use Rattle.hq_exec.proofs.Leaves.{has-leaf}

-- a fact of bad blocks from another
pub bad-so : (T U : Type 0) (e : Ending) (P Q : FileId → ℕ → List ℕ → Type 0) → ((id : FileId) (at : ℕ) (bytes : List ℕ) → P id at bytes → Q id at bytes) → IfBadBlock {T = T} (Err e) P → IfBadBlock {T = U} (Err e) Q
bad-so T U ending.Store P Q f h = tt
bad-so T U (ending.BadBlock file at bytes) P Q f h = f file at bytes.items h
bad-so T U ending.NoMemory P Q f h = tt

-- a cursor's bad block is one of its file
pub bad-ended : (T U : Type 0) (file : FileId) (e : ScanFault) (kinds : List Kind) (from to : ℕ) → cursor.IfBad {T = T} (Err e) (IsBadAt kinds from to) → IfBadBlock {T = U} (Err (ended file e)) (IsBadBlock file kinds)
bad-ended T U file fault.Store kinds from to h = tt
bad-ended T U file (fault.BadBlock at bytes) kinds from to h = record { is = refl; from = from; to = to; bad = h }
bad-ended T U file fault.NoMemory kinds from to h = tt

pub never-ended : (T U : Type 0) (file : FileId) (e : ScanFault) → cursor.IfBad {T = T} (Err e) (λ _ _. ⊥) → IfBadBlock {T = U} (Err (ended file e)) (λ _ _ _. ⊥)
never-ended T U file fault.Store h = tt
never-ended T U file (fault.BadBlock at bytes) h = h
never-ended T U file fault.NoMemory h = tt

-- a fault of the store is one of the scan
pub store-ended : (T : Type 0) (file : FileId) (e : ScanFault) → IsErrOf {T = T} (Err (ended file e)) ending.Store → e ≡ fault.Store
store-ended T file fault.Store h = refl
store-ended T file (fault.BadBlock at bytes) h = absurd cc
store-ended T file fault.NoMemory h = absurd cc

pub of-file : (file : FileId) (kinds : List Kind) (id : FileId) (at : ℕ) (bytes : List ℕ) → IsBadBlock file kinds id at bytes → IsBadOf file.table file.bucket kinds id at bytes
of-file file kinds id at bytes b = record { table_is = ap (λ (f : FileId). f.table) b.is; bucket_is = ap (λ (f : FileId). f.bucket) b.is; from = b.from; to = b.to; bad = b.bad }

pub for-bucket : (table bucket : ℕ) (kinds : List Kind) (buckets : List ℕ) → has_bucket buckets bucket ≡ true → (id : FileId) (at : ℕ) (bytes : List ℕ) → IsBadOf table bucket kinds id at bytes → IsBadFor table kinds buckets id at bytes
for-bucket table bucket kinds buckets has id at bytes b = record { table_is = b.table_is; given = ap (has_bucket buckets) b.bucket_is ∙ has; from = b.from; to = b.to; bad = b.bad }

pub at-leaf : (table : ℕ) (kinds : List Kind) (buckets : List ℕ) (id : FileId) (at : ℕ) (bytes : List ℕ) → IsBadFor table kinds buckets id at bytes → IsBadLeaf (op.Scan table kinds) buckets id at bytes
at-leaf table kinds buckets id at bytes b = record { kinds = kinds; is = ap (λ (t : ℕ). op.Scan t kinds) (sym b.table_is); given = b.given; from = b.from; to = b.to; bad = b.bad }

pub in-op : (o leaf : Op) (buckets : List ℕ) → leaf ≡ leaf_of o → (id : FileId) (at : ℕ) (bytes : List ℕ) → IsBadLeaf leaf buckets id at bytes → IsBadIn o buckets id at bytes
in-op o leaf buckets is id at bytes b = record {
  kinds = b.kinds;
  scanned = subst (λ (x : Op). Contains (operators o) x) (sym is ∙ b.is) (has-leaf o);
  given = b.given;
  from = b.from;
  to = b.to;
  bad = b.bad;
}

pub in-more : (inner outer : Op) (buckets : List ℕ) → ((x : Op) → Contains (operators inner) x → Contains (operators outer) x) → (id : FileId) (at : ℕ) (bytes : List ℕ) → IsBadIn inner buckets id at bytes → IsBadIn outer buckets id at bytes
in-more inner outer buckets more id at bytes b = record { kinds = b.kinds; scanned = more (op.Scan id.table b.kinds) b.scanned; given = b.given; from = b.from; to = b.to; bad = b.bad }

pub bad-more : {T : Type 0} (r : Result T Ending) (P Q : FileId → ℕ → List ℕ → Type 0) → ((id : FileId) (at : ℕ) (bytes : List ℕ) → P id at bytes → Q id at bytes) → IfBadBlock r P → IfBadBlock r Q
bad-more (Ok x) P Q f h = tt
bad-more (Err ending.Store) P Q f h = tt
bad-more (Err (ending.BadBlock file at bytes)) P Q f h = f file at bytes.items h
bad-more (Err ending.NoMemory) P Q f h = tt

-- a bad block of a file is one of its table and bucket
pub bad-so-file : (r : Result Unit Ending) (file : FileId) (own kinds : List Kind) → own ≡ kinds → IfBadBlock r (IsBadBlock file own) → IfBadBlock r (IsBadOf file.table file.bucket kinds)
bad-so-file r file own kinds same h = bad-more r (IsBadBlock file own) (IsBadOf file.table file.bucket kinds) (λ id at bytes b. of-file file kinds id at bytes (subst (λ (k : List Kind). IsBadBlock file k id at bytes) same b)) h
