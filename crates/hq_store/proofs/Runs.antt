-- Over any run of calls the sealed bytes stay.
use Rattle.std.proofs.Common.{◌≡◌, ◌∙◌, ℕ, ◌≤◌, Bool, List, length, take, refl, sym, ap, arith, length-append}
use Rattle.std.proofs.lemmas.List.{take-take, take-append-le, length-take-le}
use Rattle.hq_value.specs.declared.entry.FileId.{FileId}
use Rattle.hq_store.specs.FileStep.{FileState, IsFresh}
use Rattle.hq_store.specs.FileRun.{FileStep, appends, append_fails, cuts, cut_fails, changes_nothing, seals, FileRun, no_call, one_more, IsKept, KeepsSealed}

-- a new file
pub fresh_kept : (told : Bool) (id : FileId) (new : FileState) → IsFresh told id new → IsKept told new
fresh_kept told id new fresh = record { sealed = omega arith; there = λ t. omega arith }

-- bytes that stay up to some length stay up to a shorter one
same_below : (low high : ℕ) (xs ys : List ℕ) → low ≤ high → take high xs ≡ take high ys → take low xs ≡ take low ys
same_below low high xs ys short same =
    sym (take-take low high xs short) ∙ ap (λ (zs : List ℕ). take low zs) same ∙ take-take low high ys short

-- one call keeps the sealed bytes sure, and the sure bytes there
step_kept : (told : Bool) (old new : FileState) → IsKept told old → FileStep told old new → IsKept told new
step_kept told old new kept (appends added no_tail is) = record { sealed = omega arith; there = λ t. omega (arith, kept.there t, ap length (is.bytes t), length-append old.bytes added) }
step_kept told old new kept (append_fails no_tail is) = record { sealed = omega arith; there = λ t. omega (arith, is.long t) }
step_kept told old new kept (cuts len low high is) = record { sealed = omega arith; there = λ t. omega (arith, ap length (is.bytes t), length-take-le len old.bytes (omega (arith, kept.there t))) }
step_kept told old new kept (cut_fails len low high is) = record { sealed = omega arith; there = λ t. omega (arith, is.long t) }
step_kept told old new kept (changes_nothing is) = record { sealed = omega arith; there = λ t. omega (arith, kept.there t, ap length (is.bytes t)) }
step_kept told old new kept (seals no_tail is) = record { sealed = omega arith; there = λ t. omega (arith, kept.there t, ap length (is.bytes t)) }

-- one call keeps what lies under a seal
step_keeps : (told : Bool) (old new : FileState) → IsKept told old → FileStep told old new → KeepsSealed told old new
step_keeps told old new kept (appends added no_tail is) = record { sealed = omega arith; bytes = λ t. rw (is.bytes t) (take-append-le old.sealed old.bytes added (omega (arith, kept.there t))) }
step_keeps told old new kept (append_fails no_tail is) = record { sealed = omega arith; bytes = λ t. same_below old.sealed old.sure new.bytes old.bytes kept.sealed (is.bytes t) }
step_keeps told old new kept (cuts len low high is) = record { sealed = omega arith; bytes = λ t. rw (is.bytes t) (take-take old.sealed len old.bytes low) }
step_keeps told old new kept (cut_fails len low high is) = record { sealed = omega arith; bytes = λ t. same_below old.sealed len new.bytes old.bytes low (is.bytes t) }
step_keeps told old new kept (changes_nothing is) = record { sealed = omega arith; bytes = λ t. ap (λ (xs : List ℕ). take old.sealed xs) (is.bytes t) }
step_keeps told old new kept (seals no_tail is) = record { sealed = omega arith; bytes = λ t. ap (λ (xs : List ℕ). take old.sealed xs) (is.bytes t) }

-- a run of calls keeps the sealed bytes sure, and the sure bytes there
pub run_kept : (told : Bool) (old new : FileState) → IsKept told old → FileRun told old new → IsKept told new
run_kept told old new kept no_call = kept
run_kept told old new kept (one_more now _ run step) = step_kept told now new (run_kept told old now kept run) step

-- a run of calls keeps what lies under a seal
pub run_keeps : (told : Bool) (old new : FileState) → IsKept told old → FileRun told old new → KeepsSealed told old new
run_keeps told old new kept no_call = record { sealed = omega arith; bytes = λ t. refl }
run_keeps told old new kept (one_more now _ run step) =
    let before : KeepsSealed told old now = run_keeps told old now kept run in
    let last : KeepsSealed told now new = step_keeps told now new (run_kept told old now kept run) step in
    record {
      sealed = omega arith;
      bytes = λ t. same_below old.sealed now.sealed new.bytes now.bytes (omega arith) (last.bytes t) ∙ before.bytes t;
    }

-- one call keeps the id
step_id : (told : Bool) (old new : FileState) → FileStep told old new → new.id ≡ old.id
step_id told old new (appends added no_tail is) = is.id
step_id told old new (append_fails no_tail is) = is.id
step_id told old new (cuts len low high is) = is.id
step_id told old new (cut_fails len low high is) = is.id
step_id told old new (changes_nothing is) = is.id
step_id told old new (seals no_tail is) = is.id

-- so does a run of calls
pub run_id : (told : Bool) (old new : FileState) → FileRun told old new → new.id ≡ old.id
run_id told old new no_call = refl
run_id told old new (one_more now _ run step) = step_id told now new step ∙ run_id told old now run
