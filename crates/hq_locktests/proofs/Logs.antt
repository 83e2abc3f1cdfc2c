-- Logs in which no entry leaves anything.
use Rattle.std.proofs.Common.{◌≡◌, ◌⊎◌, ⊎_elim, ℕ, List, [], ◌∷◌, ◌++◌, map, refl, sym, ap, ◌∙◌, arith}
use Rattle.std.proofs.lemmas.List.{append-nil, map-append}
use Rattle.hq_value.specs.declared.entry.Entry.{Entry}
use Rattle.hq_history.specs.History.{entries_of}
use Rattle.hq_locktests.specs.Ledgers.{bare, look_by}
use Rattle.hq_histlock.specs.Passes.{MayLeave}

-- such a log is the log of its history
pub entries_of-bare : (log : List Entry) → entries_of (map bare log) ≡ log
entries_of-bare [] = refl
entries_of-bare (e ∷ es) = ap (λ (l : List Entry). e ∷ l) (entries_of-bare es)

-- one entry more or none is what a session may leave
pub noted_or_not : (session statement : ℕ) (before after : List Entry) → (after ≡ before) ⊎ (after ≡ before ++ look_by session statement ∷ []) → MayLeave session (map bare before) (map bare after)
noted_or_not session statement before after h = ⊎_elim
    (λ e. ([], ap (map bare) e ∙ sym (append-nil (map bare before)), tt, omega arith))
    (λ e. (bare (look_by session statement) ∷ [], ap (map bare) e ∙ map-append bare before (look_by session statement ∷ []), (refl, tt), omega arith)) h
