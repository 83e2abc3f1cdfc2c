-- The catalogue itself answers: nothing comes between.
use Rattle.std.proofs.Common.{◌≡◌, ℕ, Bool, List, [], ◌∷◌, ◌++◌, length, refl, sym, ◌∙◌, ap, subst}
use Rattle.std.proofs.lemmas.List.{append-nil}
use Rattle.hq_value.specs.declared.entry.Entry.{Entry}
use Rattle.hq_value.specs.declared.entry.EntryKind.{EntryKind}
use Rattle.hq_log.specs.Legal.{IsLegal}
use Rattle.hq_history.specs.declared.noted.Noted.{Noted}
use Rattle.hq_history.specs.declared.noted.Deposit.{Deposit}
use Rattle.hq_history.specs.History.{entries_of}
use Rattle.hq_catalog.specs.declared.ask.Ask.{Ask}
use Rattle.hq_catalog.specs.declared.ask.Answer.{Answer}
use Rattle.hq_catalog.specs.declared.ask.Answer.TheVariants as answer
use Rattle.hq_catalog.specs.CatStep.{CatStep, noted}
use Rattle.hq_catalog.specs.Causes.{IsOneMore}
use Rattle.hq_catalog.specs.History.{history}
use Rattle.hq_catalog.specs.Stands.{Stands}
use Rattle.hq_catalog.specs.State.{CatState}
use Rattle.hq_serve.specs.Asking.{IsAnswered}
use Rattle.hq_serve.specs.Served.{GrewBy}

module _ {F Z : Type 0} where
  pub grew-one : (k m : ℕ) (old new : List Noted) (r : Answer F Z) → IsOneMore k m old new r → GrewBy k old new
  grew-one k m old new answer.NoMemory h = ([], h ∙ sym (append-nil old), tt)
  grew-one k m old new _ h = (noted k m h.0 h.1 ∷ [], h.2, (refl, tt))

  pub answered-alone : (told : Bool) (k m : ℕ) (c : CatState) (a : Ask F Z) (after : List Noted) (r : Answer F Z) → Stands told c
      → CatStep told (length c.marks) k m (history told c) a after r → IsAnswered told (length c.marks) k m (history told c) a after r
  answered-alone told k m c a after r s step = record {
    before = history told c;
    others = ([], sym (append-nil (history told c)), refl);
    deposits = s.deposits;
    legal = subst (λ (log : List Entry). IsLegal (length c.marks) log) (sym s.log) s.legal;
    steps = s.own;
    step = step;
  }
