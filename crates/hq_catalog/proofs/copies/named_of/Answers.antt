-- No name is marked at first, and then one name more.
use Rattle.std.proofs.Common.{◌≡◌, ◌∙◌, ◌||◌, Bool, false, List, [], ◌∷◌, ℕ, take, refl, sym, ap, arith}
use Rattle.std.specs.List.{list_any}
use Rattle.std.proofs.lemmas.List.{length-replicate}
use Rattle.std.proofs.lemmas.List.Folds.{list_any_more}
use Rattle.hq_value.specs.Tables.{same_names}
use Rattle.hq_snap.proofs.Elements.{get_same}
use Rattle.hq_catalog.specs.Copies.{name_at}
use Rattle.hq_catalog.proofs.copies.named_of.Goals as goal

none_of : (f : List ℕ → Bool) (names : List (List ℕ)) → list_any f (take 0 names) ≡ false
none_of f [] = refl
none_of f (x ∷ xs) = refl

pub loop-name-init : goal.loop-name-init
loop-name-init c = record {
  many = length-replicate {A = Bool} 64 false;
  marked = λ t h. get_same 64 t false ∙ sym (none_of (λ (one : List ℕ). same_names one (name_at c.args.names.now.keys t)) c.args.wanted.now);
}

pub loop-name-preserved : goal.loop-name-preserved
loop-name-preserved c =
    let names = c.args.names.now.keys in
    let wanted = c.args.wanted.now in
    let i = c.loop-name.name-index in
    let x = c.name-item.result in
    record {
      many = omega arith;
      marked = λ t h. (let f : List ℕ → Bool = λ one. same_names one (name_at names t) in
          c.mark_named.ensures t h ∙ ap (λ (b : Bool). b || f x) (c.loop-name.invariant.marked t h) ∙ ap (λ (y : List ℕ). list_any f (take i wanted) || f y) c.name-item.is
          ∙ sym (list_any_more f wanted i x c.loop-name-test.true));
    }
