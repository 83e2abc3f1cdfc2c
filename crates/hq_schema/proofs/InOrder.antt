-- Tables that are numbered in order.
use Rattle.std.proofs.Common.{◌≡◌, ℕ, zero, suc, ◌+◌, ◌<◌, Bool, true, false, not, ◌||◌, ◌&&◌, nat_eq, take, slice_index_or, zero-add, List, [], ◌∷◌, ◌++◌, length, refl, sym, ap, ◌∙◌, arith}
use Rattle.std.specs.List.{list_any, AllByRecursion}
use Rattle.std.proofs.lemmas.Grind.{common_steps}
use Rattle.std.proofs.lemmas.List.{take_more}
use Rattle.hq_value.specs.Tables.{Definition, IsDefinition}
use Rattle.hq_bind.specs.Scope.{Defs}
use Rattle.hq_schema.specs.Numbers.{numbered, numbers, are_apart, KeepRules}

below_all : (n m : ℕ) (tables : List Definition) → n < m → list_any (nat_eq n) (numbers (numbered m tables)) ≡ false
below_all n m [] h = refl
below_all n m (t ∷ ts) h =
    let other : nat_eq n m ≡ false = grind (arith, common_steps) in
    ap (λ b. b || list_any (nat_eq n) (numbers (numbered (suc m) ts))) other ∙ below_all n (suc m) ts (omega arith)

pub numbers_apart : (n : ℕ) (tables : List Definition) → are_apart (numbered n tables) ≡ true
numbers_apart n [] = refl
numbers_apart n (t ∷ ts) = ap (λ b. not b && are_apart (numbered (suc n) ts)) (below_all n (suc n) ts (omega arith)) ∙ numbers_apart (suc n) ts

pub rules_numbered : (n : ℕ) (tables : List Definition) → AllByRecursion IsDefinition tables → KeepRules (numbered n tables)
rules_numbered n [] rules = tt
rules_numbered n (t ∷ ts) rules = (rules.0, rules_numbered (suc n) ts rules.1)

-- ---- one more

pub length-numbered : (n : ℕ) (tables : List Definition) → length (numbered n tables) ≡ length tables
length-numbered n [] = refl
length-numbered n (t ∷ ts) = ap suc (length-numbered (suc n) ts)

pub numbered_push : (n : ℕ) (tables : List Definition) (t : Definition) → numbered n (tables ++ t ∷ []) ≡ numbered n tables ++ (n + length tables, t) ∷ []
numbered_push n [] t = (let z : n ≡ n + 0 = omega arith in ap (λ k. (k, t) ∷ []) z)
numbered_push n (x ∷ xs) t =
    let z : suc n + length xs ≡ n + suc (length xs) = omega arith in
    ap (λ (ds : Defs). (n, x) ∷ ds) (numbered_push (suc n) xs t ∙ ap (λ k. numbered (suc n) xs ++ (k, t) ∷ []) z)

pub numbered_more : (tables : List Definition) (i : ℕ) (t : Definition) (old new : Defs) → i < length tables → t ≡ slice_index_or tables i t → old ≡ numbered 0 (take i tables)
    → new ≡ old ++ (length old, t) ∷ [] → new ≡ numbered 0 (take (i + 1) tables)
numbered_more tables i t old new lt read o p =
    let front = take i tables in
    let len : length old ≡ 0 + length front = ap (λ (ds : Defs). length ds) o ∙ length-numbered 0 front ∙ sym (zero-add (length front)) in
    p ∙ (λ j. o j ++ (len j, t) ∷ []) ∙ sym (numbered_push 0 front t) ∙ ap (λ z. numbered 0 (front ++ z ∷ [])) read ∙ ap (λ (ts : List Definition). numbered 0 ts) (sym (take_more tables i t lt))
