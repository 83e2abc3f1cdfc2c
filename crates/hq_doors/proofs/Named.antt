-- Files are found by their names where no two have one.
use Rattle.std.proofs.Common.{◌≡◌, ℕ, Bool, true, false, cond, List, [], ◌∷◌, Some, IsNone, sym, ◌∙◌, refl}
use Rattle.std.specs.declared.option.Option.{Option}
use Rattle.std.specs.Str.{bytes_eq}
use Rattle.std.proofs.lemmas.Bool.{false_from_ne_true}
use Rattle.std.proofs.lemmas.Slice.Eq.{bytes_eq-Decides}
use Rattle.hq_doors.specs.Memory.{PlannedFile, HaveDistinctNames, TellsEach, plan_named, file_of}

-- names that differ one way round differ the other
differ : (a b : List ℕ) → bytes_eq a b ≡ false → bytes_eq b a ≡ false
differ a b apart =
    false_from_ne_true _ (λ same. let both : true ≡ false = sym ((bytes_eq-Decides a b).1 (sym ((bytes_eq-Decides b a).0 same))) ∙ apart in cc)

-- where none is found, the first is not it, and none of the rest is
first_is_not : (b : Bool) (file : PlannedFile) (rest : Option PlannedFile) → IsNone (cond b (Some file) rest) → b ≡ false
first_is_not true file rest none = absurd cc
first_is_not false file rest none = refl

rest_is_not : (b : Bool) (file : PlannedFile) (rest : Option PlannedFile) → IsNone (cond b (Some file) rest) → IsNone rest
rest_is_not true file rest none = absurd cc
rest_is_not false file rest none = none

-- a file before them whose name is none of theirs hides none of them
TellsEach-cons : (file : PlannedFile) (files some : List PlannedFile) → IsNone (plan_named some file.name) → TellsEach (file_of files) some → TellsEach (file_of (file ∷ files)) some
TellsEach-cons file files [] none tells = tt
TellsEach-cons file files (first ∷ rest) none tells =
    let apart : bytes_eq file.name first.name ≡ false = differ first.name file.name (first_is_not _ first (plan_named rest file.name) none) in
    (rw apart tells.0, TellsEach-cons file files rest (rest_is_not (bytes_eq first.name file.name) first _ none) tells.1)

-- so each is found by its name
pub TellsEach-distinct : (files : List PlannedFile) → HaveDistinctNames files → TellsEach (file_of files) files
TellsEach-distinct [] distinct = tt
TellsEach-distinct (file ∷ files) distinct =
    let same : bytes_eq file.name file.name ≡ true = (bytes_eq-Decides file.name file.name).1 refl in
    (rw same refl, TellsEach-cons file files files distinct.0 (TellsEach-distinct files distinct.1))
