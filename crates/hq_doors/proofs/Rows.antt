-- The words of small calls, and small plans.
use Rattle.std.proofs.Common.{◌≡◌, ◌≢◌, [], ◌∷◌, Some, None, codes, refl, arith}
use Rattle.hq_doors.specs.declared.words.Command.{Command}
use Rattle.hq_doors.specs.declared.words.Command.TheVariants.{Run}
use Rattle.hq_doors.specs.FileNames.{IsFileName}
use Rattle.hq_doors.specs.Words.{IsForm}
use Rattle.hq_doors.specs.Memory.{PlannedFile, file_of}

-- `run a`
one_file : IsForm (codes "run" ∷ codes "a" ∷ []) (Run (codes "a" ∷ []))
one_file = record { file = codes "a"; is_file = λ dash. omega arith; read = refl; asked = refl }

-- neither an empty word nor one that begins with `-` is a file's name, and `a-` is one
empty_word : ¬ (IsFileName (codes ""))
empty_word h = h

dash_first : ¬ (IsFileName (codes "-a"))
dash_first h = h refl

dash_last : IsFileName (codes "a-")
dash_last dash = omega arith

-- no file, and two files
no_file : (command : Command) → ¬ (IsForm (codes "run" ∷ []) command)
no_file command h = cc

two_files : (command : Command) → ¬ (IsForm (codes "run" ∷ codes "a" ∷ codes "b" ∷ []) command)
two_files command h = cc

-- the file `a` with the bytes 7 and 8
a_file : PlannedFile
a_file = record { name = codes "a"; bytes = 7 ∷ 8 ∷ []; step = 1; reads = []; writes = [] }

-- the file `b` with no byte
b_file : PlannedFile
b_file = record { name = codes "b"; bytes = []; step = 1; reads = []; writes = [] }

-- files are found by their names
first_found : file_of (a_file ∷ b_file ∷ []) (codes "a") ≡ Some (7 ∷ 8 ∷ [])
unfolding a_file b_file
first_found = refl

second_found : file_of (a_file ∷ b_file ∷ []) (codes "b") ≡ Some []
unfolding a_file b_file
second_found = refl

none_found : file_of (a_file ∷ b_file ∷ []) (codes "ab") ≡ None
unfolding a_file b_file
none_found = refl

not_the_other : file_of (a_file ∷ b_file ∷ []) (codes "a") ≢ Some []
unfolding a_file b_file
not_the_other same = cc
