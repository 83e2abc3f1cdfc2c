-- The forms of the program's words.
use Rattle.std.specs.Prelude.{◌≡◌, ℕ, List, [], ◌∷◌, codes}
use Rattle.hq_doors.specs.declared.words.Command.{Command}
use Rattle.hq_doors.specs.declared.words.Command.TheVariants.{Run}
use Rattle.hq_doors.specs.FileNames.{IsFileName}

-- `run FILE`: one file is run
pub record IsForm (words : List (List ℕ)) (command : Command) : Type 0 where
  pub file : List ℕ
  pub is_file : IsFileName file
  pub read : words ≡ codes "run" ∷ file ∷ []
  pub asked : command ≡ Run (file ∷ [])
