-- Names of files.
use Rattle.std.specs.Prelude.{◌≢◌, ℕ, List, [], ◌∷◌}

-- the byte `-`
abbrev pub dash : ℕ
dash = 45

-- a file's name is not empty and does not begin with `-`
abbrev pub IsFileName : List ℕ → Type 0
IsFileName [] = ⊥
IsFileName (first ∷ rest) = first ≢ dash
