-- From a session's end to what a run says of it, and the words of a run.
use Rattle.std.proofs.Common.{◌≡◌, ℕ, List, [], ◌∷◌, ◌++◌, Option, None, Some, IfSome, ap, sym, subst, ◌∙◌}
use Rattle.std.specs.Io.KnownBytes.{append_known}
use Rattle.hq_doors.specs.declared.words.Command.{Command}
use Rattle.hq_doors.specs.declared.words.Command.TheVariants as command
use Rattle.hq_doors.specs.Words.{IsForm}
use Rattle.hq_server.specs.Ending.{Ended, Serves, ServesOnto}
use Rattle.hq_server.specs.Run.{RunsFile, ServesFile}
use Rattle.hq_server.specs.declared.why.EndWhy.{EndWhy}

abbrev bytes_or : List ℕ → Option (List ℕ) → List ℕ
bytes_or xs None = xs
bytes_or xs (Some ys) = ys

-- told bytes that grew from none
grown : (first : Option (List ℕ)) (bytes more : List ℕ) → IfSome first (λ b. b ≡ []) → ◌≡◌ {A = Option (List ℕ)} (Some bytes) (append_known first more) → bytes ≡ more
grown None bytes more empty e = cc
grown (Some xs) bytes more empty e = ap (bytes_or bytes) e ∙ ap (λ x. x ++ more) empty

-- what a session wrote for a file that the doors opened
pub serves-file : (why : EndWhy) (file whole left first given : Option (List ℕ)) → IfSome file (λ bytes. whole ≡ Some bytes) → IfSome first (λ b. b ≡ []) → Ended why whole left first given → ServesFile why file left given
serves-file why None whole left first given gives empty e = tt
serves-file why (Some input) whole left first None gives empty e = tt
serves-file why (Some input) whole left first (Some bytes) gives empty e =
    let s = subst (λ w. IfSome w (ServesOnto why left first (Some bytes))) gives e.served in
    subst (λ b. Serves why input b left) (sym (grown first bytes s.0 empty s.1)) s.2

abbrev files_in : Command → List (List ℕ)
files_in (command.Run files) = files

-- the words name one file
pub same-file : (words : List (List ℕ)) (asked : Command) (name : List ℕ) → IsForm words asked → RunsFile words name → files_in asked ≡ name ∷ []
same-file words asked name form runs = ap files_in form.asked ∙ (λ i. second (sym form.read ∙ runs.read) i ∷ []) ∙ sym (ap files_in runs.asked)
  where
    nth : List (List ℕ) → List ℕ
    nth [] = []
    nth (x ∷ []) = []
    nth (x ∷ y ∷ ys) = y

    second : {a b : List ℕ} {x y : List ℕ} → ◌≡◌ {A = List (List ℕ)} (a ∷ x ∷ []) (b ∷ y ∷ []) → x ≡ y
    second e = ap nth e

-- what is a form asks for one file to be run
pub asks-file : (words : List (List ℕ)) → ((name : List ℕ) → RunsFile words name → ⊥) → (asked : Command) → IsForm words asked → ⊥
asks-file words none asked form = none form.file (subst (IsForm words) form.asked form)
