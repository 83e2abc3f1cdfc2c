-- Two words that are a form.
use Rattle.std.proofs.Common.{◌≡◌, ◌↔◌, ◌<◌, ◌≤◌, List, [], ◌∷◌, length, get_or, map, codes, string_bytes, Result, Ok, Err, IfOk, IfErr, IsErrOf, ap, ◌∙◌, sym, subst, refl, arith}
use Rattle.std.specs.declared.string.String.{String}
use Rattle.std.specs.declared.alloc.Global.{Global}
use Rattle.hq_doors.specs.declared.words.Command.{Command}
use Rattle.hq_doors.specs.declared.words.Command.TheVariants.{Run}
use Rattle.hq_doors.specs.declared.words.WordFault.{WordFault}
use Rattle.hq_doors.specs.declared.words.WordFault.TheVariants.{Usage, NoMemory}
use Rattle.hq_doors.specs.FileNames.{IsFileName}
use Rattle.hq_doors.specs.Words.{IsForm}

-- a list of two items is its first and its second
pub two_items : {X : Type 0} (xs : List X) (a b : X) → 2 ≤ length xs → length xs < 3 → a ≡ get_or xs 0 a → b ≡ get_or xs 1 b → xs ≡ a ∷ b ∷ []
two_items [] a b least most first second = absurd (omega arith)
two_items (x ∷ []) a b least most first second = absurd (omega arith)
two_items (x ∷ y ∷ []) a b least most first second = cc
two_items (x ∷ y ∷ z ∷ zs) a b least most first second = absurd (omega arith)

-- the words `run FILE` are the form of the command that runs the file
pub run_is_form : (words : List (String Global)) (word file : String Global) → words ≡ word ∷ file ∷ [] → string_bytes word ≡ codes "run" → IsFileName (string_bytes file) → IsForm (map string_bytes words) (Run (string_bytes file ∷ []))
run_is_form words word file are run is_file = record {
  file = string_bytes file;
  is_file = is_file;
  read = ap (map string_bytes) are ∙ ap (λ first. first ∷ string_bytes file ∷ []) run;
  asked = refl;
}

-- so an answer with that command has the form
pub ok_is_form : (words : List (String Global)) (word file : String Global) (result : Result Command WordFault) → words ≡ word ∷ file ∷ [] → string_bytes word ≡ codes "run" → IsFileName (string_bytes file) → IfOk result (λ command. command ≡ Run (string_bytes file ∷ [])) → IfOk result (IsForm (map string_bytes words))
ok_is_form words word file (Ok command) are run is_file ok = let P : Command → Type 0 = IsForm (map string_bytes words) in subst P (sym ok) (run_is_form words word file are run is_file)
ok_is_form words word file (Err fault) are run is_file ok = tt

-- and it is never that the words are of no form
pub form_is_no_usage : (words : List (String Global)) (word file : String Global) (result : Result Command WordFault) → words ≡ word ∷ file ∷ [] → string_bytes word ≡ codes "run" → IsFileName (string_bytes file) → IfErr result (λ fault. fault ≡ NoMemory) → IsErrOf result Usage ↔ ((command : Command) → ¬ (IsForm (map string_bytes words) command))
form_is_no_usage words word file (Ok command) are run is_file err = (λ usage. absurd cc, λ none. absurd (none _ (run_is_form words word file are run is_file)))
form_is_no_usage words word file (Err fault) are run is_file err = (λ usage. absurd (grind arith), λ none. absurd (none _ (run_is_form words word file are run is_file)))
