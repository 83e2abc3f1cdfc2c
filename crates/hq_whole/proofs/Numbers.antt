-- The table of a number.
use Rattle.std.proofs.Common.{◌≡◌, ℕ, suc, true, List, [], ◌∷◌, length, map, Option, Some, refl, sym, ◌∙◌, ap}
use Rattle.std.specs.Option.{option_map_or}
use Rattle.hq_value.specs.Kinds.{kinds_of}
use Rattle.hq_value.specs.Tables.{Definition, IsDefinition, all_below}
use Rattle.hq_value.specs.declared.table.Column.{Column}
use Rattle.hq_whole.specs.Tables.{Defs, def_of, kinds_by, keys_by}

kinds-count : (columns : List Column) → length (kinds_of columns) ≡ length columns
kinds-count [] = refl
kinds-count (c ∷ columns) = ap suc (kinds-count columns)

pub width-there : (defs : Defs) (t : ℕ) (d : Definition) → Some d ≡ def_of defs t → length (kinds_by defs t) ≡ length d.columns
width-there defs t d e = ap (λ (o : Option Definition). length (option_map_or (λ (d : Definition). kinds_of d.columns) o [])) (sym e) ∙ kinds-count d.columns

pub keys-there : (defs : Defs) (t : ℕ) (d : Definition) → Some d ≡ def_of defs t → keys_by defs t ≡ d.keys
keys-there defs t d e = ap (λ (o : Option Definition). option_map_or (λ (d : Definition). d.keys) o []) (sym e)

pub below-there : (defs : Defs) (t : ℕ) (d : Definition) (keys : List ℕ) → Some d ≡ def_of defs t → IsDefinition d → keys ≡ d.keys → all_below (length (kinds_by defs t)) keys ≡ true
below-there defs t d keys e is k = (λ i. all_below (width-there defs t d e i) (k i)) ∙ is.keys_within
