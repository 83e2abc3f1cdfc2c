-- The columns of a table that are marked, as a table.
use Rattle.std.proofs.Common.{◌≡◌, ◌⊎◌, ℕ, ◌<◌, ◌≤◌, Bool, true, nat_eq, List, [], length, map, Some, sym, ◌∙◌, ap, subst, arith}
use Rattle.std.specs.List.{range_with_len}
use Rattle.std.proofs.lemmas.List.{length-map}
use Rattle.std.proofs.lemmas.List.FromFn.{length-range_with_len}
use Rattle.hq_value.specs.Kinds.{kinds_of}
use Rattle.hq_value.specs.Tables.{Definition, IsDefinition, are_distinct, same_names, all_below}
use Rattle.hq_value.specs.declared.table.Column.{Column}
use Rattle.hq_algebra.specs.Operators.{keys_kinds}
use Rattle.hq_narrow.specs.Narrow.{place_from}
use Rattle.hq_planner.specs.Marked.{marked}
use Rattle.hq_planner.specs.Parts.{IsPart}
use Rattle.hq_planner.proofs.Marked.{kinds-marked, length-marked, lengths-marked, map-marked, distinct-marked}

module _ (whole : Definition) (marks : List Bool) (places : List ℕ) (many : length marks ≡ length whole.columns) (there : places ≡ marked marks (range_with_len 0 (length marks))) where
  same-count : length places ≡ length (marked marks whole.columns)
  same-count = ap (λ (l : List ℕ). length l) there ∙ lengths-marked marks (range_with_len 0 (length marks)) whole.columns (length-range_with_len 0 (length marks) ∙ many)

  pub def-keeps : (name : List ℕ) (columns : List Column) (keys : List ℕ) → IsDefinition whole → 0 < length places → columns ≡ marked marks whole.columns → are_distinct nat_eq keys ≡ true → all_below (length places) keys ≡ true
      → IsDefinition (record { name = name; columns = columns; keys = keys })
  def-keeps name columns keys rules some is distinct within =
      let count : length columns ≡ length places = ap (λ (l : List Column). length l) is ∙ sym same-count in
      let few : length (marked marks whole.columns) ≤ length whole.columns = length-marked marks whole.columns in
      let most : length whole.columns ≤ 64 = rules.few in
      record {
        some = omega (arith, count, some);
        few = omega (arith, count, same-count, few, most);
        distinct = ap (are_distinct same_names) (ap (map (λ (c : Column). c.name)) is ∙ map-marked (λ (c : Column). c.name) marks whole.columns) ∙ distinct-marked same_names marks (map (λ (c : Column). c.name) whole.columns) rules.distinct;
        keys_distinct = distinct;
        keys_within = ap (λ n. all_below n keys) count ∙ within;
      }

  pub part-is : (d : Definition) → d.columns ≡ marked marks whole.columns → (ps : List ℕ) → ps ≡ places → (d.keys ≡ []) ⊎ (map (place_from ps (length whole.columns)) d.keys ≡ whole.keys)
      → IsPart (kinds_of whole.columns) whole.keys places (kinds_of d.columns) d.keys
  part-is d is ps same keys =
      let wide : length whole.columns ≡ length (kinds_of whole.columns) = sym (length-map whole.columns (λ (c : Column). c.kind)) in
      record {
        kinds_are = ap (keys_kinds (kinds_of whole.columns)) there ∙ kinds-marked (kinds_of whole.columns) marks (many ∙ wide) ∙ ap Some (sym (ap (λ (l : List Column). kinds_of l) is ∙ map-marked (λ (c : Column). c.kind) marks whole.columns));
        keys_are = subst (λ n. (d.keys ≡ []) ⊎ (map (place_from places n) d.keys ≡ whole.keys)) wide (subst (λ qs. (d.keys ≡ []) ⊎ (map (place_from qs (length whole.columns)) d.keys ≡ whole.keys)) same keys);
      }
