-- Rows read over more kinds.
use Rattle.std.proofs.Common.{◌≡◌, ◌∙◌, ℕ, ◌+◌, ◌-◌, ◌≤◌, List, [], ◌∷◌, ◌++◌, length, take, map, replicate, refl, sym, ap, subst, arith, append_assoc, length-append}
use Rattle.std.specs.Prelude.{flat_map}
use Rattle.std.specs.List.{AllByRecursion}
use Rattle.std.proofs.lemmas.List.{length-replicate, replicate-append-replicate, take-append-le, map-append}
use Rattle.hq_value.specs.declared.value.Value.{Value}
use Rattle.hq_value.specs.declared.value.Value.TheVariants as variant
use Rattle.hq_value.specs.declared.kind.Kind.{Kind}
use Rattle.hq_block.specs.Block.{IsBlock, IsBlockOf, FileRows, padded}

-- NULLs behind NULLs
padded-more : (width more : ℕ) (row : List Value) → width ≤ more → padded more (padded width row) ≡ padded more row
padded-more width more row less =
    let n : ℕ = width - length row in
    let long : length (row ++ replicate n variant.Null) ≡ length row + n = length-append row (replicate n variant.Null) ∙ ap (λ (m : ℕ). length row + m) (length-replicate n variant.Null) in
    let all : n + (more - length (row ++ replicate n variant.Null)) ≡ more - length row = omega (arith, long, less) in
    append_assoc row (replicate n variant.Null) (replicate (more - length (row ++ replicate n variant.Null)) variant.Null)
    ∙ ap (λ (l : List Value). row ++ l) (replicate-append-replicate n (more - length (row ++ replicate n variant.Null)) variant.Null ∙ ap (λ (m : ℕ). replicate m variant.Null) all)

rows-more : (width more : ℕ) (rows : List (List Value)) → width ≤ more → map (padded more) (map (padded width) rows) ≡ map (padded more) rows
rows-more width more [] less = refl
rows-more width more (row ∷ rows) less = λ i. padded-more width more row less i ∷ rows-more width more rows less i

pub wider_block : (kinds more : List Kind) (rows : List (List Value)) (bytes : List ℕ) → IsBlock kinds rows bytes → IsBlock (kinds ++ more) (map (padded (length (kinds ++ more))) rows) bytes
wider_block kinds more rows bytes is =
    let wide : length (kinds ++ more) ≡ length kinds + length more = length-append kinds more in
    record {
      head = is.head;
      own = is.own;
      within = omega (arith, wide, is.within);
      is = subst (λ (l : List Kind). IsBlockOf is.head l is.own bytes) (sym (take-append-le is.head.columns kinds more is.within)) is.is;
      filled = ap (map (padded (length (kinds ++ more)))) is.filled ∙ rows-more (length kinds) (length (kinds ++ more)) is.own (omega (arith, wide));
    }

-- a block's rows and bytes
abbrev Block : Type 0
Block = List (List Value) × List ℕ

wider_blocks : (kinds more : List Kind) (blocks : List Block) → AllByRecursion (λ (block : Block). IsBlock kinds block.0 block.1) blocks
    → FileRows (kinds ++ more) (flat_map (λ (block : Block). block.1) blocks) (map (padded (length (kinds ++ more))) (flat_map (λ (block : Block). block.0) blocks))
wider_blocks kinds more [] are = ([], tt, refl, refl)
wider_blocks kinds more (x ∷ xs) are =
    let wide : List (List Value) → List (List Value) = map (padded (length (kinds ++ more))) in
    let rest = wider_blocks kinds more xs are.1 in (
      (wide x.0, x.1) ∷ rest.0,
      (wider_block kinds more x.0 x.1 are.0, rest.1),
      ap (λ (l : List ℕ). x.1 ++ l) rest.2,
      map-append (padded (length (kinds ++ more))) x.0 (flat_map (λ (block : Block). block.0) xs) ∙ ap (λ (l : List (List Value)). wide x.0 ++ l) rest.3,
    )

pub wider_file : (kinds more : List Kind) (rows : List (List Value)) (bytes : List ℕ) → FileRows kinds bytes rows → FileRows (kinds ++ more) bytes (map (padded (length (kinds ++ more))) rows)
wider_file kinds more rows bytes file =
    subst (λ (b : List ℕ). FileRows (kinds ++ more) b (map (padded (length (kinds ++ more))) rows)) (sym file.2)
    (subst (λ (l : List (List Value)). FileRows (kinds ++ more) (flat_map (λ (block : Block). block.1) file.0) (map (padded (length (kinds ++ more))) l)) (sym file.3) (wider_blocks kinds more file.0 file.1))
