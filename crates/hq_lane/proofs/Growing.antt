-- A place grows block by block.
use Rattle.std.proofs.Common.{◌≡◌, ℕ, ◌+◌, ◌<◌, ◌≤◌, Bool, List, [], ◌++◌, length, take, drop, refl, sym, ap, subst, ◌∙◌, append-nil, append_assoc, length-append, length-drop, arith}
use Rattle.std.proofs.Math.Seq.{take-add}
use Rattle.std.proofs.lemmas.List.{drop-drop, take_all, drop_all}
use Rattle.hq_value.specs.declared.value.Value.{Value}
use Rattle.hq_value.specs.declared.kind.Kind.{Kind}
use Rattle.hq_block.specs.Block.{IsBlock, FileRows, block_bytes, fitting_a_block, pack}
use Rattle.hq_block.proofs.Files.{one_block, files_joined}
use Rattle.hq_block.proofs.Packs.{pack_step}
use Rattle.hq_lane.specs.BucketFiles.{BucketState, IsGrown, good_bytes, own_bytes}
use Rattle.hq_lane.specs.Packing.{GrewByFirst}

-- growth after growth
pub grown_more : (told : Bool) (a b c : BucketState) (xs ys : List ℕ) → IsGrown told a xs b → IsGrown told b ys c → IsGrown told a (xs ++ ys) c
grown_more told a b c xs ys first next = record {
  id = next.id ∙ first.id;
  bytes = λ t. next.bytes t ∙ ap (λ (l : List ℕ). l ++ ys) (first.bytes t) ∙ append_assoc (good_bytes a) xs ys;
  own = λ t. next.own t ∙ ap (λ (l : List ℕ). l ++ ys) (first.own t) ∙ append_assoc (own_bytes a) xs ys;
  committed = λ t. next.committed t ∙ first.committed t;
  good = omega (arith, first.good, next.good, length-append xs ys);
  base = next.base ∙ first.base;
  fresh = next.fresh ∙ first.fresh;
}

-- growth by nothing after growth
pub grown_same : (told : Bool) (a b c : BucketState) (xs : List ℕ) → IsGrown told a xs b → IsGrown told b [] c → IsGrown told a xs c
grown_same told a b c xs first next = subst (λ (l : List ℕ). IsGrown told a l c) (append-nil xs) (grown_more told a b c xs [] first next)

-- no growth
pub not_grown : (told : Bool) (p : BucketState) → IsGrown told p [] p
not_grown told p = record {
  id = refl;
  bytes = λ t. sym (append-nil (good_bytes p));
  own = λ t. sym (append-nil (own_bytes p));
  committed = λ t. refl;
  good = omega arith;
  base = refl;
  fresh = refl;
}

-- no block yet
pub grew_none : (told : Bool) (kinds : List Kind) (rows : List (List Value)) (p : BucketState) → GrewByFirst told kinds 0 rows p p
grew_none told kinds rows p = record { added = []; first = ([], tt, refl, refl); others = refl; grown = not_grown told p }

-- one block more
pub grew_more : (told : Bool) (kinds : List Kind) (count n : ℕ) (rows rest : List (List Value)) (old now new : BucketState) → GrewByFirst told kinds count rows old now
    → rest ≡ drop count rows → count < length rows → n ≡ fitting_a_block kinds rest → IsBlock kinds (take n rest) (block_bytes kinds (take n rest)) → IsGrown told now (block_bytes kinds (take n rest)) new
    → GrewByFirst told kinds (count + n) rows old new
grew_more told kinds count n rows rest old now new so_far is_rest less fits block grown =
    let some : 0 < length rest = omega (arith, ap length is_rest, length-drop count rows) in
    let more : List ℕ = block_bytes kinds (take n rest) in
    let stepped : pack kinds rest ≡ more ++ pack kinds (drop n rest) = subst (λ (m : ℕ). pack kinds rest ≡ block_bytes kinds (take m rest) ++ pack kinds (drop m rest)) (sym fits) (pack_step kinds rest some) in
    let first : take (count + n) rows ≡ take count rows ++ take n rest = take-add count n rows ∙ ap (λ (l : List (List Value)). take count rows ++ take n l) (sym is_rest) in
    let left : drop n rest ≡ drop (count + n) rows = ap (drop n) is_rest ∙ drop-drop n count rows in
    record {
      added = so_far.added ++ more;
      first = subst (FileRows kinds (so_far.added ++ more)) (sym first) (files_joined kinds so_far.added more (take count rows) (take n rest) so_far.first (one_block kinds more (take n rest) block));
      others = so_far.others ∙ ap (λ (l : List (List Value)). so_far.added ++ pack kinds l) (sym is_rest) ∙ ap (λ (l : List ℕ). so_far.added ++ l) (stepped ∙ ap (λ (l : List (List Value)). more ++ pack kinds l) left) ∙ sym (append_assoc so_far.added more (pack kinds (drop (count + n) rows)));
      grown = grown_more told old now new so_far.added more so_far.grown grown;
    }

-- all blocks
pub grew_all : (told : Bool) (kinds : List Kind) (count : ℕ) (rows : List (List Value)) (old now : BucketState) → GrewByFirst told kinds count rows old now
    → length rows ≤ count → IsGrown told old (pack kinds rows) now × FileRows kinds (pack kinds rows) rows
grew_all told kinds count rows old now so_far all =
    let whole : pack kinds rows ≡ so_far.added = so_far.others ∙ ap (λ (l : List (List Value)). so_far.added ++ pack kinds l) (drop_all count rows all) ∙ append-nil so_far.added in (
      subst (λ (l : List ℕ). IsGrown told old l now) (sym whole) so_far.grown,
      subst (λ (l : List ℕ). FileRows kinds l rows) (sym whole) (subst (FileRows kinds so_far.added) (take_all count rows all) so_far.first),
    )
