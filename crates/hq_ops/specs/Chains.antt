-- Rows chained by the hash of their keys.
--     digest value                           the hash of a value
--     number_for value                       the number that stands for a value: an Int itself, else the hash of it
--     fed hash value                         a hash with one value more
--     hash_from hash key                     the hash of a key
--     chain_by count key                     the chain of that hash, of so many
--     begins_at keys first row               where the chain of a row's key begins, where `first` has the first place of each
--     places count keys c from rows          the places of the rows of chain c, where the first has place `from`
--     row_at rows place                      the row at a place
--     Rises next                             behind each place comes a later one
--     Linked next place places               the chain from a place on has these places
--     AreChained keys rows first next from   each chain has the places of its rows from a place on
use Rattle.std.specs.Prelude.{◌≡◌, ℕ, suc, ◌<◌, ◌==◌, ◌*◌, ◌/◌, ◌%◌, ◌^◌, bit_xor, All, List, [], ◌∷◌, ◌++◌, map, length, drop, fold, get_or, if◌then◌else◌}
use Rattle.std.specs.Hash.FoldHasher as folding
use Rattle.std.specs.Int.{cast_unsigned, w64}
use Rattle.hq_value.specs.declared.value.Value.{Value}
use Rattle.hq_value.specs.declared.value.Value.TheVariants as variant
use Rattle.hq_value.specs.contracts.value.ValueHash.TheImpl as of_values
use Rattle.hq_meaning.specs.Rows.{Row}
use Rattle.hq_meaning.specs.Groups.{key_of}

-- the hash of a value
abbrev pub digest : Value → ℕ
digest value = folding.finish (fold folding.write folding.initial ((of_values.ghosts).hash_input value))

-- the number that stands for a value: an Int itself, else the hash of it
abbrev pub number_for : Value → ℕ
number_for (variant.Int n) = cast_unsigned w64 n
number_for value = digest value

-- a hash with one value more
abbrev pub fed : ℕ → Value → ℕ
fed hash value = bit_xor hash (number_for value) * 11400714819323198485 % 2 ^ 64

-- the hash of a key
abbrev pub hash_from : ℕ → Row → ℕ
hash_from hash [] = hash
hash_from hash (value ∷ key) = hash_from (fed hash value) key

-- the chain of that hash, of so many
abbrev pub chain_by : ℕ → Row → ℕ
chain_by count key = hash_from 0 key / 4294967296 % count

-- where the chain of a row's key begins, where `first` has the first place of each chain
abbrev pub begins_at : List ℕ → List ℕ → Row → ℕ
begins_at keys first row = get_or first (chain_by (length first) (key_of keys row)) 0

-- the places of the rows of chain c, where the first has place `from`
abbrev pub places : ℕ → List ℕ → ℕ → ℕ → List Row → List ℕ
places count keys c from [] = []
places count keys c from (row ∷ rows) =
    if chain_by count (key_of keys row) == c then from ∷ places count keys c (suc from) rows else places count keys c (suc from) rows

-- the row at a place
abbrev pub row_at : List Row → ℕ → Row
row_at rows place = get_or rows place []

-- behind each place comes a later one
abbrev pub Rises : List ℕ → Type 0
Rises next = (p : ℕ) → p < length next → p < get_or next p 0

-- the chain from a place on has these places: each leads to the next one, and the last one to the end
abbrev pub Linked : List ℕ → ℕ → List ℕ → Type 0
Linked next p chain = (p ∷ map (λ q. get_or next q 0) chain ≡ chain ++ length next ∷ []) × All (λ q. q < length next) chain

-- each chain has the places of its rows from a place on
pub record AreChained (keys : List ℕ) (rows : List Row) (first next : List ℕ) (from : ℕ) : Type 0 where
  pub some : 0 < length first
  pub long : length next ≡ length rows
  pub rises : Rises next
  pub chained : (c : ℕ) → c < length first → Linked next (get_or first c 0) (places (length first) keys c from (drop from rows))
