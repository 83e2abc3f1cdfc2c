-- What a block's first bytes say of its length.
--     size_at bytes      the number in the four bytes from place 4 on, which is how many bytes a block's body has
use Rattle.std.specs.Prelude.{ℕ, List, take, drop}
use Rattle.std.specs.Int.{from_be_bytes, w32}

-- the number in the four bytes from place 4 on, which is how many bytes a block's body has
abbrev pub size_at : List ℕ → ℕ
size_at bytes = from_be_bytes w32 (take 4 (drop 4 bytes))
