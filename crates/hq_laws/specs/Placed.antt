-- The columns by which rows lie on the nodes.
--     homes_after way ..               by which columns rows lie after a join
--     are_placed kinds own w homes js  a side that stays where it is lies there by its keys, at each join
--     sides_stay kinds own w homes js  what of it is left to see where conditions equate the keys
--     StandByOwn own parts             the rows of a table with keys of its own are in the buckets of these
use Rattle.std.specs.Prelude.{◌≡◌, ℕ, ◌+◌, ◌==◌, Bool, true, false, not, ◌&&◌, List, [], ◌∷◌, map, length, if◌then◌else◌, IsTrue}
use Rattle.std.specs.List.{list_any, All}
use Rattle.hq_value.specs.declared.kind.Kind.{Kind}
use Rattle.hq_value.specs.Tables.{all_below}
use Rattle.hq_value.specs.Bucket.{bucket_of}
use Rattle.hq_algebra.specs.Rules.{is_empty}
use Rattle.hq_meaning.specs.Plans.{Parts}
use Rattle.hq_laws.specs.Spread.{Way, CopyRight, CopyLeft, MoveBoth, MoveLeft, MoveRight, Stay, Joining}

-- the same columns in the same order
abbrev pub same_keys : List ℕ → List ℕ → Bool
same_keys [] [] = true
same_keys (i ∷ is) (j ∷ js) = (i == j) && same_keys is js
same_keys _ _ = false

-- the rows lie by these keys, where homes are those that they are known to lie by
abbrev pub lie_by : List ℕ → List (List ℕ) → Bool
lie_by keys homes = list_any (same_keys keys) homes

-- they are the table's own keys, of which there are some
abbrev pub are_own : List ℕ → List ℕ → Bool
are_own keys own = not (is_empty own) && same_keys keys own

-- a table of v columns lies by its own keys, if it has some
abbrev pub own_homes : ℕ → List ℕ → List (List ℕ)
own_homes v own = if not (is_empty own) && all_below v own then own ∷ [] else []

-- w columns further on
abbrev pub further : ℕ → List ℕ → List ℕ
further w keys = map (λ k. w + k) keys

-- the keys by which rows lie after a join: the rows before it have w columns and lie by homes, the table has v and
-- keys of its own
abbrev pub homes_after : Way → ℕ → ℕ → List ℕ → List ℕ → List ℕ → List (List ℕ) → List (List ℕ)
homes_after CopyRight w v own lk rk homes = homes
homes_after CopyLeft w v own lk rk homes = map (further w) (own_homes v own)
homes_after MoveBoth w v own lk rk homes = lk ∷ further w rk ∷ []
homes_after MoveLeft w v own lk rk homes = lk ∷ further w rk ∷ []
homes_after MoveRight w v own lk rk homes = further w rk ∷ homes
homes_after Stay w v own lk rk homes = further w rk ∷ homes

-- a side that stays where it is lies there by the keys of the join
abbrev pub stays_by : Way → List ℕ → List ℕ → List ℕ → List (List ℕ) → Bool
stays_by MoveLeft own lk rk homes = are_own rk own
stays_by MoveRight own lk rk homes = lie_by lk homes
stays_by Stay own lk rk homes = lie_by lk homes && are_own rk own
stays_by _ own lk rk homes = true

abbrev pub is_placed : Way → ℕ → ℕ → List ℕ → List ℕ → List ℕ → List (List ℕ) → Bool
is_placed way w v own lk rk homes = (all_below w lk && all_below v rk) && stays_by way own lk rk homes

-- so it is at each join; `own` are the keys of each table by its number, none where it has none
abbrev pub are_placed : (ℕ → List Kind) → (ℕ → List ℕ) → ℕ → List (List ℕ) → List Joining → Bool
are_placed kinds own w homes [] = true
are_placed kinds own w homes (j ∷ js) = is_placed j.way w (length (kinds j.table)) (own j.table) j.left_keys j.right_keys homes
    && are_placed kinds own (w + length (kinds j.table)) (homes_after j.way w (length (kinds j.table)) (own j.table) j.left_keys j.right_keys homes) js

-- from the first table on
abbrev pub joins_are_placed : (ℕ → List Kind) → (ℕ → List ℕ) → ℕ → List Joining → Bool
joins_are_placed kinds own t js = are_placed kinds own (length (kinds t)) (own_homes (length (kinds t)) (own t)) js

-- what of it is to be seen where conditions equate the keys: only that the sides that stay lie by them
abbrev pub sides_stay : (ℕ → List Kind) → (ℕ → List ℕ) → ℕ → List (List ℕ) → List Joining → Bool
sides_stay kinds own w homes [] = true
sides_stay kinds own w homes (j ∷ js) = stays_by j.way (own j.table) j.left_keys j.right_keys homes
    && sides_stay kinds own (w + length (kinds j.table)) (homes_after j.way w (length (kinds j.table)) (own j.table) j.left_keys j.right_keys homes) js

-- the rows of a table with keys of its own are in the buckets of these
abbrev pub StandByOwn : (ℕ → List ℕ) → Parts → Type 0
StandByOwn own parts = (t b : ℕ) → IsTrue (not (is_empty (own t))) → All (λ row. bucket_of row (own t) ≡ b) (parts t b)
