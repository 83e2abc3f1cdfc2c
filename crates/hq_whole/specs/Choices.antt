-- How the sources of a query meet.
--     way_of way                        a way as the laws of plans have it
--     joinings kinds conds w steps      the steps as the laws have them, each with the guards of its table among the
--                                       conditions' members; the rows before the first one have w columns
--     first_of kinds conds t            table t as a first source
--     built_of built                    what is built so far, as the laws have it
--     stands_by w v own conds homes s   a step may be taken where the rows so far have w columns and lie by these keys
--     all_stand kinds own ..            so it is with each step
use Rattle.std.specs.Prelude.{ℕ, ◌+◌, Bool, true, false, not, ◌&&◌, ◌||◌, nat_lt, List, [], ◌∷◌, length}
use Rattle.std.specs.List.{list_any}
use Rattle.hq_value.specs.declared.kind.Kind.{Kind}
use Rattle.hq_algebra.specs.declared.expr.Expr.{Expr}
use Rattle.hq_algebra.specs.Rules.{is_empty}
use Rattle.hq_algebra.specs.Plans.{is_short}
use Rattle.hq_laws.specs.Equated.{is_place, equates, keys_equated, moves_rows}
use Rattle.hq_laws.specs.Placed.{stays_by, homes_after}
use Rattle.hq_laws.specs.Guards.{guards_of}
use Rattle.hq_laws.specs.Sources.{Source}
use Rattle.hq_laws.specs.Spread as law
use Rattle.hq_laws.specs.Spread.{Joining}
use Rattle.hq_whole.specs.declared.step.Way.{Way}
use Rattle.hq_whole.specs.declared.step.Way.TheVariants as way
use Rattle.hq_whole.specs.declared.step.Step.{Step}
use Rattle.hq_whole.specs.declared.spreading.Built.{Built}

abbrev pub way_of : Way → law.Way
way_of way.CopyRight = law.CopyRight
way_of way.CopyLeft = law.CopyLeft
way_of way.MoveBoth = law.MoveBoth
way_of way.MoveLeft = law.MoveLeft
way_of way.MoveRight = law.MoveRight
way_of way.Stay = law.Stay

-- a first source, with its guards
abbrev pub first_of : (ℕ → List Kind) → List Expr → ℕ → Source
first_of kinds conds t = record { table = t; tests = guards_of (kinds t) 0 conds }

abbrev pub joining_of : (ℕ → List Kind) → List Expr → ℕ → Step → Joining
joining_of kinds conds w s = record { table = s.table; tests = guards_of (kinds s.table) w conds; left_keys = s.left_keys; right_keys = s.right_keys; way = way_of s.way }

abbrev pub joinings : (ℕ → List Kind) → List Expr → ℕ → List Step → List Joining
joinings kinds conds w [] = []
joinings kinds conds w (s ∷ steps) = joining_of kinds conds w s ∷ joinings kinds conds (w + length (kinds s.table)) steps

abbrev pub built_of : Built → law.Built
built_of b = record { slices = b.slices; root = b.root; kinds = b.kinds }

-- some condition equates the left key with the right one
abbrev pub key_equated : ℕ → ℕ → List Expr → ℕ → ℕ → Bool
key_equated w v conds i j = nat_lt i w && (nat_lt j v && list_any (equates i (w + j)) conds)

-- one is the column i, and the other one the column j
abbrev pub are_places : ℕ → ℕ → Expr → Expr → Bool
are_places i j left right = (is_place i left && is_place j right) || (is_place j left && is_place i right)

-- conditions equate its keys, there is one where rows go by them, and a side that stays lies by them; the table has v
-- columns and keys of its own
abbrev pub stands_by : ℕ → ℕ → List ℕ → List Expr → List (List ℕ) → Step → Bool
stands_by w v own conds homes s =
    keys_equated w v conds s.left_keys s.right_keys && is_short s.left_keys && (not (moves_rows (way_of s.way)) || not (is_empty s.left_keys))
    && stays_by (way_of s.way) own s.left_keys s.right_keys homes

-- so it is with each step
abbrev pub all_stand : (ℕ → List Kind) → (ℕ → List ℕ) → List Expr → ℕ → List (List ℕ) → List Step → Bool
all_stand kinds own conds w homes [] = true
all_stand kinds own conds w homes (s ∷ steps) = stands_by w (length (kinds s.table)) (own s.table) conds homes s
    && all_stand kinds own conds (w + length (kinds s.table)) (homes_after (way_of s.way) w (length (kinds s.table)) (own s.table) s.left_keys s.right_keys homes) steps

-- a side goes to all nodes
abbrev pub copies : Way → Bool
copies way.CopyRight = true
copies way.CopyLeft = true
copies _ = false
