-- Words on a history.
--     entries_of history          the log
--     by k history                what session k has in it, in order
--     AllBy k history             it has nothing of another session
--     AllBelow k history          it has nothing of session k or above
--     StartsWith history first    it begins with all of `first`
--     GrewByOthers k first history    it begins so, and has nothing of session k behind that
--     StandAt history places some     these stand at these places of it
use Rattle.std.specs.Prelude.{◌≡◌, ℕ, ◌+◌, ◌≤◌, ◌<◌, List, [], ◌∷◌, ◌++◌, map, if◌then◌else◌, ◌==◌, slice_get, Some}
use Rattle.hq_value.specs.declared.entry.Entry.{Entry}
use Rattle.hq_history.specs.declared.noted.Noted.{Noted}

-- the log: the entries without their deposits
abbrev pub entries_of : List Noted → List Entry
entries_of history = map (λ (n : Noted). n.entry) history

-- what session k has in the history, in its order
abbrev pub by : ℕ → List Noted → List Noted
by k [] = []
by k (n ∷ ns) = if n.entry.session == k then (n ∷ by k ns) else by k ns

-- all entries are of session k
abbrev pub AllBy : ℕ → List Noted → Type 0
AllBy k [] = Unit {0}
AllBy k (n ∷ ns) = (n.entry.session ≡ k) × AllBy k ns

-- all entries are of sessions below k
abbrev pub AllBelow : ℕ → List Noted → Type 0
AllBelow k [] = Unit {0}
AllBelow k (n ∷ ns) = (n.entry.session < k) × AllBelow k ns

-- the history begins with all of `first`
abbrev pub StartsWith : List Noted → List Noted → Type 0
StartsWith history first = (rest : List Noted) × (history ≡ first ++ rest)

-- the history begins with all of `first`, and has nothing of session k behind that
abbrev pub GrewByOthers : ℕ → List Noted → List Noted → Type 0
GrewByOthers k first history = (between : List Noted) × (history ≡ first ++ between) × (by k between ≡ [])

-- each place is above the last one, and the first at least `from`
abbrev pub Climbs : ℕ → List ℕ → Type 0
Climbs from [] = Unit {0}
Climbs from (p ∷ ps) = (from ≤ p) × Climbs (p + 1) ps

-- these stand at these places of the history
abbrev pub StandAt : List Noted → List ℕ → List Noted → Type 0
StandAt history [] [] = Unit {0}
StandAt history (p ∷ ps) (n ∷ ns) = (slice_get history p ≡ Some n) × StandAt history ps ns
StandAt history [] (n ∷ ns) = ⊥
StandAt history (p ∷ ps) [] = ⊥
